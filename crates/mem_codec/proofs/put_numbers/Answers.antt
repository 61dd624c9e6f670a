-- `put_numbers`: after i turns the bytes of the first i numbers stand from at on; one turn appends those of number i. Assumes nothing.
use Rattle.std.proofs.Common.{refl, sym, ap, ap₂, ◌∙◌, ◌≡◌, ◌+◌, ◌*◌, ℕ, map, length, get_or, arith}
use Rattle.std.proofs.lemmas.List.{length-map, get_or-map}
use Rattle.spec.specs.Bytes.{to_le, splice}
use Rattle.law_basic.specs.Le.{length-to_le}
use Rattle.mem_codec.specs.Codec.{written_none, written_one, written_all, number_fits}
use Rattle.mem_codec.proofs.put_numbers.Goals as goal

pub loop-i-init : goal.loop-i-init
loop-i-init g c = let w = g.T.Number.WIDTH in written_none (to_le w) w (length-to_le w) c.args.at c.args.dst.now (map g.T.Number.value c.args.ns.now)

pub overflow_mul-WIDTH : goal.overflow_mul-WIDTH
overflow_mul-WIDTH g c = omega (arith, number_fits g.T.Number.WIDTH c.WIDTH.result (length c.args.ns.now) c.loop-i.i c.args.at (length c.args.dst.now) c.WIDTH.ensures (omega arith) c.requires)

pub overflow_add-at : goal.overflow_add-at
overflow_add-at g c = omega (arith, number_fits g.T.Number.WIDTH c.WIDTH.result (length c.args.ns.now) c.loop-i.i c.args.at (length c.args.dst.now) c.WIDTH.ensures (omega arith) c.requires)

pub write-requires : goal.write-requires
write-requires g c =
    omega (arith, number_fits g.T.Number.WIDTH c.WIDTH.result (length c.args.ns.now) c.loop-i.i c.args.at (length c.args.dst.now) c.WIDTH.ensures (omega arith) c.requires)

pub loop-i-preserved : goal.loop-i-preserved
loop-i-preserved g c =
    let l = c.loop-i in
    let a = c.args in
    let w = g.T.Number.WIDTH in
    let value = g.T.Number.value in
    let m = map value a.ns.now in
    let n = length-map a.ns.now value in
    let v : value c.index-ns-i.result ≡ get_or m l.i 0 = ap value c.index-ns-i.is ∙ sym (get_or-map value a.ns.now l.i c.index-ns-i.result 0 (omega arith)) in
    written_one (to_le w) w (length-to_le w) a.at l.i a.dst.now l.dst c.write.new.dst m (omega (arith, n))
    (number_fits w w (length a.ns.now) l.i a.at (length a.dst.now) refl (omega arith) c.requires) l.invariant
    (c.write.ensures ∙ ap₂ (λ (k : ℕ) (x : ℕ). splice l.dst (a.at + k * l.i) (to_le w x)) c.WIDTH.ensures v)

pub returns : goal.returns
returns g c =
    let w = g.T.Number.WIDTH in
    let value = g.T.Number.value in
    let l = c.loop-i in
    written_all (to_le w) w (length-to_le w) c.args.at l.i c.args.dst.now l.dst (map value c.args.ns.now) (omega (arith, length-map c.args.ns.now value)) l.invariant
