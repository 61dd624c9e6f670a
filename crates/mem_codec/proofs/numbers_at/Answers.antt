-- `numbers_at`: out is the first i numbers, then what it held at first; one turn puts number i. Assumes nothing.
use Rattle.std.proofs.Common.{ap, ◌∙◌, ◌≡◌, ℕ, ◌+◌, ◌*◌, map, replicate, length, length-set, arith}
use Rattle.std.proofs.lemmas.List.{length-map, length-replicate, map-set}
use Rattle.spec.specs.Bytes.{le_of, part}
use Rattle.mem_codec.specs.Codec.{read_none, read_one, read_all, number_fits}
use Rattle.mem_codec.proofs.numbers_at.Goals as goal

pub loop-i-init : goal.loop-i-init
loop-i-init g c = (length-replicate g.row.N c.default-out.result, read_none g.T.Number.WIDTH c.args.at c.args.src.now (map g.T.Number.value (replicate g.row.N c.default-out.result)))

pub overflow_mul-WIDTH : goal.overflow_mul-WIDTH
overflow_mul-WIDTH g c = omega (arith, number_fits g.T.Number.WIDTH c.WIDTH.result g.row.N c.loop-i.i c.args.at (length c.args.src.now) c.WIDTH.ensures (omega arith) c.requires)

pub overflow_add-at : goal.overflow_add-at
overflow_add-at g c = omega (arith, number_fits g.T.Number.WIDTH c.WIDTH.result g.row.N c.loop-i.i c.args.at (length c.args.src.now) c.WIDTH.ensures (omega arith) c.requires)

pub read-requires : goal.read-requires
read-requires g c = number_fits g.T.Number.WIDTH c.WIDTH.result g.row.N c.loop-i.i c.args.at (length c.args.src.now) c.WIDTH.ensures (omega arith) c.requires

pub loop-i-preserved : goal.loop-i-preserved
loop-i-preserved g c =
    let l = c.loop-i in
    let a = c.args in
    let w = g.T.Number.WIDTH in
    let value = g.T.Number.value in
    let z = map value (replicate g.row.N c.default-out.result) in
    let n : length z ≡ g.row.N = length-map (replicate g.row.N c.default-out.result) value ∙ length-replicate g.row.N c.default-out.result in
    let v = c.read.result in
    let e : value v ≡ le_of (part (a.at + w * l.i) w a.src.now) = c.read.ensures ∙ ap (λ (k : ℕ). le_of (part (a.at + k * l.i) w a.src.now)) c.WIDTH.ensures in (
      simp length-set l.invariant.0,
      map-set value l.out l.i v ∙ read_one w a.at l.i a.src.now z (map value l.out) (value v) (omega arith) l.invariant.1 e,
    )

pub returns : goal.returns
returns g c =
    let l = c.loop-i in
    let value = g.T.Number.value in
    let z = replicate g.row.N c.default-out.result in
    read_all g.T.Number.WIDTH c.args.at l.i g.row.N c.args.src.now (map value z) (map value l.out) (omega arith)
    (length-map z value ∙ length-replicate g.row.N c.default-out.result) l.invariant.1
