-- `count_places`: k is how many of the first a addresses lie from lo up to hi, at most a; one turn adds `is_near` of the place of address a. Assumes nothing.
use Rattle.std.proofs.Common.{◌≡◌, ℕ, ◌+◌, ap, ◌∙◌, ap₂, arith}
use mir.Val.{bool_byte}
use Rattle.spec.specs.Memory.{place_at_of}
use Rattle.mem_tables.specs.Tables.{is_within, count_places, bit_le, count_no_places, count-one, count-le}
use Rattle.mem_tables.proofs.count_places.Goals as goal

pub loop-a-init : goal.loop-a-init
loop-a-init c = (count_no_places c.args.table.now c.args.lo.0 c.args.hi.0, omega arith)

pub overflow_add-k : goal.overflow_add-k
overflow_add-k c =
    let args = c.args in
    omega (arith, c.is_near-k.ensures, bit_le (is_within args.lo.0 args.hi.0 c.read_be32.result))

pub loop-a-preserved : goal.loop-a-preserved
unfolding place_at_of
loop-a-preserved c =
    let s = c.args in
    let l = c.loop-a in
    let t = s.table.now in
    let e : l.k + c.is_near-k.result ≡ count_places t (l.a + 1) s.lo.0 s.hi.0 =
    ap₂ ◌+◌ l.invariant.0 (c.is_near-k.ensures ∙ ap (λ (x : ℕ). bool_byte (is_within s.lo.0 s.hi.0 x)) c.read_be32.ensures) ∙ count-one t l.a s.lo.0 s.hi.0 in
    (e, omega (arith, count-le t (l.a + 1) s.lo.0 s.hi.0))

pub returns : goal.returns
returns c =
    let s = c.args in
    let l = c.loop-a in
    let e : l.a ≡ s.n = omega arith in
    l.invariant.0 ∙ ap (λ (x : ℕ). count_places s.table.now x s.lo.0 s.hi.0) e
