-- `good_among`: those below lo and the n counted are those below z; a good zone z moves to n in its turn. Assumes nothing.
use mathlib.Core.Path.{◌≡◌, ap, ◌∙◌, subst}
use mathlib.Core.Bool.{Bool}
use Prim.Native.Nat.{ℕ, ◌+◌}
use native.Mathlib.Nat.{add-zero}
use native.Mathlib.Omega.{arith}
use Rattle.spec.specs.Lists.{below, tally}
use Rattle.law_basic.specs.Geometry.{ranged, offline_within}
use Rattle.law_basic.specs.Ranges.{tally-below_hit, tally-below_miss}
use Rattle.disk_zones.specs.Empty.{zero_at, zero_good}
use Rattle.std.proofs.lemmas.Bool.{eq-eqb, ne_eqb}
use Rattle.disk_zones.proofs.good_among.Goals as goal
use Rattle.disk_zones.proofs.good_among.Goals.{then-offline-first-eq0, else-offline-first-eq0}

pub offline_at-first-requires : goal.offline_at-first-requires
offline_at-first-requires c = record { p_value = c.requires.p_value; drive_lt_n = (c.requires.offline_len.1, omega (arith, (ranged c.args.p c.requires.p_value).zones_low)) }

pub loop-z-init : goal.loop-z-init
loop-z-init c =
    let a = c.args in
    (omega arith, omega (arith, c.requires.offline_len.2), omega arith, add-zero (tally (zero_at a.offline.now c.offline_at-first.result) (below a.lo)))

pub bounds-offline-first : goal.bounds-offline-first
bounds-offline-first c =
    let l = c.loop-z in
    let a = c.args in
    omega (arith, c.offline_at-first.ensures.0, c.requires.offline_len.0, offline_within a.p a.drive l.z c.requires.offline_len.1 (omega (arith, c.requires.offline_len.3, c.loop-z-test.true)))

pub overflow_add-n : goal.overflow_add-n
overflow_add-n c =
    omega (arith, c.requires.offline_len.4)

pub loop-z-preserved : goal.loop-z-preserved
unfolding zero_at
loop-z-preserved c =
    let l = c.loop-z in
    let f : ℕ → Bool = zero_at c.args.offline.now c.offline_at-first.result in
    elim c.if-offline-first-eq0.branch [
      | then-offline-first-eq0 w ↦ (omega arith, omega arith, omega arith, omega (arith, l.invariant.3, w.n-is, tally-below_hit f l.z (eq-eqb _ 0 w.if-offline-first-eq0.true)))
      | else-offline-first-eq0 w ↦ (omega arith, omega arith, omega arith, omega (arith, l.invariant.3, w.n-is, tally-below_miss f l.z (ne_eqb _ 0 w.if-offline-first-eq0.false)))
    ]

pub overflow_cast-result : goal.overflow_cast-result
overflow_cast-result c = omega arith

pub returns : goal.returns
returns c =
    let a = c.args in
    let l = c.loop-z in
    let n : l.z ≡ a.hi = omega (arith, c.loop-z-test.false) in
    subst (λ (f : ℕ → Bool). tally f (below a.lo) + l.n ≡ tally f (below a.hi))
    (zero_good a.p a.offline.now a.drive c.offline_at-first.result c.offline_at-first.ensures.0)
    (l.invariant.3 ∙ ap (λ (k : ℕ). tally (zero_at a.offline.now c.offline_at-first.result) (below k)) n)
