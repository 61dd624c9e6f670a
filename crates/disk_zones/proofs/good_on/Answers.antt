-- `good_on`: n are the good zones below z. At most of them all are no fewer (`tally_grows`); at z = Z they are all. Assumes nothing.
use mathlib.Core.Path.{◌≡◌, refl, ap, ◌∙◌}
use mathlib.Core.Bool.{Bool}
use Prim.Native.Nat.{ℕ, min}
use native.Mathlib.Omega.{arith}
use Rattle.spec.specs.Drives.{is_good}
use Rattle.spec.specs.Lists.{below, up_from, keep, tally}
use Rattle.law_basic.specs.Geometry.{ranged}
use Rattle.law_basic.specs.Ranges.{tally-le}
use Rattle.disk_zones.specs.Empty.{tally_grows}
use Rattle.disk_zones.proofs.good_on.Goals as goal

pub loop-z-init : goal.loop-z-init
unfolding tally below up_from keep
loop-z-init c = (omega arith, refl)

pub returns-then-most-n : goal.returns-then-most-n
returns-then-most-n c =
    let a = c.args in
    let l = c.loop-z in
    omega (arith, l.invariant.1, c.if-most-n.true, tally_grows (is_good a.p a.offline.now a.drive) l.z a.p.Z l.invariant.0)

pub overflow_add-z : goal.overflow_add-z
overflow_add-z c =
    omega (arith, c.loop-z.invariant.0, (ranged c.args.p c.requires.p_value).zones_high)

pub good_among-n-requires : goal.good_among-n-requires
good_among-n-requires c =
    let l = c.loop-z in
    let e = c.min-end.ensures in record {
      p_value = c.requires.p_value;
      offline_len =
          (c.requires.offline_len.0, c.requires.offline_len.1, omega (arith, e, l.invariant.0), omega (arith, e), omega (arith, e));
    }

-- at most Z are counted
pub overflow_add-n : goal.overflow_add-n
overflow_add-n c =
    let a = c.args in
    let l = c.loop-z in
    let f : ℕ → Bool = is_good a.p a.offline.now a.drive in
    omega (arith, l.invariant.1, c.good_among-n.ensures, tally-le f c.min-end.result, c.min-end.ensures, (ranged a.p c.requires.p_value).zones_high)

pub loop-z-smaller : goal.loop-z-smaller
loop-z-smaller c = omega (arith, c.min-end.ensures)

pub loop-z-preserved : goal.loop-z-preserved
loop-z-preserved c = (omega (arith, c.min-end.ensures), omega (arith, c.loop-z.invariant.1, c.good_among-n.ensures))

pub returns : goal.returns
returns c =
    let a = c.args in
    let l = c.loop-z in
    let z : l.z ≡ a.p.Z = omega (arith, c.loop-z-test.false) in
    c.min.ensures ∙ ap (min a.most) (l.invariant.1 ∙ ap (λ (k : ℕ). tally (is_good a.p a.offline.now a.drive) (below k)) z)
