-- `mark_segment`: the zones of the drives below d are marked. Assumes nothing.
use mathlib.Core.Path.{refl, ap, ◌∙◌}
use mathlib.Core.Bool.{false, ◌&&◌, ◌||◌}
use Prim.Native.Nat.{ℕ, ◌+◌, ◌*◌}
use native.Mathlib.Omega.{arith}
use lib.Dec.{eqb}
use lib.ListN.{get_or}
use Rattle.recover_segments.specs.Taken.{on_start, on_more, on_all}
use Rattle.recover_segments.proofs.mark_segment.Goals as goal

pub loop-d-init : goal.loop-d-init
loop-d-init c = let a = c.args in (omega arith, refl, on_start a.p a.segment a.marks.now)

pub zone_on-requires : goal.zone_on-requires
zone_on-requires c = record { p_value = c.requires.p_value; drive_lt_n = c.loop-d-test.true }

pub mark-requires : goal.mark-requires
mark-requires c = record { p_value = c.requires.p_value; z_in_bounds = (omega (arith, c.requires.z_in_bounds, c.loop-d.invariant.1), c.loop-d-test.true) }

pub loop-d-preserved : goal.loop-d-preserved
loop-d-preserved c =
    let a = c.args in
    let l = c.loop-d in
    let m = c.mark in (
      omega (arith, c.loop-d-test.true),
      m.auto.marks ∙ l.invariant.1,
      on_more a.p a.segment l.d a.marks.now l.marks m.new.marks l.invariant.2
          (λ d z hd hz. m.ensures d z hd hz
          ∙ ap (λ (y : ℕ). get_or l.marks (d * a.p.Z + z) false || (eqb l.d d && eqb y z)) c.zone_on.ensures),
    )

pub shape_of-marks : goal.shape_of-marks
shape_of-marks c = c.loop-d.invariant.1

pub returns : goal.returns
returns c =
    let a = c.args in
    let l = c.loop-d in
    on_all a.p a.segment l.d a.marks.now l.marks (omega (arith, c.loop-d-test.false)) l.invariant.2
