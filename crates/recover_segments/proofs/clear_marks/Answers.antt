-- `clear_marks`: the first i marks are clear. Assumes nothing.
use mathlib.Core.Path.{refl, ◌∙◌}
use mathlib.Core.Bool.{false}
use Prim.Native.Nat.{◌<◌}
use native.Mathlib.Omega.{arith}
use lib.ListN.{length, length-set}
use Rattle.spec.specs.Params.{offline_len}
use Rattle.disk_gather.specs.Found.{set_more}
use Rattle.recover_segments.proofs.clear_marks.Goals as goal

pub offline_len-n-requires : goal.offline_len-n-requires
offline_len-n-requires c = c.requires.p_value

pub loop-i-init : goal.loop-i-init
loop-i-init c = (omega arith, refl, λ j l. absurd (let q : ⊥ = omega (arith, l) in q))

pub bounds-marks-i : goal.bounds-marks-i
unfolding offline_len
bounds-marks-i c = omega (arith, c.loop-i.invariant.1, c.loop-i-test.true, c.offline_len-n.ensures.0, c.requires.z_in_bounds)

pub loop-i-preserved : goal.loop-i-preserved
unfolding offline_len
loop-i-preserved c =
    let l = c.loop-i in
    let t : l.i < length l.marks = omega (arith, l.invariant.1, c.loop-i-test.true, c.offline_len-n.ensures.0, c.requires.z_in_bounds) in (
      omega (arith, c.loop-i-test.true),
      length-set l.marks l.i false ∙ l.invariant.1,
      set_more l.marks l.i false false (λ j. false) t l.invariant.2 refl,
    )

pub shape_of-marks : goal.shape_of-marks
shape_of-marks c = c.loop-i.invariant.1

pub returns : goal.returns
unfolding offline_len
returns c = λ j h. c.loop-i.invariant.2 j (omega (arith, h, c.loop-i-test.false, c.offline_len-n.ensures.0))
