-- `mark`: a number at or above Z changes nothing, another sets its mark. Assumes nothing.
use mathlib.Core.Path.{ap, ◌∙◌}
use mathlib.Core.Bool.{true, false}
use Prim.Native.Nat.{ℕ, ◌+◌, ◌*◌}
use native.Mathlib.Omega.{arith}
use lib.ListN.{get_or, set}
use Rattle.spec.specs.Params.{offline_len}
use Rattle.recover_segments.specs.Taken.{mark_set, taken_mark_none}
use Rattle.recover_segments.proofs.mark.Goals as goal

pub returns-then-p-zone : goal.returns-then-p-zone
returns-then-p-zone c =
    let a = c.args in
    λ d z hd hz. taken_mark_none a.p a.marks.now a.drive a.zone d z c.if-p-zone.true hz

pub bounds-marks-at : goal.bounds-marks-at
unfolding offline_len
bounds-marks-at c = omega (arith, c.offline_at-at.ensures.1, c.requires.z_in_bounds.0)

pub returns : goal.returns
returns c =
    let a = c.args in
    λ d z hd hz. ap (λ (j : ℕ). get_or (set a.marks.now j true) (d * a.p.Z + z) false) c.offline_at-at.ensures.0
    ∙ mark_set a.p a.marks.now a.drive a.zone d z c.requires.z_in_bounds.0 c.requires.z_in_bounds.1 (omega (arith, c.if-p-zone.false)) hd hz
