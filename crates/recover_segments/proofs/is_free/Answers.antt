-- `is_free`: an offline zone is not free; of a good one the mark says. Assumes nothing.
use mathlib.Core.Path.{sym, ap, ◌∙◌}
use mathlib.Core.Bool.{Bool, false, not, ◌&&◌}
use Prim.Native.Nat.{ℕ, ◌+◌, ◌*◌}
use native.Mathlib.Omega.{arith}
use borrow.Author.Tests.{not-true, not-false}
use lib.ListN.{get_or}
use Rattle.spec.specs.Params.{offline_len}
use Rattle.recover_segments.specs.Taken.{free_in}
use Rattle.recover_segments.proofs.is_free.Goals as goal

pub returns-then-not-is_good : goal.returns-then-not-is_good
unfolding free_in
returns-then-not-is_good c =
    let a = c.args in
    sym (ap (λ (b : Bool). b && not (get_or a.marks.now (a.drive * a.p.Z + a.zone) false)) (sym c.is_good.ensures ∙ not-true c.is_good.result c.if-not-is_good.true-raw))

pub bounds-marks-offline_at : goal.bounds-marks-offline_at
unfolding offline_len
bounds-marks-offline_at c = omega (arith, c.offline_at.ensures.1, c.requires.offline_len.1)

pub returns : goal.returns
unfolding free_in
returns c =
    let a = c.args in
    ap (λ (j : ℕ). not (get_or a.marks.now j false)) c.offline_at.ensures.0
    ∙ sym (ap (λ (b : Bool). b && not (get_or a.marks.now (a.drive * a.p.Z + a.zone) false))
    (sym c.is_good.ensures ∙ not-false c.is_good.result c.if-not-is_good.false-raw))
