-- `lost_data`: a present drive makes the first part false; with a missing one only whether it is data stands. Assumes nothing.
use mathlib.Core.Path.{sym, ap, ◌∙◌}
use mathlib.Core.Bool.{Bool, ◌&&◌}
use borrow.Author.Tests.{not-true, not-false}
use Rattle.spec.specs.Layout.{is_data}
use Rattle.recover_survey.proofs.lost_data.Goals as goal

pub returns-then-not-has_drive : goal.returns-then-not-has_drive
returns-then-not-has_drive c =
    let a = c.args in
    sym (ap (λ (x : Bool). x && is_data a.p a.s a.drive) (sym c.has_drive.ensures ∙ not-true c.has_drive.result c.if-not-has_drive.true-raw))

pub returns : goal.returns
returns c =
    let a = c.args in
    let has-drive = c.has_drive in
    c.is_data.ensures ∙ sym (ap (λ (x : Bool). x && is_data a.p a.s a.drive) (sym has-drive.ensures ∙ not-false has-drive.result c.if-not-has_drive.false-raw))
