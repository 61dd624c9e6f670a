-- `stored_bad`: a good record makes the second part false; with a bad one only whether it is data stands. Assumes nothing.
use mathlib.Core.Path.{◌≡◌, refl, sym, ap, ◌∙◌}
use mathlib.Core.Bool.{Bool, true, false, ◌&&◌}
use borrow.Author.Tests.{not-true, not-false}
use Rattle.spec.specs.Faults.{stored_bad}
use Rattle.spec.specs.Layout.{is_data}
use Rattle.recover_groups.proofs.stored_bad.Goals as goal

and_no : (a : Bool) → false ≡ (a && false)
and_no true = refl
and_no false = refl

and_yes : (a : Bool) → a ≡ (a && true)
and_yes true = refl
and_yes false = refl

pub returns-then-not-bad_rec : goal.returns-then-not-bad_rec
unfolding stored_bad
returns-then-not-bad_rec c =
    let a = c.args in
    let d = is_data a.p a.r.stripe a.drive in
    and_no d ∙ sym (ap (λ (b : Bool). d && b) (sym c.bad_rec.ensures ∙ not-true c.bad_rec.result c.if-not-bad_rec.true-raw))

pub returns : goal.returns
unfolding stored_bad
returns c =
    let a = c.args in
    let if1 = c.if-not-bad_rec in
    let bad-rec = c.bad_rec in
    let d = is_data a.p a.r.stripe a.drive in
    c.is_data.ensures ∙ and_yes d ∙ sym (ap (λ (b : Bool). d && b) (sym bad-rec.ensures ∙ not-false bad-rec.result if1.false-raw))
