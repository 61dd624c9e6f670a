-- `bad_numbers`: out of range makes the or true; else a drive below N is named (`names_low`), and above it only 255 is good (`names_high`). Assumes nothing.
use Rattle.spec.specs.Restart.{names_drive}
use Rattle.call_restart.specs.Order.{names_low, names_high}
use mathlib.Core.Bool.{Bool, not, ◌||◌}
use mathlib.Core.Path.{sym, ap, ap₂, ◌∙◌}
use native.Mathlib.Omega.{arith}
use Rattle.call_restart.proofs.bad_numbers.Goals as goal

pub returns-then-not-in_range : goal.returns-then-not-in_range
returns-then-not-in_range c =
    let args = c.args in
    sym (ap (λ (b : Bool). not b || not (names_drive args.p args.missing)) (sym c.in_range.ensures ∙ c.if-not-in_range.true))

pub returns-then-missing-p : goal.returns-then-missing-p
returns-then-missing-p c =
    let if1 = c.if-not-in_range in
    let in_range_holds = c.in_range in
    let args = c.args in
    sym (ap₂ (λ (a b : Bool). not a || not b) (sym in_range_holds.ensures ∙ if1.false) (names_low args.p args.missing c.if-missing-p.true))

pub returns : goal.returns
returns c =
    let if1 = c.if-not-in_range in
    let in_range_holds = c.in_range in
    let args = c.args in
    sym (ap₂ (λ (a b : Bool). not a || not b) (sym in_range_holds.ensures ∙ if1.false)
    (names_high args.p args.missing (omega (arith, c.if-missing-p.false))))
