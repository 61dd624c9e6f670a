-- `checks`: a failed test closes its end (`empty_range_fails` and so on), the passed ones before it drop off; 3 and 4 are `later_checks`. Assumes nothing.
use Prim.Native.Nat.{ℕ}
use Rattle.call_empty.specs.Order.{empty_third_holds, empty_range_fails, empty_range_passes, empty_lengths_fail, empty_list_fails, empty_sized, empty_listed, empty_third}
use Rattle.call_write.specs.Ready.{lent_long_lem}
use Rattle.mem_calls.specs.Left.{passed_on, lent_short, lent_whole}
use Rattle.spec.specs.Memory.{zero_state}
use mathlib.Core.Path.{sym, ap, ◌∙◌}
use Rattle.call_empty.proofs.checks.Goals as goal

pub returns-then-not-in_range : goal.returns-then-not-in_range
returns-then-not-in_range c = λ st e. empty_range_fails _ _ _ _ _ (sym c.in_range.ensures ∙ c.if-not-in_range.true)

pub returns-in_err-lent_ok : goal.returns-in_err-lent_ok
returns-in_err-lent_ok c = λ st e.
    let h = lent_short _ _ (c.in_err-lent_ok.ensures st) in
    passed_on _ c.in_err-lent_ok.field-0.0 c.from_residual.ensures.1 ∙ h.1 ∙ empty_lengths_fail _ _ _ _ _ h.0 ∙ empty_range_passes _ _ _ _ _ (sym c.in_range.ensures ∙ c.if-not-in_range.false)

pub list_rule-requires-clause-offline_len : goal.list_rule-requires-clause-offline_len
list_rule-requires-clause-offline_len c = (lent_long_lem _ _ _ _ (lent_whole _ (c.in_ok-lent_ok.ensures zero_state))).5

pub returns-in_err-list_rule : goal.returns-in_err-list_rule
returns-in_err-list_rule c = λ st e.
    passed_on _ c.in_err-list_rule.field-0.0 c.from_residual-in_err-list_rule.ensures.1 ∙ empty_list_fails _ _ _ _ _ _ c.in_err-list_rule.ensures
    ∙ empty_sized _ _ _ _ _ (sym c.in_range.ensures ∙ c.if-not-in_range.false) (lent_whole _ (c.in_ok-lent_ok.ensures st))

pub returns : goal.returns
returns c = λ st e.
    let a = c.args in
    c.later_checks.ensures ∙ ap (λ (x : ℕ). empty_third_holds x a.p.L a.address.0) (sym e) ∙ empty_third _ _ _ _ _
    ∙ empty_listed _ _ _ _ _ (sym c.in_range.ensures ∙ c.if-not-in_range.false) (lent_whole _ (c.in_ok-lent_ok.ensures st)) c.in_ok-list_rule.ensures
