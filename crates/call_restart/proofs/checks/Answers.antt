-- `checks`: the laws of Order close the refusals, one for each check. Assumes nothing.
use Prim.Native.Nat.{ℕ}
use Rattle.mem_calls.specs.Left.{passed_on, lent_short, lent_whole}
use Rattle.spec.specs.Drives.{mk_disk}
use Rattle.spec.specs.Faults.{pointer_faults}
use Rattle.disk_gather.specs.Ranges.{opt_first}
use Rattle.spec.specs.Memory.{zero_state}
use Rattle.spec.specs.Params.{in_range, named}
use Rattle.spec.specs.Restart.{names_drive}
use Rattle.call_restart.specs.Order.{restart_numbers_fail, restart_lengths_fail, restart_list_fails, restart_pointers_fail, restart_pointers_pass}
use Rattle.law_drives.specs.Lengths.{lengths_of}
use Rattle.law_drives.specs.Tests.{or_first}
use Rattle.law_views.specs.Alike.{seen_offline}
use Rattle.law_views.specs.Views.{seen}
use Rattle.mem_calls.specs.Listed.{list_rule_of}
use borrow.Author.Tests.{not-false}
use mathlib.Core.Bool.{not}
use mathlib.Core.Path.{◌≡◌, sym, ap, ◌∙◌}
use Rattle.law_drives.specs.Masks.{only-named}
use Rattle.call_restart.proofs.checks.Goals as goal
use Rattle.call_restart.proofs.checks.Goals.{After-pointer_fault}

pub returns-then-bad_numbers : goal.returns-then-bad_numbers
returns-then-bad_numbers c = λ st. restart_numbers_fail _ _ _ _ (sym c.bad_numbers.ensures ∙ c.if-bad_numbers.true)

pub lent_ok-requires : goal.lent_ok-requires
lent_ok-requires c =
    let a = c.args in
    not-false (in_range a.p) (or_first (not (in_range a.p)) (not (names_drive a.p a.missing)) (sym c.bad_numbers.ensures ∙ c.if-bad_numbers.false))

pub returns-in_err-lent_ok : goal.returns-in_err-lent_ok
returns-in_err-lent_ok c = λ st.
    let h = lent_short _ _ (c.in_err-lent_ok.ensures st) in
    passed_on _ c.in_err-lent_ok.field-0.0 c.from_residual.ensures.1 ∙ h.1 ∙ restart_lengths_fail _ _ _ _ (sym c.bad_numbers.ensures ∙ c.if-bad_numbers.false) h.0

pub list_rule-requires : goal.list_rule-requires
list_rule-requires c =
    let a = c.args in record {
      p_value = not-false (in_range a.p) (or_first (not (in_range a.p)) (not (names_drive a.p a.missing)) (sym c.bad_numbers.ensures ∙ c.if-bad_numbers.false));
      offline_len = (lengths_of _ _ _ _ (lent_whole _ (c.in_ok-lent_ok.ensures zero_state))).offline_ok;
    }

pub returns-in_err-list_rule : goal.returns-in_err-list_rule
returns-in_err-list_rule c = λ st.
    let a = c.args in
    let o = ap (list_rule_of a.p) (sym (seen_offline a.p a.offline.now (mk_disk a.image.now a.pointers.now))) in
    passed_on _ c.in_err-list_rule.field-0.0 c.from_residual-in_err-list_rule.ensures.1
    ∙ restart_list_fails _ _ _ _ (sym c.bad_numbers.ensures ∙ c.if-bad_numbers.false) (lent_whole _ (c.in_ok-lent_ok.ensures st)) _ (c.in_err-list_rule.ensures ∙ o)

pub pointer_fault-requires : goal.pointer_fault-requires
pointer_fault-requires c =
    let a = c.args in
    let f = lengths_of _ _ _ _ (lent_whole _ (c.in_ok-lent_ok.ensures zero_state)) in record {
      p_value = not-false (in_range a.p) (or_first (not (in_range a.p)) (not (names_drive a.p a.missing)) (sym c.bad_numbers.ensures ∙ c.if-bad_numbers.false));
      pointers_len = (f.pointers_ok, f.offline_ok);
    }

-- what is found is the first of those above
found :
    (c : After-pointer_fault) → let a = c.args in
    c.pointer_fault.result ≡ opt_first (pointer_faults a.p (seen a.p a.offline.now (mk_disk a.image.now a.pointers.now)) (named a.missing))
found c =
    let a = c.args in
    c.pointer_fault.ensures.first a.image.now (lengths_of _ _ _ _ (lent_whole _ (c.in_ok-lent_ok.ensures zero_state))).image_ok
    ∙ ap (λ (y : ℕ). opt_first (pointer_faults a.p (seen a.p a.offline.now (mk_disk a.image.now a.pointers.now)) y)) (c.only_drive-gone.ensures ∙ only-named a.missing)

pub returns-in-Some : goal.returns-in-Some
returns-in-Some c = λ st.
    let a = c.args in
    let o = ap (list_rule_of a.p) (sym (seen_offline a.p a.offline.now (mk_disk a.image.now a.pointers.now))) in
    restart_pointers_fail _ _ _ _ (sym c.bad_numbers.ensures ∙ c.if-bad_numbers.false) (lent_whole _ (c.in_ok-lent_ok.ensures st)) (c.in_ok-list_rule.ensures ∙ o) _
    (sym c.in-Some.is ∙ found (goal.at.returns-in-Some c).After-pointer_fault)

pub returns : goal.returns
returns c = λ st.
    let a = c.args in
    let o = ap (list_rule_of a.p) (sym (seen_offline a.p a.offline.now (mk_disk a.image.now a.pointers.now))) in
    restart_pointers_pass _ _ _ _ (sym c.bad_numbers.ensures ∙ c.if-bad_numbers.false) (lent_whole _ (c.in_ok-lent_ok.ensures st)) (c.in_ok-list_rule.ensures ∙ o)
    (sym c.in_default.is ∙ found (goal.at.returns c).After-pointer_fault)
