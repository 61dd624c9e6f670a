-- `checks`: `rebuild_numbers_fail`, `rebuild_lengths_fail`, `rebuild_list_fails`, `rebuild_pointers_fail` close the refusals. Assumes nothing.
use mathlib.Core.Path.{◌≡◌, sym, ap, ◌∙◌}
use mathlib.Core.Bool.{true, false}
use Prim.Native.Nat.{ℕ}
use Rattle.mem_calls.specs.Left.{passed_on, lent_short, lent_whole}
use Rattle.spec.specs.Drives.{mk_disk}
use Rattle.spec.specs.Engine.{lent_ok_of}
use Rattle.spec.specs.Faults.{pointer_faults}
use Rattle.disk_gather.specs.Ranges.{opt_first}
use Rattle.spec.specs.Memory.{mk_memory}
use Rattle.spec.specs.Params.{named}
use Rattle.law_drives.specs.Lengths.{lengths_of}
use Rattle.law_views.specs.Views.{seen}
use Rattle.call_rebuild.specs.Order.{bad_numbers, rebuild_lengths_fail, numbers_good, rebuild_numbers_fail, rebuild_list_fails, rebuild_pointers_fail, rebuild_pointers_pass}
use Rattle.law_drives.specs.Masks.{only-named}
use Rattle.call_rebuild.proofs.checks.Goals as goal
use Rattle.call_rebuild.proofs.checks.Goals.{In_ok-lent_ok, After-pointer_fault}

pub returns-then-bad_numbers : goal.returns-then-bad_numbers
returns-then-bad_numbers c = rebuild_numbers_fail _ _ _ _ _ (sym c.bad_numbers.ensures ∙ c.if-bad_numbers.true)

pub lent_ok-requires : goal.lent_ok-requires
lent_ok-requires c = (numbers_good c.args.p c.args.state.missing c.args.drive (sym c.bad_numbers.ensures ∙ c.if-bad_numbers.false)).0

pub returns-in_err-lent_ok : goal.returns-in_err-lent_ok
returns-in_err-lent_ok c =
    let h = lent_short _ _ (c.in_err-lent_ok.ensures c.args.state) in
    passed_on _ c.in_err-lent_ok.field-0.0 c.from_residual.ensures.1 ∙ h.1 ∙ rebuild_lengths_fail _ _ _ _ _ (sym c.bad_numbers.ensures ∙ c.if-bad_numbers.false) h.0

-- 1 and 2 do not hold
module _ (c : In_ok-lent_ok) where
  numbered : bad_numbers c.args.p c.args.state.missing c.args.drive ≡ false
  numbered = sym c.bad_numbers.ensures ∙ c.if-bad_numbers.false

  lent : lent_ok_of c.args.p c.args.offline.now (mk_disk c.args.image.now c.args.pointers.now) (mk_memory c.args.state c.args.addresses.now c.args.compact.now c.args.inflight.now) ≡ true
  lent = lent_whole _ (c.in_ok-lent_ok.ensures c.args.state)

pub list_rule-requires : goal.list_rule-requires
list_rule-requires c =
    let q = (goal.at.list_rule-requires c).In_ok-lent_ok in
    record { p_value = (numbers_good _ _ _ (numbered q)).0; offline_len = (lengths_of _ _ _ _ (lent q)).offline_ok }

pub returns-in_err-list_rule : goal.returns-in_err-list_rule
returns-in_err-list_rule c =
    let q = (goal.at.returns-in_err-list_rule c).In_ok-lent_ok in
    passed_on _ c.in_err-list_rule.field-0.0 c.from_residual-in_err-list_rule.ensures.1 ∙ rebuild_list_fails _ _ _ _ _ (numbered q) (lent q) _ c.in_err-list_rule.ensures

pub pointer_fault-requires : goal.pointer_fault-requires
pointer_fault-requires c =
    let q = (goal.at.pointer_fault-requires c).In_ok-lent_ok in
    let w = lengths_of _ _ _ _ (lent q) in
    record { p_value = (numbers_good _ _ _ (numbered q)).0; pointers_len = (w.pointers_ok, w.offline_ok) }

-- what is found is the first of those above
found :
    (c : After-pointer_fault) → let a = c.args in
    lent_ok_of a.p a.offline.now (mk_disk a.image.now a.pointers.now) (mk_memory a.state a.addresses.now a.compact.now a.inflight.now) ≡ true
    → c.pointer_fault.result ≡ opt_first (pointer_faults a.p (seen a.p a.offline.now (mk_disk a.image.now a.pointers.now)) (named a.drive))
found c h =
    let a = c.args in
    c.pointer_fault.ensures.first a.image.now (lengths_of _ _ _ _ h).image_ok
    ∙ ap (λ (x : ℕ). opt_first (pointer_faults a.p (seen a.p a.offline.now (mk_disk a.image.now a.pointers.now)) x)) (c.only_drive-gone.ensures ∙ only-named a.drive)

pub returns-in-Some : goal.returns-in-Some
returns-in-Some c =
    let g = goal.at.returns-in-Some c in
    let q = g.In_ok-lent_ok in
    rebuild_pointers_fail _ _ _ _ _ (numbered q) (lent q) c.in_ok-list_rule.ensures _ (sym c.in-Some.is ∙ found g.After-pointer_fault (lent q))

pub returns : goal.returns
returns c =
    let g = goal.at.returns c in
    let q = g.In_ok-lent_ok in
    rebuild_pointers_pass _ _ _ _ _ (numbered q) (lent q) c.in_ok-list_rule.ensures (sym c.in_default.is ∙ found g.After-pointer_fault (lent q))
