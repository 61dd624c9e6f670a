-- `checks`: a failed test closes its end (`close_range_fails` and so on), the passed ones
-- before it drop off; if zones are scarce, `scarce_checks` is the rest. Assumes nothing.
use Rattle.call_close.specs.Order.{close_from, close_range_fails, close_range_passes, close_lengths_fail, close_list_fails, close_lent, close_listed}
use Rattle.call_close.specs.Order.{close_missing_fails, close_missing_passes, filling_fails, scarce_last, close_state_fails, close_state_passes}
use Rattle.spec.specs.Drives.{Disk, mk_disk}
use Rattle.spec.specs.Engine.{lent_ok_of}
use Rattle.spec.specs.Lists.{Opt}
use Rattle.spec.specs.declared.Answer.{Answer}
use Prim.Native.Nat.{ℕ}
use Rattle.spec.specs.Memory.{Memory, mk_memory, has_filling, state_of}
use Rattle.spec.specs.Params.{in_range}
use Rattle.spec.specs.Write.{scarce}
use Rattle.call_close.specs.Ready.{slot_is}
use Rattle.call_write.specs.Ready.{lent_long_lem}
use Rattle.law_views.specs.Views.{seen}
use Rattle.mem_calls.specs.Left.{passed_on, lent_short, lent_whole}
use mathlib.Core.Bool.{true}
use mathlib.Core.Path.{◌≡◌, sym, ◌∙◌}
use native.Mathlib.Omega.{arith}
use Rattle.call_close.proofs.checks.Goals as goal
use Rattle.call_close.proofs.checks.Goals.{In_ok-lent_ok, In_ok-list_rule, After-is_slot, After-scarce}

module _ (c : In_ok-lent_ok) where
  abbrev disk_in : Disk
  disk_in = mk_disk c.args.image.now c.args.pointers.now

  abbrev memory_in : Memory
  memory_in = mk_memory (state_of c.args.bytes.now) c.args.addresses.now c.args.compact.now c.args.inflight.now

  -- 1 and 2 do not hold
  ranged : in_range c.args.p ≡ true
  ranged = sym c.in_range.ensures ∙ c.if-not-in_range.false

  lent : lent_ok_of c.args.p c.args.offline.now disk_in memory_in ≡ true
  lent = lent_whole _ (c.in_ok-lent_ok.ensures memory_in.state)

module _ (c : In_ok-list_rule) where
  abbrev from : ℕ → Opt Answer
  from i = close_from c.args.p c.args.offline.now (mk_disk c.args.image.now c.args.pointers.now) (mk_memory (state_of c.args.bytes.now) c.args.addresses.now c.args.compact.now c.args.inflight.now) i

  -- nor do 10 and the narrow 1
  listed : from 4 ≡ from 0
  listed = close_listed _ _ _ _ (sym c.in_range.ensures ∙ c.if-not-in_range.false) (lent_whole _ (c.in_ok-lent_ok.ensures _)) c.in_ok-list_rule.ensures

  -- nor does 3
  healthy : c.args.missing ≡ 0 → from 5 ≡ from 0
  healthy h = close_missing_passes _ _ _ _ (sym c.requires.1 ∙ h) ∙ listed

pub returns-then-not-in_range : goal.returns-then-not-in_range
returns-then-not-in_range c = close_range_fails _ _ _ _ (sym c.in_range.ensures ∙ c.if-not-in_range.true)

pub returns-in_err-lent_ok : goal.returns-in_err-lent_ok
returns-in_err-lent_ok c =
    let h = lent_short _ _ (c.in_err-lent_ok.ensures _) in
    passed_on _ c.in_err-lent_ok.field-0.0 c.from_residual.ensures.1 ∙ h.1 ∙ close_lengths_fail _ _ _ _ h.0 ∙ close_range_passes _ _ _ _ (sym c.in_range.ensures ∙ c.if-not-in_range.false)

pub list_rule-requires-clause-offline_len : goal.list_rule-requires-clause-offline_len
list_rule-requires-clause-offline_len c = (lent_long_lem _ _ _ _ (lent (goal.at.list_rule-requires-clause-offline_len c).In_ok-lent_ok)).5

pub returns-in_err-list_rule : goal.returns-in_err-list_rule
returns-in_err-list_rule c =
    let p = (goal.at.returns-in_err-list_rule c).In_ok-lent_ok in
    passed_on _ c.in_err-list_rule.field-0.0 c.from_residual-in_err-list_rule.ensures.1 ∙ close_list_fails _ _ _ _ _ c.in_err-list_rule.ensures ∙ close_lent _ _ _ _ (ranged p) (lent p)

pub returns-then-missing-ne0 : goal.returns-then-missing-ne0
returns-then-missing-ne0 c = close_missing_fails _ _ _ _ (λ e. c.if-missing-ne0.true (c.requires.1 ∙ e)) ∙ listed (goal.at.returns-then-missing-ne0 c).In_ok-list_rule

-- whether a stripe is filling
filling_is : (c : After-is_slot) → has_filling c.args.p (state_of c.args.bytes.now) ≡ c.is_slot.result
filling_is c = sym (slot_is c.args.p (state_of c.args.bytes.now) c.args.slot c.requires.0) ∙ sym c.is_slot.ensures

pub returns-then-not-is_slot : goal.returns-then-not-is_slot
returns-then-not-is_slot c =
    let g = goal.at.returns-then-not-is_slot c in
    filling_fails _ _ _ _ (filling_is g.After-is_slot ∙ c.if-not-is_slot.true) ∙ healthy g.In_ok-list_rule c.if-missing-ne0.false

pub scarce-requires : goal.scarce-requires
scarce-requires c =
    let p = (goal.at.scarce-requires c).In_ok-lent_ok in
    let l = lent_long_lem _ _ _ _ (lent p) in record { p_value = ranged p; pointers_len = (l.1, l.5, omega arith) }

scarce_is : (c : After-scarce) → lent_ok_of c.args.p c.args.offline.now (mk_disk c.args.image.now c.args.pointers.now)
    (mk_memory (state_of c.args.bytes.now) c.args.addresses.now c.args.compact.now c.args.inflight.now) ≡ true
    → scarce c.args.p (seen c.args.p c.args.offline.now (mk_disk c.args.image.now c.args.pointers.now)) 1 ≡ c.scarce.result
scarce_is c h = sym (c.scarce.ensures c.args.image.now (lent_long_lem _ _ _ _ h).0)

pub invariant_of-scarce_checks : goal.invariant_of-scarce_checks
invariant_of-scarce_checks c =
    let q = (goal.at.invariant_of-scarce_checks c).In_ok-lent_ok in
    let l = lent_long_lem _ _ _ _ (lent q) in
    record { sound = ranged q; whole = record { image_long = l.0; pointers_long = l.1 }; listed = l.5 }

pub scarce_checks-requires : goal.scarce_checks-requires
scarce_checks-requires c = record { addresses_len = ((lent_long_lem _ _ _ _ (lent (goal.at.scarce_checks-requires c).In_ok-lent_ok)).2, c.requires.2) }

pub returns-then-scarce : goal.returns-then-scarce
returns-then-scarce c =
    let g = goal.at.returns-then-scarce c in
    c.scarce_checks.ensures ∙ scarce_last _ _ _ _ (filling_is g.After-is_slot ∙ c.if-not-is_slot.false) (scarce_is g.After-scarce (lent g.In_ok-lent_ok) ∙ c.if-scarce.true)
    ∙ healthy g.In_ok-list_rule c.if-missing-ne0.false

pub returns-then-not-state_ok : goal.returns-then-not-state_ok
returns-then-not-state_ok c =
    let g = goal.at.returns-then-not-state_ok c in
    close_state_fails _ _ _ _ (filling_is g.After-is_slot ∙ c.if-not-is_slot.false) (scarce_is g.After-scarce (lent g.In_ok-lent_ok) ∙ c.if-scarce.false)
    (sym c.state_ok.ensures ∙ c.if-not-state_ok.true) ∙ healthy g.In_ok-list_rule c.if-missing-ne0.false

pub returns : goal.returns
returns c =
    let g = goal.at.returns c in
    close_state_passes _ _ _ _ (filling_is g.After-is_slot ∙ c.if-not-is_slot.false) (scarce_is g.After-scarce (lent g.In_ok-lent_ok) ∙ c.if-scarce.false)
    (sym c.state_ok.ensures ∙ c.if-not-state_ok.false) ∙ healthy g.In_ok-list_rule c.if-missing-ne0.false
