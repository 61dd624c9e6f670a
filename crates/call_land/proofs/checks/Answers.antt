-- `checks`: each return is the refusal of its check behind those that pass; the state is what the bytes say. Assumes nothing.
use Rattle.mem_calls.specs.Left.{passed_on, lent_short, lent_whole}
use Rattle.std.proofs.lemmas.Result.{IfOk-from_err}
use Rattle.spec.specs.Drives.{Disk, mk_disk}
use Rattle.spec.specs.Engine.{lent_ok_of}
use Rattle.spec.specs.Landing.{slot_of, waiting}
use Rattle.spec.specs.Lists.{Opt}
use Rattle.spec.specs.Memory.{Memory, mk_memory, state_of, state_ok}
use Rattle.spec.specs.Params.{in_range}
use Rattle.spec.specs.declared.Answer.{Answer}
use Rattle.call_land.specs.Order.{land_from, land_range_fails, land_range_passes, land_lengths_fail, land_lent, land_list_fails, land_listed, land_missing_fails}
use Rattle.call_land.specs.Order.{land_missing_passes, waiting_fails, waiting_passes, land_state_fails, land_state_passes, waits_row}
use Rattle.call_land.specs.Plan.{LookedAt}
use Rattle.call_land.specs.Ready.{waits_low, filled-low}
use Rattle.call_write.specs.Ready.{lent_long_lem}
use Prim.Native.Nat.{ℕ}
use mathlib.Core.Bool.{true}
use mathlib.Core.Path.{◌≡◌, refl, sym, ◌∙◌}
use Rattle.call_land.proofs.checks.Goals as goal
use Rattle.call_land.proofs.checks.Goals.{In_ok-lent_ok, In_ok-list_rule, After-waiting, Else-not-state_ok}

module _ (c : In_ok-lent_ok) where
  abbrev disk_in : Disk
  disk_in = mk_disk c.args.image.now c.args.pointers.now

  abbrev memory_in : Memory
  memory_in = mk_memory (state_of c.args.bytes.now) c.args.addresses.now c.args.compact.now c.args.inflight.now

  -- 1 and 2 do not hold
  ranged : in_range c.args.p ≡ true
  ranged = sym c.in_range.ensures ∙ c.if-not-in_range.false

  lent : lent_ok_of c.args.p c.args.offline.now disk_in memory_in ≡ true
  lent = lent_whole _ (c.in_ok-lent_ok.ensures memory_in.state)

module _ (c : In_ok-list_rule) where
  abbrev from : ℕ → Opt Answer
  from i = land_from c.args.p c.args.offline.now (mk_disk c.args.image.now c.args.pointers.now)
      (mk_memory (state_of c.args.bytes.now) c.args.addresses.now c.args.compact.now c.args.inflight.now) c.args.drive c.args.stripe i

  -- nor do 10 and the narrow 1
  listed : from 4 ≡ from 0
  listed = land_listed _ _ _ _ _ _ (sym c.in_range.ensures ∙ c.if-not-in_range.false) (lent_whole _ (c.in_ok-lent_ok.ensures _)) c.in_ok-list_rule.ensures

  -- nor does 3
  healthy : c.args.missing ≡ 0 → from 5 ≡ from 0
  healthy h = land_missing_passes _ _ _ _ _ _ (sym c.requires.missing_value.0 ∙ h) ∙ listed

-- what the row says is what the definition says
waits_is : (c : After-waiting) → c.waiting.result ≡ waiting c.args.p (state_of c.args.bytes.now) c.args.drive c.args.stripe
waits_is c = c.waiting.ensures ∙ waits_row c.args.p (state_of c.args.bytes.now) c.args.drive c.args.stripe c.args.seen c.requires.looks

pub returns-then-not-in_range : goal.returns-then-not-in_range
returns-then-not-in_range c = record { check_value = land_range_fails _ _ _ _ _ _ (sym c.in_range.ensures ∙ c.if-not-in_range.true); target_at = tt }

pub returns-in_err-lent_ok : goal.returns-in_err-lent_ok
returns-in_err-lent_ok c =
    let h = lent_short _ _ (c.in_err-lent_ok.ensures _) in record {
      check_value = passed_on _ c.in_err-lent_ok.field-0.0 c.from_residual.ensures.1 ∙ h.1 ∙ land_lengths_fail _ _ _ _ _ _ h.0
          ∙ land_range_passes _ _ _ _ _ _ (sym c.in_range.ensures ∙ c.if-not-in_range.false);
      target_at = IfOk-from_err c.from_residual.result _ c.from_residual.ensures.0;
    }

pub list_rule-requires-clause-offline_len : goal.list_rule-requires-clause-offline_len
list_rule-requires-clause-offline_len c = (lent_long_lem _ _ _ _ (lent (goal.at.list_rule-requires-clause-offline_len c).In_ok-lent_ok)).5

pub returns-in_err-list_rule : goal.returns-in_err-list_rule
returns-in_err-list_rule c =
    let p = (goal.at.returns-in_err-list_rule c).In_ok-lent_ok in
    let r = c.from_residual-in_err-list_rule in record {
      check_value = passed_on _ c.in_err-list_rule.field-0.0 r.ensures.1 ∙ land_list_fails _ _ _ _ _ _ _ c.in_err-list_rule.ensures ∙ land_lent _ _ _ _ _ _ (ranged p) (lent p);
      target_at = IfOk-from_err r.result _ r.ensures.0;
    }

pub returns-then-missing-ne0 : goal.returns-then-missing-ne0
returns-then-missing-ne0 c = record {
  check_value = land_missing_fails _ _ _ _ _ _ (λ e. c.if-missing-ne0.true (c.requires.missing_value.0 ∙ e)) ∙ listed (goal.at.returns-then-missing-ne0 c).In_ok-list_rule;
  target_at = tt;
}

pub returns-then-not-waiting : goal.returns-then-not-waiting
returns-then-not-waiting c =
    let g = goal.at.returns-then-not-waiting c in record {
      check_value = waiting_fails _ _ _ _ _ _ (sym (waits_is g.After-waiting) ∙ c.if-not-waiting.true) ∙ healthy g.In_ok-list_rule c.if-missing-ne0.false;
      target_at = tt;
    }

pub returns-then-not-state_ok : goal.returns-then-not-state_ok
returns-then-not-state_ok c =
    let g = goal.at.returns-then-not-state_ok c in record {
      check_value = land_state_fails _ _ _ _ _ _ (sym c.state_ok.ensures ∙ c.if-not-state_ok.true)
          ∙ waiting_passes _ _ _ _ _ _ (sym (waits_is g.After-waiting) ∙ c.if-not-waiting.false) ∙ healthy g.In_ok-list_rule c.if-missing-ne0.false;
      target_at = tt;
    }

-- nor do 5 and 9, as far as the state's numbers go
module _ (c : Else-not-state_ok) where
  waits : waiting c.args.p (state_of c.args.bytes.now) c.args.drive c.args.stripe ≡ true
  waits = sym (c.waiting.ensures ∙ waits_row c.args.p (state_of c.args.bytes.now) c.args.drive c.args.stripe c.args.seen c.requires.looks) ∙ c.if-not-waiting.false

  fine : state_ok c.args.p (state_of c.args.bytes.now) ≡ true
  fine = sym c.state_ok.ensures ∙ c.if-not-state_ok.false

  looked : LookedAt c.args.p (mk_memory (state_of c.args.bytes.now) c.args.addresses.now c.args.compact.now c.args.inflight.now) c.args.addresses.now c.args.opened
      c.args.drive c.args.stripe c.args.seen
  looked =
      let st = state_of c.args.bytes.now in
      let w = waits_low c.args.p st c.args.drive c.args.stripe waits in
      record {
        addresses = refl;
        opened_is = sym c.requires.missing_value.2;
        looks = c.requires.looks;
        slot_low = w.1;
        filled-low = filled-low c.args.p st fine (slot_of st c.args.stripe) w.1;
      }

pub invariant_of-drives : goal.invariant_of-drives
invariant_of-drives c =
    let p = (goal.at.invariant_of-drives c).In_ok-lent_ok in
    let l = lent_long_lem _ _ _ _ (lent p) in
    record { sound = ranged p; whole = record { image_long = l.0; pointers_long = l.1 }; listed = l.5 }

pub zone_checks-requires : goal.zone_checks-requires
zone_checks-requires c =
    let g = goal.at.zone_checks-requires c in
    let l = lent_long_lem _ _ _ _ (lent g.In_ok-lent_ok) in
    let w = waits_low _ _ _ _ (waits g.Else-not-state_ok) in
    record { addresses_len = l.2; drive_lt_n = (w.0, (_, looked g.Else-not-state_ok)) }

pub returns : goal.returns
returns c =
    let g = goal.at.returns c in
    let n = g.Else-not-state_ok in record {
      check_value = c.zone_checks.ensures.check_value _ (looked n)
          ∙ land_state_passes _ _ _ _ _ _ (fine n) ∙ waiting_passes _ _ _ _ _ _ (waits n) ∙ healthy g.In_ok-list_rule c.if-missing-ne0.false;
      target_at = c.zone_checks.ensures.target_at _ (looked n);
    }
