-- `choose`: a failed test closes its end (`nobody_fails` and so on), passed ones
-- drop off; live blocks leave `choose_copy`, none `dead_checks`. Assumes nothing.
use Rattle.mem_calls.specs.Left.{passed_on, lent_short, lent_whole}
use Rattle.std.proofs.lemmas.Result.{IfOk-from_err}
use Rattle.spec.specs.Calls.{first_refusal}
use Rattle.spec.specs.Calls.Check.{zones}
use Rattle.spec.specs.Drives.{view_of, Disk, mk_disk}
use Rattle.spec.specs.Engine.{lent_ok_of}
use Rattle.spec.specs.Lists.{is_nil}
use Rattle.spec.specs.Reclaim.{table_faults, victim, victim_live}
use Rattle.spec.specs.Lists.Opt.{some}
use Rattle.spec.specs.Memory.{Memory, mk_memory, state_of, state_faults}
use Rattle.spec.specs.Params.{in_range}
use Rattle.spec.specs.declared.Answer.TheVariants.{BadZone}
use Rattle.call_reclaim.specs.Choosing.{reclaim_refusal, later, taken, reclaim_range_fails, reclaim_range_passes, reclaim_lengths_fail, reclaim_lent}
use Rattle.call_reclaim.specs.Choosing.{reclaim_list_fails, list_done, reclaim_missing_fails, front_passes, length-nil, no_zones, nobody_fails, dead_checks}
use Rattle.call_write.specs.Ready.{lent_long_lem}
use borrow.Author.Tests.{le-leb, lt-leb}
use mathlib.Core.Bool.{Bool, true, cond}
use mathlib.Core.List.{[], ◌∷◌, ◌++◌}
use mathlib.Core.Path.{◌≡◌, sym, ap, ◌∙◌}
use native.Mathlib.Omega.{arith}
use Rattle.law_views.specs.Views.{seen}
use Rattle.call_reclaim.proofs.choose.Goals as goal
use Rattle.call_reclaim.proofs.choose.Goals.{In_ok-lent_ok, In_ok-list_rule, Else-seen-gt0}

module _ (c : In_ok-lent_ok) where
  abbrev disk_in : Disk
  disk_in = mk_disk c.args.image.now c.args.pointers.now

  abbrev memory_in : Memory
  memory_in = mk_memory (state_of c.args.bytes.now) c.args.addresses.now c.args.compact.now c.args.inflight.now

  -- 1 and 2 do not hold
  ranged : in_range c.args.p ≡ true
  ranged = sym c.in_range.ensures ∙ c.if-not-in_range.false

  lent : lent_ok_of c.args.p c.args.offline.now disk_in memory_in ≡ true
  lent = lent_whole _ (c.in_ok-lent_ok.ensures memory_in.state)

module _ (c : In_ok-list_rule) where
  abbrev disk : Disk
  disk = mk_disk c.args.image.now c.args.pointers.now

  abbrev memory : Memory
  memory = mk_memory (state_of c.args.bytes.now) c.args.addresses.now c.args.compact.now c.args.inflight.now

  -- nor do 10, the narrow 1 and 3
  passed : c.args.missing ≡ 0 → reclaim_refusal c.args.p c.args.offline.now disk memory
      ≡ later c.args.p (seen c.args.p c.args.offline.now disk) memory.state c.args.addresses.now (taken c.args.p c.args.offline.now disk memory)
  passed h =
      front_passes _ _ _ _ (sym c.in_range.ensures ∙ c.if-not-in_range.false) (lent_whole _ (c.in_ok-lent_ok.ensures memory.state)) c.in_ok-list_rule.ensures (sym c.requires.2 ∙ h)

pub returns-then-not-in_range : goal.returns-then-not-in_range
returns-then-not-in_range c = record { check_value = sym (reclaim_range_fails _ _ _ _ (sym c.in_range.ensures ∙ c.if-not-in_range.true)); chosen = tt }

pub returns-in_err-lent_ok : goal.returns-in_err-lent_ok
returns-in_err-lent_ok c =
    let h = lent_short _ _ (c.in_err-lent_ok.ensures _) in record {
      check_value = passed_on _ c.in_err-lent_ok.field-0.0 c.from_residual.ensures.1 ∙ h.1
          ∙ sym (reclaim_range_passes _ _ _ _ (sym c.in_range.ensures ∙ c.if-not-in_range.false) ∙ reclaim_lengths_fail _ _ _ _ h.0);
      chosen = IfOk-from_err c.from_residual.result _ c.from_residual.ensures.0;
    }

pub list_rule-requires-clause-offline_len : goal.list_rule-requires-clause-offline_len
list_rule-requires-clause-offline_len c = (lent_long_lem _ _ _ _ (lent (goal.at.list_rule-requires-clause-offline_len c).In_ok-lent_ok)).5

pub returns-in_err-list_rule : goal.returns-in_err-list_rule
returns-in_err-list_rule c =
    let p = (goal.at.returns-in_err-list_rule c).In_ok-lent_ok in
    let r = c.from_residual-in_err-list_rule in record {
      check_value = passed_on _ c.in_err-list_rule.field-0.0 r.ensures.1 ∙ sym (reclaim_lent _ _ _ _ (ranged p) (lent p) ∙ reclaim_list_fails _ _ _ _ _ c.in_err-list_rule.ensures);
      chosen = IfOk-from_err r.result _ r.ensures.0;
    }

pub returns-then-missing-ne0 : goal.returns-then-missing-ne0
returns-then-missing-ne0 c =
    let p = (goal.at.returns-then-missing-ne0 c).In_ok-lent_ok in record {
      check_value = sym (list_done _ _ _ _ (ranged p) (lent p) c.in_ok-list_rule.ensures ∙ reclaim_missing_fails _ _ _ _ (λ e. c.if-missing-ne0.true (c.requires.2 ∙ e)));
      chosen = tt;
    }

pub invariant_of-drives : goal.invariant_of-drives
invariant_of-drives c =
    let p = (goal.at.invariant_of-drives c).In_ok-lent_ok in
    let l = lent_long_lem _ _ _ _ (lent p) in
    record { sound = ranged p; whole = record { image_long = l.0; pointers_long = l.1 }; listed = l.5 }

pub look-seen-requires : goal.look-seen-requires
look-seen-requires c = record { addresses_len = ((lent_long_lem _ _ _ _ (lent (goal.at.look-seen-requires c).In_ok-lent_ok)).2, c.requires.3) }

pub returns-then-p-seen : goal.returns-then-p-seen
returns-then-p-seen c =
    let k = c.look-seen in
    let q = passed (goal.at.returns-then-p-seen c).In_ok-list_rule c.if-missing-ne0.false in
    record { check_value = sym (q ∙ nobody_fails _ _ _ _ _ (k.ensures.nobody ∙ le-leb c.args.p.Z k.result.zone c.if-p-seen.true)); chosen = tt }

pub choose_copy-requires : goal.choose_copy-requires
choose_copy-requires c = record {
  f_value = (c.requires.0, c.requires.1, c.requires.3);
  looked = (c.look-seen.ensures, omega (arith, c.if-p-seen.false), omega (arith, c.if-seen-gt0.true));
}

pub returns-in_err-q : goal.returns-in_err-q
returns-in_err-q c =
    let r = c.from_residual-in_err-q in
    let q = passed (goal.at.returns-in_err-q c).In_ok-list_rule c.if-missing-ne0.false in record {
      check_value = passed_on _ c.in_err-q.field-0.0 r.ensures.1 ∙ c.in_err-q.ensures.check_value ∙ sym q;
      chosen = IfOk-from_err r.result _ r.ensures.0;
    }

pub returns-then-seen-gt0 : goal.returns-then-seen-gt0
returns-then-seen-gt0 c =
    let q = passed (goal.at.returns-then-seen-gt0 c).In_ok-list_rule c.if-missing-ne0.false in
    record { check_value = c.in_ok-q.ensures.check_value ∙ sym q; chosen = c.in_ok-q.ensures.copy_at }

pub has_fault-requires : goal.has_fault-requires
has_fault-requires c = record { p_value = ranged (goal.at.has_fault-requires c).In_ok-lent_ok; bytes_len = c.requires.3 }

-- where none is live, the table and the state are left
module _ (c : Else-seen-gt0) where
  no_block : is_nil (victim_live (victim c.args.p (view_of c.args.p c.args.offline.now c.args.image.now c.args.pointers.now) c.args.addresses.now)) ≡ true
  no_block = length-nil _ (omega (arith, c.look-seen.ensures.live, c.if-seen-gt0.false))

  dead : (fault : Bool) → first_refusal (zones (state_faults c.args.p (state_of c.args.bytes.now)
      ++ table_faults c.args.p (view_of c.args.p c.args.offline.now c.args.image.now c.args.pointers.now) c.args.addresses.now ++ []) ∷ [])
      ≡ cond fault (some (BadZone 0)) (first_refusal (zones [] ∷ []))
      → later c.args.p (view_of c.args.p c.args.offline.now c.args.image.now c.args.pointers.now) (state_of c.args.bytes.now) c.args.addresses.now
      (victim c.args.p (view_of c.args.p c.args.offline.now c.args.image.now c.args.pointers.now) c.args.addresses.now)
      ≡ cond fault (some (BadZone 0)) (first_refusal (zones [] ∷ []))
  dead fault h = dead_checks _ _ _ _ _ (c.look-seen.ensures.nobody ∙ lt-leb c.args.p.Z c.look-seen.result.zone c.if-p-seen.false) no_block ∙ h

pub returns-then-has_fault : goal.returns-then-has_fault
returns-then-has_fault c =
    let g = goal.at.returns-then-has_fault c in
    let d = dead g.Else-seen-gt0 c.has_fault.result (c.has_fault.ensures _ c.args.addresses.now [] (c.look-seen.ensures.outside c.if-p-seen.false)) in
    record {
      check_value = sym (passed g.In_ok-list_rule c.if-missing-ne0.false ∙ d
          ∙ ap (λ (x : Bool). cond x (some (BadZone 0)) (first_refusal (zones [] ∷ []))) c.if-has_fault.true);
      chosen = tt;
    }

pub returns : goal.returns
returns c =
    let g = goal.at.returns c in
    let k = c.look-seen.ensures in
    let d = dead g.Else-seen-gt0 c.has_fault.result (c.has_fault.ensures _ c.args.addresses.now [] (k.outside c.if-p-seen.false)) in
    record {
      check_value = sym (passed g.In_ok-list_rule c.if-missing-ne0.false ∙ d ∙ ap (λ (x : Bool). cond x (some (BadZone 0)) (first_refusal (zones [] ∷ []))) c.if-has_fault.false ∙ no_zones);
      chosen = (no_block g.Else-seen-gt0, k.segment c.if-p-seen.false, k.zones_low c.if-p-seen.false);
    }
