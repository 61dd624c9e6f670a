-- `seek`: a failed test closes its end (`read_range_fails` and so on), those passed drop off; `seek_found` settles what is left. Assumes nothing.
use Prim.Native.Nat.{ℕ}
use Rattle.mem_calls.specs.Left.{passed_on, lent_short, lent_whole}
use Rattle.spec.specs.Drives.{Disk, mk_disk, view_of}
use Rattle.spec.specs.Engine.{lent_ok_of}
use Rattle.spec.specs.Lists.{Opt}
use Rattle.spec.specs.Memory.{Memory, mk_memory, state_of, state_ok}
use Rattle.spec.specs.Params.{in_range}
use Rattle.spec.specs.Read.{lies}
use Rattle.spec.specs.declared.Answer.{Answer}
use Rattle.mem_lookup.specs.Lies.{found_of}
use Rattle.call_read.specs.Order.{found_at, read_from, read_range_fails, read_range_passes, read_lengths_fail, read_block_fails, read_lent, read_list_fails, read_listed}
use Rattle.call_read.specs.Order.{read_address_fails, read_address_passes, read_state_fails, read_state_passes}
use Rattle.call_read.specs.Placed.{Sorted, lies_sorted}
use Rattle.call_read.specs.Sought.{SeeksAll, gives_none}
use Rattle.call_write.specs.Ready.{lent_long_lem}
use Rattle.law_basic.specs.Geometry.{ranged}
use Rattle.law_drives.specs.Segs.{Here}
use Rattle.law_drives.specs.States.{state_of_lem}
use mathlib.Core.Bool.{true}
use mathlib.Core.Path.{◌≡◌, sym, ap, ◌∙◌, subst, transport}
use native.Mathlib.Omega.{arith}
use Rattle.law_drives.specs.Masks.{few_here}
use Rattle.call_read.proofs.seek.Goals as goal
use Rattle.call_read.proofs.seek.Goals.{In_ok-lent_ok, In_ok-list_rule, Else-not-state_ok}

module _ (c : In_ok-lent_ok) where
  abbrev disk_in : Disk
  disk_in = mk_disk c.args.image.now c.args.pointers.now

  abbrev memory_in : Memory
  memory_in = mk_memory (state_of c.args.state.now) c.args.addresses.now c.args.compact.now c.args.inflight.now

  -- the first check passes, and the lent buffers have their lengths
  in_range_holds : in_range c.args.p ≡ true
  in_range_holds = sym c.in_range.ensures ∙ c.if-not-in_range.false

  lent : lent_ok_of c.args.p c.args.offline.now disk_in memory_in ≡ true
  lent = lent_whole _ (c.in_ok-lent_ok.ensures memory_in.state)

module _ (c : In_ok-list_rule) where
  abbrev from : ℕ → Opt Answer
  from i = read_from c.args.p c.args.offline.now (mk_disk c.args.image.now c.args.pointers.now)
      (mk_memory (state_of c.args.state.now) c.args.addresses.now c.args.compact.now c.args.inflight.now) c.args.address.0 c.args.len i

  enough : from 4 ≡ from 0
  enough =
      read_listed _ _ _ _ _ _ (sym c.in_range.ensures ∙ c.if-not-in_range.false) (lent_whole _ (c.in_ok-lent_ok.ensures (state_of c.args.state.now))) c.if-len-p.false
      c.in_ok-list_rule.ensures

pub returns-then-not-in_range : goal.returns-then-not-in_range
returns-then-not-in_range c = record { result_value = read_range_fails _ _ _ _ _ _ (sym c.in_range.ensures ∙ c.if-not-in_range.true); gives = tt }

pub returns-in_err-lent_ok : goal.returns-in_err-lent_ok
returns-in_err-lent_ok c =
    let h = lent_short _ _ (c.in_err-lent_ok.ensures _) in record {
      result_value = passed_on _ c.in_err-lent_ok.field-0.0 c.from_residual.ensures.1 ∙ h.1 ∙ read_lengths_fail _ _ _ _ _ _ h.0
          ∙ read_range_passes _ _ _ _ _ _ (sym c.in_range.ensures ∙ c.if-not-in_range.false);
      gives = gives_none _ _ _ _ _ _ _ _ c.in_err-lent_ok.field-0.0 c.from_residual.ensures.1;
    }

pub returns-then-len-p : goal.returns-then-len-p
returns-then-len-p c =
    let q = (goal.at.returns-then-len-p c).In_ok-lent_ok in
    record { result_value = read_block_fails _ _ _ _ _ _ (lent q) c.if-len-p.true ∙ read_range_passes _ _ _ _ _ _ (in_range_holds q); gives = tt }

pub list_rule-requires-clause-offline_len : goal.list_rule-requires-clause-offline_len
list_rule-requires-clause-offline_len c = (lent_long_lem _ _ _ _ (lent (goal.at.list_rule-requires-clause-offline_len c).In_ok-lent_ok)).5

pub returns-in_err-list_rule : goal.returns-in_err-list_rule
returns-in_err-list_rule c =
    let q = (goal.at.returns-in_err-list_rule c).In_ok-lent_ok in record {
      result_value = passed_on _ c.in_err-list_rule.field-0.0 c.from_residual-in_err-list_rule.ensures.1 ∙ read_list_fails _ _ _ _ _ _ _ c.in_err-list_rule.ensures
          ∙ read_lent _ _ _ _ _ _ (in_range_holds q) (lent q) c.if-len-p.false;
      gives = gives_none _ _ _ _ _ _ _ _ c.in_err-list_rule.field-0.0 c.from_residual-in_err-list_rule.ensures.1;
    }

pub returns-then-p-address : goal.returns-then-p-address
returns-then-p-address c =
    let q = (goal.at.returns-then-p-address c).In_ok-list_rule in
    record { result_value = read_address_fails _ _ _ _ _ _ (omega (arith, c.if-p-address.true)) ∙ enough q; gives = tt }

pub returns-then-not-state_ok : goal.returns-then-not-state_ok
returns-then-not-state_ok c =
    let q = (goal.at.returns-then-not-state_ok c).In_ok-list_rule in record {
      result_value = read_state_fails _ _ _ _ _ _ (sym c.state_ok.ensures ∙ c.if-not-state_ok.true) ∙ read_address_passes _ _ _ _ _ _ (omega (arith, c.if-p-address.false)) ∙ enough q;
      gives = tt;
    }

-- what is so before the lookup
module _ (c : Else-not-state_ok) where
  state_fine : state_ok c.args.p (state_of c.args.state.now) ≡ true
  state_fine = sym c.state_ok.ensures ∙ c.if-not-state_ok.false

  present_one : in_range c.args.p ≡ true → Here c.args.p (state_of c.args.state.now).missing
  present_one ok =
      let r = ranged c.args.p ok in
      let t = state_of_lem c.args.p r (state_of c.args.state.now) state_fine in
      few_here c.args.p r (state_of c.args.state.now).missing t.missing_low t.missing_few

pub lies-f-requires : goal.lies-f-requires
lies-f-requires c =
    let q = (goal.at.lies-f-requires c).In_ok-lent_ok in
    record { p_value = in_range_holds q; addresses_len = ((lent_long_lem _ _ _ _ (lent q)).2, omega (arith, c.if-p-address.false)) }

pub invariant_of-seek_found : goal.invariant_of-seek_found
invariant_of-seek_found c =
    let q = (goal.at.invariant_of-seek_found c).In_ok-lent_ok in
    let l = lent_long_lem _ _ _ _ (lent q) in
    record { sound = in_range_holds q; whole = record { image_long = l.0; pointers_long = l.1 }; listed = l.5 }

pub seek_found-requires : goal.seek_found-requires
seek_found-requires c =
    let a = c.args in
    let g = goal.at.seek_found-requires c in
    let q = g.In_ok-lent_ok in
    let l = lent_long_lem _ _ _ _ (lent q) in
    let gone = c.missing-gone in
    record {
      here = subst (Here a.p) (sym gone.ensures) (present_one g.Else-not-state_ok (in_range_holds q));
      compact_len = (l.3, c.requires.1, subst (Sorted a.p gone.result) (sym c.lies-f.ensures) (lies_sorted a.p gone.result a.addresses.now a.address.0));
    }

pub returns : goal.returns
returns c =
    let a = c.args in
    let g = goal.at.returns c in
    let m = memory_in g.In_ok-lent_ok in
    let found = c.seek_found in
    let v = view_of a.p a.offline.now a.image.now a.pointers.now in
    let e : c.missing-gone.result ≡ m.state.missing = c.missing-gone.ensures in
    let f : found_of c.lies-f.result ≡ found_at a.p a.offline.now (disk_in g.In_ok-lent_ok) m a.address.0 a.len = c.lies-f.ensures ∙ ap (λ (x : ℕ). lies a.p x m.addresses a.address.0) e in
    let q = transport (λ j. SeeksAll a.p a.image.now v (e j) m.compact (f j) found.result found.new.bytes) found.ensures in
    record {
      result_value = q.0 ∙ read_state_passes _ _ _ _ _ _ (state_fine g.Else-not-state_ok) ∙ read_address_passes _ _ _ _ _ _ (omega (arith, c.if-p-address.false)) ∙ enough g.In_ok-list_rule;
      gives = q.1;
    }
