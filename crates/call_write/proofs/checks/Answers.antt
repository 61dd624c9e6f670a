-- `checks`: each return is the refusal of its check behind those that pass; the state is what the bytes say. Assumes nothing.
use Rattle.spec.specs.Drives.{Disk, mk_disk}
use Rattle.spec.specs.Engine.{lent_ok_of}
use Rattle.spec.specs.Lists.{Opt}
use Rattle.spec.specs.Memory.{Memory, mk_memory, state_of}
use Rattle.spec.specs.Params.{in_range}
use Rattle.spec.specs.declared.Answer.{Answer}
use Rattle.call_write.specs.Order.{write_from, write_range_fails, write_range_passes, write_lengths_fail, write_block_fails, write_list_fails, write_lent, write_listed}
use Rattle.call_write.specs.Order.{write_missing_fails, write_missing_passes, write_address_fails, write_address_passes}
use Rattle.call_write.specs.Ready.{lent_long_lem}
use Rattle.mem_calls.specs.Left.{passed_on, lent_short, lent_whole}
use Prim.Native.Nat.{ℕ}
use mathlib.Core.Bool.{true}
use mathlib.Core.Path.{◌≡◌, sym, ◌∙◌}
use native.Mathlib.Omega.{arith}
use Rattle.call_write.proofs.checks.Goals as goal
use Rattle.call_write.proofs.checks.Goals.{In_ok-lent_ok, In_ok-list_rule}

module _ (c : In_ok-lent_ok) where
  abbrev disk_in : Disk
  disk_in = mk_disk c.args.image.now c.args.pointers.now

  abbrev memory_in : Memory
  memory_in = mk_memory (state_of c.args.bytes.now) c.args.addresses.now c.args.compact.now c.args.inflight.now

  -- 1 and 2 do not hold, as far as the lent buffers go
  ranged : in_range c.args.p ≡ true
  ranged = sym c.in_range.ensures ∙ c.if-not-in_range.false

  lent : lent_ok_of c.args.p c.args.offline.now disk_in memory_in ≡ true
  lent = lent_whole _ (c.in_ok-lent_ok.ensures memory_in.state)

module _ (c : In_ok-list_rule) where
  -- the first refusal from the i-th check on
  abbrev from : ℕ → Opt Answer
  from i = write_from c.args.p c.args.offline.now (mk_disk c.args.image.now c.args.pointers.now)
      (mk_memory (state_of c.args.bytes.now) c.args.addresses.now c.args.compact.now c.args.inflight.now) c.args.address.0 c.args.block.now i

  -- nor do 10 and the narrow 1
  listed : from 4 ≡ from 0
  listed = write_listed _ _ _ _ _ _ (sym c.in_range.ensures ∙ c.if-not-in_range.false) (lent_whole _ (c.in_ok-lent_ok.ensures _)) c.if-block-p.false c.in_ok-list_rule.ensures

pub returns-then-not-in_range : goal.returns-then-not-in_range
returns-then-not-in_range c = write_range_fails _ _ _ _ _ _ (sym c.in_range.ensures ∙ c.if-not-in_range.true)

pub returns-in_err-lent_ok : goal.returns-in_err-lent_ok
returns-in_err-lent_ok c =
    let h = lent_short _ _ (c.in_err-lent_ok.ensures _) in
    passed_on _ c.in_err-lent_ok.field-0.0 c.from_residual.ensures.1 ∙ h.1 ∙ write_lengths_fail _ _ _ _ _ _ h.0
    ∙ write_range_passes _ _ _ _ _ _ (sym c.in_range.ensures ∙ c.if-not-in_range.false)

pub returns-then-block-p : goal.returns-then-block-p
returns-then-block-p c =
    let p = (goal.at.returns-then-block-p c).In_ok-lent_ok in
    write_block_fails _ _ _ _ _ _ (lent p) c.if-block-p.true ∙ write_range_passes _ _ _ _ _ _ (ranged p)

pub list_rule-requires-clause-offline_len : goal.list_rule-requires-clause-offline_len
list_rule-requires-clause-offline_len c = (lent_long_lem _ _ _ _ (lent (goal.at.list_rule-requires-clause-offline_len c).In_ok-lent_ok)).5

pub returns-in_err-list_rule : goal.returns-in_err-list_rule
returns-in_err-list_rule c =
    let p = (goal.at.returns-in_err-list_rule c).In_ok-lent_ok in
    passed_on _ c.in_err-list_rule.field-0.0 c.from_residual-in_err-list_rule.ensures.1 ∙ write_list_fails _ _ _ _ _ _ _ c.in_err-list_rule.ensures
    ∙ write_lent _ _ _ _ _ _ (ranged p) (lent p) c.if-block-p.false

pub returns-then-missing-ne0 : goal.returns-then-missing-ne0
returns-then-missing-ne0 c =
    write_missing_fails _ _ _ _ _ _ (λ e. c.if-missing-ne0.true (c.requires.2 ∙ e)) ∙ listed (goal.at.returns-then-missing-ne0 c).In_ok-list_rule

pub returns-then-p-address : goal.returns-then-p-address
returns-then-p-address c =
    write_address_fails _ _ _ _ _ _ (omega (arith, c.if-p-address.true)) ∙ write_missing_passes _ _ _ _ _ _ (sym c.requires.2 ∙ c.if-missing-ne0.false)
    ∙ listed (goal.at.returns-then-p-address c).In_ok-list_rule

pub room_checks-requires-clause-pointers_len : goal.room_checks-requires-clause-pointers_len
room_checks-requires-clause-pointers_len c =
    let l = lent_long_lem _ _ _ _ (lent (goal.at.room_checks-requires-clause-pointers_len c).In_ok-lent_ok) in
    (l.1, l.5)

pub returns : goal.returns
returns c =
    let a = c.args in
    c.room_checks.ensures a.image.now a.addresses.now a.compact.now a.inflight.now a.block.now a.address.0
    (lent_long_lem _ _ _ _ (lent (goal.at.returns c).In_ok-lent_ok)).0
    ∙ write_address_passes _ _ _ _ _ _ (omega (arith, c.if-p-address.false)) ∙ write_missing_passes _ _ _ _ _ _ (sym c.requires.2 ∙ c.if-missing-ne0.false)
    ∙ listed (goal.at.returns c).In_ok-list_rule
