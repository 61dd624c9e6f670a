-- `write`: the front and the aim are the state's; then the three ends. Assumes nothing.
use Prim.Native.Nat.{◌≤◌, ◌<◌}
use Rattle.std.specs.Prelude.{Ok, Err}
use Rattle.mem_calls.specs.Left.{checked}
use Rattle.mem_codec.specs.Changes.{read_sized}
use Rattle.spec.specs.Counts.{last_count}
use Rattle.spec.specs.Drives.{Disk, mk_disk}
use Rattle.spec.specs.Lists.Opt.{none, some}
use Rattle.spec.specs.Memory.{mk_memory}
use Rattle.spec.specs.declared.State.{State}
use Rattle.call_filling.specs.Aims.{aim_of, front_aim}
use Rattle.call_filling.specs.Left.{OpeningStores, opening_front}
use Rattle.call_filling.specs.declared.Aim.{Aim}
use Rattle.law_calls.specs.Slots.{slot_lt}
use Rattle.mem_rows.specs.Rows.{RowsSized, front_of, behind, slot_row}
use Rattle.mem_rows.specs.declared.Change.{Change}
use Rattle.mem_rows.specs.declared.Front.{Front}
use Rattle.call_write.specs.Ends.{write_refused, ends_write_cut, plan_asks, ends_plan}
use Rattle.call_write.specs.Ready.{write_ready, write_refusal}
use lib.Arith.{lt_of_le-ne}
use mathlib.Core.Path.{◌≡◌, sym, ap, ◌∙◌, subst}
use native.Mathlib.Omega.{arith}
use Rattle.call_write.proofs.write.Goals as goal
use Rattle.call_write.proofs.write.Goals.{After-aim_of-a, After-checks, In_default, In-Ok, After-row_at-row}

-- the aim is the state's
aimed : (c : After-aim_of-a) → c.aim_of-a.result ≡ aim_of c.args.p c.args.state
aimed c = c.aim_of-a.ensures ∙ front_aim c.args.p c.args.state c.front_of-f.result c.front_of-f.ensures

pub checks-requires : goal.checks-requires
checks-requires c =
    let e = c.requires.0 in
    (c.front_of-f.ensures ∙ ap front_of e, aimed (goal.at.checks-requires c).After-aim_of-a ∙ ap (aim_of c.args.p) e, ap (λ (x : State). x.missing) e, c.requires.1)

-- the refusal is that of the state
checked_is :
    (c : After-checks) → let a = c.args in
    checked c.checks.result ≡ write_refusal a.p a.offline.now (mk_disk a.image.now a.pointers.now) (mk_memory a.state a.addresses.now a.compact.now a.inflight.now) a.address.0 a.block.now
checked_is c =
    let a = c.args in
    subst (λ (x : State). checked c.checks.result
    ≡ write_refusal a.p a.offline.now (mk_disk a.image.now a.pointers.now) (mk_memory x a.addresses.now a.compact.now a.inflight.now) a.address.0 a.block.now)
    (sym c.requires.0) c.checks.ensures

pub returns-in-Err : goal.returns-in-Err
returns-in-Err c =
    write_refused _ _ _ _ _ _ c.args.count c.requires.2 c.kept.result
    (sym (checked_is (goal.at.returns-in-Err c).After-checks) ∙ ap checked c.in-Err.is ∙ ap some (sym c.from.ensures ∙ ap (λ (x : Change). x.answer) (sym c.kept.ensures)))

-- no check holds
passed :
    (c : In_default) → let a = c.args in
    write_refusal a.p a.offline.now (mk_disk a.image.now a.pointers.now) (mk_memory a.state a.addresses.now a.compact.now a.inflight.now) a.address.0 a.block.now ≡ none
passed c =
    let a = c.args in
    subst (λ (x : State).
    write_refusal a.p a.offline.now (mk_disk a.image.now a.pointers.now) (mk_memory x a.addresses.now a.compact.now a.inflight.now) a.address.0 a.block.now ≡ none)
    (sym c.requires.0) (sym c.in_default.ensures)

pub open-requires : goal.open-requires
open-requires c =
    let st = c.args.state in
    let e = aimed (goal.at.open-requires c).After-aim_of-a in
    let r = write_ready _ _ _ _ _ _ (passed (goal.at.open-requires c).In_default) in
    let h : st.serial.0 ≤ last_count = omega arith in record {
      p_value = r.ranged;
      whole = (r.whole, r.offline_long);
      opens_value = ap (λ (x : Aim). x.opens) c.aim_of-a.ensures;
      serial_lt_last_count = λ q.
          subst (λ (x : Front). x.serial.0 < last_count) (sym c.front_of-f.ensures) (lt_of_le-ne h (r.serial_left (ap (λ (x : Aim). x.opens) (sym e) ∙ q)));
      nonzero = λ q. r.empties;
    }

pub returns-in_default-open : goal.returns-in_default-open
returns-in_default-open c =
    let a = c.args in
    let q = c.cut in
    let k : Disk = mk_disk a.image.now a.pointers.now in
    let k' : Disk = mk_disk c.«open».new.image c.«open».new.pointers in
    let h =
    opening_front a.p a.offline.now a.state a.count k _ k'
    (subst (λ (x : Front). OpeningStores a.p a.offline.now (behind x) a.count k (Err (record {})) k') c.front_of-f.ensures c.in_default-open.ensures) in
    ends_write_cut _ _ _ _ _ _ _ c.requires.2 (passed (goal.at.returns-in_default-open c).In_default) k' h
    q.result q.new.addresses q.new.compact (ap (λ (x : Change). x.answer) q.ensures.value) q.ensures.addresses_after.0 q.ensures.addresses_after.1

-- the segment is open
opened :
    (c : In-Ok) → let a = c.args in
    OpeningStores a.p a.offline.now a.state a.count (mk_disk a.image.now a.pointers.now) (Ok c.in-Ok.o) (mk_disk c.«open».new.image c.«open».new.pointers)
opened c =
    let a = c.args in
    let k : Disk = mk_disk a.image.now a.pointers.now in
    let k' : Disk = mk_disk c.«open».new.image c.«open».new.pointers in
    opening_front a.p a.offline.now a.state a.count k _ k' (subst (λ (x : Front). OpeningStores a.p a.offline.now (behind x) a.count k (Ok c.in-Ok.o) k') c.front_of-f.ensures c.in-Ok.ensures)

pub row_at-row-requires : goal.row_at-row-requires
row_at-row-requires c =
    let r = write_ready _ _ _ _ _ _ (passed (goal.at.row_at-row-requires c).In_default) in
    (c.requires.1, subst (λ (x : Aim). x.slot < 8) (sym (aimed (goal.at.row_at-row-requires c).After-aim_of-a)) (slot_lt _ _ r.waits))

-- the row is the state's
row_is : (c : After-row_at-row) → c.row_at-row.result ≡ slot_row c.args.state c.aim_of-a.result.slot
row_is c = subst (λ (x : State). c.row_at-row.result ≡ slot_row x c.aim_of-a.result.slot) (sym c.requires.0) c.row_at-row.ensures

pub plan-requires : goal.plan-requires
plan-requires c =
    let g = goal.at.plan-requires c in
    let e = passed g.In_default in
    let r = write_ready _ _ _ _ _ _ e in
    let h : c.args.state.stamp.0 < 18446744073709551616 = omega arith in record {
      p_value = r.ranged;
      slot_bound = plan_asks _ _ _ _ _ _ _ c.requires.2 e _ _ (opened g.In-Ok) _ c.front_of-f.ensures _ (aimed g.After-aim_of-a) _ (row_is g.After-row_at-row) h;
      inflight_len = (r.inflight_long, r.block_long);
    }

pub returns : goal.returns
returns c =
    let g = goal.at.returns c in
    let q = c.plan in
    let w = subst RowsSized (sym c.requires.0) (read_sized c.args.bytes.now) in
    ends_plan _ _ _ _ _ _ _ c.requires.2 (passed g.In_default) _ _ (opened g.In-Ok) _ c.front_of-f.ensures _ (aimed g.After-aim_of-a) _ (row_is g.After-row_at-row) w
    q.result q.new.inflight q.ensures.value q.ensures.inflight_after
