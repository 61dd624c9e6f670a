-- `send_copy`: front, aim and row are those of the state that the bytes say; then cut or done. Assumes nothing.
-- a serial fits 64 bits; the arrays have their lengths
use Prim.Native.Nat.{◌≤◌, ◌<◌}
use Rattle.spec.specs.Counts.{last_count}
use Rattle.spec.specs.Drives.{Disk, mk_disk}
use Rattle.spec.specs.Memory.{Memory, mk_memory, state_of}
use Rattle.spec.specs.declared.State.{State}
use Rattle.mem_codec.specs.Changes.{read_sized}
use Rattle.call_copy.specs.Copying.{copied_as, sent_asks, copy_cut, sent_done}
use Rattle.call_filling.specs.Aims.{front_aim}
use Rattle.call_filling.specs.Left.{OpeningStores, opening_front}
use Rattle.call_filling.specs.declared.Aim.{Aim}
use Rattle.law_calls.specs.Slots.{slot_lt}
use Rattle.mem_rows.specs.Rows.{RowsSized, behind}
use Rattle.mem_rows.specs.declared.Change.{Change}
use Rattle.mem_rows.specs.declared.Front.{Front}
use lib.Arith.{lt_of_le-ne}
use mathlib.Core.Path.{sym, ap, ◌∙◌, subst}
use native.Mathlib.Omega.{arith}
use Rattle.std.specs.Prelude.{Result, Ok, Err}
use Rattle.call_filling.specs.declared.Opened.{Opened}
use Rattle.disk_zones.specs.declared.TooFew.{TooFew}
use Rattle.call_copy.proofs.send_copy.Goals as goal
use Rattle.call_copy.proofs.send_copy.Lts
use Rattle.call_copy.proofs.send_copy.Reads
use Rattle.call_copy.proofs.send_copy.Tie

abbrev Start : Type 0
Start = Lts.Start Tie.the-claims Reads.Pre Reads.Post Tie.handed_clauses

abbrev After-open : Type 0
After-open = Lts.After-open Tie.the-claims Reads.Pre Reads.Post Tie.handed_clauses

serial_fits : (c : Start) → c.args.f.serial.0 ≤ last_count
serial_fits c = omega arith

abbrev state : (c : Start) → State
state c = state_of c.args.bytes.now

sized : (c : Start) → RowsSized (state c)
sized c = read_sized c.args.bytes.now

abbrev disk : (c : Start) → Disk
disk c = mk_disk c.args.image.now c.args.pointers.now

abbrev memory : (c : Start) → Memory
memory c = mk_memory (state c) c.args.addresses.now c.args.compact.now c.args.inflight.now

pub open-requires : goal.open-requires
open-requires c =
    let start' = c.before.before.before.before.before.before.before.before.before.before.before in
    let a = c.args in
    let r = c.requires.copy_ready in
    let aimed = c.requires.f_value.1 in record {
      p_value = r.in_range_holds;
      whole = (r.whole, r.offline_long);
      opens_value = ap (λ (x : Aim). x.opens) (aimed ∙ sym (front_aim a.p (state start') a.f c.requires.f_value.0));
      serial_lt_last_count = λ e.
          lt_of_le-ne (serial_fits start') (λ q. r.serial_left (ap (λ (x : Aim). x.opens) (sym aimed) ∙ e) (ap (λ (x : Front). x.serial.0) (sym c.requires.f_value.0) ∙ q));
      nonzero = λ e. r.empties (ap (λ (x : Aim). x.opens) (sym aimed) ∙ e);
    }

-- the drives with the segment open
abbrev after : (c : After-open) → Disk
after c = mk_disk c.«open».new.image c.«open».new.pointers

abbrev start : (c : After-open) → Start
start c =
    c.before.before.before.before.before.before.before.before.before.before.before

-- and the opening is one of the state
opened : (c : After-open) (r : Result Opened TooFew)
    → OpeningStores (start c).args.p (start c).args.offline.now (behind (start c).args.f) (start c).args.count (disk (start c)) r (after c)
    → OpeningStores (start c).args.p (start c).args.offline.now (state (start c)) (start c).args.count (disk (start c)) r (after c)
opened c r h =
    let s = start c in
    let a = s.args in
    opening_front a.p a.offline.now (state s) a.count (disk s) r (after c)
    (subst (λ (x : Front). OpeningStores a.p a.offline.now (behind x) a.count (disk s) r (after c)) s.requires.f_value.0 h)

pub returns-in_default : goal.returns-in_default
returns-in_default c =
    let at_open = c.before.before.before.before.before.before.before.before.before.before.before.before.before in
    let start' = at_open.before.before.before.before.before.before.before.before.before.before.before in
    let u = c.cut in
    let a = c.args in
    copy_cut a.p a.offline.now (disk start') (memory start') a.address.0 a.stamp.0 a.block.now a.count c.requires.copy_ready (after at_open)
    (opened at_open (Err (record {})) c.in_default.ensures) u.result u.new.addresses u.new.compact (ap (λ (x : Change). x.answer) u.ensures.value)
    u.ensures.addresses_after.0 u.ensures.addresses_after.1

pub row_at-row-requires : goal.row_at-row-requires
row_at-row-requires c =
    let start' = c.before.before.before.before.before.before.before.before.before.before.before.before.before.before.before.before.before in
    (c.requires.f_value.2, subst (λ (x : Aim). x.slot < 8) (sym c.requires.f_value.1) (slot_lt c.args.p (state start') c.requires.copy_ready.waits))

pub send-w-requires : goal.send-w-requires
send-w-requires c =
    let at_open = c.before.before.before.before.before.before.before.before in
    let start' = at_open.before.before.before.before.before.before.before.before.before.before.before in
    let a = c.args in
    let r = c.requires.copy_ready in
    let row = c.row_at-row in
    let q = sent_asks a.p a.offline.now (disk start') (memory start') a.address.0 a.stamp.0 a.block.now a.count r (after at_open) c.in-Ok.o
    (opened at_open (Ok c.in-Ok.o) c.in-Ok.ensures) a.f c.requires.f_value.0 a.a c.requires.f_value.1 row.result row.ensures in
    record { p_value = r.in_range_holds; slot_bound = (q.0, q.1, q.2, r.inflight_long, c.requires.f_value.3) }

pub returns : goal.returns
returns c =
    let at_open = c.before.before.before.before.before.before.before.before.before.before.before.before.before.before.before in
    let start' = at_open.before.before.before.before.before.before.before.before.before.before.before in
    let q = c.send-w in
    let row = c.row_at-row in
    let a = c.args in
    sent_done a.p a.offline.now (disk start') (memory start') a.address.0 a.stamp.0 a.block.now a.count c.requires.copy_ready (after at_open) c.in-Ok.o
    (opened at_open (Ok c.in-Ok.o) c.in-Ok.ensures) a.f c.requires.f_value.0 a.a c.requires.f_value.1 row.result row.ensures (sized start') _ q.new.inflight
    (λ j. copied_as a.f a.a c.in-Ok.o a.stamp.0 (q.ensures j)) (λ j. (q.ensures j).inflight)
