-- `copy_block`: record and block are those at place q, so the plan of the copy is the plan of sending them; a block fits the 4096 bytes. Assumes nothing.
-- the buffer is as long as a block may be
use Prim.Native.Nat.{ℕ, ◌≤◌}
use Rattle.spec.specs.Bytes.{part}
use Rattle.spec.specs.Calls.{Plan, outcome}
use Rattle.spec.specs.Calls.Verdict.{due}
use Rattle.spec.specs.Drives.{view_of, Disk, mk_disk, store_disk}
use Rattle.spec.specs.Params.{place_drive}
use Rattle.disk_records.specs.Record.{rec_val}
use Rattle.law_basic.specs.Segs.{low_here}
use Rattle.spec.specs.Memory.{Memory, mk_memory, state_of}
use Rattle.law_basic.specs.Geometry.{ranged}
use Rattle.call_copy.specs.Copying.{copy_sent, block_at}
use Rattle.call_reclaim_victim.specs.Waiting.{data_there}
use lib.ListN.{length, take, replicate, length-replicate}
use lib.Seq.{length-take-le}
use mathlib.Core.List.{[]}
use mathlib.Core.Path.{◌≡◌, sym, ap, ◌∙◌, subst}
use native.Mathlib.Omega.{arith}
use Rattle.call_copy.proofs.copy_block.Goals as goal

buffer_long : length {A = ℕ} (replicate 4096 0) ≡ 4096
buffer_long = length-replicate {A = ℕ} 4096 0

pub place_record-r-requires : goal.place_record-r-requires
place_record-r-requires c =
    let a = c.args in
    let pre = c.requires in
    let w = pre.copy_ready in
    let d = data_there a.p a.q.0 w.in_range_holds pre.q_bound.0 pre.q_bound.1 in
    let low = pre.q_value.1 in record { p_value = w.in_range_holds; whole = w.whole; data_place = (d, low, low_here a.p a.segment (place_drive a.p a.q.0) low d.drive_low) }

pub take_block-requires : goal.take_block-requires
take_block-requires c =
    let a = c.args in
    let pre = c.requires in
    let w = pre.copy_ready in record {
      p_value = w.in_range_holds;
      image_len =
          (w.whole.image_long, pre.q_bound.0, subst (λ (x : ℕ). a.p.B ≤ x) (sym buffer_long) (ranged a.p w.in_range_holds).block_high);
    }

pub slice_bounds-block-end : goal.slice_bounds-block-end
slice_bounds-block-end c =
    let args = c.args in
    let pre = c.requires in
    omega (arith, (ranged args.p pre.copy_ready.in_range_holds).block_high)

pub slice_bounds-send_copy-end : goal.slice_bounds-send_copy-end
slice_bounds-send_copy-end c =
    let a = c.args in
    let t = c.take_block in
    let pre = c.requires in
    sym (length-take-le a.p.B t.new.block (omega (arith, t.auto.block ∙ buffer_long, (ranged a.p pre.copy_ready.in_range_holds).block_high)))

pub send_copy-requires : goal.send_copy-requires
send_copy-requires c =
    let a = c.args in
    let t = c.take_block in
    let pre = c.requires in
    let long = length-take-le a.p.B t.new.block (omega (arith, t.auto.block ∙ buffer_long, (ranged a.p pre.copy_ready.in_range_holds).block_high)) in
    record { copy_ready = pre.copy_ready; f_value = (pre.f_value.0, pre.f_value.1, pre.f_value.2, long) }

pub returns : goal.returns
unfolding part
returns c =
    let send-copy = c.send_copy in
    let t = c.take_block in
    let a =
    c.args in
    let r =
    c.place_record-r in
    let pre =
    c.requires in
    let k : Disk = mk_disk a.image.now a.pointers.now in
    let m : Memory = mk_memory (state_of a.bytes.now) a.addresses.now a.compact.now a.inflight.now in
    let v = view_of a.p a.offline.now a.image.now a.pointers.now in
    let w = pre.copy_ready in
    let e =
    copy_sent a.p v m a.q.0 a.segment (rec_val r.result) (take a.p.B t.new.block) pre.q_value.0 (r.ensures a.offline.now)
    (t.ensures ∙ sym (block_at a.p (ranged a.p w.in_range_holds) a.offline.now k w.whole a.q.0 pre.q_bound.0)) in
    send-copy.ensures ∙ ap (λ (x : Plan). outcome a.p (store_disk a.p) a.count k m [] (due x)) e
