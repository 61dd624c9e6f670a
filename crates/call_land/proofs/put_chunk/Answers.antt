-- `put_chunk`: the part lent is the block of the drive in the eighth, the spare its record's bytes; `put` stores the two. Assumes nothing.
use Prim.Native.Nat.{ℕ}
use Rattle.spec.specs.Bytes.{part}
use Rattle.spec.specs.Drives.{Disk, mk_disk, store_disk}
use Rattle.spec.specs.Drives.Store.{put}
use Rattle.spec.specs.Landing.{flight_rec}
use Rattle.spec.specs.Layout.{record_bytes}
use Rattle.spec.specs.Memory.{slot_block}
use Rattle.law_basic.specs.Geometry.{ranged, spare_len_lem}
use Rattle.law_basic.specs.Splice.{length_part, part_lent}
use Rattle.law_basic.specs.Fields.{length_record}
use Rattle.disk_records.specs.Record.{rec_val}
use Rattle.call_land_chunk.specs.Alone.{alone}
use lib.ListN.{length, take, drop}
use mathlib.Core.Path.{◌≡◌, sym, ap, ◌∙◌}
use Prim.Native.Nat.{◌+◌, ◌-◌}
use native.Mathlib.Omega.{arith}
use Rattle.call_land.proofs.put_chunk.Goals as goal

pub flight_record-requires : goal.flight_record-requires
flight_record-requires c =
    let q = c.requires in
    (q.p_value, q.drive_lt_n.0, q.inflight_len.2)

pub write_record-requires : goal.write_record-requires
write_record-requires c = sym spare_len_lem

pub slot_byte-a-requires : goal.slot_byte-a-requires
slot_byte-a-requires c =
    let q = c.requires in record { p_value = q.p_value; slot_bound = (q.inflight_len.1, q.drive_lt_n.0) }

pub overflow_add-e : goal.overflow_add-e
overflow_add-e c =
    let args = c.args in
    let pre = c.requires in
    omega (arith, c.slot_byte-a.ensures.2, (ranged args.p pre.p_value).block_high)

pub slice_bounds-put-end : goal.slice_bounds-put-end
slice_bounds-put-end c =
    let pre = c.requires in
    omega (arith, c.slot_byte-a.ensures.1, pre.inflight_len.0)

pub put-requires : goal.put-requires
put-requires c =
    let a = c.args in
    let q = c.requires in
    let slot-byte = c.slot_byte-a in
    let write-record = c.write_record in
    let flight-record = c.flight_record in
    let t = slot-byte.result in
    let b = a.p.B in
    let l : length (take (t + b - t) (drop t a.inflight.now)) ≡ b =
    ap length (part_lent t b a.inflight.now) ∙ length_part t b a.inflight.now (omega (arith, slot-byte.ensures.1, q.inflight_len.0)) in
    record { p_value = q.p_value; whole = q.whole; drive_lt_n = q.drive_lt_n; block_len = (l, ap length write-record.ensures ∙ length_record (rec_val flight-record.result)) }

pub returns : goal.returns
unfolding slot_block
returns c =
    let a = c.args in
    let put' = c.put in
    let slot-byte = c.slot_byte-a in
    let write-record = c.write_record in
    let flight-record = c.flight_record in
    let p = a.p in
    let fl = a.inflight.now in
    let t = slot-byte.result in
    let k : Disk = mk_disk a.image.now a.pointers.now in
    let x : take (t + p.B - t) (drop t fl) ≡ slot_block p fl a.i a.drive = part_lent t p.B fl ∙ ap (λ (y : ℕ). part y p.B fl) slot-byte.ensures.0 in
    let y : write-record.new.dst ≡ record_bytes (flight_rec p (alone a.row) 0 a.drive) = write-record.ensures ∙ ap record_bytes flight-record.ensures in
    put'.ensures ∙ (λ j. store_disk p (put a.drive a.zone (x j) (y j)) k)
