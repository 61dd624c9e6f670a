-- `move_with`: block and record of the moved chunk, the record as a spare, make the one store, by `put-moved`. Assumes nothing.
use Prim.Native.Nat.{◌+◌}
use Rattle.spec.specs.Drives.{mk_disk, zone_on}
use Rattle.recover_groups.specs.Groups.{segment_in}
use Rattle.law_basic.specs.Geometry.{spare_len_lem}
use Rattle.recover_move.specs.Moves.{put-moved}
use Rattle.law_basic.specs.Fields.{length_record}
use Rattle.disk_records.specs.Record.{rec_val}
use lib.ListN.{length}
use mathlib.Core.Path.{◌≡◌, sym, ap, ◌∙◌}
use Rattle.recover_move.proofs.move_with.Goals as goal

pub moved_chunk-r-requires : goal.moved_chunk-r-requires
moved_chunk-r-requires c =
    let pre = c.requires in record {
      p_value = pre.p_value;
      moves_shown = pre.moves_shown;
      all_entered = pre.all_entered;
      image_len =
          (pre.whole.image_long, pre.drive_lt_n.3, pre.drive_lt_n.0, pre.drive_lt_n.2);
    }

pub write_record-requires : goal.write_record-requires
write_record-requires c = sym spare_len_lem

pub zone_on-zone-requires : goal.zone_on-zone-requires
zone_on-zone-requires c =
    let pre = c.requires in record { p_value = pre.p_value; drive_lt_n = pre.drive_lt_n.0 }

pub put_limited-requires : goal.put_limited-requires
put_limited-requires c =
    let zone_on_holds = c.zone_on-zone in
    let write-record = c.write_record in
    let moved-chunk = c.moved_chunk-r in
    let args = c.args in
    let pre = c.requires in
    let z : zone_on_holds.result ≡ zone_on args.to args.drive = zone_on_holds.ensures in record {
      p_value = pre.p_value;
      whole = pre.whole;
      drive_lt_n = (pre.drive_lt_n.0, rw z pre.drive_lt_n.1, rw z pre.drive_lt_n.4);
      block_len = (
        moved-chunk.auto.block
            ∙ pre.drive_lt_n.3,
        ap length write-record.ensures
            ∙ length_record (rec_val moved-chunk.result),
      );
    }

pub returns : goal.returns
returns c =
    let a = c.args in
    let put-limited = c.put_limited in
    let zone_on_holds = c.zone_on-zone in
    let write-record = c.write_record in
    let moved-chunk = c.moved_chunk-r in
    let pre = c.requires in
    λ off. put-moved a.p a.count (segment_in a.p off a.image.now a.pointers.now a.w) a.to (a.w.base + a.k) a.s a.drive
    zone_on_holds.result moved-chunk.new.block write-record.new.dst (rec_val moved-chunk.result)
    (mk_disk a.image.now a.pointers.now) put-limited.result (mk_disk put-limited.new.image put-limited.new.pointers)
    zone_on_holds.ensures (moved-chunk.ensures off a.pointers.now (pre.by_index off)) write-record.ensures put-limited.ensures
