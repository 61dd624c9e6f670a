-- `seek_lost`: with no offsets found a chunk is hidden (`seeks_hidden`); if none is, the record decoded has the stamp (`seeks_shown`). Assumes nothing.
use Rattle.disk_drives.specs.Viewed.{viewed}
use Prim.Native.Nat.{ℕ, ◌-◌, ◌<◌}
use native.Mathlib.Omega.{arith}
use Rattle.spec.specs.Segments.{seg_for, place_segment}
use Rattle.law_basic.specs.Segs.{ZonesLow}
use Rattle.law_drives.specs.Segs.{remaining-low}
use Rattle.disk_holders.specs.Borne.{remains_low, remains_in}
use Rattle.disk_holders.specs.Held.{held_segment}
use Rattle.call_read.specs.Decode.{OffsetsLow, data_offsets}
use Rattle.call_read.specs.Sought.{seeks_hidden, seeks_shown}
use mathlib.Core.Path.{◌≡◌, refl, sym, ap, ◌∙◌, subst}
use Rattle.call_read.proofs.seek_lost.Goals as goal
use Rattle.call_read.proofs.seek_lost.Goals.{After-place_block-s, After-seg_for-segment, In-Some}

pub overflow_sub-s : goal.overflow_sub-s
overflow_sub-s c = omega (arith, c.place_block-s.ensures.0, c.requires.compact_len.2.block_low)

stripe_low : (c : After-place_block-s) → c.place_block-s.result - 1 < c.args.drives.now.p.S
stripe_low c =
    let k = c.requires.compact_len.2 in
    omega (arith, c.place_block-s.ensures.0, k.block_low, k.block_high)

pub seg_for-segment-requires : goal.seg_for-segment-requires
seg_for-segment-requires c =
    let a = c.args in
    let q = c.requires in
    let v = viewed a.drives.now in
    record { serial_bound = remains_low a.drives.now.p v a.gone q.here a.serial.0 q.held_one.it_remains }

-- the segment of the place, and its zones
segment_is :
    (c : After-seg_for-segment)
    → let a = c.args in
    place_segment a.drives.now.p (viewed a.drives.now) a.gone a.q.0 ≡ c.seg_for-segment.result
segment_is c =
    let a = c.args in
    let v = viewed a.drives.now in
    held_segment a.drives.now.p v a.gone a.q.0 a.serial.0 c.requires.held_one ∙ sym c.seg_for-segment.ensures

segment_low : (c : After-seg_for-segment) → let a = c.args in ZonesLow a.drives.now.p a.gone c.seg_for-segment.result
segment_low c =
    let a = c.args in
    let here = c.requires.here in
    let v = viewed a.drives.now in
    subst (ZonesLow a.drives.now.p a.gone) (sym c.seg_for-segment.ensures)
    (remaining-low a.drives.now.p v a.gone here (seg_for a.drives.now.p v a.gone a.serial.0) (remains_in a.drives.now.p v a.gone here a.serial.0 c.requires.held_one.it_remains))

pub shown_offsets-requires : goal.shown_offsets-requires
shown_offsets-requires c =
    let q = c.requires in record {
      p_value = c.args.drives.now.sound;
      pointers_len = (c.args.drives.now.whole.pointers_long, q.compact_len.0);
      zones_low =
          (segment_low (goal.at.shown_offsets-requires c).After-seg_for-segment, stripe_low (goal.at.shown_offsets-requires c).After-place_block-s);
    }

pub returns-in_default : goal.returns-in_default
returns-in_default c =
    let a = c.args in
    let w = c.args.drives.now.whole in
    let zone = c.place_zone-zone in
    let block = c.place_block-s in
    seeks_hidden a.drives.now.p a.drives.now.offline.now a.drives.now.image.now a.drives.now.pointers.now a.gone a.compact.now a.q _ c.seg_for-segment.result (block.result - 1)
    refl (segment_is (goal.at.returns-in_default c).After-seg_for-segment) (ap (λ (x : ℕ). x - 1) block.ensures.0)
    zone.result zone.ensures.0 (c.in_default.ensures a.drives.now.offline.now a.drives.now.image.now w.image_long) a.bytes.now

-- the offsets are data offsets
offsets_low : (c : In-Some) → OffsetsLow c.args.drives.now.p c.in-Some.at
offsets_low c =
    let a = c.args in
    data_offsets a.drives.now.p (viewed a.drives.now) a.gone a.compact.now _ _ c.in-Some.at
    (c.in-Some.ensures a.drives.now.offline.now a.drives.now.image.now c.args.drives.now.whole.image_long)

pub block_bytes-requires : goal.block_bytes-requires
block_bytes-requires c =
    let q = c.requires in record {
      p_value = c.args.drives.now.sound;
      zones_low =
          (segment_low (goal.at.block_bytes-requires c).After-seg_for-segment, offsets_low (goal.at.block_bytes-requires c).In-Some, q.compact_len.1);
    }

pub decode_record-r-requires : goal.decode_record-r-requires
decode_record-r-requires c =
    let q = c.requires in
    let drive = subst (λ (x : ℕ). x < c.args.drives.now.p.N) (sym c.place_drive-drive.ensures.0) q.compact_len.2.drive_low in
    record {
      p_value = c.args.drives.now.sound;
      whole = c.args.drives.now.whole;
      drive_lt_n = (
        drive,
        segment_low (goal.at.decode_record-r-requires c).After-seg_for-segment,
        stripe_low (goal.at.decode_record-r-requires c).After-place_block-s,
        offsets_low
            (goal.at.decode_record-r-requires c).In-Some,
      );
    }

pub returns : goal.returns
returns c =
    let a = c.args in
    let w = c.args.drives.now.whole in
    let drive = c.place_drive-drive in
    let bytes = c.block_bytes in
    let block = c.place_block-s in
    seeks_shown a.drives.now.p a.drives.now.offline.now a.drives.now.image.now a.drives.now.pointers.now a.gone a.compact.now a.q drive.result c.seg_for-segment.result (block.result - 1)
    drive.ensures.0 (segment_is (goal.at.returns c).After-seg_for-segment) (ap (λ (x : ℕ). x - 1) block.ensures.0) c.in-Some.at
    (c.in-Some.ensures a.drives.now.offline.now a.drives.now.image.now w.image_long)
    w.pointers_long bytes.new.bytes (bytes.ensures a.drives.now.image.now w.image_long) c.decode_record-r.result (c.decode_record-r.ensures a.drives.now.offline.now)
