-- What the drives say: which segments remain, which stripes count, the tables (01, Restart, 1 to 3). Assumes nothing.
use Rattle.std.specs.Prelude.{List, [], map, Bool, cond, not, ◌&&◌, ℕ, ◌+◌, ◌-◌, eqb, ltb, length, get_or}
use Rattle.spec.specs.declared.Params.{Params}
use Rattle.spec.specs.Bytes.{to_be}
use Rattle.spec.specs.declared.State.{State}
use Rattle.spec.specs.Drives.{no_chunk, Zone, no_zone, View, zone_at, pointer_at, chunk_at, Store, is_good, zone_on, sealed_in, data_stored, record_in, record_at, seg_with, no_seg, same_seg}
use Rattle.spec.specs.Drives.Store.{put}
use Rattle.spec.specs.Layout.{data_drives, compact_entry, header_serial, header_copied, header_zone, header_zones, Rec, mk_rec, record_bytes}
use Rattle.spec.specs.Lists.Opt.{none}
use Rattle.spec.specs.Lists.{below, all, any, keep, index_of, flat, greatest, first_or, pad_to, is_in}
use Rattle.spec.specs.Params.{place_of, place_block, place_zone, place_drive, drives_of, present}
use Rattle.spec.specs.Parity.{Piece, mk_piece, decode_rec, decode_piece}
use Rattle.spec.specs.Rank.{Cand, best, place_or, cands_of}
use Rattle.spec.specs.declared.Seg.{Seg}

-- 01, Restart, 2: the headers on the lowest present drive
unfoldable pub low_drive : Params → ℕ → ℕ
low_drive p gone = first_or 0 (present p gone)

-- ---- segments are gathered by serial from the non-empty zones (02, item 4)

-- 02, item 4: a zone that takes part: good and not empty
unfoldable pub is_used : Params → View → ℕ → ℕ → Bool
is_used p v d z = is_good p v.offline d z && not (eqb (pointer_at v d z) 0)

-- 02, item 4: the serial in a zone's header
unfoldable pub serial_in : Params → View → ℕ → ℕ → ℕ
serial_in p v d z = header_serial p (chunk_at v d z 0).block

-- 02, item 4: the zones of a drive that bear a serial, rising
unfoldable pub bearing : Params → View → ℕ → ℕ → List ℕ
bearing p v d r = keep (λ z. is_used p v d z && eqb (serial_in p v d z) r) (below p.Z)

-- 02, item 4: a segment's zone on a drive is the lowest that bears its serial; Z where none does
unfoldable pub lowest_bearing : Params → View → ℕ → ℕ → ℕ
lowest_bearing p v d r = first_or p.Z (bearing p v d r)

-- 02, item 4: on a missing drive it is the one that its header on the lowest present drive names
unfoldable pub zone_for : Params → View → ℕ → ℕ → ℕ → ℕ
zone_for p v gone r d =
    let low = low_drive p gone in
    let named = header_zone p (chunk_at v low (lowest_bearing p v low r) 0).block d in
    cond (is_in gone d) named (lowest_bearing p v d r)

-- 02, item 4: the segment of a serial
unfoldable pub seg_for : Params → View → ℕ → ℕ → Seg
seg_for p v gone r = seg_with p (zone_for p v gone r)

-- 02, item 4: the zone is the lowest on its drive that bears its serial
unfoldable pub leads : Params → View → ℕ → ℕ → Bool
leads p v d z = is_used p v d z && eqb (lowest_bearing p v d (serial_in p v d z)) z

-- 02, item 4: the segments on the lowest present drive, by their zones there
unfoldable pub gathered : Params → View → ℕ → List Seg
gathered p v gone =
    let low = low_drive p gone in
    map (λ z. seg_for p v gone (serial_in p v low z)) (keep (leads p v low) (below p.Z))

-- 01, Restart, 2: a segment's header on a drive
unfoldable pub header_at : View → ℕ → Seg → List ℕ
header_at v d g = (chunk_at v d (zone_on g d) 0).block

-- 01, Restart, 1; 02, item 4: a serial absent from a present drive is dropped; the segments left
unfoldable pub left_by1 : Params → View → ℕ → List Seg
left_by1 p v gone = keep (λ g. all (λ d. ltb (zone_on g d) p.Z) (present p gone)) (gathered p v gone)

-- 01, Restart, 2: its copied serial (0 for none) is that of another segment left by 1
unfoldable pub is_copy : Params → View → ℕ → List Seg → Seg → Bool
is_copy p v d left g =
    let c = header_copied p (header_at v d g) in
    not (eqb c 0) && any (λ h. not (same_seg h g) && eqb (header_serial p (header_at v d h)) c) left

-- 01, Restart, 1 and 2: the segments that remain
unfoldable pub remaining : Params → View → ℕ → List Seg
remaining p v gone =
    let left = left_by1 p v gone in
    keep (λ g. not (is_copy p v (low_drive p gone) left g)) left

-- ---- the segment of a place (02, item 4)

-- 02, item 4: the remaining segments with this zone on drive d
unfoldable pub holders : Params → View → ℕ → ℕ → ℕ → List Seg
holders p v gone d z = keep (λ g. eqb (zone_on g d) z) (remaining p v gone)

-- 02, item 4: a place in an offline zone, or not in just one remaining segment, counts as outside the image
unfoldable pub is_place : Params → View → ℕ → ℕ → Bool
is_place p v gone q =
    let d = place_drive p q in
    let z = place_zone p q in
    ltb d p.N && is_good p v.offline d z && eqb (length (holders p v gone d z)) 1

-- 02, item 4: the segment of a place
unfoldable pub place_segment : Params → View → ℕ → ℕ → Seg
place_segment p v gone q = first_or no_seg (holders p v gone (place_drive p q) (place_zone p q))

-- 01, Restart, 3: the record at a place of a present drive
abbrev pub place_record : Params → View → ℕ → ℕ → Rec
place_record p v gone q = record_at p v gone (place_drive p q) (place_segment p v gone q) (place_block p q - 1)

-- ---- the open segment (02, item 4)

-- the serial of a segment, by drive 0
unfoldable pub serial_at : Params → View → Seg → ℕ
serial_at p v g = header_serial p (header_at v 0 g)

-- 02, item 4: the remaining segments with the serial that the state has open
unfoldable pub open_segments : Params → View → State → List Seg
open_segments p v st = keep (λ g. eqb (serial_at p v g) st.opened) (remaining p v 0)

-- 01, Write: the open segment
unfoldable pub open_segment : Params → View → State → Seg
open_segment p v st = first_or no_seg (open_segments p v st)

-- ---- segments as read

-- a segment as read: its zones; by its header on the lowest present drive its serials and the zones that it names; sealed or not; what its zones hold, by drive, and
-- the records of stored chunks by drive
pub record Segment : Type 0 where
  pub seg : Seg
  pub names : List ℕ
  pub serial : ℕ
  pub copied : ℕ
  pub full : Bool
  pub zones_by_holds : List Zone
  pub recs : List (List Rec)

-- 01, Restart, 3: the records of the data blocks below a zone's pointer, by footer or spare
unfoldable pub records_in : Params → Bool → Zone → List Rec
records_in p w q = map (record_in p w q) (below (data_stored p q))

-- 01, Restart, 1 to 3: segment g as read
unfoldable pub segment_of : Params → View → ℕ → Seg → Segment
segment_of p v gone g =
    let b = header_at v (low_drive p gone) g in
    let w = sealed_in p v gone g in
    let qs = map (λ d. zone_at v d (zone_on g d)) (drives_of p) in
    record {
      seg = g;
      names = header_zones p b;
      serial = header_serial p b;
      copied = header_copied p b;
      full = w;
      zones_by_holds = qs;
      recs = map (λ d. cond (is_in gone d) [] (records_in p w (get_or qs d no_zone))) (drives_of p);
    }

-- the remaining segments as read
unfoldable pub segments : Params → View → ℕ → List Segment
segments p v gone = map (segment_of p v gone) (remaining p v gone)

-- ---- chunks of a segment

-- the records of its chunks on a drive, by offset
unfoldable pub recs_on : Segment → ℕ → List Rec
recs_on g d = get_or g.recs d []

-- the lowest offset of a stripe's chunk on a drive; the number of chunks there if it has none
unfoldable pub offset_on : Segment → ℕ → ℕ → ℕ
offset_on g d s = index_of (λ (r : Rec). eqb r.stripe s) (recs_on g d)

-- 01, Restart, 3: the drive has the stripe's chunk
unfoldable pub has_chunk : Segment → ℕ → ℕ → Bool
has_chunk g s d = any (λ (r : Rec). eqb r.stripe s) (recs_on g d)

-- 01, Restart, 3: a stripe counts if every present drive has its chunk
unfoldable pub counts : Params → ℕ → Segment → ℕ → Bool
counts p gone g s = all (has_chunk g s) (present p gone)

-- 01, Restart, 3: the stripes that count, rising
unfoldable pub counted : Params → ℕ → Segment → List ℕ
counted p gone g = keep (counts p gone g) (below p.S)

-- 01, Restart: stripes with some chunk but not counted
unfoldable pub uncounted : Params → ℕ → Segment → List ℕ
uncounted p gone g = keep (λ s. any (has_chunk g s) (present p gone) && not (counts p gone g s)) (below p.S)

-- 01, Restart, 3: the chunk of a stripe as stored
unfoldable pub stored_piece : Segment → ℕ → ℕ → Piece
stored_piece g s d =
    let o = offset_on g d s in
    mk_piece (get_or (get_or g.zones_by_holds d no_zone).blocks (1 + o) no_chunk).block (get_or (recs_on g d) o (mk_rec 0 0 0))

-- 01, Read and Rebuild: the chunk of a counted stripe, stored, or decoded from the present ones
unfoldable pub piece_of : Params → ℕ → Segment → ℕ → ℕ → Piece
piece_of p gone g s d =
    let a = stored_piece g s d in
    let b = decode_piece p gone s d (stored_piece g s) in
    cond (is_in gone d) b a

-- the store of a chunk
unfoldable pub put_piece : ℕ → ℕ → Piece → Store
put_piece d z q = put d z q.block (record_bytes q.rec)

-- the record alone
unfoldable pub stored_rec : Segment → ℕ → ℕ → Rec
stored_rec g s d = get_or (recs_on g d) (offset_on g d s) (mk_rec 0 0 0)

-- 01, Restart, 3: its record, stored or decoded
unfoldable pub rec_of : Params → ℕ → Segment → ℕ → ℕ → Rec
rec_of p gone g s d =
    let a = stored_rec g s d in
    let b = decode_rec p gone s d (stored_rec g s) in
    cond (is_in gone d) b a

-- 01, The array: on the missing drive data offset s stands for stripe s
unfoldable pub offset_of : ℕ → Segment → ℕ → ℕ → ℕ
offset_of gone g s d =
    let o = offset_on g d s in
    cond (is_in gone d) s o

-- ---- the tables that the drives say

-- 01, The calls: the record of a counted stripe on a drive, as it competes
unfoldable pub cand_of : Params → ℕ → Segment → ℕ → ℕ → Cand
cand_of p gone g s d =
    let r = rec_of p gone g s d in
    let o = offset_of gone g s d in
    record { address = r.address; stamp = r.stamp; serial = g.serial; drive = d; offset = o; place = place_of p d (zone_on g.seg d) (1 + o) }

-- the data records of counted stripes
unfoldable pub segment_cands : Params → ℕ → Segment → List Cand
segment_cands p gone g = flat (λ s. map (cand_of p gone g s) (data_drives p s)) (counted p gone g)

-- 01, The calls: all completed records
unfoldable pub candidates : Params → ℕ → List Segment → List Cand
candidates p gone gs = flat (segment_cands p gone) gs

-- 01, The array and The calls, last paragraph: the address table
unfoldable pub address_table : Params → List Cand → List ℕ
address_table p cs = flat (λ a. to_be 4 (place_or (best none (cands_of a cs)))) (below p.L)

-- 01, What a zone holds: the compact table; 0 where no chunk is stored, the drive is missing or the segment dropped
unfoldable pub compact_row : Params → List Rec → List ℕ
compact_row p rs = pad_to p.S (map (λ (r : Rec). compact_entry p r.stripe) rs)

-- 01, What a zone holds: the records of a zone of a remaining segment
unfoldable pub row_of : Params → List Segment → ℕ → ℕ → List Rec
row_of p gs d z = flat (λ (g : Segment). cond (eqb (zone_on g.seg d) z) (recs_on g d) []) gs

-- 01, What a zone holds: for each drive, zone and offset, in that order
unfoldable pub compact_table : Params → List Segment → List ℕ
compact_table p gs = flat (λ d. flat (λ z. compact_row p (row_of p gs d z)) (below p.Z)) (drives_of p)

-- 01, Restart: the greatest counted stamp, the greatest remaining serial
unfoldable pub greatest_stamp : List Cand → ℕ
greatest_stamp cs = greatest (map (λ (c : Cand). c.stamp) cs)

-- 01, Restart: the greatest remaining serial
unfoldable pub greatest_serial : List Segment → ℕ
greatest_serial gs = greatest (map (λ (g : Segment). g.serial) gs)

-- 01, Restart, 4: the unsealed segments
unfoldable pub unsealed : List Segment → List Segment
unsealed gs = keep (λ (g : Segment). not g.full) gs
