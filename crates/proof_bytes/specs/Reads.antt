-- What is read of headers and records is of 8 bytes: where spares, headers and footers hold bytes, so do stamps, addresses and serials. Assumes nothing.
use Rattle.std.specs.Prelude.{◌≡◌, refl, Bool, cond, ℕ, ◌+◌, ◌*◌, ◌/◌, ◌%◌, ◌^◌, ◌<◌, length, drop}
use Rattle.std.proofs.Common.{sym, ◌∙◌, inl, inr, arith, get_or-drop}
use Rattle.std.proofs.Math.Path.{ap, subst}
use mathlib.Core.List.{List, [], map}
use Rattle.std.proofs.Math.Bool.{true, false}
use Rattle.std.proofs.Math.Decide.{dec_lt}
use Rattle.std.proofs.Math.Dec.{lit<}
use Rattle.std.proofs.Math.ListN.{get_or, get_or-eq_default}
use Rattle.spec.specs.declared.Params.{Params}
use Rattle.spec.specs.Bytes.{part}
use Rattle.spec.specs.Drives.{Chunk, no_chunk, Zone, no_zone, View, zone_at, chunk_at, zone_on, sealed_in, data_stored, blocks_of, record_in}
use Rattle.spec.specs.Layout.{data_drive, header_serial, Rec, mk_rec, record_of_of, footer_record}
use Rattle.spec.specs.Lists.{below, is_in}
use Rattle.spec.specs.Params.{capacity, spare_len, per_footer}
use Rattle.spec.specs.Rank.{Cand}
use Rattle.spec.specs.Segments.{low_drive, header_at, remaining, Segment, records_in, segment_of, segments, offset_on, stored_rec, rec_of, cand_of, candidates, greatest_stamp, greatest_serial}
use Rattle.law_basic.specs.Geometry.{data_drive_lt}
use Rattle.law_code.specs.Chunks.{rec_here, rec_lost}
use Rattle.law_code.specs.Code.{decode_low}
use Rattle.law_basic.specs.Ranges.{Test, test}
use Rattle.law_basic.specs.Ranges.Test.{yes!, no! }
use Rattle.law_drives.specs.Counting.{greatest-low}
use Rattle.law_drives.specs.Image.{bytes_part}
use Rattle.law_drives.specs.Laid.{bytes_nil, serial_low, address_low, stamp_low}
use Rattle.law_drives.specs.Members.{In, map_in, in_get_d}
use Rattle.law_drives.specs.Records.{blocks_at}
use Rattle.law_drives.specs.Segs.{recs_on_holds, serial_is, cand_at}
use Rattle.law_drives.specs.Zones.{Bytes, Plain, ZoneOk, Shaped}
use Rattle.spec.specs.declared.Seg.{Seg}

-- address and stamp are of 8 bytes
abbrev pub LowRec : Rec → Type 0
LowRec r = (r.address < 256 ^ 8) × (r.stamp < 256 ^ 8)

-- every record and every serial is
pub record LowReads (p : Params) (v : View) : Type 0 where
  pub records_low : (w : Bool) (d z o : ℕ) → LowRec (record_in p w (zone_at v d z) o)
  pub headers-low : (d : ℕ) (g : Seg) → header_serial p (header_at v d g) < 256 ^ 8

-- ---- from bytes in spares, headers and footers

-- spares hold bytes, and header and footer blocks do
abbrev pub Grounded : Params → View → Type 0
Grounded p v = (d z b : ℕ) → Bytes (get_or (zone_at v d z).blocks b no_chunk).spare × (Plain p b → Bytes (get_or (zone_at v d z).blocks b no_chunk).block)

low_record : (l : List ℕ) → Bytes l → LowRec (record_of_of l)
low_record l h = (address_low l h, stamp_low l h)

module _ (p : Params) (v : View) (h : Grounded p v) where
  record_low-at : (w : Bool) (d z o : ℕ) → LowRec (record_in p w (zone_at v d z) o)
  unfolding record_in footer_record
  record_low-at true d z o =
      let q = (zone_at v d z).blocks in
      let j = o / per_footer p in
      let e : get_or (blocks_of (drop (1 + p.S) q)) j [] ≡ (get_or q (1 + p.S + j) no_chunk).block =
      blocks_at (drop (1 + p.S) q) j ∙ ap (λ (c : Chunk). c.block) (get_or-drop (1 + p.S) q j no_chunk) in
      let b : Bytes (get_or (blocks_of (drop (1 + p.S) q)) j []) = subst Bytes (sym e) ((h d z (1 + p.S + j)).1 (inr (omega arith))) in
      low_record (part (spare_len * (o % per_footer p)) spare_len (get_or (blocks_of (drop (1 + p.S) q)) j []))
      (bytes_part (spare_len * (o % per_footer p)) spare_len (get_or (blocks_of (drop (1 + p.S) q)) j []) b)
  record_low-at false d z o = low_record (get_or (zone_at v d z).blocks (1 + o) no_chunk).spare (h d z (1 + o)).0

  header_at_holds : (d : ℕ) (g : Seg) → header_serial p (header_at v d g) < 256 ^ 8
  unfolding header_at chunk_at
  header_at_holds d g = serial_low p (get_or (zone_at v d (zone_on g d)).blocks 0 no_chunk).block ((h d (zone_on g d) 0).1 (inl refl))

  pub grounded_reads : LowReads p v
  grounded_reads = record { records_low = record_low-at; headers-low = header_at_holds }

-- the view of a run
pub shaped_grounded : (p : Params) (v : View) → Shaped p v → Grounded p v
shaped_grounded p v sh d z b = go (dec_lt d p.N) (dec_lt z p.Z)
  where
    At : List Chunk → Type 0
    At q = Bytes (get_or q b no_chunk).spare × (Plain p b → Bytes (get_or q b no_chunk).block)

    no_chunk_holds : Bytes no_chunk.spare × (Plain p b → Bytes no_chunk.block)
    no_chunk_holds = unfold no_chunk in (bytes_nil, λ x. bytes_nil)

    no_zone_holds : At no_zone.blocks
    no_zone_holds = unfold no_zone in no_chunk_holds

    inside : ZoneOk p (zone_at v d z) → Dec (b < capacity p) → At (zone_at v d z).blocks
    inside k (yes l) = ((k.sound b l).spare_bytes, (k.sound b l).block_bytes)
    inside k (no l) = subst (λ (c : Chunk). Bytes c.spare × (Plain p b → Bytes c.block))
        (sym (get_or-eq_default (zone_at v d z).blocks no_chunk {n = b} (let e = k.blocks_long in omega arith))) no_chunk_holds

    outside : zone_at v d z ≡ no_zone → At (zone_at v d z).blocks
    outside e = subst (λ (q : Zone). At q.blocks) (sym e) no_zone_holds

    far_zone : (l : List Zone) → length l ≡ p.Z → (z < p.Z → ⊥) → get_or l z no_zone ≡ no_zone
    far_zone l e n = get_or-eq_default l no_zone {n = z} (omega arith)

    far_drive : (d < p.N → ⊥) → zone_at v d z ≡ no_zone
    far_drive n = unfold zone_at in ap (λ (l : List Zone). get_or l z no_zone) (get_or-eq_default v.zones [] {n = d} (let e = sh.sized.drives_long in omega arith))

    go : Dec (d < p.N) → Dec (z < p.Z) → At (zone_at v d z).blocks
    go (yes hd) (yes hz) = inside (sh.zone_ok d z hd hz) (dec_lt b (capacity p))
    go (yes hd) (no hz) = outside (unfold zone_at in far_zone (get_or v.zones d []) (sh.sized.zones_long d hd) hz)
    go (no hd) c = outside (far_drive hd)

-- ---- what a restart takes from them

module _ (p : Params) (v : View) (h : LowReads p v) (gone : ℕ) where
  abbrev seg_at : Seg → Segment
  seg_at g = segment_of p v gone g

  rows-low : (w : Bool) (q : Zone) (o : ℕ) → ((i : ℕ) → LowRec (record_in p w q i)) → LowRec (get_or (records_in p w q) o (mk_rec 0 0 0))
  unfolding records_in
  rows-low w q o k = go (dec_lt o (length l))
    where
      l : List Rec
      l = map (record_in p w q) (below (data_stored p q))

      go : Dec (o < length l) → LowRec (get_or l o (mk_rec 0 0 0))
      go (yes h) = let (i, m, e) = map_in (record_in p w q) (below (data_stored p q)) (get_or l o (mk_rec 0 0 0)) (in_get_d l o (mk_rec 0 0 0) h) in subst LowRec (sym e) (k i)
      go (no h) = subst LowRec (sym (get_or-eq_default l (mk_rec 0 0 0) {n = o} (omega arith))) (lit< tt, lit< tt)

  stored_rec_low : (g : Seg) (s d : ℕ) → d < p.N → LowRec (stored_rec (seg_at g) s d)
  unfolding stored_rec
  stored_rec_low g s d hd = subst (λ (l : List Rec). LowRec (get_or l (offset_on (seg_at g) d s) (mk_rec 0 0 0))) (sym (recs_on_holds p v gone g d hd)) (go (is_in gone d))
    where
      go : (b : Bool) → LowRec (get_or (cond b [] (records_in p (sealed_in p v gone g) (zone_at v d (zone_on g d)))) (offset_on (seg_at g) d s) (mk_rec 0 0 0))
      go true = (lit< tt, lit< tt)
      go false = rows-low (sealed_in p v gone g) (zone_at v d (zone_on g d)) (offset_on (seg_at g) d s) (h.records_low (sealed_in p v gone g) d (zone_on g d))

  rec_low : (g : Seg) (s d : ℕ) → d < p.N → (rec_of p gone (seg_at g) s d).stamp < 256 ^ 8
  rec_low g s d hd = go (test (is_in gone d))
    where
      go : Test (is_in gone d) → (rec_of p gone (seg_at g) s d).stamp < 256 ^ 8
      go (yes! e) = subst (λ (r : Rec). r.stamp < 256 ^ 8) (sym (rec_lost p gone (seg_at g) s d e)) (decode_low p gone s d (stored_rec (seg_at g) s) (λ x l n. stored_rec_low g s x l)).1
      go (no! e) = subst (λ (r : Rec). r.stamp < 256 ^ 8) (sym (rec_here p gone (seg_at g) s d e)) (stored_rec_low g s d hd).1

  pub stamps_low : greatest_stamp (candidates p gone (segments p v gone)) < 256 ^ 8
  unfolding greatest_stamp
  stamps_low = greatest-low (256 ^ 8) (map (λ (c : Cand). c.stamp) (candidates p gone (segments p v gone))) (lit< tt)
      (λ n m.
      let (c, i, e) = map_in (λ (c : Cand). c.stamp) (candidates p gone (segments p v gone)) n m in
      subst (λ (x : ℕ). x < 256 ^ 8) (sym e) (cand_low c i))
    where
      cand_low : (c : Cand) → In c (candidates p gone (segments p v gone)) → c.stamp < 256 ^ 8
      cand_low c i =
          let k = cand_at p v gone c i in
          subst (λ (x : Cand). x.stamp < 256 ^ 8) (sym k.it_is) (of! k.of k.stripe (data_drive p k.stripe k.position) (data_drive_lt p k.stripe k.position k.position_low))
        where
          of! : (g : Seg) (s d : ℕ) → d < p.N → (cand_of p gone (seg_at g) s d).stamp < 256 ^ 8
          of! g s d hd = unfold cand_of in rec_low g s d hd

  pub serials-low : greatest_serial (segments p v gone) < 256 ^ 8
  unfolding greatest_serial segments
  serials-low = greatest-low (256 ^ 8) (map (λ (g : Segment). g.serial) (map (segment_of p v gone) (remaining p v gone))) (lit< tt)
      (λ n m.
      let (x, i, e) = map_in (λ (g : Segment). g.serial) (map (segment_of p v gone) (remaining p v gone)) n m in
      let (z, j, f) = map_in (segment_of p v gone) (remaining p v gone) x i in
      subst (λ (k : ℕ). k < 256 ^ 8) (sym (e ∙ ap (λ (y : Segment). y.serial) f ∙ serial_is p v gone z)) (h.headers-low (low_drive p gone) z))
