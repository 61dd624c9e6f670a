-- A segment that remains, read after the rebuild with none missing: header, sealed or not, and counted stripes are as before, each chunk as stored or decoded. Assumes nothing.
use Rattle.std.specs.Prelude.{◌≡◌, List, [], map, Bool, false, drop}
use Rattle.std.proofs.Math.Path.{refl, sym, ap}
use Rattle.std.proofs.Common.{ap₂, ◌∙◌, subst, div-lt_iff_lt-mul, ext_get_or, get_or-drop}
use Rattle.std.proofs.Math.Bool.{true}
use Prim.Native.Nat.{ℕ, suc, ◌+◌, ◌*◌, ◌/◌, ◌%◌, ◌^◌, ◌<◌}
use borrow.Author.Tests.{eq-eqb, ne_eqb}
use native.Mathlib.Omega.{arith}
use Rattle.std.proofs.Math.Dec.{eqb}
use Rattle.std.proofs.Math.ListN.{length, get_or, length-map}
use Rattle.spec.specs.declared.Params.{Params}
use Rattle.spec.specs.Bytes.{part}
use Rattle.spec.specs.Drives.{Chunk, mk_chunk, no_chunk, Zone, no_zone, View, zone_at, pointer_at, chunk_at, zone_on, sealed_in, data_stored, blocks_of, record_in, zero_spare, zones_in}
use Rattle.spec.specs.Layout.{header_block, header_serial, Rec, mk_rec, record_bytes, record_of_of, footer_block, footer_record}
use Rattle.spec.specs.Lists.{below, any, index_of, tally, is_in}
use Rattle.spec.specs.Params.{spare_len, per_footer, footers, capacity, named, present}
use Rattle.spec.specs.Parity.{Piece, decode_rec}
use Rattle.spec.specs.Segments.{low_drive, header_at, remaining, Segment, records_in, segment_of, recs_on, offset_on, has_chunk, counts, counted, stored_piece, piece_of, stored_rec, rec_of, serial_in}
use Rattle.law_basic.specs.Fields.{length_record}
use Rattle.law_basic.specs.Geometry.{Ranged, per_footer_low, footers_cover}
use Rattle.law_basic.specs.Mask.{is_in_empty}
use Rattle.law_basic.specs.Ranges.{map-map, get_d_map, get_d_map-below}
use Rattle.law_code.specs.Chunks.{chunk_stored, rec_lost}
use Rattle.law_code.specs.Code.{decode_low, decode_stripe}
use Rattle.law_drives.specs.Accept.{Accepted, zone_in_range}
use Rattle.law_drives.specs.Laid.{Long, get_d_footer, record_back}
use Rattle.law_drives.specs.Members.{In, map_in, in_map, in_keep, all_in, in_all, in_any, keep_cong, in_below, below_in, in_get_d, index_is}
use Rattle.law_drives.specs.Range.{capacity_is}
use Rattle.law_drives.specs.Rebuilding.{counted_in, piece_chunk}
use Rattle.law_drives.specs.Records.{blocks_at, record_low}
use Rattle.law_drives.specs.Segs.{zone_by, recs_here, serial_is, copied_is, full_is, chunk_at_holds, length_records, piece_rec}
use Rattle.law_drives.specs.Settled.{present-all, zero_here}
use Rattle.law_drives.specs.Spots.{counts_in}
use Rattle.law_drives.specs.Tests.{same_test}
use Rattle.proof_rebuilt.specs.Groups.{sealed-all}
use Rattle.proof_rebuilt.specs.Numbers.{rank_low, rank_at, rank_of_holds}
use Rattle.proof_rebuilt.specs.Zone.{rebuilt_view, Loss, drive_lost_holds, each_drive, present_zone_same, rebuilt_full, rebuilt_piece, rebuilt_foot, rebuilt-stored, low-one}
use Rattle.spec.specs.declared.Seg.{Seg}
use Rattle.law_drives.specs.Gather.{in_present, present_in}
use Rattle.law_drives.specs.Rebuilt.{header_rebuilt, rebuilt-copied_in, rebuilt_serial_in}

-- ---- records that are read back

-- by spare
spare_back : (p : Params) (q : Zone) (j : ℕ) (c : Piece) → get_or q.blocks (1 + j) no_chunk ≡ piece_chunk c
    → c.rec.address < 256 ^ 8 → c.rec.stamp < 256 ^ 8 → c.rec.stripe < 256 ^ 4 → record_in p false q j ≡ c.rec
unfolding record_in piece_chunk
spare_back p q j c e a t s = ap (λ (y : Chunk). record_of_of y.spare) e ∙ record_back c.rec a t s

-- by footer
footer_back : (p : Params) → Ranged p → (q : Zone) (ss : List (List ℕ)) (j : ℕ) (b : Rec) → Long spare_len ss → j < length ss → get_or ss j [] ≡ record_bytes b
    → get_or q.blocks (1 + p.S + j / per_footer p) no_chunk ≡ mk_chunk (footer_block p ss (j / per_footer p)) zero_spare
    → b.address < 256 ^ 8 → b.stamp < 256 ^ 8 → b.stripe < 256 ^ 4 → record_in p true q j ≡ b
unfolding record_in footer_record
footer_back p r q ss j b l h e f a t s =
    let k = per_footer p in
    let i = j / k in
    let ef : get_or (blocks_of (drop (1 + p.S) q.blocks)) i [] ≡ footer_block p ss i =
    blocks_at (drop (1 + p.S) q.blocks) i ∙ ap (λ (c : Chunk). c.block) (get_or-drop (1 + p.S) q.blocks i no_chunk ∙ f) in
    ap (λ (y : List ℕ). record_of_of (part (spare_len * (j % k)) spare_len y)) ef ∙ ap record_of_of (get_d_footer p r ss j l h ∙ e) ∙ record_back b a t s

module _ (p : Params) (v : View) (d : ℕ) (lo : Loss p v d) (g : Seg) (m : In g (remaining p v (named d))) where
  abbrev r : Ranged p
  r = lo.ranged

  abbrev hd : d < p.N
  hd = lo.drive_low

  abbrev acc : Accepted p v (named d)
  acc = lo.accepts

  abbrev gone : ℕ
  gone = named d

  abbrev u : View
  u = rebuilt_view p v d

  abbrev x : Segment
  x = segment_of p v gone g

  abbrev y : Segment
  y = segment_of p u 0 g

  abbrev w : Bool
  w = sealed_in p v gone g

  abbrev ss : List ℕ
  ss = counted p gone x

  low-at : (e : ℕ) → e < p.N → zone_on g e < p.Z
  low-at e he = zone_in_range p v (named d) lo.accepts (low-one p v d lo) g e m he

  kept_zone_here : (e : ℕ) → e < p.N → is_in gone e ≡ false → zone_at u e (zone_on g e) ≡ zone_at v e (zone_on g e)
  kept_zone_here e he pr = present_zone_same p v d lo e (zone_on g e) he (low-at e he) pr

  -- ---- sealed or not

  pub rebuilt-sealed : sealed_in p u 0 g ≡ w
  unfolding sealed_in pointer_at
  rebuilt-sealed = same_test (sealed_in p u 0 g) w
      (λ q. in_all (λ e. eqb (zone_at v e (zone_on g e)).pointer (capacity p)) (present p gone)
      (λ e i. let (he, pr) = present_in p gone e i in
      ap (λ (z : Zone). eqb z.pointer (capacity p)) (sym (kept_zone_here e he pr)) ∙ all_in (λ e. eqb (zone_at u e (zone_on g e)).pointer (capacity p)) (present p 0) q e (present-all p e he)))
      (λ q. in_all (λ e. eqb (zone_at u e (zone_on g e)).pointer (capacity p)) (present p 0)
      (λ e i. each_drive p v d lo {P = λ e. eqb (zone_at u e (zone_on g e)).pointer (capacity p) ≡ true} (here q)
      (λ e he pr. ap (λ (z : Zone). eqb z.pointer (capacity p)) (kept_zone_here e he pr)
      ∙ all_in (λ e. eqb (zone_at v e (zone_on g e)).pointer (capacity p)) (present p gone) q e (in_present p gone e he pr))
      e (present_in p 0 e i).0))
    where
      here : w ≡ true → eqb (zone_at u d (zone_on g d)).pointer (capacity p) ≡ true
      here q = eq-eqb (zone_at u d (zone_on g d)).pointer (capacity p)
          (rebuilt_full p v d lo g m (full_is p v gone g ∙ q)
          ∙ (let a = sealed-all p r v gone acc g m q in let c = capacity_is p r in let z : suc (length ss + footers p) ≡ capacity p = omega arith in z))

  pub rebuilt-seg_full : y.full ≡ x.full
  rebuilt-seg_full = full_is p u 0 g ∙ rebuilt-sealed ∙ sym (full_is p v gone g)

  -- ---- the decoded records fit

  rec_decoded : (s : ℕ) → rec_of p gone x s d ≡ decode_rec p gone s d (stored_rec x s)
  rec_decoded s = rec_lost p gone x s d (drive_lost_holds p v d lo)

  pub decoded_stripe : (s : ℕ) → (rec_of p gone x s d).stripe ≡ s
  decoded_stripe s = ap (λ (b : Rec). b.stripe) (rec_decoded s) ∙ decode_stripe p gone s d (stored_rec x s)

  present_rec_low : (s e : ℕ) → counts p gone x s ≡ true → In e (present p gone) → ((stored_rec x s e).address < 256 ^ 8) × ((stored_rec x s e).stamp < 256 ^ 8)
  present_rec_low s e c i =
      let (he, pr) = present_in p gone e i in
      let k = chunk_at_holds p v gone g e s he pr (counts_in p gone x s e c he pr) in
      subst (λ (b : Rec). (b.address < 256 ^ 8) × (b.stamp < 256 ^ 8)) (sym k.its_record)
      (record_low p (zone_at v e (zone_on g e)) (lo.shaped.zone_ok e (zone_on g e) he (low-at e he)) w (offset_on x e s))

  decoded-low : (s : ℕ) → counts p gone x s ≡ true → ((rec_of p gone x s d).address < 256 ^ 8) × ((rec_of p gone x s d).stamp < 256 ^ 8)
  decoded-low s c = subst (λ (b : Rec). (b.address < 256 ^ 8) × (b.stamp < 256 ^ 8)) (sym (rec_decoded s))
      (decode_low p gone s d (stored_rec x s) (λ e he pr. present_rec_low s e c (in_present p gone e he pr)))

  -- ---- records of the rebuilt zone

  abbrev piece_at : ℕ → Piece
  piece_at j = piece_of p gone x (get_or ss j 0) d

  abbrev made : List (List ℕ)
  made = map (λ (c : Piece). record_bytes c.rec) (map (λ s. piece_of p gone x s d) ss)

  counted_nth : (j : ℕ) → j < length ss → (get_or ss j 0 < p.S) × (counts p gone x (get_or ss j 0) ≡ true)
  counted_nth j h = counted_in p gone x (get_or ss j 0) (in_get_d ss j 0 h)

  record Fits8 (b : Rec) : Type 0 where
    address8 : b.address < 256 ^ 8
    stamp8 : b.stamp < 256 ^ 8
    stripe4 : b.stripe < 256 ^ 4

  fits_at : (j : ℕ) → j < length ss → Fits8 (rec_of p gone x (get_or ss j 0) d)
  fits_at j h =
      let (l, c) = counted_nth j h in
      let f = decoded-low (get_or ss j 0) c in
      record { address8 = f.0; stamp8 = f.1; stripe4 = subst (λ (n : ℕ). n < 256 ^ 4) (sym (decoded_stripe (get_or ss j 0))) (omega (arith, r.stripes_high)) }

  record_of : (j : ℕ) → j < length ss → record_in p w (zone_at u d (zone_on g d)) j ≡ rec_of p gone x (get_or ss j 0) d
  record_of j h = go w refl
    where
      fit : Fits8 (piece_at j).rec
      fit = subst (λ (b : Rec). Fits8 b) (sym (piece_rec p gone x (get_or ss j 0) d)) (fits_at j h)

      go : (b : Bool) → w ≡ b → record_in p w (zone_at u d (zone_on g d)) j ≡ rec_of p gone x (get_or ss j 0) d
      go false q =
          ap (λ (b : Bool). record_in p b (zone_at u d (zone_on g d)) j) q
          ∙ spare_back p (zone_at u d (zone_on g d)) j (piece_at j) (rebuilt_piece p v d lo g m j h) fit.address8 fit.stamp8 fit.stripe4 ∙ piece_rec p gone x (get_or ss j 0) d
      go true q =
          let n = sealed-all p r v gone acc g m q in
          let i = j / per_footer p in
          let kp : 0 < per_footer p = omega (arith, per_footer_low p r) in
          let hi : i < footers p = (div-lt_iff_lt-mul kp).1 (let z = footers_cover p r in let t : j < footers p * per_footer p = omega arith in t) in
          ap (λ (b : Bool). record_in p b (zone_at u d (zone_on g d)) j) q
          ∙ footer_back p r (zone_at u d (zone_on g d)) made j (piece_at j).rec made_long made-low made_at
          (rebuilt_foot p v d lo g m (full_is p v gone g ∙ q) n i hi) fit.address8 fit.stamp8 fit.stripe4
          ∙ piece_rec p gone x (get_or ss j 0) d
        where
          made_is : length made ≡ length ss
          made_is = length-map (map (λ s. piece_of p gone x s d) ss) (λ (c : Piece). record_bytes c.rec) ∙ length-map ss (λ s. piece_of p gone x s d)

          made-low : j < length made
          made-low = subst (λ (n : ℕ). j < n) (sym made_is) h

          made_long : Long spare_len made
          made_long b i = let (c, k, e) = map_in (λ (c : Piece). record_bytes c.rec) (map (λ s. piece_of p gone x s d) ss) b i in ap length e ∙ length_record c.rec

          made_at : get_or made j [] ≡ record_bytes (piece_at j).rec
          made_at =
              ap (λ (l : List (List ℕ)). get_or l j []) (map-map (λ (c : Piece). record_bytes c.rec) (λ s. piece_of p gone x s d) ss)
              ∙ get_d_map (λ s. record_bytes (piece_of p gone x s d).rec) ss j [] 0 h

  pub recs_rebuilt : recs_on y d ≡ map (λ s. rec_of p gone x s d) ss
  recs_rebuilt =
      recs_here p u 0 g d hd (is_in_empty d) ∙ ap (λ (b : Bool). records_in p b (zone_at u d (zone_on g d))) rebuilt-sealed
      ∙ ext_get_or (mk_rec 0 0 0) (records_in p w (zone_at u d (zone_on g d))) (map (λ s. rec_of p gone x s d) ss) (long ∙ sym (length-map ss (λ s. rec_of p gone x s d))) each
    where
      n : data_stored p (zone_at u d (zone_on g d)) ≡ length ss
      n = rebuilt-stored p v d lo g m

      long : length (records_in p w (zone_at u d (zone_on g d))) ≡ length ss
      long = length_records p w (zone_at u d (zone_on g d)) ∙ n

      each : (j : ℕ) → j < length (records_in p w (zone_at u d (zone_on g d)))
          → get_or (records_in p w (zone_at u d (zone_on g d))) j (mk_rec 0 0 0) ≡ get_or (map (λ s. rec_of p gone x s d) ss) j (mk_rec 0 0 0)
      each j h =
          let h2 : j < length ss = subst (λ (k : ℕ). j < k) long h in
          row j (subst (λ (k : ℕ). j < k) (sym n) h2) ∙ record_of j h2 ∙ sym (get_d_map (λ s. rec_of p gone x s d) ss j (mk_rec 0 0 0) 0 h2)
        where
          row : (j : ℕ) → j < data_stored p (zone_at u d (zone_on g d)) → get_or (records_in p w (zone_at u d (zone_on g d))) j (mk_rec 0 0 0) ≡ record_in p w (zone_at u d (zone_on g d)) j
          row j h = unfold records_in in get_d_map-below (record_in p w (zone_at u d (zone_on g d))) (data_stored p (zone_at u d (zone_on g d))) j (mk_rec 0 0 0) h

  pub recs_other : (e : ℕ) → e < p.N → is_in gone e ≡ false → recs_on y e ≡ recs_on x e
  recs_other e he pr = recs_here p u 0 g e he (is_in_empty e) ∙ ap₂ (λ (b : Bool) (q : Zone). records_in p b q) rebuilt-sealed (kept_zone_here e he pr) ∙ sym (recs_here p v gone g e he pr)

  -- ---- headers

  pub header_of : (e : ℕ) → e < p.N → get_or (zone_at u e (zone_on g e)).blocks 0 no_chunk ≡ mk_chunk (header_block p e (zones_in p g) x.serial x.copied) zero_spare
  header_of e he = header_rebuilt p r v lo.shaped d hd acc g e m he

  pub rebuilt_serial : y.serial ≡ x.serial
  unfolding header_at
  rebuilt_serial = serial_is p u 0 g ∙ back (rebuilt_serial_in p r v lo.shaped d hd acc g (low_drive p 0) m (zero_here p r).0)
    where
      back : {s : ℕ} → serial_in p u (low_drive p 0) (zone_on g (low_drive p 0)) ≡ s → header_serial p (chunk_at u (low_drive p 0) (zone_on g (low_drive p 0)) 0).block ≡ s
      back e = unfold serial_in in e

  pub rebuilt-copied : y.copied ≡ x.copied
  rebuilt-copied = copied_is p u 0 g ∙ rebuilt-copied_in p r v lo.shaped d hd acc g (low_drive p 0) m (zero_here p r).0

  -- ---- stripes that count

  abbrev of : ℕ → Rec → Bool
  of s b = eqb b.stripe s

  has_rebuilt : (s : ℕ) → In s ss → has_chunk y s d ≡ true
  unfolding has_chunk
  has_rebuilt s i = ap (any (of s)) recs_rebuilt
      ∙ in_any (of s) (map (λ t. rec_of p gone x t d) ss) (rec_of p gone x s d) (in_map (λ t. rec_of p gone x t d) ss s i) (eq-eqb (rec_of p gone x s d).stripe s (decoded_stripe s))

  rebuilt_has : (s e : ℕ) → e < p.N → is_in gone e ≡ false → has_chunk y s e ≡ has_chunk x s e
  unfolding has_chunk
  rebuilt_has s e he pr = ap (any (of s)) (recs_other e he pr)

  pub rebuilt-counts : (s : ℕ) → s < p.S → counts p 0 y s ≡ counts p gone x s
  unfolding counts
  rebuilt-counts s hs = same_test (counts p 0 y s) (counts p gone x s)
      (λ q. in_all (has_chunk x s) (present p gone) (λ e i. let (he, pr) = present_in p gone e i in sym (rebuilt_has s e he pr) ∙ all_in (has_chunk y s) (present p 0) q e (present-all p e he)))
      (λ q. in_all (has_chunk y s) (present p 0) (λ e i. each_drive p v d lo {P = λ e. has_chunk y s e ≡ true} (has_rebuilt s (in_counted q))
      (λ e he pr. rebuilt_has s e he pr ∙ all_in (has_chunk x s) (present p gone) q e (in_present p gone e he pr)) e (present_in p 0 e i).0))
    where
      in_counted : counts p gone x s ≡ true → In s ss
      in_counted q = unfold counted in in_keep (counts p gone x) (below p.S) s (in_below p.S s hs) q

  pub same_counted : counted p 0 y ≡ ss
  unfolding counted
  same_counted = keep_cong (counts p 0 y) (counts p gone x) (below p.S) (λ s i. rebuilt-counts s (below_in p.S s i))

  -- ---- chunks of counted stripes

  pub offset_other : (s e : ℕ) → e < p.N → is_in gone e ≡ false → offset_on y e s ≡ offset_on x e s
  unfolding offset_on
  offset_other s e he pr = ap (index_of (of s)) (recs_other e he pr)

  abbrev rank : ℕ → ℕ
  rank s = tally (counts p gone x) (below s)

  rank_in : (s : ℕ) → s < p.S → counts p gone x s ≡ true → (rank s < length ss) × (get_or ss (rank s) 0 ≡ s)
  unfolding counted
  rank_in s h c = (rank_low (counts p gone x) s p.S h c, rank_at (counts p gone x) s p.S h c)

  counted_rank : (j : ℕ) → j < length ss → rank (get_or ss j 0) ≡ j
  unfolding counted
  counted_rank j h = rank_of_holds (counts p gone x) p.S j h

  pub offset_rebuilt : (s : ℕ) → s < p.S → counts p gone x s ≡ true → offset_on y d s ≡ rank s
  unfolding offset_on
  offset_rebuilt s h c =
      let (l, e) = rank_in s h c in
      let ll : length (map (λ t. rec_of p gone x t d) ss) ≡ length ss = length-map ss (λ t. rec_of p gone x t d) in
      let at : (j : ℕ) → j < length ss → (get_or (map (λ t. rec_of p gone x t d) ss) j (mk_rec 0 0 0)).stripe ≡ get_or ss j 0 =
      λ j k. ap (λ (b : Rec). b.stripe) (get_d_map (λ t. rec_of p gone x t d) ss j (mk_rec 0 0 0) 0 k) ∙ decoded_stripe (get_or ss j 0) in
      ap (index_of (of s)) recs_rebuilt
      ∙ index_is (of s) (map (λ t. rec_of p gone x t d) ss) (mk_rec 0 0 0) (rank s) (omega arith)
      (eq-eqb (get_or (map (λ t. rec_of p gone x t d) ss) (rank s) (mk_rec 0 0 0)).stripe s (at (rank s) l ∙ e))
      (λ j k. ne_eqb (get_or (map (λ t. rec_of p gone x t d) ss) j (mk_rec 0 0 0)).stripe s
      (λ q.
      let l2 : j < length ss = omega arith in
      let z : j ≡ rank s = sym (counted_rank j l2) ∙ ap rank (sym (at j l2) ∙ q) in
      let bad : ⊥ = omega arith in bad))

  pub rebuilt_piece_same : (s e : ℕ) → s < p.S → counts p gone x s ≡ true → e < p.N → piece_of p 0 y s e ≡ piece_of p gone x s e
  rebuilt_piece_same s e h c he = each_drive p v d lo {P = λ e. piece_of p 0 y s e ≡ piece_of p gone x s e} (none! d ∙ here) (λ e he pr. none! e ∙ there e he pr) e he
    where
      none! : (e : ℕ) → piece_of p 0 y s e ≡ stored_piece y s e
      none! e = chunk_stored p 0 y s e (is_in_empty e)

      there : (e : ℕ) → e < p.N → is_in gone e ≡ false → stored_piece y s e ≡ piece_of p gone x s e
      there e he pr = same ∙ sym (chunk_stored p gone x s e pr)
        where
          same : stored_piece y s e ≡ stored_piece x s e
          same = unfold stored_piece in rw (offset_other s e he pr, recs_other e he pr, zone_by p u 0 g e he, zone_by p v gone g e he, kept_zone_here e he pr)

      block! : (get_or (get_or y.zones_by_holds d no_zone).blocks (1 + offset_on y d s) no_chunk).block ≡ (piece_of p gone x s d).block
      block! =
          let (l, e) = rank_in s h c in
          ap₂ (λ (q : Zone) (n : ℕ). (get_or q.blocks (1 + n) no_chunk).block) (zone_by p u 0 g d hd) (offset_rebuilt s h c)
          ∙ ap (λ (k : Chunk). k.block) (rebuilt_piece p v d lo g m (rank s) l) ∙ chunk! (piece_at (rank s)) ∙ ap (λ (n : ℕ). (piece_of p gone x n d).block) e
        where
          chunk! : (q : Piece) → (piece_chunk q).block ≡ q.block
          chunk! q = unfold piece_chunk in refl

      rec! : get_or (recs_on y d) (offset_on y d s) (mk_rec 0 0 0) ≡ (piece_of p gone x s d).rec
      rec! =
          let (l, e) = rank_in s h c in
          ap₂ (λ (b : List Rec) (n : ℕ). get_or b n (mk_rec 0 0 0)) recs_rebuilt (offset_rebuilt s h c)
          ∙ get_d_map (λ t. rec_of p gone x t d) ss (rank s) (mk_rec 0 0 0) 0 l ∙ ap (λ (n : ℕ). rec_of p gone x n d) e ∙ sym (piece_rec p gone x s d)

      here : stored_piece y s d ≡ piece_of p gone x s d
      here = unfold stored_piece in λ i. record { block = block! i; rec = rec! i }

  pub same_rec : (s e : ℕ) → s < p.S → counts p gone x s ≡ true → e < p.N → rec_of p 0 y s e ≡ rec_of p gone x s e
  same_rec s e h c he = sym (piece_rec p 0 y s e) ∙ ap (λ (q : Piece). q.rec) (rebuilt_piece_same s e h c he) ∙ piece_rec p gone x s e
