-- Blocks and spares of a view have their lengths, and so have the blocks and records made of them. Assumes nothing.
use Rattle.std.specs.Prelude.{◌≡◌, List, [], map, true, false, ℕ, ◌+◌, ◌≤◌, ◌<◌, get_or, take, drop, set}
use Rattle.std.proofs.Math.Path.{refl, ap, subst}
use Rattle.std.proofs.Common.{sym, ◌∙◌, arith, length-set, get_or-set_same, get_or-set_other}
use Rattle.std.proofs.Math.Decide.{ℕ_discrete}
use Rattle.std.proofs.Math.ListN.{length, length-map}
use Rattle.spec.specs.declared.Params.{Params}
use Rattle.spec.specs.Drives.{Chunk, mk_chunk, no_chunk, Zone, View, zone_at, chunk_at, Store, put_zone, Disk, zone_on, zero_spare, spares_of, footer_stores}
use Rattle.spec.specs.Drives.{header_stores, reset_stores, zones_in, is_good}
use Rattle.spec.specs.Drives.Store.{put, reset}
use Rattle.spec.specs.Layout.{data_drive, data_drives, data_position, is_data, parity_position, header_block, mk_rec, footer_block}
use Rattle.spec.specs.Lists.{up_from, below, is_in}
use Rattle.spec.specs.Params.{data_count, spare_len, capacity, unit_len, place_of, place_byte, drives_of}
use Rattle.spec.specs.Parity.{Piece, mk_piece, encode_piece}
use Rattle.spec.specs.Restart.{renumbered, moved_pieces, moved_on}
use Rattle.spec.specs.Segments.{Segment, segment_of, offset_on, has_chunk, counts, stored_piece, piece_of, put_piece}
use Rattle.law_basic.specs.Fields.{length_record, length-zero_spare, header_block_long}
use Rattle.law_basic.specs.Geometry.{Ranged, block_within, data_drive_lt, position_lt}
use Rattle.law_basic.specs.Mask.{is_in_empty}
use Rattle.law_basic.specs.Ranges.{Test, test, length_up_from, length-below}
use Rattle.law_basic.specs.Ranges.Test.{yes!, no! }
use Rattle.law_basic.specs.Splice.{length_part}
use Rattle.law_basic.specs.Each.{each_map, each_data}
use Rattle.law_code.specs.Chunks.{chunk_decoded, moved_is_data, moved_is_parity}
use Rattle.law_code.specs.Code.{encode_long, encode_apart, decode_long, decode_apart}
use Rattle.law_drives.specs.Footers.{spares_in, footer_chunks, footer_puts}
use Rattle.law_drives.specs.Laid.{Long, in_take, in_drop, length_footer}
use Rattle.law_drives.specs.Members.{In, map_in, below_in, in_get_d, get_d_in}
use Rattle.law_drives.specs.Puts.{put_at}
use Rattle.law_drives.specs.Range.{capacity_over}
use Rattle.law_drives.specs.Segs.{data_low, zone_by, chunk_at_holds}
use Rattle.law_drives.specs.Spots.{counts_in}
use Rattle.law_views.specs.Views.{Whole, blocks_long, block_view, spare_view, seen}
use Rattle.proof_answers.specs.Rising.{Proper}
use Rattle.spec.specs.declared.Seg.{Seg}
use Rattle.law_basic.specs.Segs.{zones_in_long}

-- ---- zones

-- 01, The array: a zone has its blocks, each block and spare its length
pub record Fair (p : Params) (q : Zone) : Type 0 where
  pub count : length q.blocks ≡ capacity p
  pub block_long : (b : ℕ) → b < capacity p → length (get_or q.blocks b no_chunk).block ≡ p.B
  pub spare_long : (b : ℕ) → b < capacity p → length (get_or q.blocks b no_chunk).spare ≡ spare_len

-- the zones of lent bytes are so
pub fair_of : (p : Params) (off : List ℕ) (k : Disk) → Whole p k → (d z : ℕ) → d < p.N → z < p.Z → Fair p (zone_at (seen p off k) d z)
fair_of p off k w d z hd hz = record {
  count = blocks_long p off k d z hd hz w;
  block_long = λ b h. as_block b (ap length (block_view p off k d z hd hz w b h) ∙ length_part (at b) p.B k.image (room b h).0);
  spare_long = λ b h. as_spare b (ap length (spare_view p off k d z hd hz w b h) ∙ length_part (at b + p.B) spare_len k.image (room b h).1);
}
  where
    at : ℕ → ℕ
    at b = place_byte p (place_of p d z b)

    room : (b : ℕ) → b < capacity p → (at b + p.B ≤ length k.image) × (at b + p.B + spare_len ≤ length k.image)
    room b h =
        let f : at b + unit_len p ≤ length k.image = subst (λ (x : ℕ). at b + unit_len p ≤ x) (sym w.image_long) (block_within p d z b hd hz h) in
        let u : unit_len p ≡ p.B + spare_len = unit_is in
        (omega arith, omega arith)
      where
        unit_is : unit_len p ≡ p.B + spare_len
        unit_is = unfold unit_len in refl

    as_block : (b : ℕ) → length (chunk_at (seen p off k) d z b).block ≡ p.B → length (get_or (zone_at (seen p off k) d z).blocks b no_chunk).block ≡ p.B
    as_block b e = unfold chunk_at in e

    as_spare : (b : ℕ) → length (chunk_at (seen p off k) d z b).spare ≡ spare_len → length (get_or (zone_at (seen p off k) d z).blocks b no_chunk).spare ≡ spare_len
    as_spare b e = unfold chunk_at in e

-- a put keeps it so
pub put_fair : (p : Params) (q : Zone) (b s : List ℕ) → Fair p q → length b ≡ p.B → length s ≡ spare_len → Fair p (put_zone b s q)
unfolding put_zone
put_fair p q b s f hb hs = record {
  count = length-set q.blocks q.pointer (mk_chunk b s) ∙ f.count;
  block_long = λ i h. ap (λ (c : Chunk). length c.block) (at i h).1 ∙ (at i h).2.0;
  spare_long = λ i h. ap (λ (c : Chunk). length c.spare) (at i h).1 ∙ (at i h).2.1;
}
  where
    at : (i : ℕ) → i < capacity p → (c : Chunk) × (get_or (set q.blocks q.pointer (mk_chunk b s)) i no_chunk ≡ c) × ((length c.block ≡ p.B) × (length c.spare ≡ spare_len))
    at i h = go (ℕ_discrete i q.pointer)
      where
        go : Dec (i ≡ q.pointer) → (c : Chunk) × (get_or (set q.blocks q.pointer (mk_chunk b s)) i no_chunk ≡ c) × ((length c.block ≡ p.B) × (length c.spare ≡ spare_len))
        go (yes e) = (
          mk_chunk b s,
          ap (λ (x : ℕ). get_or (set q.blocks q.pointer (mk_chunk b s)) x no_chunk) e
              ∙ get_or-set_same q.blocks q.pointer (mk_chunk b s) no_chunk (subst (λ (x : ℕ). q.pointer < x) (sym f.count) (subst (λ (x : ℕ). x < capacity p) e h)),
          (hb, hs),
        )
        go (no e) = (get_or q.blocks i no_chunk, get_or-set_other q.blocks q.pointer i (mk_chunk b s) no_chunk e, (f.block_long i h, f.spare_long i h))

-- ---- headers, resets, footers

-- a segment whose zones are good zones of the array (02, item 4)
abbrev pub OnGood : Params → List ℕ → Seg → Type 0
OnGood p off g = (d : ℕ) → d < p.N → (zone_on g d < p.Z) × (is_good p off d (zone_on g d) ≡ true)

module _ (p : Params) (r : Ranged p) (off : List ℕ) where
  listed_drive_low : (d : ℕ) → In d (drives_of p) → d < p.N
  unfolding drives_of
  listed_drive_low d m = below_in p.N d m

  pub header_proper : (d : ℕ) (g h : Seg) (s c : ℕ) → d < p.N → OnGood p off g → Proper p off (put d (zone_on g d) (header_block p d (zones_in p h) s c) zero_spare)
  header_proper d g h s c hd hg = let (hz, ok) = hg d hd in (hd, hz, ok, header_block_long p r d (zones_in p h) s c (zones_in_long p h), length-zero_spare)

  pub headers_proper : (z : Seg) (sn c : ℕ) → OnGood p off z → (s : Store) → In s (header_stores p z sn c) → Proper p off s
  unfolding header_stores
  headers_proper z sn c hz s m =
      let (d, i, e) = map_in (λ d. put d (zone_on z d) (header_block p d (zones_in p z) sn c) zero_spare) (drives_of p) s m in
      subst (λ (x : Store). Proper p off x) (sym e) (header_proper d z z sn c (listed_drive_low d i) hz)

  pub resets_proper : (z : Seg) → OnGood p off z → (s : Store) → In s (reset_stores p z) → Proper p off s
  unfolding reset_stores
  resets_proper z hz s m =
      let (d, i, e) = map_in (λ d. reset d (zone_on z d)) (drives_of p) s m in
      let hd = listed_drive_low d i in
      let (lo, ok) = hz d hd in
      subst (λ (x : Store). Proper p off x) (sym e) (hd, lo, ok)

  pub footer_proper : (d z : ℕ) (ss : List (List ℕ)) (i : ℕ) → d < p.N → z < p.Z → is_good p off d z ≡ true → Long spare_len ss
      → Proper p off (put d z (footer_block p ss i) zero_spare)
  footer_proper d z ss i hd hz ok l = (hd, hz, ok, length_footer p r ss i l, length-zero_spare)

  fair_spares_long : (q : Zone) → Fair p q → Long spare_len (spares_in p q)
  unfolding spares_in spares_of
  fair_spares_long q f s m =
      let (c, i, e) = map_in (λ (c : Chunk). c.spare) (take p.S (drop 1 q.blocks)) s m in
      let (b, h, g) = get_d_in q.blocks no_chunk c (in_drop 1 q.blocks c (in_take p.S (drop 1 q.blocks) c i)) in
      ap length (e ∙ ap (λ (x : Chunk). x.spare) g) ∙ f.spare_long b (subst (λ (x : ℕ). b < x) f.count h)

  pub footers_proper : (q : Zone) → Fair p q → (d z i n : ℕ) → d < p.N → z < p.Z → is_good p off d z ≡ true → (s : Store) → In s (footer_stores p d z q i n) → Proper p off s
  footers_proper q f d z i n hd hz ok s m =
      let (c, j, e) = map_in (put_at d z) (footer_chunks p q i n) s (subst (λ (x : List Store). In s x) (footer_puts p d z q i n) m) in
      let (b, h, g) = map_in (λ j. mk_chunk (footer_block p (spares_in p q) j) zero_spare) (up_from i n) c (chunk_in c j) in
      subst (λ (x : Store). Proper p off x) (sym (e ∙ ap (put_at d z) g)) (plain b)
    where
      chunk_in : (c : Chunk) → In c (footer_chunks p q i n) → In c (map (λ j. mk_chunk (footer_block p (spares_in p q) j) zero_spare) (up_from i n))
      chunk_in c j = unfold footer_chunks in j

      plain : (j : ℕ) → Proper p off (put_at d z (mk_chunk (footer_block p (spares_in p q) j) zero_spare))
      plain j = unfold put_at in footer_proper d z (spares_in p q) j hd hz ok (fair_spares_long q f)

-- how many footer blocks there are
pub footer_chunks_count : (p : Params) (q : Zone) (i n : ℕ) → length (footer_chunks p q i n) ≡ n
unfolding footer_chunks
footer_chunks_count p q i n = length-map (up_from i n) (λ j. mk_chunk (footer_block p (spares_in p q) j) zero_spare) ∙ length_up_from i n

-- ---- chunks of a segment

module _ (p : Params) (r : Ranged p) (v : View) (fair : (d z : ℕ) → d < p.N → z < p.Z → Fair p (zone_at v d z)) (gone : ℕ) (g : Seg)
    (hg : (d : ℕ) → d < p.N → zone_on g d < p.Z) where
  abbrev x : Segment
  x = segment_of p v gone g

  -- stored
  fair_piece_long : (s d : ℕ) → d < p.N → is_in gone d ≡ false → has_chunk x s d ≡ true → length (stored_piece x s d).block ≡ p.B
  unfolding stored_piece
  fair_piece_long s d hd q c =
      let o = offset_on x d s in
      let l = data_low p (zone_at v d (zone_on g d)) o (chunk_at_holds p v gone g d s hd q c).stored_there in
      ap (λ (y : Zone). length (get_or y.blocks (1 + o) no_chunk).block) (zone_by p v gone g d hd)
      ∙ (fair d (zone_on g d) hd (hg d hd)).block_long (1 + o) (omega (arith, capacity_over p r))

  module _ (s : ℕ) (c : counts p gone x s ≡ true) where
    present_long : (d : ℕ) → d < p.N → is_in gone d ≡ false → length (stored_piece x s d).block ≡ p.B
    present_long d hd q = fair_piece_long s d hd q (counts_in p gone x s d c hd q)

    -- decoded
    pub lost_piece_long : (d : ℕ) → is_in gone d ≡ true → length (piece_of p gone x s d).block ≡ p.B
    lost_piece_long d lost =
        ap (λ (q : Piece). length q.block) (chunk_decoded p gone x s d lost ∙ decode_apart p gone s d (stored_piece x s))
        ∙ decode_long p gone s d (λ e. (stored_piece x s e).block) present_long

-- 01, Restart, 4: and moved
module _ (p : Params) (r : Ranged p) (v : View) (fair : (d z : ℕ) → d < p.N → z < p.Z → Fair p (zone_at v d z)) (g : Seg) (hg : (d : ℕ) → d < p.N → zone_on g d < p.Z)
    (s : ℕ) (c : counts p 0 (segment_of p v 0 g) s ≡ true) (k : ℕ) where
  abbrev seg : Segment
  seg = segment_of p v 0 g

  abbrev qs : List Piece
  qs = moved_pieces p seg s k

  data_pieces_long : (q : Piece) → In q qs → length q.block ≡ p.B
  unfolding moved_pieces data_drives renumbered
  data_pieces_long q m =
      let (d, i, e) = map_in (λ d. renumbered k (stored_piece seg s d)) (map (data_drive p s) (below (data_count p))) q m in
      let (n, j, f) = map_in (data_drive p s) (below (data_count p)) d i in
      let hd : d < p.N = subst (λ (u : ℕ). u < p.N) (sym f) (data_drive_lt p s n (below_in (data_count p) n j)) in
      ap (λ (y : Piece). length y.block) e ∙ present_long p r v fair 0 g hg s c d hd (is_in_empty d)

  count-pieces : length qs ≡ data_count p
  unfolding moved_pieces data_drives
  count-pieces =
      length-map (map (data_drive p s) (below (data_count p))) (λ d. renumbered k (stored_piece seg s d))
      ∙ length-map (below (data_count p)) (data_drive p s) ∙ length-below (data_count p)

  pub moved_piece_long : (d : ℕ) → d < p.N → length (moved_on p qs k d).block ≡ p.B
  moved_piece_long d hd = go (test (is_data p k d))
    where
      from : ℕ → Piece
      from e = renumbered k (stored_piece seg s e)

      here : (e : ℕ) → e < p.N → length (from e).block ≡ p.B
      here e he = unfold renumbered in present_long p r v fair 0 g hg s c e he (is_in_empty e)

      are : qs ≡ map from (data_drives p s)
      are = unfold moved_pieces in refl

      go : Test (is_data p k d) → length (moved_on p qs k d).block ≡ p.B
      go (yes! q) = ap (λ (y : Piece). length y.block) (moved_is_data p qs k d q)
          ∙ data_pieces_long (get_or qs (data_position p k d) (mk_piece [] (mk_rec 0 0 0)))
          (in_get_d qs (data_position p k d) (mk_piece [] (mk_rec 0 0 0)) (subst (λ (n : ℕ). data_position p k d < n) (sym count-pieces) (position_lt p k d q hd)))
      go (no! q) =
          ap (λ (y : Piece). length y.block) (moved_is_parity p qs k d q ∙ ap (encode_piece p (parity_position p k d) k) are ∙ encode_apart p (parity_position p k d) k from (data_drives p s))
          ∙ encode_long p.B (parity_position p k d) (map (λ e. (from e).block) (data_drives p s))
          (each_map (λ (b : List ℕ). length b ≡ p.B) (λ e. (from e).block) (data_drives p s) (each_data (λ e. length (from e).block ≡ p.B) p s (λ e he n. here e he)))

-- the store of a piece
pub piece_proper : (p : Params) (off : List ℕ) (d z : ℕ) (q : Piece) → d < p.N → z < p.Z → is_good p off d z ≡ true → length q.block ≡ p.B → Proper p off (put_piece d z q)
unfolding put_piece
piece_proper p off d z q hd hz ok h = (hd, hz, ok, h, length_record q.rec)
