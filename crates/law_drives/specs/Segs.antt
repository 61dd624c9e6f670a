-- Segments as read: records by drive, the offset of a stripe, members of what remains, candidates.
use Rattle.std.specs.Prelude.{◌≡◌, true, false, not, ℕ, ◌+◌, ◌<◌}
use Rattle.std.proofs.Math.Path.{refl, ap, ap₂, subst}
use Rattle.std.proofs.Common.{sym, ◌∙◌, arith}
use mathlib.Core.List.{List, [], map}
use Rattle.std.proofs.Math.Bool.{Bool, cond}
use borrow.Author.Tests.{eq-eqb, ne_eqb, eqb-true, eqb-false}
use Rattle.std.proofs.Math.Dec.{eqb}
use Rattle.std.proofs.Math.ListN.{length, get_or}
use Rattle.std.proofs.lemmas.List.{length-map}
use Rattle.spec.specs.declared.Params.{Params}
use Rattle.spec.specs.Drives.{no_chunk, Zone, no_zone, View, zone_at, chunk_at, zone_on, sealed_in, data_stored, record_in, record_at, same_seg}
use Rattle.spec.specs.Layout.{data_drive, data_drives, header_serial, header_copied, Rec, mk_rec}
use Rattle.spec.specs.Lists.{below, keep, index_of, is_in, any}
use Rattle.spec.specs.Params.{data_count, drives_of}
use Rattle.spec.specs.Parity.{Piece, mk_piece}
use Rattle.spec.specs.Rank.{Cand}
use Rattle.spec.specs.Read.{stored_at}
use Rattle.spec.specs.Segments.{low_drive, header_at, left_by1, is_copy, remaining, Segment, records_in, segment_of, segments, recs_on, offset_on, has_chunk, counts}
use Rattle.spec.specs.Segments.{counted, stored_rec, cand_of, segment_cands, candidates, stored_piece, piece_of, rec_of}
use Rattle.law_basic.specs.Ranges.{Test, test, length-below, get_d_map-below}
use Rattle.law_basic.specs.Segs.{ZonesLow, seg_self, seg_true}
use Rattle.law_drives.specs.Gather.{left_in, left_once}
use Rattle.law_basic.specs.Ranges.Test.{yes!, no! }
use Rattle.law_code.specs.Chunks.{chunk_stored, chunk_decoded, rec_here, rec_lost}
use Rattle.law_code.specs.Code.{decode_apart, decode_rec_same}
use Rattle.law_drives.specs.Members.{In, in_map, map_in, in_flat, flat_in, in_keep, keep_in, in_any, in_below, below_in, in_get_d, index_below, index_passes, index_first, index_is, any_in}
use Rattle.law_drives.specs.Tests.{not_so, cond_true, cond_false}
use Rattle.spec.specs.declared.Seg.{Seg}

-- a segment of a list, by its zones
pub is_seg : (g : Seg) (l : List Seg) → any (same_seg g) l ≡ true → In g l
is_seg g l q = let (k, m, e) = any_in (same_seg g) l q in subst (λ (x : Seg). In x l) (sym (seg_true g k e)) m

pub seg_in : (g : Seg) (l : List Seg) → In g l → any (same_seg g) l ≡ true
seg_in g l m = in_any (same_seg g) l g m (seg_self g)

-- ---- what remains

-- the lowest present drive is one of those present
abbrev pub Here : Params → ℕ → Type 0
Here p gone = (low_drive p gone < p.N) × (is_in gone (low_drive p gone) ≡ false)

pub remaining_left : (p : Params) (v : View) (gone : ℕ) (g : Seg) → In g (remaining p v gone) → In g (left_by1 p v gone)
unfolding remaining
remaining_left p v gone g m = (keep_in (λ g. not (is_copy p v (low_drive p gone) (left_by1 p v gone) g)) (left_by1 p v gone) g m).0

pub remaining-low : (p : Params) (v : View) (gone : ℕ) → Here p gone → (g : Seg) → In g (remaining p v gone) → ZonesLow p gone g
unfolding ZonesLow
remaining-low p v gone here g m = λ d h q. ((left_in p v gone here g (remaining_left p v gone g m)).on d h q).zone_low

-- segments that remain are apart on every present drive
pub remaining_once : (p : Params) (v : View) (gone : ℕ) → Here p gone → (g h : Seg) (d : ℕ) → In g (remaining p v gone) → In h (remaining p v gone) → d < p.N → is_in gone d ≡ false
    → zone_on g d ≡ zone_on h d → g ≡ h
remaining_once p v gone here g h d m n = left_once p v gone here g h d (remaining_left p v gone g m) (remaining_left p v gone h n)

-- ---- records of a zone

pub length_records : (p : Params) (w : Bool) (q : Zone) → length (records_in p w q) ≡ data_stored p q
unfolding records_in
length_records p w q = length-map (below (data_stored p q)) (record_in p w q) ∙ length-below (data_stored p q)

pub record_at_lem : (p : Params) (w : Bool) (q : Zone) (o : ℕ) (r : Rec) → o < data_stored p q → get_or (records_in p w q) o r ≡ record_in p w q o
unfolding records_in
record_at_lem p w q o r h = get_d_map-below (record_in p w q) (data_stored p q) o r h

pub data_low : (p : Params) (q : Zone) (o : ℕ) → o < data_stored p q → (o < p.S) × (1 + o < q.pointer)
unfolding data_stored
data_low p q o h = (omega arith, omega arith)

pub low_data : (p : Params) (q : Zone) (o : ℕ) → o < p.S → 1 + o < q.pointer → o < data_stored p q
unfolding data_stored
low_data p q o h k = omega arith

-- ---- a segment's zones and records by drive

module _ (p : Params) (v : View) (gone : ℕ) (g : Seg) where
  pub zone_by : (d : ℕ) → d < p.N → get_or (segment_of p v gone g).zones_by_holds d no_zone ≡ zone_at v d (zone_on g d)
  unfolding segment_of drives_of
  zone_by d h = get_d_map-below (λ d. zone_at v d (zone_on g d)) p.N d no_zone h

  pub recs_on_holds : (d : ℕ) → d < p.N → recs_on (segment_of p v gone g) d ≡ cond (is_in gone d) [] (records_in p (sealed_in p v gone g) (zone_at v d (zone_on g d)))
  unfolding recs_on segment_of drives_of
  recs_on_holds d h =
      get_d_map-below (λ d. cond (is_in gone d) [] (records_in p (sealed_in p v gone g) (get_or (map (λ d. zone_at v d (zone_on g d)) (below p.N)) d no_zone))) p.N d [] h
      ∙ ap (λ (x : Zone). cond (is_in gone d) [] (records_in p (sealed_in p v gone g) x)) (get_d_map-below (λ d. zone_at v d (zone_on g d)) p.N d no_zone h)

  pub recs_here : (d : ℕ) → d < p.N → is_in gone d ≡ false → recs_on (segment_of p v gone g) d ≡ records_in p (sealed_in p v gone g) (zone_at v d (zone_on g d))
  recs_here d h q = recs_on_holds d h ∙ cond_false (is_in gone d) [] (records_in p (sealed_in p v gone g) (zone_at v d (zone_on g d))) q

  pub recs_gone : (d : ℕ) → d < p.N → is_in gone d ≡ true → recs_on (segment_of p v gone g) d ≡ []
  recs_gone d h q = recs_on_holds d h ∙ cond_true (is_in gone d) [] (records_in p (sealed_in p v gone g) (zone_at v d (zone_on g d))) q

  pub seg_is : (segment_of p v gone g).seg ≡ g
  unfolding segment_of
  seg_is = refl

  pub serial_is : (segment_of p v gone g).serial ≡ header_serial p (header_at v (low_drive p gone) g)
  unfolding segment_of
  serial_is = refl

  pub copied_is : (segment_of p v gone g).copied ≡ header_copied p (header_at v (low_drive p gone) g)
  unfolding segment_of
  copied_is = refl

  pub full_is : (segment_of p v gone g).full ≡ sealed_in p v gone g
  unfolding segment_of
  full_is = refl

  -- where a drive has a stripe's chunk
  pub record ChunkAt (d s : ℕ) : Type 0 where
    pub stored_there : offset_on (segment_of p v gone g) d s < data_stored p (zone_at v d (zone_on g d))
    pub its_stripe : (record_in p (sealed_in p v gone g) (zone_at v d (zone_on g d)) (offset_on (segment_of p v gone g) d s)).stripe ≡ s
    pub its_record : stored_rec (segment_of p v gone g) s d ≡ record_in p (sealed_in p v gone g) (zone_at v d (zone_on g d)) (offset_on (segment_of p v gone g) d s)
    pub first : (o : ℕ) → o < offset_on (segment_of p v gone g) d s → ((record_in p (sealed_in p v gone g) (zone_at v d (zone_on g d)) o).stripe ≡ s) → ⊥

  pub chunk_at_holds : (d s : ℕ) → d < p.N → is_in gone d ≡ false → has_chunk (segment_of p v gone g) s d ≡ true → ChunkAt d s
  unfolding has_chunk offset_on stored_rec
  chunk_at_holds d s h q c =
      let w = sealed_in p v gone g in
      let z = zone_at v d (zone_on g d) in
      let rs = recs_on (segment_of p v gone g) d in
      let f : Rec → Bool = λ (r : Rec). eqb r.stripe s in
      let e : rs ≡ records_in p w z = recs_here d h q in
      let o = index_of f rs in
      let l : length rs ≡ data_stored p z = ap length e ∙ length_records p w z in
      let b : o < data_stored p z = subst (λ (x : ℕ). o < x) l (index_below f rs c) in
      let a : (i : ℕ) → i < data_stored p z → get_or rs i (mk_rec 0 0 0) ≡ record_in p w z i =
      λ i k. ap (λ (x : List Rec). get_or x i (mk_rec 0 0 0)) e ∙ record_at_lem p w z i (mk_rec 0 0 0) k in
      record {
        stored_there = b;
        its_stripe = ap (λ (r : Rec). r.stripe) (sym (a o b)) ∙ eqb-true (get_or rs o (mk_rec 0 0 0)).stripe s (index_passes f rs (mk_rec 0 0 0) c);
        its_record = a o b;
        first = λ i k x. eqb-false (get_or rs i (mk_rec 0 0 0)).stripe s (index_first f rs (mk_rec 0 0 0) i k) (ap (λ (r : Rec). r.stripe) (a i (omega arith)) ∙ x);
      }

  -- what is read at its offset is the chunk
  pub stored-at : (d s : ℕ) → d < p.N → is_in gone d ≡ false → has_chunk (segment_of p v gone g) s d ≡ true
      → stored_at p v gone d g (offset_on (segment_of p v gone g) d s) ≡ stored_piece (segment_of p v gone g) s d
  unfolding stored_at chunk_at record_at stored_piece stored_rec
  stored-at d s h q c =
      ap₂ mk_piece (ap (λ (z : Zone). (get_or z.blocks (1 + offset_on (segment_of p v gone g) d s) no_chunk).block) (sym (zone_by d h))) (sym (chunk_at_holds d s h q c).its_record)

  -- a chunk of the stripe gives one
  pub has_chunk_holds : (d s o : ℕ) → d < p.N → is_in gone d ≡ false → o < data_stored p (zone_at v d (zone_on g d))
      → (record_in p (sealed_in p v gone g) (zone_at v d (zone_on g d)) o).stripe ≡ s → has_chunk (segment_of p v gone g) s d ≡ true
  unfolding has_chunk
  has_chunk_holds d s o h q b e =
      let w = sealed_in p v gone g in
      let z = zone_at v d (zone_on g d) in
      let rs = recs_on (segment_of p v gone g) d in
      let l : length rs ≡ data_stored p z = ap length (recs_here d h q) ∙ length_records p w z in
      let a : get_or rs o (mk_rec 0 0 0) ≡ record_in p w z o = ap (λ (x : List Rec). get_or x o (mk_rec 0 0 0)) (recs_here d h q) ∙ record_at_lem p w z o (mk_rec 0 0 0) b in
      in_any (λ (r : Rec). eqb r.stripe s) rs (get_or rs o (mk_rec 0 0 0)) (in_get_d rs o (mk_rec 0 0 0) (subst (λ (x : ℕ). o < x) (sym l) b))
      (eq-eqb (get_or rs o (mk_rec 0 0 0)).stripe s (ap (λ (r : Rec). r.stripe) a ∙ e))

  -- its first offset
  pub offset_is : (d s o : ℕ) → d < p.N → is_in gone d ≡ false → o < data_stored p (zone_at v d (zone_on g d))
      → (record_in p (sealed_in p v gone g) (zone_at v d (zone_on g d)) o).stripe ≡ s
      → ((i : ℕ) → i < o → (record_in p (sealed_in p v gone g) (zone_at v d (zone_on g d)) i).stripe ≡ s → ⊥) → offset_on (segment_of p v gone g) d s ≡ o
  unfolding offset_on
  offset_is d s o h q b e f =
      let w = sealed_in p v gone g in
      let z = zone_at v d (zone_on g d) in
      let rs = recs_on (segment_of p v gone g) d in
      let l : length rs ≡ data_stored p z = ap length (recs_here d h q) ∙ length_records p w z in
      let a : (i : ℕ) → i < data_stored p z → get_or rs i (mk_rec 0 0 0) ≡ record_in p w z i =
      λ i k. ap (λ (x : List Rec). get_or x i (mk_rec 0 0 0)) (recs_here d h q) ∙ record_at_lem p w z i (mk_rec 0 0 0) k in
      index_is (λ (r : Rec). eqb r.stripe s) rs (mk_rec 0 0 0) o (subst (λ (x : ℕ). o < x) (sym l) b)
      (eq-eqb (get_or rs o (mk_rec 0 0 0)).stripe s (ap (λ (r : Rec). r.stripe) (a o b) ∙ e))
      (λ i k. ne_eqb (get_or rs i (mk_rec 0 0 0)).stripe s (λ x. f i k (ap (λ (r : Rec). r.stripe) (sym (a i (omega arith))) ∙ x)))

  pub no_chunk_holds : (d s : ℕ) → d < p.N → is_in gone d ≡ false
      → ((o : ℕ) → o < data_stored p (zone_at v d (zone_on g d)) → (record_in p (sealed_in p v gone g) (zone_at v d (zone_on g d)) o).stripe ≡ s → ⊥)
      → has_chunk (segment_of p v gone g) s d ≡ false
  no_chunk_holds d s h q f = not_so (has_chunk (segment_of p v gone g) s d)
      (λ c. let k = chunk_at_holds d s h q c in f (offset_on (segment_of p v gone g) d s) k.stored_there k.its_stripe)

-- ---- candidates

-- a candidate: of which segment, stripe and position
pub record CandAt (p : Params) (v : View) (gone : ℕ) (c : Cand) : Type 0 where
  pub of : Seg
  pub stripe : ℕ
  pub position : ℕ
  pub remains : In of (remaining p v gone)
  pub stripe_low : stripe < p.S
  pub it_counts : counts p gone (segment_of p v gone of) stripe ≡ true
  pub position_low : position < data_count p
  pub it_is : c ≡ cand_of p gone (segment_of p v gone of) stripe (data_drive p stripe position)

pub cand_at : (p : Params) (v : View) (gone : ℕ) (c : Cand) → In c (candidates p gone (segments p v gone)) → CandAt p v gone c
unfolding candidates segments segment_cands counted data_drives
cand_at p v gone c m =
    let (x, i, j) = flat_in (segment_cands p gone) (map (segment_of p v gone) (remaining p v gone)) c m in
    let (g, ig, e) = map_in (segment_of p v gone) (remaining p v gone) x i in
    let (s, is, k) = flat_in (λ s. map (cand_of p gone x s) (map (data_drive p s) (below (data_count p)))) (keep (counts p gone x) (below p.S)) c j in
    let (d, id, f) = map_in (cand_of p gone x s) (map (data_drive p s) (below (data_count p))) c k in
    let (n, jn, h) = map_in (data_drive p s) (below (data_count p)) d id in
    let (ks, q) = keep_in (counts p gone x) (below p.S) s is in
    record {
      of = g;
      stripe = s;
      position = n;
      remains = ig;
      stripe_low = below_in p.S s ks;
      it_counts = subst (λ (y : Segment). counts p gone y s ≡ true) e q;
      position_low = below_in (data_count p) n jn;
      it_is = f ∙ ap₂ (λ (y : Segment) (b : ℕ). cand_of p gone y s b) e h;
    }

pub at_cand : (p : Params) (v : View) (gone : ℕ) (c : Cand) → CandAt p v gone c → In c (candidates p gone (segments p v gone))
unfolding candidates segments segment_cands counted data_drives
at_cand p v gone c k =
    let g = k.of in
    let s = k.stripe in
    let n = k.position in
    let x = segment_of p v gone g in
    in_flat (segment_cands p gone) (map (segment_of p v gone) (remaining p v gone)) x c (in_map (segment_of p v gone) (remaining p v gone) g k.remains)
    (in_flat (λ s. map (cand_of p gone x s) (map (data_drive p s) (below (data_count p)))) (keep (counts p gone x) (below p.S)) s c
    (in_keep (counts p gone x) (below p.S) s (in_below p.S s k.stripe_low) k.it_counts)
    (subst (λ (y : Cand). In y (map (cand_of p gone x s) (map (data_drive p s) (below (data_count p))))) (sym k.it_is)
    (in_map (cand_of p gone x s) (map (data_drive p s) (below (data_count p))) (data_drive p s n)
    (in_map (data_drive p s) (below (data_count p)) n (in_below (data_count p) n k.position_low)))))

-- the record of a piece is the record alone
pub piece_rec : (p : Params) (gone : ℕ) (x : Segment) (s d : ℕ) → (piece_of p gone x s d).rec ≡ rec_of p gone x s d
piece_rec p gone x s d = go (test (is_in gone d))
  where
    alike : (e : ℕ) → (stored_piece x s e).rec ≡ stored_rec x s e
    alike e = unfold stored_piece stored_rec in refl

    go : Test (is_in gone d) → (piece_of p gone x s d).rec ≡ rec_of p gone x s d
    go (yes! e) =
        ap (λ (q : Piece). q.rec) (chunk_decoded p gone x s d e ∙ decode_apart p gone s d (stored_piece x s))
        ∙ decode_rec_same p gone s d (λ e. (stored_piece x s e).rec) (stored_rec x s) (λ e h n. (ap (λ (r : Rec). r.address) (alike e), ap (λ (r : Rec). r.stamp) (alike e)))
        ∙ sym (rec_lost p gone x s d e)
    go (no! e) = ap (λ (q : Piece). q.rec) (chunk_stored p gone x s d e) ∙ alike d ∙ sym (rec_here p gone x s d e)
