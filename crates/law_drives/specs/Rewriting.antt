-- A healthy restart rewrites the counted stripes of a ragged segment into zones that are free behind the drops and resets the old ones.
use Rattle.std.specs.Prelude.{◌≡◌, Bool, ◌&&◌, ◌⊎◌, ◌≢◌, get_or}
use Rattle.std.proofs.Math.Path.{refl, sym, ap, ap₂, subst}
use Rattle.std.proofs.Common.{◌∙◌, inl, inr, add-zero, le_of_eq}
use mathlib.Core.List.{List, [], ◌∷◌, ◌++◌, map}
use Rattle.std.proofs.Math.Bool.{true, false, cond, not}
use Rattle.std.proofs.Math.Logic.{⊎_elim}
use Prim.Native.Nat.{ℕ, zero, suc, ◌+◌, ◌-◌, ◌^◌, ◌≤◌, ◌<◌}
use Rattle.std.proofs.Math.Nat.{zero-add}
use Rattle.std.proofs.Math.Decide.{dec_lt, ℕ_discrete}
use borrow.Author.Tests.{lt-ltb, le-ltb, eq-eqb, ne_eqb, eqb-false, not-true}
use native.Mathlib.Omega.{arith}
use Rattle.std.proofs.Math.Dec.{ltb, eqb}
use Rattle.std.proofs.Math.ListN.{length}
use Rattle.std.proofs.lemmas.List.{length-map}
use Rattle.spec.specs.declared.Params.{Params}
use Rattle.spec.specs.Drives.{Chunk, mk_chunk, no_chunk, Zone, View, zone_at, pointer_at, chunk_at, Store, store_view_of, store_all, zone_on, sealed_in, zones_in, good_zones, is_good}
use Rattle.spec.specs.Drives.{data_stored, record_in, zero_spare, header_stores, reset_stores}
use Rattle.spec.specs.Drives.Store.{put}
use Rattle.spec.specs.Layout.{data_drive, data_position, is_data, parity_position, data_drives, header_block, header_serial, header_copied, Rec, mk_rec, record_bytes, record_of_of}
use Rattle.spec.specs.Lists.{up_from, below, all, any, cons_if, keep, is_nil, first_or}
use Rattle.spec.specs.Params.{data_count, capacity, drives_of, present}
use Rattle.spec.specs.Parity.{Piece, mk_piece, encode_block, encode_rec, encode_piece}
use Rattle.spec.specs.Restart.{is_whole, renumbered, moved_pieces, moved_on, moved_stripe, moved_stripes, rewrite_stores, drop_stores, free_seg, free_zones, none_free_of}
use Rattle.spec.specs.Segments.{header_at, remaining, Segment, segment_of, segments, has_chunk, counts, counted, stored_piece, put_piece, greatest_serial, is_used, serial_in}
use Rattle.law_basic.specs.Each.{each_map, each_data}
use Rattle.law_basic.specs.Geometry.{Ranged, data_drive_lt, position_lt}
use Rattle.law_basic.specs.Mask.{is_in_empty}
use Rattle.law_basic.specs.Ranges.{Test, test, and_both, length-below, get_d_map, get_d_map-below}
use Rattle.law_basic.specs.Ranges.Test.{yes!, no! }
use Rattle.law_code.specs.Chunks.{moved_is_data, moved_is_parity}
use Rattle.law_code.specs.Code.{encode_long, encode_stripe, encode_apart}
use Rattle.law_drives.specs.Accept.{Accepted}
use Rattle.law_drives.specs.Dropping.{drop_same, kept_known, drop_tidy, drop-cleared, drop_there, there_kept}
use Rattle.law_drives.specs.Headers.{header_within, Vacant, empty_unused, tidy_unborne, vacant_other, with_vacant}
use Rattle.law_drives.specs.Laid.{record_stripe}
use Rattle.law_basic.specs.Fields.{header_serial_holds, header_copied_holds}
use Rattle.law_drives.specs.Members.{In, in_append, map_in, in_all, keep_cong, keep_nothing, from_in, below_in, first_in, in_any, in_below, in_get_d, in_map, keep_in, none_in}
use Rattle.law_drives.specs.Mending.{Mended, shaped_a}
use Rattle.law_drives.specs.Puts.{hits-append, put_at, hits_drives, put_all, puts_pointer, puts_new, room_puts, header_sound, data_sound, hits-headers}
use Rattle.law_drives.specs.Range.{capacity_over}
use Rattle.law_drives.specs.Rebuilding.{counted-low, counted_in, piece_chunk, stored_long}
use Rattle.law_drives.specs.Resets.{reset_within, Alone, TidyBut, reset_keeps, reset_other, reset_roomy, reset_tidy_but, reset_was, together-alone}
use Rattle.law_drives.specs.Segs.{data_low, low_data, seg_is, serial_is, has_chunk_holds, no_chunk_holds}
use Rattle.law_drives.specs.Settled.{low_first, SameZones, zones_header, zones_pointer, sealed_full, its_zone, its_zones_low, there_once, there_serial}
use Rattle.law_drives.specs.Spots.{counts_in}
use Rattle.law_drives.specs.Steady.{Steady, SealedAll}
use Rattle.law_drives.specs.Steady.Rest.{rest_open}
use Rattle.law_drives.specs.Tests.{clash, not_so, cond_true, cond_false, cond_same, eqb_self}
use Rattle.law_drives.specs.Tidy.{spare_at, Tidy, There}
use Rattle.law_drives.specs.Zones.{SoundChunk, Shaped, hits_at_of, zone_store, hits, zone_after, Room, Within, Roomy, shaped_after}
use Rattle.spec.specs.declared.Seg.{Seg}
use Rattle.law_basic.specs.Segs.{ZonesLow, zones_in_long}
use Rattle.law_basic.specs.Stores.{store_all-append}
use Rattle.law_drives.specs.Gather.{present_in}
use Rattle.law_drives.specs.Growing.{head_zone, used_zone}
use Rattle.law_drives.specs.Heads.{Headed, headed_keeps, headed_there, headed_was}
use Rattle.law_drives.specs.Joins.{roomy_append, within_append}
use Rattle.law_views.specs.Alike.{offline_after}

keep_firsts : (c i n : ℕ) → i ≤ c → c ≤ i + n → keep (λ s. ltb s c) (up_from i n) ≡ up_from i (c - i)
unfolding keep cons_if up_from
keep_firsts c i zero a b = ap (up_from i) (let e : 0 ≡ c - i = omega arith in e) ∙ refl
keep_firsts c i (suc n) a b = go (dec_lt i c) (keep_firsts c (suc i) n)
  where
    go :
        Dec (i < c)
        → (suc i ≤ c → c ≤ suc i + n → keep (λ s. ltb s c) (up_from (suc i) n) ≡ up_from (suc i) (c - suc i))
        → cons_if (ltb i c) i (keep (λ s. ltb s c) (up_from (suc i) n)) ≡ up_from i (c - i)
    go (yes h) ih =
        let q : ltb i c ≡ true = lt-ltb i c h in
        let e : c - i ≡ suc (c - suc i) = omega arith in
        rw (q, e) (ap (λ (l : List ℕ). i ∷ l) (ih h (omega arith)))
    go (no h) ih =
        let q : ltb i c ≡ false = le-ltb i c (omega arith) in
        let e : c - i ≡ 0 = omega arith in
        rw (q, e) (keep_nothing (λ s. ltb s c) (up_from (suc i) n) (λ s m. let (x, y) = from_in (suc i) n s m in le-ltb s c (omega arith)))

-- ---- the free zones behind the drops

-- where every drive has one: each drive's lowest good zone that no remaining segment has
pub free_vacant : (p : Params) (r : Ranged p) (v : View) (sh : Shaped p v) (acc : Accepted p v 0) → none_free_of p v (segments p v 0) ≡ false
    → Vacant p (store_all store_view_of (drop_stores p v (segments p v 0)) v) (free_seg p v (segments p v 0))
unfolding free_seg
free_vacant p r v sh acc nf = with_vacant p va (λ d. first_or 0 (free_zones p v gs d)) (λ d hd. of d hd (first_or 0 (free_zones p v gs d)) (first_in (free_zones p v gs d) 0 (some d hd)))
  where
    gs : List Segment
    gs = segments p v 0

    va : View
    va = store_all store_view_of (drop_stores p v (segments p v 0)) v

    some : (d : ℕ) → d < p.N → is_nil (free_zones p v (segments p v 0) d) ≡ false
    some d hd = none_in (λ d. is_nil (free_zones p v (segments p v 0) d)) (below p.N) (as! nf) d (in_below p.N d hd)
      where
        as! : none_free_of p v (segments p v 0) ≡ false → any (λ d. is_nil (free_zones p v (segments p v 0) d)) (below p.N) ≡ false
        as! q = unfold none_free_of drives_of in q

    of : (d : ℕ) → d < p.N → (z : ℕ) → In z (free_zones p v (segments p v 0) d)
        → (z < p.Z) × (is_good p (store_all store_view_of (drop_stores p v (segments p v 0)) v).offline d z ≡ true)
        × (pointer_at (store_all store_view_of (drop_stores p v (segments p v 0)) v) d z ≡ 0)
    of d hd z m = (below_in p.Z z i.0, good, go (ℕ_discrete (pointer_at va! d z) 0))
      where
        va! : View
        va! = store_all store_view_of (drop_stores p v (segments p v 0)) v

        k : In z (good_zones p v.offline d) × (not (any (λ (g : Segment). eqb (zone_on g.seg d) z) (segments p v 0)) ≡ true)
        k = as! m
          where
            as! : In z (free_zones p v (segments p v 0) d) → In z (good_zones p v.offline d) × (not (any (λ (g : Segment). eqb (zone_on g.seg d) z) (segments p v 0)) ≡ true)
            as! m = unfold free_zones in keep_in (λ z. not (any (λ (g : Segment). eqb (zone_on g.seg d) z) (segments p v 0))) (good_zones p v.offline d) z m

        i : In z (below p.Z) × (is_good p v.offline d z ≡ true)
        i = as! k.0
          where
            as! : In z (good_zones p v.offline d) → In z (below p.Z) × (is_good p v.offline d z ≡ true)
            as! m = unfold good_zones in keep_in (is_good p v.offline d) (below p.Z) z m

        good : is_good p va!.offline d z ≡ true
        good = ap (λ (l : List ℕ). is_good p l d z) (offline_after (drop_stores p v (segments p v 0)) v) ∙ i.1

        used! : (pointer_at va! d z ≡ 0 → ⊥) → is_used p va! d z ≡ true
        used! n = unfold is_used in and_both (is_good p va!.offline d z) (not (eqb (pointer_at va! d z) 0)) good (ap not (ne_eqb (pointer_at va! d z) 0 n))

        in_gs : (g : Seg) → In g (remaining p v 0) → In (segment_of p v 0 g) (segments p v 0)
        in_gs g m = unfold segments in in_map (segment_of p v 0) (remaining p v 0) g m

        go : Dec (pointer_at va! d z ≡ 0) → pointer_at va! d z ≡ 0
        go (yes e) = e
        go (no n) =
            let (g, m, e) = (drop-cleared p r v sh acc).others_gone d z hd (below_in p.Z z i.0) (used! n) in
            clash (in_any (λ (x : Segment). eqb (zone_on x.seg d) z) (segments p v 0) (segment_of p v 0 g) (in_gs g m)
            (eq-eqb (zone_on (segment_of p v 0 g).seg d) z (ap (λ (y : Seg). zone_on y d) (seg_is p v 0 g) ∙ e)))
            (not-true (any (λ (x : Segment). eqb (zone_on x.seg d) z) (segments p v 0)) k.1)

module _ (p : Params) (r : Ranged p) (v : View) (sh : Shaped p v) (acc : Accepted p v 0)
    (g : Seg) (kg : In g (remaining p v 0)) (ng : sealed_in p v 0 g ≡ false)
    (oth : (y : Seg) → In y (remaining p v 0) → (y ≡ g → ⊥) → sealed_in p v 0 y ≡ true)
    (z0 : Seg) (vz : Vacant p (store_all store_view_of (drop_stores p v (segments p v 0)) v) z0) (fit : suc (greatest_serial (segments p v 0)) < 256 ^ 8) where
  abbrev gs : List Segment
  gs = segments p v 0

  abbrev x : Segment
  x = segment_of p v 0 g

  abbrev sn : ℕ
  sn = suc (greatest_serial gs)

  abbrev cs : List ℕ
  cs = counted p 0 x

  abbrev c : ℕ
  c = length cs

  abbrev va : View
  va = store_all store_view_of (drop_stores p v gs) v

  h0 : 0 < p.N
  h0 = omega (arith, r.drives_low)

  sha : Shaped p va
  sha = shaped_a p r v sh acc

  -- the old segment is there behind the drops
  old_there : There p va g
  old_there = drop_there p r v sh acc g kg

  old_low : (d : ℕ) → d < p.N → zone_on g d < p.Z
  old_low d hd = (its_zone p r va g old_there d hd).zone_low

  -- no segment that there is has a zone of the new one
  apart_on : (y : Seg) (d : ℕ) → There p va y → d < p.N → zone_on y d ≢ zone_on z0 d
  apart_on y d m hd = vacant_other p r va z0 y d vz m hd

  pub new_other : (y : Seg) → There p va y → z0 ≡ y → ⊥
  new_other y m e = apart_on y 0 m h0 (ap (λ (n : Seg). zone_on n 0) (sym e))

  -- ---- a moved stripe

  module _ (s k : ℕ) where
    abbrev qs : List Piece
    qs = moved_pieces p x s k

    qs_is : qs ≡ map (λ d. renumbered k (stored_piece x s d)) (map (data_drive p s) (below (data_count p)))
    qs_is = unfold moved_pieces data_drives in refl

    qs_at : (n : ℕ) → n < data_count p → get_or qs n (mk_piece [] (mk_rec 0 0 0)) ≡ renumbered k (stored_piece x s (data_drive p s n))
    qs_at n l =
        ap (λ (y : List Piece). get_or y n (mk_piece [] (mk_rec 0 0 0))) qs_is
        ∙ get_d_map (λ d. renumbered k (stored_piece x s d)) (map (data_drive p s) (below (data_count p))) n (mk_piece [] (mk_rec 0 0 0)) 0
        (subst (λ (y : ℕ). n < y) (sym (length-map (below (data_count p)) (data_drive p s) ∙ length-below (data_count p))) l)
        ∙ ap (λ (d : ℕ). renumbered k (stored_piece x s d)) (get_d_map-below (data_drive p s) (data_count p) n 0 l)

    abbrev on : ℕ → Piece
    on e = moved_on p qs k e

    pub moved_data : (e : ℕ) → is_data p k e ≡ true → e < p.N → on e ≡ renumbered k (stored_piece x s (data_drive p s (data_position p k e)))
    moved_data e q he = moved_is_data p qs k e q ∙ qs_at (data_position p k e) (position_lt p k e q he)

    qs_map : qs ≡ map (λ d. renumbered k (stored_piece x s d)) (data_drives p s)
    qs_map = unfold moved_pieces in refl

    rewrite_made : (e : ℕ) → is_data p k e ≡ false → on e
        ≡ mk_piece (encode_block p.B (parity_position p k e) (map (λ d. (renumbered k (stored_piece x s d)).block) (data_drives p s)))
        (encode_rec (parity_position p k e) k (map (λ d. (renumbered k (stored_piece x s d)).rec) (data_drives p s)))
    rewrite_made e q =
        moved_is_parity p qs k e q
        ∙ ap (encode_piece p (parity_position p k e) k) qs_map
        ∙ encode_apart p (parity_position p k e) k (λ d. renumbered k (stored_piece x s d)) (data_drives p s)

    moved_stripe_holds : (e : ℕ) → e < p.N → (on e).rec.stripe ≡ k
    moved_stripe_holds e he = go (test (is_data p k e))
      where
        go : Test (is_data p k e) → (on e).rec.stripe ≡ k
        go (yes! q) = ap (λ (y : Piece). y.rec.stripe) (moved_data e q he) ∙ (unfold renumbered in refl)
        go (no! q) = ap (λ (y : Piece). y.rec.stripe) (rewrite_made e q) ∙ encode_stripe (parity_position p k e) k (map (λ d. (renumbered k (stored_piece x s d)).rec) (data_drives p s))

    module _ (cn : counts p 0 x s ≡ true) where
      stored_b : (d : ℕ) → d < p.N → length (stored_piece x s d).block ≡ p.B
      stored_b d hd = stored_long p r v sh 0 g s d (old_low d hd) hd (is_in_empty d) (counts_in p 0 x s d cn hd (is_in_empty d))

      drive! : (n : ℕ) → n < data_count p → data_drive p s n < p.N
      drive! n l = data_drive_lt p s n l

      moved_long : (e : ℕ) → e < p.N → length (on e).block ≡ p.B
      moved_long e he = go (test (is_data p k e))
        where
          block! : (q : Piece) → (renumbered k q).block ≡ q.block
          block! q = unfold renumbered in refl

          go : Test (is_data p k e) → length (on e).block ≡ p.B
          go (yes! q) =
              ap (λ (y : Piece). length y.block) (moved_data e q he)
              ∙ ap length (block! (stored_piece x s (data_drive p s (data_position p k e))))
              ∙ stored_b (data_drive p s (data_position p k e)) (drive! (data_position p k e) (position_lt p k e q he))
          go (no! q) =
              ap (λ (y : Piece). length y.block) (rewrite_made e q)
              ∙ encode_long p.B (parity_position p k e) (map (λ d. (renumbered k (stored_piece x s d)).block) (data_drives p s))
              (each_map (λ (b : List ℕ). length b ≡ p.B) (λ d. (renumbered k (stored_piece x s d)).block) (data_drives p s)
              (each_data (λ d. length (renumbered k (stored_piece x s d)).block ≡ p.B) p s (λ d hd n. ap length (block! (stored_piece x s d)) ∙ stored_b d hd)))

  -- ---- all of them, on one drive

  unfoldable moved_chunks : ℕ → List ℕ → ℕ → List Chunk
  moved_chunks e [] k = []
  moved_chunks e (s ∷ ss) k = piece_chunk (on s k e) ∷ moved_chunks e ss (suc k)

  moved-count : (e : ℕ) (ss : List ℕ) (k : ℕ) → length (moved_chunks e ss k) ≡ length ss
  unfolding moved_chunks
  moved-count e [] k = refl
  moved-count e (s ∷ ss) k = ap suc (moved-count e ss (suc k))

  moved_at : (e : ℕ) (ss : List ℕ) (k i : ℕ) → i < length ss → get_or (moved_chunks e ss k) i no_chunk ≡ piece_chunk (on (get_or ss i 0) (k + i) e)
  unfolding moved_chunks
  moved_at e [] k i h = absurd (let bad : ⊥ = omega arith in bad)
  moved_at e (s ∷ ss) k zero h = ap (λ (n : ℕ). piece_chunk (on s n e)) (sym (add-zero k))
  moved_at e (s ∷ ss) k (suc i) h = moved_at e ss (suc k) i (omega arith) ∙ ap (λ (n : ℕ). piece_chunk (on (get_or ss i 0) n e)) (let z : suc k + i ≡ k + suc i = omega arith in z)

  hits-moved : (e z : ℕ) (ss : List ℕ) (k : ℕ) → e < p.N
      → hits e z (moved_stripes p x z0 ss k) ≡ cond (eqb (zone_on z0 e) z) (map (put_at e (zone_on z0 e)) (moved_chunks e ss k)) []
  unfolding moved_stripes moved_chunks
  hits-moved e z [] k he = none! ∙ sym (cond_same (eqb (zone_on z0 e) z) [])
    where
      none! : hits e z [] ≡ []
      none! = unfold keep in refl
  hits-moved e z (s ∷ ss) k he =
      hits-append e z (moved_stripe p x z0 s k) (moved_stripes p x z0 ss (suc k))
      ∙ ap₂ ◌++◌ (one ∙ hits_drives p e z (zone_on z0) (λ d. put_piece d (zone_on z0 d) (on s k d)) hit he) (hits-moved e z ss (suc k) he)
      ∙ join (eqb (zone_on z0 e) z)
    where
      one : hits e z (moved_stripe p x z0 s k) ≡ hits e z (map (λ d. put_piece d (zone_on z0 d) (on s k d)) (drives_of p))
      one = unfold moved_stripe in refl

      hit : (d : ℕ) → hits_at_of e z (put_piece d (zone_on z0 d) (on s k d)) ≡ (eqb d e && eqb (zone_on z0 d) z)
      hit d = unfold put_piece hits_at_of in refl

      join :
          (b : Bool)
          → cond b (put_piece e (zone_on z0 e) (on s k e) ∷ []) [] ++ cond b (map (put_at e (zone_on z0 e)) (moved_chunks e ss (suc k))) [] ≡ cond b
          (put_at e (zone_on z0 e) (piece_chunk (on s k e)) ∷ map (put_at e (zone_on z0 e)) (moved_chunks e ss (suc k))) []
      join true = unfold put_piece put_at piece_chunk in refl
      join false = refl

  -- ---- the stores: first the new segment's

  abbrev ts : List Store
  ts = rewrite_stores p x z0 sn

  abbrev vc : View
  vc = store_all store_view_of ts va

  abbrev ps : List Store
  ps = header_stores p z0 sn x.serial ++ moved_stripes p x z0 cs 0

  abbrev vb : View
  vb = store_all store_view_of ps va

  ts_is : ts ≡ ps ++ reset_stores p g
  ts_is = as! ∙ ap (λ (n : Seg). ps ++ reset_stores p n) (seg_is p v 0 g)
    where
      as! : ts ≡ ps ++ reset_stores p x.seg
      as! = unfold rewrite_stores in refl

  vc_is : vc ≡ store_all store_view_of (reset_stores p g) vb
  vc_is = ap (λ (l : List Store). store_all store_view_of l va) ts_is ∙ store_all-append store_view_of ps (reset_stores p g) va

  lay : ℕ → List Chunk
  lay e = mk_chunk (header_block p e (zones_in p z0) sn x.serial) zero_spare ∷ moved_chunks e cs 0

  ps_hits : (e z : ℕ) → e < p.N → hits e z ps ≡ cond (eqb (zone_on z0 e) z) (map (put_at e (zone_on z0 e)) (lay e)) []
  unfolding lay
  ps_hits e z he =
      hits-append e z (header_stores p z0 sn x.serial) (moved_stripes p x z0 cs 0)
      ∙ ap₂ ◌++◌ (hits-headers p e z z0 sn x.serial he) (hits-moved e z cs 0 he)
      ∙ join (eqb (zone_on z0 e) z)
    where
      join :
          (b : Bool)
          → cond b (put e (zone_on z0 e) (header_block p e (zones_in p z0) sn x.serial) zero_spare ∷ []) [] ++ cond b (map (put_at e (zone_on z0 e)) (moved_chunks e cs 0)) [] ≡ cond b
          (map (put_at e (zone_on z0 e)) (mk_chunk (header_block p e (zones_in p z0) sn x.serial) zero_spare ∷ moved_chunks e cs 0)) []
      join true = unfold put_at in refl
      join false = refl

  hits_new : (e : ℕ) → e < p.N → hits e (zone_on z0 e) ps ≡ map (put_at e (zone_on z0 e)) (lay e)
  hits_new e he = ps_hits e (zone_on z0 e) he ∙ cond_true (eqb (zone_on z0 e) (zone_on z0 e)) (map (put_at e (zone_on z0 e)) (lay e)) [] (eqb_self (zone_on z0 e))

  hits_else : (e z : ℕ) → e < p.N → z ≢ zone_on z0 e → hits e z ps ≡ []
  hits_else e z he n = ps_hits e z he ∙ cond_false (eqb (zone_on z0 e) z) (map (put_at e (zone_on z0 e)) (lay e)) [] (ne_eqb (zone_on z0 e) z (λ q. n (sym q)))

  lay_count : (e : ℕ) → length (lay e) ≡ 1 + c
  unfolding lay
  lay_count e = ap suc (moved-count e cs 0) ∙ omega arith

  c_low : c ≤ p.S
  c_low = counted-low p 0 x

  counted! : (s : ℕ) → In s cs → counts p 0 x s ≡ true
  counted! s m = (counted_in p 0 x s m).1

  lay_at : (e i : ℕ) → i < c → get_or (lay e) (suc i) no_chunk ≡ piece_chunk (on (get_or cs i 0) i e)
  unfolding lay
  lay_at e i h = moved_at e cs 0 i h ∙ ap (λ (n : ℕ). piece_chunk (on (get_or cs i 0) n e)) (zero-add i)

  -- the stripe that becomes stripe i
  from_counts : (i : ℕ) → i < c → counts p 0 x (get_or cs i 0) ≡ true
  from_counts i h = counted! (get_or cs i 0) (in_get_d cs i 0 h)

  lay_room : (e : ℕ) → e < p.N → Room p 0 (map (put_at e (zone_on z0 e)) (lay e))
  lay_room e he = room_puts p e (zone_on z0 e) 0 (lay e) (let a = lay_count e in let b = c_low in let k = capacity_over p r in omega arith) go
    where
      go : (i : ℕ) → i < length (lay e) → SoundChunk p (0 + i) (get_or (lay e) i no_chunk)
      go zero h = first!
        where
          first! : SoundChunk p 0 (get_or (lay e) 0 no_chunk)
          first! = unfold lay in header_sound p r e (zones_in p z0) sn x.serial (zones_in_long p z0)
      go (suc i) h =
          let l : i < c = (let a = lay_count e in omega arith) in
          let w : 0 + suc i ≡ suc i = zero-add (suc i) in
          subst (λ (n : ℕ). SoundChunk p n (get_or (lay e) (suc i) no_chunk)) (sym w)
          (subst (λ (y : Chunk). SoundChunk p (suc i) y) (sym (lay_at e i l))
          (piece! (on (get_or cs i 0) i e) (moved_long (get_or cs i 0) i (from_counts i l) e he) (let k = c_low in omega arith)))
        where
          piece! : (q : Piece) → length q.block ≡ p.B → suc i ≤ p.S → SoundChunk p (suc i) (piece_chunk q)
          piece! q lb k = unfold piece_chunk in data_sound p (suc i) q.block q.rec (omega arith) k lb

  puts_roomy : Roomy p va ps
  puts_roomy e z he hz = go (ℕ_discrete z (zone_on z0 e))
    where
      go : Dec (z ≡ zone_on z0 e) → Room p (pointer_at va e z) (hits e z ps)
      go (yes q) =
          subst (λ (n : ℕ). Room p (pointer_at va e n) (hits e n ps)) (sym q)
          (subst (λ (l : List Store). Room p (pointer_at va e (zone_on z0 e)) l) (sym (hits_new e he))
          (subst (λ (n : ℕ). Room p n (map (put_at e (zone_on z0 e)) (lay e))) (sym (vz.vacant_empty e he)) (lay_room e he)))
      go (no n) = subst (λ (l : List Store). Room p (pointer_at va e z) l) (sym (hits_else e z he n)) tt

  puts_within : (s : Store) → In s ps → Within p s
  puts_within s m =
      within_append p (header_stores p z0 sn x.serial) (moved_stripes p x z0 cs 0) (λ s m. header_within p r va sha z0 sn x.serial vz s m) (λ s m. moved! s cs 0 m) s m
    where
      moved! : (s : Store) (ss : List ℕ) (k : ℕ) → In s (moved_stripes p x z0 ss k) → Within p s
      moved! s [] k m = absurd (none! m)
        where
          none! : In s (moved_stripes p x z0 [] k) → ⊥
          none! m = unfold moved_stripes in m
      moved! s (t ∷ ss) k m = ⊎_elim (λ a. one a) (λ a. moved! s ss (suc k) a) (in_append s (moved_stripe p x z0 t k) (moved_stripes p x z0 ss (suc k)) (cs! m))
        where
          cs! : In s (moved_stripes p x z0 (t ∷ ss) k) → In s (moved_stripe p x z0 t k ++ moved_stripes p x z0 ss (suc k))
          cs! m = unfold moved_stripes in m

          one : In s (moved_stripe p x z0 t k) → Within p s
          one m =
              let (d, i, e) = map_in (λ d. put_piece d (zone_on z0 d) (on t k d)) (below p.N) s (ds! m) in
              subst (λ (y : Store). Within p y) (sym e) (within! d (below_in p.N d i))
            where
              ds! : In s (moved_stripe p x z0 t k) → In s (map (λ d. put_piece d (zone_on z0 d) (on t k d)) (below p.N))
              ds! m = unfold moved_stripe drives_of in m

              within! : (d : ℕ) → d < p.N → Within p (put_piece d (zone_on z0 d) (on t k d))
              within! d h = unfold put_piece in (h, vz.vacant_low d h)

  shb : Shaped p vb
  shb = shaped_after p va ps sha puts_roomy

  -- ---- the zones behind them

  put_zone_holds : (e : ℕ) → e < p.N → zone_at vb e (zone_on z0 e) ≡ put_all e (zone_on z0 e) (lay e) (zone_at va e (zone_on z0 e))
  put_zone_holds e he = zone_after p va e (zone_on z0 e) ps sha.sized he (vz.vacant_low e he) ∙ ap (λ (l : List Store). store_all zone_store l (zone_at va e (zone_on z0 e))) (hits_new e he)

  put_other : (e z : ℕ) → e < p.N → z < p.Z → z ≢ zone_on z0 e → zone_at vb e z ≡ zone_at va e z
  put_other e z he hz n = zone_after p va e z ps sha.sized he hz ∙ ap (λ (l : List Store). store_all zone_store l (zone_at va e z)) (hits_else e z he n) ∙ nothing
    where
      nothing : store_all zone_store [] (zone_at va e z) ≡ zone_at va e z
      nothing = unfold store_all in refl

  zero! : (e : ℕ) → e < p.N → (zone_at va e (zone_on z0 e)).pointer ≡ 0
  zero! e he = as! (vz.vacant_empty e he)
    where
      as! : pointer_at va e (zone_on z0 e) ≡ 0 → (zone_at va e (zone_on z0 e)).pointer ≡ 0
      as! q = unfold pointer_at in q

  put_count : (e : ℕ) → e < p.N → (zone_at vb e (zone_on z0 e)).pointer ≡ 1 + c
  put_count e he =
      ap (λ (q : Zone). q.pointer) (put_zone_holds e he)
      ∙ puts_pointer e (zone_on z0 e) (lay e) (zone_at va e (zone_on z0 e))
      ∙ (let a = zero! e he in let b = lay_count e in let w : (zone_at va e (zone_on z0 e)).pointer + length (lay e) ≡ 1 + c = omega arith in w)

  put-pointed : (e : ℕ) → e < p.N → pointer_at vb e (zone_on z0 e) ≡ 1 + c
  unfolding pointer_at
  put-pointed e he = put_count e he

  put_block : (e i : ℕ) → e < p.N → i < length (lay e) → get_or (zone_at vb e (zone_on z0 e)).blocks i no_chunk ≡ get_or (lay e) i no_chunk
  put_block e i he h =
      ap (λ (q : Zone). get_or q.blocks i no_chunk) (put_zone_holds e he)
      ∙ ap (λ (n : ℕ). get_or (put_all e (zone_on z0 e) (lay e) (zone_at va e (zone_on z0 e))).blocks n no_chunk)
      (let a = zero! e he in let w : i ≡ (zone_at va e (zone_on z0 e)).pointer + i = omega arith in w)
      ∙ puts_new e (zone_on z0 e) (lay e) (zone_at va e (zone_on z0 e)) i h
      (let a = zero! e he in let b = lay_count e in let d = c_low in let k = capacity_over p r in let l = (sha.zone_ok e (zone_on z0 e) he (vz.vacant_low e he)).blocks_long in
      omega arith)

  put_head : (e : ℕ) → e < p.N → header_at vb e z0 ≡ header_block p e (zones_in p z0) sn x.serial
  put_head e he = as! (ap (λ (y : Chunk). y.block) (put_block e 0 he (let a = lay_count e in omega arith)) ∙ first!)
    where
      first! : (get_or (lay e) 0 no_chunk).block ≡ header_block p e (zones_in p z0) sn x.serial
      first! = unfold lay in refl

      as! : (get_or (zone_at vb e (zone_on z0 e)).blocks 0 no_chunk).block ≡ header_block p e (zones_in p z0) sn x.serial → header_at vb e z0 ≡ header_block p e (zones_in p z0) sn x.serial
      as! q = unfold header_at chunk_at in q

  put_serial : (e : ℕ) → e < p.N → header_serial p (header_at vb e z0) ≡ sn
  put_serial e he = ap (header_serial p) (put_head e he) ∙ header_serial_holds p e (zones_in p z0) sn x.serial (zones_in_long p z0) fit

  serial_g : x.serial ≡ header_serial p (header_at v 0 g)
  serial_g = serial_is p v 0 g ∙ ap (λ (n : ℕ). header_serial p (header_at v n g)) (low_first p r)

  serial_g_low : header_serial p (header_at v 0 g) < sn
  serial_g_low = let a = kept_known p r v sh acc g kg in omega arith

  put-copied : header_copied p (header_at vb 0 z0) ≡ header_serial p (header_at v 0 g)
  put-copied =
      ap (header_copied p) (put_head 0 h0)
      ∙ header_copied_holds p 0 (zones_in p z0) sn x.serial (zones_in_long p z0) (subst (λ (n : ℕ). n < 256 ^ 8) (sym serial_g) (let a = serial_g_low in let b = fit in omega arith))
      ∙ serial_g

  -- ---- the segments behind them

  new_headed : Headed p va vb sn (zone_on z0)
  new_headed = record {
    head_low = vz.vacant_low;
    head_unused = λ d hd. empty_unused p va d (zone_on z0 d) (vz.vacant_empty d hd);
    head_used = λ d hd. used! d hd;
    head_serial = λ d hd. serial! d (put_serial d hd);
    other_used = λ d z hd hz n. used_zone p va vb d z (offline_after ps va) (put_other d z hd hz n);
    other_serial = λ d z hd hz n _. same! d z (put_other d z hd hz n);
    serial_fresh = tidy_unborne p r va (greatest_serial gs) sn (drop_tidy p r v sh acc) (omega arith);
  }
    where
      used! : (d : ℕ) → d < p.N → is_used p vb d (zone_on z0 d) ≡ true
      used! d hd = unfold is_used in and_both (is_good p vb.offline d (zone_on z0 d)) (not (eqb (pointer_at vb d (zone_on z0 d)) 0))
          (ap (λ (l : List ℕ). is_good p l d (zone_on z0 d)) (offline_after ps va) ∙ vz.vacant_good d hd)
          (ap not (ne_eqb (pointer_at vb d (zone_on z0 d)) 0 (λ e. let a = put-pointed d hd in let bad : ⊥ = omega arith in bad)))

      serial! : (d : ℕ) → header_serial p (header_at vb d z0) ≡ sn → serial_in p vb d (zone_on z0 d) ≡ sn
      serial! d e = unfold serial_in header_at in e

      same! : (d z : ℕ) → zone_at vb d z ≡ zone_at va d z → serial_in p va d z ≡ serial_in p vb d z
      same! d z e = unfold serial_in in ap (header_serial p) (head_zone va vb d z e)

  put_keeps : (y : Seg) → There p va y → There p vb y
  put_keeps = headed_keeps p r va vb sn (zone_on z0) new_headed

  put_there : There p vb z0
  put_there = subst (There p vb) (sym vz.vacant_is) (headed_there p r va vb sn (zone_on z0) new_headed)

  put_was : (y : Seg) → There p vb y → There p va y ⊎ (y ≡ z0)
  put_was y m = ⊎_elim (λ k. inl k) (λ e. inr (e ∙ sym vz.vacant_is)) (headed_was p r va vb sn (zone_on z0) new_headed y m)

  rewriting_put_same : (y : Seg) → There p va y → SameZones p va vb y
  rewriting_put_same y m d hd = sym (put_other d (zone_on y d) hd (its_zone p r va y m d hd).zone_low (apart_on y d m hd))

  put_header : (y : Seg) → There p va y → header_at va 0 y ≡ header_at vb 0 y
  put_header y m = zones_header p r va vb y (rewriting_put_same y m)

  abbrev ta : Tidy p va (greatest_serial gs)
  ta = drop_tidy p r v sh acc

  -- tidy but that the new one is a copy of the old one
  put_tidy : TidyBut p vb sn g
  put_tidy = record {
    but_low = λ d z hd hz q. low d z hd hz q (ℕ_discrete z (zone_on z0 d));
    but_together = λ d z hd hz q. tog d z hd hz q (ℕ_discrete z (zone_on z0 d));
    but_less = λ y m n. less y (put_was y m);
    but_known = λ y m n. known y (put_was y m);
    but_copy = λ y h m n a b e. copy y h a b e (put_was y m) (put_was h n);
  }
    where
      same! : (d z : ℕ) → zone_at vb d z ≡ zone_at va d z → pointer_at va d z ≤ capacity p → pointer_at vb d z ≤ capacity p
      same! d z e k = unfold pointer_at in subst (λ (q : Zone). q.pointer ≤ capacity p) (sym e) k

      low : (d z : ℕ) → d < p.N → z < p.Z → is_good p vb.offline d z ≡ true → Dec (z ≡ zone_on z0 d) → pointer_at vb d z ≤ capacity p
      low d z hd hz q (yes e) =
          subst (λ (n : ℕ). pointer_at vb d n ≤ capacity p) (sym e) (let a = put-pointed d hd in let k = c_low in let l = capacity_over p r in omega arith)
      low d z hd hz q (no n) =
          same! d z (put_other d z hd hz n) (ta.pointer_low d z hd hz (subst (λ (l : List ℕ). is_good p l d z ≡ true) (offline_after ps va) q))

      tog : (d z : ℕ) → d < p.N → z < p.Z → is_used p vb d z ≡ true → Dec (z ≡ zone_on z0 d) → (y : Seg) × There p vb y × (zone_on y d ≡ z)
      tog d z hd hz q (yes e) = (z0, put_there, sym e)
      tog d z hd hz q (no n) =
          let (y, m, e) = ta.together d z hd hz (used_zone p va vb d z (offline_after ps va) (put_other d z hd hz n) ∙ q) in (y, put_keeps y m, e)

      less : (y : Seg) → There p va y ⊎ (y ≡ z0) → header_copied p (header_at vb 0 y) < header_serial p (header_at vb 0 y)
      less y (inl m) = subst (λ (l : List ℕ). header_copied p l < header_serial p l) (put_header y m) (ta.copied_less y m)
      less y (inr e) = subst (λ (n : Seg). header_copied p (header_at vb 0 n) < header_serial p (header_at vb 0 n)) (sym e)
          (let a = put_serial 0 h0 in let b = put-copied in let d = serial_g_low in omega arith)

      old_known : (y : Seg) → There p va y → header_serial p (header_at vb 0 y) ≤ greatest_serial gs
      old_known y m = subst (λ (l : List ℕ). header_serial p l ≤ greatest_serial gs) (put_header y m) (ta.serial_known y m)

      known : (y : Seg) → There p va y ⊎ (y ≡ z0) → header_serial p (header_at vb 0 y) ≤ sn
      known y (inl m) = let a = old_known y m in omega arith
      known y (inr e) = subst (λ (n : Seg). header_serial p (header_at vb 0 n) ≤ sn) (sym e) (le_of_eq (put_serial 0 h0))

      new_is : (y : Seg) → y ≡ z0 → header_serial p (header_at vb 0 y) ≡ sn
      new_is y e = ap (λ (n : Seg). header_serial p (header_at vb 0 n)) e ∙ put_serial 0 h0

      hdr_g : header_at v 0 g ≡ header_at va 0 g
      hdr_g = zones_header p r v va g (drop_same p r v sh acc g kg)

      copy :
          (y h : Seg)
          → (g ≡ y → ⊥)
          → (g ≡ h → ⊥)
          → header_copied p (header_at vb 0 y) ≡ header_serial p (header_at vb 0 h)
          → There p va y ⊎ (y ≡ z0)
          → There p va h ⊎ (h ≡ z0)
          → ⊥
      copy y h ny nh e (inl m) (inl n) = ta.no_copy y h m n (ap (header_copied p) (put_header y m) ∙ e ∙ ap (header_serial p) (sym (put_header h n)))
      copy y h ny nh e (inl m) (inr i) =
          let w = new_is h i in let l = less y (inl m) in let k = old_known y m in let bad : ⊥ = omega arith in bad
      copy y h ny nh e (inr i) (inl n) =
          nh (there_serial p r va g h old_there n
          (ap (header_serial p) (sym hdr_g) ∙ sym (ap (λ (n : Seg). header_copied p (header_at vb 0 n)) i ∙ put-copied) ∙ e ∙ ap (header_serial p) (sym (put_header h n))))
      copy y h ny nh e (inr i) (inr j) =
          let w = new_is h j in
          let f : header_copied p (header_at vb 0 y) ≡ header_serial p (header_at v 0 g) = ap (λ (n : Seg). header_copied p (header_at vb 0 n)) i ∙ put-copied in
          let d = serial_g_low in
          let bad : ⊥ = omega arith in bad

  -- ---- then the old zones are reset

  gb : There p vb g
  gb = put_keeps g old_there

  lowb : ZonesLow p 0 g
  lowb = its_zones_low p r vb g gb

  alb : Alone p vb g
  alb = together-alone p r vb put_tidy.but_together g gb

  pub rewrite_tidy : Tidy p vc sn
  rewrite_tidy = subst (λ (w : View). Tidy p w sn) (sym vc_is) (reset_tidy_but p r vb shb g gb sn put_tidy)

  pub rewrite_roomy : Roomy p va ts
  rewrite_roomy = subst (λ (l : List Store). Roomy p va l) (sym ts_is) (roomy_append p va ps (reset_stores p g) sha.sized puts_roomy (reset_roomy p r vb shb g lowb))

  pub rewrite_within : (s : Store) → In s ts → Within p s
  rewrite_within s m = within_append p ps (reset_stores p g) puts_within (reset_within p r vb shb g lowb) s (subst (λ (l : List Store). In s l) ts_is m)

  -- what each zone holds behind all of them
  new_same : (e : ℕ) → e < p.N → zone_at vc e (zone_on z0 e) ≡ zone_at vb e (zone_on z0 e)
  new_same e he =
      ap (λ (w : View). zone_at w e (zone_on z0 e)) vc_is
      ∙ reset_other p r vb shb g lowb e (zone_on z0 e) he (vz.vacant_low e he) (λ q. apart_on g e old_there he (sym q))

  pub zone_else : (e z : ℕ) → e < p.N → z < p.Z → z ≢ zone_on z0 e → z ≢ zone_on g e → zone_at vc e z ≡ zone_at va e z
  zone_else e z he hz a b = ap (λ (w : View). zone_at w e z) vc_is ∙ reset_other p r vb shb g lowb e z he hz b ∙ put_other e z he hz a

  -- the other segments stay as they were
  pub same_else : (y : Seg) → In y (remaining p v 0) → (g ≡ y → ⊥) → SameZones p va vc y
  same_else y k n e he =
      let m = drop_there p r v sh acc y k in
      sym (zone_else e (zone_on y e) he (its_zone p r va y m e he).zone_low (apart_on y e m he) (λ q. n (there_once p r va g y e old_there m he (sym q))))

  pub new_there : There p vc z0
  new_there = subst (λ (w : View). There p w z0) (sym vc_is) (reset_keeps p r vb shb g gb alb z0 put_there (λ e. new_other g old_there (sym e)))

  -- what is there: the new one, and what remained but for the old one
  pub used_moved : (y : Seg) → There p vc y → (y ≡ z0) ⊎ (In y (remaining p v 0) × ((z0 ≡ y → ⊥) × (g ≡ y → ⊥)))
  used_moved y m =
      let (k, n) = reset_was p r vb shb g gb alb y (subst (λ (w : View). There p w y) vc_is m) in
      ⊎_elim (λ i. inr (there_kept p r v sh acc y i, (new_other y i, n))) (λ e. inl e) (put_was y k)

  pub new_pointer : (e : ℕ) → e < p.N → pointer_at vc e (zone_on z0 e) ≡ 1 + c
  new_pointer e he = as! (ap (λ (q : Zone). q.pointer) (new_same e he) ∙ put_count e he)
    where
      as! : (zone_at vc e (zone_on z0 e)).pointer ≡ 1 + c → pointer_at vc e (zone_on z0 e) ≡ 1 + c
      as! q = unfold pointer_at in q

  new_block : (e i : ℕ) → e < p.N → i < length (lay e) → get_or (zone_at vc e (zone_on z0 e)).blocks i no_chunk ≡ get_or (lay e) i no_chunk
  new_block e i he h = ap (λ (q : Zone). get_or q.blocks i no_chunk) (new_same e he) ∙ put_block e i he h

  -- the chunk at offset o: the counted stripe at o, moved
  pub new_chunk : (e o : ℕ) → e < p.N → o < c → get_or (zone_at vc e (zone_on z0 e)).blocks (1 + o) no_chunk ≡ piece_chunk (moved_on p (moved_pieces p x (get_or cs o 0) o) o e)
  new_chunk e o he h =
      ap (λ (n : ℕ). get_or (zone_at vc e (zone_on z0 e)).blocks n no_chunk) (let z : 1 + o ≡ suc o = omega arith in z)
      ∙ new_block e (suc o) he (let a = lay_count e in omega arith)
      ∙ lay_at e o h

  -- and its record
  pub new_record : (e o : ℕ) → e < p.N → o < c → spare_at p vc e (zone_on z0 e) o ≡ record_of_of (record_bytes (moved_on p (moved_pieces p x (get_or cs o 0) o) o e).rec)
  new_record e o he h = as! (new_chunk e o he h)
    where
      as! :
          get_or (zone_at vc e (zone_on z0 e)).blocks (1 + o) no_chunk ≡ piece_chunk (on (get_or cs o 0) o e)
          → spare_at p vc e (zone_on z0 e) o ≡ record_of_of (record_bytes (on (get_or cs o 0) o e).rec)
      as! w = unfold record_in piece_chunk in ap (λ (y : Chunk). record_of_of y.spare) w

  -- stripe o lies at offset o
  pub new_stripe : (e o : ℕ) → e < p.N → o < c → (spare_at p vc e (zone_on z0 e) o).stripe ≡ o
  new_stripe e o he h =
      let st = moved_stripe_holds (get_or cs o 0) o e he in
      ap (λ (q : Rec). q.stripe) (new_record e o he h)
      ∙ record_stripe (on (get_or cs o 0) o e).rec (subst (λ (n : ℕ). n < 256 ^ 4) (sym st) (let a = c_low in let k = r.stripes_high in omega arith))
      ∙ st

  -- its header, on each drive
  pub new_header : (e : ℕ) → e < p.N → get_or (zone_at vc e (zone_on z0 e)).blocks 0 no_chunk ≡ mk_chunk (header_block p e (zones_in p z0) sn x.serial) zero_spare
  new_header e he = new_block e 0 he (let a = lay_count e in omega arith) ∙ first!
    where
      first! : get_or (lay e) 0 no_chunk ≡ mk_chunk (header_block p e (zones_in p z0) sn x.serial) zero_spare
      first! = unfold lay in refl

  -- ---- the new segment is steady

  module _ (nw : is_whole p x ≡ false) where
    few! : c < p.S
    few! = let a = c_low in let b = neq nw in omega arith
      where
        neq : is_whole p x ≡ false → ¬ (c ≡ p.S)
        neq q = unfold is_whole in eqb-false (length (counted p 0 x)) p.S q

    abbrev y0 : Segment
    y0 = segment_of p vc 0 z0

    pub open_now : sealed_in p vc 0 z0 ≡ false
    open_now = not_so (sealed_in p vc 0 z0) (λ q. let a = sealed_full p vc z0 q 0 h0 in let b = new_pointer 0 h0 in let d = few! in let k = capacity_over p r in let bad : ⊥ = omega arith in bad)

    stored! : (e o : ℕ) → e < p.N → o < c → o < data_stored p (zone_at vc e (zone_on z0 e))
    stored! e o he h = low_data p (zone_at vc e (zone_on z0 e)) o (let a = few! in omega arith) (as! (new_pointer e he))
      where
        as! : pointer_at vc e (zone_on z0 e) ≡ 1 + c → 1 + o < (zone_at vc e (zone_on z0 e)).pointer
        as! q = unfold pointer_at in omega arith

    pub under! : (e o : ℕ) → e < p.N → o < data_stored p (zone_at vc e (zone_on z0 e)) → o < c
    under! e o he h = let a = (data_low p (zone_at vc e (zone_on z0 e)) o h).1 in as! (new_pointer e he) a
      where
        as! : pointer_at vc e (zone_on z0 e) ≡ 1 + c → 1 + o < (zone_at vc e (zone_on z0 e)).pointer → o < c
        as! q w = unfold pointer_at in omega arith

    moved_by_spare : (e o : ℕ) → record_in p (sealed_in p vc 0 z0) (zone_at vc e (zone_on z0 e)) o ≡ spare_at p vc e (zone_on z0 e) o
    moved_by_spare e o = ap (λ (w : Bool). record_in p w (zone_at vc e (zone_on z0 e)) o) open_now

    -- its counted stripes are 0 to c - 1
    counts_are : (s : ℕ) → s < p.S → counts p 0 y0 s ≡ ltb s c
    counts_are s h = go (dec_lt s c)
      where
        in! : all (has_chunk y0 s) (present p 0) ≡ true → counts p 0 y0 s ≡ true
        in! q = unfold counts in q

        go : Dec (s < c) → counts p 0 y0 s ≡ ltb s c
        go (yes l) =
            in! (in_all (has_chunk y0 s) (present p 0) (λ e m. let he = (present_in p 0 e m).0 in has_chunk_holds p vc 0 z0 e s s he (is_in_empty e)
            (stored! e s he l) (ap (λ (a : Rec). a.stripe) (moved_by_spare e s) ∙ new_stripe e s he l)))
            ∙ sym (lt-ltb s c l)
        go (no l) = not_so (counts p 0 y0 s) (λ q. clash (counts_in p 0 y0 s 0 q h0 (is_in_empty 0))
            (no_chunk_holds p vc 0 z0 0 s h0 (is_in_empty 0) (λ o b w. let a = under! 0 o h0 b in let f = sym
            (ap (λ (a : Rec). a.stripe) (moved_by_spare 0 o) ∙ new_stripe 0 o h0 a)
            ∙ w in let bad : ⊥ = omega arith in bad)))
            ∙ sym (le-ltb s c (omega arith))

    pub new_counted : counted p 0 y0 ≡ below c
    unfolding counted below
    new_counted = keep_cong (counts p 0 y0) (λ s. ltb s c) (up_from 0 p.S) (λ s m. counts_are s (let (a, b) = from_in 0 p.S s m in omega arith))
        ∙ keep_firsts c 0 p.S (omega arith) (let a = c_low in omega arith)
        ∙ ap (up_from 0) (let e : c - 0 ≡ c = omega arith in e)

    new_count : length (counted p 0 y0) ≡ c
    new_count = ap length new_counted ∙ length-below c

    pub new_steady : Steady p vc z0 c
    new_steady = record {
      steady_low = new_there;
      steady_few = few!;
      steady_pointer = new_pointer;
      steady_stripes = λ e o he h. subst (λ (n : ℕ). n < c) (sym (new_stripe e o he h)) h;
      steady_count = new_count;
    }

    pub mend_rewrite : Mended p va ts
    mend_rewrite = record {
      mend_roomy = rewrite_roomy;
      mend_within = rewrite_within;
      mend_bound = sn;
      mend_tidy = rewrite_tidy;
      mend_rest = rest_open z0 c new_steady (λ z q n. sealed! z n (used_moved z q));
    }
      where
        sealed! : (z : Seg) → (z ≡ z0 → ⊥) → (z ≡ z0) ⊎ (In z (remaining p v 0) × ((z0 ≡ z → ⊥) × (g ≡ z → ⊥))) → SealedAll p vc z
        sealed! z n (inl e) = absurd (n e)
        sealed! z n (inr (k, (a, b))) =
            λ d hd. sym (zones_pointer p r va vc z (same_else z k b) d hd)
            ∙ sym (zones_pointer p r v va z (drop_same p r v sh acc z k) d hd)
            ∙ sealed_full p v z (oth z k (λ q. b (sym q))) d hd
