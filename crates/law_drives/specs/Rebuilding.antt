-- A rebuild's stores: they are on the named drive alone, each zone is that of one segment at most, they fit, and what each zone holds behind them.
use Rattle.std.specs.Prelude.{◌≡◌, Bool, ◌&&◌, ◌⊎◌, ℕ, zero, suc, ◌+◌, ◌≤◌, ◌<◌, ltb}
use Rattle.std.proofs.Math.Path.{refl, ap, ap₂, subst}
use Rattle.std.proofs.Common.{sym, ◌∙◌, inl, inr, ⊎_elim, le_trans, le_of_eq, eq-eqb, ne_eqb, eqb-true, arith, length-append}
use mathlib.Core.List.{List, [], ◌∷◌, ◌++◌, map, append-nil, append_assoc}
use Rattle.std.proofs.Math.Bool.{true, false, cond}
use Rattle.std.proofs.Math.Decide.{ℕ_discrete}
use Rattle.std.proofs.Math.Dec.{eqb}
use Rattle.std.proofs.Math.ListN.{length, get_or, length-map}
use Rattle.spec.specs.declared.Params.{Params}
use Rattle.spec.specs.Drives.{Chunk, mk_chunk, no_chunk, Zone, View, zone_at, pointer_at, Store, store_view_of, store_all, zone_on, zero_spare, zones_in, good_zones, is_good, reset_zone}
use Rattle.spec.specs.Drives.Store.{put, reset}
use Rattle.spec.specs.Layout.{header_block, Rec, mk_rec, record_bytes, footer_block}
use Rattle.spec.specs.Lists.{below, any, keep, flat, is_in}
use Rattle.spec.specs.Params.{footers, capacity, named}
use Rattle.spec.specs.Parity.{Piece, mk_piece}
use Rattle.spec.specs.Rebuild.{rebuilt_zone, rebuild_stores, by_serial, insert_segment}
use Rattle.spec.specs.Segments.{remaining, Segment, segment_of, segments, offset_on, has_chunk, counts, counted, stored_piece, piece_of, put_piece}
use Rattle.law_basic.specs.Fields.{length_record}
use Rattle.law_basic.specs.Geometry.{Ranged}
use Rattle.law_basic.specs.Ranges.{length-below, map-append, map-map, get_d_map, get_d_map-below, length-keep, keep-map, Test, test, and_right}
use Rattle.law_basic.specs.Ranges.Test.{yes!, no! }
use Rattle.law_code.specs.Chunks.{chunk_decoded}
use Rattle.law_code.specs.Code.{decode_long, decode_apart}
use Rattle.law_drives.specs.Accept.{named_here}
use Rattle.law_drives.specs.Frame.{Agree}
use Rattle.law_drives.specs.Laid.{bytes_record}
use Rattle.law_drives.specs.Members.{In, in_append, map_in, flat_in, keep_in, flat_cong, keep_nothing, flat_nothing, flat_map, below_in, in_get_d, nil-append, any_in, keep-keep, none_in}
use Rattle.law_drives.specs.Puts.{hits-append, hits-flat, put_at, hits-puts, keep-one-below, room_puts, room_append, header_sound, data_sound, footer_sound, put_all}
use Rattle.law_drives.specs.Range.{capacity_is, capacity_over}
use Rattle.law_drives.specs.Segs.{remaining-low, data_low, zone_by, seg_is, chunk_at_holds}
use Rattle.law_drives.specs.Spots.{counts_in, SpotsApart}
use Rattle.law_drives.specs.Tables.{seg_row}
use Rattle.law_drives.specs.Tests.{clash, and_false_left, cond_false, eqb_self, and_false_right}
use Rattle.law_drives.specs.Zones.{Bytes, SoundChunk, Shaped, hits_at_of, zone_store, hits, zone_after, Room, Within, Roomy}
use Rattle.spec.specs.declared.Seg.{Seg}
use Rattle.law_basic.specs.Segs.{ZonesLow, low_zone, zones_in_long}

pub counted-low : (p : Params) (gone : ℕ) (g : Segment) → length (counted p gone g) ≤ p.S
unfolding counted
counted-low p gone g = le_trans (length-keep (counts p gone g) (below p.S)) (le_of_eq (length-below p.S))

pub counted_in : (p : Params) (gone : ℕ) (g : Segment) (s : ℕ) → In s (counted p gone g) → (s < p.S) × (counts p gone g s ≡ true)
unfolding counted
counted_in p gone g s m = let (i, q) = keep_in (counts p gone g) (below p.S) s m in (below_in p.S s i, q)

-- a piece as a chunk
unfoldable pub piece_chunk : Piece → Chunk
piece_chunk q = mk_chunk q.block (record_bytes q.rec)

pub put-pieces : (d z : ℕ) (qs : List Piece) → map (put_piece d z) qs ≡ map (put_at d z) (map piece_chunk qs)
put-pieces d z qs = go ∙ sym (map-map (put_at d z) piece_chunk qs)
  where
    go : map (put_piece d z) qs ≡ map (λ (q : Piece). put_at d z (piece_chunk q)) qs
    go = unfold put_piece put_at piece_chunk in refl

-- ---- rising serials: the same segments in another order

-- a choice by a test
rebuilding_either : {A : Type 0} (P : A → Type 0) (b : Bool) (x y : A) → (b ≡ true → P x) → (b ≡ false → P y) → P (cond b x y)
rebuilding_either P true x y f g = f refl
rebuilding_either P false x y f g = g refl

inserted_in : (g x : Segment) (hs : List Segment) → In x (insert_segment g hs) → (x ≡ g) ⊎ In x hs
unfolding insert_segment
inserted_in g x [] (inl e) = inl e
inserted_in g x [] (inr m) = absurd m
inserted_in g x (h ∷ hs) k =
    rebuilding_either (λ (l : List Segment). In x l → (x ≡ g) ⊎ In x (h ∷ hs)) (ltb h.serial g.serial) (h ∷ insert_segment g hs) (g ∷ h ∷ hs)
    (λ _ m. later (inserted_in g x hs) m) (λ _ m. m) k
  where
    later : (In x (insert_segment g hs) → (x ≡ g) ⊎ In x hs) → (x ≡ h) ⊎ In x (insert_segment g hs) → (x ≡ g) ⊎ In x (h ∷ hs)
    later ih (inl e) = inr (inl e)
    later ih (inr m) = ⊎_elim {A = x ≡ g} {B = In x hs} (λ e. inl e) (λ k. inr (inr k)) (ih m)

in_inserted : (g x : Segment) (hs : List Segment) → (x ≡ g) ⊎ In x hs → In x (insert_segment g hs)
unfolding insert_segment
in_inserted g x [] m = m
in_inserted g x (h ∷ hs) k =
    rebuilding_either (λ (l : List Segment). (x ≡ g) ⊎ In x (h ∷ hs) → In x l) (ltb h.serial g.serial) (h ∷ insert_segment g hs) (g ∷ h ∷ hs)
    (λ _ m. later (in_inserted g x hs) m) (λ _ m. m) k
  where
    later : ((x ≡ g) ⊎ In x hs → In x (insert_segment g hs)) → (x ≡ g) ⊎ In x (h ∷ hs) → (x ≡ h) ⊎ In x (insert_segment g hs)
    later ih (inl e) = inr (ih (inl e))
    later ih (inr (inl e)) = inl e
    later ih (inr (inr m)) = inr (ih (inr m))

pub rebuilding_serial_in : (gs : List Segment) (x : Segment) → In x (by_serial gs) → In x gs
unfolding by_serial
rebuilding_serial_in [] x m = m
rebuilding_serial_in (g ∷ gs) x m = go (inserted_in g x (by_serial gs) m) (rebuilding_serial_in gs x)
  where
    go : (x ≡ g) ⊎ In x (by_serial gs) → (In x (by_serial gs) → In x gs) → (x ≡ g) ⊎ In x gs
    go (inl e) ih = inl e
    go (inr k) ih = inr (ih k)

pub in_serial : (gs : List Segment) (x : Segment) → In x gs → In x (by_serial gs)
unfolding by_serial
in_serial [] x m = m
in_serial (g ∷ gs) x (inl e) = in_inserted g x (by_serial gs) (inl e)
in_serial (g ∷ gs) x (inr m) = in_inserted g x (by_serial gs) (inr (in_serial gs x m))

-- lists that are one after the other in any order
pub flat_insert : {B : Type 0} (f : Segment → List B) (g : Segment) (hs : List Segment) → ((h : Segment) → In h hs → f g ++ f h ≡ f h ++ f g)
    → flat f (insert_segment g hs) ≡ f g ++ flat f hs
unfolding insert_segment flat
flat_insert f g [] c = refl
flat_insert {B} f g (h ∷ hs) c =
    rebuilding_either (λ (l : List Segment). flat f l ≡ f g ++ (f h ++ flat f hs)) (ltb h.serial g.serial) (h ∷ insert_segment g hs) (g ∷ h ∷ hs)
    (λ _. later (flat_insert f g hs (λ k m. c k (inr m)))) (λ _. refl)
  where
    later : flat f (insert_segment g hs) ≡ f g ++ flat f hs → f h ++ flat f (insert_segment g hs) ≡ f g ++ (f h ++ flat f hs)
    later ih =
        ap (λ (l : List B). f h ++ l) ih ∙ sym (append_assoc (f h) (f g) (flat f hs)) ∙ ap (λ (l : List B). l ++ flat f hs) (sym (c h (inl refl)))
        ∙ append_assoc (f g) (f h) (flat f hs)

pub flat_serial : {B : Type 0} (f : Segment → List B) (gs : List Segment) → ((g h : Segment) → In g gs → In h gs → f g ++ f h ≡ f h ++ f g) → flat f (by_serial gs) ≡ flat f gs
unfolding by_serial flat
flat_serial f [] c = refl
flat_serial {B} f (g ∷ gs) c =
    flat_insert f g (by_serial gs) (λ h m. c g h (inl refl) (inr (rebuilding_serial_in gs h m))) ∙ ap (λ (l : List B). f g ++ l) (flat_serial f gs (λ x y m n. c x y (inr m) (inr n)))

-- ---- a rebuilt zone

module _ (p : Params) (r : Ranged p) (v : View) (sh : Shaped p v) where
  -- a stored chunk's block
  pub stored_long : (gone : ℕ) (g : Seg) (s d : ℕ) → zone_on g d < p.Z → d < p.N → is_in gone d ≡ false → has_chunk (segment_of p v gone g) s d ≡ true
      → length (stored_piece (segment_of p v gone g) s d).block ≡ p.B
  unfolding stored_piece
  stored_long gone g s d hg hd q c =
      let o = offset_on (segment_of p v gone g) d s in
      let l = data_low p (zone_at v d (zone_on g d)) o (chunk_at_holds p v gone g d s hd q c).stored_there in
      ap (λ (x : Zone). length (get_or x.blocks (1 + o) no_chunk).block) (zone_by p v gone g d hd)
      ∙ ((sh.zone_ok d (zone_on g d) hd hg).sound (1 + o) (omega (arith, capacity_over p r))).block_long

  module _ (gone : ℕ) (g : Seg) (d : ℕ) (hg : ZonesLow p gone g) (hd : d < p.N) (lost : is_in gone d ≡ true) where
    abbrev x : Segment
    x = segment_of p v gone g

    decoded_long : (s : ℕ) → counts p gone x s ≡ true → length (piece_of p gone x s d).block ≡ p.B
    decoded_long s c =
        ap (λ (q : Piece). length q.block) (chunk_decoded p gone x s d lost ∙ decode_apart p gone s d (stored_piece x s))
        ∙ decode_long p gone s d (λ e. (stored_piece x s e).block) (λ e he ne. stored_long gone g s e (low_zone p gone g e hg he ne) he ne (counts_in p gone x s e c he ne))

    abbrev lost_pieces : List Piece
    lost_pieces = map (λ s. piece_of p gone x s d) (counted p gone x)

    abbrev lost_spares : List (List ℕ)
    lost_spares = map (λ (q : Piece). record_bytes q.rec) lost_pieces

    abbrev lost_footers : List Chunk
    lost_footers = map (λ i. mk_chunk (footer_block p lost_spares i) zero_spare) (below (footers p))

    lost_spare : (s : List ℕ) → In s lost_spares → (q : Rec) × (s ≡ record_bytes q)
    lost_spare s m = let (q, i, e) = map_in (λ (q : Piece). record_bytes q.rec) lost_pieces s m in (q.rec, e)

    length-lost : length (map piece_chunk lost_pieces) ≡ length (counted p gone x)
    length-lost = length-map lost_pieces piece_chunk ∙ length-map (counted p gone x) (λ s. piece_of p gone x s d)

    header_room : Room p 0 (map (put_at d (zone_on g d)) (mk_chunk (header_block p d (zones_in p g) x.serial x.copied) zero_spare ∷ []))
    header_room = room_puts p d (zone_on g d) 0 (mk_chunk (header_block p d (zones_in p g) x.serial x.copied) zero_spare ∷ []) (omega (arith, capacity_over p r)) one
      where
        one : (i : ℕ) → i < 1 → SoundChunk p (0 + i) (get_or (mk_chunk (header_block p d (zones_in p g) x.serial x.copied) zero_spare ∷ []) i no_chunk)
        one zero h = header_sound p r d (zones_in p g) x.serial x.copied (zones_in_long p g)
        one (suc i) h = absurd (let z : ⊥ = omega arith in z)

    pieces_room : Room p 1 (map (put_at d (zone_on g d)) (map piece_chunk lost_pieces))
    unfolding piece_chunk
    pieces_room = room_puts p d (zone_on g d) 1 (map piece_chunk lost_pieces) (omega (arith, length-lost, counted-low p gone x, capacity_over p r))
        (λ i h.
        let l : i < length lost_pieces = subst (λ (y : ℕ). i < y) (length-map lost_pieces piece_chunk) h in
        let e : get_or (map piece_chunk lost_pieces) i no_chunk ≡ piece_chunk (get_or lost_pieces i (mk_piece [] (mk_rec 0 0 0))) = get_d_map piece_chunk lost_pieces i
        no_chunk (mk_piece [] (mk_rec 0 0 0)) l in
        let q = get_or lost_pieces i (mk_piece [] (mk_rec 0 0 0)) in
        let (s, m, f) = map_in (λ s. piece_of p gone x s d) (counted p gone x) q (in_get_d lost_pieces i (mk_piece [] (mk_rec 0 0 0)) l) in
        subst (λ (c : Chunk). SoundChunk p (1 + i) c) (sym e)
        (data_sound p (1 + i) q.block q.rec (omega arith) (omega (arith, length-lost, counted-low p gone x))
        (ap (λ (y : Piece). length y.block) f ∙ decoded_long s (counted_in p gone x s m).1)))

    footers_room : Room p (1 + length (map piece_chunk lost_pieces)) (map (put_at d (zone_on g d)) lost_footers)
    footers_room =
        let n = 1 + length (map piece_chunk lost_pieces) in
        let l : length lost_footers ≡ footers p = length-map (below (footers p)) (λ i. mk_chunk (footer_block p lost_spares i) zero_spare) ∙ length-below (footers p) in
        room_puts p d (zone_on g d) n lost_footers (omega (arith, length-lost, counted-low p gone x, capacity_is p r))
        (λ i h.
        subst (λ (c : Chunk). SoundChunk p (n + i) c)
        (sym (get_d_map-below (λ i. mk_chunk (footer_block p lost_spares i) zero_spare) (footers p) i no_chunk (subst (λ (y : ℕ). i < y) l h)))
        (footer_sound p r (n + i) lost_spares i (λ s m. ap length (lost_spare s m).1 ∙ length_record (lost_spare s m).0)
        (λ s m. subst (λ (y : List ℕ). Bytes y) (sym (lost_spare s m).1) (bytes_record (lost_spare s m).0))))

    abbrev lost_end_holds : List Chunk
    lost_end_holds = cond x.full lost_footers []

    unfoldable pub rebuilt_chunks : List Chunk
    rebuilt_chunks = mk_chunk (header_block p d (zones_in p g) x.serial x.copied) zero_spare ∷ (map piece_chunk lost_pieces ++ lost_end_holds)

    pub rebuilt_room : Room p 0 (map (put_at d (zone_on g d)) rebuilt_chunks)
    unfolding rebuilt_chunks
    rebuilt_room =
        room_append p d (zone_on g d) 0 (mk_chunk (header_block p d (zones_in p g) x.serial x.copied) zero_spare ∷ []) (map (put_at d (zone_on g d)) (map piece_chunk lost_pieces ++ lost_end_holds))
        header_room
        (subst (λ (y : List Store). Room p 1 y) (sym (map-append (put_at d (zone_on g d)) (map piece_chunk lost_pieces) lost_end_holds))
        (room_append p d (zone_on g d) 1 (map piece_chunk lost_pieces) (map (put_at d (zone_on g d)) lost_end_holds) pieces_room (end x.full)))
      where
        end : (b : Bool) → Room p (1 + length (map piece_chunk lost_pieces)) (map (put_at d (zone_on g d)) (cond b lost_footers []))
        end true = footers_room
        end false = tt

    pub rebuilt_chunks_low : length rebuilt_chunks ≤ capacity p
    unfolding rebuilt_chunks
    rebuilt_chunks_low = end x.full
      where
        feet : length lost_footers ≡ footers p
        feet = length-map (below (footers p)) (λ i. mk_chunk (footer_block p lost_spares i) zero_spare) ∙ length-below (footers p)

        end : (b : Bool) → suc (length (map piece_chunk lost_pieces ++ cond b lost_footers [])) ≤ capacity p
        end true = omega (arith, length-append (map piece_chunk lost_pieces) lost_footers, feet, length-lost, counted-low p gone x, capacity_is p r)
        end false = omega (arith, length-append (map piece_chunk lost_pieces) [], length-lost, counted-low p gone x, capacity_is p r)

  -- the stores of a rebuilt zone are puts of these chunks
  pub rebuilt_is : (d : ℕ) (g : Seg) (hg : ZonesLow p (named d) g) (hd : d < p.N) (lost : is_in (named d) d ≡ true)
      → rebuilt_zone p d (segment_of p v (named d) g) ≡ map (put_at d (zone_on g d)) (rebuilt_chunks (named d) g d hg hd lost)
  unfolding rebuilt_zone rebuilt_chunks
  rebuilt_is d g hg hd lost =
      let gone = named d in
      let x = segment_of p v gone g in
      let qs = map (λ s. piece_of p gone x s d) (counted p gone x) in
      let ss = map (λ (q : Piece). record_bytes q.rec) qs in
      let z = zone_on g d in
      ap (λ (k : Seg). let y = zone_on k d in put d y (header_block p d (zones_in p k) x.serial x.copied) zero_spare ∷
      (map (put_piece d y) qs ++ cond x.full (map (λ i. put d y (footer_block p ss i) zero_spare) (below (footers p))) []))
      (seg_is p v gone g)
      ∙ ap₂ (λ (y k : List Store). put d (zone_on g d) (header_block p d (zones_in p g) x.serial x.copied) zero_spare ∷ (y ++ k)) (put-pieces d (zone_on g d) qs) (end d z ss x.full)
      ∙ first d z (header_block p d (zones_in p g) x.serial x.copied)
      (map (put_at d (zone_on g d)) (map piece_chunk qs) ++ map (put_at d (zone_on g d))
      (cond x.full (map (λ i. mk_chunk (footer_block p ss i) zero_spare) (below (footers p))) []))
      ∙ ap (λ (y : List Store). put_at d (zone_on g d) (mk_chunk (header_block p d (zones_in p g) x.serial x.copied) zero_spare) ∷ y)
      (sym (map-append (put_at d (zone_on g d)) (map piece_chunk qs) (cond x.full (map (λ i. mk_chunk (footer_block p ss i) zero_spare) (below (footers p))) [])))
    where
      first : (d g : ℕ) (b : List ℕ) (l : List Store) → (put d g b zero_spare ∷ l) ≡ (put_at d g (mk_chunk b zero_spare) ∷ l)
      first d g b l = unfold put_at in refl

      end :
          (d g : ℕ) (ss : List (List ℕ)) (b : Bool)
          → cond b (map (λ i. put d g (footer_block p ss i) zero_spare) (below (footers p))) [] ≡ map (put_at d g)
          (cond b (map (λ i. mk_chunk (footer_block p ss i) zero_spare) (below (footers p))) [])
      end d g ss true = plain d g ss ∙ sym (map-map (put_at d g) (λ i. mk_chunk (footer_block p ss i) zero_spare) (below (footers p)))
        where
          plain :
              (d g : ℕ) (ss : List (List ℕ))
              → map (λ i. put d g (footer_block p ss i) zero_spare) (below (footers p)) ≡ map (λ i. put_at d g (mk_chunk (footer_block p ss i) zero_spare))
              (below (footers p))
          plain d g ss = unfold put_at in refl
      end d g ss false = refl

  -- ---- all the stores

  module _ (d : ℕ) (hd : d < p.N) (lost : is_in (named d) d ≡ true) (apart : SpotsApart p v (named d)) where
    abbrev stores : List Store
    stores = rebuild_stores p v d (segments p v (named d))

    abbrev left : List Seg
    left = remaining p v (named d)

    abbrev low_of : (g : Seg) → In g left → ZonesLow p (named d) g
    low_of g m = remaining-low p v (named d) (named_here p r d hd) g m

    -- the zone that the headers name for it
    pub rebuilt_in_range : (g : Seg) → In g left → zone_on g d < p.Z
    rebuilt_in_range g m = apart.named-low g d m hd lost

    reset_hits : (z : ℕ) → z < p.Z → is_good p v.offline d z ≡ true → hits d z (map (reset d) (good_zones p v.offline d)) ≡ reset d z ∷ []
    unfolding good_zones
    reset_hits z hz k =
        keep-map (hits_at_of d z) (reset d) (keep (is_good p v.offline d) (below p.Z))
        ∙ ap (map (reset d)) (keep-keep (λ y. hits_at_of d z (reset d y)) (is_good p v.offline d) (below p.Z)
        ∙ keep-one-below (λ y. is_good p v.offline d y && hits_at_of d z (reset d y)) z p.Z hit hz)
      where
        at! : (y : ℕ) → hits_at_of d z (reset d y) ≡ eqb y z
        at! y = unfold hits_at_of in rw (eqb_self d)

        hit : (y : ℕ) → (is_good p v.offline d y && hits_at_of d z (reset d y)) ≡ eqb y z
        hit y = ap (λ (b : Bool). is_good p v.offline d y && b) (at! y) ∙ go (test (eqb y z))
          where
            go : Test (eqb y z) → (is_good p v.offline d y && eqb y z) ≡ eqb y z
            go (yes! q) = ap (λ (b : Bool). b && eqb y z) (ap (is_good p v.offline d) (eqb-true y z q) ∙ k)
            go (no! q) = and_false_right (is_good p v.offline d y) (eqb y z) q ∙ sym q

    -- no reset of another zone
    reset_misses : (e z : ℕ) → ((y : ℕ) → is_good p v.offline d y ≡ true → (eqb d e && eqb y z) ≡ false) → hits e z (map (reset d) (good_zones p v.offline d)) ≡ []
    unfolding good_zones
    reset_misses e z n = keep_nothing (hits_at_of e z) (map (reset d) (keep (is_good p v.offline d) (below p.Z)))
        (λ s m.
        let (y, i, f) = map_in (reset d) (keep (is_good p v.offline d) (below p.Z)) s m in
        ap (hits_at_of e z) f ∙ miss y (keep_in (is_good p v.offline d) (below p.Z) y i).1)
      where
        miss : (y : ℕ) → is_good p v.offline d y ≡ true → hits_at_of e z (reset d y) ≡ false
        miss y q = unfold hits_at_of in n y q

    zone_hits : (e y : ℕ) (g : Seg) → In g left
        → hits e y (rebuilt_zone p d (segment_of p v (named d) g)) ≡ cond (eqb d e && eqb (zone_on g d) y) (rebuilt_zone p d (segment_of p v (named d) g)) []
    zone_hits e y g m =
        let q = rebuilt_is d g (low_of g m) hd lost in
        ap (hits e y) q ∙ hits-puts e y d (zone_on g d) (rebuilt_chunks (named d) g d (low_of g m) hd lost)
        ∙ ap (λ (l : List Store). cond (eqb d e && eqb (zone_on g d) y) l []) (sym q)

    -- of all rebuilt zones, what falls on one
    abbrev falls : ℕ → ℕ → Seg → List Store
    falls e y g = cond (eqb d e && eqb (zone_on g d) y) (rebuilt_zone p d (segment_of p v (named d) g)) []

    segment_in_holds : (x : Segment) → In x (segments p v (named d)) → (g : Seg) × In g left × (x ≡ segment_of p v (named d) g)
    unfolding segments
    segment_in_holds x m = map_in (segment_of p v (named d)) left x m

    -- one segment at most has the zone
    in_turn : (e y : ℕ) (g h : Seg) → In g left → In h left → falls e y g ++ falls e y h ≡ falls e y h ++ falls e y g
    in_turn e y g h m n = go (test (eqb d e && eqb (zone_on g d) y)) (test (eqb d e && eqb (zone_on h d) y))
      where
        go : Test (eqb d e && eqb (zone_on g d) y) → Test (eqb d e && eqb (zone_on h d) y) → falls e y g ++ falls e y h ≡ falls e y h ++ falls e y g
        go (yes! a) (yes! b) =
            let i : g ≡ h = apart.named_once g h d m n hd lost (eqb-true (zone_on g d) y (and_right (eqb d e) (eqb (zone_on g d) y) a)
            ∙ sym (eqb-true (zone_on h d) y (and_right (eqb d e) (eqb (zone_on h d) y) b))) in
            subst (λ (k : Seg). falls e y g ++ falls e y k ≡ falls e y k ++ falls e y g) i refl
        go (no! a) b = none_left (falls e y g) (falls e y h) (cond_false (eqb d e && eqb (zone_on g d) y) (rebuilt_zone p d (segment_of p v (named d) g)) [] a)
          where
            none_left : (xs ys : List Store) → xs ≡ [] → xs ++ ys ≡ ys ++ xs
            none_left xs ys q = ap (λ (l : List Store). l ++ ys) q ∙ sym (append-nil ys) ∙ ap (λ (l : List Store). ys ++ l) (sym q)
        go (yes! a) (no! b) = none_right (falls e y g) (falls e y h) (cond_false (eqb d e && eqb (zone_on h d) y) (rebuilt_zone p d (segment_of p v (named d) h)) [] b)
          where
            none_right : (xs ys : List Store) → ys ≡ [] → xs ++ ys ≡ ys ++ xs
            none_right xs ys q = ap (λ (l : List Store). xs ++ l) q ∙ append-nil xs ∙ ap (λ (l : List Store). l ++ xs) (sym q)

    rows_hit : (e y : ℕ) → hits e y (flat (rebuilt_zone p d) (by_serial (segments p v (named d)))) ≡ flat (falls e y) left
    rows_hit e y =
        hits-flat e y (rebuilt_zone p d) (by_serial (segments p v (named d)))
        ∙ flat_serial (λ (x : Segment). hits e y (rebuilt_zone p d x)) (segments p v (named d))
        (λ x k m n. turn x k (segment_in_holds x m) (segment_in_holds k n))
        ∙ by_segs
      where
        turn : (x k : Segment) → (g : Seg) × In g left × (x ≡ segment_of p v (named d) g) → (g : Seg) × In g left × (k ≡ segment_of p v (named d) g)
            → hits e y (rebuilt_zone p d x) ++ hits e y (rebuilt_zone p d k) ≡ hits e y (rebuilt_zone p d k) ++ hits e y (rebuilt_zone p d x)
        turn x k (g, m, a) (h, n, b) =
            let ea : hits e y (rebuilt_zone p d x) ≡ falls e y g = ap (λ (z : Segment). hits e y (rebuilt_zone p d z)) a ∙ zone_hits e y g m in
            let eb : hits e y (rebuilt_zone p d k) ≡ falls e y h = ap (λ (z : Segment). hits e y (rebuilt_zone p d z)) b ∙ zone_hits e y h n in
            ap₂ ◌++◌ ea eb ∙ in_turn e y g h m n ∙ sym (ap₂ ◌++◌ eb ea)

        by_segs : flat (λ (x : Segment). hits e y (rebuilt_zone p d x)) (segments p v (named d)) ≡ flat (falls e y) left
        by_segs = unfold segments in (flat_map (λ (x : Segment). hits e y (rebuilt_zone p d x)) (segment_of p v (named d)) left
            ∙ flat_cong (λ g. hits e y (rebuilt_zone p d (segment_of p v (named d) g))) (falls e y) left (λ g m. zone_hits e y g m))

    stores_hit : (e y : ℕ) → hits e y stores ≡ hits e y (map (reset d) (good_zones p v.offline d)) ++ flat (falls e y) left
    unfolding rebuild_stores
    stores_hit e y =
        hits-append e y (map (reset d) (good_zones p v.offline d)) (flat (rebuilt_zone p d) (by_serial (segments p v (named d))))
        ∙ ap (λ (l : List Store). hits e y (map (reset d) (good_zones p v.offline d)) ++ l) (rows_hit e y)

    -- a zone of a segment that remains
    pub hits_here : (g : Seg) → In g left → hits d (zone_on g d) stores ≡ reset d (zone_on g d) ∷ rebuilt_zone p d (segment_of p v (named d) g)
    hits_here g m =
        let y = zone_on g d in
        stores_hit d y
        ∙ ap₂ ◌++◌ (reset_hits y (rebuilt_in_range g m) (apart.named_good g d m hd lost))
        (flat_cong (falls d y) (λ k. cond (eqb (zone_on k d) y) (rebuilt_zone p d (segment_of p v (named d) k)) []) left
        (λ k n. ap (λ (b : Bool). cond (b && eqb (zone_on k d) y) (rebuilt_zone p d (segment_of p v (named d) k)) []) (eqb_self d))
        ∙ seg_row p v (named d) (named_here p r d hd) (λ k. rebuilt_zone p d (segment_of p v (named d) k)) d g m (λ h n e. apart.named_once h g d n m hd lost e))

    nothing_falls : (e y : ℕ) → ((g : Seg) → In g left → (eqb d e && eqb (zone_on g d) y) ≡ false) → flat (falls e y) left ≡ []
    nothing_falls e y n = flat_nothing (falls e y) left (λ g m. cond_false (eqb d e && eqb (zone_on g d) y) (rebuilt_zone p d (segment_of p v (named d) g)) [] (n g m))

    -- another good zone is only reset
    pub hits_free : (z : ℕ) → z < p.Z → is_good p v.offline d z ≡ true → ((g : Seg) → In g left → zone_on g d ≡ z → ⊥) → hits d z stores ≡ reset d z ∷ []
    hits_free z hz k n = stores_hit d z ∙ ap₂ ◌++◌ (reset_hits z hz k) (nothing_falls d z (λ g m. and_false_right (eqb d d) (eqb (zone_on g d) z) (ne_eqb (zone_on g d) z (n g m))))

    -- an offline zone is left
    pub hits_bad : (z : ℕ) → is_good p v.offline d z ≡ false → hits d z stores ≡ []
    hits_bad z k = stores_hit d z ∙ nil-append (hits d z (map (reset d) (good_zones p v.offline d))) (flat (falls d z) left)
        (reset_misses d z (λ y q. and_false_right (eqb d d) (eqb y z) (ne_eqb y z (λ e. clash q (ap (is_good p v.offline d) e ∙ k)))))
        (nothing_falls d z (λ g m. and_false_right (eqb d d) (eqb (zone_on g d) z)
        (ne_eqb (zone_on g d) z (λ e. clash (apart.named_good g d m hd lost) (ap (is_good p v.offline d) e ∙ k)))))

    -- and so are all zones of the other drives
    pub hits_off : (e z : ℕ) → (d ≡ e → ⊥) → hits e z stores ≡ []
    hits_off e z n = stores_hit e z ∙ nil-append (hits e z (map (reset d) (good_zones p v.offline d))) (flat (falls e z) left)
        (reset_misses e z (λ y q. and_false_left (eqb d e) (eqb y z) (ne_eqb d e n)))
        (nothing_falls e z (λ g m. and_false_left (eqb d e) (eqb (zone_on g d) z) (ne_eqb d e n)))

    -- a good zone of the drive is that of a segment that remains, or of none
    pub data RebuiltZone (z : ℕ) : Type 0 where
      zone_of_holds : (g : Seg) → In g left → zone_on g d ≡ z → RebuiltZone z
      zone_free : is_good p v.offline d z ≡ true → ((g : Seg) → In g left → zone_on g d ≡ z → ⊥) → RebuiltZone z
      zone_bad : is_good p v.offline d z ≡ false → RebuiltZone z

    pub rebuilt-kind : (z : ℕ) → RebuiltZone z
    rebuilt-kind z = go (test (any (λ g. eqb (zone_on g d) z) left)) (test (is_good p v.offline d z))
      where
        go : Test (any (λ g. eqb (zone_on g d) z) left) → Test (is_good p v.offline d z) → RebuiltZone z
        go (yes! q) k = let (g, m, e) = any_in (λ g. eqb (zone_on g d) z) left q in zone_of_holds g m (eqb-true (zone_on g d) z e)
        go (no! q) (yes! k) = zone_free k (λ g m e. clash (eq-eqb (zone_on g d) z e) (none_in (λ g. eqb (zone_on g d) z) left q g m))
        go (no! q) (no! k) = zone_bad k

    pub rebuild_roomy : Roomy p v stores
    rebuild_roomy e z he hz = go (ℕ_discrete d e)
      where
        kind : RebuiltZone z → Room p (pointer_at v d z) (hits d z stores)
        kind (zone_of_holds g m q) = subst (λ (x : ℕ). Room p (pointer_at v d x) (hits d x stores)) q
            (subst (λ (l : List Store). Room p (pointer_at v d (zone_on g d)) l) (sym (hits_here g m))
            (subst (λ (l : List Store). Room p 0 l) (sym (rebuilt_is d g (low_of g m) hd lost)) (rebuilt_room (named d) g d (low_of g m) hd lost)))
        kind (zone_free k n) = subst (λ (l : List Store). Room p (pointer_at v d z) l) (sym (hits_free z hz k n)) tt
        kind (zone_bad k) = subst (λ (l : List Store). Room p (pointer_at v d z) l) (sym (hits_bad z k)) tt

        go : Dec (d ≡ e) → Room p (pointer_at v e z) (hits e z stores)
        go (no n) = subst (λ (l : List Store). Room p (pointer_at v e z) l) (sym (hits_off e z n)) tt
        go (yes n) = subst (λ (x : ℕ). Room p (pointer_at v x z) (hits x z stores)) n (kind (rebuilt-kind z))

    pub rebuild_within : (s : Store) → In s stores → Within p s
    unfolding rebuild_stores good_zones
    rebuild_within s m =
        go (in_append s (map (reset d) (keep (is_good p v.offline d) (below p.Z))) (flat (rebuilt_zone p d) (by_serial (segments p v (named d)))) m)
      where
        put_within : (g : Seg) (c : Chunk) → In g left → Within p (put_at d (zone_on g d) c)
        put_within g c i = unfold put_at in (hd, rebuilt_in_range g i)

        go : In s (map (reset d) (keep (is_good p v.offline d) (below p.Z))) ⊎ In s (flat (rebuilt_zone p d) (by_serial (segments p v (named d)))) → Within p s
        go (inl i) =
            let (y, j, e) = map_in (reset d) (keep (is_good p v.offline d) (below p.Z)) s i in
            subst (λ (x : Store). Within p x) (sym e) (hd, below_in p.Z y (keep_in (is_good p v.offline d) (below p.Z) y j).0)
        go (inr i) =
            let (x, j, k) = flat_in (rebuilt_zone p d) (by_serial (segments p v (named d))) s i in
            let (g, l, e) = segment_in_holds x (rebuilding_serial_in (segments p v (named d)) x j) in
            let hg = low_of g l in
            let t : In s (map (put_at d (zone_on g d)) (rebuilt_chunks (named d) g d hg hd lost)) = subst (λ (y : List Store). In s y) (ap (rebuilt_zone p d) e ∙ rebuilt_is d g hg hd lost) k in
            let (c, u, f) = map_in (put_at d (zone_on g d)) (rebuilt_chunks (named d) g d hg hd lost) s t in
            subst (λ (y : Store). Within p y) (sym f) (put_within g c l)

    -- ---- what the zones hold behind them

    abbrev rebuilt : View
    rebuilt = store_all store_view_of stores v

    nothing : (y : Zone) → store_all zone_store [] y ≡ y
    nothing y = unfold store_all in refl

    reset_first : (z : ℕ) (l : List Store) (y : Zone) → store_all zone_store (reset d z ∷ l) y ≡ store_all zone_store l (reset_zone y)
    reset_first z l y = unfold store_all zone_store in refl

    -- the zone of a segment that remains: header, chunks and footers
    pub zone_rebuilt : (g : Seg) (m : In g left)
        → zone_at rebuilt d (zone_on g d) ≡ put_all d (zone_on g d) (rebuilt_chunks (named d) g d (remaining-low p v (named d) (named_here p r d hd) g m) hd lost)
        (reset_zone (zone_at v d (zone_on g d)))
    zone_rebuilt g m =
        let z = zone_on g d in
        zone_after p v d z stores sh.sized hd (rebuilt_in_range g m)
        ∙ ap (λ (l : List Store). store_all zone_store l (zone_at v d z)) (hits_here g m)
        ∙ reset_first z (rebuilt_zone p d (segment_of p v (named d) g)) (zone_at v d z)
        ∙ ap (λ (l : List Store). store_all zone_store l (reset_zone (zone_at v d z))) (rebuilt_is d g (low_of g m) hd lost)

    -- another good zone is empty
    pub zone_emptied : (z : ℕ) → z < p.Z → is_good p v.offline d z ≡ true → ((g : Seg) → In g left → zone_on g d ≡ z → ⊥) → zone_at rebuilt d z ≡ reset_zone (zone_at v d z)
    zone_emptied z hz k n =
        zone_after p v d z stores sh.sized hd hz ∙ ap (λ (l : List Store). store_all zone_store l (zone_at v d z)) (hits_free z hz k n)
        ∙ reset_first z [] (zone_at v d z) ∙ nothing (reset_zone (zone_at v d z))

    -- they leave the other drives
    pub rebuild_agrees : Agree p (named d) v (store_all store_view_of stores v)
    rebuild_agrees e z he hz q =
        sym (zone_after p v e z stores sh.sized he hz
        ∙ ap (λ (l : List Store). store_all zone_store l (zone_at v e z)) (hits_off e z (λ n. clash (subst (λ (x : ℕ). is_in (named d) x ≡ true) n lost) q))
        ∙ nothing (zone_at v e z))
