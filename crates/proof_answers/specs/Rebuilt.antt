-- The stores of a rebuild have room: they reset the named drive, and then put a header, the counted chunks and footers in a zone. Assumes nothing.
use Rattle.std.specs.Prelude.{◌≡◌, refl, Bool, true, false, ◌&&◌, ◌⊎◌, ℕ, suc, ◌≤◌, ◌<◌, length}
use Rattle.std.proofs.Common.{sym, ap₂, ◌∙◌, inl, inr, ne_eqb, eqb-true, arith, length-append}
use Rattle.std.proofs.Math.Path.{ap, subst}
use mathlib.Core.List.{List, [], ◌∷◌, ◌++◌, map, append-nil}
use Rattle.std.proofs.Math.Bool.{cond}
use Rattle.std.proofs.Math.Decide.{ℕ_discrete}
use Rattle.std.proofs.Math.Dec.{eqb}
use Rattle.std.proofs.lemmas.List.{length-map}
use Rattle.spec.specs.declared.Params.{Params}
use Rattle.spec.specs.Drives.{View, zone_at, pointer_at, Store, zone_on, zero_spare, zones_in, good_zones, is_good}
use Rattle.spec.specs.Drives.Store.{put, reset}
use Rattle.spec.specs.Layout.{header_block, record_bytes, footer_block}
use Rattle.spec.specs.Lists.{below, flat, is_in, keep, any}
use Rattle.spec.specs.Params.{spare_len, footers, capacity, named}
use Rattle.spec.specs.Parity.{Piece}
use Rattle.spec.specs.Rebuild.{rebuilt_zone, rebuild_stores, by_serial}
use Rattle.spec.specs.Segments.{remaining, Segment, segment_of, segments, counted, piece_of, put_piece}
use Rattle.law_basic.specs.Fields.{length_record}
use Rattle.law_basic.specs.Geometry.{Ranged}
use Rattle.law_basic.specs.Mask.{is_in-only}
use Rattle.law_basic.specs.Ranges.{Test, test, length-below, keep-map, and_right}
use Rattle.law_basic.specs.Ranges.Test.{yes!, no! }
use Rattle.law_drives.specs.Laid.{Long}
use Rattle.law_drives.specs.Members.{In, in_append, map_in, flat_in, flat_cong, keep_nothing, keep_all, flat_nothing, flat_map, below_in, any_in, keep_in, keep-keep, none_in}
use Rattle.law_drives.specs.Puts.{hits-append, hits-flat, keep-one-below}
use Rattle.law_drives.specs.Range.{capacity_is}
use Rattle.law_drives.specs.Rebuilding.{counted-low, counted_in, flat_serial, rebuilding_serial_in}
use Rattle.law_drives.specs.Segs.{seg_is, Here}
use Rattle.law_drives.specs.Tables.{seg_row}
use Rattle.law_drives.specs.Tests.{and_false_left, cond_false, eqb_self, and_false_right}
use Rattle.law_drives.specs.Zones.{hits_at_of, hits}
use Rattle.proof_answers.specs.Lengths.{Fair, header_proper, footer_proper, lost_piece_long, piece_proper, OnGood}
use Rattle.proof_answers.specs.Rising.{Rises, rises_few, Proper, Able}
use Rattle.spec.specs.declared.Seg.{Seg}
use Rattle.law_drives.specs.Accept.{Accepted, named_here, zone_good, zone_in_range, zone_once}

-- a store in zone z of drive d
unfoldable is_at : ℕ → ℕ → Store → Type 0
is_at d z s = (e y : ℕ) → hits_at_of e y s ≡ (eqb d e && eqb z y)

-- stores that are all in one zone
hits_at : (d z e y : ℕ) (ss : List Store) → ((s : Store) → In s ss → is_at d z s) → hits e y ss ≡ cond (eqb d e && eqb z y) ss []
unfolding is_at
hits_at d z e y ss f = go (test (eqb d e && eqb z y))
  where
    go : Test (eqb d e && eqb z y) → hits e y ss ≡ cond (eqb d e && eqb z y) ss []
    go (yes! q) = rw q (keep_all (hits_at_of e y) ss (λ s m. f s m e y ∙ q))
    go (no! q) = rw q (keep_nothing (hits_at_of e y) ss (λ s m. f s m e y ∙ q))

put_is_at : (d z : ℕ) (b s : List ℕ) → is_at d z (put d z b s)
unfolding is_at hits_at_of
put_is_at d z b s e y = refl

module _ (p : Params) (r : Ranged p) (v : View) (fair : (d z : ℕ) → d < p.N → z < p.Z → Fair p (zone_at v d z)) (d : ℕ) (hd : d < p.N) (acc : Accepted p v (named d)) where
  abbrev gone : ℕ
  gone = named d

  abbrev left : List Seg
  left = remaining p v gone

  abbrev off : List ℕ
  off = v.offline

  low_there : Here p gone
  low_there = named_here p r d hd

  -- 01, Refusals, 9: the zones that headers name, on the named drive too, are good zones, and no two segments have one
  left_good : (g : Seg) → In g left → OnGood p off g
  left_good g m e he = (zone_in_range p v gone acc low_there g e m he, zone_good p v gone acc low_there g e m he)

  rebuilt_left_once : (g h : Seg) → In g left → In h left → zone_on g d ≡ zone_on h d → g ≡ h
  rebuilt_left_once g h m n e = zone_once p v gone acc low_there g h d m n hd e

  lost : is_in gone d ≡ true
  unfolding named
  lost = is_in-only d d (omega (arith, r.drives_high)) (omega (arith, r.drives_high)) ∙ eqb_self d

  -- ---- one zone

  module _ (g : Seg) (hg : OnGood p off g) where
    abbrev x : Segment
    x = segment_of p v gone g

    abbrev pieces : List Piece
    pieces = map (λ s. piece_of p gone x s d) (counted p gone x)

    abbrev spares : List (List ℕ)
    spares = map (λ (q : Piece). record_bytes q.rec) pieces

    abbrev feet : List Store
    feet = map (λ i. put d (zone_on g d) (footer_block p spares i) zero_spare) (below (footers p))

    abbrev ours : List Store
    ours = put d (zone_on g d) (header_block p d (zones_in p g) x.serial x.copied) zero_spare ∷ (map (put_piece d (zone_on g d)) pieces ++ cond x.full feet [])

    rebuilt_is : rebuilt_zone p d x ≡ ours
    unfolding rebuilt_zone
    rebuilt_is =
        ap (λ (k : Seg). let y = zone_on k d in put d y (header_block p d (zones_in p k) x.serial x.copied) zero_spare
        ∷ (map (put_piece d y) pieces ++ cond x.full (map (λ i. put d y (footer_block p spares i) zero_spare) (below (footers p))) [])) (seg_is p v gone g)

    -- 01, Rebuild: header, the counted chunks and the footers fill at most the zone
    rebuilt_few : length (rebuilt_zone p d x) ≤ capacity p
    rebuilt_few =
        let a : length (map (put_piece d (zone_on g d)) pieces) ≡ length (counted p gone x) = length-map pieces (put_piece d (zone_on g d))
        ∙ length-map (counted p gone x) (λ s. piece_of p gone x s d) in
        let b = counted-low p gone x in
        let c = end x.full in
        let e = length-append (map (put_piece d (zone_on g d)) pieces) (cond x.full feet []) in
        let f = capacity_is p r in
        let h : length (rebuilt_zone p d x) ≡ suc (length (map (put_piece d (zone_on g d)) pieces ++ cond x.full feet [])) = ap length rebuilt_is in
        omega arith
      where
        all_feet : length feet ≡ footers p
        all_feet = length-map (below (footers p)) (λ i. put d (zone_on g d) (footer_block p spares i) zero_spare) ∙ length-below (footers p)

        end : (b : Bool) → length (cond b feet []) ≤ footers p
        end true = let e = all_feet in omega arith
        end false = omega arith

    spares_long : Long spare_len spares
    spares_long s m = let (q, i, e) = map_in (λ (q : Piece). record_bytes q.rec) pieces s m in ap length e ∙ length_record q.rec

    -- its stores are proper, and in that zone
    rebuilt_each : (s : Store) → In s (rebuilt_zone p d x) → Proper p off s × is_at d (zone_on g d) s
    rebuilt_each s m = go (subst (λ (l : List Store). In s l) rebuilt_is m)
      where
        as! : (t : Store) → s ≡ t → Proper p off t × is_at d (zone_on g d) t → Proper p off s × is_at d (zone_on g d) s
        as! t e h = subst (λ (u : Store). Proper p off u × is_at d (zone_on g d) u) (sym e) h

        foot : In s feet → Proper p off s × is_at d (zone_on g d) s
        foot n =
            let (i, j, e) = map_in (λ i. put d (zone_on g d) (footer_block p spares i) zero_spare) (below (footers p)) s n in
            as! (put d (zone_on g d) (footer_block p spares i) zero_spare) e
            (footer_proper p r off d (zone_on g d) spares i hd (hg d hd).0 (hg d hd).1 spares_long, put_is_at d (zone_on g d) (footer_block p spares i) zero_spare)

        end : (b : Bool) → In s (cond b feet []) → Proper p off s × is_at d (zone_on g d) s
        end true n = foot n
        end false n = absurd n

        piece_at_holds : (q : Piece) → is_at d (zone_on g d) (put_piece d (zone_on g d) q)
        piece_at_holds q = unfold put_piece in put_is_at d (zone_on g d) q.block (record_bytes q.rec)

        piece : In s (map (put_piece d (zone_on g d)) pieces) → Proper p off s × is_at d (zone_on g d) s
        piece n =
            let (q, i, e) = map_in (put_piece d (zone_on g d)) pieces s n in
            let (t, j, f) = map_in (λ s. piece_of p gone x s d) (counted p gone x) q i in
            let h : length q.block ≡ p.B = ap (λ (u : Piece). length u.block) f ∙ lost_piece_long p r v fair gone g (λ e he. (hg e he).0) t (counted_in p gone x t j).1 d lost in
            as! (put_piece d (zone_on g d) q) e (piece_proper p off d (zone_on g d) q hd (hg d hd).0 (hg d hd).1 h, piece_at_holds q)

        rest : In s (map (put_piece d (zone_on g d)) pieces) ⊎ In s (cond x.full feet []) → Proper p off s × is_at d (zone_on g d) s
        rest (inl n) = piece n
        rest (inr n) = end x.full n

        go : In s ours → Proper p off s × is_at d (zone_on g d) s
        go (inl e) =
            let b = header_block p d (zones_in p g) x.serial x.copied in
            as! (put d (zone_on g d) b zero_spare) e (header_proper p r off d g g x.serial x.copied hd hg, put_is_at d (zone_on g d) b zero_spare)
        go (inr n) = rest (in_append s (map (put_piece d (zone_on g d)) pieces) (cond x.full feet []) n)

    rebuilt-hits : (e y : ℕ) → hits e y (rebuilt_zone p d x) ≡ cond (eqb d e && eqb (zone_on g d) y) (rebuilt_zone p d x) []
    rebuilt-hits e y = hits_at d (zone_on g d) e y (rebuilt_zone p d x) (λ s m. (rebuilt_each s m).1)

  -- ---- all zones

  abbrev resets : List Store
  resets = map (reset d) (good_zones p off d)

  abbrev zone : Seg → List Store
  zone g = rebuilt_zone p d (segment_of p v gone g)

  abbrev puts : List Store
  puts = flat (rebuilt_zone p d) (by_serial (segments p v gone))

  abbrev stores : List Store
  stores = rebuild_stores p v d (segments p v gone)

  -- of a rebuilt zone, what falls on one
  abbrev falls : ℕ → ℕ → Seg → List Store
  falls e y g = cond (eqb d e && eqb (zone_on g d) y) (zone g) []

  rebuilt_segment_in : (x : Segment) → In x (segments p v gone) → (g : Seg) × In g left × (x ≡ segment_of p v gone g)
  unfolding segments
  rebuilt_segment_in x m = map_in (segment_of p v gone) left x m

  falls_are : (e y : ℕ) (g : Seg) → In g left → hits e y (zone g) ≡ falls e y g
  falls_are e y g m = rebuilt-hits g (left_good g m) e y

  -- one segment at most has the zone, so that their order is all one
  rebuilt_in_turn : (e y : ℕ) (g h : Seg) → In g left → In h left → falls e y g ++ falls e y h ≡ falls e y h ++ falls e y g
  rebuilt_in_turn e y g h m n = go (test (eqb d e && eqb (zone_on g d) y)) (test (eqb d e && eqb (zone_on h d) y))
    where
      go : Test (eqb d e && eqb (zone_on g d) y) → Test (eqb d e && eqb (zone_on h d) y) → falls e y g ++ falls e y h ≡ falls e y h ++ falls e y g
      go (yes! a) (yes! b) =
          let i : g ≡ h = rebuilt_left_once g h m n (eqb-true (zone_on g d) y (and_right (eqb d e) (eqb (zone_on g d) y) a)
          ∙ sym (eqb-true (zone_on h d) y (and_right (eqb d e) (eqb (zone_on h d) y) b))) in
          subst (λ (k : Seg). falls e y g ++ falls e y k ≡ falls e y k ++ falls e y g) i refl
      go (no! a) b = none_first (falls e y g) (falls e y h) (cond_false (eqb d e && eqb (zone_on g d) y) (zone g) [] a)
        where
          none_first : (xs ys : List Store) → xs ≡ [] → xs ++ ys ≡ ys ++ xs
          none_first xs ys q = ap (λ (l : List Store). l ++ ys) q ∙ sym (append-nil ys) ∙ ap (λ (l : List Store). ys ++ l) (sym q)
      go (yes! a) (no! b) = none_last (falls e y g) (falls e y h) (cond_false (eqb d e && eqb (zone_on h d) y) (zone h) [] b)
        where
          none_last : (xs ys : List Store) → ys ≡ [] → xs ++ ys ≡ ys ++ xs
          none_last xs ys q = ap (λ (l : List Store). xs ++ l) q ∙ append-nil xs ∙ ap (λ (l : List Store). l ++ xs) (sym q)

  puts-hits : (e y : ℕ) → hits e y puts ≡ flat (falls e y) left
  puts-hits e y =
      hits-flat e y (rebuilt_zone p d) (by_serial (segments p v gone))
      ∙ flat_serial (λ (x : Segment). hits e y (rebuilt_zone p d x)) (segments p v gone) (λ x k m n. turn x k (rebuilt_segment_in x m) (rebuilt_segment_in k n))
      ∙ by_segs
    where
      turn : (x k : Segment) → (g : Seg) × In g left × (x ≡ segment_of p v gone g) → (g : Seg) × In g left × (k ≡ segment_of p v gone g)
          → hits e y (rebuilt_zone p d x) ++ hits e y (rebuilt_zone p d k) ≡ hits e y (rebuilt_zone p d k) ++ hits e y (rebuilt_zone p d x)
      turn x k (g, m, a) (h, n, b) =
          let ea : hits e y (rebuilt_zone p d x) ≡ falls e y g = ap (λ (z : Segment). hits e y (rebuilt_zone p d z)) a ∙ falls_are e y g m in
          let eb : hits e y (rebuilt_zone p d k) ≡ falls e y h = ap (λ (z : Segment). hits e y (rebuilt_zone p d z)) b ∙ falls_are e y h n in
          ap₂ ◌++◌ ea eb ∙ rebuilt_in_turn e y g h m n ∙ sym (ap₂ ◌++◌ eb ea)

      by_segs : flat (λ (x : Segment). hits e y (rebuilt_zone p d x)) (segments p v gone) ≡ flat (falls e y) left
      by_segs = unfold segments in (flat_map (λ (x : Segment). hits e y (rebuilt_zone p d x)) (segment_of p v gone) left
          ∙ flat_cong (λ g. hits e y (zone g)) (falls e y) left (λ g m. falls_are e y g m))

  rebuilt_stores_hit : (e y : ℕ) → hits e y stores ≡ hits e y resets ++ flat (falls e y) left
  unfolding rebuild_stores
  rebuilt_stores_hit e y = hits-append e y resets puts ∙ ap (λ (l : List Store). hits e y resets ++ l) (puts-hits e y)

  -- a good zone of the named drive is reset
  rebuilt_reset_hits : (z : ℕ) → z < p.Z → is_good p off d z ≡ true → hits d z resets ≡ reset d z ∷ []
  unfolding good_zones
  rebuilt_reset_hits z hz k =
      keep-map (hits_at_of d z) (reset d) (keep (is_good p off d) (below p.Z))
      ∙ ap (map (reset d)) (keep-keep (λ y. hits_at_of d z (reset d y)) (is_good p off d) (below p.Z)
      ∙ keep-one-below (λ y. is_good p off d y && hits_at_of d z (reset d y)) z p.Z hit hz)
    where
      at! : (y : ℕ) → hits_at_of d z (reset d y) ≡ eqb y z
      at! y = unfold hits_at_of in rw (eqb_self d)

      hit : (y : ℕ) → (is_good p off d y && hits_at_of d z (reset d y)) ≡ eqb y z
      hit y = ap (λ (b : Bool). is_good p off d y && b) (at! y) ∙ go (test (eqb y z))
        where
          go : Test (eqb y z) → (is_good p off d y && eqb y z) ≡ eqb y z
          go (yes! q) = ap (λ (b : Bool). b && eqb y z) (ap (is_good p off d) (eqb-true y z q) ∙ k)
          go (no! q) = and_false_right (is_good p off d y) (eqb y z) q ∙ sym q

  -- wherever they fall, they are resets
  rebuilt-resets_are : (s : Store) → In s resets → (y : ℕ) × (s ≡ reset d y) × (y < p.Z) × (is_good p off d y ≡ true)
  unfolding good_zones
  rebuilt-resets_are s m =
      let (y, i, e) = map_in (reset d) (keep (is_good p off d) (below p.Z)) s m in
      let (j, k) = keep_in (is_good p off d) (below p.Z) y i in
      (y, e, below_in p.Z y j, k)

  only-resets : (n : ℕ) (l : List Store) → ((s : Store) → In s l → In s resets) → Rises p n l
  only-resets n [] f = tt
  only-resets n (s ∷ l) f =
      let (y, e, _, _) = rebuilt-resets_are s (f s (inl refl)) in
      subst (λ (t : Store). Rises p n (t ∷ l)) (sym e) (only-resets 0 l (λ t m. f t (inr m)))

  -- a zone that no segment has on the named drive, or of another drive
  unhit_rises : (e y n : ℕ) → ((g : Seg) → In g left → (eqb d e && eqb (zone_on g d) y) ≡ false) → Rises p n (hits e y stores)
  unhit_rises e y n f =
      subst (λ (l : List Store). Rises p n l)
      (sym (rebuilt_stores_hit e y ∙ ap (λ (l : List Store). hits e y resets ++ l)
      (flat_nothing (falls e y) left (λ g m. cond_false (eqb d e && eqb (zone_on g d) y) (zone g) [] (f g m))) ∙ append-nil (hits e y resets)))
      (only-resets n (hits e y resets) (λ s m. (keep_in (hits_at_of e y) resets s m).0))

  -- on the named drive: the reset, then at most the capacity
  zone_rises : (g : Seg) → In g left → (n : ℕ) → Rises p n (hits d (zone_on g d) stores)
  zone_rises g m n =
      let y = zone_on g d in
      subst (λ (l : List Store). Rises p n l)
      (sym (rebuilt_stores_hit d y ∙ ap₂ ◌++◌ (rebuilt_reset_hits y (left_good g m d hd).0 (left_good g m d hd).1)
      (flat_cong (falls d y) (λ k. cond (eqb (zone_on k d) y) (zone k) []) left (λ k i. ap (λ (b : Bool). cond (b && eqb (zone_on k d) y) (zone k) []) (eqb_self d))
      ∙ seg_row p v gone low_there zone d g m (λ h i e. rebuilt_left_once h g i m e))))
      (rises_few p 0 (zone g) (let a = rebuilt_few g (left_good g m) in omega arith))

  all_proper : (s : Store) → In s stores → Proper p off s
  unfolding rebuild_stores
  all_proper s m = go (in_append s resets puts m)
    where
      go : In s resets ⊎ In s puts → Proper p off s
      go (inl i) = let (y, e, hy, ok) = rebuilt-resets_are s i in subst (λ (x : Store). Proper p off x) (sym e) (hd, hy, ok)
      go (inr i) =
          let (x, j, k) = flat_in (rebuilt_zone p d) (by_serial (segments p v gone)) s i in
          let (g, l, e) = rebuilt_segment_in x (rebuilding_serial_in (segments p v gone) x j) in
          (rebuilt_each g (left_good g l) s (subst (λ (y : Segment). In s (rebuilt_zone p d y)) e k)).0

  pub rebuild_able : Able p v (rebuild_stores p v d (segments p v gone))
  rebuild_able = record { proper = all_proper; rises = λ e y he hy. go e y (ℕ_discrete d e) }
    where
      here : (y : ℕ) → Test (any (λ g. eqb (zone_on g d) y) left) → Rises p (pointer_at v d y) (hits d y stores)
      here y (yes! q) =
          let (g, m, e) = any_in (λ g. eqb (zone_on g d) y) left q in
          subst (λ (x : ℕ). Rises p (pointer_at v d x) (hits d x stores)) (eqb-true (zone_on g d) y e) (zone_rises g m (pointer_at v d (zone_on g d)))
      here y (no! q) = unhit_rises d y (pointer_at v d y) (λ g m. and_false_right (eqb d d) (eqb (zone_on g d) y) (none_in (λ g. eqb (zone_on g d) y) left q g m))

      go : (e y : ℕ) → Dec (d ≡ e) → Rises p (pointer_at v e y) (hits e y stores)
      go e y (no n) = unhit_rises e y (pointer_at v e y) (λ g m. and_false_left (eqb d e) (eqb (zone_on g d) y) (ne_eqb d e n))
      go e y (yes n) = subst (λ (x : ℕ). Rises p (pointer_at v x y) (hits x y stores)) n (here y (test (any (λ g. eqb (zone_on g d) y) left)))
