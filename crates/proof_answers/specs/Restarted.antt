-- The stores of a restart have room: resets of the dropped zones, then missing footers, or a rewrite into a reset zone. Assumes nothing.
use Rattle.std.specs.Prelude.{◌≡◌, Bool, ◌&&◌, ◌⊎◌, leb, get_or}
use Rattle.std.proofs.Math.Path.{refl, sym, ap, ap₂, subst}
use Rattle.std.proofs.Common.{◌∙◌, inl, inr, le-leb, eq-eqb, ne_eqb, eqb-true, length-append}
use mathlib.Core.List.{List, [], ◌∷◌, ◌++◌, map, append-nil}
use Rattle.std.proofs.Math.Bool.{true, false, cond, not}
use Prim.Native.Nat.{ℕ, suc, ◌+◌, ◌-◌, ◌≤◌, ◌<◌}
use Rattle.std.proofs.Math.Decide.{ℕ_discrete}
use Rattle.std.proofs.lemmas.Bool.{not-true}
use native.Mathlib.Omega.{arith}
use Rattle.std.proofs.Math.Dec.{eqb}
use Rattle.std.proofs.Math.ListN.{length}
use Rattle.std.proofs.lemmas.List.{length-map}
use Rattle.spec.specs.declared.Params.{Params}
use Rattle.spec.specs.Drives.{Chunk, Zone, no_zone, View, zone_at, pointer_at, Store, zone_on, zero_spare, header_stores, footer_stores, reset_stores, zones_in, good_zones, is_good}
use Rattle.spec.specs.Drives.Store.{put, reset}
use Rattle.spec.specs.Faults.{footers_stored, clashes}
use Rattle.spec.specs.Layout.{header_block}
use Rattle.spec.specs.Lists.{below, any, keep, is_nil, flat, first_or}
use Rattle.spec.specs.Params.{footers, capacity, drives_of}
use Rattle.spec.specs.Restart.{is_whole, is_ragged, missing_footers, moved_pieces, moved_on, moved_stripe, moved_stripes, rewrite_stores, drop_stores, mend_stores, restart_stores, rewrites}
use Rattle.spec.specs.Segments.{remaining, Segment, segment_of, segments, counts, counted, put_piece, greatest_serial, unsealed, is_used, serial_in}
use Rattle.law_basic.specs.Geometry.{Ranged}
use Rattle.law_basic.specs.Mask.{is_in_empty}
use Rattle.law_basic.specs.Ranges.{Test, test, and_both, flat_none, flat-cons, and_left}
use Rattle.law_basic.specs.Ranges.Test.{yes!, no! }
use Rattle.law_drives.specs.Accept.{Accepted, pointer_ok, faults_apart, bears_once, zone_good, zone_in_range}
use Rattle.law_drives.specs.Footers.{footer_chunks, footer_puts, hits_each}
use Rattle.law_drives.specs.Members.{In, in_append, map_in, flat_in, keep_in, in_any, flat_cong, below_in, first_in, any_in, in_below, in_keep, in_map, none_in}
use Rattle.law_drives.specs.Puts.{hits-append, put_at, hits_drives, hits-headers, hits-resets}
use Rattle.law_drives.specs.Range.{capacity_is, capacity_over}
use Rattle.law_drives.specs.Rebuilding.{counted-low, counted_in}
use Rattle.law_drives.specs.Segs.{zone_by, seg_is}
use Rattle.law_drives.specs.Tests.{clash, cond_true, cond_false, cond_same, eqb_self}
use Rattle.law_drives.specs.Zones.{hits_at_of, hits}
use Rattle.proof_answers.specs.Lengths.{Fair, headers_proper, resets_proper, footers_proper, footer_chunks_count, moved_piece_long, piece_proper, OnGood}
use Rattle.proof_answers.specs.Rising.{Rises, rises_few, Proper, Able}
use Rattle.spec.specs.declared.Seg.{Seg}
use Rattle.law_basic.specs.Segs.{with_zone}
use Rattle.law_drives.specs.Dropping.{drop_is, drops_at, is_drop}
use Rattle.law_drives.specs.Settled.{zero_here}
use Rattle.spec.specs.Restart.{free_seg, free_zones, none_free_of}

-- the stores l are resets
abbrev Resets : List Store → Type 0
Resets l = (s : Store) → In s l → (d : ℕ) × (z : ℕ) × (s ≡ reset d z)

resets_then : (p : Params) (n : ℕ) (l ts : List Store) → Resets l → Rises p 0 ts → Rises p n ts → Rises p n (l ++ ts)
resets_then p n [] ts f a b = b
resets_then p n (s ∷ l) ts f a b =
    let (d, z, e) = f s (inl refl) in
    subst (λ (t : Store). Rises p n (t ∷ (l ++ ts))) (sym e) (resets_then p 0 l ts (λ t m. f t (inr m)) a a)

-- one of them at least
reset_then : (p : Params) (n : ℕ) (l ts : List Store) (s : Store) → In s l → Resets l → Rises p 0 ts → Rises p n (l ++ ts)
reset_then p n [] ts s m f a = absurd m
reset_then p n (t ∷ l) ts s m f a =
    let (d, z, e) = f t (inl refl) in
    subst (λ (t : Store). Rises p n (t ∷ (l ++ ts))) (sym e) (resets_then p 0 l ts (λ t m. f t (inr m)) a a)

module _ (p : Params) (r : Ranged p) (v : View) (fair : (d z : ℕ) → d < p.N → z < p.Z → Fair p (zone_at v d z)) (acc : Accepted p v 0) where
  abbrev gs : List Segment
  gs = segments p v 0

  abbrev off : List ℕ
  off = v.offline

  abbrev drops : List Store
  drops = drop_stores p v gs

  -- 01, Refusals, 9: the zones of what remains are good zones
  kept_good : (g : Seg) → In g (remaining p v 0) → OnGood p off g
  kept_good g m e he = (zone_in_range p v 0 acc (zero_here p r) g e m he, zone_good p v 0 acc (zero_here p r) g e m he)

  -- ---- resets of what does not remain

  drop_proper : (s : Store) → In s drops → Proper p off s
  drop_proper s m = let (d, z, e, hd, hz, q) = drop_is p v gs s m in subst (λ (x : Store). Proper p off x) (sym e) (hd, hz, good d z q)
    where
      good : (d z : ℕ) → drops_at p v gs d z ≡ true → is_good p off d z ≡ true
      good d z q = unfold drops_at is_used in
          (let a = is_good p off d z in
          let b = not (eqb (pointer_at v d z) 0) in
          and_left a b (and_left (a && b) (not (any (λ (g : Segment). eqb g.serial (serial_in p v d z)) gs)) q))

  dropped_are : (e y : ℕ) → Resets (hits e y drops)
  dropped_are e y s m = let (d, z, x, _, _, _) = drop_is p v gs s (keep_in (hits_at_of e y) drops s m).0 in (d, z, x)

  -- the resets, then stores that have room in zones that are reset, and in those that are not
  drop_able : (ts : List Store) → ((s : Store) → In s ts → Proper p off s) → ((e y : ℕ) → e < p.N → Rises p 0 (hits e y ts))
      → ((e y : ℕ) → e < p.N → drops_at p v gs e y ≡ false → Rises p (pointer_at v e y) (hits e y ts)) → Able p v (drops ++ ts)
  drop_able ts f a b = record { proper = λ s m. each s (in_append s drops ts m); rises = up }
    where
      each : (s : Store) → In s drops ⊎ In s ts → Proper p off s
      each s (inl i) = drop_proper s i
      each s (inr i) = f s i

      up : (e y : ℕ) → e < p.N → y < p.Z → Rises p (pointer_at v e y) (hits e y (drops ++ ts))
      up e y he hy = subst (λ (l : List Store). Rises p (pointer_at v e y) l) (sym (hits-append e y drops ts)) (go (test (drops_at p v gs e y)))
        where
          self : hits_at_of e y (reset e y) ≡ true
          self = unfold hits_at_of in and_both (eqb e e) (eqb y y) (eqb_self e) (eqb_self y)

          go : Test (drops_at p v gs e y) → Rises p (pointer_at v e y) (hits e y drops ++ hits e y ts)
          go (yes! q) =
              reset_then p (pointer_at v e y) (hits e y drops) (hits e y ts) (reset e y) (in_keep (hits_at_of e y) drops (reset e y) (is_drop p v gs e y he hy q) self) (dropped_are e y) (a e y he)
          go (no! q) = resets_then p (pointer_at v e y) (hits e y drops) (hits e y ts) (dropped_are e y) (a e y he) (b e y he q)

  nothing_able : Able p v (drops ++ [])
  nothing_able = drop_able [] (λ s m. absurd m) (λ e y he. unfold keep in tt) (λ e y he q. unfold keep in tt)

  -- ---- free zones

  -- 01, Restart, 4: each of its zones is a good one that no remaining segment has
  abbrev Free : Seg → Type 0
  Free z = (e : ℕ) → e < p.N → In (zone_on z e) (free_zones p v gs e)

  -- 01, Refusals, 8: every drive has one
  restarted_free_seg : none_free_of p v gs ≡ false → Free (free_seg p v gs)
  unfolding none_free_of free_seg drives_of
  restarted_free_seg nf e he =
      subst (λ (n : ℕ). In n (free_zones p v gs e)) (sym (with_zone p (λ d. first_or 0 (free_zones p v gs d)) e he))
      (first_in (free_zones p v gs e) 0 (none_in (λ d. is_nil (free_zones p v gs d)) (below p.N) nf e (in_below p.N e he)))

  free_parts : (e y : ℕ) → In y (free_zones p v gs e) → (y < p.Z) × (is_good p off e y ≡ true) × ((g : Seg) → In g (remaining p v 0) → zone_on g e ≡ y → ⊥)
  unfolding free_zones good_zones segments
  free_parts e y m =
      let xs = map (segment_of p v 0) (remaining p v 0) in
      let (i, n) = keep_in (λ z. not (any (λ (g : Segment). eqb (zone_on g.seg e) z) xs)) (keep (is_good p off e) (below p.Z)) y m in
      let (j, k) = keep_in (is_good p off e) (below p.Z) y i in (
        below_in p.Z y j,
        k,
        λ g l h. clash (eq-eqb (zone_on (segment_of p v 0 g).seg e) y (ap (λ (s : Seg). zone_on s e) (seg_is p v 0 g) ∙ h))
            (none_in (λ (g : Segment). eqb (zone_on g.seg e) y) xs (not-true (any (λ (g : Segment). eqb (zone_on g.seg e) y) xs) n) (segment_of p v 0 g)
            (in_map (segment_of p v 0) (remaining p v 0) g l)),
      )

  free_good : (z : Seg) → Free z → OnGood p off z
  free_good z fz e he = let (a, b, _) = free_parts e (zone_on z e) (fz e he) in (a, b)

  -- where it is not reset it is empty: a serial that remains is in no other zone
  free_empty : (e y : ℕ) → e < p.N → In y (free_zones p v gs e) → drops_at p v gs e y ≡ false → pointer_at v e y ≡ 0
  free_empty e y he m q = go (ℕ_discrete (pointer_at v e y) 0)
    where
      used : (pointer_at v e y ≡ 0 → ⊥) → is_used p v e y ≡ true
      used n = unfold is_used in and_both (is_good p off e y) (not (eqb (pointer_at v e y) 0)) (free_parts e y m).1 (ap not (ne_eqb (pointer_at v e y) 0 n))

      known : is_used p v e y ≡ true → any (λ (x : Segment). eqb x.serial (serial_in p v e y)) gs ≡ true
      known u = unknown (test (any (λ (x : Segment). eqb x.serial (serial_in p v e y)) gs))
        where
          unknown : Test (any (λ (x : Segment). eqb x.serial (serial_in p v e y)) gs) → any (λ (x : Segment). eqb x.serial (serial_in p v e y)) gs ≡ true
          unknown (yes! k) = k
          unknown (no! k) = clash dropped q
            where
              dropped : drops_at p v gs e y ≡ true
              dropped = unfold drops_at in and_both (is_used p v e y) (not (any (λ (x : Segment). eqb x.serial (serial_in p v e y)) gs)) u (ap not k)

      of : (x : Segment) → In x gs → (g : Seg) × In g (remaining p v 0) × (x ≡ segment_of p v 0 g)
      of x i = unfold segments in map_in (segment_of p v 0) (remaining p v 0) x i

      go : Dec (pointer_at v e y ≡ 0) → pointer_at v e y ≡ 0
      go (yes k) = k
      go (no n) =
          let u = used n in
          let (x, i, k) = any_in (λ (x : Segment). eqb x.serial (serial_in p v e y)) gs (known u) in
          let (g, l, f) = of x i in
          let s : serial_in p v e y ≡ (segment_of p v 0 g).serial = sym (eqb-true x.serial (serial_in p v e y) k) ∙ ap (λ (t : Segment). t.serial) f in
          let (hy, _, no_other) = free_parts e y m in
          absurd (no_other g l (sym (bears_once p v 0 acc (zero_here p r) g e y l he (is_in_empty e) hy u s)))

  -- ---- an unsealed segment

  module _ (g : Seg) (hg : OnGood p off g) where
    abbrev x : Segment
    x = segment_of p v 0 g

    -- 01, Restart, 4: the footers that a zone has, and those that it lacks
    abbrev have : ℕ → ℕ
    have d = footers_stored p (zone_at v d (zone_on g d))

    abbrev lack : ℕ → List Chunk
    lack d = footer_chunks p (zone_at v d (zone_on g d)) (have d) (footers p - have d)

    abbrev missing_on : ℕ → Zone → List Store
    missing_on d q = footer_stores p d (zone_on g d) q (footers_stored p q) (footers p - footers_stored p q)

    missing_feet_are : missing_footers p x ≡ flat (λ d. missing_on d (zone_at v d (zone_on g d))) (drives_of p)
    unfolding missing_footers drives_of
    missing_feet_are =
        ap (λ (z : Seg). flat (λ d. footer_stores p d (zone_on z d) (get_or x.zones_by_holds d no_zone) (footers_stored p (get_or x.zones_by_holds d no_zone))
        (footers p - footers_stored p (get_or x.zones_by_holds d no_zone))) (below p.N)) (seg_is p v 0 g)
        ∙ flat_cong (λ d. missing_on d (get_or x.zones_by_holds d no_zone)) (λ d. missing_on d (zone_at v d (zone_on g d))) (below p.N)
        (λ d m. ap (missing_on d) (zone_by p v 0 g d (below_in p.N d m)))

    lack_are : missing_footers p x ≡ flat (λ d. map (put_at d (zone_on g d)) (lack d)) (drives_of p)
    lack_are = missing_feet_are ∙ flat_cong (λ d. missing_on d (zone_at v d (zone_on g d))) (λ d. map (put_at d (zone_on g d)) (lack d)) (drives_of p)
        (λ d m. footer_puts p d (zone_on g d) (zone_at v d (zone_on g d)) (have d) (footers p - have d))

    lack_hits : (e y : ℕ) → e < p.N → hits e y (missing_footers p x) ≡ cond (eqb (zone_on g e) y) (map (put_at e (zone_on g e)) (lack e)) []
    lack_hits e y he = ap (hits e y) lack_are ∙ hits_each p e y (zone_on g) lack he

    lacking_count : (e : ℕ) → length (map (put_at e (zone_on g e)) (lack e)) ≡ footers p - have e
    lacking_count e = length-map (lack e) (put_at e (zone_on g e)) ∙ footer_chunks_count p (zone_at v e (zone_on g e)) (have e) (footers p - have e)

    lack_proper : (s : Store) → In s (missing_footers p x) → Proper p off s
    lack_proper s m =
        let (d, i, j) = flat_in (λ d. missing_on d (zone_at v d (zone_on g d))) (drives_of p) s (subst (λ (l : List Store). In s l) missing_feet_are m) in
        let hd = low d i in
        let (hz, ok) = hg d hd in
        footers_proper p r off (zone_at v d (zone_on g d)) (fair d (zone_on g d) hd hz) d (zone_on g d) (have d) (footers p - have d) hd hz ok s j
      where
        low : (d : ℕ) → In d (drives_of p) → d < p.N
        low d i = unfold drives_of in below_in p.N d i

    -- 01, Refusals, 9: a pointer is at most the capacity, so that the footers which it lacks have room
    lacking_room : (e : ℕ) → pointer_at v e (zone_on g e) ≤ capacity p → pointer_at v e (zone_on g e) + (footers p - have e) ≤ capacity p
    unfolding footers_stored pointer_at
    lacking_room e h = let c = capacity_is p r in omega arith

    footers_able : Able p v (drops ++ missing_footers p x)
    footers_able = drop_able (missing_footers p x) lack_proper (λ e y he. up 0 e y he (λ h. let c = capacity_is p r in omega arith))
        (λ e y he q. up (pointer_at v e y) e y he (λ h. subst (λ (n : ℕ). pointer_at v e n + (footers p - have e) ≤ capacity p) h
        (lacking_room e (pointer_ok p v 0 acc e (zone_on g e) he (hg e he).0 (is_in_empty e) (hg e he).1))))
      where
        up : (n e y : ℕ) → e < p.N → (zone_on g e ≡ y → n + (footers p - have e) ≤ capacity p) → Rises p n (hits e y (missing_footers p x))
        up n e y he h = subst (λ (l : List Store). Rises p n l) (sym (lack_hits e y he)) (go (ℕ_discrete (zone_on g e) y))
          where
            go : Dec (zone_on g e ≡ y) → Rises p n (cond (eqb (zone_on g e) y) (map (put_at e (zone_on g e)) (lack e)) [])
            go (yes q) =
                subst (λ (l : List Store). Rises p n l) (sym (cond_true (eqb (zone_on g e) y) (map (put_at e (zone_on g e)) (lack e)) [] (eq-eqb (zone_on g e) y q)))
                (rises_few p n (map (put_at e (zone_on g e)) (lack e)) (let a = lacking_count e in let b = h q in omega arith))
            go (no q) = subst (λ (l : List Store). Rises p n l) (sym (cond_false (eqb (zone_on g e) y) (map (put_at e (zone_on g e)) (lack e)) [] (ne_eqb (zone_on g e) y q))) tt

    -- ---- the rewrite

    module _ (z : Seg) (sn : ℕ) (fz : Free z) where
      hz : OnGood p off z
      hz = free_good z fz

      -- 01, Restart, 4: what drive e gets of the stripes ss, numbered from k
      unfoldable moved_to : ℕ → List ℕ → ℕ → List Store
      moved_to e [] k = []
      moved_to e (s ∷ ss) k = put_piece e (zone_on z e) (moved_on p (moved_pieces p x s k) k e) ∷ moved_to e ss (suc k)

      moved_to_count : (e : ℕ) (ss : List ℕ) (k : ℕ) → length (moved_to e ss k) ≡ length ss
      unfolding moved_to
      moved_to_count e [] k = refl
      moved_to_count e (s ∷ ss) k = ap suc (moved_to_count e ss (suc k))

      moved_stripe_is : (s k : ℕ) → moved_stripe p x z s k ≡ map (λ d. put_piece d (zone_on z d) (moved_on p (moved_pieces p x s k) k d)) (drives_of p)
      unfolding moved_stripe
      moved_stripe_is s k = refl

      moved-hits : (e y : ℕ) (ss : List ℕ) (k : ℕ) → e < p.N → hits e y (moved_stripes p x z ss k) ≡ cond (eqb (zone_on z e) y) (moved_to e ss k) []
      unfolding moved_stripes moved_to
      moved-hits e y [] k he = none! ∙ sym (cond_same (eqb (zone_on z e) y) [])
        where
          none! : hits e y [] ≡ []
          none! = unfold keep in refl
      moved-hits e y (s ∷ ss) k he =
          let f : ℕ → Store = λ d. put_piece d (zone_on z d) (moved_on p (moved_pieces p x s k) k d) in
          hits-append e y (moved_stripe p x z s k) (moved_stripes p x z ss (suc k))
          ∙ ap₂ ◌++◌ (ap (hits e y) (moved_stripe_is s k) ∙ hits_drives p e y (zone_on z) f (λ d. unfold put_piece hits_at_of in refl) he) (moved-hits e y ss (suc k) he)
          ∙ join (eqb (zone_on z e) y) (f e)
        where
          join : (b : Bool) (t : Store) → cond b (t ∷ []) [] ++ cond b (moved_to e ss (suc k)) [] ≡ cond b (t ∷ moved_to e ss (suc k)) []
          join true t = refl
          join false t = refl

      moved_proper : (ss : List ℕ) (k : ℕ) → ((s : ℕ) → In s ss → counts p 0 x s ≡ true) → (t : Store) → In t (moved_stripes p x z ss k) → Proper p off t
      unfolding moved_stripes
      moved_proper [] k f t m = absurd m
      moved_proper (s ∷ ss) k f t m = go (in_append t (moved_stripe p x z s k) (moved_stripes p x z ss (suc k)) m) (moved_proper ss (suc k) (λ u n. f u (inr n)) t)
        where
          low : (d : ℕ) → In d (drives_of p) → d < p.N
          low d i = unfold drives_of in below_in p.N d i

          go : In t (moved_stripe p x z s k) ⊎ In t (moved_stripes p x z ss (suc k)) → (In t (moved_stripes p x z ss (suc k)) → Proper p off t) → Proper p off t
          go (inl i) ih =
              let (d, j, e) = map_in (λ d. put_piece d (zone_on z d) (moved_on p (moved_pieces p x s k) k d)) (drives_of p) t (subst (λ (l : List Store). In t l) (moved_stripe_is s k) i) in
              let hd = low d j in
              subst (λ (u : Store). Proper p off u) (sym e)
              (piece_proper p off d (zone_on z d) (moved_on p (moved_pieces p x s k) k d) hd (hz d hd).0 (hz d hd).1
              (moved_piece_long p r v fair g (λ e he. (hg e he).0) s (f s (inl refl)) k d hd))
          go (inr i) ih = ih i

      abbrev cs : List ℕ
      cs = counted p 0 x

      abbrev heads : List Store
      heads = header_stores p z sn x.serial

      abbrev moved : List Store
      moved = moved_stripes p x z cs 0

      abbrev old : List Store
      old = reset_stores p x.seg

      abbrev head : ℕ → Store
      head e = put e (zone_on z e) (header_block p e (zones_in p z) sn x.serial) zero_spare

      rewrite_is : rewrite_stores p x z sn ≡ (heads ++ moved) ++ old
      unfolding rewrite_stores
      rewrite_is = refl

      old_is : old ≡ reset_stores p g
      old_is = ap (reset_stores p) (seg_is p v 0 g)

      rewrite_hits : (e y : ℕ) → e < p.N
          → hits e y (rewrite_stores p x z sn) ≡ cond (eqb (zone_on z e) y) (head e ∷ moved_to e cs 0) [] ++ cond (eqb (zone_on g e) y) (reset e (zone_on g e) ∷ []) []
      rewrite_hits e y he =
          ap (hits e y) rewrite_is ∙ hits-append e y (heads ++ moved) old
          ∙ ap₂ ◌++◌ (hits-append e y heads moved ∙ ap₂ ◌++◌ (hits-headers p e y z sn x.serial he) (moved-hits e y cs 0 he) ∙ join (eqb (zone_on z e) y))
          (ap (hits e y) old_is ∙ hits-resets p e y g he)
        where
          join : (b : Bool) → cond b (head e ∷ []) [] ++ cond b (moved_to e cs 0) [] ≡ cond b (head e ∷ moved_to e cs 0) []
          join true = refl
          join false = refl

      rewrite_proper : (s : Store) → In s (rewrite_stores p x z sn) → Proper p off s
      rewrite_proper s m = last (in_append s (heads ++ moved) old (subst (λ (l : List Store). In s l) rewrite_is m))
        where
          first : In s heads ⊎ In s moved → Proper p off s
          first (inl i) = headers_proper p r off z sn x.serial hz s i
          first (inr i) = moved_proper cs 0 (λ t n. (counted_in p 0 x t n).1) s i

          last : In s (heads ++ moved) ⊎ In s old → Proper p off s
          last (inl i) = first (in_append s heads moved i)
          last (inr i) = resets_proper p r off g hg s (subst (λ (l : List Store). In s l) old_is i)

      -- in a zone of the new segment, which is empty: a header, the counted stripes, at most a reset; in the others at most a reset
      rewrite_rises : (n e y : ℕ) → e < p.N → (zone_on z e ≡ y → n ≡ 0) → Rises p n (hits e y (rewrite_stores p x z sn))
      rewrite_rises n e y he h = subst (λ (l : List Store). Rises p n l) (sym (rewrite_hits e y he)) (go (ℕ_discrete (zone_on z e) y))
        where
          few : (l : List Store) → length l ≤ 1 → Rises p 0 ((head e ∷ moved_to e cs 0) ++ l)
          few l h = rises_few p 0 ((head e ∷ moved_to e cs 0) ++ l)
              (let a = moved_to_count e cs 0 in let b = counted-low p 0 x in let c = capacity_over p r in let w = length-append (moved_to e cs 0) l in omega arith)

          one : (b : Bool) → length (cond b (reset e (zone_on g e) ∷ []) []) ≤ 1
          one true = omega arith
          one false = omega arith

          rest : (b : Bool) → Rises p n (cond b (reset e (zone_on g e) ∷ []) [])
          rest true = tt
          rest false = tt

          go : Dec (zone_on z e ≡ y) → Rises p n (cond (eqb (zone_on z e) y) (head e ∷ moved_to e cs 0) [] ++ cond (eqb (zone_on g e) y) (reset e (zone_on g e) ∷ []) [])
          go (yes q) = rw (eq-eqb (zone_on z e) y q)
              (subst (λ (k : ℕ). Rises p k ((head e ∷ moved_to e cs 0) ++ cond (eqb (zone_on g e) y) (reset e (zone_on g e) ∷ []) [])) (sym (h q))
              (few (cond (eqb (zone_on g e) y) (reset e (zone_on g e) ∷ []) []) (one (eqb (zone_on g e) y))))
          go (no q) = rw (ne_eqb (zone_on z e) y q) (rest (eqb (zone_on g e) y))

      rewrite_able : Able p v (drops ++ rewrite_stores p x z sn)
      rewrite_able = drop_able (rewrite_stores p x z sn) rewrite_proper (λ e y he. rewrite_rises 0 e y he (λ h. refl))
          (λ e y he q. rewrite_rises (pointer_at v e y) e y he (λ h. free_empty e y he (subst (λ (n : ℕ). In n (free_zones p v gs e)) h (fz e he)) q))

    -- 01, Restart, 4: missing footers, the rewrite, or nothing
    mend_able : (is_ragged p x ≡ true → none_free_of p v gs ≡ false) → Able p v (drops ++ mend_stores p v gs x)
    unfolding mend_stores
    mend_able h = go (is_whole p x) (test (is_ragged p x))
      where
        go : (b : Bool) → Test (is_ragged p x)
            → Able p v (drops ++ cond b (missing_footers p x) (cond (is_ragged p x) (rewrite_stores p x (free_seg p v gs) (suc (greatest_serial gs))) []))
        go true t = footers_able
        go false (yes! q) = rw q (rewrite_able (free_seg p v gs) (suc (greatest_serial gs)) (restarted_free_seg (h q)))
        go false (no! q) = rw q nothing_able

  -- ---- all of them

  -- 01, Refusals, 9: at most one is unsealed
  unsealed-remaining : (x : Segment) → In x (unsealed gs) → (g : Seg) × (In g (remaining p v 0)) × (x ≡ segment_of p v 0 g) × (not x.full ≡ true)
  unfolding unsealed segments
  unsealed-remaining x m =
      let (i, q) = keep_in (λ (g : Segment). not g.full) (map (segment_of p v 0) (remaining p v 0)) x m in
      let (g, j, e) = map_in (segment_of p v 0) (remaining p v 0) x i in
      (g, j, e, q)

  pub restart_able : rewrites p 0 gs && none_free_of p v gs ≡ false → Able p v (restart_stores p v 0 gs)
  restart_able c8 = as! (go (unsealed gs) refl)
    where
      as! : Able p v (drops ++ flat (mend_stores p v gs) (unsealed gs)) → Able p v (restart_stores p v 0 gs)
      as! a = unfold restart_stores in a

      -- 01, Refusals, 8: a rewrite has zones
      zone : (x : Segment) → In x (unsealed gs) → is_ragged p x ≡ true → none_free_of p v gs ≡ false
      zone x m q = sym (ap (λ (b : Bool). b && none_free_of p v gs) due) ∙ c8
        where
          due : rewrites p 0 gs ≡ true
          due = unfold rewrites in in_any (is_ragged p) (unsealed gs) x m q

      go : (us : List Segment) → unsealed gs ≡ us → Able p v (drops ++ flat (mend_stores p v gs) us)
      go [] e = unfold flat in nothing_able
      go (x ∷ []) e =
          let m : In x (unsealed gs) = subst (λ (l : List Segment). In x l) (sym e) (inl refl) in
          let (g, i, f, q) = unsealed-remaining x m in
          subst (λ (l : List Store). Able p v (drops ++ l))
          (sym (flat-cons (mend_stores p v gs) x [] ∙ ap (λ (l : List Store). mend_stores p v gs x ++ l) (flat_none (mend_stores p v gs)) ∙ append-nil (mend_stores p v gs x)))
          (subst (λ (y : Segment). Able p v (drops ++ mend_stores p v gs y)) (sym f)
          (mend_able g (kept_good g i) (λ h. zone x m (ap (is_ragged p) f ∙ h))))
      go (x ∷ (y ∷ us)) e =
          let (g, i, f, q) = unsealed-remaining x (subst (λ (l : List Segment). In x l) (sym e) (inl refl)) in
          let n : 2 ≤ length (unsealed gs) = subst (λ (l : List Segment). 2 ≤ length l) (sym e) (let w : 2 ≤ suc (suc (length us)) = omega arith in w) in
          clash (both (segment_of p v 0 g) (ap (λ (t : Segment). not t.full) (sym f) ∙ q) n) (faults_apart p v 0 acc g i).no_clash
        where
          both : (x : Segment) → not x.full ≡ true → 2 ≤ length (unsealed gs) → clashes gs x ≡ true
          both x q n = unfold clashes in and_both (not x.full) (leb 2 (length (unsealed gs))) q (le-leb 2 (length (unsealed gs)) n)
