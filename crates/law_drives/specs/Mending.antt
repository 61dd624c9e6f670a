-- A healthy restart's unsealed segment: tidy as it is, or whole and then sealed by its missing footers.
use Rattle.std.specs.Prelude.{◌≡◌, List, [], ◌∷◌, map, true, false, ◌≢◌, ℕ, ◌+◌, ◌-◌, ◌≤◌, ◌<◌, eqb, length, get_or}
use Rattle.std.proofs.Math.Path.{refl, subst}
use Rattle.std.proofs.Common.{sym, ap, ap₂, ◌∙◌, inl, inr, le_of_eq, ne_eqb}
use Rattle.std.proofs.Math.Decide.{ℕ_discrete}
use native.Mathlib.Omega.{arith}
use Rattle.spec.specs.declared.Params.{Params}
use Rattle.spec.specs.Drives.{Chunk, no_chunk, Zone, no_zone, View, zone_at, pointer_at, chunk_at, Store, store_view_of, store_all, zone_on, sealed_in, record_in, footer_stores}
use Rattle.spec.specs.Drives.Store.{reset}
use Rattle.spec.specs.Faults.{footers_stored}
use Rattle.spec.specs.Lists.{below, flat}
use Rattle.spec.specs.Params.{footers, capacity, drives_of}
use Rattle.spec.specs.Restart.{is_whole, is_ragged, missing_footers, drop_stores}
use Rattle.spec.specs.Segments.{remaining, header_at, Segment, segment_of, segments, counted, greatest_serial}
use Rattle.law_basic.specs.Geometry.{Ranged}
use Rattle.law_basic.specs.Mask.{is_in_empty}
use Rattle.law_basic.specs.Segs.{segs_differ}
use Rattle.law_drives.specs.Accept.{Accepted, pointer_ok, zone_good}
use Rattle.law_drives.specs.Dropping.{drop_same, drop_tidy, drop_is, drop_there, there_kept}
use Rattle.law_drives.specs.Footers.{within_each, footer_chunks, footer_puts, footers-count, footer_rooms, hits_each}
use Rattle.law_drives.specs.Growing.{Grows, grows_tidy, grows_others, grows_was}
use Rattle.law_drives.specs.Joins.{roomy_none, stores_none}
use Rattle.law_drives.specs.Members.{In, flat_cong, below_in, keep_in}
use Rattle.law_drives.specs.Puts.{put_at, put_all, puts_pointer, puts_old}
use Rattle.law_drives.specs.Range.{capacity_is, capacity_over}
use Rattle.law_drives.specs.Segs.{zone_by, seg_is}
use Rattle.law_drives.specs.Settled.{SameZones, zones_pointer, zones_segment, sealed_full, its_zone, its_zones_low, zero_here}
use Rattle.law_drives.specs.Steady.Rest.{rest_sealed, rest_open}
use Rattle.law_drives.specs.Steady.{Steady, SealedAll, Rest}
use Rattle.law_drives.specs.Tests.{cond_true, cond_false, eqb_self}
use Rattle.law_drives.specs.Tidy.{Tidy, There}
use Rattle.law_drives.specs.Unsealed.{whole_pointer, tidy_steady}
use Rattle.law_drives.specs.Zones.{Shaped, zone_store, hits, zone_after, Room, Within, Roomy, shaped_after, hits_at_of}
use Rattle.spec.specs.declared.Seg.{Seg}
use Rattle.law_views.specs.Alike.{offline_after}

-- what the stores behind the resets leave
pub record Mended (p : Params) (v : View) (ts : List Store) : Type 0 where
  pub mend_roomy : Roomy p v ts
  pub mend_within : (s : Store) → In s ts → Within p s
  pub mend_bound : ℕ
  pub mend_tidy : Tidy p (store_all store_view_of ts v) mend_bound
  pub mend_rest : Rest p (store_all store_view_of ts v)

pub mended_none : (p : Params) (v : View) (b : ℕ) → Tidy p v b → Rest p v → Mended p v []
mended_none p v b t q = record {
  mend_roomy = roomy_none p v;
  mend_within = λ s m. absurd m;
  mend_bound = b;
  mend_tidy = subst (λ (x : View). Tidy p x b) (sym (stores_none v)) t;
  mend_rest = subst (λ (x : View). Rest p x) (sym (stores_none v)) q;
}

-- resets have room anywhere
resets_room : (p : Params) (n : ℕ) (l : List Store) → ((s : Store) → In s l → (d : ℕ) × (z : ℕ) × (s ≡ reset d z)) → Room p n l
resets_room p n [] h = tt
resets_room p n (s ∷ l) h = let (d, z, e) = h s (inl refl) in subst (λ (x : Store). Room p n (x ∷ l)) (sym e) (resets_room p 0 l (λ t m. h t (inr m)))

-- a steady segment in a view with the same zones
pub steady_goes : (p : Params) (r : Ranged p) (v u : View) (g : Seg) (c : ℕ) → SameZones p v u g → There p u g → Steady p v g c → Steady p u g c
steady_goes p r v u g c sm m s = record {
  steady_low = m;
  steady_few = s.steady_few;
  steady_pointer = λ d hd. sym (zones_pointer p r v u g sm d hd) ∙ s.steady_pointer d hd;
  steady_stripes = λ d o hd h. subst (λ (q : Zone). (record_in p false q o).stripe < c) (sm d hd) (s.steady_stripes d o hd h);
  steady_count = ap (λ (x : Segment). length (counted p 0 x)) (sym (zones_segment p r v u g sm)) ∙ s.steady_count;
}

module _ (p : Params) (r : Ranged p) (v : View) (sh : Shaped p v) (acc : Accepted p v 0) where
  abbrev gs : List Segment
  gs = segments p v 0

  abbrev va : View
  va = store_all store_view_of (drop_stores p v gs) v

  h0 : 0 < p.N
  h0 = omega (arith, r.drives_low)

  pub drop_roomy : Roomy p v (drop_stores p v gs)
  drop_roomy d z hd hz = resets_room p (pointer_at v d z) (hits d z (drop_stores p v gs))
      (λ s m. let (e, y, q, _, _, _) = drop_is p v gs s (keep_in (hits_at_of d z) (drop_stores p v gs) s m).0 in (e, y, q))

  pub drop_within : (s : Store) → In s (drop_stores p v gs) → Within p s
  drop_within s m = let (d, z, q, hd, hz, _) = drop_is p v gs s m in subst (λ (x : Store). Within p x) (sym q) (hd, hz)

  pub shaped_a : Shaped p va
  shaped_a = shaped_after p v (drop_stores p v gs) sh drop_roomy

  there! : (y : Seg) → In y (remaining p v 0) → There p va y
  there! y m = drop_there p r v sh acc y m

  kept! : (y : Seg) → There p va y → In y (remaining p v 0)
  kept! y m = there_kept p r v sh acc y m

  same! : (y : Seg) → In y (remaining p v 0) → SameZones p v va y
  same! y m = drop_same p r v sh acc y m

  -- sealed before, sealed now
  sealed_now : (y : Seg) → In y (remaining p v 0) → sealed_in p v 0 y ≡ true → SealedAll p va y
  sealed_now y q s d hd = sym (zones_pointer p r v va y (same! y q) d hd) ∙ sealed_full p v y s d hd

  pub mend_none : ((y : Seg) → In y (remaining p v 0) → sealed_in p v 0 y ≡ true) → Mended p va []
  mend_none f = mended_none p va (greatest_serial gs) (drop_tidy p r v sh acc) (rest_sealed (λ z q. sealed_now z (kept! z q) (f z (kept! z q))))

  module _ (g : Seg) (kg : In g (remaining p v 0)) (ng : sealed_in p v 0 g ≡ false)
      (oth : (y : Seg) → In y (remaining p v 0) → (y ≡ g → ⊥) → sealed_in p v 0 y ≡ true) where
    abbrev x : Segment
    x = segment_of p v 0 g

    -- its stripes are 0 to c - 1: nothing is stored
    pub mend_tidy_one : is_whole p x ≡ false → is_ragged p x ≡ false → Mended p va []
    mend_tidy_one nw nr =
        let s = tidy_steady p r v sh acc g kg ng nw nr in
        mended_none p va (greatest_serial gs) (drop_tidy p r v sh acc)
        (rest_open g (length (counted p 0 x)) (steady_goes p r v va g (length (counted p 0 x)) (same! g kg) (there! g kg) s) (λ z q n. sealed_now z (kept! z q) (oth z (kept! z q) n)))

    low! : (d : ℕ) → d < p.N → zone_on g d < p.Z
    low! d hd = (its_zone p r va g (there! g kg) d hd).zone_low

    -- ---- missing footers

    abbrev pub have : ℕ → ℕ
    have d = footers_stored p (zone_at v d (zone_on g d))

    abbrev pub lack : ℕ → List Chunk
    lack d = footer_chunks p (zone_at v d (zone_on g d)) (have d) (footers p - have d)

    lack_is : missing_footers p x ≡ flat (λ d. map (put_at d (zone_on g d)) (lack d)) (drives_of p)
    lack_is =
        as! (flat_cong (λ d. footer_stores p d (zone_on x.seg d) (get_or x.zones_by_holds d no_zone) (footers_stored p (get_or x.zones_by_holds d no_zone))
        (footers p - footers_stored p (get_or x.zones_by_holds d no_zone)))
        (λ d. map (put_at d (zone_on g d)) (lack d)) (below p.N)
        (λ d m. let hd = below_in p.N d m in
        ap₂ (λ (z : Seg) (q : Zone). footer_stores p d (zone_on z d) q (footers_stored p q) (footers p - footers_stored p q)) (seg_is p v 0 g) (zone_by p v 0 g d hd)
        ∙ footer_puts p d (zone_on g d) (zone_at v d (zone_on g d)) (have d) (footers p - have d)))
      where
        as! :
            flat (λ d. footer_stores p d (zone_on x.seg d) (get_or x.zones_by_holds d no_zone) (footers_stored p (get_or x.zones_by_holds d no_zone))
            (footers p - footers_stored p (get_or x.zones_by_holds d no_zone))) (below p.N)
            ≡ flat (λ d. map (put_at d (zone_on g d)) (lack d)) (below p.N)
            → missing_footers p x ≡ flat (λ d. map (put_at d (zone_on g d)) (lack d)) (drives_of p)
        as! e = unfold missing_footers drives_of in e

    module _ (wh : is_whole p x ≡ true) where
      abbrev ts : List Store
      ts = missing_footers p x

      abbrev vb : View
      vb = store_all store_view_of ts va

      zone_a : (d : ℕ) → d < p.N → zone_at va d (zone_on g d) ≡ zone_at v d (zone_on g d)
      zone_a d hd = sym (same! g kg d hd)

      -- a zone's pointer and the footers that it has
      pub has_pointer : (d : ℕ) → d < p.N → (zone_at v d (zone_on g d)).pointer ≡ 1 + p.S + have d
      has_pointer d hd = as! (whole_pointer p r v sh acc g kg ng wh d hd)
          (pointer_ok p v 0 acc d (zone_on g d) hd (low! d hd) (is_in_empty d) (zone_good p v 0 acc (zero_here p r) g d kg hd))
        where
          as! : 1 + p.S ≤ pointer_at v d (zone_on g d) → pointer_at v d (zone_on g d) ≤ capacity p → (zone_at v d (zone_on g d)).pointer ≡ 1 + p.S + have d
          as! a b = unfold footers_stored pointer_at in (let c = capacity_is p r in omega arith)

      pub have_few : (d : ℕ) → have d ≤ footers p
      have_few d = unfold footers_stored in omega arith

      lack_count : (d : ℕ) → d < p.N → length (lack d) ≡ footers p - have d
      lack_count d hd = footers-count p r (zone_at v d (zone_on g d)) (sh.zone_ok d (zone_on g d) hd (low! d hd)) (have d) (footers p - have d)

      mending_on_zone : (d : ℕ) → d < p.N → hits d (zone_on g d) ts ≡ map (put_at d (zone_on g d)) (lack d)
      mending_on_zone d hd =
          ap (hits d (zone_on g d)) lack_is ∙ hits_each p d (zone_on g d) (zone_on g) lack hd
          ∙ cond_true (eqb (zone_on g d) (zone_on g d)) (map (put_at d (zone_on g d)) (lack d)) [] (eqb_self (zone_on g d))

      mending_off_zone : (d z : ℕ) → d < p.N → z ≢ zone_on g d → hits d z ts ≡ []
      mending_off_zone d z hd n =
          ap (hits d z) lack_is ∙ hits_each p d z (zone_on g) lack hd
          ∙ cond_false (eqb (zone_on g d) z) (map (put_at d (zone_on g d)) (lack d)) [] (ne_eqb (zone_on g d) z (λ e. n (sym e)))

      pub b_zone : (d : ℕ) → d < p.N → zone_at vb d (zone_on g d) ≡ put_all d (zone_on g d) (lack d) (zone_at v d (zone_on g d))
      b_zone d hd =
          zone_after p va d (zone_on g d) ts shaped_a.sized hd (low! d hd) ∙ ap₂ (λ (l : List Store) (q : Zone). store_all zone_store l q) (mending_on_zone d hd) (zone_a d hd)

      pub b_other : (d z : ℕ) → d < p.N → z < p.Z → z ≢ zone_on g d → zone_at vb d z ≡ zone_at va d z
      b_other d z hd hz n =
          zone_after p va d z ts shaped_a.sized hd hz ∙ ap (λ (l : List Store). store_all zone_store l (zone_at va d z)) (mending_off_zone d z hd n) ∙ nothing
        where
          nothing : store_all zone_store [] (zone_at va d z) ≡ zone_at va d z
          nothing = unfold store_all in refl

      pub b_pointer : (d : ℕ) → d < p.N → pointer_at vb d (zone_on g d) ≡ capacity p
      b_pointer d hd = as! (ap (λ (q : Zone). q.pointer) (b_zone d hd) ∙ puts_pointer d (zone_on g d) (lack d) (zone_at v d (zone_on g d))
          ∙ (let a = has_pointer d hd in let b = lack_count d hd in let c = capacity_is p r in let e = have_few d in
          let z : (zone_at v d (zone_on g d)).pointer + length (lack d) ≡ capacity p = omega arith in z))
        where
          as! : (zone_at vb d (zone_on g d)).pointer ≡ capacity p → pointer_at vb d (zone_on g d) ≡ capacity p
          as! q = unfold pointer_at in q

      b_roomy : Roomy p va ts
      b_roomy d z hd hz = go (ℕ_discrete z (zone_on g d))
        where
          fit : Room p (pointer_at va d (zone_on g d)) (map (put_at d (zone_on g d)) (lack d))
          fit =
              as! (footer_rooms p r (zone_at v d (zone_on g d)) (sh.zone_ok d (zone_on g d) hd (low! d hd)) d (zone_on g d) (have d) (footers p - have d)
              (let a = has_pointer d hd in let c = capacity_is p r in let e = have_few d in omega arith))
            where
              as! : Room p (zone_at v d (zone_on g d)).pointer (map (put_at d (zone_on g d)) (lack d)) → Room p (pointer_at va d (zone_on g d)) (map (put_at d (zone_on g d)) (lack d))
              as! w = unfold pointer_at in subst (λ (q : Zone). Room p q.pointer (map (put_at d (zone_on g d)) (lack d))) (sym (zone_a d hd)) w

          go : Dec (z ≡ zone_on g d) → Room p (pointer_at va d z) (hits d z ts)
          go (no n) = subst (λ (l : List Store). Room p (pointer_at va d z) l) (sym (mending_off_zone d z hd n)) tt
          go (yes e) =
              subst (λ (n : ℕ). Room p (pointer_at va d n) (hits d n ts)) (sym e) (subst (λ (l : List Store). Room p (pointer_at va d (zone_on g d)) l) (sym (mending_on_zone d hd)) fit)

      pub b_grows : Grows p va vb g
      b_grows = record {
        zone_is = there! g kg;
        others = b_other;
        used_before = λ d hd. some d hd;
        used_now = λ d hd. let a = b_pointer d hd in let c = capacity_over p r in omega arith;
        low_now = λ d hd. le_of_eq (b_pointer d hd);
        same_head = head;
        same_offline = offline_after ts va;
      }
        where
          some : (d : ℕ) → d < p.N → 1 ≤ pointer_at va d (zone_on g d)
          some d hd = let a = whole_pointer p r v sh acc g kg ng wh d hd in let e = zones_pointer p r v va g (same! g kg) d hd in omega arith

          head : (d : ℕ) → d < p.N → header_at va d g ≡ header_at vb d g
          head d hd = as! (ap (λ (q : Zone). (get_or q.blocks 0 no_chunk).block) (zone_a d hd)
              ∙ sym (ap (λ (q : Zone). (get_or q.blocks 0 no_chunk).block) (b_zone d hd)
              ∙ ap (λ (c : Chunk). c.block) (puts_old d (zone_on g d) (lack d) (zone_at v d (zone_on g d)) 0 (let a = has_pointer d hd in omega arith))))
            where
              as! : (get_or (zone_at va d (zone_on g d)).blocks 0 no_chunk).block ≡ (get_or (zone_at vb d (zone_on g d)).blocks 0 no_chunk).block → header_at va d g ≡ header_at vb d g
              as! e = unfold header_at chunk_at in e

      pub b_same : (y : Seg) → There p va y → (g ≡ y → ⊥) → SameZones p va vb y
      b_same y m n = grows_others p r va vb g b_grows y m n

      pub mend_footers : Mended p va ts
      mend_footers = record {
        mend_roomy = b_roomy;
        mend_within = λ s m. within_each p g lack (its_zones_low p r va g (there! g kg)) s (subst (λ (l : List Store). In s l) lack_is m);
        mend_bound = greatest_serial gs;
        mend_tidy = grows_tidy p r va vb g b_grows (greatest_serial gs) (drop_tidy p r v sh acc);
        mend_rest = rest_sealed (λ z q. go z (grows_was p r va vb g b_grows z q) (segs_differ z g));
      }
        where
          go : (z : Seg) → There p va z → Dec (z ≡ g) → SealedAll p vb z
          go z q (yes e) = subst (λ (n : Seg). SealedAll p vb n) (sym e) b_pointer
          go z q (no n) = λ d hd. sym (zones_pointer p r va vb z (b_same z q (λ e. n (sym e))) d hd) ∙ sealed_now z (kept! z q) (oth z (kept! z q) n) d hd
