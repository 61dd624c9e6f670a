-- Two views that differ in offline zones alone: what a restart or a rebuild reads of the drives is the same, but for what lies on missing drives, at which nothing looks (02, item 4). Assumes nothing.
use Rattle.std.specs.Prelude.{◌≡◌, cond, ◌&&◌, ◌||◌, get_or}
use Rattle.std.proofs.Math.Path.{refl, sym, ap, ap₂}
use Rattle.std.proofs.Common.{◌∙◌}
use mathlib.Core.List.{List, [], map}
use Rattle.std.proofs.Math.Bool.{Bool, false, not}
use Prim.Native.Nat.{ℕ, ◌<◌}
use Rattle.std.proofs.Math.Dec.{eqb, leb, ltb}
use Rattle.std.proofs.Math.ListN.{length}
use Rattle.std.proofs.lemmas.List.{length-map}
use Rattle.spec.specs.declared.Params.{Params}
use Rattle.spec.specs.declared.Seg.{Seg}
use Rattle.spec.specs.Drives.{no_chunk, Zone, no_zone, View, zone_at, pointer_at, is_good, zone_on, sealed_in, zero_spare, same_seg}
use Rattle.spec.specs.Faults.{pointer_faults, same_chunk, header_fault, own_fault, bad_name, name_clash, serial_twice, serial_fault, stripe_fault, address_fault}
use Rattle.spec.specs.Faults.{decoded_bad, footer_fault_in, footer_fault}
use Rattle.spec.specs.Faults.{clashes, segment_fault, segment_faults}
use Rattle.spec.specs.Layout.{header_block, header_serial, header_copied, header_zones}
use Rattle.spec.specs.Lists.{below, any, keep, is_in}
use Rattle.spec.specs.Params.{capacity, drives_of, present}
use Rattle.spec.specs.Segments.{low_drive, bearing, header_at, remaining, Segment, records_in, segment_of, segments, recs_on, counted, counts, has_chunk, rec_of, stored_rec, offset_on, unsealed}
use Rattle.law_basic.specs.Mask.{is_in_empty}
use Rattle.law_basic.specs.Ranges.{Test, test, get_d_map-below, map-map, any-map, keep-map}
use Rattle.law_basic.specs.Ranges.Test.{yes!, no! }
use Rattle.law_drives.specs.Gather.{present_in}
use Rattle.law_drives.specs.Members.{In, below_in, any_cong, keep_cong, map_cong}
use Rattle.law_drives.specs.Segs.{Here}
use Rattle.law_drives.specs.Tests.{and_false_left, cond_true, cond_false}
use Rattle.proof_answers.specs.UnseenZones.{UnseenZonesAlike, same_good, unseen_zones_same_pointer, bearing_same, remains, its_zone_same, its_header_same, its_sealed_same}

-- ---- a segment without what lies on missing drives

unfoldable pub veil : Params → ℕ → Segment → Segment
veil p gone g = record {
  seg = g.seg;
  names = g.names;
  serial = g.serial;
  copied = g.copied;
  full = g.full;
  zones_by_holds = map (λ d. cond (is_in gone d) no_zone (get_or g.zones_by_holds d no_zone)) (below p.N);
  recs = g.recs;
}

pub veil_zone : (p : Params) (gone : ℕ) (g : Segment) (d : ℕ) → In d (present p gone) → get_or g.zones_by_holds d no_zone ≡ get_or (veil p gone g).zones_by_holds d no_zone
unfolding veil
veil_zone p gone g d i =
    let (hd, q) = present_in p gone d i in
    sym (get_d_map-below (λ d. cond (is_in gone d) no_zone (get_or g.zones_by_holds d no_zone)) p.N d no_zone hd ∙ cond_false (is_in gone d) no_zone (get_or g.zones_by_holds d no_zone) q)

module _ (p : Params) (v : View) (gone : ℕ) (gs : List Segment) where
  abbrev hs : List Segment
  hs = map (veil p gone) gs

  veil_header : (g : Segment) → header_fault p gone g ≡ header_fault p gone (veil p gone g)
  unfolding header_fault veil
  veil_header g = any_cong (λ d. not (same_chunk (get_or (get_or g.zones_by_holds d no_zone).blocks 0 no_chunk) (header_block p d g.names g.serial g.copied) zero_spare))
      (λ d. not (same_chunk (get_or (get_or (veil p gone g).zones_by_holds d no_zone).blocks 0 no_chunk) (header_block p d g.names g.serial g.copied) zero_spare)) (present p gone)
      (λ d i. ap (λ (q : Zone). not (same_chunk (get_or q.blocks 0 no_chunk) (header_block p d g.names g.serial g.copied) zero_spare)) (veil_zone p gone g d i))

  veil_footer : (g : Segment) → footer_fault p gone g ≡ footer_fault p gone (veil p gone g)
  unfolding footer_fault veil
  veil_footer g = ap (λ (b : Bool). not g.full && b)
      (any_cong (λ d. footer_fault_in p (get_or g.zones_by_holds d no_zone)) (λ d. footer_fault_in p (get_or (veil p gone g).zones_by_holds d no_zone)) (present p gone)
      (λ d i. ap (footer_fault_in p) (veil_zone p gone g d i)))

  veil_clash : (g : Segment) → name_clash p gs g ≡ name_clash p hs (veil p gone g)
  unfolding name_clash veil
  veil_clash g = sym (any-map (λ (h : Segment). not (same_seg h.seg g.seg) && any (λ d. eqb (get_or h.names d 0) (get_or g.names d 0)) (drives_of p)) (veil p gone) gs)

  pub veil-unsealed : map (veil p gone) (unsealed gs) ≡ unsealed hs
  unfolding unsealed veil
  veil-unsealed = sym (keep-map (λ (g : Segment). not g.full) (veil p gone) gs)

  veil-clashes : (g : Segment) → clashes gs g ≡ clashes hs (veil p gone g)
  unfolding clashes
  veil-clashes g = ap₂ (λ (a : Bool) (n : ℕ). not a && leb 2 n) (full_kept g) (sym (length-map (unsealed gs) (veil p gone)) ∙ ap length veil-unsealed)
    where
      full_kept : (g : Segment) → g.full ≡ (veil p gone g).full
      full_kept g = unfold veil in refl

  veil_others : (g : Segment) → (own_fault p gone g ≡ own_fault p gone (veil p gone g)) × (bad_name p v g ≡ bad_name p v (veil p gone g))
      × (serial_twice p v gone g ≡ serial_twice p v gone (veil p gone g)) × (serial_fault g ≡ serial_fault (veil p gone g))
      × (stripe_fault p gone g ≡ stripe_fault p gone (veil p gone g)) × (address_fault p gone g ≡ address_fault p gone (veil p gone g))
  unfolding veil own_fault bad_name serial_twice serial_fault stripe_fault address_fault decoded_bad recs_on counted counts has_chunk rec_of stored_rec offset_on
  veil_others g = (refl, refl, refl, refl, refl, refl)

  veil_fault : (g : Segment) → segment_fault p v gone gs g ≡ segment_fault p v gone hs (veil p gone g)
  unfolding segment_fault
  veil_fault g = let (a, b, c, e, f, h) = veil_others g in
      λ i. veil_header g i || a i || b i || veil_clash g i || c i || e i || f i || h i || veil_footer g i || veil-clashes g i

  pub veil_faults : segment_faults p v gone gs ≡ segment_faults p v gone hs
  unfolding segment_faults veil
  veil_faults =
      ap (map (λ (g : Segment). zone_on g.seg (low_drive p gone)))
      (keep_cong (segment_fault p v gone gs) (λ (g : Segment). segment_fault p v gone hs (veil p gone g)) gs (λ g i. veil_fault g))
      ∙ sym (map-map (λ (g : Segment). zone_on g.seg (low_drive p gone)) (veil p gone) (keep (λ (g : Segment). segment_fault p v gone hs (veil p gone g)) gs))
      ∙ ap (map (λ (g : Segment). zone_on g.seg (low_drive p gone))) (sym (keep-map (segment_fault p v gone hs) (veil p gone) gs))

-- ---- two views

module _ (p : Params) (v u : View) (al : UnseenZonesAlike p v u) (gone : ℕ) where
  pub pointer_faults_same : pointer_faults p v gone ≡ pointer_faults p u gone
  unfolding pointer_faults
  pointer_faults_same = keep_cong (λ z. any (bad v z) (present p gone)) (λ z. any (bad u z) (present p gone)) (below p.Z)
      (λ z iz. any_cong (bad v z) (bad u z) (present p gone) (λ d i. one d z (present_in p gone d i).0 (below_in p.Z z iz) (test (is_good p v.offline d z))))
    where
      bad : View → ℕ → ℕ → Bool
      bad w z d = is_good p w.offline d z && ltb (capacity p) (pointer_at w d z)

      one : (d z : ℕ) → d < p.N → z < p.Z → Test (is_good p v.offline d z) → bad v z d ≡ bad u z d
      one d z hd hz (yes! g) = ap₂ (λ (a : Bool) (n : ℕ). a && ltb (capacity p) n) (same_good p v u al d z) (unseen_zones_same_pointer p v u al d z hd hz g)
      one d z hd hz (no! g) = and_false_left (is_good p v.offline d z) (ltb (capacity p) (pointer_at v d z)) g
          ∙ sym (and_false_left (is_good p u.offline d z) (ltb (capacity p) (pointer_at u d z)) (sym (same_good p v u al d z) ∙ g))

  pub segment_faults_same : (gs : List Segment) → segment_faults p v gone gs ≡ segment_faults p u gone gs
  unfolding segment_faults
  segment_faults_same gs = ap (map (λ (g : Segment). zone_on g.seg (low_drive p gone))) (keep_cong (segment_fault p v gone gs) (segment_fault p u gone gs) gs (λ g i. one g))
    where
      named : (g : Segment) → bad_name p v g ≡ bad_name p u g
      named g = unfold bad_name in
          ap (λ (l : List ℕ). any (λ d. not (ltb (get_or g.names d 0) p.Z && is_good p l d (get_or g.names d 0))) (drives_of p)) al.same_list_holds

      twice : (g : Segment) → serial_twice p v gone g ≡ serial_twice p u gone g
      twice g = unfold serial_twice in
          any_cong (λ d. leb 2 (length (bearing p v d g.serial))) (λ d. leb 2 (length (bearing p u d g.serial))) (present p gone)
          (λ d i. ap (λ (l : List ℕ). leb 2 (length l)) (bearing_same p v u al d g.serial (present_in p gone d i).0))

      one : (g : Segment) → segment_fault p v gone gs g ≡ segment_fault p u gone gs g
      one g = unfold segment_fault in ap₂ (λ (a b : Bool).
          header_fault p gone g || own_fault p gone g || a || name_clash p gs g || b || serial_fault g
          || stripe_fault p gone g || address_fault p gone g || footer_fault p gone g || clashes gs g) (named g) (twice g)

  module _ (low : Here p gone) where
    module _ (g : Seg) (m : In g (remaining p v gone)) where
      head : header_at v (low_drive p gone) g ≡ header_at u (low_drive p gone) g
      head = its_header_same p v u al gone low g m (low_drive p gone) low.0 low.1

      full : sealed_in p v gone g ≡ sealed_in p u gone g
      full = its_sealed_same p v u al gone low g m

      abbrev zones_on : View → List Zone
      zones_on w = map (λ d. zone_at w d (zone_on g d)) (below p.N)

      -- by drive, where the drive is present
      unseen_drives_by_drive : {A : Type 0} (x : A) (f : Zone → A) (d : ℕ) → d < p.N
          → cond (is_in gone d) x (f (get_or (zones_on v) d no_zone)) ≡ cond (is_in gone d) x (f (get_or (zones_on u) d no_zone))
      unseen_drives_by_drive x f d hd = go (test (is_in gone d))
        where
          go : Test (is_in gone d) → cond (is_in gone d) x (f (get_or (zones_on v) d no_zone)) ≡ cond (is_in gone d) x (f (get_or (zones_on u) d no_zone))
          go (yes! q) = cond_true (is_in gone d) x (f (get_or (zones_on v) d no_zone)) q ∙ sym (cond_true (is_in gone d) x (f (get_or (zones_on u) d no_zone)) q)
          go (no! q) = ap (λ (z : Zone). cond (is_in gone d) x (f z))
              (get_d_map-below (λ d. zone_at v d (zone_on g d)) p.N d no_zone hd ∙ its_zone_same p v u al gone low g m d hd q
              ∙ sym (get_d_map-below (λ d. zone_at u d (zone_on g d)) p.N d no_zone hd))

      unseen_drives_recs_same : map (λ d. cond (is_in gone d) [] (records_in p (sealed_in p v gone g) (get_or (zones_on v) d no_zone))) (below p.N)
          ≡ map (λ d. cond (is_in gone d) [] (records_in p (sealed_in p u gone g) (get_or (zones_on u) d no_zone))) (below p.N)
      unseen_drives_recs_same =
          map_cong (λ d. cond (is_in gone d) [] (records_in p (sealed_in p v gone g) (get_or (zones_on v) d no_zone)))
          (λ d. cond (is_in gone d) [] (records_in p (sealed_in p v gone g) (get_or (zones_on u) d no_zone))) (below p.N)
          (λ d i. unseen_drives_by_drive [] (records_in p (sealed_in p v gone g)) d (below_in p.N d i))
          ∙ ap (λ (w : Bool). map (λ d. cond (is_in gone d) [] (records_in p w (get_or (zones_on u) d no_zone))) (below p.N)) full

      unseen_drives_zones_same : map (λ d. cond (is_in gone d) no_zone (get_or (zones_on v) d no_zone)) (below p.N) ≡ map
          (λ d. cond (is_in gone d) no_zone (get_or (zones_on u) d no_zone)) (below p.N)
      unseen_drives_zones_same = map_cong (λ d. cond (is_in gone d) no_zone (get_or (zones_on v) d no_zone)) (λ d. cond (is_in gone d) no_zone (get_or (zones_on u) d no_zone)) (below p.N)
          (λ d i. unseen_drives_by_drive no_zone (λ (z : Zone). z) d (below_in p.N d i))

      veiled_one : veil p gone (segment_of p v gone g) ≡ veil p gone (segment_of p u gone g)
      unfolding veil segment_of drives_of
      veiled_one = λ i. record {
        seg = g;
        names = header_zones p (head i);
        serial = header_serial p (head i);
        copied = header_copied p (head i);
        full = full i;
        zones_by_holds = unseen_drives_zones_same i;
        recs = unseen_drives_recs_same i;
      }

    pub veiled_same : map (veil p gone) (segments p v gone) ≡ map (veil p gone) (segments p u gone)
    unfolding segments
    veiled_same =
        map-map (veil p gone) (segment_of p v gone) (remaining p v gone)
        ∙ map_cong (λ (g : Seg). veil p gone (segment_of p v gone g)) (λ (g : Seg). veil p gone (segment_of p u gone g)) (remaining p v gone) (λ g m. veiled_one g m)
        ∙ ap (map (λ (g : Seg). veil p gone (segment_of p u gone g))) (remains p v u al gone low)
        ∙ sym (map-map (veil p gone) (segment_of p u gone) (remaining p u gone))

    -- nothing is missing: the same segments
    pub unseen_drives_segments_same : gone ≡ 0 → segments p v gone ≡ segments p u gone
    unfolding segments
    unseen_drives_segments_same e =
        map_cong (segment_of p v gone) (segment_of p u gone) (remaining p v gone) (λ g m. one g m) ∙ ap (map (segment_of p u gone)) (remains p v u al gone low)
      where
        here : (d : ℕ) → is_in gone d ≡ false
        here d = ap (λ (n : ℕ). is_in n d) e ∙ is_in_empty d

        one : (g : Seg) → In g (remaining p v gone) → segment_of p v gone g ≡ segment_of p u gone g
        one g m = unfold segment_of drives_of in λ i. record {
          seg = g;
          names = header_zones p (head g m i);
          serial = header_serial p (head g m i);
          copied = header_copied p (head g m i);
          full = full g m i;
          zones_by_holds = map_cong (λ d. zone_at v d (zone_on g d)) (λ d. zone_at u d (zone_on g d)) (below p.N) (λ d j. its_zone_same p v u al gone low g m d (below_in p.N d j) (here d)) i;
          recs = unseen_drives_recs_same g m i;
        }

    -- the faults of what is read
    pub read_faults_same : segment_faults p v gone (segments p v gone) ≡ segment_faults p u gone (segments p u gone)
    read_faults_same =
        veil_faults p v gone (segments p v gone)
        ∙ ap (segment_faults p v gone) veiled_same
        ∙ segment_faults_same (map (veil p gone) (segments p u gone))
        ∙ sym (veil_faults p u gone (segments p u gone))
