-- After a rebuild the same segments remain with none missing, and a restart finds nothing wrong: fault by fault, on the rebuilt drive and on the others. Assumes nothing.
use Rattle.std.specs.Prelude.{◌≡◌, ◌&&◌, ◌||◌}
use Rattle.std.proofs.Math.Path.{refl, sym, ap, ap₂, subst}
use Rattle.std.proofs.Common.{◌∙◌, zero-add, add-zero}
use mathlib.Core.List.{List, [], ◌∷◌, map}
use Rattle.std.proofs.Math.Bool.{Bool, true, false, not}
use Prim.Native.Nat.{ℕ, suc, ◌+◌, ◌^◌, ◌≤◌, ◌<◌}
use borrow.Author.Tests.{lt-ltb, le-ltb, eq-eqb, ne_eqb, eqb-true, not-true}
use native.Mathlib.Omega.{arith}
use Rattle.std.proofs.Math.Dec.{leb, ltb, eqb}
use Rattle.std.proofs.Math.ListN.{length, get_or}
use Rattle.std.proofs.lemmas.List.{length-map}
use Rattle.spec.specs.declared.Params.{Params}
use Rattle.spec.specs.Drives.{mk_chunk, no_chunk, Zone, no_zone, View, zone_at, pointer_at, zone_on, blocks_of, footers_of, zero_spare, same_seg, zones_in, Chunk, chunk_at, is_good, sealed_in}
use Rattle.spec.specs.Faults.{pointer_faults, same_chunk, header_fault, serial_fault, outside, twice, stripe_fault, bad_rec, stored_bad, decoded_bad, address_fault}
use Rattle.spec.specs.Faults.{footers_stored, same_blocks_of, footer_fault_in}
use Rattle.spec.specs.Faults.{footer_fault, clashes, segment_fault, segment_faults, bad_name, name_clash, own_fault, serial_twice}
use Rattle.spec.specs.Layout.{is_data, group, in_group_of, header_block, header_serial, Rec, mk_rec, header_zones}
use Rattle.spec.specs.Lists.{up_from, below, all, any, keep, same_list, tally, is_in}
use Rattle.spec.specs.Params.{capacity, named, drives_of, present, absent}
use Rattle.spec.specs.Segments.{low_drive, header_at, left_by1, is_copy, remaining, Segment, segment_of, segments, recs_on, counts, counted, rec_of, unsealed, is_used, leads, serial_in}
use Rattle.law_basic.specs.Geometry.{Ranged}
use Rattle.law_basic.specs.Mask.{is_in_empty}
use Rattle.law_basic.specs.Ranges.{Test, test, and_left, and_right, and_both, get_d_map, same_list_refl, keep-map}
use Rattle.law_basic.specs.Ranges.Test.{yes!, no! }
use Rattle.law_drives.specs.Accept.{Accepted, pointer_ok, faults_apart, bears_once, names_is, serials_differ, unsealed_once, zone_good, zone_in_range, zone_once}
use Rattle.law_drives.specs.Members.{In, map_in, in_keep, keep_in, none_in, in_none, any_in, keep_nothing, in_below, below_in, in_get_d, get_d_in, keep-keep}
use Rattle.law_drives.specs.Rebuilding.{counted-low, counted_in, RebuiltZone, rebuilt-kind}
use Rattle.law_drives.specs.Segs.{zone_by, seg_is, full_is}
use Rattle.law_drives.specs.Tables.{remaining_is, at-remaining, remains_at, seg-at_zone, seg_at}
use Rattle.law_drives.specs.Tests.{clash, and_false_left, and_false_right, or_neither, or_first, or_right, not_so}
use Rattle.proof_rebuilt.specs.Groups.{rank_group}
use Rattle.proof_rebuilt.specs.Numbers.{rank_of_holds, few_kept}
use Rattle.proof_rebuilt.specs.Segment.{decoded_stripe, rebuilt-seg_full, recs_rebuilt, recs_other, header_of, rebuilt_serial, rebuilt-copied}
use Rattle.proof_rebuilt.specs.Zone.{rebuilt_view, Loss, drive_lost_holds, each_drive, present_zone_same, zone_dropped, rebuilt-low, rebuilt_open, zone_lost_apart, low-one}
use Rattle.spec.specs.declared.Seg.{Seg}
use Rattle.spec.specs.Segments.{bearing}
use Rattle.law_drives.specs.Rebuilding.RebuiltZone.{zone_of_holds, zone_free, zone_bad}
use Rattle.law_basic.specs.Fields.{header_zones_named}
use Rattle.law_basic.specs.Segs.{seg_self, zones_in_lem, zones_in_long}
use Rattle.law_drives.specs.Gather.{in_present, present_in}
use Rattle.law_drives.specs.Rebuilt.{rebuilt_of, rebuilt_remains, rebuilt_serial_in, remains_rebuilt}
use Rattle.law_drives.specs.Settled.{zero_here}
use Rattle.spec.specs.Rebuild.{rebuild_stores}
use Rattle.law_views.specs.Alike.{offline_after}

module _ (p : Params) (v : View) (d : ℕ) (lo : Loss p v d) where
  abbrev r : Ranged p
  r = lo.ranged

  abbrev hd : d < p.N
  hd = lo.drive_low

  abbrev acc : Accepted p v (named d)
  acc = lo.accepts

  abbrev gone : ℕ
  gone = named d

  abbrev u : View
  u = rebuilt_view p v d

  kept_zone : (e z : ℕ) → e < p.N → z < p.Z → is_in gone e ≡ false → zone_at u e z ≡ zone_at v e z
  kept_zone e z he hz pr = present_zone_same p v d lo e z he hz pr

  -- ---- what remains

  pub now_remains : (g : Seg) → In g (remaining p v (named d)) → In g (remaining p (rebuilt_view p v d) 0)
  now_remains g m = rebuilt_remains p r v lo.shaped d hd acc g m

  pub remained : (g : Seg) → In g (remaining p (rebuilt_view p v d) 0) → In g (remaining p v (named d))
  remained g m = remains_rebuilt p r v lo.shaped d hd acc g m

  same_list_holds : u.offline ≡ v.offline
  same_list_holds = offline_after (rebuild_stores p v d (segments p v (named d))) v

  pointer_in_zone : (t : View) (e z : ℕ) → pointer_at t e z ≡ (zone_at t e z).pointer
  unfolding pointer_at
  pointer_in_zone t e z = refl

  -- ---- pointers

  no_pointer_fault : pointer_faults p u 0 ≡ []
  unfolding pointer_faults
  no_pointer_fault = keep_nothing (λ z. any (λ e. is_good p u.offline e z && ltb (capacity p) (pointer_at u e z)) (present p 0)) (below p.Z)
      (λ z i.
      let hz = below_in p.Z z i in
      in_none (λ e. is_good p u.offline e z && ltb (capacity p) (pointer_at u e z)) (present p 0) (λ e j. good e z (present_in p 0 e j).0 hz (test (is_good p v.offline e z))))
    where
      here : (z : ℕ) → z < p.Z → is_good p v.offline d z ≡ true
          → RebuiltZone p r v lo.shaped d hd (drive_lost_holds p v d lo) (zone_lost_apart p v d lo) z → (zone_at u d z).pointer ≤ capacity p
      here z hz k (zone_of_holds g m q) = subst (λ (n : ℕ). (zone_at u d n).pointer ≤ capacity p) q (rebuilt-low p v d lo g m)
      here z hz k (zone_free x n) = let a = zone_dropped p v d lo z hz x n in omega arith
      here z hz k (zone_bad x) = clash k x

      low : (e z : ℕ) → e < p.N → z < p.Z → is_good p v.offline e z ≡ true → (zone_at u e z).pointer ≤ capacity p
      low e z he hz k = each_drive p v d lo {P = λ e. is_good p v.offline e z ≡ true → (zone_at u e z).pointer ≤ capacity p}
          (λ k. here z hz k (rebuilt-kind p r v lo.shaped d hd (drive_lost_holds p v d lo) (zone_lost_apart p v d lo) z))
          (λ e he pr k. subst (λ (q : Zone). q.pointer ≤ capacity p) (sym (kept_zone e z he hz pr))
          (subst (λ (n : ℕ). n ≤ capacity p) (pointer_in_zone v e z) (pointer_ok p v gone acc e z he hz pr k)))
          e he k

      good : (e z : ℕ) → e < p.N → z < p.Z → Test (is_good p v.offline e z) → is_good p u.offline e z && ltb (capacity p) (pointer_at u e z) ≡ false
      good e z he hz (no! k) = and_false_left (is_good p u.offline e z) (ltb (capacity p) (pointer_at u e z)) (ap (λ (l : List ℕ). is_good p l e z) same_list_holds ∙ k)
      good e z he hz (yes! k) = and_false_right (is_good p u.offline e z) (ltb (capacity p) (pointer_at u e z))
          (le-ltb (capacity p) (pointer_at u e z) (subst (λ (n : ℕ). n ≤ capacity p) (sym (pointer_in_zone u e z)) (low e z he hz k)))

  -- ---- unsealed segments: one at most

  -- one of them, before the rebuild
  record Was (z : ℕ) : Type 0 where
    it_remained : In (seg_at p u 0 z) (remaining p v (named d))
    unsealed_then : sealed_in p v (named d) (seg_at p u 0 z) ≡ false
    its_zone_is : zone_on (seg_at p u 0 z) (low_drive p 0) ≡ z

  accepted_one-unsealed : leb 2 (length (unsealed (segments p u 0))) ≡ false
  accepted_one-unsealed = ap (λ (n : ℕ). leb 2 n) long ∙ few_kept loose p.Z once
    where
      loose : ℕ → Bool
      loose z = remains_at p u 0 z && not (segment_of p u 0 (seg_at p u 0 z)).full

      listed : unsealed (segments p u 0) ≡ map (segment_of p u 0) (map (seg_at p u 0) (keep loose (below p.Z)))
      listed = unfold unsealed segments in (
          keep-map (λ (h : Segment). not h.full) (segment_of p u 0) (remaining p u 0)
          ∙ ap (λ (l : List Seg). map (segment_of p u 0) (keep (λ g. not (segment_of p u 0 g).full) l)) (remaining_is p u 0)
          ∙ ap (map (segment_of p u 0)) (keep-map (λ g. not (segment_of p u 0 g).full) (seg_at p u 0) (keep (remains_at p u 0) (below p.Z))
          ∙ ap (map (seg_at p u 0)) (keep-keep (λ z. not (segment_of p u 0 (seg_at p u 0 z)).full) (remains_at p u 0) (below p.Z))))

      long : length (unsealed (segments p u 0)) ≡ length (keep loose (below p.Z))
      long = ap length listed ∙ length-map (map (seg_at p u 0) (keep loose (below p.Z))) (segment_of p u 0) ∙ length-map (keep loose (below p.Z)) (seg_at p u 0)

      was : (z : ℕ) → z < p.Z → loose z ≡ true → Was z
      was z hz q =
          let a = and_left (remains_at p u 0 z) (not (segment_of p u 0 (seg_at p u 0 z)).full) q in
          let b = not-true (segment_of p u 0 (seg_at p u 0 z)).full (and_right (remains_at p u 0 z) (not (segment_of p u 0 (seg_at p u 0 z)).full) q) in
          let m = remained (seg_at p u 0 z) (at-remaining p u 0 (zero_here p r) z hz a) in
          record {
            it_remained = m;
            unsealed_then = sym (full_is p v gone (seg_at p u 0 z)) ∙ sym (rebuilt-seg_full p v d lo (seg_at p u 0 z) m) ∙ b;
            its_zone_is = seg-at_zone p u 0 (zero_here p r) z (leads! z a);
          }
        where
          leads! : (z : ℕ) → remains_at p u 0 z ≡ true → leads p u (low_drive p 0) z ≡ true
          leads! z q = unfold remains_at in (
              let l : Bool = all (λ e. ltb (zone_on (seg_at p u 0 z) e) p.Z) (present p 0) in
              and_left (leads p u (low_drive p 0) z) l (and_left (leads p u (low_drive p 0) z && l) (not (is_copy p u (low_drive p 0) (left_by1 p u 0) (seg_at p u 0 z))) q))

      once : (i j : ℕ) → i < p.Z → j < p.Z → loose i ≡ true → loose j ≡ true → i ≡ j
      once i j hi hj a b =
          let x = was i hi a in
          let y = was j hj b in
          sym x.its_zone_is
          ∙ ap (λ (g : Seg). zone_on g (low_drive p 0)) (unsealed_once p v gone acc (seg_at p u 0 i) (seg_at p u 0 j) x.it_remained y.it_remained x.unsealed_then y.unsealed_then)
          ∙ y.its_zone_is

  module _ (g : Seg) (m : In g (remaining p v gone)) where
    abbrev x : Segment
    x = segment_of p v gone g

    abbrev y : Segment
    y = segment_of p u 0 g

    abbrev ss : List ℕ
    ss = counted p gone x

    abbrev low-at : (e : ℕ) → e < p.N → zone_on g e < p.Z
    low-at e he = zone_in_range p v (named d) lo.accepts (low-one p v d lo) g e m he

    -- its headers name its zones
    names_now : y.names ≡ zones_in p g
    names_now = names_is p u 0 g ∙ ap (header_zones p) head ∙ header_zones_named p (low_drive p 0) (zones_in p g) x.serial x.copied (zones_in_long p g)
        (λ e he. subst (λ (n : ℕ). n < 256 ^ 4) (sym (zones_in_lem p g e he)) (let a = low-at e he in omega (arith, r.zones_high)))
      where
        head : header_at u (low_drive p 0) g ≡ header_block p (low_drive p 0) (zones_in p g) x.serial x.copied
        head = unfold header_at chunk_at in ap (λ (c : Chunk). c.block) (header_of p v d lo g m (low_drive p 0) (zero_here p r).0)

    name_now : (e : ℕ) → e < p.N → get_or y.names e 0 ≡ zone_on g e
    name_now e he = ap (λ (l : List ℕ). get_or l e 0) names_now ∙ zones_in_lem p g e he

    -- a test of each drive
    none_of : (f : ℕ → Bool) → f d ≡ false → ((e : ℕ) → e < p.N → is_in gone e ≡ false → f e ≡ false) → any f (present p 0) ≡ false
    none_of f a h = in_none f (present p 0) (λ e i. each_drive p v d lo {P = λ e. f e ≡ false} a h e (present_in p 0 e i).0)

    no_header_fault : header_fault p 0 y ≡ false
    unfolding header_fault
    no_header_fault = in_none (λ e. not (same_chunk (get_or (get_or y.zones_by_holds e no_zone).blocks 0 no_chunk) (header_block p e y.names y.serial y.copied) zero_spare)) (present p 0)
        (λ e i.
        let he = (present_in p 0 e i).0 in
        let t : same_chunk (get_or (get_or y.zones_by_holds e no_zone).blocks 0 no_chunk) (header_block p e y.names y.serial y.copied) zero_spare ≡ true =
        rw (zone_by p u 0 g e he, header_of p v d lo g m e he, names_now, rebuilt_serial p v d lo g m, rebuilt-copied p v d lo g m)
        (fine (header_block p e (zones_in p g) x.serial x.copied)) in
        ap not t)
      where
        fine : (b : List ℕ) → same_chunk (mk_chunk b zero_spare) b zero_spare ≡ true
        fine b = unfold same_chunk in and_both (same_list b b) (same_list zero_spare zero_spare) (same_list_refl b) (same_list_refl zero_spare)

    no_own_fault : own_fault p 0 y ≡ false
    unfolding own_fault
    no_own_fault = in_none (λ e. not (eqb (get_or y.names e 0) (zone_on y.seg e))) (present p 0)
        (λ e i. ap not (eq-eqb (get_or y.names e 0) (zone_on y.seg e) (name_now e (present_in p 0 e i).0 ∙ ap (λ (h : Seg). zone_on h e) (sym (seg_is p u 0 g)))))

    no_bad_name : bad_name p u y ≡ false
    unfolding bad_name drives_of
    no_bad_name = in_none (λ e. not (ltb (get_or y.names e 0) p.Z && is_good p u.offline e (get_or y.names e 0))) (below p.N)
        (λ e i. let he = below_in p.N e i in ap not (ap (λ (n : ℕ). ltb n p.Z && is_good p u.offline e n) (name_now e he)
        ∙ and_both (ltb (zone_on g e) p.Z) (is_good p u.offline e (zone_on g e)) (lt-ltb (zone_on g e) p.Z (low-at e he))
        (ap (λ (l : List ℕ). is_good p l e (zone_on g e)) same_list_holds ∙ zone_good p v gone acc (low-one p v d lo) g e m he)))

    no_serial_twice : serial_twice p u 0 y ≡ false
    unfolding serial_twice bearing
    no_serial_twice = none_of (λ e. leb 2 (length (keep (λ z. is_used p u e z && eqb (serial_in p u e z) y.serial) (below p.Z))))
        (few d (λ z hz a b. there z hz (rebuilt_of p r v lo.shaped d hd acc z hz a) b))
        (λ e he pr. few e (λ z hz a b. bears_once p v gone acc (low-one p v d lo) g e z m he pr hz (was_used e z he hz pr a) (was_serial e z he hz pr ∙ b)))
      where
        few : (e : ℕ) → ((z : ℕ) → z < p.Z → is_used p u e z ≡ true → serial_in p u e z ≡ x.serial → z ≡ zone_on g e)
            → leb 2 (length (keep (λ z. is_used p u e z && eqb (serial_in p u e z) y.serial) (below p.Z))) ≡ false
        few e one = few_kept (λ z. is_used p u e z && eqb (serial_in p u e z) y.serial) p.Z (λ i j hi hj a b. at! i hi a ∙ sym (at! j hj b))
          where
            at! : (z : ℕ) → z < p.Z → is_used p u e z && eqb (serial_in p u e z) y.serial ≡ true → z ≡ zone_on g e
            at! z hz q = one z hz (and_left (is_used p u e z) (eqb (serial_in p u e z) y.serial) q)
                (eqb-true (serial_in p u e z) y.serial (and_right (is_used p u e z) (eqb (serial_in p u e z) y.serial) q) ∙ rebuilt_serial p v d lo g m)

        there : (z : ℕ) → z < p.Z → (h : Seg) × In h (remaining p v (named d)) × (zone_on h d ≡ z) → serial_in p u d z ≡ x.serial → z ≡ zone_on g d
        there z hz (h, n, i) q = sym i ∙ ap (λ (k : Seg). zone_on k d) (serials_differ p v gone (low-one p v d lo) h g n m
            (sym (rebuilt_serial_in p r v lo.shaped d hd acc h d n hd) ∙ ap (serial_in p u d) i ∙ q))

        was_used : (e z : ℕ) → e < p.N → z < p.Z → is_in gone e ≡ false → is_used p u e z ≡ true → is_used p v e z ≡ true
        was_used e z he hz pr q = unfold is_used pointer_at in
            (ap₂ (λ (l : List ℕ) (k : Zone). is_good p l e z && not (eqb k.pointer 0)) (sym same_list_holds) (sym (kept_zone e z he hz pr)) ∙ q)

        was_serial : (e z : ℕ) → e < p.N → z < p.Z → is_in gone e ≡ false → serial_in p v e z ≡ serial_in p u e z
        was_serial e z he hz pr = unfold serial_in chunk_at in ap (λ (k : Zone). header_serial p (get_or k.blocks 0 no_chunk).block) (sym (kept_zone e z he hz pr))

    no_serial_fault : serial_fault y ≡ false
    unfolding serial_fault
    no_serial_fault = ap₂ leb (rebuilt_serial p v d lo g m) (rebuilt-copied p v d lo g m) ∙ (faults_apart p v gone acc g m).no_serial_fault

    no_clash : clashes (segments p u 0) y ≡ false
    unfolding clashes
    no_clash = and_false_right (not y.full) (leb 2 (length (unsealed (segments p u 0)))) accepted_one-unsealed

    -- ---- stripes

    abbrev made : List Rec
    made = map (λ s. rec_of p gone x s d) ss

    made_stripe : (j : ℕ) → j < length ss → (get_or made j (mk_rec 0 0 0)).stripe ≡ get_or ss j 0
    made_stripe j h = ap (λ (b : Rec). b.stripe) (get_d_map (λ s. rec_of p gone x s d) ss j (mk_rec 0 0 0) 0 h) ∙ decoded_stripe p v d lo g m (get_or ss j 0)

    made_long : length made ≡ length ss
    made_long = length-map ss (λ s. rec_of p gone x s d)

    counted-tally : (j : ℕ) → j < length ss → tally (counts p gone x) (below (get_or ss j 0)) ≡ j
    unfolding counted
    counted-tally j h = rank_of_holds (counts p gone x) p.S j h

    -- each in its group
    counted_in_group : (j : ℕ) → j < length ss → in_group_of p j (get_or ss j 0) ≡ true
    unfolding in_group_of
    counted_in_group j h =
        let s = get_or ss j 0 in
        let (l, c) = counted_in p gone x s (in_get_d ss j 0 h) in
        and_both (ltb s p.S) (eqb (group p s) (group p j)) (lt-ltb s p.S l) (eq-eqb (group p s) (group p j) (rank_group p r v gone acc g m s c ∙ ap (group p) (counted-tally j h)))

    none_outside : (b : ℕ) (rs : List Rec) → ((i : ℕ) → i < length rs → in_group_of p (b + i) (get_or rs i (mk_rec 0 0 0)).stripe ≡ true) → outside p b rs ≡ false
    unfolding outside
    none_outside b [] f = refl
    none_outside b (c ∷ rs) f = or_neither (not (in_group_of p b c.stripe)) (outside p (suc b) rs)
        (ap not (ap (λ (n : ℕ). in_group_of p n c.stripe) (sym (add-zero b)) ∙ f 0 (omega arith)))
        (none_outside (suc b) rs (λ i h. ap (λ (n : ℕ). in_group_of p n (get_or rs i (mk_rec 0 0 0)).stripe) (let e : suc b + i ≡ b + suc i = omega arith in e) ∙ f (suc i) (omega arith)))

    -- none twice
    none_twice : (rs : List Rec) → ((i j : ℕ) → i < length rs → j < length rs → (get_or rs i (mk_rec 0 0 0)).stripe ≡ (get_or rs j (mk_rec 0 0 0)).stripe
        → i ≡ j) → twice rs ≡ false
    unfolding twice
    none_twice [] f = refl
    none_twice (c ∷ rs) f = or_neither (any (λ (q : Rec). eqb q.stripe c.stripe) rs) (twice rs)
        (in_none (λ (q : Rec). eqb q.stripe c.stripe) rs
        (λ q i.
        let (k, l, e) = get_d_in rs (mk_rec 0 0 0) q i in
        ne_eqb q.stripe c.stripe (λ t. let z : suc k ≡ 0 = f (suc k) 0 (omega arith) (omega arith) (ap (λ (b : Rec). b.stripe) (sym e) ∙ t) in let bad : ⊥ = omega arith in bad)))
        (none_twice rs (λ i j a b e. let z : suc i ≡ suc j = f (suc i) (suc j) (omega arith) (omega arith) e in omega arith))

    no_stripe_fault : stripe_fault p 0 y ≡ false
    unfolding stripe_fault
    no_stripe_fault = none_of (λ e. outside p 0 (recs_on y e) || twice (recs_on y e))
        (ap (λ (l : List Rec). outside p 0 l || twice l) (recs_rebuilt p v d lo g m)
        ∙ or_neither (outside p 0 made) (twice made)
        (none_outside 0 made (λ i h. let h2 : i < length ss = subst (λ (n : ℕ). i < n) made_long h in
        ap₂ (λ (a b : ℕ). in_group_of p a b) (zero-add i) (made_stripe i h2) ∙ counted_in_group i h2))
        (none_twice made (λ i j a b e.
        let ha : i < length ss = subst (λ (n : ℕ). i < n) made_long a in
        let hb : j < length ss = subst (λ (n : ℕ). j < n) made_long b in
        sym (counted-tally i ha) ∙ ap (λ (s : ℕ). tally (counts p gone x) (below s)) (sym (made_stripe i ha) ∙ e ∙ made_stripe j hb) ∙ counted-tally j hb)))
        (λ e he pr. ap (λ (l : List Rec). outside p 0 l || twice l) (recs_other p v d lo g m e he pr)
        ∙ none_in (λ e. outside p 0 (recs_on x e) || twice (recs_on x e)) (present p gone) (faults_apart p v gone acc g m).no_stripe_fault e (in_present p gone e he pr))

    -- ---- addresses

    no_address_fault : address_fault p 0 y ≡ false
    unfolding address_fault
    no_address_fault =
        let fa : Bool = any (λ e. any (stored_bad p e) (recs_on x e)) (present p gone) in
        let fb : Bool = any (λ e. any (decoded_bad p gone x e) ss) (absent p gone) in
        let q : fa || fb ≡ false = (faults_apart p v gone acc g m).no_address_fault in
        let qd = none_in (λ e. any (decoded_bad p gone x e) ss) (absent p gone) (or_right fa fb q) d gone_in in
        or_neither (any (λ e. any (stored_bad p e) (recs_on y e)) (present p 0)) (any (λ e. any (decoded_bad p 0 y e) (counted p 0 y)) (absent p 0))
        (none_of (λ e. any (stored_bad p e) (recs_on y e))
        (ap (any (stored_bad p d)) (recs_rebuilt p v d lo g m) ∙ in_none (stored_bad p d) made (λ b i. fine b i qd))
        (λ e he pr. ap (any (stored_bad p e)) (recs_other p v d lo g m e he pr)
        ∙ none_in (λ e. any (stored_bad p e) (recs_on x e)) (present p gone) (or_first fa fb q) e (in_present p gone e he pr)))
        (in_none (λ e. any (decoded_bad p 0 y e) (counted p 0 y)) (absent p 0) (λ e i. absurd (gone_none e i)))
      where
        gone_in : In d (absent p gone)
        gone_in = unfold absent drives_of in in_keep (is_in gone) (below p.N) d (in_below p.N d hd) (drive_lost_holds p v d lo)

        gone_none : (e : ℕ) → In e (absent p 0) → ⊥
        gone_none e i = clash (off e i) (is_in_empty e)
          where
            off : (e : ℕ) → In e (absent p 0) → is_in 0 e ≡ true
            off e i = unfold absent drives_of in (keep_in (is_in 0) (below p.N) e i).1

        fine : (b : Rec) → In b made → any (decoded_bad p gone x d) ss ≡ false → stored_bad p d b ≡ false
        fine b i q = let (s, j, e) = map_in (λ s. rec_of p gone x s d) ss b i in ap (stored_bad p d) e ∙ stored! s ∙ none_in (decoded_bad p gone x d) ss q s j
          where
            stored! : (s : ℕ) → stored_bad p d (rec_of p gone x s d) ≡ decoded_bad p gone x d s
            stored! s = unfold stored_bad decoded_bad in ap (λ (n : ℕ). is_data p n d && bad_rec p (rec_of p gone x s d)) (decoded_stripe p v d lo g m s)

    -- ---- footers of an unsealed segment

    no_footer_fault : footer_fault p 0 y ≡ false
    unfolding footer_fault
    no_footer_fault = go (test x.full)
      where
        few : (q : Zone) → q.pointer ≤ suc p.S → footer_fault_in p q ≡ false
        few q h = unfold footer_fault_in in rw zero! (unfold same_blocks_of blocks_of footers_of up_from in refl)
          where
            zero! : footers_stored p q ≡ 0
            zero! = unfold footers_stored in omega arith

        go : Test x.full → not y.full && any (λ e. footer_fault_in p (get_or y.zones_by_holds e no_zone)) (present p 0) ≡ false
        go (yes! q) = and_false_left (not y.full) (any (λ e. footer_fault_in p (get_or y.zones_by_holds e no_zone)) (present p 0)) (ap not (rebuilt-seg_full p v d lo g m ∙ q))
        go (no! q) = and_false_right (not y.full) (any (λ e. footer_fault_in p (get_or y.zones_by_holds e no_zone)) (present p 0))
            (none_of (λ e. footer_fault_in p (get_or y.zones_by_holds e no_zone))
            (ap (footer_fault_in p) (zone_by p u 0 g d hd)
            ∙ few (zone_at u d (zone_on g d)) (let a = rebuilt_open p v d lo g m q in let b = counted-low p gone x in omega arith))
            (λ e he pr. ap (footer_fault_in p) (zone_by p u 0 g e he ∙ kept_zone e (zone_on g e) he (low-at e he) pr ∙ sym (zone_by p v gone g e he))
            ∙ none_in (λ e. footer_fault_in p (get_or x.zones_by_holds e no_zone)) (present p gone) (were q) e (in_present p gone e he pr)))
          where
            were : x.full ≡ false → any (λ e. footer_fault_in p (get_or x.zones_by_holds e no_zone)) (present p gone) ≡ false
            were q = second (not x.full) (any (λ e. footer_fault_in p (get_or x.zones_by_holds e no_zone)) (present p gone)) (ap not q) (faults_apart p v gone acc g m).no_footer_fault
              where
                second : (a b : Bool) → a ≡ true → a && b ≡ false → b ≡ false
                second true b h k = k
                second false b h k = clash h refl

  -- a zone that two headers name is one segment's
  no_name_clash : (g : Seg) → In g (remaining p v gone) → name_clash p (segments p u 0) (segment_of p u 0 g) ≡ false
  unfolding name_clash segments drives_of
  no_name_clash g m = in_none test! (map (segment_of p u 0) (remaining p u 0))
      (λ k i. let (h, j, e) = map_in (segment_of p u 0) (remaining p u 0) k i in ap test! e ∙ apart h (remained h j))
    where
      test! : Segment → Bool
      test! k = not (same_seg k.seg (segment_of p u 0 g).seg) && any (λ e. eqb (get_or k.names e 0) (get_or (segment_of p u 0 g).names e 0)) (below p.N)

      apart : (h : Seg) → In h (remaining p v gone) → test! (segment_of p u 0 h) ≡ false
      apart h n = not_so (test! (segment_of p u 0 h)) (λ q.
          let a = same_seg (segment_of p u 0 h).seg (segment_of p u 0 g).seg in
          let f : ℕ → Bool = λ e. eqb (get_or (segment_of p u 0 h).names e 0) (get_or (segment_of p u 0 g).names e 0) in
          let (e, i, t) = any_in f (below p.N) (and_right (not a) (any f (below p.N)) q) in
          let he = below_in p.N e i in
          let z : zone_on h e ≡ zone_on g e = sym (name_now h n e he) ∙ eqb-true (get_or (segment_of p u 0 h).names e 0) (get_or (segment_of p u 0 g).names e 0) t ∙ name_now g m e he in
          let s : h ≡ g = zone_once p v gone acc (low-one p v d lo) h g e n m he z in
          clash (ap₂ same_seg (seg_is p u 0 h ∙ s) (seg_is p u 0 g) ∙ seg_self g) (not-true a (and_left (not a) (any f (below p.N)) q)))

  rebuilt_faultless : (g : Seg) → In g (remaining p v gone) → segment_fault p u 0 (segments p u 0) (segment_of p u 0 g) ≡ false
  unfolding segment_fault
  rebuilt_faultless g m =
      let y = segment_of p u 0 g in
      let f1 = header_fault p 0 y in
      let f2 = own_fault p 0 y in
      let f3 = bad_name p u y in
      let f4 = name_clash p (segments p u 0) y in
      let f5 = serial_twice p u 0 y in
      let f6 = serial_fault y in
      let f7 = stripe_fault p 0 y in
      let f8 = address_fault p 0 y in
      let f9 = footer_fault p 0 y in
      let f10 = clashes (segments p u 0) y in
      let q2 = or_neither f1 f2 (no_header_fault g m) (no_own_fault g m) in
      let q3 = or_neither (f1 || f2) f3 q2 (no_bad_name g m) in
      let q4 = or_neither (f1 || f2 || f3) f4 q3 (no_name_clash g m) in
      let q5 = or_neither (f1 || f2 || f3 || f4) f5 q4 (no_serial_twice g m) in
      let q6 = or_neither (f1 || f2 || f3 || f4 || f5) f6 q5 (no_serial_fault g m) in
      let q7 = or_neither (f1 || f2 || f3 || f4 || f5 || f6) f7 q6 (no_stripe_fault g m) in
      let q8 = or_neither (f1 || f2 || f3 || f4 || f5 || f6 || f7) f8 q7 (no_address_fault g m) in
      let q9 = or_neither (f1 || f2 || f3 || f4 || f5 || f6 || f7 || f8) f9 q8 (no_footer_fault g m) in
      or_neither (f1 || f2 || f3 || f4 || f5 || f6 || f7 || f8 || f9) f10 q9 (no_clash g m)

  -- nothing is wrong with none missing
  pub rebuilt_accepted : Accepted p u 0
  rebuilt_accepted = record { pointers_ok = no_pointer_fault; segments_ok = none! }
    where
      none! : segment_faults p u 0 (segments p u 0) ≡ []
      none! = unfold segment_faults in ap (map (λ (g : Segment). zone_on g.seg (low_drive p 0))) (keep_nothing (segment_fault p u 0 (segments p u 0)) (segments p u 0) (λ s i. each s i))
        where
          each : (s : Segment) → In s (segments p u 0) → segment_fault p u 0 (segments p u 0) s ≡ false
          each s i = go (members i)
            where
              members : In s (segments p u 0) → (g : Seg) × In g (remaining p u 0) × (s ≡ segment_of p u 0 g)
              members i = unfold segments in map_in (segment_of p u 0) (remaining p u 0) s i

              go : (g : Seg) × In g (remaining p u 0) × (s ≡ segment_of p u 0 g) → segment_fault p u 0 (segments p u 0) s ≡ false
              go (g, j, e) = ap (segment_fault p u 0 (segments p u 0)) e ∙ rebuilt_faultless g (remained g j)
