-- The unsealed segment that a healthy restart finds: at most one; its zones where all its stripes count, or 0 to c - 1 and nothing else.
use Rattle.std.specs.Prelude.{◌≡◌, refl, Bool, ◌&&◌, ◌||◌, ◌⊎◌, leb, ltb, eqb, get_or}
use Rattle.std.proofs.Math.Path.{sym, ap, subst}
use Rattle.std.proofs.Common.{◌∙◌, inl, inr}
use mathlib.Core.List.{List, [], ◌∷◌, map}
use Rattle.std.proofs.Math.Bool.{true, false, not}
use Prim.Native.Nat.{ℕ, suc, ◌+◌, ◌≤◌, ◌<◌}
use borrow.Author.Tests.{le-leb, ltb-true, eqb-true, eqb-false, not-true, not-false}
use native.Mathlib.Omega.{arith}
use Rattle.std.proofs.Math.ListN.{length, length-map}
use Rattle.spec.specs.declared.Params.{Params}
use Rattle.spec.specs.Drives.{View, zone_at, pointer_at, sealed_in, data_stored, record_in, zone_on}
use Rattle.spec.specs.Faults.{twice, clashes}
use Rattle.spec.specs.Layout.{group, in_group_of, Rec, mk_rec}
use Rattle.spec.specs.Lists.{below, any, cons_if, keep, is_nil, same_list}
use Rattle.spec.specs.Params.{present}
use Rattle.spec.specs.Restart.{is_whole, is_ragged}
use Rattle.spec.specs.Segments.{remaining, Segment, records_in, segment_of, segments, offset_on, has_chunk, counts, counted, uncounted, unsealed}
use Rattle.law_basic.specs.Geometry.{Ranged}
use Rattle.law_basic.specs.Mask.{is_in_empty}
use Rattle.law_basic.specs.Ranges.{Test, test, and_left, and_both, length-below, length-keep, same_list_true, nil_is}
use Rattle.law_basic.specs.Ranges.Test.{yes!, no! }
use Rattle.law_drives.specs.Accept.{Accepted, faults_apart, zone_stripes, in_groups}
use Rattle.law_drives.specs.Counting.{Different, different_few, holds-many, stripes_different}
use Rattle.law_drives.specs.Members.{In, in_map, map_in, in_keep, keep_in, in_any, in_below, below_in, in_get_d, get_d_in}
use Rattle.law_drives.specs.Rebuilding.{counted-low, counted_in}
use Rattle.law_drives.specs.Segs.{length_records, record_at_lem, seg_is, full_is, chunk_at_holds, has_chunk_holds, remaining_left}
use Rattle.law_drives.specs.Settled.{present-all, its_zone}
use Rattle.law_drives.specs.Spots.{counts_in}
use Rattle.law_drives.specs.Steady.{Steady}
use Rattle.law_drives.specs.Tests.{clash, or_first, or_right}
use Rattle.law_drives.specs.Tidy.{spare_at, There}
use Rattle.law_drives.specs.Zones.{Shaped}
use Rattle.spec.specs.declared.Seg.{Seg}
use Rattle.law_drives.specs.Headers.{empty_unused}

-- all are kept
pub keep_full : {A : Type 0} (f : A → Bool) (l : List A) → length (keep f l) ≡ length l → (a : A) → In a l → f a ≡ true
keep_full {A} f l e a m = go (test (f a))
  where
    go : Test (f a) → f a ≡ true
    go (yes! q) = q
    go (no! q) = absurd (fewer! l a m q e)
      where
        fewer! : (l : List A) (a : A) → In a l → f a ≡ false → length (keep f l) ≡ length l → ⊥
        fewer! [] a m q e = m
        fewer! (b ∷ l) a m q e = two (test (f b)) m (fewer! l a)
          where
            kept : f b ≡ true → length (keep f (b ∷ l)) ≡ suc (length (keep f l))
            kept t = unfold keep cons_if in rw t

            lost : f b ≡ false → length (keep f (b ∷ l)) ≡ length (keep f l)
            lost t = unfold keep cons_if in rw t

            two : Test (f b) → (a ≡ b) ⊎ In a l → (In a l → f a ≡ false → length (keep f l) ≡ length l → ⊥) → ⊥
            two (yes! t) (inl x) ih = clash t (ap f (sym x) ∙ q)
            two (yes! t) (inr x) ih = ih x q (let k = kept t in let z : length (keep f l) ≡ length l = omega arith in z)
            two (no! t) x ih = let k = lost t in let w = length-keep f l in let bad : ⊥ = omega arith in bad

-- which are unsealed: none, or one
pub data Loose (p : Params) (v : View) : Type 0 where
  loose_none : unsealed (segments p v 0) ≡ [] → ((y : Seg) → In y (remaining p v 0) → sealed_in p v 0 y ≡ true) → Loose p v
  loose-one :
      (g : Seg)
      → In g (remaining p v 0)
      → sealed_in p v 0 g ≡ false
      → unsealed (segments p v 0) ≡ segment_of p v 0 g ∷ []
      → ((y : Seg) → In y (remaining p v 0) → (y ≡ g → ⊥) → sealed_in p v 0 y ≡ true)
      → Loose p v

module _ (p : Params) (r : Ranged p) (v : View) (sh : Shaped p v) (acc : Accepted p v 0) where
  abbrev gs : List Segment
  gs = segments p v 0

  in_unsealed : (y : Seg) → In y (remaining p v 0) → sealed_in p v 0 y ≡ false → In (segment_of p v 0 y) (unsealed gs)
  in_unsealed y q ns =
      as! (in_keep (λ (g : Segment). not g.full) (map (segment_of p v 0) (remaining p v 0)) (segment_of p v 0 y)
      (in_map (segment_of p v 0) (remaining p v 0) y q) (ap not (full_is p v 0 y ∙ ns)))
    where
      as! : In (segment_of p v 0 y) (keep (λ (g : Segment). not g.full) (map (segment_of p v 0) (remaining p v 0))) → In (segment_of p v 0 y) (unsealed gs)
      as! m = unfold unsealed segments in m

  unsealed_in : (x : Segment) → In x (unsealed gs) → (g : Seg) × In g (remaining p v 0) × (sealed_in p v 0 g ≡ false) × (x ≡ segment_of p v 0 g)
  unsealed_in x m =
      let (i, q) = keep_in (λ (g : Segment). not g.full) (map (segment_of p v 0) (remaining p v 0)) x (as! m) in
      let (g, j, e) = map_in (segment_of p v 0) (remaining p v 0) x i in
      (g, j, sym (full_is p v 0 g) ∙ ap (λ (y : Segment). y.full) (sym e) ∙ not-true x.full q, e)
    where
      as! : In x (unsealed gs) → In x (keep (λ (g : Segment). not g.full) (map (segment_of p v 0) (remaining p v 0)))
      as! m = unfold unsealed segments in m

  segment_injective : (y g : Seg) → segment_of p v 0 y ≡ segment_of p v 0 g → y ≡ g
  segment_injective y g e = sym (seg_is p v 0 y) ∙ ap (λ (x : Segment). x.seg) e ∙ seg_is p v 0 g

  pub loose : Loose p v
  loose = go (unsealed gs) refl
    where
      go : (us : List Segment) → unsealed gs ≡ us → Loose p v
      go [] e = loose_none e (λ y q. not_false! (sealed_in p v 0 y) (λ ns. subst (λ (l : List Segment). In (segment_of p v 0 y) l) e (in_unsealed y q ns)))
        where
          not_false! : (b : Bool) → (b ≡ false → ⊥) → b ≡ true
          not_false! true f = refl
          not_false! false f = absurd (f refl)
      go (x ∷ []) e =
          let (g, k, ns, f) = unsealed_in x (subst (λ (l : List Segment). In x l) (sym e) (inl refl)) in
          loose-one g k ns (e ∙ ap (λ (y : Segment). y ∷ []) f) (others g f)
        where
          not_false! : (b : Bool) → (b ≡ false → ⊥) → b ≡ true
          not_false! true f = refl
          not_false! false f = absurd (f refl)

          others : (g : Seg) → x ≡ segment_of p v 0 g → (y : Seg) → In y (remaining p v 0) → (y ≡ g → ⊥) → sealed_in p v 0 y ≡ true
          others g f y q n = not_false! (sealed_in p v 0 y) (λ ns. one (subst (λ (l : List Segment). In (segment_of p v 0 y) l) e (in_unsealed y q ns)))
            where
              one : (segment_of p v 0 y ≡ x) ⊎ ⊥ → ⊥
              one (inl w) = n (segment_injective y g (w ∙ f))
              one (inr w) = w
      go (x ∷ (x2 ∷ us)) e =
          let (g, k, ns, f) = unsealed_in x (subst (λ (l : List Segment). In x l) (sym e) (inl refl)) in
          clash (both g ns) (faults_apart p v 0 acc g k).no_clash
        where
          both : (g : Seg) → sealed_in p v 0 g ≡ false → clashes gs (segment_of p v 0 g) ≡ true
          both g ns =
              unfold clashes in and_both (not (segment_of p v 0 g).full) (leb 2 (length (unsealed gs))) (ap not (full_is p v 0 g ∙ ns))
              (le-leb 2 (length (unsealed gs))
              (subst (λ (l : List Segment). 2 ≤ length l) (sym e) (let z : 2 ≤ suc (suc (length us)) = omega arith in z)))

  -- ---- the zones of an unsealed segment

  module _ (g : Seg) (ing : In g (remaining p v 0)) (ng : sealed_in p v 0 g ≡ false) where
    abbrev x : Segment
    x = segment_of p v 0 g

    abbrev c : ℕ
    c = length (counted p 0 x)

    abbrev rs : ℕ → List Rec
    rs d = records_in p false (zone_at v d (zone_on g d))

    by_spare : (d o : ℕ) → record_in p (sealed_in p v 0 g) (zone_at v d (zone_on g d)) o ≡ spare_at p v d (zone_on g d) o
    by_spare d o = ap (λ (w : Bool). record_in p w (zone_at v d (zone_on g d)) o) ng

    numbers : ℕ → List ℕ
    numbers d = map (λ (y : Rec). y.stripe) (rs d)

    numbers_long : (d : ℕ) → length (numbers d) ≡ data_stored p (zone_at v d (zone_on g d))
    unfolding numbers
    numbers_long d = length-map (rs d) (λ (y : Rec). y.stripe) ∙ length_records p false (zone_at v d (zone_on g d))

    has_number : (d s : ℕ) → d < p.N → has_chunk x s d ≡ true → In s (numbers d)
    unfolding numbers
    has_number d s hd q =
        let k = chunk_at_holds p v 0 g d s hd (is_in_empty d) q in
        let o = offset_on x d s in
        let l : o < length (rs d) = subst (λ (n : ℕ). o < n) (sym (length_records p false (zone_at v d (zone_on g d)))) k.stored_there in
        subst (λ (n : ℕ). In n (map (λ (y : Rec). y.stripe) (rs d)))
        (ap (λ (y : Rec). y.stripe) (record_at_lem p false (zone_at v d (zone_on g d)) o (mk_rec 0 0 0) k.stored_there ∙ sym (by_spare d o)) ∙ k.its_stripe)
        (in_map (λ (y : Rec). y.stripe) (rs d) (get_or (rs d) o (mk_rec 0 0 0)) (in_get_d (rs d) o (mk_rec 0 0 0) l))

    number_has : (d s : ℕ) → d < p.N → In s (numbers d) → (has_chunk x s d ≡ true) × (s < p.S)
    unfolding numbers
    number_has d s hd m =
        let (y, i, e) = map_in (λ (y : Rec). y.stripe) (rs d) s m in
        let (o, l, f) = get_d_in (rs d) (mk_rec 0 0 0) y i in
        let l2 : o < data_stored p (zone_at v d (zone_on g d)) = subst (λ (n : ℕ). o < n) (length_records p false (zone_at v d (zone_on g d))) l in
        let w : (record_in p (sealed_in p v 0 g) (zone_at v d (zone_on g d)) o).stripe ≡ s = ap (λ (a : Rec). a.stripe)
        (by_spare d o ∙ sym (record_at_lem p false (zone_at v d (zone_on g d)) o (mk_rec 0 0 0) l2) ∙ sym f) ∙ sym e in
        (has_chunk_holds p v 0 g d s o hd (is_in_empty d) l2 w, low o s (subst (λ (n : ℕ). in_group_of p o n ≡ true) w (in_groups p v 0 acc g d o ing hd (is_in_empty d) l2)))
      where
        low : (o s : ℕ) → in_group_of p o s ≡ true → s < p.S
        low o s q = unfold in_group_of in ltb-true s p.S (and_left (ltb s p.S) (eqb (group p s) (group p o)) q)

    numbers_differ : (d : ℕ) → d < p.N → Different (numbers d)
    unfolding numbers
    numbers_differ d hd = stripes_different (rs d) (ap twice (ap (λ (w : Bool). records_in p w (zone_at v d (zone_on g d))) (sym ng)) ∙ (zone_stripes p v 0 acc g d ing hd (is_in_empty d)).1)

    in_counted : (s : ℕ) → s < p.S → counts p 0 x s ≡ true → In s (counted p 0 x)
    in_counted s h q = as! (in_keep (counts p 0 x) (below p.S) s (in_below p.S s h) q)
      where
        as! : In s (keep (counts p 0 x) (below p.S)) → In s (counted p 0 x)
        as! m = unfold counted in m

    -- all stripes count: every zone has its S chunks
    pub whole_pointer : is_whole p x ≡ true → (d : ℕ) → d < p.N → 1 + p.S ≤ pointer_at v d (zone_on g d)
    whole_pointer q d hd = as! (holds-many p.S (numbers d) (λ s h. has_number d s hd (counts_in p 0 x s d (all! s h) hd (is_in_empty d))))
      where
        all! : (s : ℕ) → s < p.S → counts p 0 x s ≡ true
        all! s h = keep_full (counts p 0 x) (below p.S) (full! q ∙ sym (length-below p.S)) s (in_below p.S s h)
          where
            full! : is_whole p x ≡ true → length (keep (counts p 0 x) (below p.S)) ≡ p.S
            full! q = unfold is_whole counted in eqb-true (length (keep (counts p 0 x) (below p.S))) p.S q

        as! : p.S ≤ length (numbers d) → 1 + p.S ≤ pointer_at v d (zone_on g d)
        as! l = bs! (subst (λ (n : ℕ). p.S ≤ n) (numbers_long d) l)
          where
            bs! : p.S ≤ data_stored p (zone_at v d (zone_on g d)) → 1 + p.S ≤ pointer_at v d (zone_on g d)
            bs! l = unfold data_stored pointer_at in (let s = r.stripes_low in omega arith)

    -- its stripes are 0 to c - 1, and nothing else is there
    module _ (nw : is_whole p x ≡ false) (nr : is_ragged p x ≡ false) where
      few! : c < p.S
      few! = let a = counted-low p 0 x in let b = neq nw in omega arith
        where
          neq : is_whole p x ≡ false → ¬ (c ≡ p.S)
          neq q = unfold is_whole in eqb-false (length (counted p 0 x)) p.S q

      parts! : (same_list (counted p 0 x) (below c) ≡ true) × (is_nil (uncounted p 0 x) ≡ true)
      parts! =
          let a = not (same_list (counted p 0 x) (below c)) in
          let b = not (is_nil (uncounted p 0 x)) in
          let q : a || b ≡ false = sym (ap (λ (w : Bool). not w && (a || b)) nw) ∙ ragged! in
          (not-false (same_list (counted p 0 x) (below c)) (or_first a b q), not-false (is_nil (uncounted p 0 x)) (or_right a b q))
        where
          ragged! : not (is_whole p x) && (not (same_list (counted p 0 x) (below c)) || not (is_nil (uncounted p 0 x))) ≡ false
          ragged! = as! nr
            where
              as! : is_ragged p x ≡ false → not (is_whole p x) && (not (same_list (counted p 0 x) (below c)) || not (is_nil (uncounted p 0 x))) ≡ false
              as! q = unfold is_ragged in q

      first_ones : counted p 0 x ≡ below c
      first_ones = same_list_true (counted p 0 x) (below c) parts!.0

      -- a chunk's stripe counts
      chunk_counts : (d s : ℕ) → d < p.N → has_chunk x s d ≡ true → s < p.S → s < c
      chunk_counts d s hd q h = go (test (counts p 0 x s))
        where
          nil! : uncounted p 0 x ≡ []
          nil! = nil_is (uncounted p 0 x) parts!.1

          go : Test (counts p 0 x s) → s < c
          go (yes! t) = below_in c s (subst (λ (l : List ℕ). In s l) first_ones (in_counted s h t))
          go (no! t) = absurd (subst (λ (l : List ℕ). In s l) nil! (as! (in_keep (λ s. any (has_chunk x s) (present p 0) && not (counts p 0 x s)) (below p.S) s (in_below p.S s h)
              (and_both (any (has_chunk x s) (present p 0)) (not (counts p 0 x s)) (in_any (has_chunk x s) (present p 0) d (present-all p d hd) q) (ap not t)))))
            where
              as! : In s (keep (λ s. any (has_chunk x s) (present p 0) && not (counts p 0 x s)) (below p.S)) → In s (uncounted p 0 x)
              as! m = unfold uncounted in m

      stored_are : (d : ℕ) → d < p.N → data_stored p (zone_at v d (zone_on g d)) ≡ c
      stored_are d hd =
          let a : length (numbers d) ≤ c = different_few c (numbers d) (numbers_differ d hd) (λ s m. let (q, h) = number_has d s hd m in chunk_counts d s hd q h) in
          let b : c ≤ length (numbers d) =
          holds-many c (numbers d) (λ s h. has_number d s hd
          (counts_in p 0 x s d (counted_in p 0 x s (subst (λ (l : List ℕ). In s l) (sym first_ones) (in_below c s h))).1 hd (is_in_empty d))) in
          let e = numbers_long d in
          omega arith

      tidy_pointer : (d : ℕ) → d < p.N → (pointer_at v d (zone_on g d) ≡ 0 → ⊥) → pointer_at v d (zone_on g d) ≡ 1 + c
      tidy_pointer d hd n = as! (stored_are d hd) n
        where
          as! : data_stored p (zone_at v d (zone_on g d)) ≡ c → (pointer_at v d (zone_on g d) ≡ 0 → ⊥) → pointer_at v d (zone_on g d) ≡ 1 + c
          as! e n = unfold data_stored pointer_at in (let f = few! in let m : ¬ ((zone_at v d (zone_on g d)).pointer ≡ 0) = n in omega arith)

      pub tidy_steady : Steady p v g c
      tidy_steady = record {
        steady_low = there;
        steady_few = few!;
        steady_pointer = λ d hd. tidy_pointer d hd (λ e. clash (its_zone p r v g there d hd).used (empty_unused p v d (zone_on g d) e));
        steady_stripes = λ d o hd h.
            let l : o < data_stored p (zone_at v d (zone_on g d)) = subst (λ (k : ℕ). o < k) (sym (stored_are d hd)) h in
            let s = (spare_at p v d (zone_on g d) o).stripe in
            let q = has_chunk_holds p v 0 g d s o hd (is_in_empty d) l (ap (λ (a : Rec). a.stripe) (by_spare d o)) in
            chunk_counts d s hd q (low o s (subst (λ (a : Rec). in_group_of p o a.stripe ≡ true) (by_spare d o) (in_groups p v 0 acc g d o ing hd (is_in_empty d) l)));
        steady_count = refl;
      }
        where
          there : There p v g
          there = remaining_left p v 0 g ing

          low : (o s : ℕ) → in_group_of p o s ≡ true → s < p.S
          low o s q = unfold in_group_of in ltb-true s p.S (and_left (ltb s p.S) (eqb (group p s) (group p o)) q)
