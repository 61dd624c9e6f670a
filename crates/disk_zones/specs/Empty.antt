-- Scans of the write pointers and the list: good zones, empty ones, the new segment, sealed segments (01, Refusals, 8; Restart, 3; 02, item 4). Assumes nothing.
use Rattle.std.specs.Prelude.{◌≡◌, refl, Bool, true, false, ◌&&◌, ◌||◌, ℕ, zero, suc, ◌+◌, ◌-◌, ◌*◌, ◌≤◌, ◌<◌, min, get_or}
use Rattle.std.proofs.Math.Path.{sym, ap}
use Rattle.std.proofs.Common.{◌∙◌, subst, add-one, arith, eqb-true}
use mathlib.Core.List.{List, [], ◌∷◌, map}
use Rattle.std.proofs.Math.Decide.{dec_le}
use Rattle.std.proofs.Math.ListN.{length}
use Rattle.std.proofs.Math.Dec.{eqb}
use Rattle.std.proofs.Math.Arith.{lt_of_le-ne}
use Rattle.std.proofs.lemmas.Bool.{eqb-false}
use Rattle.spec.specs.Drives.{view_of, mk_disk, pointer_of, is_good, good_zones, empty_zones, empty_count, new_seg, seg_with, zone_on, sealed_in}
use Rattle.spec.specs.Lists.{up_from, below, all, cons_if, keep, tally, least, first_or, is_in}
use Rattle.spec.specs.Params.{capacity, image_len, pointers_len, drives_of, present}
use Rattle.spec.specs.declared.Params.{Params}
use Rattle.law_basic.specs.Ranges.{Test, test, and_left, and_right, up_from_step, up_from_end, below-start, map-below_same, first_passes, all_keep, tally-below_hit, tally-below_miss, least-le}
use Rattle.law_basic.specs.Ranges.Test.{yes!, no! }
use Rattle.law_basic.specs.Segs.{ZonesLow, with_zone, with_same}
use Rattle.law_views.specs.Views.{sealed_view, empty_zones_view}
use Rattle.spec.specs.declared.Seg.{Seg}

-- a zone is good and empty, by the pointers' bytes and the list
unfoldable pub free_by : Params → List ℕ → List ℕ → ℕ → ℕ → Bool
free_by p ptrs off d z = is_good p off d z && eqb (pointer_of p ptrs d z) 0

-- the same of a byte of the list, behind the first of its drive
unfoldable pub zero_at : List ℕ → ℕ → ℕ → Bool
zero_at off first z = eqb (get_or off (first + z) 0) 0

pub zero_good : (p : Params) (off : List ℕ) (d first : ℕ) → first ≡ d * p.Z + 0 → zero_at off first ≡ is_good p off d
unfolding zero_at is_good
zero_good p off d first e = let q : first ≡ d * p.Z = omega arith in λ j. λ z. eqb (get_or off (q j + z) 0) 0

-- two tests, one after the other
pub keep_both : (f g : ℕ → Bool) (l : List ℕ) → keep f (keep g l) ≡ keep (λ z. g z && f z) l
unfolding keep cons_if
keep_both f g [] = refl
keep_both f g (a ∷ l) = go (g a) (keep_both f g l)
  where
    go : (b : Bool) → keep f (keep g l) ≡ keep (λ z. g z && f z) l → keep f (cons_if b a (keep g l)) ≡ cons_if (b && f a) a (keep (λ z. g z && f z) l)
    go true e = ap (cons_if (f a) a) e
    go false e = e

module _ (p : Params) (off im ptrs : List ℕ) (h : length im ≡ image_len p) (k : length ptrs ≡ pointers_len p) where
  -- the empty good zones of a drive
  pub free_zones_holds : (d : ℕ) → d < p.N → empty_zones p (view_of p off im ptrs) d ≡ keep (free_by p ptrs off d) (below p.Z)
  unfolding free_by good_zones
  free_zones_holds d hd =
      empty_zones_view p off (mk_disk im ptrs) d hd (record { image_long = h; pointers_long = k })
      ∙ keep_both (λ z. eqb (pointer_of p ptrs d z) 0) (is_good p off d) (below p.Z)

  -- the fewest on any drive
  pub empty_count_holds : empty_count p (view_of p off im ptrs) ≡ least p.Z (map (λ d. tally (free_by p ptrs off d) (below p.Z)) (below p.N))
  unfolding empty_count drives_of tally
  empty_count_holds =
      ap (least p.Z) (map-below_same (λ d. length (empty_zones p (view_of p off im ptrs) d)) (λ d. length (keep (free_by p ptrs off d) (below p.Z))) p.N
      (λ d hd. ap (λ (l : List ℕ). length l) (free_zones_holds d hd)))

  -- each drive's lowest
  pub new_seg_holds : new_seg p (view_of p off im ptrs) ≡ seg_with p (λ d. first_or 0 (keep (free_by p ptrs off d) (below p.Z)))
  unfolding new_seg
  new_seg_holds =
      with_same p (λ d. first_or 0 (empty_zones p (view_of p off im ptrs) d)) (λ d. first_or 0 (keep (free_by p ptrs off d) (below p.Z))) (λ d hd. ap (first_or 0) (free_zones_holds d hd))

  pub new_zone : (d : ℕ) → d < p.N → zone_on (new_seg p (view_of p off im ptrs)) d ≡ first_or 0 (keep (free_by p ptrs off d) (below p.Z))
  new_zone d hd = ap (λ (g : Seg). zone_on g d) new_seg_holds ∙ with_zone p (λ e. first_or 0 (keep (free_by p ptrs off e) (below p.Z))) d hd

-- ---- good zones, so many at a time

-- the first n are no more than the first m
pub tally_grows : (f : ℕ → Bool) (n m : ℕ) → n ≤ m → tally f (below n) ≤ tally f (below m)
tally_grows f n zero h = let e : n ≡ 0 = omega arith in subst (λ (k : ℕ). tally f (below k) ≤ tally f (below 0)) (sym e) (omega arith)
tally_grows f n (suc m) h = go (dec_le n m) (tally_grows f n m)
  where
    s : suc m ≡ m + 1
    s = sym (add-one m)

    one : Test (f m) → tally f (below m) ≤ tally f (below (m + 1))
    one (yes! q) = omega (arith, tally-below_hit f m q)
    one (no! q) = omega (arith, tally-below_miss f m q)

    go : Dec (n ≤ m) → (n ≤ m → tally f (below n) ≤ tally f (below m)) → tally f (below n) ≤ tally f (below (suc m))
    go (yes l) ih = subst (λ (k : ℕ). tally f (below n) ≤ tally f (below k)) (sym s) (omega (arith, ih l, one (test (f m))))
    go (no l) ih = let e : n ≡ suc m = omega arith in subst (λ (k : ℕ). tally f (below k) ≤ tally f (below (suc m))) (sym e) (omega arith)

-- ---- the fewest on any drive, drive after drive

pub min_least : (a b : ℕ) (l : List ℕ) → min a (least b l) ≡ least (min a b) l
unfolding least
min_least a b [] = refl
min_least a b (k ∷ l) = min_least a (min b k) l ∙ ap (λ (n : ℕ). least n l) (let e : min a (min b k) ≡ min (min a b) k = omega arith in e)

module _ (f : ℕ → ℕ) (n : ℕ) where
  pub least_start : (b : ℕ) → least b (map f (up_from 0 (n - 0))) ≡ least b (map f (below n))
  least_start b = ap (λ (l : List ℕ). least b (map f l)) (sym (below-start n))

  pub empty_least_turn : (b d : ℕ) → d < n → least (min b (f d)) (map f (up_from (d + 1) (n - (d + 1)))) ≡ least b (map f (up_from d (n - d)))
  unfolding least
  empty_least_turn b d h = sym (ap (λ (l : List ℕ). least b (map f l)) (up_from_step d n h))

  pub least_end : (b d : ℕ) → n ≤ d → least b (map f (up_from d (n - d))) ≡ b
  unfolding least
  least_end b d h = ap (λ (l : List ℕ). least b (map f l)) (up_from_end d n h)

-- it is no more than any of them
pub least_under : (f : ℕ → ℕ) (b i m d : ℕ) → i ≤ d → d < i + m → least b (map f (up_from i m)) ≤ f d
unfolding least up_from
least_under f b i zero d x y = absurd (let q : ⊥ = omega arith in q)
least_under f b i (suc m) d x y = go (test (eqb i d)) (λ l. least_under f (min b (f i)) (suc i) m d l (omega arith))
  where
    go : Test (eqb i d) → (suc i ≤ d → least (min b (f i)) (map f (up_from (suc i) m)) ≤ f d) → least (min b (f i)) (map f (up_from (suc i) m)) ≤ f d
    go (yes! q) ih =
        let e : f i ≡ f d = ap f (eqb-true i d q) in
        let l : least (min b (f i)) (map f (up_from (suc i) m)) ≤ min b (f i) = least-le (min b (f i)) (map f (up_from (suc i) m)) in
        omega arith
    go (no! q) ih = ih (lt_of_le-ne x (eqb-false i d q))

-- ---- where each drive has an empty good zone, the new segment's zones are such

pub new_free : (p : Params) (off im ptrs : List ℕ) → length im ≡ image_len p → length ptrs ≡ pointers_len p → 0 < empty_count p (view_of p off im ptrs) → (d : ℕ) → d < p.N
    → (zone_on (new_seg p (view_of p off im ptrs)) d < p.Z) × (is_good p off d (zone_on (new_seg p (view_of p off im ptrs)) d) ≡ true)
    × (pointer_of p ptrs d (zone_on (new_seg p (view_of p off im ptrs)) d) ≡ 0)
unfolding free_by tally below
new_free p off im ptrs h k l d hd =
    let f : ℕ → Bool = free_by p ptrs off d in
    let c : ℕ = least p.Z (map (λ e. tally (free_by p ptrs off e) (below p.Z)) (below p.N)) in
    let m : c ≤ tally f (below p.Z) = least_under (λ e. tally (free_by p ptrs off e) (below p.Z)) p.Z 0 p.N d (omega arith) (omega arith) in
    let q = first_passes f 0 p.Z (let x : 0 < c = subst (λ (n : ℕ). 0 < n) (empty_count_holds p off im ptrs h k) l in omega arith) in
    let z : ℕ = first_or 0 (keep f (below p.Z)) in
    subst (λ (n : ℕ). (n < p.Z) × (is_good p off d n ≡ true) × (pointer_of p ptrs d n ≡ 0)) (sym (new_zone p off im ptrs h k d hd)) (
      (omega (arith, q.1)),
      and_left (is_good p off d z) (eqb (pointer_of p ptrs d z) 0) q.0,
      eqb-true (pointer_of p ptrs d z) 0 (and_right (is_good p off d z) (eqb (pointer_of p ptrs d z) 0) q.0),
    )

-- ---- sealed segments, by the pointers' bytes

pub sealed-list : (p : Params) (off im ptrs : List ℕ) (gone : ℕ) (g : Seg) → ZonesLow p gone g → length im ≡ image_len p → length ptrs ≡ pointers_len p
    → sealed_in p (view_of p off im ptrs) gone g ≡ all (λ d. is_in gone d || eqb (pointer_of p ptrs d (zone_on g d)) (capacity p)) (below p.N)
unfolding present drives_of
sealed-list p off im ptrs gone g hg h k =
    sealed_view p off (mk_disk im ptrs) gone g hg (record { image_long = h; pointers_long = k })
    ∙ all_keep (λ d. eqb (pointer_of p ptrs d (zone_on g d)) (capacity p)) (is_in gone) (below p.N)
