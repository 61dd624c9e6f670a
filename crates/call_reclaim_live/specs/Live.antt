-- Live blocks by ascending place, and their count by the number of their segment (01, Reclaim; 02, item 4). Assumes nothing.
use Prim.Native.Nat.{ℕ, zero, suc, ◌+◌, ◌-◌, ◌*◌, ◌/◌, ◌%◌, ◌^◌, min, ◌≤◌, ◌<◌}
use Rattle.spec.specs.Counts.{never_place}
use Rattle.spec.specs.History.{step}
use Rattle.spec.specs.Lists.{up_from, below, is_member_of, cons_if, keep, flat}
use Rattle.spec.specs.Memory.{place_at_of}
use Rattle.spec.specs.Params.{capacity, place_of, place_zone, place_drive, drives_of}
use Rattle.spec.specs.Reclaim.{places_in, segment_places, live_in}
use Rattle.spec.specs.declared.Params.{Params}
use Rattle.law_basic.specs.Geometry.{prod_le, Ranged, capacity-low, capacity_high, zones_all}
use Rattle.law_basic.specs.Ranges.{Test, test, up_from_add, below_none, length-below, any_same, keep_append, keep_none, keep_up_from_same, keep-below_same, length-keep, flat_none}
use Rattle.law_basic.specs.Ranges.{flat-below-snoc, keep-below-snoc, any-map, below_split}
use Rattle.law_basic.specs.Ranges.Test.{yes!, no! }
use Rattle.mem_marks.specs.Marks.{is_marked, is_pointed, Marks, shifted}
use Rattle.law_scans.specs.Scans.{any-keep}
use borrow.Author.Tests.{eq-eqb, ne_eqb, eqb-true, eqb-false}
use Rattle.std.proofs.Math.Arith.{digits_div, digits_mod}
use Rattle.std.proofs.Math.Dec.{eqb}
use Rattle.std.proofs.Math.ListN.{length}
use Rattle.std.specs.Prelude.{get_or, set, true, false, not, ◌&&◌, ◌≡◌, refl}
use Rattle.std.proofs.Common.{length-append, get_or-set_same, get_or-set_other, ◌∙◌, subst, mod-lt, add-zero, suc-mul, zero-mul, one-mul, le-div_iff_mul-le, div-lt_iff_lt-mul, add-one}
use Rattle.std.proofs.Math.Bool.{Bool, and-false}
use mathlib.Core.List.{List, [], ◌∷◌, ◌++◌, map, append-nil}
use Rattle.std.proofs.Math.Path.{sym, ap, ap₂}
use Rattle.std.proofs.Math.Decide.{dec_lt}
use Rattle.std.proofs.Math.Nat.{add-mul, div-add-mod'}
use native.Mathlib.Omega.{arith}
use Rattle.spec.specs.Drives.{zone_on}
use Rattle.spec.specs.declared.Seg.{Seg}
use Rattle.law_basic.specs.Segs.{ZonesLow, low_here}
use Rattle.call_reclaim_live.specs.Owners.{Owns}

-- 02, item 4: q lies in a zone of segment h
unfoldable pub in_seg : Params → Seg → ℕ → Bool
in_seg p h q = eqb (place_zone p q) (zone_on h (place_drive p q))

-- 02, item 4: the table by zone has number g for the zone of q
unfoldable pub numbered : Params → List ℕ → ℕ → ℕ → Bool
numbered p ss g q = eqb (get_or ss (q / capacity p) 0) g

-- 01, Reclaim: q passes f and is a live block
unfoldable pub is_live_in : Params → List ℕ → (ℕ → Bool) → ℕ → Bool
is_live_in p tb f q = f q && is_pointed tb p.L q

-- 01, Reclaim: the live blocks below place n that pass f
unfoldable pub live_below : Params → List ℕ → (ℕ → Bool) → ℕ → List ℕ
live_below p tb f n = keep (is_live_in p tb f) (below n)

-- the live blocks below place n are counted by the number of their zone
abbrev pub LiveCounted : Params → List ℕ → List ℕ → List ℕ → ℕ → Type 0
LiveCounted p ss tb live n = (g : ℕ) → g ≤ 1024 → get_or live g 0 ≡ length (live_below p tb (numbered p ss g) n)

-- ---- ranges of which all or none pass

pub keep_range : (f : ℕ → Bool) (i n : ℕ) → ((k : ℕ) → i ≤ k → k < i + n → f k ≡ true) → keep f (up_from i n) ≡ up_from i n
unfolding keep up_from cons_if
keep_range f i zero h = refl
keep_range f i (suc n) h = ap₂ (λ (x : Bool) (y : List ℕ). cons_if x i y) (h i (omega arith) (omega arith)) (keep_range f (suc i) n (λ k a b. h k (omega arith) (omega arith)))

pub keep_nobody : (f : ℕ → Bool) (i n : ℕ) → ((k : ℕ) → i ≤ k → k < i + n → f k ≡ false) → keep f (up_from i n) ≡ []
unfolding keep up_from cons_if
keep_nobody f i zero h = refl
keep_nobody f i (suc n) h = ap₂ (λ (x : Bool) (y : List ℕ). cons_if x i y) (h i (omega arith) (omega arith)) (keep_nobody f (suc i) n (λ k a b. h k (omega arith) (omega arith)))

pub keep-twice : {A : Type 0} (f g : A → Bool) (l : List A) → keep g (keep f l) ≡ keep (λ (a : A). f a && g a) l
unfolding keep cons_if
keep-twice f g [] = refl
keep-twice {A} f g (a ∷ l) = go (f a) (keep-twice f g l)
  where
    go : (b : Bool) → keep g (keep f l) ≡ keep (λ (x : A). f x && g x) l → keep g (cons_if b a (keep f l)) ≡ cons_if (b && g a) a (keep (λ (x : A). f x && g x) l)
    go true e = ap (cons_if (g a) a) e
    go false e = e

map_up_from : (f : ℕ → ℕ) (x i n : ℕ) → ((k : ℕ) → f k ≡ x + k) → map f (up_from i n) ≡ up_from (x + i) n
unfolding up_from
map_up_from f x i zero h = refl
map_up_from f x i (suc n) h =
    let e : x + suc i ≡ suc (x + i) = omega arith in
    ap₂ ◌∷◌ (h i) (map_up_from f x (suc i) n h ∙ ap (λ (k : ℕ). up_from k n) e)

-- ---- a segment's places, by drive and then offset, are those of its zones in rising order

module _ (p : Params) (r : Ranged p) where
  abbrev C : ℕ
  C = capacity p

  -- a place in zone t of all
  pub live_zone_at : (t q : ℕ) → t * C ≤ q → q < t * C + C → q / C ≡ t
  live_zone_at t q low high =
      let b : ℕ = q - t * C in
      let l : b < C = omega arith in
      let e : q ≡ t * C + b = omega arith in
      ap (λ (x : ℕ). x / C) e ∙ digits_div t l

  zone_of_holds : (t q : ℕ) → t * C ≤ q → q < t * C + C → place_zone p q ≡ t % p.Z
  unfolding place_zone
  zone_of_holds t q low high = ap (λ (x : ℕ). x % p.Z) (live_zone_at t q low high)

  -- a place of the image lies in one of the zones, on one of the drives
  pub zone_number_low : (q : ℕ) → q < p.N * p.Z * C → q / C < p.N * p.Z
  zone_number_low q h = (div-lt_iff_lt-mul {k = C} {x = q} {y = p.N * p.Z} (omega (arith, capacity-low p r))).1 h

  pub drive_low : (q : ℕ) → q < p.N * p.Z * C → place_drive p q < p.N
  unfolding place_drive
  drive_low q h = (div-lt_iff_lt-mul {k = p.Z} {x = q / C} {y = p.N} (omega (arith, r.zones_low))).1 (zone_number_low q h)

  pub places_high : p.N * p.Z * C ≤ 715825152
  places_high = prod_le (p.N * p.Z) C 8192 87381 715825152 (zones_all p r) (capacity_high p r) (omega arith)

  -- zones t and t + 1 begin
  pub live_zone_begins : (t : ℕ) → (t + 1) * C ≡ t * C + C
  live_zone_begins t = add-mul t 1 C ∙ ap (λ (x : ℕ). t * C + x) (one-mul C)

  pub zone_within : (t : ℕ) → t * C < p.N * p.Z * C → t < p.N * p.Z
  zone_within t h = subst (λ (x : ℕ). x < p.N * p.Z) (live_zone_at t (t * C) (omega arith) (omega (arith, capacity-low p r))) (zone_number_low (t * C) h)

  -- zones i, i + 1, ..: n of them, none of number g on its drive
  no_zone_holds : (g i n q : ℕ) → ((t : ℕ) → i ≤ t → t < i + n → eqb (t % p.Z) g ≡ false) → i * C ≤ q → q < i * C + n * C → eqb (place_zone p q) g ≡ false
  unfolding place_zone
  no_zone_holds g i n q h low high =
      let k : 0 < C = omega (arith, capacity-low p r) in
      let e : (i + n) * C ≡ i * C + n * C = add-mul i n C in
      h (q / C) ((le-div_iff_mul-le k).1 low) ((div-lt_iff_lt-mul k).1 (omega arith))

  -- the places of zone g of a drive
  places_more : (g d : ℕ) → g < p.Z → keep (λ q. eqb (place_zone p q) g) (up_from (d * p.Z * C) (p.Z * C)) ≡ map (place_of p d g) (below C)
  unfolding below place_of
  places_more g d h =
      let f : ℕ → Bool = λ q. eqb (place_zone p q) g in
      let Z = p.Z in
      let k : ℕ = Z - g - 1 in
      let a : ℕ = d * Z in
      let z : Z ≡ g + (1 + k) = omega arith in
      let e : Z * C ≡ g * C + (C + k * C) = ap (λ (x : ℕ). x * C) z ∙ add-mul g (1 + k) C ∙ ap (λ (x : ℕ). g * C + x) (add-mul 1 k C ∙ ap (λ (x : ℕ). x + k * C) (one-mul C)) in
      let s : (a + g) * C ≡ a * C + g * C = add-mul a g C in
      let s' : (a + g + 1) * C ≡ a * C + g * C + C = add-mul (a + g) 1 C ∙ ap₂ ◌+◌ s (one-mul C) in
      let one : keep f (up_from (a * C) (g * C)) ≡ [] = keep_nobody f (a * C) (g * C) (λ q lo hi. no_zone_holds g a g q (λ t x y.
      let m : t - a < Z = omega arith in
      let w : t ≡ a + (t - a) = omega arith in
      ne_eqb (t % Z) g (λ c. let v : t % Z ≡ t - a = ap (λ (n : ℕ). n % Z) w ∙ digits_mod d m in omega (arith, v, c))) lo hi) in
      let two : keep f (up_from (a * C + g * C) C) ≡ up_from (a * C + g * C) C = keep_range f (a * C + g * C) C (λ q lo hi.
      eq-eqb (place_zone p q) g (zone_of_holds (a + g) q (omega arith) (omega arith) ∙ digits_mod d h)) in
      let three : keep f (up_from (a * C + g * C + C) (k * C)) ≡ [] = keep_nobody f (a * C + g * C + C) (k * C) (λ q lo hi. no_zone_holds g (a + g + 1) k q (λ t x y.
      let m : t - a < Z = omega arith in
      let w : t ≡ a + (t - a) = omega arith in
      ne_eqb (t % Z) g (λ c. let v : t % Z ≡ t - a = ap (λ (n : ℕ). n % Z) w ∙ digits_mod d m in omega (arith, v, c))) (omega arith) (omega arith)) in
      ap (λ (x : ℕ). keep f (up_from (a * C) x)) e
      ∙ ap (keep f) (up_from_add (a * C) (g * C) (C + k * C) ∙ ap (λ (x : List ℕ). up_from (a * C) (g * C) ++ x) (up_from_add (a * C + g * C) C (k * C)))
      ∙ keep_append f (up_from (a * C) (g * C)) (up_from (a * C + g * C) C ++ up_from (a * C + g * C + C) (k * C))
      ∙ ap₂ ◌++◌ one (keep_append f (up_from (a * C + g * C) C) (up_from (a * C + g * C + C) (k * C)) ∙ ap₂ ◌++◌ two three ∙ append-nil (up_from (a * C + g * C) C))
      ∙ ap (λ (x : ℕ). up_from x C) (let w : a * C + g * C ≡ (a + g) * C + 0 = omega arith in w)
      ∙ sym (map_up_from (λ b. (a + g) * C + b) ((a + g) * C) 0 C (λ b. refl))

  -- the places of a drive
  live_drive_of : (d q : ℕ) → d * p.Z * C ≤ q → q < d * p.Z * C + p.Z * C → place_drive p q ≡ d
  unfolding place_drive
  live_drive_of d q low high =
      let k : 0 < C = omega (arith, capacity-low p r) in
      let e : (d * p.Z + p.Z) * C ≡ d * p.Z * C + p.Z * C = add-mul (d * p.Z) p.Z C in
      let a : d * p.Z ≤ q / C = (le-div_iff_mul-le k).1 low in
      let b : q / C < d * p.Z + p.Z = (div-lt_iff_lt-mul k).1 (omega arith) in
      let m : q / C - d * p.Z < p.Z = omega arith in
      let w : q / C ≡ d * p.Z + (q / C - d * p.Z) = omega arith in
      ap (λ (x : ℕ). x / p.Z) w ∙ digits_div d m

  module _ (h : Seg) (low : ZonesLow p 0 h) where
    drive_places : (d : ℕ) → d < p.N → keep (in_seg p h) (up_from (d * p.Z * C) (p.Z * C)) ≡ map (place_of p d (zone_on h d)) (below C)
    unfolding in_seg
    drive_places d l =
        keep_up_from_same (in_seg p h) (λ q. eqb (place_zone p q) (zone_on h d)) (d * p.Z * C) (p.Z * C) (λ q a b. ap (λ (x : ℕ). eqb (place_zone p q) (zone_on h x)) (live_drive_of d q a b))
        ∙ places_more (zone_on h d) d (low_here p h d low l)

    segment_drives : (n : ℕ) → n ≤ p.N → flat (λ d. map (place_of p d (zone_on h d)) (below C)) (below n) ≡ keep (in_seg p h) (below (n * p.Z * C))
    segment_drives zero k =
        let F : ℕ → List ℕ = λ d. map (place_of p d (zone_on h d)) (below C) in
        let e : 0 * p.Z * C ≡ 0 = ap (λ (x : ℕ). x * C) (zero-mul p.Z) ∙ zero-mul C in
        ap (flat F) below_none ∙ flat_none F
        ∙ sym (ap (λ (x : ℕ). keep (in_seg p h) (below x)) e ∙ ap (keep (in_seg p h)) below_none ∙ keep_none (in_seg p h))
    segment_drives (suc n) k =
        let F : ℕ → List ℕ = λ d. map (place_of p d (zone_on h d)) (below C) in
        let e : suc n * p.Z * C ≡ n * p.Z * C + p.Z * C = ap (λ (x : ℕ). x * C) (suc-mul n p.Z) ∙ add-mul (n * p.Z) p.Z C in
        ap (λ (x : ℕ). flat F (below x)) (sym (add-one n)) ∙ flat-below-snoc F n
        ∙ ap₂ ◌++◌ (segment_drives n (omega arith)) (sym (drive_places n (omega arith)))
        ∙ sym (ap (λ (x : ℕ). keep (in_seg p h) (below x)) e ∙ ap (keep (in_seg p h)) (below_split (n * p.Z * C) (p.Z * C))
        ∙ keep_append (in_seg p h) (below (n * p.Z * C)) (up_from (n * p.Z * C) (p.Z * C)))

    -- 01, Reclaim: the places of a segment
    pub segment_places_holds : segment_places p h ≡ keep (in_seg p h) (below (p.N * p.Z * C))
    unfolding segment_places drives_of
    segment_places_holds = segment_drives p.N (omega arith)

  -- 02, item 4: the zones with a segment's number are its zones
  pub owned_places : (ss : List ℕ) (g : ℕ) (h : Seg) → Owns p ss g h → (q : ℕ) → q < p.N * p.Z * C → numbered p ss g q ≡ in_seg p h q
  unfolding numbered in_seg place_zone place_drive
  owned_places ss g h own q l =
      let e : q / C / p.Z * p.Z + q / C % p.Z ≡ q / C = div-add-mod' (q / C) p.Z in
      let z : 0 < p.Z = omega (arith, r.zones_low) in
      let d : q / C / p.Z < p.N = (div-lt_iff_lt-mul {k = p.Z} {x = q / C} {y = p.N} z).1 (zone_number_low q l) in
      ap (λ (x : ℕ). eqb (get_or ss x 0) g) (sym e) ∙ own (q / C / p.Z) (q / C % p.Z) d (mod-lt (q / C) z)

-- ---- the table's places

-- a place of the image is in the table's list just if some address has it
pub member_places : (p : Params) (tb : List ℕ) (q : ℕ) → q < never_place → is_member_of q (places_in p tb) ≡ is_pointed tb p.L q
unfolding is_member_of places_in is_pointed
member_places p tb q h =
    any-keep (λ k. not (eqb k never_place)) (λ k. eqb q k) (map (place_at_of tb) (below p.L))
    ∙ any_same (λ k. not (eqb k never_place) && eqb q k) (λ k. eqb q k) (map (place_at_of tb) (below p.L)) (λ k. go k (test (eqb q k)))
    ∙ any-map (λ k. eqb q k) (place_at_of tb) (below p.L)
  where
    go : (k : ℕ) → Test (eqb q k) → (not (eqb k never_place) && eqb q k) ≡ eqb q k
    go k (yes! e) =
        let f : eqb k never_place ≡ false = ne_eqb k never_place (λ c. omega (arith, c, eqb-true q k e)) in
        ap (λ (x : Bool). not x && eqb q k) f
    go k (no! e) = ap (λ (x : Bool). not (eqb k never_place) && x) e ∙ and-false (not (eqb k never_place)) ∙ sym e

-- 01, Reclaim: a segment's live blocks, in rising order of place
pub live_all : (p : Params) → Ranged p → (tb : List ℕ) (h : Seg) → ZonesLow p 0 h → live_in p (places_in p tb) h ≡ live_below p tb (in_seg p h) (p.N * p.Z * capacity p)
unfolding live_in live_below is_live_in
live_all p r tb h low =
    let all! = p.N * p.Z * capacity p in
    let f : ℕ → Bool = in_seg p h in
    ap (keep (λ q. is_member_of q (places_in p tb))) (segment_places_holds p r h low)
    ∙ keep-twice f (λ q. is_member_of q (places_in p tb)) (below all!)
    ∙ keep-below_same (λ q. f q && is_member_of q (places_in p tb)) (λ q. f q && is_pointed tb p.L q) all!
    (λ q l. ap (λ (x : Bool). f q && x) (member_places p tb q (omega (arith, l, places_high p r))))

-- by the table, those of its number
pub live_owned : (p : Params) → Ranged p → (tb ss : List ℕ) (g : ℕ) (h : Seg) → Owns p ss g h → (n : ℕ) → n ≤ p.N * p.Z * capacity p
    → live_below p tb (numbered p ss g) n ≡ live_below p tb (in_seg p h) n
unfolding live_below is_live_in
live_owned p r tb ss g h own n k =
    keep-below_same (λ q. numbered p ss g q && is_pointed tb p.L q) (λ q. in_seg p h q && is_pointed tb p.L q) n
    (λ q l. ap (λ (x : Bool). x && is_pointed tb p.L q) (owned_places p r ss g h own q (omega arith)))

-- ---- from place to place

-- the counts before the first place are 0
pub none_live : (p : Params) (ss tb live : List ℕ) → ((g : ℕ) → g ≤ 1024 → get_or live g 0 ≡ 0) → LiveCounted p ss tb live 0
unfolding live_below
none_live p ss tb live h g l =
    let f : ℕ → Bool = is_live_in p tb (numbered p ss g) in
    h g l ∙ sym (ap (λ (x : List ℕ). length (keep f x)) below_none ∙ ap length (keep_none f))

pub counted-le : (p : Params) (ss tb live : List ℕ) (n : ℕ) → LiveCounted p ss tb live n → (g : ℕ) → g ≤ 1024 → get_or live g 0 ≤ n
unfolding live_below
counted-le p ss tb live n h g l = omega (arith, h g l, length-keep (is_live_in p tb (numbered p ss g)) (below n), length-below n)

-- one place more
pub live_more : (p : Params) (tb : List ℕ) (f : ℕ → Bool) (q : ℕ) → is_live_in p tb f q ≡ true → live_below p tb f (q + 1) ≡ live_below p tb f q ++ (q ∷ [])
unfolding live_below cons_if
live_more p tb f q e = keep-below-snoc (is_live_in p tb f) q ∙ ap (λ (b : Bool). live_below p tb f q ++ cons_if b q []) e

pub keep_single : {A : Type 0} (f : A → Bool) (a : A) → keep f (a ∷ []) ≡ cons_if (f a) a []
unfolding keep
keep_single f a = refl

-- a count raised stays within its bound
pub bounded_more : (n : ℕ) (live : List ℕ) (z v from to : ℕ) → ((g : ℕ) → g ≤ n → get_or live g 0 ≤ from) → z < length live → v ≤ to → from ≤ to
    → (g : ℕ) → g ≤ n → get_or (set live z v) g 0 ≤ to
bounded_more n live z v from to h fits low mid g l = go (test (eqb g z))
  where
    go : Test (eqb g z) → get_or (set live z v) g 0 ≤ to
    go (yes! e) =
        let w : get_or (set live z v) g 0 ≡ v = ap (λ (x : ℕ). get_or (set live z v) x 0) (eqb-true g z e) ∙ get_or-set_same live z v 0 fits in
        omega (arith, w)
    go (no! e) =
        let w : get_or (set live z v) g 0 ≡ get_or live g 0 = get_or-set_other live z g v 0 (eqb-false g z e) in
        omega (arith, w, h g l)

pub live_split : (p : Params) (tb : List ℕ) (f : ℕ → Bool) (a b : ℕ) → a ≤ b → live_below p tb f b ≡ live_below p tb f a ++ keep (is_live_in p tb f) (up_from a (b - a))
unfolding live_below
live_split p tb f a b h =
    let e : b ≡ a + (b - a) = omega arith in
    ap (λ (x : ℕ). keep (is_live_in p tb f) (below x)) e ∙ ap (keep (is_live_in p tb f)) (below_split a (b - a)) ∙ keep_append (is_live_in p tb f) (below a) (up_from a (b - a))

module _ (p : Params) (ss tb ms : List ℕ) (first end : ℕ) (told : Marks tb p.L ms first end) where
  -- in a zone of number z, as many blocks are live as are marked
  live_run : (z from to : ℕ) → first ≤ from → from ≤ to → to ≤ end → ((q : ℕ) → from ≤ q → q < to → get_or ss (q / capacity p) 0 ≡ z)
      → length (keep (is_live_in p tb (numbered p ss z)) (up_from from (to - from))) ≡ length (keep (is_marked ms) (up_from (from - first) (to - first - (from - first))))
  unfolding is_live_in numbered
  live_run z from to low mid high same =
      let e : to - from ≡ to - first - (from - first) = omega arith in
      shifted (is_live_in p tb (numbered p ss z)) (is_marked ms) from (from - first) (to - from) (λ k l.
      let q : ℕ = from + k in
      let s : q - first ≡ from - first + k = omega arith in
      ap (λ (x : Bool). x && is_pointed tb p.L q) (eq-eqb (get_or ss (q / capacity p) 0) z (same q (omega arith) (omega arith)))
      ∙ sym (told q (omega arith) (omega arith)) ∙ ap (is_marked ms) s)
      ∙ ap (λ (x : ℕ). length (keep (is_marked ms) (up_from (from - first) x))) e

  other_run : (g z from to : ℕ) → from ≤ to → (z ≡ g → ⊥) → ((q : ℕ) → from ≤ q → q < to → get_or ss (q / capacity p) 0 ≡ z)
      → keep (is_live_in p tb (numbered p ss g)) (up_from from (to - from)) ≡ []
  unfolding is_live_in numbered
  other_run g z from to mid n same =
      keep_nobody (is_live_in p tb (numbered p ss g)) from (to - from)
      (λ q a b. ap (λ (x : Bool). x && is_pointed tb p.L q) (ne_eqb (get_or ss (q / capacity p) 0) g (λ e. n (sym (same q a (omega arith)) ∙ e))))

  -- a zone counted
  pub counted-more : (live : List ℕ) (z from to n : ℕ) → first ≤ from → from ≤ to → to ≤ end → z < length live
      → ((q : ℕ) → from ≤ q → q < to → get_or ss (q / capacity p) 0 ≡ z) → n ≡ length (keep (is_marked ms) (up_from (from - first) (to - first - (from - first))))
      → LiveCounted p ss tb live from → LiveCounted p ss tb (set live z (get_or live z 0 + n)) to
  counted-more live z from to n low mid high fits same e so g l = go (test (eqb z g))
    where
      f : ℕ → ℕ → Bool
      f x = is_live_in p tb (numbered p ss x)

      below! : ℕ → List ℕ
      below! x = live_below p tb (numbered p ss g) x

      whole : length (below! to) ≡ length (below! from) + length (keep (f g) (up_from from (to - from)))
      whole = ap length (live_split p tb (numbered p ss g) from to mid) ∙ length-append (below! from) (keep (f g) (up_from from (to - from)))

      go : Test (eqb z g) → get_or (set live z (get_or live z 0 + n)) g 0 ≡ length (below! to)
      go (yes! t) =
          let w : z ≡ g = eqb-true z g t in
          let m : length (keep (f g) (up_from from (to - from))) ≡ n =
          ap (λ (x : ℕ). length (keep (f x) (up_from from (to - from)))) (sym w) ∙ live_run z from to low mid high same ∙ sym e in
          let v : get_or (set live z (get_or live z 0 + n)) g 0 ≡ get_or live g 0 + n =
          ap (λ (x : ℕ). get_or (set live z (get_or live z 0 + n)) x 0) (sym w) ∙ get_or-set_same live z (get_or live z 0 + n) 0 fits ∙ ap (λ (x : ℕ). get_or live x 0 + n) w in
          omega (arith, v, so g l, whole, m)
      go (no! t) =
          let w : z ≡ g → ⊥ = eqb-false z g t in
          get_or-set_other live z g (get_or live z 0 + n) 0 (λ c. w (sym c)) ∙ so g l
          ∙ sym (whole ∙ ap (λ (x : List ℕ). length (below! from) + length x) (other_run g z from to mid w same) ∙ add-zero (length (below! from)))

-- ---- bounds of the loops

pub sum_fits : (x n a b end : ℕ) → x ≤ a → a ≤ end → n ≤ b → b ≤ end → end ≤ 715825152 → x + n < 2 ^ 64
sum_fits x n a b end h i j k l = let q : x + n < 18446744073709551616 = omega arith in q

pub nearer : (at end n : ℕ) → at < end → 0 < n → end - (at + n) < end - at
nearer at end n h l = omega arith

-- the only window, where the marks stand for all places
pub only_window : (tb ms : List ℕ) (n first end all! step : ℕ) → Marks tb n ms first end → (0 < first → first ≡ all!) → first < all! → end ≡ min all! (first + step)
    → all! ≤ step → (end ≡ all!) × Marks tb n ms 0 all!
only_window tb ms n first end all! step told once h e k = go (dec_lt 0 first)
  where
    go : Dec (0 < first) → (end ≡ all!) × Marks tb n ms 0 all!
    go (yes l) = absurd (let q : ⊥ = omega (arith, once l) in q)
    go (no l) =
        let z : first ≡ 0 = omega arith in
        let f : end ≡ all! = omega arith in
        (f, λ q x y. ap (λ (i : ℕ). is_marked ms (q - i)) (sym z) ∙ told q (omega arith) (omega arith))

pub left_marks : (tb ms : List ℕ) (n first all! step : ℕ) → (0 < first → all! ≤ step → (first ≡ all!) × Marks tb n ms 0 all!) → first ≡ all! → all! ≤ step
    → Marks tb n ms 0 all!
left_marks tb ms n first all! step once e k = go (dec_lt 0 first)
  where
    go : Dec (0 < first) → Marks tb n ms 0 all!
    go (yes l) = (once l k).1
    go (no l) = λ q x y. absurd (let z : ⊥ = omega arith in z)

pub window_nearer : (first end all! step : ℕ) → first < all! → 0 < step → end ≡ min all! (first + step) → all! - end < all! - first
window_nearer first end all! step h l e = omega arith
