-- Data blocks that are live because some address of the table has their place (01, Reclaim): a count of some of them is no more than the count
-- of all. Run by run, zone by zone, drive by drive. Assumes nothing.
use Prim.Native.Nat.{ℕ, zero, suc, ◌+◌, ◌-◌, ◌*◌, ◌≤◌, ◌<◌}
use Rattle.call_reclaim_live.specs.Live.{in_seg, is_live_in, live_below, live_split}
use Rattle.disk_gather.specs.Owners.{row_seg}
use Rattle.spec.specs.Drives.{zone_on}
use Rattle.spec.specs.Lists.{up_from, below, any, cons_if, keep}
use Rattle.spec.specs.Memory.{place_at_of}
use Rattle.spec.specs.Params.{capacity, unit_len, place_of, place_zone, place_drive, place_byte}
use Rattle.spec.specs.declared.Params.{Params}
use Rattle.spec.specs.declared.Seg.{Seg}
use Rattle.law_basic.specs.Geometry.{Ranged, item_fits, data_below, place_zone_lem, place_drive_lem}
use Rattle.law_basic.specs.Ranges.{Test, test, up_from_add, up_from_snoc, keep_append, keep_up_from_same, length-keep, length_up_from}
use Rattle.law_basic.specs.Ranges.Test.{yes!, no! }
use Rattle.mem_marks.specs.Marks.{is_pointed}
use borrow.Author.Tests.{eq-eqb, eqb-true, eqb-false}
use Rattle.std.proofs.Math.Arith.{lt_of_le-ne}
use Rattle.std.specs.Prelude.{eqb, get_or, Bool, true, false, ◌&&◌, ◌||◌, ◌≡◌, refl}
use Rattle.std.proofs.Math.ListN.{length, length-append}
use mathlib.Core.List.{List, [], ◌∷◌}
use Rattle.std.proofs.Common.{sym, ◌∙◌, subst, one-mul, zero-mul, mul-le-mul_right, add-one}
use Rattle.std.proofs.Math.Path.{ap}
use mir.Val.{bool_byte}
use Rattle.std.proofs.Math.Decide.{dec_lt}
use Rattle.std.proofs.Math.Nat.{add-mul, add-zero}
use native.Mathlib.Omega.{arith}

-- 01, Reclaim: of the n places from q on, those that the table has
abbrev pub pointed_from : List ℕ → ℕ → ℕ → ℕ → List ℕ
pointed_from tb l q n = keep (is_pointed tb l) (up_from q n)

-- 01, Reclaim: a sealed segment k other than best has n live blocks at least, and more where it is lower
abbrev pub Enough : Params → List ℕ → List Bool → List ℕ → ℕ → ℕ → ℕ → Type 0
Enough p rows sealed tb best n k =
    get_or sealed k false ≡ true → (k < best → n < length (live_below p tb (in_seg p (row_seg rows k)) (p.N * p.Z * capacity p)))
    × (best < k → n ≤ length (live_below p tb (in_seg p (row_seg rows k)) (p.N * p.Z * capacity p)))

-- what holds of all below n and of n
pub below_more : (P : ℕ → Type 0) (n : ℕ) → ((k : ℕ) → k < n → P k) → P n → (k : ℕ) → k < n + 1 → P k
below_more P n f g k h = go (dec_lt k n)
  where
    go : Dec (k < n) → P k
    go (yes l) = f k l
    go (no l) = let e : n ≡ k = omega arith in subst P e g

-- ---- one place

any_up_from : (f : ℕ → Bool) (x i n : ℕ) → i ≤ x → x < i + n → f x ≡ true → any f (up_from i n) ≡ true
unfolding any up_from
any_up_from f x i zero low high e = absurd (let q : ⊥ = omega arith in q)
any_up_from f x i (suc n) low high e = go (test (eqb i x)) (any_up_from f x (suc i) n)
  where
    right : (b : Bool) → (b || true) ≡ true
    right true = refl
    right false = refl

    go : Test (eqb i x) → (suc i ≤ x → x < suc i + n → f x ≡ true → any f (up_from (suc i) n) ≡ true) → (f i || any f (up_from (suc i) n)) ≡ true
    go (yes! t) r = ap (λ (b : Bool). b || any f (up_from (suc i) n)) (ap f (eqb-true i x t) ∙ e)
    go (no! t) r = ap (λ (b : Bool). f i || b) (r (lt_of_le-ne low (eqb-false i x t)) (omega arith) e) ∙ right (f i)

-- the place of one of the addresses
pub pointed_by : (tb : List ℕ) (n a q : ℕ) → a < n → place_at_of tb a ≡ q → is_pointed tb n q ≡ true
unfolding is_pointed below
pointed_by tb n a q h e = any_up_from (λ k. eqb q (place_at_of tb k)) a 0 n (omega arith) (omega (arith, h)) (eq-eqb q (place_at_of tb a) (sym e))

pub pointed-bit : (tb : List ℕ) (n a q : ℕ) → a < n → bool_byte (eqb (place_at_of tb a) q) ≤ bool_byte (is_pointed tb n q)
pointed-bit tb n a q h = go (test (eqb (place_at_of tb a) q))
  where
    go : Test (eqb (place_at_of tb a) q) → bool_byte (eqb (place_at_of tb a) q) ≤ bool_byte (is_pointed tb n q)
    go (yes! e) = let w : bool_byte (is_pointed tb n q) ≡ 1 = ap bool_byte (pointed_by tb n a q h (eqb-true (place_at_of tb a) q e)) in omega (arith, w, ap bool_byte e)
    go (no! e) = omega (arith, ap bool_byte e)

-- ---- a run of places

cons_if-length : (b : Bool) (a : ℕ) → length (cons_if b a []) ≡ bool_byte b
unfolding cons_if
cons_if-length true a = refl
cons_if-length false a = refl

module _ (f : ℕ → Bool) (i : ℕ) where
  pub run_snoc : (n : ℕ) → length (keep f (up_from i (n + 1))) ≡ length (keep f (up_from i n)) + bool_byte (f (i + n))
  unfolding keep
  run_snoc n =
      ap (λ (x : ℕ). length (keep f (up_from i x))) (add-one n) ∙ ap (λ (l : List ℕ). length (keep f l)) (up_from_snoc i n)
      ∙ ap length (keep_append f (up_from i n) ((i + n) ∷ [])) ∙ length-append (keep f (up_from i n)) (cons_if (f (i + n)) (i + n) [])
      ∙ ap (λ (x : ℕ). length (keep f (up_from i n)) + x) (cons_if-length (f (i + n)) (i + n))

  pub run_add : (n m : ℕ) → length (keep f (up_from i (n + m))) ≡ length (keep f (up_from i n)) + length (keep f (up_from (i + n) m))
  run_add n m =
      ap (λ (l : List ℕ). length (keep f l)) (up_from_add i n m) ∙ ap length (keep_append f (up_from i n) (up_from (i + n) m))
      ∙ length-append (keep f (up_from i n)) (keep f (up_from (i + n) m))

  pub run_le : (n : ℕ) → length (keep f (up_from i n)) ≤ n
  run_le n = omega (arith, length-keep f (up_from i n), length_up_from i n)

  pub run_longer : (n m : ℕ) → n ≤ m → length (keep f (up_from i n)) ≤ length (keep f (up_from i m))
  run_longer n m h =
      let e : n + (m - n) ≡ m = omega arith in
      let w : length (keep f (up_from i m)) ≡ length (keep f (up_from i n)) + length (keep f (up_from (i + n) (m - n))) = ap (λ (x : ℕ). length (keep f (up_from i x))) (sym e)
      ∙ run_add n (m - n) in
      omega (arith, w)

-- ---- a drive more

-- the first drive's first place, and the first after the last
pub drive_first : (p : Params) → place_of p 0 0 0 ≡ 0
unfolding place_of
drive_first p = ap (λ (x : ℕ). (x + 0) * capacity p + 0) (zero-mul p.Z) ∙ ap (λ (x : ℕ). x + 0) (zero-mul (capacity p))

pub drive_last : (p : Params) → place_of p p.N 0 0 ≡ p.N * p.Z * capacity p
unfolding place_of
drive_last p = add-zero ((p.N * p.Z + 0) * capacity p) ∙ ap (λ (x : ℕ). x * capacity p) (add-zero (p.N * p.Z))

-- those of the first places are some of all
pub live_longer : (p : Params) (tb : List ℕ) (f : ℕ → Bool) (a b : ℕ) → a ≤ b → length (live_below p tb f a) ≤ length (live_below p tb f b)
live_longer p tb f a b h =
    let e : length (live_below p tb f b) ≡ length (live_below p tb f a) + length (keep (is_live_in p tb f) (up_from a (b - a))) =
    ap length (live_split p tb f a b h) ∙ length-append (live_below p tb f a) (keep (is_live_in p tb f) (up_from a (b - a))) in
    omega (arith, e)

module _ (p : Params) (tb : List ℕ) (h : Seg) where
  abbrev live : ℕ → ℕ
  live n = length (live_below p tb (in_seg p h) n)

  -- those of the first drives are some of all
  pub live_below_drive : (d : ℕ) → d ≤ p.N → live (place_of p d 0 0) ≤ live (p.N * p.Z * capacity p)
  unfolding place_of
  live_below_drive d k =
      let e : (d * p.Z + 0) * capacity p + 0 ≡ d * p.Z * capacity p = add-zero ((d * p.Z + 0) * capacity p) ∙ ap (λ (x : ℕ). x * capacity p) (add-zero (d * p.Z)) in
      live_longer p tb (in_seg p h) ((d * p.Z + 0) * capacity p + 0) (p.N * p.Z * capacity p)
      (subst (λ (x : ℕ). x ≤ p.N * p.Z * capacity p) (sym e) (mul-le-mul_right (capacity p) (mul-le-mul_right p.Z k)))

  -- a zone of the segment, on drive d
  module _ (r : Ranged p) (d : ℕ) (z : zone_on h d < p.Z) where
    abbrev C : ℕ
    C = capacity p

    abbrev g : ℕ
    g = zone_on h d

    -- the data blocks of its zone
    place_in_zone : (k : ℕ) → place_of p d g 1 ≤ k → k < place_of p d g 1 + p.S → in_seg p h k ≡ true
    unfolding place_of in_seg
    place_in_zone k low high =
        let b : ℕ = k - (d * p.Z + g) * C in
        let e : k ≡ (d * p.Z + g) * C + b = omega arith in
        let fit : b < C = omega (arith, data_below p r p.S (omega arith)) in
        eq-eqb (place_zone p k) (zone_on h (place_drive p k)) (ap (place_zone p) e ∙ place_zone_lem p d g b z fit ∙ ap (zone_on h) (sym (ap (place_drive p) e ∙ place_drive_lem p d g b z fit)))

    zone_run : length (keep (is_live_in p tb (in_seg p h)) (up_from (place_of p d g 1) p.S)) ≡ length (pointed_from tb p.L (place_of p d g 1) p.S)
    unfolding is_live_in
    zone_run = ap length (keep_up_from_same (is_live_in p tb (in_seg p h)) (is_pointed tb p.L) (place_of p d g 1) p.S (λ k x y.
        ap (λ (b : Bool). b && is_pointed tb p.L k) (place_in_zone k x y)))

    pub drive_place_low : place_of p d 0 0 ≤ place_of p d g 1
    unfolding place_of
    drive_place_low = omega (arith, add-mul (d * p.Z) g C, add-mul (d * p.Z) 0 C)

    pub next_drive_place : place_of p d g 1 + p.S ≤ place_of p (d + 1) 0 0
    unfolding place_of
    next_drive_place =
        let y : (d + 1) * p.Z ≡ d * p.Z + p.Z = add-mul d 1 p.Z ∙ ap (λ (x : ℕ). d * p.Z + x) (one-mul p.Z) in
        let w : ((d + 1) * p.Z + 0) * C ≡ d * p.Z * C + p.Z * C = ap (λ (x : ℕ). x * C) (add-zero ((d + 1) * p.Z) ∙ y) ∙ add-mul (d * p.Z) p.Z C in
        omega (arith, w, add-mul (d * p.Z) g C, item_fits g p.Z C z, data_below p r p.S (omega arith))

    pub drive_more : (c n : ℕ) → c ≤ live (place_of p d 0 0) → n ≤ length (pointed_from tb p.L (place_of p d g 1) p.S) → c + n ≤ live (place_of p (d + 1) 0 0)
    drive_more c n a b =
        let y : ℕ = place_of p d g 1 in
        let s : y + p.S - y ≡ p.S = omega arith in
        let f : ℕ → Bool = in_seg p h in
        let e : live (y + p.S) ≡ live y + length (keep (is_live_in p tb f) (up_from y p.S)) =
        ap length (live_split p tb f y (y + p.S) (omega arith)) ∙ length-append (live_below p tb f y) (keep (is_live_in p tb f) (up_from y (y + p.S - y)))
        ∙ ap (λ (x : ℕ). live y + length (keep (is_live_in p tb f) (up_from y x))) s in
        omega (arith, a, b, e, zone_run, live_longer p tb f (place_of p d 0 0) y drive_place_low, live_longer p tb f (y + p.S) (place_of p (d + 1) 0 0) next_drive_place)

-- the next block's first byte
pub next_byte : (p : Params) (d z b : ℕ) → place_byte p (place_of p d z (b + 1)) ≡ place_byte p (place_of p d z b) + unit_len p
unfolding place_byte place_of
next_byte p d z b =
    let k : ℕ = (d * p.Z + z) * capacity p in
    let e : k + (b + 1) ≡ k + b + 1 = omega arith in
    ap (λ (x : ℕ). x * unit_len p) e ∙ add-mul (k + b) 1 (unit_len p) ∙ ap (λ (x : ℕ). (k + b) * unit_len p + x) (one-mul (unit_len p))
