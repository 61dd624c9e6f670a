-- Numbers marked in bytes (01, Reclaim: different places). Assumes nothing.
use Rattle.std.specs.Prelude.{◌≡◌, refl, List, [], ◌∷◌, ◌++◌, Bool, true, false, cond, ◌&&◌, ◌||◌, ◌⊎◌, ℕ, zero, suc, ◌+◌, ◌-◌}
use Rattle.std.specs.Prelude.{◌*◌, ◌/◌, ◌%◌, ◌≤◌, ◌<◌, leb, eqb, length, get_or, set, replicate}
use Rattle.std.proofs.Common.{sym, ap, ◌∙◌, inl, inr, add-zero, le-leb, lt-ltb, le-ltb, eq-eqb, ne_eqb, eqb-true, arith, length-append, get_or-set_same, get_or-set_other}
use Rattle.std.proofs.Math.Decide.{dec_lt, dec_le}
use Rattle.std.proofs.lemmas.Bool.{lt-leb, eqb-false}
use Rattle.std.proofs.lemmas.List.{get_or-replicate, length-replicate}
use Rattle.std.proofs.Math.ListN.{get_or-eq_default}
use Rattle.std.specs.Int.Bits.{bit_or}
use Rattle.std.specs.Int.Count.{ones}
use Rattle.spec.specs.Lists.{up_from, below, all, any, cons_if, keep, powers, only, is_in}
use Rattle.spec.specs.Memory.{place_at_of}
use Rattle.law_basic.specs.Mask.{is_in_empty, is_in_with}
use Rattle.law_basic.specs.Ranges.{Test, test, not_both, up_from_add, below-snoc, any_append, any_hit, any_miss, any_none, all_in_below, keep_append}
use Rattle.law_basic.specs.Ranges.Test.{yes!, no! }
use Rattle.mem_tables.specs.Tables.{is_within}

-- number k is marked
unfoldable pub is_marked : List ℕ → ℕ → Bool
is_marked ms k = is_in (get_or ms (k / 8) 0) (k % 8)

-- one more number marked
unfoldable pub with_mark : List ℕ → ℕ → List ℕ
with_mark ms k = set ms (k / 8) (bit_or (get_or ms (k / 8) 0) (only (k % 8)))

-- 01, Reclaim: one of the first n addresses has place q
unfoldable pub is_pointed : List ℕ → ℕ → ℕ → Bool
is_pointed tb n q = any (λ a. eqb q (place_at_of tb a)) (below n)

-- of the places from first up to end, counted from first, just those are marked that one of the first n addresses has
abbrev pub Marks : List ℕ → ℕ → List ℕ → ℕ → ℕ → Type 0
Marks tb n ms first end = (q : ℕ) → first ≤ q → q < end → is_marked ms (q - first) ≡ is_pointed tb n q

-- ---- one more marked

-- two numbers are equal just if their bytes and their bits are
pub marked_with : (ms : List ℕ) (k j : ℕ) → k / 8 < length ms → is_marked (with_mark ms k) j ≡ (eqb j k || is_marked ms j)
unfolding is_marked with_mark
marked_with ms k j h = go (test (eqb (j / 8) (k / 8)))
  where
    new : ℕ
    new = bit_or (get_or ms (k / 8) 0) (only (k % 8))

    same : j / 8 ≡ k / 8 → eqb (j % 8) (k % 8) ≡ eqb j k
    same e = bits (test (eqb j k))
      where
        bits : Test (eqb j k) → eqb (j % 8) (k % 8) ≡ eqb j k
        bits (yes! f) = ap (λ (x : ℕ). eqb (x % 8) (k % 8)) (eqb-true j k f) ∙ eq-eqb (k % 8) (k % 8) refl ∙ sym f
        bits (no! f) = ne_eqb (j % 8) (k % 8) (λ g. eqb-false j k f (omega (arith, e, g))) ∙ sym f

    go : Test (eqb (j / 8) (k / 8)) → is_in (get_or (set ms (k / 8) new) (j / 8) 0) (j % 8) ≡ (eqb j k || is_in (get_or ms (j / 8) 0) (j % 8))
    go (yes! f) =
        let e : j / 8 ≡ k / 8 = eqb-true (j / 8) (k / 8) f in
        ap (λ (x : ℕ). is_in (get_or (set ms (k / 8) new) x 0) (j % 8)) e
        ∙ ap (λ (x : ℕ). is_in x (j % 8)) (get_or-set_same ms (k / 8) new 0 h)
        ∙ is_in_with (get_or ms (k / 8) 0) (k % 8) (j % 8) (omega arith) (omega arith)
        ∙ (λ i. same e i || is_in (get_or ms (sym e i) 0) (j % 8))
    go (no! f) =
        let n : j / 8 ≡ k / 8 → ⊥ = eqb-false (j / 8) (k / 8) f in
        ap (λ (x : ℕ). is_in x (j % 8)) (get_or-set_other ms (k / 8) (j / 8) new 0 n)
        ∙ ap (λ (x : Bool). x || is_in (get_or ms (j / 8) 0) (j % 8)) (sym (ne_eqb j k (λ e. n (ap (λ (x : ℕ). x / 8) e))))

-- nothing is marked in zeros
pub marked_none : (n k : ℕ) → is_marked (replicate n 0) k ≡ false
unfolding is_marked
marked_none n k = go (dec_lt (k / 8) n)
  where
    go : Dec (k / 8 < n) → is_in (get_or (replicate n 0) (k / 8) 0) (k % 8) ≡ false
    go (yes h) = ap (λ (x : ℕ). is_in x (k % 8)) (get_or-replicate n (k / 8) 0 0 h) ∙ is_in_empty (k % 8)
    go (no h) = ap (λ (x : ℕ). is_in x (k % 8)) (get_or-eq_default (replicate n 0) 0 (omega (arith, length-replicate {A = ℕ} n 0))) ∙ is_in_empty (k % 8)

-- ---- the places of the table, one address after the other

pub no_pointed : (tb : List ℕ) (q : ℕ) → is_pointed tb 0 q ≡ false
unfolding is_pointed below up_from any
no_pointed tb q = refl

pub pointed-more : (tb : List ℕ) (n q : ℕ) → is_pointed tb (n + 1) q ≡ (is_pointed tb n q || eqb q (place_at_of tb n))
unfolding is_pointed
pointed-more tb n q =
    let f : ℕ → Bool = λ a. eqb q (place_at_of tb a) in
    ap (any f) (below-snoc n) ∙ any_append f (below n) (n ∷ []) ∙ ap (λ (x : Bool). any f (below n) || x) (last f)
  where
    last : (f : ℕ → Bool) → any f (n ∷ []) ≡ f n
    last f = go (test (f n))
      where
        go : Test (f n) → any f (n ∷ []) ≡ f n
        go (yes! e) = any_hit f n [] e ∙ sym e
        go (no! e) = any_miss f n [] e ∙ any_none f ∙ sym e

pub within_above : (first end t : ℕ) → end ≤ t → is_within first end t ≡ false
within_above first end t h = ap (λ (x : Bool). leb first t && x) (le-ltb t end h) ∙ go (leb first t)
  where
    go : (b : Bool) → (b && false) ≡ false
    go true = refl
    go false = refl

-- one address more: what was so before, or this place
pub turned : (tb : List ℕ) (n : ℕ) (ms₀ ms ms' : List ℕ) (first end : ℕ) → end - first ≤ 8 * length ms
    → ((q : ℕ) → first ≤ q → q < end → is_marked ms (q - first) ≡ (is_pointed tb n q || is_marked ms₀ (q - first)))
    → ms' ≡ cond (is_within first end (place_at_of tb n)) (with_mark ms (place_at_of tb n - first)) ms
    → (q : ℕ) → first ≤ q → q < end → is_marked ms' (q - first) ≡ (is_pointed tb (n + 1) q || is_marked ms₀ (q - first))
turned tb n ms₀ ms ms' first end fits so e q low high = go (dec_le first t) (dec_lt t end)
  where
    t : ℕ
    t = place_at_of tb n

    more : (b : Bool) → eqb q t ≡ b → (b || (is_pointed tb n q || is_marked ms₀ (q - first))) ≡ (is_pointed tb (n + 1) q || is_marked ms₀ (q - first))
    more b f =
        swap b (is_pointed tb n q) (is_marked ms₀ (q - first))
        ∙ ap (λ (x : Bool). x || is_marked ms₀ (q - first)) (ap (λ (x : Bool). is_pointed tb n q || x) (sym f) ∙ sym (pointed-more tb n q))
      where
        swap : (x y z : Bool) → (x || (y || z)) ≡ ((y || x) || z)
        swap true true z = refl
        swap true false z = refl
        swap false true z = refl
        swap false false z = refl

    out : (t < first) ⊎ (end ≤ t) → is_marked ms' (q - first) ≡ (is_pointed tb (n + 1) q || is_marked ms₀ (q - first))
    out (inl h) =
        let f : is_within first end t ≡ false = simp (lt-leb first t h) in
        ap (λ (x : List ℕ). is_marked x (q - first)) (e ∙ ap (λ (x : Bool). cond x (with_mark ms (t - first)) ms) f) ∙ so q low high ∙ more false (ne_eqb q t (λ g. omega (arith, g)))
    out (inr h) =
        let f : is_within first end t ≡ false = within_above first end t h in
        ap (λ (x : List ℕ). is_marked x (q - first)) (e ∙ ap (λ (x : Bool). cond x (with_mark ms (t - first)) ms) f) ∙ so q low high ∙ more false (ne_eqb q t (λ g. omega (arith, g)))

    go : Dec (first ≤ t) → Dec (t < end) → is_marked ms' (q - first) ≡ (is_pointed tb (n + 1) q || is_marked ms₀ (q - first))
    go (no h) d = out (inl (omega arith))
    go (yes h) (no g) = out (inr (omega arith))
    go (yes h) (yes g) =
        let f : is_within first end t ≡ true = simp (le-leb first t h, lt-ltb t end g) in
        ap (λ (x : List ℕ). is_marked x (q - first)) (e ∙ ap (λ (x : Bool). cond x (with_mark ms (t - first)) ms) f)
        ∙ marked_with ms (t - first) (q - first) (omega arith)
        ∙ (λ i. shift i || so q low high i)
        ∙ more (eqb q t) refl
      where
        shift : eqb (q - first) (t - first) ≡ eqb q t
        shift = bits (test (eqb q t))
          where
            bits : Test (eqb q t) → eqb (q - first) (t - first) ≡ eqb q t
            bits (yes! s) = ap (λ (x : ℕ). eqb (x - first) (t - first)) (eqb-true q t s) ∙ eq-eqb (t - first) (t - first) refl ∙ sym s
            bits (no! s) = ne_eqb (q - first) (t - first) (λ r. eqb-false q t s (omega (arith, r, low, h))) ∙ sym s

-- ---- counts

-- as many pass in one range as in another
pub shifted : (f g : ℕ → Bool) (i j n : ℕ) → ((k : ℕ) → k < n → f (i + k) ≡ g (j + k)) → length (keep f (up_from i n)) ≡ length (keep g (up_from j n))
unfolding keep up_from cons_if
shifted f g i j zero h = refl
shifted f g i j (suc n) h = go (f i) (g j) (ap f (sym (add-zero i)) ∙ h 0 (omega arith) ∙ ap g (add-zero j)) (shifted f g (suc i) (suc j) n next)
  where
    next : (k : ℕ) → k < n → f (suc i + k) ≡ g (suc j + k)
    next k l =
        let a : suc i + k ≡ i + suc k = omega arith in
        let b : suc j + k ≡ j + suc k = omega arith in
        ap f a ∙ h (suc k) (omega arith) ∙ ap g (sym b)

    go : (x y : Bool) → x ≡ y → length (keep f (up_from (suc i) n)) ≡ length (keep g (up_from (suc j) n))
        → length (cons_if x i (keep f (up_from (suc i) n))) ≡ length (cons_if y j (keep g (up_from (suc j) n)))
    go true true e r = ap suc r
    go false false e r = r
    go true false e r = absurd (not_both true refl e)
    go false true e r = absurd (not_both true refl (sym e))

-- the bits of a byte
byte_ones : (m : ℕ) → m < 256 → length (keep (is_in m) (below 8)) ≡ ones m
unfolding is_in powers all below up_from keep cons_if ones
byte_ones m h = eqb-true (length (keep (is_in m) (below 8))) (ones m) (all_in_below (λ k. eqb (length (keep (is_in k) (below 8))) (ones k)) 256 m refl h)

pub marked_byte : (ms : List ℕ) (i : ℕ) → get_or ms i 0 < 256 → length (keep (is_marked ms) (up_from (8 * i) 8)) ≡ ones (get_or ms i 0)
unfolding is_marked below
marked_byte ms i h =
    shifted (is_marked ms) (is_in (get_or ms i 0)) (8 * i) 0 8 (λ k l.
    let a : (8 * i + k) / 8 ≡ i = omega arith in
    let b : (8 * i + k) % 8 ≡ k = omega arith in
    let c : 0 + k ≡ k = omega arith in
    (λ j. is_in (get_or ms (a j) 0) ((b ∙ sym c) j)))
    ∙ byte_ones (get_or ms i 0) h

-- a range in two
pub kept_split : (f : ℕ → Bool) (a b c : ℕ) → a ≤ b → b ≤ c → length (keep f (up_from a (c - a))) ≡ length (keep f (up_from a (b - a))) + length (keep f (up_from b (c - b)))
kept_split f a b c h k =
    let e : c - a ≡ (b - a) + (c - b) = omega arith in
    let g : a + (b - a) ≡ b = omega arith in
    ap (λ (x : ℕ). length (keep f (up_from a x))) e
    ∙ ap (λ (x : List ℕ). length (keep f x)) (up_from_add a (b - a) (c - b) ∙ ap (λ (x : ℕ). up_from a (b - a) ++ up_from x (c - b)) g)
    ∙ ap length (keep_append f (up_from a (b - a)) (up_from b (c - b)))
    ∙ length-append (keep f (up_from a (b - a))) (keep f (up_from b (c - b)))

pub kept_nothing : (f : ℕ → Bool) (a : ℕ) → length (keep f (up_from a (a - a))) ≡ 0
unfolding keep up_from
kept_nothing f a = let e : a - a ≡ 0 = omega arith in ap (λ (x : ℕ). length (keep f (up_from a x))) e

-- one byte more
pub byte_more : (ms : List ℕ) (a i n : ℕ) → a ≤ i → get_or ms i 0 < 256 → n ≡ length (keep (is_marked ms) (up_from (8 * a) (8 * i - 8 * a)))
    → n + ones (get_or ms i 0) ≡ length (keep (is_marked ms) (up_from (8 * a) (8 * (i + 1) - 8 * a)))
byte_more ms a i n h low e =
    let f : 8 * (i + 1) - 8 * i ≡ 8 = omega arith in
    let g : length (keep (is_marked ms) (up_from (8 * i) (8 * (i + 1) - 8 * i))) ≡ ones (get_or ms i 0) = ap
    (λ (x : ℕ). length (keep (is_marked ms) (up_from (8 * i) x))) f ∙ marked_byte ms i low in
    omega (arith, e, g, kept_split (is_marked ms) (8 * a) (8 * i) (8 * (i + 1)) (omega arith) (omega arith))

-- a byte without marks
pub byte_empty : (ms : List ℕ) (k j : ℕ) → k % 8 ≡ 0 → k ≤ j → j < k + 8 → get_or ms (k / 8) 0 ≡ 0 → is_marked ms j ≡ false
unfolding is_marked
byte_empty ms k j e low high z =
    let a : j / 8 ≡ k / 8 = omega arith in
    ap (λ (x : ℕ). is_in (get_or ms x 0) (j % 8)) a ∙ ap (λ (x : ℕ). is_in x (j % 8)) z ∙ is_in_empty (j % 8)

-- one number
pub unmarked_one : (ms : List ℕ) (k j : ℕ) → is_marked ms k ≡ false → k ≤ j → j < k + 1 → is_marked ms j ≡ false
unmarked_one ms k j e low high = let q : j ≡ k = omega arith in ap (is_marked ms) q ∙ e
