-- Scans of the address table (01, The array; Reclaim): places in a range counted, a place found. Assumes nothing.
use Rattle.std.specs.Prelude.{◌≡◌, ℕ, ◌+◌, ◌-◌, ◌%◌, ◌<◌, ◌≤◌, Bool, true, false, ◌&&◌, List, [], ◌∷◌, ◌++◌, map, length}
use Rattle.std.specs.Prelude.{◌≢◌, nat_eq, nat_le, nat_lt, refl}
use Rattle.std.proofs.Common.{sym, ap, ◌∙◌, arith, length-append, le-leb, lt-ltb, le-ltb, eq-eqb, ne_eqb}
use Rattle.std.proofs.Math.Decide.{dec_le, dec_lt}
use Rattle.std.proofs.lemmas.List.{length-map}
use mir.Val.{bool_byte}
use Rattle.std.proofs.lemmas.Bool.{lt-leb}
use Rattle.spec.specs.Lists.{up_from, below, cons_if, keep, tally, index_of}
use Rattle.spec.specs.Memory.{place_at_of}
use Rattle.law_basic.specs.Ranges.{length-below, map-below-snoc, keep_append, length-keep, found_hit, found_miss, found_end, found-start}

-- q is a place from lo up to hi
abbrev pub is_within : ℕ → ℕ → ℕ → Bool
is_within lo hi q = nat_le lo q && nat_lt q hi

-- 01, Reclaim: how many of the first n addresses have a place from lo up to hi
unfoldable pub count_places : List ℕ → ℕ → ℕ → ℕ → ℕ
count_places tb n lo hi = tally (is_within lo hi) (map (place_at_of tb) (below n))

-- 01, Reclaim: the lowest of the first n addresses whose place is q; n if there is none
unfoldable pub find_place : List ℕ → ℕ → ℕ → ℕ
find_place tb n q = index_of (λ a. nat_eq (place_at_of tb a) q) (below n)

-- ---- a count by one address more

pub bit_le : (b : Bool) → bool_byte b ≤ 1
bit_le true = omega arith
bit_le false = omega arith

tally-one : {A : Type 0} (b : Bool) (a : A) → length (cons_if b a []) ≡ bool_byte b
unfolding cons_if
tally-one true a = refl
tally-one false a = refl

pub tally-snoc : {A : Type 0} (f : A → Bool) (l : List A) (a : A) → tally f (l ++ (a ∷ [])) ≡ tally f l + bool_byte (f a)
unfolding tally keep
tally-snoc f l a =
    ap length (keep_append f l (a ∷ [])) ∙ length-append (keep f l) (cons_if (f a) a []) ∙ ap (λ (n : ℕ). length (keep f l) + n) (tally-one (f a) a)

pub count_no_places : (tb : List ℕ) (lo hi : ℕ) → 0 ≡ count_places tb 0 lo hi
unfolding count_places tally keep below up_from
count_no_places tb lo hi = refl

pub count-one : (tb : List ℕ) (n lo hi : ℕ) → count_places tb n lo hi + bool_byte (is_within lo hi (place_at_of tb n)) ≡ count_places tb (n + 1) lo hi
unfolding count_places
count-one tb n lo hi =
    sym (ap (tally (is_within lo hi)) (map-below-snoc (place_at_of tb) n) ∙ tally-snoc (is_within lo hi) (map (place_at_of tb) (below n)) (place_at_of tb n))

pub count-le : (tb : List ℕ) (n lo hi : ℕ) → count_places tb n lo hi ≤ n
unfolding count_places tally
count-le tb n lo hi = omega (arith, length-keep (is_within lo hi) (map (place_at_of tb) (below n)), length-map (below n) (place_at_of tb), length-below n)

-- ---- one test for both ends: the distance above lo, modulo 2^32, is below that of hi

pub within_near : (q lo hi d : ℕ) → q < 4294967296 → lo < 4294967296 → hi < 4294967296 → d < 4294967296 → (d + lo) % 4294967296 ≡ q
    → nat_lt d (hi - lo) ≡ is_within lo hi q
within_near q lo hi d q< lo< hi< d< e = go (dec_le lo q) (dec_lt q hi)
  where
    go : Dec (lo ≤ q) → Dec (q < hi) → nat_lt d (hi - lo) ≡ is_within lo hi q
    go (yes h) (yes g) = simp (le-leb lo q h, lt-ltb q hi g, lt-ltb d (hi - lo) (omega arith))
    go (yes h) (no g) = simp (le-leb lo q h, le-ltb q hi (omega arith), le-ltb d (hi - lo) (omega arith))
    go (no h) g = simp (lt-leb lo q (omega arith), le-ltb d (hi - lo) (omega arith))

-- ---- a search from address a on

unfoldable pub find_from : List ℕ → ℕ → ℕ → ℕ → ℕ
find_from tb n q a = a + index_of (λ i. nat_eq (place_at_of tb i) q) (up_from a (n - a))

module _ (tb : List ℕ) (n q : ℕ) where
  pub find_start : find_from tb n q 0 ≡ find_place tb n q
  unfolding find_from find_place
  find_start = found-start (λ i. nat_eq (place_at_of tb i) q) n

  pub find_hit : (a : ℕ) → a < n → place_at_of tb a ≡ q → find_from tb n q a ≡ a
  unfolding find_from
  find_hit a h e = found_hit (λ i. nat_eq (place_at_of tb i) q) a n h (eq-eqb (place_at_of tb a) q e)

  pub find_miss : (a : ℕ) → a < n → (place_at_of tb a ≢ q) → find_from tb n q a ≡ find_from tb n q (a + 1)
  unfolding find_from
  find_miss a h e = found_miss (λ i. nat_eq (place_at_of tb i) q) a n h (ne_eqb (place_at_of tb a) q e)

  pub find_end : (a : ℕ) → n ≤ a → find_from tb n q a ≡ a
  unfolding find_from
  find_end a h = found_end (λ i. nat_eq (place_at_of tb i) q) a n h
