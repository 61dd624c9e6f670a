-- Loops over 0 to n - 1: what a test over the rest of the range is at a hit, at a miss, at the end and at the start. Assumes nothing.
use Rattle.std.specs.Prelude.{ℕ, suc, ◌+◌, ◌-◌, ◌≤◌, ◌<◌, eqb, length, Bool, true, false, ◌&&◌, ◌||◌, List, [], ◌∷◌, ◌≡◌, refl}
use Rattle.spec.specs.Lists.{up_from, below, all, any, cons_if, keep, is_nil}
use Rattle.law_basic.specs.Ranges.{up_from_step, up_from_end, below-start, all_hit, all_miss, any_hit, any_miss, all_none, any_none, keep_hit, keep_miss, keep_none}
use Rattle.std.proofs.Common.{ne_eqb, sym, ap, ◌∙◌, add-zero, zero-add, arith}

module _ (f : ℕ → Bool) (i n : ℕ) where
  pub any_found : i < n → f i ≡ true → any f (up_from i (n - i)) ≡ true
  any_found h e = ap (any f) (up_from_step i n h) ∙ any_hit f i (up_from (i + 1) (n - (i + 1))) e

  pub any_passed : i < n → f i ≡ false → any f (up_from i (n - i)) ≡ any f (up_from (i + 1) (n - (i + 1)))
  any_passed h e = ap (any f) (up_from_step i n h) ∙ any_miss f i (up_from (i + 1) (n - (i + 1))) e

  pub any-ended : n ≤ i → any f (up_from i (n - i)) ≡ false
  any-ended h = ap (any f) (up_from_end i n h) ∙ any_none f

  pub all_broken : i < n → f i ≡ false → all f (up_from i (n - i)) ≡ false
  all_broken h e = ap (all f) (up_from_step i n h) ∙ all_miss f i (up_from (i + 1) (n - (i + 1))) e

  pub all_passed : i < n → f i ≡ true → all f (up_from i (n - i)) ≡ all f (up_from (i + 1) (n - (i + 1)))
  all_passed h e = ap (all f) (up_from_step i n h) ∙ all_hit f i (up_from (i + 1) (n - (i + 1))) e

  pub all-ended : n ≤ i → all f (up_from i (n - i)) ≡ true
  all-ended h = ap (all f) (up_from_end i n h) ∙ all_none f

  -- k passed so far
  pub kept-one : (k : ℕ) → i < n → f i ≡ true → k + length (keep f (up_from i (n - i))) ≡ k + 1 + length (keep f (up_from (i + 1) (n - (i + 1))))
  kept-one k h e =
      let m = up_from (i + 1) (n - (i + 1)) in
      let q : length (keep f (i ∷ m)) ≡ suc (length (keep f m)) = ap length (keep_hit f i m e) in
      ap (λ (x : List ℕ). k + length (keep f x)) (up_from_step i n h) ∙ omega (arith, q)

  pub kept_none : (k : ℕ) → i < n → f i ≡ false → k + length (keep f (up_from i (n - i))) ≡ k + length (keep f (up_from (i + 1) (n - (i + 1))))
  kept_none k h e =
      let m = up_from (i + 1) (n - (i + 1)) in
      ap (λ (x : List ℕ). k + length (keep f x)) (up_from_step i n h) ∙ ap (λ (x : List ℕ). k + length x) (keep_miss f i m e)

  pub kept-ended : (k : ℕ) → n ≤ i → k + length (keep f (up_from i (n - i))) ≡ k
  kept-ended k h = ap (λ (x : List ℕ). k + length (keep f x)) (up_from_end i n h) ∙ ap (λ (x : List ℕ). k + length x) (keep_none f) ∙ add-zero k

pub any-start : (f : ℕ → Bool) (n : ℕ) → any f (up_from 0 (n - 0)) ≡ any f (below n)
any-start f n = ap (any f) (sym (below-start n))

pub all_start : (f : ℕ → Bool) (n : ℕ) → all f (up_from 0 (n - 0)) ≡ all f (below n)
all_start f n = ap (all f) (sym (below-start n))

pub kept-start : (f : ℕ → Bool) (n : ℕ) → 0 + length (keep f (up_from 0 (n - 0))) ≡ length (keep f (below n))
kept-start f n = zero-add (length (keep f (up_from 0 (n - 0)))) ∙ ap (λ (x : List ℕ). length (keep f x)) (sym (below-start n))

pub is_nil-length : {A : Type 0} (l : List A) → is_nil l ≡ eqb (length l) 0
unfolding is_nil
is_nil-length [] = refl
is_nil-length (a ∷ l) = sym (ne_eqb (suc (length l)) 0 (λ q. omega arith))

-- a test over those that pass another
pub any-keep : {A : Type 0} (f g : A → Bool) (l : List A) → any g (keep f l) ≡ any (λ (a : A). f a && g a) l
unfolding any keep cons_if
any-keep f g [] = refl
any-keep {A} f g (a ∷ l) = go (f a) (any-keep f g l)
  where
    go : (b : Bool) → any g (keep f l) ≡ any (λ (x : A). f x && g x) l → any g (cons_if b a (keep f l)) ≡ ((b && g a) || any (λ (x : A). f x && g x) l)
    go true e = ap (λ (x : Bool). g a || x) e
    go false e = e
