-- The first number of a range that passes a test, and the next one (02, item 4). Assumes nothing.
use Rattle.std.specs.Prelude.{◌≡◌, refl, List, [], ◌∷◌, Bool, true, false, ℕ, zero, suc, ◌+◌, ◌-◌, ◌≤◌, ◌<◌, Option, Some, None, is_some, unwrap_or, IfSome}
use Rattle.std.proofs.Common.{sym, ap₂, ◌∙◌, subst, arith}
use Rattle.std.proofs.Math.Path.{ap}
use Rattle.spec.specs.Lists.{up_from, keep, cons_if, first_or}
use Rattle.law_basic.specs.Ranges.{Test, test}
use Rattle.law_basic.specs.Ranges.Test.{yes!, no! }
use Rattle.disk_gather.specs.Found.{lowest_turn, lowest_pass, lowest_end}

-- the lowest number from i on, below n, that passes; n where none does
unfoldable pub next_one : (ℕ → Bool) → ℕ → ℕ → ℕ
next_one f n i = first_or n (keep f (up_from i (n - i)))

-- one that is found lies below n, and where none is n stands for it
pub some_low : (o : Option ℕ) (n : ℕ) → is_some o ≡ true → IfSome o (λ y. y < n) → unwrap_or o n < n
some_low None n e l = absurd (let q : ◌≡◌ {A = ℕ} 0 1 = cc in let w : ⊥ = omega arith in w)
some_low (Some y) n e l = l

pub none_high : (o : Option ℕ) (n : ℕ) → is_some o ≡ false → n ≤ unwrap_or o n
none_high None n e = omega arith
none_high (Some y) n e = absurd (let q : ◌≡◌ {A = ℕ} 0 1 = cc in let w : ⊥ = omega arith in w)

-- one turn of a search, and its end
module _ (f : ℕ → Bool) (n i : ℕ) where
  pub next_hit : i < n → f i ≡ true → next_one f n i ≡ i
  unfolding next_one
  next_hit = lowest_turn f n i n

  pub next_miss : i < n → f i ≡ false → next_one f n i ≡ next_one f n (i + 1)
  unfolding next_one
  next_miss = lowest_pass f n i n

  pub next_end : n ≤ i → next_one f n i ≡ n
  unfolding next_one
  next_end = lowest_end f n i n

-- ---- what the first and the next say of all

none_from : (f : ℕ → Bool) (n i m : ℕ) → i + m ≤ n → n ≤ first_or n (keep f (up_from i m)) → keep f (up_from i m) ≡ []
unfolding keep up_from cons_if first_or
none_from f n i zero h l = refl
none_from f n i (suc m) h l = go (test (f i)) (none_from f n (suc i) m (omega arith)) l
  where
    go : Test (f i) → (n ≤ first_or n (keep f (up_from (suc i) m)) → keep f (up_from (suc i) m) ≡ []) → n ≤ first_or n (cons_if (f i) i (keep f (up_from (suc i) m)))
        → cons_if (f i) i (keep f (up_from (suc i) m)) ≡ []
    go (yes! q) ih x = let y : n ≤ i = rw q at x in absurd (let z : ⊥ = omega arith in z)
    go (no! q) ih x = rw q (ih (rw q at x))

split_from : (f : ℕ → Bool) (n i m : ℕ) → i + m ≡ n → first_or n (keep f (up_from i m)) < n
    → keep f (up_from i m) ≡ first_or n (keep f (up_from i m)) ∷ keep f (up_from (first_or n (keep f (up_from i m)) + 1) (n - (first_or n (keep f (up_from i m)) + 1)))
unfolding keep up_from cons_if first_or
split_from f n i zero h l = absurd (let q : ⊥ = omega arith in q)
split_from f n i (suc m) h l = go (test (f i)) (split_from f n (suc i) m (omega arith)) l
  where
    Split : ℕ → List ℕ → Type 0
    Split y xs = xs ≡ y ∷ keep f (up_from (y + 1) (n - (y + 1)))

    go : Test (f i) → (first_or n (keep f (up_from (suc i) m)) < n → Split (first_or n (keep f (up_from (suc i) m))) (keep f (up_from (suc i) m)))
        → first_or n (cons_if (f i) i (keep f (up_from (suc i) m))) < n
        → Split (first_or n (cons_if (f i) i (keep f (up_from (suc i) m)))) (cons_if (f i) i (keep f (up_from (suc i) m)))
    go (yes! q) ih x =
        let a : suc i ≡ i + 1 = omega arith in
        let b : m ≡ n - (i + 1) = omega arith in
        rw q (ap (λ (xs : List ℕ). i ∷ keep f xs) (ap₂ up_from a b))
    go (no! q) ih x = rw q (ih (rw q at x))

module _ (f : ℕ → Bool) (n i : ℕ) (h : i ≤ n) where
  pub next_none : n ≤ next_one f n i → keep f (up_from i (n - i)) ≡ []
  unfolding next_one
  next_none l = none_from f n i (n - i) (omega arith) l

  pub next_split : (y : ℕ) → y < n → y ≡ next_one f n i → keep f (up_from i (n - i)) ≡ y ∷ keep f (up_from (y + 1) (n - (y + 1)))
  unfolding next_one
  next_split y l e = split_from f n i (n - i) (omega arith) (subst (λ (k : ℕ). k < n) e l)
      ∙ ap (λ (k : ℕ). k ∷ keep f (up_from (k + 1) (n - (k + 1)))) (sym e)
