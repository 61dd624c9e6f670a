-- The lowest number of a range that passes a test is the one that refusal 9 names (01, Refusals). Assumes nothing.
use Rattle.std.specs.Prelude.{◌≡◌, Bool, true, false, ℕ, zero, suc, ◌+◌, ◌≤◌, ◌<◌}
use Rattle.std.proofs.Math.Path.{refl, ap, subst}
use Rattle.std.proofs.Common.{sym, ◌∙◌, zero-add}
use mathlib.Core.List.{List, [], ◌∷◌}
use native.Mathlib.Omega.{arith}
use Rattle.spec.specs.declared.Answer.TheVariants.{BadZone}
use Rattle.spec.specs.Calls.{Check, ninth, first_refusal}
use Rattle.spec.specs.Calls.Check.{zones}
use Rattle.spec.specs.Lists.Opt.{some}
use Rattle.spec.specs.Lists.{up_from, below, cons_if, keep, least, first_or}

-- ---- the least is the first

-- every number of the list is b or more, and below e
abbrev Within : ℕ → ℕ → List ℕ → Type 0
Within b e [] = Unit {0}
Within b e (k ∷ l) = (b ≤ k) × (k < e) × Within b e l

within_lower : (b c e : ℕ) (l : List ℕ) → c ≤ b → Within b e l → Within c e l
within_lower b c e [] h w = tt
within_lower b c e (k ∷ l) h w = (omega (arith, w.0), w.1, within_lower b c e l h w.2)

keep_within : (f : ℕ → Bool) (i n e : ℕ) → i + n ≤ e → Within i e (keep f (up_from i n))
unfolding keep up_from cons_if
keep_within f i zero e h = tt
keep_within f i (suc n) e h = go (f i) (keep_within f (suc i) n e (omega arith))
  where
    go : (b : Bool) → Within (suc i) e (keep f (up_from (suc i) n)) → Within i e (cons_if b i (keep f (up_from (suc i) n)))
    go true w = (omega arith, omega arith, within_lower (suc i) i e (keep f (up_from (suc i) n)) (omega arith) w)
    go false w = within_lower (suc i) i e (keep f (up_from (suc i) n)) (omega arith) w

least_first : (k e : ℕ) (l : List ℕ) → Within k e l → least k l ≡ k
unfolding least
least_first k e [] w = refl
least_first k e (j ∷ l) w = ap (λ (x : ℕ). least x l) (let h : k ≤ j = w.0 in omega (arith, h)) ∙ least_first k e l w.2

-- the first of those that pass bounds the others
keep_first : (f : ℕ → Bool) (i n : ℕ) → Within (first_or (i + n) (keep f (up_from i n))) (i + n) (keep f (up_from i n))
unfolding keep up_from cons_if first_or
keep_first f i zero = tt
keep_first f i (suc n) = go (f i) (subst (λ (x : ℕ). Within (first_or x (keep f (up_from (suc i) n))) x (keep f (up_from (suc i) n))) (omega arith) (keep_first f (suc i) n))
  where
    go : (b : Bool) → Within (first_or (i + suc n) (keep f (up_from (suc i) n))) (i + suc n) (keep f (up_from (suc i) n))
        → Within (first_or (i + suc n) (cons_if b i (keep f (up_from (suc i) n)))) (i + suc n) (cons_if b i (keep f (up_from (suc i) n)))
    go true w = (omega arith, omega arith, within_lower (suc i) i (i + suc n) (keep f (up_from (suc i) n)) (omega arith) (keep_within f (suc i) n (i + suc n) (omega arith)))
    go false w = w

-- ---- refusal 9: l are the zones below n that pass a test

module _ (f : ℕ → Bool) (n : ℕ) (l : List ℕ) (is : l ≡ keep f (below n)) where
  bounded : Within (first_or n l) n l
  unfolding below
  bounded = subst (λ (m : List ℕ). Within (first_or n m) n m) (sym is) (subst (λ (x : ℕ). Within (first_or x (keep f (up_from 0 n))) x (keep f (up_from 0 n))) (zero-add n) (keep_first f 0 n))

  -- none passes
  pub low_none : first_or n l ≡ n → l ≡ []
  unfolding first_or
  low_none = go l bounded
    where
      go : (m : List ℕ) → Within (first_or n m) n m → first_or n m ≡ n → m ≡ []
      go [] w e = refl
      go (k ∷ m) w e = absurd (let h : k < n = w.1 in let q : ⊥ = omega (arith, h, e) in q)

  -- one passes: the lowest is named
  pub low-named : (cs : List Check) → first_or n l < n → first_refusal (zones l ∷ cs) ≡ some (BadZone (first_or n l))
  unfolding first_refusal first_or ninth
  low-named cs = go l bounded
    where
      go : (m : List ℕ) → Within (first_or n m) n m → first_or n m < n → ninth m (first_refusal cs) ≡ some (BadZone (first_or n m))
      go [] w e = absurd (let q : ⊥ = omega arith in q)
      go (k ∷ m) w e = ap (λ (x : ℕ). some (BadZone x)) (least_first k n m w.2)

  pub low-le : first_or n l ≤ n
  unfolding first_or
  low-le = go l bounded
    where
      go : (m : List ℕ) → Within (first_or n m) n m → first_or n m ≤ n
      go [] w = omega arith
      go (k ∷ m) w = let h : k < n = w.1 in omega (arith, h)
