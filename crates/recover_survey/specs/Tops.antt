-- What a segment's records say: the stripes that count and those that don't (01, Restart, 3; Refusals, 9). Assumes nothing.
use Rattle.std.specs.Prelude.{◌≡◌, refl, List, [], ◌∷◌, map, Bool, true, false, ◌&&◌, ◌||◌, ℕ, zero, suc, ◌+◌, max, ◌≤◌, ◌<◌, eqb, length}
use Rattle.std.proofs.Common.{sym, ap, ap₂, ◌∙◌, zero-add, eq-eqb, ne_eqb, arith}
use Rattle.std.proofs.Math.Nat.{zero-max}
use Rattle.std.proofs.Math.Decide.{dec_lt}
use Rattle.spec.specs.declared.Params.{Params}
use Rattle.spec.specs.Faults.{stripe_fault, address_fault}
use Rattle.spec.specs.Lists.{up_from, below, cons_if, keep, greatest, first_or, same_list}
use Rattle.spec.specs.Segments.{Segment, counted, uncounted}
use Rattle.recover_survey.specs.declared.Tally.{Tally}

-- the last of some stripes + 1; 0 if there is none
unfoldable pub last_of : List ℕ → ℕ
last_of l = greatest (map suc l)

-- the last of the counted stripes + 1; 0 if none counts
unfoldable pub top_of : Params → ℕ → Segment → ℕ
top_of p gone g = last_of (counted p gone g)

-- 01, Refusals, 9: bad: a stripe number or an address; where neither is: how many stripes count, the last of them + 1, those that don't
pub record Surveyed (p : Params) (gone : ℕ) (g : Segment) (t : Tally) : Type 0 where
  pub bad_is : t.bad ≡ (stripe_fault p gone g || address_fault p gone g)
  pub counted_is : t.bad ≡ false → t.counted ≡ length (counted p gone g)
  pub top_is : t.bad ≡ false → t.top ≡ top_of p gone g
  pub loose_is : t.bad ≡ false → t.loose ≡ length (uncounted p gone g)

-- ---- the last of some stripes, and how many they are

pub last_le : (f : ℕ → Bool) (i n : ℕ) → last_of (keep f (up_from i n)) ≤ i + n
unfolding last_of keep up_from cons_if greatest
last_le f i zero = omega arith
last_le f i (suc n) = go (f i) (last_le f (suc i) n)
  where
    go : (b : Bool) → last_of (keep f (up_from (suc i) n)) ≤ suc i + n → last_of (cons_if b i (keep f (up_from (suc i) n))) ≤ i + suc n
    go true h = omega arith
    go false h = omega arith

-- stripes from i on: the last is at least as far as they are many
last_many : (f : ℕ → Bool) (i n : ℕ) → 0 < length (keep f (up_from i n)) → i + length (keep f (up_from i n)) ≤ last_of (keep f (up_from i n))
unfolding last_of keep up_from cons_if greatest
last_many f i zero h = absurd (let q : ⊥ = omega arith in q)
last_many f i (suc n) h = go (f i) (last_many f (suc i) n) h
  where
    go : (b : Bool) → (0 < length (keep f (up_from (suc i) n)) → suc i + length (keep f (up_from (suc i) n)) ≤ last_of (keep f (up_from (suc i) n)))
        → 0 < length (cons_if b i (keep f (up_from (suc i) n)))
        → i + length (cons_if b i (keep f (up_from (suc i) n))) ≤ last_of (cons_if b i (keep f (up_from (suc i) n)))
    go true r h = more (dec_lt 0 (length (keep f (up_from (suc i) n))))
      where
        more : Dec (0 < length (keep f (up_from (suc i) n))) → i + suc (length (keep f (up_from (suc i) n))) ≤ max (suc i) (last_of (keep f (up_from (suc i) n)))
        more (yes k) = omega (arith, r k)
        more (no k) = omega arith
    go false r h = omega (arith, r h)

-- the first is not below the range's start
first_far : (f : ℕ → Bool) (i n : ℕ) → (k : ℕ) → (l : List ℕ) → keep f (up_from i n) ≡ k ∷ l → i ≤ k
unfolding keep up_from cons_if first_or
first_far f i zero k l e = absurd (let z : ◌≡◌ {A = List ℕ} [] (k ∷ l) = e in nil-cons z)
  where
    nil-cons : [] ≡ k ∷ l → ⊥
    nil-cons q = let z : ◌≡◌ {A = ℕ} 0 (suc (length l)) = ap length q in let w : ⊥ = omega (arith, z) in w
first_far f i (suc n) k l e = go (f i) (first_far f (suc i) n k l) e
  where
    go : (b : Bool) → (keep f (up_from (suc i) n) ≡ k ∷ l → suc i ≤ k) → cons_if b i (keep f (up_from (suc i) n)) ≡ k ∷ l → i ≤ k
    go true r e = let q : i ≡ k = ap (first_or 0) e in omega (arith, q)
    go false r e = omega (arith, r e)

same_none : (i : ℕ) → same_list [] (up_from i 0) ≡ eqb (max i (last_of [])) (i + 0)
unfolding last_of greatest same_list up_from
same_none i = sym (eq-eqb (max i 0) (i + 0) (omega arith))

tops_step : (i : ℕ) (m : List ℕ) → same_list m (up_from (suc i) (length m)) ≡ eqb (max (suc i) (last_of m)) (suc i + length m)
    → same_list (cons_if true i m) (up_from i (length (cons_if true i m))) ≡ eqb (max i (last_of (cons_if true i m))) (i + length (cons_if true i m))
unfolding last_of greatest same_list up_from cons_if
tops_step i m e =
    let a : max (suc i) (last_of m) ≡ max i (max (suc i) (last_of m)) = omega arith in
    let b : suc i + length m ≡ i + suc (length m) = omega arith in
    ap (λ (x : Bool). x && same_list m (up_from (suc i) (length m))) (eq-eqb i i refl) ∙ e ∙ ap₂ eqb a b

gap_false : (i k : ℕ) (l : List ℕ) → eqb k i ≡ false → same_list (k ∷ l) (up_from i (length (k ∷ l))) ≡ false
unfolding same_list up_from
gap_false i k l e = ap (λ (x : Bool). x && same_list l (up_from (suc i) (length l))) e

same_gap : (i : ℕ) (m : List ℕ) → ((k : ℕ) (l : List ℕ) → m ≡ k ∷ l → suc i ≤ k) → (0 < length m → suc i + length m ≤ last_of m)
    → same_list (cons_if false i m) (up_from i (length (cons_if false i m))) ≡ eqb (max i (last_of (cons_if false i m))) (i + length (cons_if false i m))
unfolding cons_if
same_gap i [] far many = same_none i
same_gap i (k ∷ l) far many = gap i k l (far k l refl) (many (omega arith))
  where
    gap : (i k : ℕ) (l : List ℕ) → suc i ≤ k → suc i + length (k ∷ l) ≤ last_of (k ∷ l)
        → same_list (k ∷ l) (up_from i (length (k ∷ l))) ≡ eqb (max i (last_of (k ∷ l))) (i + length (k ∷ l))
    gap i k l h w = gap_false i k l (ne_eqb k i (λ q. omega arith)) ∙ sym (ne_eqb (max i (last_of (k ∷ l))) (i + length (k ∷ l)) (λ q. omega arith))

same_from : (f : ℕ → Bool) (i n : ℕ)
    → same_list (keep f (up_from i n)) (up_from i (length (keep f (up_from i n)))) ≡ eqb (max i (last_of (keep f (up_from i n)))) (i + length (keep f (up_from i n)))
unfolding keep up_from
same_from f i zero = same_none i
same_from f i (suc n) = go (f i) (keep f (up_from (suc i) n)) (same_from f (suc i) n) (first_far f (suc i) n) (last_many f (suc i) n)
  where
    go : (b : Bool) (m : List ℕ) → same_list m (up_from (suc i) (length m)) ≡ eqb (max (suc i) (last_of m)) (suc i + length m)
        → ((k : ℕ) (l : List ℕ) → m ≡ k ∷ l → suc i ≤ k) → (0 < length m → suc i + length m ≤ last_of m)
        → same_list (cons_if b i m) (up_from i (length (cons_if b i m))) ≡ eqb (max i (last_of (cons_if b i m))) (i + length (cons_if b i m))
    go true m e far many = tops_step i m e
    go false m e far many = same_gap i m far many

-- stripes 0, 1, .. without a gap: as many as the last is far
pub same_top : (f : ℕ → Bool) (n : ℕ) → same_list (keep f (below n)) (below (length (keep f (below n)))) ≡ eqb (last_of (keep f (below n))) (length (keep f (below n)))
unfolding below
same_top f n = same_from f 0 n ∙ ap₂ eqb (zero-max (last_of (keep f (up_from 0 n)))) (zero-add (length (keep f (up_from 0 n))))
