-- Sets of drives as masks: how many are in, one that is out, the lowest that is out. Assumes nothing.
use Rattle.std.specs.Prelude.{◌≡◌, refl, ◌⊎◌, ◌≢◌, Bool, true, false, ℕ, zero, suc, ◌+◌, ◌≤◌, ◌<◌}
use Rattle.std.proofs.Common.{sym, ap, ◌∙◌, subst, inl, inr, ⊎_elim, arith}
use Rattle.std.proofs.Math.Decide.{ℕ_discrete}

abbrev pub Mask : Type 0
Mask = ℕ → Bool

pub tf : {A : Type 0} {b : Bool} → b ≡ true → b ≡ false → A
tf {A} {b} e f = let q : true ≡ false = sym e ∙ f in absurd (let z : ◌≡◌ {A = ℕ} 0 1 = cc in let j : ⊥ = omega arith in j)

pub two : (b : Bool) → (b ≡ true) ⊎ (b ≡ false)
two true = inl refl
two false = inr refl

unfoldable pub one : Bool → ℕ
one true = 1
one false = 0

unfoldable pub count : ℕ → Mask → ℕ
count zero m = 0
count (suc n) m = one (m n) + count n m

pub one_true : (b : Bool) → b ≡ true → one b ≡ 1
unfolding one
one_true true e = refl
one_true false e = tf e refl

pub one_false : (b : Bool) → b ≡ false → one b ≡ 0
unfolding one
one_false true e = tf refl e
one_false false e = refl

-- if fewer than all are in, one is out
pub mask_outside : (n : ℕ) (m : Mask) → count n m < n → (d : ℕ) × (d < n) × (m d ≡ false)
unfolding count
mask_outside zero m h = absurd (let q : ⊥ = omega arith in q)
mask_outside (suc n) m h = ⊎_elim
    (λ (e : m n ≡ true). let r : (d : ℕ) × (d < n) × (m d ≡ false) = mask_outside n m (omega (arith, h, one_true (m n) e)) in (r.0, omega (arith, r.1), r.2))
    (λ (e : m n ≡ false). (n, omega arith, e)) (two (m n))

pub count_none : (n : ℕ) (m : Mask) → ((d : ℕ) → d < n → m d ≡ false) → count n m ≡ 0
unfolding count
count_none zero m h = refl
count_none (suc n) m h = omega (arith, one_false (m n) (h n (omega arith)), count_none n m (λ d l. h d (omega arith)))

pub count_some : (n : ℕ) (m : Mask) (d : ℕ) → d < n → m d ≡ true → 1 ≤ count n m
unfolding count
count_some zero m d l e = absurd (let q : ⊥ = omega arith in q)
count_some (suc n) m d l e = go (ℕ_discrete d n) (count_some n m d)
  where
    go : Dec (d ≡ n) → (d < n → m d ≡ true → 1 ≤ count n m) → 1 ≤ one (m n) + count n m
    go (yes q) ih = omega (arith, one_true (m n) (sym (ap m q) ∙ e))
    go (no q) ih = omega (arith, ih (omega arith) e)

-- of at most one, another is out
pub count_two : (n : ℕ) (m : Mask) (d e : ℕ) → d < n → e < n → d ≢ e → m d ≡ true → m e ≡ true → 2 ≤ count n m
unfolding count
count_two zero m d e l k w a b = absurd (let q : ⊥ = omega arith in q)
count_two (suc n) m d e l k w a b = go (ℕ_discrete d n) (ℕ_discrete e n) (count_two n m d e)
  where
    go : Dec (d ≡ n) → Dec (e ≡ n) → (d < n → e < n → d ≢ e → m d ≡ true → m e ≡ true → 2 ≤ count n m) → 2 ≤ one (m n) + count n m
    go (yes q) (yes r) ih = absurd (w (q ∙ sym r))
    go (yes q) (no r) ih = omega (arith, one_true (m n) (sym (ap m q) ∙ a), count_some n m e (omega arith) b)
    go (no q) (yes r) ih = omega (arith, one_true (m n) (sym (ap m r) ∙ b), count_some n m d (omega arith) a)
    go (no q) (no r) ih = omega (arith, ih (omega arith) (omega arith) w a b)

-- one with a property, or none
pub search : (n : ℕ) (Q : ℕ → Type 0) → ((d : ℕ) → Dec (Q d)) → ((d : ℕ) × (d < n) × Q d) ⊎ ((d : ℕ) → d < n → Q d → ⊥)
search zero Q dec = inr (λ d l. absurd (let q : ⊥ = omega arith in q))
search (suc n) Q dec = go (dec n) (search n Q dec)
  where
    go : Dec (Q n) → ((d : ℕ) × (d < n) × Q d) ⊎ ((d : ℕ) → d < n → Q d → ⊥) → ((d : ℕ) × (d < suc n) × Q d) ⊎ ((d : ℕ) → d < suc n → Q d → ⊥)
    go (yes a) ih = inl (n, omega arith, a)
    go (no a) (inl (d, l, b)) = inl (d, omega arith, b)
    go (no a) (inr b) = inr (λ d l q. case d l q (ℕ_discrete d n))
      where
        case : (d : ℕ) → d < suc n → Q d → Dec (d ≡ n) → ⊥
        case d l q (yes e) = a (subst Q e q)
        case d l q (no e) = b d (omega arith) q

-- some drive of a is not in b, or all are
pub within : (n : ℕ) (a b : Mask) → ((d : ℕ) × (d < n) × (a d ≡ true) × (b d ≡ false)) ⊎ ((d : ℕ) → d < n → a d ≡ true → b d ≡ true)
within n a b = ⊎_elim (λ (k : (d : ℕ) × (d < n) × ((a d ≡ true) × (b d ≡ false))). inl (k.0, k.1, k.2.0, k.2.1))
    (λ (k : (d : ℕ) → d < n → (a d ≡ true) × (b d ≡ false) → ⊥). inr (λ d l e. ⊎_elim (λ q. q) (λ (q : b d ≡ false). absurd (k d l (e, q))) (two (b d))))
    (search n (λ (d : ℕ). (a d ≡ true) × (b d ≡ false)) (λ d. dec (a d) (b d)))
  where
    dec : (x y : Bool) → Dec ((x ≡ true) × (y ≡ false))
    dec true true = no (λ q. tf refl q.1)
    dec true false = yes (refl, refl)
    dec false true = no (λ q. tf q.0 refl)
    dec false false = no (λ q. tf q.0 refl)

-- ---- the lowest that is out, from k on
unfoldable pub low_from : Mask → ℕ → ℕ → ℕ
low_from m k zero = k
low_from m k (suc n) = elim (m k) [ true ↦ low_from m (suc k) n | false ↦ k ]

unfoldable pub low : Mask → ℕ → ℕ
low m n = low_from m 0 n

pub low_from_is : (m : Mask) (k n d : ℕ) → k ≤ d → d < k + n → m d ≡ false → (low_from m k n < k + n) × (m (low_from m k n) ≡ false)
unfolding low_from
low_from_is m k zero d a b e = absurd (let q : ⊥ = omega arith in q)
low_from_is m k (suc n) d a b e = go (m k) refl (low_from_is m (suc k) n d)
  where
    go : (x : Bool) → m k ≡ x → (suc k ≤ d → d < suc k + n → m d ≡ false → (low_from m (suc k) n < suc k + n) × (m (low_from m (suc k) n) ≡ false))
        → (elim x as (λ _. ℕ) [ true ↦ low_from m (suc k) n | false ↦ k ] < k + suc n) × (m (elim x as (λ _. ℕ) [ true ↦ low_from m (suc k) n | false ↦ k ]) ≡ false)
    go true q ih =
        let ne : k ≢ d = λ w. tf q (ap m w ∙ e) in
        let r : (low_from m (suc k) n < suc k + n) × (m (low_from m (suc k) n) ≡ false) = ih (omega arith) (omega arith) e in
        (omega (arith, r.0), r.1)
    go false q ih = (omega arith, q)

-- if all that are in are one, there is at most one
pub count-only : (n : ℕ) (m : Mask) (d : ℕ) → ((e : ℕ) → e < n → m e ≡ true → e ≡ d) → count n m ≤ 1
unfolding count
count-only zero m d h = omega arith
count-only (suc n) m d h = ⊎_elim
    (λ (e : m n ≡ true). omega (arith, one_true (m n) e, count_none n m (λ k l. out e k l (two (m k)))))
    (λ (e : m n ≡ false). omega (arith, one_false (m n) e, count-only n m d (λ k l. h k (omega arith)))) (two (m n))
  where
    out : m n ≡ true → (k : ℕ) → k < n → (m k ≡ true) ⊎ (m k ≡ false) → m k ≡ false
    out e k l (inr q) = q
    out e k l (inl q) = absurd (let i : k ≡ d = h k (omega arith) q in let j : n ≡ d = h n (omega arith) e in let z : ⊥ = omega (arith, i, j, l) in z)
