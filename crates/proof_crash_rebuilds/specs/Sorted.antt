-- Rising lists by index, and injective maps of a range into itself reach everything. Assumes nothing.
use Rattle.std.specs.Prelude.{◌≡◌, List, [], ◌∷◌, cond, ◌⊎◌, ◌≢◌, ℕ, zero, suc, ◌≤◌, ◌<◌, ltb, length, get_or}
use Rattle.std.proofs.Common.{sym, ap, ◌∙◌, subst, inl, inr, lt-ltb, le-ltb, arith}
use Rattle.std.proofs.Math.Decide.{dec_lt, ℕ_discrete}
use Rattle.law_drives.specs.Counting.{pigeon}
use Rattle.law_drives.specs.Tests.{cond_true, cond_false}
use Rattle.proof_crash_items.specs.Member.{get_d_has}
use Rattle.proof_crash_items.specs.Refuse.{Rising}

pub rising-lt : (l : List ℕ) → Rising l → (i j : ℕ) → i < j → j < length l → get_or l i 0 < get_or l j 0
rising-lt [] r i j a b = absurd (let q : ⊥ = omega arith in q)
rising-lt (x ∷ l) r zero zero a b = absurd (let q : ⊥ = omega arith in q)
rising-lt (x ∷ l) r zero (suc j) a b = r.0 (get_or l j 0) (get_d_has l j 0 (omega arith))
rising-lt (x ∷ l) r (suc i) zero a b = absurd (let q : ⊥ = omega arith in q)
rising-lt (x ∷ l) r (suc i) (suc j) a b = rising-lt l r.1 i j (omega arith) (omega arith)

pub rising_index : (l : List ℕ) → Rising l → (i j : ℕ) → i < length l → j < length l → get_or l i 0 < get_or l j 0 → i < j
rising_index l r i j a b e = go (dec_lt i j)
  where
    go : Dec (i < j) → i < j
    go (yes q) = q
    go (no q) = two (ℕ_discrete i j)
      where
        two : Dec (i ≡ j) → i < j
        two (yes w) = absurd (let x : get_or l i 0 ≡ get_or l j 0 = ap (λ (n : ℕ). get_or l n 0) w in let y : ⊥ = omega arith in y)
        two (no w) = absurd (let x : get_or l j 0 < get_or l i 0 = rising-lt l r j i (omega arith) a in let y : ⊥ = omega arith in y)

pub rising-one : (l : List ℕ) → Rising l → (i j : ℕ) → i < length l → j < length l → get_or l i 0 ≡ get_or l j 0 → i ≡ j
rising-one l r i j a b e = go (dec_lt i j) (dec_lt j i)
  where
    go : Dec (i < j) → Dec (j < i) → i ≡ j
    go (yes q) w = absurd (let x : get_or l i 0 < get_or l j 0 = rising-lt l r i j q b in let y : ⊥ = omega arith in y)
    go (no q) (yes w) = absurd (let x : get_or l j 0 < get_or l i 0 = rising-lt l r j i w a in let y : ⊥ = omega arith in y)
    go (no q) (no w) = omega arith

-- index k is at most element k
pub rising-least : (l : List ℕ) → Rising l → (k : ℕ) → k < length l → k ≤ get_or l k 0
rising-least l r zero b = omega arith
rising-least l r (suc k) b = let x : k ≤ get_or l k 0 = rising-least l r k (omega arith) in let y : get_or l k 0 < get_or l (suc k) 0 = rising-lt l r k (suc k) (omega arith) b in omega arith

-- ---- onto

find_index : (n : ℕ) (f : ℕ → ℕ) (t : ℕ) → ((i : ℕ) × (i < n) × (f i ≡ t)) ⊎ ((i : ℕ) → i < n → f i ≢ t)
find_index zero f t = inr (λ i l. absurd (let q : ⊥ = omega arith in q))
find_index (suc n) f t = go (ℕ_discrete (f n) t) (find_index n f t)
  where
    go : Dec (f n ≡ t) → ((i : ℕ) × (i < n) × (f i ≡ t)) ⊎ ((i : ℕ) → i < n → f i ≢ t) → ((i : ℕ) × (i < suc n) × (f i ≡ t)) ⊎ ((i : ℕ) → i < suc n → f i ≢ t)
    go (yes e) q = inl (n, omega arith, e)
    go (no e) (inl (i, l, w)) = inl (i, omega arith, w)
    go (no e) (inr q) = inr (λ i l. two i l (ℕ_discrete i n))
      where
        two : (i : ℕ) → i < suc n → Dec (i ≡ n) → f i ≢ t
        two i l (yes w) = λ x. e (ap f (sym w) ∙ x)
        two i l (no w) = q i (omega arith)

pub onto : (n : ℕ) (f : ℕ → ℕ) → ((i : ℕ) → i < n → f i < n) → ((i j : ℕ) → i < n → j < n → f i ≡ f j → i ≡ j) → (t : ℕ) → t < n → (i : ℕ) × (i < n)
    × (f i ≡ t)
onto n f b inj t l = go (find_index n f t)
  where
    -- with t one more
    h : ℕ → ℕ
    h i = cond (ltb i n) (f i) t

    at : (i : ℕ) → i < n → h i ≡ f i
    at i q = cond_true (ltb i n) (f i) t (lt-ltb i n q)

    last : h n ≡ t
    last = cond_false (ltb n n) (f n) t (le-ltb n n (omega arith))

    go : ((i : ℕ) × (i < n) × (f i ≡ t)) ⊎ ((i : ℕ) → i < n → f i ≢ t) → (i : ℕ) × (i < n) × (f i ≡ t)
    go (inl q) = q
    go (inr q) = absurd (let w : suc n ≤ n = pigeon (suc n) n h low one in let x : ⊥ = omega arith in x)
      where
        low : (i : ℕ) → i < suc n → h i < n
        low i a = two (ℕ_discrete i n)
          where
            two : Dec (i ≡ n) → h i < n
            two (yes e) = subst (λ (x : ℕ). x < n) (sym (ap h e ∙ last)) l
            two (no e) = subst (λ (x : ℕ). x < n) (sym (at i (omega arith))) (b i (omega arith))

        one : (i j : ℕ) → i < suc n → j < suc n → h i ≡ h j → i ≡ j
        one i j a c e = two (ℕ_discrete i n) (ℕ_discrete j n)
          where
            two : Dec (i ≡ n) → Dec (j ≡ n) → i ≡ j
            two (yes x) (yes y) = x ∙ sym y
            two (yes x) (no y) = absurd (q j (omega arith) (sym (at j (omega arith)) ∙ sym e ∙ ap h x ∙ last))
            two (no x) (yes y) = absurd (q i (omega arith) (sym (at i (omega arith)) ∙ e ∙ ap h y ∙ last))
            two (no x) (no y) = inj i j (omega arith) (omega arith) (sym (at i (omega arith)) ∙ e ∙ at j (omega arith))
