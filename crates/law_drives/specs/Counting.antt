-- Lists of different numbers below a bound, and lists that hold all of them; the greatest of a list.
use Rattle.std.specs.Prelude.{◌≡◌, refl, List, [], ◌∷◌, map, Bool, true, false, not, cond, ◌⊎◌, ◌≢◌, ℕ, zero, suc, ◌≤◌, ◌<◌, ◌-◌, eqb, ltb, length}
use Rattle.std.proofs.Common.{sym, ap, ◌∙◌, subst, inl, inr, eq-eqb, ne_eqb, lt-ltb, le-ltb, arith}
use Rattle.std.proofs.Math.Decide.{ℕ_discrete, dec_lt}
use Rattle.std.proofs.lemmas.Bool.{eqb-false, not-true}
use Rattle.spec.specs.Faults.{twice}
use Rattle.spec.specs.Layout.{Rec}
use Rattle.spec.specs.Lists.{any, cons_if, keep, greatest}
use Rattle.law_basic.specs.Ranges.{Test, test, length-keep}
use Rattle.law_basic.specs.Ranges.Test.{yes!, no! }
use Rattle.law_drives.specs.Members.{In, map_in, in_keep, keep_in, none_in, keep_all}
use Rattle.law_drives.specs.Tests.{or_first, or_right, cond_true, cond_false}

abbrev pub Different : List ℕ → Type 0
Different [] = Unit {0}
Different (a ∷ l) = (In a l → ⊥) × Different l

abbrev without : ℕ → List ℕ → List ℕ
without n l = keep (λ x. not (eqb x n)) l

different_keep : (f : ℕ → Bool) (l : List ℕ) → Different l → Different (keep f l)
unfolding keep cons_if
different_keep f [] h = tt
different_keep f (a ∷ l) h = go (test (f a)) (different_keep f l h.1)
  where
    go : Test (f a) → Different (keep f l) → Different (cons_if (f a) a (keep f l))
    go (yes! q) d = rw q (λ m. h.0 (keep_in f l a m).0, d)
    go (no! q) d = rw q d

-- at most one is taken away
without_less : (n : ℕ) (l : List ℕ) → Different l → length l ≤ suc (length (without n l))
unfolding keep cons_if
without_less n [] h = omega arith
without_less n (a ∷ l) h = go (ℕ_discrete a n) (without_less n l h.1)
  where
    go : Dec (a ≡ n) → length l ≤ suc (length (without n l)) → suc (length l) ≤ suc (length (cons_if (not (eqb a n)) a (without n l)))
    go (no e) ih = let q : eqb a n ≡ false = ne_eqb a n e in rw q (omega arith)
    go (yes e) ih =
        let q : eqb a n ≡ true = eq-eqb a n e in
        let all! : without n l ≡ l = keep_all (λ x. not (eqb x n)) l (λ x m. ap not (ne_eqb x n (λ y. h.0 (subst (λ (k : ℕ). In k l) (y ∙ sym e) m)))) in
        rw q (subst (λ (k : List ℕ). suc (length l) ≤ suc (length k)) (sym all!) (omega arith))

pub different_few : (n : ℕ) (l : List ℕ) → Different l → ((x : ℕ) → In x l → x < n) → length l ≤ n
different_few zero [] h f = omega arith
different_few zero (a ∷ l) h f = absurd (let x = f a (inl refl) in let bad : ⊥ = omega arith in bad)
different_few (suc n) l h f =
    let a = without_less n l h in
    let b = different_few n (without n l) (different_keep (λ x. not (eqb x n)) l h)
    (λ x m. let (i, q) = keep_in (λ x. not (eqb x n)) l x m in let ne = eqb-false x n (not-true (eqb x n) q) in let k = f x i in let z : ¬ (x ≡ n) = ne in omega arith) in
    omega arith

without_more : (n : ℕ) (l : List ℕ) → In n l → suc (length (without n l)) ≤ length l
unfolding keep cons_if
without_more n [] m = absurd m
without_more n (a ∷ l) m = go (ℕ_discrete a n) m (without_more n l)
  where
    least! : length (without n l) ≤ length l
    least! = length-keep (λ x. not (eqb x n)) l

    go : Dec (a ≡ n) → (n ≡ a) ⊎ In n l → (In n l → suc (length (without n l)) ≤ length l) → suc (length (cons_if (not (eqb a n)) a (without n l))) ≤ suc (length l)
    go (yes e) x ih = let q : eqb a n ≡ true = eq-eqb a n e in rw q (let y = least! in omega arith)
    go (no e) (inl x) ih = absurd (e (sym x))
    go (no e) (inr x) ih = let q : eqb a n ≡ false = ne_eqb a n e in rw q (let y = ih x in omega arith)

pub holds-many : (n : ℕ) (l : List ℕ) → ((x : ℕ) → x < n → In x l) → n ≤ length l
holds-many zero l f = omega arith
holds-many (suc n) l f =
    let a = without_more n l (f n (omega arith)) in
    let b = holds-many n (without n l) (λ x h. in_keep (λ x. not (eqb x n)) l x (f x (omega arith)) (ap not (ne_eqb x n (λ e. let bad : ⊥ = omega arith in bad)))) in
    omega arith

-- ---- stripes of records

pub stripes_different : (rs : List Rec) → twice rs ≡ false → Different (map (λ (r : Rec). r.stripe) rs)
unfolding twice
stripes_different [] q = tt
stripes_different (r ∷ rs) q = (
  λ m. let (x, i, e) = map_in (λ (r : Rec). r.stripe) rs r.stripe m in
      eqb-false x.stripe r.stripe (none_in (λ (y : Rec). eqb y.stripe r.stripe) rs (or_first (any (λ (y : Rec). eqb y.stripe r.stripe) rs) (twice rs) q) x i) (sym e),
  stripes_different rs (or_right (any (λ (y : Rec). eqb y.stripe r.stripe) rs) (twice rs) q),
)

-- ---- the greatest

pub in_greatest : (n : ℕ) (l : List ℕ) → In n l → n ≤ greatest l
unfolding greatest
in_greatest n [] m = absurd m
in_greatest n (a ∷ l) (inl e) = omega arith
in_greatest n (a ∷ l) (inr m) = let x = in_greatest n l m in omega arith

pub greatest-low : (b : ℕ) (l : List ℕ) → 0 < b → ((n : ℕ) → In n l → n < b) → greatest l < b
unfolding greatest
greatest-low b [] z f = z
greatest-low b (a ∷ l) z f = let x = greatest-low b l z (λ n m. f n (inr m)) in let y = f a (inl refl) in omega arith

-- f with n taken out of its values
skip : ℕ → ℕ → ℕ
skip x y = cond (ltb y x) y (y - 1)

skip_low : (x y : ℕ) → y < x → skip x y ≡ y
unfolding skip
skip_low x y l = cond_true (ltb y x) y (y - 1) (lt-ltb y x l)

skip_high : (x y : ℕ) → x ≤ y → skip x y ≡ y - 1
unfolding skip
skip_high x y l = cond_false (ltb y x) y (y - 1) (le-ltb y x l)

pub pigeon : (n k : ℕ) (f : ℕ → ℕ) → ((i : ℕ) → i < n → f i < k) → ((i j : ℕ) → i < n → j < n → f i ≡ f j → i ≡ j) → n ≤ k
pigeon zero k f b inj = omega arith
pigeon (suc n) zero f b inj = absurd (let q : ⊥ = omega (arith, b 0 (omega arith)) in q)
pigeon (suc n) (suc k) f b inj = let h : n ≤ k = pigeon n k (λ (i : ℕ). skip (f n) (f i)) low one in omega arith
  where
    differ : (i : ℕ) → i < n → f i ≢ f n
    differ i l e = let q : i ≡ n = inj i n (omega arith) (omega arith) e in let w : ⊥ = omega arith in w

    low : (i : ℕ) → i < n → skip (f n) (f i) < k
    low i l = go (dec_lt (f i) (f n))
      where
        go : Dec (f i < f n) → skip (f n) (f i) < k
        go (yes q) = rw (skip_low (f n) (f i) q) (omega (arith, b n (let w : n < suc n = omega arith in w)))
        go (no q) = rw (skip_high (f n) (f i) (let w : f n ≤ f i = omega arith in w)) (omega (arith, b i (let w : i < suc n = omega arith in w), differ i l))

    one : (i j : ℕ) → i < n → j < n → skip (f n) (f i) ≡ skip (f n) (f j) → i ≡ j
    one i j a c e = inj i j (omega arith) (omega arith) (go (dec_lt (f i) (f n)) (dec_lt (f j) (f n)))
      where
        go : Dec (f i < f n) → Dec (f j < f n) → f i ≡ f j
        go (yes q) (yes w) = sym (skip_low (f n) (f i) q) ∙ e ∙ skip_low (f n) (f j) w
        go (yes q) (no w) =
            let x : f i ≡ f j - 1 = sym (skip_low (f n) (f i) q) ∙ e ∙ skip_high (f n) (f j) (let t : f n ≤ f j = omega arith in t) in
            absurd (let t : ⊥ = omega (arith, x, differ j c, q, w) in t)
        go (no q) (yes w) =
            let x : f i - 1 ≡ f j = sym (skip_high (f n) (f i) (let t : f n ≤ f i = omega arith in t)) ∙ e ∙ skip_low (f n) (f j) w in
            absurd (let t : ⊥ = omega (arith, x, differ i a, q, w) in t)
        go (no q) (no w) =
            let x : f i - 1 ≡ f j - 1 = sym (skip_high (f n) (f i) (let t : f n ≤ f i = omega arith in t)) ∙ e ∙ skip_high (f n) (f j) (let t : f n ≤ f j = omega arith in t) in
            omega (arith, x, differ i a, differ j c, q, w)
