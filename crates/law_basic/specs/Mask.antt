-- Laws of masks of drives: one more, all of them (01, Landing: the landed set is a mask). Assumes nothing.
use Rattle.std.specs.Prelude.{◌≡◌, refl, Bool, true, false, cond, ◌||◌, ℕ, zero, suc, ◌+◌, ◌-◌, ◌*◌, ◌/◌, ◌%◌, ◌^◌, ◌≤◌, ◌<◌, get_or, eqb}
use Rattle.std.proofs.Common.{sym, ap, ◌∙◌, subst, arith, pow_pos, lit<, pow-suc, one-mul, mod-lt, mod-eq_of_lt, eqb-true, eq-eqb, ne_eqb}
use Rattle.std.proofs.Math.Bool.{or-false}
use Rattle.std.proofs.Math.Decide.{dec_lt}
use Rattle.std.proofs.Math.ListN.{get_or-eq_default}
use Rattle.std.specs.Int.Bits.{bit_or, or_zero_l}
use Rattle.std.proofs.lemmas.Nat.{or_lt, or_shr, or_mod, ones-le}
use Rattle.std.specs.Int.Count.{ones, ones_step, ones-ones}
use Rattle.std.proofs.Math.Arith.{lt-one}
use Rattle.std.proofs.Math.Pow.{pow-lt}
use Rattle.std.proofs.Math.Nat.{pow-succ', zero-div, div-div-eq-div-mul}
use Rattle.std.proofs.lemmas.Bool.{eqb-false}
use Rattle.spec.specs.Lists.{up_from, below, all, powers, only, is_in}
use Rattle.law_basic.specs.Ranges.{Test, test, not_both, all-below, all_in_below}
use Rattle.law_basic.specs.Ranges.Test.{yes!, no! }

-- all k digits are set
pub ones_full : (k n : ℕ) → n < 2 ^ k → ones n ≡ k → n ≡ 2 ^ k - 1
ones_full zero n h e = lt-one h
ones_full (suc k) n h e =
    let p : 2 ^ suc k ≡ 2 ^ k * 2 = pow-suc 2 k in
    let s : ones n ≡ n % 2 + ones (n / 2) = ones_step n in
    let m : n / 2 < 2 ^ k = omega arith in
    let l : ones (n / 2) ≤ k = ones-le k (n / 2) m in
    let q : 0 < 2 ^ k = pow_pos k in
    let i : n / 2 ≡ 2 ^ k - 1 = ones_full k (n / 2) m (omega arith) in
    omega arith

-- ---- a drive's mask, by a test of the whole table

pub only_pow : (d : ℕ) → d < 8 → only d ≡ 2 ^ d
unfolding only powers all below up_from
only_pow d h = eqb-true (only d) (2 ^ d) (all_in_below (λ k. eqb (only k) (2 ^ k)) 8 d refl h)

pub only_none : (d : ℕ) → 8 ≤ d → only d ≡ 0
unfolding only powers
only_none d h = get_or-eq_default powers 0 h

pub only-lt : (d : ℕ) → only d < 256
only-lt d = go (dec_lt d 8)
  where
    go : Dec (d < 8) → only d < 256
    go (yes h) =
        let p : 2 ^ d < 2 ^ 8 = pow-lt h in
        omega (arith, only_pow d h)
    go (no h) = omega (arith, only_none d (omega arith))

-- 1 << d at 8 bits
pub shl_only : (d : ℕ) → d < 8 → 1 * 2 ^ d % 256 ≡ only d
shl_only d h =
    let p : 2 ^ d < 2 ^ 8 = pow-lt h in
    mod-eq_of_lt (omega arith) ∙ one-mul (2 ^ d) ∙ sym (only_pow d h)

pub is_in_pow : (m d : ℕ) → d < 8 → is_in m d ≡ eqb (m / 2 ^ d % 2) 1
unfolding is_in powers all below up_from
is_in_pow m d h =
    ap (λ (k : ℕ). eqb (m / k % 2) 1) (eqb-true (get_or powers d 256) (2 ^ d) (all_in_below (λ k. eqb (get_or powers k 256) (2 ^ k)) 8 d refl h))

pub is_in_none : (m d : ℕ) → m < 256 → 8 ≤ d → is_in m d ≡ false
unfolding is_in powers
is_in_none m d k h = ap (λ (x : ℕ). eqb (m / x % 2) 1) (get_or-eq_default powers 256 h) ∙ ne_eqb (m / 256 % 2) 1 (omega arith)

pub is_in_empty : (d : ℕ) → is_in 0 d ≡ false
unfolding is_in
is_in_empty d = ap (λ (x : ℕ). eqb (x % 2) 1) (zero-div (get_or powers d 256))

-- digit e of 2 ^ d
pow_digit : (d e : ℕ) → d < 8 → e < 8 → 2 ^ d / 2 ^ e % 2 ≡ cond (eqb e d) 1 0
unfolding all below up_from
pow_digit d e h k =
    eqb-true (2 ^ d / 2 ^ e % 2) (cond (eqb e d) 1 0)
    (all_in_below (λ j. eqb (2 ^ d / 2 ^ j % 2) (cond (eqb j d) 1 0)) 8 e
    (all_in_below (λ i. all (λ j. eqb (2 ^ i / 2 ^ j % 2) (cond (eqb j i) 1 0)) (below 8)) 8 d refl h) k)

or_digit : (x : ℕ) (b : Bool) → x < 2 → eqb (bit_or x (cond b 1 0)) 1 ≡ (b || eqb x 1)
or_digit zero true h = refl
or_digit zero false h = refl
or_digit (suc zero) true h = refl
or_digit (suc zero) false h = refl
or_digit (suc (suc x)) b h = absurd (let q : ⊥ = omega arith in q)

-- a mask with one more drive
pub is_in_with : (m d e : ℕ) → d < 8 → e < 8 → is_in (bit_or m (only d)) e ≡ (eqb e d || is_in m e)
is_in_with m d e h k =
    let x : ℕ = m / 2 ^ e % 2 in
    let p : x < 2 = mod-lt (m / 2 ^ e) (lit< {m = 0} {n = 2} tt) in
    is_in_pow (bit_or m (only d)) e k
    ∙ ap (λ (z : ℕ). eqb (bit_or m z / 2 ^ e % 2) 1) (only_pow d h)
    ∙ ap (λ (z : ℕ). eqb (z % 2) 1) (or_shr m (2 ^ d) e)
    ∙ ap (λ (z : ℕ). eqb z 1) (or_mod (m / 2 ^ e) (2 ^ d / 2 ^ e) 1)
    ∙ ap (λ (z : ℕ). eqb (bit_or x z) 1) (pow_digit d e h k)
    ∙ or_digit x (eqb e d) p
    ∙ ap (λ (z : Bool). eqb e d || z) (sym (is_in_pow m e k))

pub is_in-only : (d e : ℕ) → d < 8 → e < 8 → is_in (only d) e ≡ eqb e d
is_in-only d e h k =
    ap (λ (x : ℕ). is_in x e) (sym (or_zero_l (only d))) ∙ is_in_with 0 d e h k ∙ ap (λ (z : Bool). eqb e d || z) (is_in_empty e) ∙ or-false (eqb e d)

pub with_lt : (k m d : ℕ) → d < k → k ≤ 8 → m < 2 ^ k → bit_or m (only d) < 2 ^ k
with_lt k m d h l g = or_lt k m (only d) g (subst (λ (x : ℕ). x < 2 ^ k) (sym (only_pow d (omega arith))) (pow-lt h))

-- ---- all drives

-- each of the lowest k digits is set
digits_full : (k m : ℕ) → m < 2 ^ k → ((d : ℕ) → d < k → m / 2 ^ d % 2 ≡ 1) → m ≡ 2 ^ k - 1
digits_full zero m h f = lt-one h
digits_full (suc k) m h f =
    let p : 2 ^ suc k ≡ 2 ^ k * 2 = pow-suc 2 k in
    let o : m / 1 % 2 ≡ 1 = f 0 (omega arith) in
    let q : 0 < 2 ^ k = pow_pos k in
    let i : m / 2 ≡ 2 ^ k - 1 = digits_full k (m / 2) (omega arith)
    (λ d g. ap (λ (x : ℕ). x % 2) (div-div-eq-div-mul m 2 (2 ^ d) ∙ ap (λ (x : ℕ). m / x) (sym (pow-succ' 2 d))) ∙ f (suc d) (omega arith)) in
    omega arith

full_digit : (k d : ℕ) → k < 9 → d < k → (2 ^ k - 1) / 2 ^ d % 2 ≡ 1
unfolding all below up_from
full_digit k d h g =
    eqb-true ((2 ^ k - 1) / 2 ^ d % 2) 1
    (all_in_below (λ j. eqb ((2 ^ k - 1) / 2 ^ j % 2) 1) k d
    (all_in_below (λ i. all (λ j. eqb ((2 ^ i - 1) / 2 ^ j % 2) 1) (below i)) 9 k refl h) g)

pub full_in : (k d : ℕ) → k ≤ 8 → d < k → is_in (2 ^ k - 1) d ≡ true
full_in k d h g = is_in_pow (2 ^ k - 1) d (omega arith) ∙ eq-eqb ((2 ^ k - 1) / 2 ^ d % 2) 1 (full_digit k d (omega arith) g)

pub in_full : (k m : ℕ) → k ≤ 8 → m < 2 ^ k → ((d : ℕ) → d < k → is_in m d ≡ true) → m ≡ 2 ^ k - 1
in_full k m h g f = digits_full k m g (λ d l. eqb-true (m / 2 ^ d % 2) 1 (sym (is_in_pow m d (omega arith)) ∙ f d l))

-- 01, Landing: as many drives have landed it as there are drives, just if each of them has
pub ones_all : (k m : ℕ) → k ≤ 8 → m < 2 ^ k → eqb (ones m) k ≡ all (is_in m) (below k)
ones_all k m h g = go (test (eqb (ones m) k)) (test (all (is_in m) (below k)))
  where
    go : Test (eqb (ones m) k) → Test (all (is_in m) (below k)) → eqb (ones m) k ≡ all (is_in m) (below k)
    go (yes! a) (yes! b) = a ∙ sym b
    go (no! a) (no! b) = a ∙ sym b
    go (yes! a) (no! b) =
        let e : m ≡ 2 ^ k - 1 = ones_full k m g (eqb-true (ones m) k a) in
        absurd (not_both (all (is_in m) (below k)) (all-below (is_in m) k (λ d l. ap (λ (x : ℕ). is_in x d) e ∙ full_in k d h l)) b)
    go (no! a) (yes! b) =
        let e : m ≡ 2 ^ k - 1 = in_full k m h g (λ d l. all_in_below (is_in m) k d b l) in
        absurd (eqb-false (ones m) k a (ap ones e ∙ ones-ones k))
