-- Tests taken apart.
use Rattle.std.specs.Prelude.{◌≡◌, refl, Bool, true, false, cond, ◌&&◌, ◌||◌, ◌⊎◌, ℕ, eqb}
use Rattle.std.proofs.Common.{sym, ◌∙◌, true≢false, inl, inr, eq-eqb}
use Rattle.std.proofs.lemmas.Bool.{false≢true}

-- ---- contradictions

pub clash : {X : Type 0} {b : Bool} → b ≡ true → b ≡ false → X
clash {X} {b} p q = absurd (true≢false (sym p ∙ q))

pub true_false : {X : Type 0} → true ≡ false → X
true_false q = absurd (true≢false q)

pub false_true : {X : Type 0} → false ≡ true → X
false_true q = absurd (false≢true q)

-- ---- and, or, not

pub and_false_left : (a b : Bool) → a ≡ false → a && b ≡ false
and_false_left true b p = true_false p
and_false_left false b p = refl

pub and_false_right : (a b : Bool) → b ≡ false → a && b ≡ false
and_false_right true b p = p
and_false_right false b p = refl

pub or_first : (a b : Bool) → a || b ≡ false → a ≡ false
or_first true b q = q
or_first false b q = refl

pub or_right : (a b : Bool) → a || b ≡ false → b ≡ false
or_right true b q = true_false q
or_right false b q = q

pub or_neither : (a b : Bool) → a ≡ false → b ≡ false → a || b ≡ false
or_neither true b p q = p
or_neither false b p q = q

pub or_true_left : (a b : Bool) → a ≡ true → a || b ≡ true
or_true_left true b p = refl
or_true_left false b p = false_true p

pub or_true_right : (a b : Bool) → b ≡ true → a || b ≡ true
or_true_right true b p = refl
or_true_right false b p = p

pub or_cases : (a b : Bool) → a || b ≡ true → (a ≡ true) ⊎ (b ≡ true)
or_cases true b q = inl refl
or_cases false b q = inr q

-- a test that is not true is false
pub not_so : (b : Bool) → (b ≡ true → ⊥) → b ≡ false
not_so true h = absurd (h refl)
not_so false h = refl

-- two tests that mean the same
pub same_test : (a b : Bool) → (a ≡ true → b ≡ true) → (b ≡ true → a ≡ true) → a ≡ b
same_test true b f g = sym (f refl)
same_test false true f g = g refl
same_test false false f g = refl

pub cond_true : {A : Type 0} (b : Bool) (x y : A) → b ≡ true → cond b x y ≡ x
cond_true true x y p = refl
cond_true false x y p = false_true p

pub cond_false : {A : Type 0} (b : Bool) (x y : A) → b ≡ false → cond b x y ≡ y
cond_false true x y p = true_false p
cond_false false x y p = refl

pub cond_same : {A : Type 0} (b : Bool) (x : A) → cond b x x ≡ x
cond_same true x = refl
cond_same false x = refl

-- ---- numbers: equality tests

pub eqb_self : (n : ℕ) → eqb n n ≡ true
eqb_self n = eq-eqb n n refl
