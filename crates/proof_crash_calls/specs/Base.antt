-- Small laws: tests, the eighths, counting. Assumes nothing.
use Rattle.std.specs.Prelude.{◌≡◌, refl, List, [], ◌∷◌, Bool, not, ◌&&◌, ◌||◌, ◌⊎◌, ◌≢◌, eqb}
use Rattle.std.proofs.Common.{sym, ◌∙◌, inl, inr, lt-ltb, eq-eqb, ne_eqb, arith}
use Rattle.std.proofs.Math.Path.{ap}
use Rattle.std.proofs.Math.Bool.{true, false}
use Prim.Native.Nat.{ℕ, zero, suc, ◌+◌, ◌≤◌, ◌<◌}
use Rattle.std.proofs.Math.Decide.{ℕ_discrete}
use Rattle.std.proofs.lemmas.Bool.{eqb-false, not-true}
use Rattle.std.proofs.Math.ListN.{length}
use Rattle.spec.specs.Lists.{up_from, below, any, cons_if, keep, index_of}
use Rattle.spec.specs.Memory.{slot_count, slots}
use Rattle.law_basic.specs.Ranges.{Test, test, length-below, index_of_any, and_fails, or_left}
use Rattle.law_basic.specs.Ranges.Test.{yes!, no! }
use Rattle.law_drives.specs.Tests.{clash}
use Rattle.proof_crash_machine.specs.Exec.{true≢false, and_1, and_2}
use Rattle.proof_crash_machine.specs.Memory.{set_at, set_at_elim}
use Rattle.proof_crash_items.specs.Member.{Has, has_keep, keep-nil, up_from_has, below_has, has_below, any_has, any_false_in}

-- ---- tests

pub or_r : (a b : Bool) → (a || b) ≡ false → b ≡ false
or_r true b e = true≢false (sym e)
or_r false b e = e

pub eqb_self : (n : ℕ) → eqb n n ≡ true
eqb_self n = eq-eqb n n refl

-- ---- the first index

pub slot_any : (f : ℕ → Bool) → index_of f slots < 8 → any f slots ≡ true
unfolding slots slot_count
slot_any f b = sym (index_of_any f (below 8)) ∙ lt-ltb (index_of f (below 8)) (length (below 8)) (omega (arith, length-below 8))

pub has_slot : (i : ℕ) → i < 8 → Has i slots
unfolding slots slot_count
has_slot i b = has_below i 8 b

-- ---- counting

-- if none passes f, all pass its negation
pub keep_rest : {A : Type 0} (f : A → Bool) (l : List A) → any f l ≡ false → length (keep (λ a. not (f a)) l) ≡ length l
unfolding any keep
keep_rest f [] e = refl
keep_rest f (a ∷ l) e = go (f a) (or_left (f a) (any f l) e) (keep_rest f l (or_r (f a) (any f l) e))
  where
    go : (b : Bool) → b ≡ false → length (keep (λ a. not (f a)) l) ≡ length l → length (cons_if (not b) a (keep (λ a. not (f a)) l)) ≡ suc (length l)
    go true q ih = true≢false (sym q)
    go false q ih = unfold cons_if in ap suc ih

keep-at_most_one : (f : ℕ → Bool) (i k n : ℕ) → ((j : ℕ) → k ≤ j → j < k + n → j ≢ i → f j ≡ false) → length (keep f (up_from k n)) ≤ 1
unfolding up_from keep
keep-at_most_one f i k zero h = omega arith
keep-at_most_one f i k (suc n) h = go (ℕ_discrete k i) (f k) refl (keep-at_most_one f i (suc k) n (λ j a b. h j (omega arith) (omega arith)))
  where
    rest : k ≡ i → keep f (up_from (suc k) n) ≡ []
    rest e = keep-nil f (up_from (suc k) n) (λ j m. let r : (suc k ≤ j) × (j < suc k + n) = up_from_has j (suc k) n m in h j (omega (arith, r.0)) (omega (arith, r.1)) (omega (arith, r.0)))

    go : Dec (k ≡ i) → (b : Bool) → f k ≡ b → length (keep f (up_from (suc k) n)) ≤ 1 → length (cons_if b k (keep f (up_from (suc k) n))) ≤ 1
    go (yes e) true q ih = unfold cons_if in omega (arith, ap length (rest e))
    go (yes e) false q ih = unfold cons_if in ih
    go (no e) true q ih = clash q (h k (omega arith) (omega arith) e)
    go (no e) false q ih = unfold cons_if in ih

-- two that pass: another than i
pub another_kept : (f : ℕ → Bool) (n i : ℕ) → 2 ≤ length (keep f (below n)) → (j : ℕ) × (j < n) × (f j ≡ true) × (j ≢ i)
unfolding below
another_kept f n i b = go (test (any (λ j. not (eqb j i) && f j) (below n)))
  where
    go : Test (any (λ j. not (eqb j i) && f j) (below n)) → (j : ℕ) × (j < n) × (f j ≡ true) × (j ≢ i)
    go (yes! e) =
        let r : (j : ℕ) × Has j (below n) × ((not (eqb j i) && f j) ≡ true) = any_has (λ j. not (eqb j i) && f j) (below n) e in (
          r.0,
          below_has r.0 n r.1,
          and_2 (not (eqb r.0 i)) (f r.0) r.2,
          eqb-false r.0 i (not-true (eqb r.0 i) (and_1 (not (eqb r.0 i)) (f r.0) r.2)),
        )
    go (no! e) = absurd (let q : ⊥ = omega (
      arith,
      b,
      keep-at_most_one f i 0 n (λ j a c k.
          and_fails (not (eqb j i)) (f j) (any_false_in (λ j. not (eqb j i) && f j) (below n) e j (has_below j n (omega arith))) (ap not (ne_eqb j i k))),
    ) in q)

-- one that passes: no other
pub lone_pass : (f : ℕ → Bool) (k n : ℕ) → length (keep f (up_from k n)) ≡ 1 → (i j : ℕ) → Has i (up_from k n) → Has j (up_from k n) → f i ≡ true → f j ≡ true → i ≡ j
unfolding up_from keep
lone_pass f k zero e i j a b p q = absurd a
lone_pass f k (suc n) e i j a b p q = go (f k) refl e a b (lone_pass f (suc k) n)
  where
    empty : length (keep f (up_from (suc k) n)) ≡ 0 → (t : ℕ) → Has t (up_from (suc k) n) → f t ≡ true → ⊥
    empty z t m h = low (keep f (up_from (suc k) n)) z (has_keep f t (up_from (suc k) n) m h)
      where
        low : (l : List ℕ) → length l ≡ 0 → Has t l → ⊥
        low [] z m = m
        low (x ∷ l) z m = let q : ⊥ = omega arith in q

    go : (b : Bool) → f k ≡ b → length (cons_if b k (keep f (up_from (suc k) n))) ≡ 1 → (i ≡ k) ⊎ Has i (up_from (suc k) n) → (j ≡ k) ⊎ Has j (up_from (suc k) n)
        → (length (keep f (up_from (suc k) n)) ≡ 1 → (i j : ℕ) → Has i (up_from (suc k) n) → Has j (up_from (suc k) n) → f i ≡ true → f j ≡ true → i ≡ j) → i ≡ j
    go true w e (inl x) (inl y) ih = x ∙ sym y
    go true w e (inl x) (inr y) ih = unfold cons_if in absurd (empty (omega (arith, e)) j y q)
    go true w e (inr x) y ih = unfold cons_if in absurd (empty (omega (arith, e)) i x p)
    go false w e (inl x) y ih = clash (ap f (sym x) ∙ p) w
    go false w e (inr x) (inl y) ih = clash (ap f (sym y) ∙ q) w
    go false w e (inr x) (inr y) ih = unfold cons_if in ih e i j x y p q

-- ---- functions changed at one place

pub set_at_here : {A : Type 0} (f : ℕ → A) (s : ℕ) (a : A) → set_at f s a s ≡ a
set_at_here f s a = set_at_elim (λ x. x ≡ a) f s a s (λ e. refl) (λ n. absurd (n refl))

pub set_at_else : {A : Type 0} (f : ℕ → A) (s : ℕ) (a : A) (t : ℕ) → t ≢ s → set_at f s a t ≡ f t
set_at_else f s a t n = set_at_elim (λ x. x ≡ f t) f s a t (λ e. absurd (n e)) (λ e. refl)
