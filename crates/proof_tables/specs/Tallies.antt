-- Counting what passes a test. Assumes nothing.
use Rattle.std.specs.Prelude.{◌≡◌, refl, List, [], ◌∷◌, Bool, true, false, ℕ, zero, suc, ◌+◌, ◌≤◌, ◌<◌, length}
use Rattle.std.proofs.Common.{ap, ◌∙◌, inl, inr, arith}
use Rattle.std.proofs.Math.Decide.{ℕ_discrete}
use Rattle.spec.specs.Lists.{up_from, below, cons_if, keep, tally}
use Rattle.spec.specs.Memory.{slot_count, slots}
use Rattle.law_basic.specs.Ranges.{Test, test}
use Rattle.law_basic.specs.Ranges.Test.{yes!, no! }
use Rattle.law_drives.specs.Members.{In, in_keep, keep_cong, keep_nothing, from_in}
use Rattle.law_drives.specs.Tests.{not_so}

pub tally_cong : {A : Type 0} (f g : A → Bool) (l : List A) → ((a : A) → In a l → f a ≡ g a) → tally f l ≡ tally g l
unfolding tally
tally_cong f g l h = ap length (keep_cong f g l h)

pub tally_none : {A : Type 0} (f : A → Bool) (l : List A) → ((a : A) → In a l → f a ≡ false) → tally f l ≡ 0
unfolding tally
tally_none f l h = ap length (keep_nothing f l h)

pub tally_some : {A : Type 0} (f : A → Bool) (l : List A) (a : A) → In a l → f a ≡ true → 0 < tally f l
unfolding tally
tally_some {A} f l a m q = go (keep f l) (in_keep f l a m q)
  where
    go : (k : List A) → In a k → 0 < length k
    go [] m = absurd m
    go (b ∷ k) m = omega arith

pub none_tally : {A : Type 0} (f : A → Bool) (l : List A) → tally f l ≡ 0 → (a : A) → In a l → f a ≡ false
none_tally f l h a m = not_so (f a) (λ q. let z = tally_some f l a m q in let y : ⊥ = omega arith in y)

-- one more
from_more : (f g : ℕ → Bool) (i b n : ℕ) → b ≤ i → i < b + n → ((j : ℕ) → (j ≡ i → ⊥) → f j ≡ g j) → f i ≡ true → g i ≡ false
    → length (keep f (up_from b n)) ≡ suc (length (keep g (up_from b n)))
unfolding keep cons_if up_from
from_more f g i b zero x y h p q = absurd (let z : ⊥ = omega arith in z)
from_more f g i b (suc n) x y h p q = go (ℕ_discrete b i) (from_more f g i (suc b) n)
  where
    go : Dec (b ≡ i) → (suc b ≤ i → i < suc b + n → ((j : ℕ) → (j ≡ i → ⊥) → f j ≡ g j) → f i ≡ true → g i ≡ false
        → length (keep f (up_from (suc b) n)) ≡ suc (length (keep g (up_from (suc b) n))))
        → length (cons_if (f b) b (keep f (up_from (suc b) n))) ≡ suc (length (cons_if (g b) b (keep g (up_from (suc b) n))))
    go (yes e) ih =
        let t : f b ≡ true = ap f e ∙ p in
        let u : g b ≡ false = ap g e ∙ q in
        rw (t, u) (ap (λ (k : List ℕ). suc (length k)) (keep_cong f g (up_from (suc b) n) (λ j m. let (s, w) = from_in (suc b) n j m in h j (λ z. let y : ⊥ = omega arith in y))))
    go (no e) ih = two (test (g b)) (ih (omega arith) (omega arith) h p q)
      where
        two : Test (g b) → length (keep f (up_from (suc b) n)) ≡ suc (length (keep g (up_from (suc b) n)))
            → length (cons_if (f b) b (keep f (up_from (suc b) n))) ≡ suc (length (cons_if (g b) b (keep g (up_from (suc b) n))))
        two (yes! u) k = let t : f b ≡ true = h b e ∙ u in rw (t, u) (ap suc k)
        two (no! u) k = let t : f b ≡ false = h b e ∙ u in rw (t, u) k

pub tally-more : (f g : ℕ → Bool) (i : ℕ) → i < 8 → ((j : ℕ) → (j ≡ i → ⊥) → f j ≡ g j) → f i ≡ true → g i ≡ false → tally f slots ≡ suc (tally g slots)
unfolding tally slots slot_count below
tally-more f g i h e p q = from_more f g i 0 8 (omega arith) h e p q

-- fewer pass than there are: one fails
pub some_out : {A : Type 0} (f : A → Bool) (l : List A) → tally f l < length l → (a : A) × In a l × (f a ≡ false)
unfolding tally keep cons_if
some_out f [] h = absurd (let z : ⊥ = omega arith in z)
some_out {A} f (a ∷ l) h = go (test (f a)) (some_out f l)
  where
    go : Test (f a) → (length (keep f l) < length l → (b : A) × In b l × (f b ≡ false)) → (b : A) × In b (a ∷ l) × (f b ≡ false)
    go (no! q) ih = (a, inl refl, q)
    go (yes! q) ih = let z : suc (length (keep f l)) < suc (length l) = rw q at h in let (b, m, e) = ih (omega arith) in (b, inr m, e)
