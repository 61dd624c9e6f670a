-- What holds of each element of a list; of the data drives of a stripe, of the present drives. Assumes nothing.
use Rattle.std.specs.Prelude.{◌≡◌, refl, List, [], ◌∷◌, map, Bool, true, false, not, ℕ, zero, suc, ◌+◌, ◌≤◌, ◌<◌, length, get_or, set}
use Rattle.std.proofs.Common.{sym, ap₂, subst, arith, get_or-set_same, get_or-set_other}
use Rattle.std.proofs.Math.Decide.{ℕ_discrete}
use Rattle.std.proofs.Math.Arith.{lt_of_le-ne}
use Rattle.std.proofs.lemmas.Bool.{not-true}
use Rattle.spec.specs.declared.Params.{Params}
use Rattle.spec.specs.Layout.{data_drive, is_data, data_drives}
use Rattle.spec.specs.Lists.{up_from, below, cons_if, keep, is_in}
use Rattle.spec.specs.Params.{data_count, drives_of, present}
use Rattle.law_basic.specs.Geometry.{drive_is_data, data_drive_lt}
use Rattle.law_basic.specs.Ranges.{Test, test}
use Rattle.law_basic.specs.Ranges.Test.{yes!, no! }

abbrev pub Each : {A : Type 0} → (A → Type 0) → List A → Type 0
Each P [] = Unit {0}
Each P (a ∷ l) = P a × Each P l

pub each_map : {A B : Type 0} (P : B → Type 0) (f : A → B) (l : List A) → Each (λ (a : A). P (f a)) l → Each P (map f l)
each_map P f [] h = tt
each_map P f (a ∷ l) h = (h.0, each_map P f l h.1)

each_up_from : (P : ℕ → Type 0) (i n : ℕ) → ((k : ℕ) → i ≤ k → k < i + n → P k) → Each P (up_from i n)
unfolding up_from
each_up_from P i zero h = tt
each_up_from P i (suc n) h = (h i (omega arith) (omega arith), each_up_from P (suc i) n (λ k a b. h k (omega arith) (omega arith)))

pub each_below : (P : ℕ → Type 0) (n : ℕ) → ((k : ℕ) → k < n → P k) → Each P (below n)
unfolding below
each_below P n h = each_up_from P 0 n (λ k a b. h k (omega arith))

pub each_keep : {A : Type 0} (P : A → Type 0) (f : A → Bool) (l : List A) → Each (λ (a : A). f a ≡ true → P a) l → Each P (keep f l)
unfolding keep cons_if
each_keep P f [] h = tt
each_keep P f (a ∷ l) h = go (test (f a)) (each_keep P f l h.1)
  where
    go : Test (f a) → Each P (keep f l) → Each P (cons_if (f a) a (keep f l))
    go (yes! e) r = rw e (h.0 e, r)
    go (no! e) r = rw e r

-- 01, What a zone holds: the drives of a stripe's data
pub each_data : (P : ℕ → Type 0) (p : Params) (s : ℕ) → ((d : ℕ) → d < p.N → is_data p s d ≡ true → P d) → Each P (data_drives p s)
unfolding data_drives
each_data P p s h = each_map P (data_drive p s) (below (data_count p))
    (each_below (λ i. P (data_drive p s i)) (data_count p) (λ i l. h (data_drive p s i) (data_drive_lt p s i l) (drive_is_data p s i)))

-- 01, Restart: the drives that are present
pub each_present : (P : ℕ → Type 0) (p : Params) (gone : ℕ) → ((d : ℕ) → d < p.N → is_in gone d ≡ false → P d) → Each P (present p gone)
unfolding present drives_of
each_present P p gone h = each_keep P (λ d. not (is_in gone d)) (below p.N) (each_below (λ d. not (is_in gone d) ≡ true → P d) p.N (λ d l e. h d l (not-true (is_in gone d) e)))

-- what f and g make of each element alike
pub map_each : {A B : Type 0} (f g : A → B) (l : List A) → Each (λ (a : A). f a ≡ g a) l → map f l ≡ map g l
map_each f g [] h = refl
map_each f g (a ∷ l) h = ap₂ ◌∷◌ h.0 (map_each f g l h.1)

-- the first d entries of an array are as asked, and so is the next that is set
pub set_next : (P : ℕ → ℕ → Type 0) (l : List ℕ) (d v : ℕ) → d < length l → ((e : ℕ) → e < d → P e (get_or l e 0)) → P d v → (e : ℕ) → e < d + 1
    → P e (get_or (set l d v) e 0)
set_next P l d v n h q e k = go (ℕ_discrete d e)
  where
    go : Dec (d ≡ e) → P e (get_or (set l d v) e 0)
    go (yes i) = subst (λ (x : ℕ). P x (get_or (set l d v) x 0)) i (subst (P d) (sym (get_or-set_same l d v 0 n)) q)
    go (no i) = subst (P e) (sym (get_or-set_other l d e v 0 (λ x. i (sym x)))) (h e (lt_of_le-ne (omega arith) (λ x. i (sym x))))
