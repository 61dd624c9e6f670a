-- The library's words for a test over a range, in the words of `spec`. Assumes nothing.
use Rattle.std.specs.Prelude.{◌≡◌, List, [], ◌∷◌, Bool, cond, ◌&&◌, ◌||◌, ◌≤◌, ◌<◌, Option, Some, None}
use Rattle.std.specs.List.{range_with_len, list_all, list_any, find}
use Rattle.std.proofs.Math.Path.{refl, sym, ap}
use Rattle.std.proofs.Common.{◌∙◌, inl, add-one, arith}
use Rattle.std.proofs.lemmas.Option.{none-some}
use Rattle.law_drives.specs.Members.{In, keep_in, below_in}
use Rattle.std.proofs.Math.Bool.{true, false}
use Rattle.std.specs.Option.{unwrap_or, is_none}
use Prim.Native.Nat.{ℕ, zero, suc, ◌+◌}
use Rattle.spec.specs.Lists.{up_from, below, all, any, keep, cons_if, first_or, is_nil}

pub range_below : (n : ℕ) → range_with_len 0 n ≡ below n
unfolding below up_from
range_below n = go 0 n
  where
    go : (i k : ℕ) → range_with_len i k ≡ up_from i k
    go i zero = refl
    go i (suc k) = ap (λ (l : List ℕ). i ∷ l) (go (i + 1) k ∙ ap (λ (x : ℕ). up_from x k) (add-one i))

pub list_all_is : {A : Type 0} (f : A → Bool) (l : List A) → list_all f l ≡ all f l
unfolding all
list_all_is f [] = refl
list_all_is f (x ∷ l) = ap (λ b. f x && b) (list_all_is f l)

pub list_any_is : {A : Type 0} (f : A → Bool) (l : List A) → list_any f l ≡ any f l
unfolding any
list_any_is f [] = refl
list_any_is f (x ∷ l) = ap (λ b. f x || b) (list_any_is f l)

-- the first of a list, if it has one
abbrev pub opt_first : List ℕ → Option ℕ
opt_first [] = None
opt_first (x ∷ l) = Some x

pub find_opt_first : (f : ℕ → Bool) (l : List ℕ) → find f l ≡ opt_first (keep f l)
unfolding keep cons_if
find_opt_first f [] = refl
find_opt_first f (x ∷ l) = go (f x) (find_opt_first f l)
  where
    go : (b : Bool) → find f l ≡ opt_first (keep f l) → cond b (Some x) (find f l) ≡ opt_first (cons_if b x (keep f l))
    go true e = refl
    go false e = e

pub opt_first_or : (n : ℕ) (l : List ℕ) → unwrap_or (opt_first l) n ≡ first_or n l
unfolding first_or
opt_first_or n [] = refl
opt_first_or n (x ∷ l) = refl

pub opt_first_none : (l : List ℕ) → is_none (opt_first l) ≡ is_nil l
unfolding is_nil
opt_first_none [] = refl
opt_first_none (x ∷ l) = refl

pub opt_first_in : (l : List ℕ) (z : ℕ) → opt_first l ≡ Some z → In z l
opt_first_in [] z e = absurd (none-some z e)
opt_first_in (x ∷ l) z e = inl (sym (ap (λ (o : Option ℕ). unwrap_or o 0) e))

pub find_first : (f : ℕ → Bool) (l : List ℕ) → unwrap_or (find f l) 0 ≡ first_or 0 (keep f l)
find_first f l = ap (λ (o : Option ℕ). unwrap_or o 0) (find_opt_first f l) ∙ opt_first_or 0 (keep f l)

pub first_within : (f : ℕ → Bool) (n : ℕ) → 0 < n → (i k : ℕ) → i + k ≤ n → first_or 0 (keep f (up_from i k)) < n
unfolding up_from keep cons_if first_or
first_within f n h i zero l = h
first_within f n h i (suc k) l = go (f i) (first_within f n h (suc i) k (omega arith))
  where
    go : (b : Bool) → first_or 0 (keep f (up_from (suc i) k)) < n → first_or 0 (cons_if b i (keep f (up_from (suc i) k))) < n
    go true e = omega arith
    go false e = e

-- of those below n it is one
pub opt_first_low : (f : ℕ → Bool) (n z : ℕ) → opt_first (keep f (below n)) ≡ Some z → z < n
opt_first_low f n z e = below_in n z (keep_in f (below n) z (opt_first_in (keep f (below n)) z e)).0
