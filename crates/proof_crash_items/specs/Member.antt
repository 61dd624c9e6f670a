-- Tests over a list, and membership in it: both directions. Assumes nothing.
use Rattle.std.specs.Prelude.{◌≡◌, refl, List, [], ◌∷◌, ◌++◌, map, Bool, true, ◌&&◌, ◌||◌, ◌⊎◌, ℕ, zero, suc, ◌+◌, max, ◌≤◌, ◌<◌, length, get_or}
use Rattle.std.proofs.Common.{sym, ap₂, ◌∙◌, subst, inl, inr, arith}
use Rattle.std.proofs.Math.Path.{ap}
use Rattle.std.proofs.Math.Bool.{false}
use Rattle.std.proofs.Math.Logic.{⊎_elim}
use Rattle.std.proofs.Math.Decide.{dec_le, ℕ_discrete}
use Rattle.spec.specs.Lists.{up_from, below, all, any, cons_if, keep, is_nil, flat, greatest, first_or}
use Rattle.law_drives.specs.Members.{In}
use Rattle.law_drives.specs.Tests.{clash, not_so}
use Rattle.proof_crash_machine.specs.Exec.{true≢false, and_1, and_2, both_true, or_either, or_1, or_2}

-- the laws' membership
abbrev pub Has : {A : Type 0} → A → List A → Type 0
Has a l = In a l

-- ---- tests

pub or_both_false : (a b : Bool) → a ≡ false → b ≡ false → (a || b) ≡ false
or_both_false a b p q = ap₂ ◌||◌ p q

pub and_false_1 : (a b : Bool) → a ≡ false → (a && b) ≡ false
and_false_1 a b p = ap (λ (x : Bool). x && b) p

-- ---- lists

pub has_left : {A : Type 0} (a : A) (l r : List A) → Has a l → Has a (l ++ r)
has_left a [] r m = absurd m
has_left a (b ∷ l) r (inl e) = inl e
has_left a (b ∷ l) r (inr m) = inr (has_left a l r m)

pub has_right : {A : Type 0} (a : A) (l r : List A) → Has a r → Has a (l ++ r)
has_right a [] r m = m
has_right a (b ∷ l) r m = inr (has_right a l r m)

pub append_has : {A : Type 0} (a : A) (l r : List A) → Has a (l ++ r) → Has a l ⊎ Has a r
append_has a [] r m = inr m
append_has a (b ∷ l) r (inl e) = inl (inl e)
append_has a (b ∷ l) r (inr m) = ⊎_elim (λ (w : Has a l). inl (inr w)) (λ (w : Has a r). inr w) (append_has a l r m)

pub has_cons_if : {A : Type 0} (t : Bool) (a b : A) (l : List A) → Has a l → Has a (cons_if t b l)
unfolding cons_if
has_cons_if true a b l m = inr m
has_cons_if false a b l m = m

pub keep_has : {A : Type 0} (f : A → Bool) (a : A) (l : List A) → Has a (keep f l) → Has a l × (f a ≡ true)
unfolding keep
keep_has f a [] m = absurd m
keep_has f a (b ∷ l) m = go (f b) refl m (keep_has f a l)
  where
    go : (t : Bool) → f b ≡ t → Has a (cons_if t b (keep f l)) → (Has a (keep f l) → Has a l × (f a ≡ true)) → Has a (b ∷ l) × (f a ≡ true)
    go true e m ih = unfold cons_if in ⊎_elim (λ (q : a ≡ b). (inl q, ap f q ∙ e)) (λ (q : Has a (keep f l)). (inr (ih q).0, (ih q).1)) m
    go false e m ih = unfold cons_if in (inr (ih m).0, (ih m).1)

pub has_keep : {A : Type 0} (f : A → Bool) (a : A) (l : List A) → Has a l → f a ≡ true → Has a (keep f l)
unfolding keep cons_if
has_keep f a [] m t = absurd m
has_keep f a (b ∷ l) (inl e) t = subst (λ (x : Bool). Has a (cons_if x b (keep f l))) (sym t ∙ ap f e) (inl e)
has_keep f a (b ∷ l) (inr m) t = has_cons_if (f b) a b (keep f l) (has_keep f a l m t)

pub keep-nil : {A : Type 0} (f : A → Bool) (l : List A) → ((a : A) → Has a l → f a ≡ false) → keep f l ≡ []
unfolding keep cons_if
keep-nil f [] h = refl
keep-nil f (b ∷ l) h = ap₂ (λ (x : Bool) y. cons_if x b y) (h b (inl refl)) (keep-nil f l (λ a m. h a (inr m)))

pub up_from_has : (k i n : ℕ) → Has k (up_from i n) → (i ≤ k) × (k < i + n)
unfolding up_from
up_from_has k i zero m = absurd m
up_from_has k i (suc n) (inl e) = (omega arith, omega arith)
up_from_has k i (suc n) (inr m) = let r : (suc i ≤ k) × (k < suc i + n) = up_from_has k (suc i) n m in (omega (arith, r.0), omega (arith, r.1))

pub has_up_from : (k i n : ℕ) → i ≤ k → k < i + n → Has k (up_from i n)
unfolding up_from
has_up_from k i zero a b = absurd (let q : ⊥ = omega arith in q)
has_up_from k i (suc n) a b = go (ℕ_discrete k i) (has_up_from k (suc i) n)
  where
    go : Dec (k ≡ i) → (suc i ≤ k → k < suc i + n → Has k (up_from (suc i) n)) → (k ≡ i) ⊎ Has k (up_from (suc i) n)
    go (yes e) ih = inl e
    go (no e) ih = inr (ih (omega arith) (omega arith))

pub below_has : (k n : ℕ) → Has k (below n) → k < n
unfolding below
below_has k n m = omega (arith, (up_from_has k 0 n m).1)

pub has_below : (k n : ℕ) → k < n → Has k (below n)
unfolding below
has_below k n l = has_up_from k 0 n (omega arith) (omega arith)

pub all_has : {A : Type 0} (f : A → Bool) (l : List A) → all f l ≡ true → (a : A) → Has a l → f a ≡ true
unfolding all
all_has f [] e a m = absurd m
all_has f (b ∷ l) e a (inl q) = ap f q ∙ and_1 (f b) (all f l) e
all_has f (b ∷ l) e a (inr m) = all_has f l (and_2 (f b) (all f l) e) a m

pub has_all : {A : Type 0} (f : A → Bool) (l : List A) → ((a : A) → Has a l → f a ≡ true) → all f l ≡ true
unfolding all
has_all f [] h = refl
has_all f (b ∷ l) h = both_true (f b) (all f l) (h b (inl refl)) (has_all f l (λ a m. h a (inr m)))

pub any_has : {A : Type 0} (f : A → Bool) (l : List A) → any f l ≡ true → (a : A) × Has a l × (f a ≡ true)
unfolding any
any_has f [] e = true≢false e
any_has {A} f (b ∷ l) e = ⊎_elim (λ (q : f b ≡ true). (b, inl refl, q))
    (λ (q : any f l ≡ true). let r : (a : A) × Has a l × (f a ≡ true) = any_has f l q in (r.0, inr r.1, r.2)) (or_either (f b) (any f l) e)

pub has_any : {A : Type 0} (f : A → Bool) (l : List A) (a : A) → Has a l → f a ≡ true → any f l ≡ true
unfolding any
has_any f [] a m t = absurd m
has_any f (b ∷ l) a (inl q) t = or_1 (f b) (any f l) (ap f (sym q) ∙ t)
has_any f (b ∷ l) a (inr m) t = or_2 (f b) (any f l) (has_any f l a m t)

pub none_any : {A : Type 0} (f : A → Bool) (l : List A) → ((a : A) → Has a l → f a ≡ false) → any f l ≡ false
unfolding any
none_any f [] h = refl
none_any f (b ∷ l) h = or_both_false (f b) (any f l) (h b (inl refl)) (none_any f l (λ a m. h a (inr m)))

pub any_false_in : {A : Type 0} (f : A → Bool) (l : List A) → any f l ≡ false → (a : A) → Has a l → f a ≡ false
any_false_in f l e a m = not_so (f a) (λ t. clash (has_any f l a m t) e)

pub flat_has : {A B : Type 0} (f : A → List B) (b : B) (l : List A) → Has b (flat f l) → (a : A) × Has a l × Has b (f a)
unfolding flat
flat_has f b [] m = absurd m
flat_has {A} f b (a ∷ l) m = ⊎_elim (λ (q : Has b (f a)). (a, inl refl, q))
    (λ (q : Has b (flat f l)). let r : (c : A) × Has c l × Has b (f c) = flat_has f b l q in (r.0, inr r.1, r.2)) (append_has b (f a) (flat f l) m)

pub has_flat : {A B : Type 0} (f : A → List B) (b : B) (l : List A) (a : A) → Has a l → Has b (f a) → Has b (flat f l)
unfolding flat
has_flat f b [] a m k = absurd m
has_flat f b (c ∷ l) a (inl e) k = has_left b (f c) (flat f l) (subst (λ x. Has b (f x)) e k)
has_flat f b (c ∷ l) a (inr m) k = has_right b (f c) (flat f l) (has_flat f b l a m k)

pub map_has : {A B : Type 0} (f : A → B) (b : B) (l : List A) → Has b (map f l) → (a : A) × Has a l × (b ≡ f a)
map_has f b [] m = absurd m
map_has f b (a ∷ l) (inl e) = (a, inl refl, e)
map_has {A} f b (a ∷ l) (inr m) = let r : (c : A) × Has c l × (b ≡ f c) = map_has f b l m in (r.0, inr r.1, r.2)

pub has_map : {A B : Type 0} (f : A → B) (l : List A) (a : A) → Has a l → Has (f a) (map f l)
has_map f [] a m = absurd m
has_map f (b ∷ l) a (inl e) = inl (ap f e)
has_map f (b ∷ l) a (inr m) = inr (has_map f l a m)

pub get_d_has : {A : Type 0} (l : List A) (k : ℕ) (d : A) → k < length l → Has (get_or l k d) l
get_d_has [] k d b = absurd (let q : ⊥ = omega arith in q)
get_d_has (a ∷ l) zero d b = inl refl
get_d_has (a ∷ l) (suc k) d b = inr (get_d_has l k d (omega arith))

pub has_get_d : {A : Type 0} (l : List A) (a d : A) → Has a l → (k : ℕ) × (k < length l) × (get_or l k d ≡ a)
has_get_d [] a d m = absurd m
has_get_d (b ∷ l) a d (inl e) = (0, omega arith, sym e)
has_get_d (b ∷ l) a d (inr m) = let r : (k : ℕ) × (k < length l) × (get_or l k d ≡ a) = has_get_d l a d m in (suc r.0, omega (arith, r.1), r.2)

pub is_nil_has : {A : Type 0} (l : List A) (a : A) → Has a l → is_nil l ≡ false
unfolding is_nil
is_nil_has [] a m = absurd m
is_nil_has (b ∷ l) a m = refl

pub first_or_has : {A : Type 0} (n : A) (l : List A) → is_nil l ≡ false → Has (first_or n l) l
unfolding is_nil first_or
first_or_has n [] e = true≢false (sym e)
first_or_has n (b ∷ l) e = inl refl

pub greatest_most : (n : ℕ) (l : List ℕ) → Has n l → n ≤ greatest l
unfolding greatest
greatest_most n [] m = absurd m
greatest_most n (k ∷ l) (inl e) = omega arith
greatest_most n (k ∷ l) (inr m) = let q : n ≤ greatest l = greatest_most n l m in omega arith

pub greatest_some : (l : List ℕ) → (greatest l ≡ 0) ⊎ Has (greatest l) l
unfolding greatest
greatest_some [] = inl refl
greatest_some (k ∷ l) = go (dec_le (greatest l) k) (greatest_some l)
  where
    go : Dec (greatest l ≤ k) → (greatest l ≡ 0) ⊎ Has (greatest l) l → (max k (greatest l) ≡ 0) ⊎ ((max k (greatest l) ≡ k) ⊎ Has (max k (greatest l)) l)
    go (yes b) ih = inr (inl (omega arith))
    go (no b) (inl e) = absurd (let q : ⊥ = omega arith in q)
    go (no b) (inr m) = let e : max k (greatest l) ≡ greatest l = omega arith in inr (inr (rw e m))
