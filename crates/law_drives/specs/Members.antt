-- Members of lists, and the tests and lists made of them.
use Rattle.std.specs.Prelude.{◌≡◌, refl, List, [], ◌∷◌, ◌++◌, map, Bool, true, false, ◌&&◌, ◌||◌, ◌⊎◌, ℕ, zero, suc, ◌+◌, ◌≤◌, ◌<◌, eqb, length, get_or}
use Rattle.std.proofs.Common.{sym, ap, ap₂, ◌∙◌, subst, inl, inr, ⊎_elim, eqb-true, arith}
use Rattle.std.proofs.Math.Decide.{dec_lt}
use Rattle.spec.specs.Lists.{up_from, below, all, any, is_member_of, cons_if, keep, is_nil, suc_unless, index_of, flat, first_or}
use Rattle.law_basic.specs.Ranges.{Test, test, and_left, and_right, and_both, keep_append}
use Rattle.law_basic.specs.Ranges.Test.{yes!, no! }
use Rattle.law_drives.specs.Tests.{clash, true_false, false_true, or_first, or_right, or_neither, or_true_left, or_true_right, not_so, eqb_self}

abbrev pub In : {A : Type 0} → A → List A → Type 0
In a [] = ⊥
In a (b ∷ l) = (a ≡ b) ⊎ In a l

-- ---- append, map, flat, keep

pub map_none : {A : Type 0} (f : A → ℕ) (l : List A) → map f l ≡ [] → l ≡ []
map_none f [] e = refl
map_none f (x ∷ l) e = absurd (let q : ⊥ = omega (arith, ap length e) in q)

pub in_left : {A : Type 0} (a : A) (s t : List A) → In a s → In a (s ++ t)
in_left a [] t m = absurd m
in_left a (b ∷ s) t (inl e) = inl e
in_left a (b ∷ s) t (inr m) = inr (in_left a s t m)

pub in_right : {A : Type 0} (a : A) (s t : List A) → In a t → In a (s ++ t)
in_right a [] t m = m
in_right a (b ∷ s) t m = inr (in_right a s t m)

pub in_append : {A : Type 0} (a : A) (s t : List A) → In a (s ++ t) → In a s ⊎ In a t
in_append a [] t m = inr m
in_append a (b ∷ s) t (inl e) = inl (inl e)
in_append a (b ∷ s) t (inr m) = ⊎_elim {A = In a s} {B = In a t} (λ x. inl (inr x)) (λ x. inr x) (in_append a s t m)

pub in_map : {A B : Type 0} (f : A → B) (l : List A) (a : A) → In a l → In (f a) (map f l)
in_map f [] a m = absurd m
in_map f (b ∷ l) a (inl e) = inl (ap f e)
in_map f (b ∷ l) a (inr m) = inr (in_map f l a m)

pub map_in : {A B : Type 0} (f : A → B) (l : List A) (b : B) → In b (map f l) → (a : A) × In a l × (b ≡ f a)
map_in f [] b m = absurd m
map_in f (a ∷ l) b (inl e) = (a, inl refl, e)
map_in f (a ∷ l) b (inr m) = let (c, x, e) = map_in f l b m in (c, inr x, e)

pub in_flat : {A B : Type 0} (f : A → List B) (l : List A) (a : A) (b : B) → In a l → In b (f a) → In b (flat f l)
unfolding flat
in_flat f [] a b m x = absurd m
in_flat f (c ∷ l) a b (inl e) x = in_left b (f c) (flat f l) (subst (λ y. In b (f y)) e x)
in_flat f (c ∷ l) a b (inr m) x = in_right b (f c) (flat f l) (in_flat f l a b m x)

pub flat_in : {A B : Type 0} (f : A → List B) (l : List A) (b : B) → In b (flat f l) → (a : A) × In a l × In b (f a)
unfolding flat
flat_in f [] b m = absurd m
flat_in {A} f (a ∷ l) b m = go (in_append b (f a) (flat f l) m) (flat_in f l b)
  where
    go : In b (f a) ⊎ In b (flat f l) → (In b (flat f l) → (c : A) × In c l × In b (f c)) → (c : A) × In c (a ∷ l) × In b (f c)
    go (inl x) ih = (a, inl refl, x)
    go (inr x) ih = let (c, y, z) = ih x in (c, inr y, z)

pub in_keep : {A : Type 0} (f : A → Bool) (l : List A) (a : A) → In a l → f a ≡ true → In a (keep f l)
unfolding keep cons_if
in_keep f [] a m q = absurd m
in_keep f (b ∷ l) a m q = go (test (f b)) m (in_keep f l a)
  where
    go : Test (f b) → (a ≡ b) ⊎ In a l → (In a l → f a ≡ true → In a (keep f l)) → In a (keep f (b ∷ l))
    go (yes! e) (inl x) ih = rw e (inl x)
    go (yes! e) (inr x) ih = rw e (inr (ih x q))
    go (no! e) (inl x) ih = clash q (ap f x ∙ e)
    go (no! e) (inr x) ih = rw e (ih x q)

pub keep_in : {A : Type 0} (f : A → Bool) (l : List A) (a : A) → In a (keep f l) → In a l × (f a ≡ true)
unfolding keep cons_if
keep_in f [] a m = absurd m
keep_in f (b ∷ l) a m = go (test (f b)) (keep_in f l a)
  where
    go : Test (f b) → (In a (keep f l) → In a l × (f a ≡ true)) → In a (b ∷ l) × (f a ≡ true)
    go (yes! e) ih = last (rw e at m)
      where
        last : (a ≡ b) ⊎ In a (keep f l) → In a (b ∷ l) × (f a ≡ true)
        last (inl x) = (inl x, ap f x ∙ e)
        last (inr x) = let (y, z) = ih x in (inr y, z)
    go (no! e) ih = let (y, z) = ih (rw e at m) in (inr y, z)

-- ---- tests over lists

pub all_in : {A : Type 0} (f : A → Bool) (l : List A) → all f l ≡ true → (a : A) → In a l → f a ≡ true
unfolding all
all_in f [] q a m = absurd m
all_in f (b ∷ l) q a (inl e) = ap f e ∙ and_left (f b) (all f l) q
all_in f (b ∷ l) q a (inr m) = all_in f l (and_right (f b) (all f l) q) a m

pub in_all : {A : Type 0} (f : A → Bool) (l : List A) → ((a : A) → In a l → f a ≡ true) → all f l ≡ true
unfolding all
in_all f [] h = refl
in_all f (b ∷ l) h = and_both (f b) (all f l) (h b (inl refl)) (in_all f l (λ a m. h a (inr m)))

pub none_in : {A : Type 0} (f : A → Bool) (l : List A) → any f l ≡ false → (a : A) → In a l → f a ≡ false
unfolding any
none_in f [] q a m = absurd m
none_in f (b ∷ l) q a (inl e) = ap f e ∙ or_first (f b) (any f l) q
none_in f (b ∷ l) q a (inr m) = none_in f l (or_right (f b) (any f l) q) a m

pub in_none : {A : Type 0} (f : A → Bool) (l : List A) → ((a : A) → In a l → f a ≡ false) → any f l ≡ false
unfolding any
in_none f [] h = refl
in_none f (b ∷ l) h = or_neither (f b) (any f l) (h b (inl refl)) (in_none f l (λ a m. h a (inr m)))

pub any_in : {A : Type 0} (f : A → Bool) (l : List A) → any f l ≡ true → (a : A) × In a l × (f a ≡ true)
unfolding any
any_in f [] q = false_true q
any_in {A} f (b ∷ l) q = go (test (f b)) (any_in f l)
  where
    go : Test (f b) → (any f l ≡ true → (a : A) × In a l × (f a ≡ true)) → (a : A) × In a (b ∷ l) × (f a ≡ true)
    go (yes! e) ih = (b, inl refl, e)
    go (no! e) ih = let (c, m, x) = ih (rw e at q) in (c, inr m, x)

pub in_any : {A : Type 0} (f : A → Bool) (l : List A) (a : A) → In a l → f a ≡ true → any f l ≡ true
unfolding any
in_any f [] a m q = absurd m
in_any f (b ∷ l) a (inl e) q = or_true_left (f b) (any f l) (sym (ap f e) ∙ q)
in_any f (b ∷ l) a (inr m) q = or_true_right (f b) (any f l) (in_any f l a m q)

-- a test over all fails somewhere
pub some_fails : {A : Type 0} (f : A → Bool) (l : List A) → all f l ≡ false → (a : A) × In a l × (f a ≡ false)
unfolding all
some_fails f [] q = true_false q
some_fails {A} f (b ∷ l) q = go (test (f b)) (some_fails f l)
  where
    go : Test (f b) → (all f l ≡ false → (a : A) × In a l × (f a ≡ false)) → (a : A) × In a (b ∷ l) × (f a ≡ false)
    go (yes! e) ih = let (c, m, x) = ih (rw e at q) in (c, inr m, x)
    go (no! e) ih = (b, inl refl, e)

-- ---- the same on members, the same in all

pub all_cong : {A : Type 0} (f g : A → Bool) (l : List A) → ((a : A) → In a l → f a ≡ g a) → all f l ≡ all g l
unfolding all
all_cong f g [] h = refl
all_cong f g (a ∷ l) h = ap₂ ◌&&◌ (h a (inl refl)) (all_cong f g l (λ b m. h b (inr m)))

pub any_cong : {A : Type 0} (f g : A → Bool) (l : List A) → ((a : A) → In a l → f a ≡ g a) → any f l ≡ any g l
unfolding any
any_cong f g [] h = refl
any_cong f g (a ∷ l) h = ap₂ ◌||◌ (h a (inl refl)) (any_cong f g l (λ b m. h b (inr m)))

pub keep_cong : {A : Type 0} (f g : A → Bool) (l : List A) → ((a : A) → In a l → f a ≡ g a) → keep f l ≡ keep g l
unfolding keep
keep_cong f g [] h = refl
keep_cong f g (a ∷ l) h = ap₂ (λ x y. cons_if x a y) (h a (inl refl)) (keep_cong f g l (λ b m. h b (inr m)))

pub map_cong : {A B : Type 0} (f g : A → B) (l : List A) → ((a : A) → In a l → f a ≡ g a) → map f l ≡ map g l
map_cong f g [] h = refl
map_cong f g (a ∷ l) h = ap₂ ◌∷◌ (h a (inl refl)) (map_cong f g l (λ b m. h b (inr m)))

pub flat_cong : {A B : Type 0} (f g : A → List B) (l : List A) → ((a : A) → In a l → f a ≡ g a) → flat f l ≡ flat g l
unfolding flat
flat_cong f g [] h = refl
flat_cong f g (a ∷ l) h = ap₂ ◌++◌ (h a (inl refl)) (flat_cong f g l (λ b m. h b (inr m)))

-- ---- nothing, everything

pub keep_nothing : {A : Type 0} (f : A → Bool) (l : List A) → ((a : A) → In a l → f a ≡ false) → keep f l ≡ []
unfolding keep cons_if
keep_nothing f [] h = refl
keep_nothing f (a ∷ l) h = rw (h a (inl refl)) (keep_nothing f l (λ b m. h b (inr m)))

pub keep_all : {A : Type 0} (f : A → Bool) (l : List A) → ((a : A) → In a l → f a ≡ true) → keep f l ≡ l
unfolding keep cons_if
keep_all f [] h = refl
keep_all f (a ∷ l) h = rw (h a (inl refl)) (ap (λ x. a ∷ x) (keep_all f l (λ b m. h b (inr m))))

pub flat_nothing : {A B : Type 0} (f : A → List B) (l : List A) → ((a : A) → In a l → f a ≡ []) → flat f l ≡ []
unfolding flat
flat_nothing f [] h = refl
flat_nothing f (a ∷ l) h = rw (h a (inl refl)) (flat_nothing f l (λ b m. h b (inr m)))

pub keep-nil_in : {A : Type 0} (f : A → Bool) (l : List A) → keep f l ≡ [] → (a : A) → In a l → f a ≡ false
keep-nil_in f l q a m = not_so (f a) (λ e. subst (λ x. In a x) q (in_keep f l a m e))

pub keep-keep : {A : Type 0} (f g : A → Bool) (l : List A) → keep f (keep g l) ≡ keep (λ a. g a && f a) l
unfolding keep cons_if
keep-keep f g [] = refl
keep-keep f g (a ∷ l) = go (test (g a)) (keep-keep f g l)
  where
    go : Test (g a) → keep f (keep g l) ≡ keep (λ a. g a && f a) l → keep f (keep g (a ∷ l)) ≡ keep (λ a. g a && f a) (a ∷ l)
    go (yes! e) ih = rw e (ap (cons_if (f a) a) ih)
    go (no! e) ih = rw e ih

pub keep-flat : {A B : Type 0} (f : B → Bool) (g : A → List B) (l : List A) → keep f (flat g l) ≡ flat (λ a. keep f (g a)) l
unfolding flat keep
keep-flat f g [] = refl
keep-flat f g (a ∷ l) = keep_append f (g a) (flat g l) ∙ ap (λ x. keep f (g a) ++ x) (keep-flat f g l)

pub flat_map : {A B C : Type 0} (f : B → List C) (g : A → B) (l : List A) → flat f (map g l) ≡ flat (λ a. f (g a)) l
unfolding flat
flat_map f g [] = refl
flat_map f g (a ∷ l) = ap (λ x. f (g a) ++ x) (flat_map f g l)

-- ---- a range

pub in_from : (i n e : ℕ) → i ≤ e → e < i + n → In e (up_from i n)
unfolding up_from
in_from i zero e a b = absurd (let q : ⊥ = omega arith in q)
in_from i (suc n) e a b = go (dec_lt i e) (in_from (suc i) n e)
  where
    go : Dec (i < e) → (suc i ≤ e → e < suc i + n → In e (up_from (suc i) n)) → In e (up_from i (suc n))
    go (yes q) ih = inr (ih q (omega arith))
    go (no q) ih = inl (omega arith)

pub from_in : (i n e : ℕ) → In e (up_from i n) → (i ≤ e) × (e < i + n)
unfolding up_from
from_in i zero e m = absurd m
from_in i (suc n) e (inl q) = (omega arith, omega arith)
from_in i (suc n) e (inr m) = let h = from_in (suc i) n e m in (omega arith, omega arith)

pub in_below : (n e : ℕ) → e < n → In e (below n)
unfolding below
in_below n e h = in_from 0 n e (omega arith) (omega arith)

pub below_in : (n e : ℕ) → In e (below n) → e < n
unfolding below
below_in n e m = let h = from_in 0 n e m in omega arith

-- an element by its index
pub in_get_d : {A : Type 0} (l : List A) (k : ℕ) (d : A) → k < length l → In (get_or l k d) l
in_get_d [] k d h = absurd (let q : ⊥ = omega arith in q)
in_get_d (x ∷ l) zero d h = inl refl
in_get_d (x ∷ l) (suc k) d h = inr (in_get_d l k d (omega arith))

pub get_d_in : {A : Type 0} (l : List A) (d a : A) → In a l → (k : ℕ) × (k < length l) × (a ≡ get_or l k d)
get_d_in [] d a m = absurd m
get_d_in (x ∷ l) d a (inl e) = (0, omega arith, e)
get_d_in (x ∷ l) d a (inr m) = let (k, h, e) = get_d_in l d a m in (suc k, omega arith, e)

-- ---- the first that passes

pub index_below : {A : Type 0} (f : A → Bool) (l : List A) → any f l ≡ true → index_of f l < length l
unfolding any index_of suc_unless
index_below f [] q = false_true q
index_below f (a ∷ l) q = go (test (f a)) (index_below f l)
  where
    go : Test (f a) → (any f l ≡ true → index_of f l < length l) → index_of f (a ∷ l) < suc (length l)
    go (yes! e) ih = rw e (omega arith)
    go (no! e) ih = rw e (let h = ih (rw e at q) in omega arith)

pub index_passes : {A : Type 0} (f : A → Bool) (l : List A) (d : A) → any f l ≡ true → f (get_or l (index_of f l) d) ≡ true
unfolding any index_of suc_unless
index_passes f [] d q = false_true q
index_passes f (a ∷ l) d q = go (test (f a)) (index_passes f l d)
  where
    go : Test (f a) → (any f l ≡ true → f (get_or l (index_of f l) d) ≡ true) → f (get_or (a ∷ l) (index_of f (a ∷ l)) d) ≡ true
    go (yes! e) ih = rw e e
    go (no! e) ih = rw e (ih (rw e at q))

pub index_first : {A : Type 0} (f : A → Bool) (l : List A) (d : A) (k : ℕ) → k < index_of f l → f (get_or l k d) ≡ false
unfolding index_of suc_unless
index_first f [] d k h = absurd (let q : ⊥ = omega arith in q)
index_first f (a ∷ l) d k h = go (test (f a)) k h (index_first f l d)
  where
    go : Test (f a) → (k : ℕ) → k < index_of f (a ∷ l) → ((k : ℕ) → k < index_of f l → f (get_or l k d) ≡ false) → f (get_or (a ∷ l) k d) ≡ false
    go (yes! e) k h ih = let z : k < 0 = rw e at h in absurd (let q : ⊥ = omega arith in q)
    go (no! e) zero h ih = e
    go (no! e) (suc k) h ih = let z : suc k < suc (index_of f l) = rw e at h in ih k (omega arith)

-- the index is where a test passes first
pub index_is : {A : Type 0} (f : A → Bool) (l : List A) (d : A) (k : ℕ) → k < length l → f (get_or l k d) ≡ true
    → ((j : ℕ) → j < k → f (get_or l j d) ≡ false) → index_of f l ≡ k
unfolding index_of suc_unless
index_is f [] d k h q g = absurd (let z : ⊥ = omega arith in z)
index_is f (a ∷ l) d zero h q g = rw q
index_is f (a ∷ l) d (suc k) h q g = rw (g 0 (omega arith)) (ap suc (index_is f l d k (omega arith) q (λ j x. g (suc j) (omega arith))))

pub index_none : {A : Type 0} (f : A → Bool) (l : List A) → any f l ≡ false → index_of f l ≡ length l
unfolding any index_of suc_unless
index_none f [] q = refl
index_none f (a ∷ l) q = rw (or_first (f a) (any f l) q) (ap suc (index_none f l (or_right (f a) (any f l) q)))

pub first_in : {A : Type 0} (l : List A) (n : A) → is_nil l ≡ false → In (first_or n l) l
unfolding is_nil first_or
first_in [] n q = true_false q
first_in (a ∷ l) n q = inl refl

pub in_some : {A : Type 0} (l : List A) (a : A) → In a l → is_nil l ≡ false
unfolding is_nil
in_some [] a m = absurd m
in_some (b ∷ l) a m = refl

pub is_member : (n : ℕ) (l : List ℕ) → is_member_of n l ≡ true → In n l
unfolding is_member_of
is_member n l q = let (k, m, e) = any_in (λ k. eqb n k) l q in subst (λ x. In x l) (sym (eqb-true n k e)) m

pub member_is : (n : ℕ) (l : List ℕ) → In n l → is_member_of n l ≡ true
unfolding is_member_of
member_is n l m = in_any (λ k. eqb n k) l n m (eqb_self n)

pub nil-append : {A : Type 0} (xs ys : List A) → xs ≡ [] → ys ≡ [] → xs ++ ys ≡ []
nil-append xs ys p q = ap₂ ◌++◌ p q

pub if_none : (b : Bool) (g : ℕ) (zs : List ℕ) → cons_if b g zs ≡ [] → (b ≡ false) × (zs ≡ [])
unfolding cons_if
if_none true g zs e = absurd (let z : ◌≡◌ {A = ℕ} (suc (length zs)) 0 = ap length e in let w : ⊥ = omega arith in w)
if_none false g zs e = (refl, e)

pub first_any : {A : Type 0} (n m : A) (l : List A) → is_nil l ≡ false → first_or n l ≡ first_or m l
unfolding is_nil first_or
first_any n m [] q = true_false q
first_any n m (a ∷ l) q = refl
