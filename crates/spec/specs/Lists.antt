-- Lists: ranges, tests over a list, search; masks. Assumes nothing.
use Rattle.std.specs.Prelude.{List, [], ◌∷◌, ◌++◌, Bool, true, false, cond, ◌&&◌, ◌||◌, ℕ, zero, suc, ◌+◌, ◌-◌, ◌/◌, ◌%◌, min, max}
use Rattle.std.specs.Prelude.{eqb, ltb, length, get_or, take, drop, replicate}

-- one, or none
pub data Opt (A : Type 0) : Type 0 where
  none : Opt A
  some : A → Opt A

-- i, i + 1, ..: n numbers
unfoldable pub up_from : ℕ → ℕ → List ℕ
up_from i zero = []
up_from i (suc n) = i ∷ up_from (suc i) n

-- 0 to n - 1
unfoldable pub below : ℕ → List ℕ
below n = up_from 0 n

-- every element passes the test
unfoldable pub all : {A : Type 0} → (A → Bool) → List A → Bool
all f [] = true
all f (a ∷ l) = f a && all f l

-- some element passes the test
unfoldable pub any : {A : Type 0} → (A → Bool) → List A → Bool
any f [] = false
any f (a ∷ l) = f a || any f l

-- the number is in the list
unfoldable pub is_member_of : ℕ → List ℕ → Bool
is_member_of n l = any (λ k. eqb n k) l

-- a before l, where the test holds
unfoldable pub cons_if : {A : Type 0} → Bool → A → List A → List A
cons_if true a l = a ∷ l
cons_if false a l = l

-- the elements that pass the test, in order
unfoldable pub keep : {A : Type 0} → (A → Bool) → List A → List A
keep f [] = []
keep f (a ∷ l) = cons_if (f a) a (keep f l)

-- how many pass the test
unfoldable pub tally : {A : Type 0} → (A → Bool) → List A → ℕ
tally f l = length (keep f l)

-- nothing in the list
unfoldable pub is_nil : {A : Type 0} → List A → Bool
is_nil [] = true
is_nil (a ∷ l) = false

-- 0 where the test holds, else one more
unfoldable pub suc_unless : Bool → ℕ → ℕ
suc_unless true n = 0
suc_unless false n = suc n

-- the index of the first that passes the test; the length if none does
unfoldable pub index_of : {A : Type 0} → (A → Bool) → List A → ℕ
index_of f [] = 0
index_of f (a ∷ l) = suc_unless (f a) (index_of f l)

-- the lists of f one after the other
unfoldable pub flat : {A B : Type 0} → (A → List B) → List A → List B
flat f [] = []
flat f (a ∷ l) = f a ++ flat f l

-- the sum
unfoldable pub total : List ℕ → ℕ
total [] = 0
total (n ∷ l) = n + total l

-- the greatest, 0 if there is none
unfoldable pub greatest : List ℕ → ℕ
greatest [] = 0
greatest (n ∷ l) = max n (greatest l)

-- the least of n and the list
unfoldable pub least : ℕ → List ℕ → ℕ
least n [] = n
least n (k ∷ l) = least (min n k) l

-- n in a rising list, once
unfoldable pub insert_once : ℕ → List ℕ → List ℕ
insert_once n [] = n ∷ []
insert_once n (k ∷ l) = cond (ltb n k) (n ∷ k ∷ l) (k ∷ cond (eqb n k) l (insert_once n l))

-- the numbers of a list, rising, each once
unfoldable pub rising : List ℕ → List ℕ
rising [] = []
rising (n ∷ l) = insert_once n (rising l)

-- the first, or n
unfoldable pub first_or : {A : Type 0} → A → List A → A
first_or n [] = n
first_or n (k ∷ l) = k

-- equal lists
unfoldable pub same_list : List ℕ → List ℕ → Bool
same_list [] [] = true
same_list [] (b ∷ t) = false
same_list (a ∷ s) [] = false
same_list (a ∷ s) (b ∷ t) = eqb a b && same_list s t

-- l, then zeros up to n
unfoldable pub pad_to : ℕ → List ℕ → List ℕ
pad_to n l = l ++ replicate (n - length l) 0

-- n pieces of k elements, one after the other
unfoldable pub pieces : ℕ → ℕ → List ℕ → List (List ℕ)
pieces k zero l = []
pieces k (suc n) l = take k l ∷ pieces k n (drop k l)

-- f of the elements in pairs
unfoldable pub zipped : {A B C : Type 0} → (A → B → C) → List A → List B → List C
zipped f [] ys = []
zipped f (x ∷ xs) [] = []
zipped f (x ∷ xs) (y ∷ ys) = f x y ∷ zipped f xs ys

-- ---- masks of drives or positions, numbered 0 to 7

-- the powers of two below 256
unfoldable pub powers : List ℕ
powers = 1 ∷ 2 ∷ 4 ∷ 8 ∷ 16 ∷ 32 ∷ 64 ∷ 128 ∷ []

-- the mask of d alone; none where d is above 7
unfoldable pub only : ℕ → ℕ
only d = get_or powers d 0

-- d is in the mask
unfoldable pub is_in : ℕ → ℕ → Bool
is_in m d = eqb (m / get_or powers d 256 % 2) 1
