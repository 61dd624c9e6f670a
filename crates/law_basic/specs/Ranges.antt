-- Laws of the list definitions: one step at the front and at the end, lengths, elements. Assumes nothing.
use Rattle.std.specs.Prelude.{◌≡◌, refl, map, List, [], ◌∷◌, ◌++◌, Bool, true, false, not, ◌&&◌, ◌||◌, ℕ, zero, suc, ◌+◌, ◌-◌, ◌*◌}
use Rattle.std.specs.Prelude.{min, max, ◌≤◌, ◌<◌, length, get_or, take, drop, set, replicate, ltb, eqb}
use Rattle.std.proofs.Common.{sym, ap₂, ◌∙◌, subst, append-nil, append_assoc, arith, add-one, drop-cons, drop-drop, length-append, drop_of_length-le, add-zero}
use Rattle.std.proofs.Common.{zero-add, suc-add, add_assoc, zero-mul, suc-mul, add-sub_of_le, eqb-true, lt-ltb, eq-eqb, ne_eqb}
use Rattle.std.proofs.Math.Path.{ap}
use Rattle.std.proofs.lemmas.List.{length-replicate, replicate-append-replicate}
use Rattle.std.proofs.Math.Dec.{leb-suc-suc}
use Rattle.std.proofs.Math.Nat.{sub-zero, zero-min, zero-max, suc-min-suc, min-zero, max-zero}
use Rattle.std.proofs.Math.Decide.{ℕ_discrete}
use Rattle.std.proofs.Math.Arith.{lt_of_le-ne}
use Rattle.spec.specs.Bytes.{part}
use Rattle.spec.specs.Lists.{up_from, below, all, any, is_member_of, cons_if, keep, tally, suc_unless, index_of, flat, total, greatest, least, first_or, same_list, pad_to, pieces, zipped, is_nil}

-- ---- Booleans: a test and its two cases

pub data Test (b : Bool) : Type 0 where
  yes! : b ≡ true → Test b
  no! : b ≡ false → Test b

pub test : (b : Bool) → Test b
test true = yes! refl
test false = no! refl

pub and_left : (a b : Bool) → (a && b) ≡ true → a ≡ true
and_left true b h = refl
and_left false b h = h

pub and_right : (a b : Bool) → (a && b) ≡ true → b ≡ true
and_right true b h = h
and_right false true h = refl
and_right false false h = h

pub and_both : (a b : Bool) → a ≡ true → b ≡ true → (a && b) ≡ true
and_both true b h k = k
and_both false b h k = h

pub not_both : (b : Bool) → b ≡ true → b ≡ false → ⊥
not_both b h k = let z : ◌≡◌ {A = ℕ} 0 1 = cc in omega arith

-- ---- ranges

pub length_up_from : (i n : ℕ) → length (up_from i n) ≡ n
unfolding up_from
length_up_from i zero = refl
length_up_from i (suc n) = ap suc (length_up_from (suc i) n)

pub get_d_up_from : (i n k d : ℕ) → k < n → get_or (up_from i n) k d ≡ i + k
unfolding up_from
get_d_up_from i zero k d h = absurd (let q : ⊥ = omega arith in q)
get_d_up_from i (suc n) zero d h = sym (add-zero i)
get_d_up_from i (suc n) (suc k) d h = get_d_up_from (suc i) n k d (omega arith) ∙ omega arith

pub up_from_add : (i n m : ℕ) → up_from i (n + m) ≡ up_from i n ++ up_from (i + n) m
unfolding up_from
up_from_add i zero m = ap₂ up_from (sym (add-zero i)) (zero-add m)
up_from_add i (suc n) m =
    let e : suc n + m ≡ suc (n + m) = suc-add n m in
    let f : suc i + n ≡ i + suc n = omega arith in
    ap (up_from i) e ∙ ap (λ (x : List ℕ). i ∷ x) (up_from_add (suc i) n m ∙ ap (λ (x : ℕ). up_from (suc i) n ++ up_from x m) f)

pub up_from_snoc : (i n : ℕ) → up_from i (suc n) ≡ up_from i n ++ ((i + n) ∷ [])
unfolding up_from
up_from_snoc i zero = ap (λ (x : ℕ). x ∷ []) (sym (add-zero i))
up_from_snoc i (suc n) =
    let f : suc i + n ≡ i + suc n = omega arith in
    ap (λ (x : List ℕ). i ∷ x) (up_from_snoc (suc i) n ∙ ap (λ (x : ℕ). up_from (suc i) n ++ (x ∷ [])) f)

-- what is left of the numbers below n, from i on: one turn of a loop, and its end
pub up_from_step : (i n : ℕ) → i < n → up_from i (n - i) ≡ i ∷ up_from (i + 1) (n - (i + 1))
unfolding up_from
up_from_step i n h =
    let e : n - i ≡ suc (n - (i + 1)) = omega arith in
    ap (up_from i) e ∙ ap (λ (x : ℕ). i ∷ up_from x (n - (i + 1))) (sym (add-one i))

pub up_from_end : (i n : ℕ) → n ≤ i → up_from i (n - i) ≡ []
unfolding up_from
up_from_end i n h = let e : n - i ≡ 0 = omega arith in ap (up_from i) e

pub below-start : (n : ℕ) → below n ≡ up_from 0 (n - 0)
unfolding below
below-start n = ap (up_from 0) (sym (sub-zero n))

pub below-snoc : (n : ℕ) → below (n + 1) ≡ below n ++ (n ∷ [])
unfolding below
below-snoc n = ap (up_from 0) (add-one n) ∙ up_from_snoc 0 n ∙ ap (λ (x : ℕ). up_from 0 n ++ (x ∷ [])) (zero-add n)

pub below_none : below 0 ≡ []
unfolding below up_from
below_none = refl

pub length-below : (n : ℕ) → length (below n) ≡ n
unfolding below
length-below n = length_up_from 0 n

pub get_d_below : (n k d : ℕ) → k < n → get_or (below n) k d ≡ k
unfolding below
get_d_below n k d h = get_d_up_from 0 n k d h ∙ zero-add k

-- ---- maps

pub map-append : {A B : Type 0} (f : A → B) (l m : List A) → map f (l ++ m) ≡ map f l ++ map f m
map-append f [] m = refl
map-append {B = B} f (x ∷ l) m = ap (λ (r : List B). f x ∷ r) (map-append f l m)

pub map-below-snoc : {B : Type 0} (f : ℕ → B) (n : ℕ) → map f (below (n + 1)) ≡ map f (below n) ++ (f n ∷ [])
map-below-snoc f n = ap (map f) (below-snoc n) ∙ map-append f (below n) (n ∷ [])

pub map_same : {A B : Type 0} (f g : A → B) (l : List A) → ((a : A) → f a ≡ g a) → map f l ≡ map g l
map_same f g [] h = refl
map_same {B = B} f g (x ∷ l) h = ap₂ (λ (y : B) (r : List B). y ∷ r) (h x) (map_same f g l h)

-- of numbers in a range
pub map_up_from_same : {B : Type 0} (f g : ℕ → B) (i n : ℕ) → ((k : ℕ) → i ≤ k → k < i + n → f k ≡ g k) → map f (up_from i n) ≡ map g (up_from i n)
unfolding up_from
map_up_from_same f g i zero h = refl
map_up_from_same {B = B} f g i (suc n) h =
    ap₂ (λ (y : B) (r : List B). y ∷ r) (h i (omega arith) (omega arith)) (map_up_from_same f g (suc i) n (λ k p q. h k (omega arith) (omega arith)))

pub map-below_same : {B : Type 0} (f g : ℕ → B) (n : ℕ) → ((k : ℕ) → k < n → f k ≡ g k) → map f (below n) ≡ map g (below n)
unfolding below
map-below_same f g n h = map_up_from_same f g 0 n (λ k p q. h k (omega arith))

pub map-map : {A B C : Type 0} (g : B → C) (f : A → B) (l : List A) → map g (map f l) ≡ map (λ (a : A). g (f a)) l
map-map g f [] = refl
map-map {C = C} g f (x ∷ l) = ap (λ (r : List C). g (f x) ∷ r) (map-map g f l)

-- an element of a map, whatever stands for those past the end
pub get_d_map : {A B : Type 0} (f : A → B) (l : List A) (k : ℕ) (d : B) (e : A) → k < length l → get_or (map f l) k d ≡ f (get_or l k e)
get_d_map f [] k d e h = absurd (let q : ⊥ = omega arith in q)
get_d_map f (x ∷ l) zero d e h = refl
get_d_map f (x ∷ l) (suc k) d e h = get_d_map f l k d e (omega arith)

pub get_d_map-below : {B : Type 0} (f : ℕ → B) (n k : ℕ) (d : B) → k < n → get_or (map f (below n)) k d ≡ f k
get_d_map-below f n k d h = get_d_map f (below n) k d 0 (subst (λ (x : ℕ). k < x) (sym (length-below n)) h) ∙ ap f (get_d_below n k 0 h)

pub map_set : {A B : Type 0} (f : A → B) (l : List A) (i : ℕ) (a : A) → map f (set l i a) ≡ set (map f l) i (f a)
map_set f [] i a = refl
map_set f (x ∷ l) zero a = refl
map_set {B = B} f (x ∷ l) (suc i) a = ap (λ (r : List B). f x ∷ r) (map_set f l i a)

pub map-take : {A B : Type 0} (f : A → B) (n : ℕ) (l : List A) → map f (take n l) ≡ take n (map f l)
map-take f zero l = refl
map-take f (suc n) [] = refl
map-take {B = B} f (suc n) (x ∷ l) = ap (λ (r : List B). f x ∷ r) (map-take f n l)

-- ---- tests over a list

pub all_append : {A : Type 0} (f : A → Bool) (l m : List A) → all f (l ++ m) ≡ (all f l && all f m)
unfolding all
all_append f [] m = refl
all_append f (a ∷ l) m = go (f a) (all f l) (all f m) (all f (l ++ m)) (all_append f l m)
  where
    go : (x y z w : Bool) → w ≡ (y && z) → (x && w) ≡ (x && y && z)
    go true y z w e = e
    go false y z w e = refl

pub any_append : {A : Type 0} (f : A → Bool) (l m : List A) → any f (l ++ m) ≡ (any f l || any f m)
unfolding any
any_append f [] m = refl
any_append f (a ∷ l) m = go (f a) (any f l) (any f m) (any f (l ++ m)) (any_append f l m)
  where
    go : (x y z w : Bool) → w ≡ (y || z) → (x || w) ≡ (x || y || z)
    go true y z w e = refl
    go false y z w e = e

pub all_hit : {A : Type 0} (f : A → Bool) (a : A) (l : List A) → f a ≡ true → all f (a ∷ l) ≡ all f l
unfolding all
all_hit f a l e = ap (λ (x : Bool). x && all f l) e

pub all_miss : {A : Type 0} (f : A → Bool) (a : A) (l : List A) → f a ≡ false → all f (a ∷ l) ≡ false
unfolding all
all_miss f a l e = ap (λ (x : Bool). x && all f l) e

pub any_hit : {A : Type 0} (f : A → Bool) (a : A) (l : List A) → f a ≡ true → any f (a ∷ l) ≡ true
unfolding any
any_hit f a l e = ap (λ (x : Bool). x || any f l) e

pub any_miss : {A : Type 0} (f : A → Bool) (a : A) (l : List A) → f a ≡ false → any f (a ∷ l) ≡ any f l
unfolding any
any_miss f a l e = ap (λ (x : Bool). x || any f l) e

pub all_none : {A : Type 0} (f : A → Bool) → all f [] ≡ true
unfolding all
all_none f = refl

pub any_none : {A : Type 0} (f : A → Bool) → any f [] ≡ false
unfolding any
any_none f = refl

-- what each number of a range passes, all of it does, and back
pub all_up_from : (f : ℕ → Bool) (i n : ℕ) → ((k : ℕ) → i ≤ k → k < i + n → f k ≡ true) → all f (up_from i n) ≡ true
unfolding all up_from
all_up_from f i zero h = refl
all_up_from f i (suc n) h =
    and_both (f i) (all f (up_from (suc i) n)) (h i (omega arith) (omega arith)) (all_up_from f (suc i) n (λ k p q. h k (omega arith) (omega arith)))

pub all-below : (f : ℕ → Bool) (n : ℕ) → ((k : ℕ) → k < n → f k ≡ true) → all f (below n) ≡ true
unfolding below
all-below f n h = all_up_from f 0 n (λ k p q. h k (omega arith))

pub all_get_d : {A : Type 0} (f : A → Bool) (l : List A) (k : ℕ) (d : A) → all f l ≡ true → k < length l → f (get_or l k d) ≡ true
unfolding all
all_get_d f [] k d e h = absurd (let q : ⊥ = omega arith in q)
all_get_d f (a ∷ l) zero d e h = and_left (f a) (all f l) e
all_get_d f (a ∷ l) (suc k) d e h = all_get_d f l k d (and_right (f a) (all f l) e) (omega arith)

pub all_in_below : (f : ℕ → Bool) (n k : ℕ) → all f (below n) ≡ true → k < n → f k ≡ true
all_in_below f n k e h =
    let l : k < length (below n) = subst (λ (x : ℕ). k < x) (sym (length-below n)) h in
    ap f (sym (get_d_below n k 0 h)) ∙ all_get_d f (below n) k 0 e l

pub all_same : {A : Type 0} (f g : A → Bool) (l : List A) → ((a : A) → f a ≡ g a) → all f l ≡ all g l
unfolding all
all_same f g [] h = refl
all_same f g (a ∷ l) h = ap₂ (λ (x y : Bool). x && y) (h a) (all_same f g l h)

pub any_same : {A : Type 0} (f g : A → Bool) (l : List A) → ((a : A) → f a ≡ g a) → any f l ≡ any g l
unfolding any
any_same f g [] h = refl
any_same f g (a ∷ l) h = ap₂ (λ (x y : Bool). x || y) (h a) (any_same f g l h)

pub all_up_from_same : (f g : ℕ → Bool) (i n : ℕ) → ((k : ℕ) → i ≤ k → k < i + n → f k ≡ g k) → all f (up_from i n) ≡ all g (up_from i n)
unfolding all up_from
all_up_from_same f g i zero h = refl
all_up_from_same f g i (suc n) h =
    ap₂ (λ (x y : Bool). x && y) (h i (omega arith) (omega arith)) (all_up_from_same f g (suc i) n (λ k p q. h k (omega arith) (omega arith)))

pub all-below_same : (f g : ℕ → Bool) (n : ℕ) → ((k : ℕ) → k < n → f k ≡ g k) → all f (below n) ≡ all g (below n)
unfolding below
all-below_same f g n h = all_up_from_same f g 0 n (λ k p q. h k (omega arith))

-- ---- elements that pass

pub keep_append : {A : Type 0} (f : A → Bool) (l m : List A) → keep f (l ++ m) ≡ keep f l ++ keep f m
unfolding keep cons_if
keep_append f [] m = refl
keep_append {A} f (a ∷ l) m = go (f a) (keep_append f l m)
  where
    go : (b : Bool) → keep f (l ++ m) ≡ keep f l ++ keep f m → cons_if b a (keep f (l ++ m)) ≡ cons_if b a (keep f l) ++ keep f m
    go true e = ap (λ (x : List A). a ∷ x) e
    go false e = e

pub keep_hit : {A : Type 0} (f : A → Bool) (a : A) (l : List A) → f a ≡ true → keep f (a ∷ l) ≡ a ∷ keep f l
unfolding keep cons_if
keep_hit f a l e = ap (λ (x : Bool). cons_if x a (keep f l)) e

pub keep_miss : {A : Type 0} (f : A → Bool) (a : A) (l : List A) → f a ≡ false → keep f (a ∷ l) ≡ keep f l
unfolding keep cons_if
keep_miss f a l e = ap (λ (x : Bool). cons_if x a (keep f l)) e

pub keep_none : {A : Type 0} (f : A → Bool) → keep f [] ≡ []
unfolding keep
keep_none f = refl

pub keep_up_from_same : (f g : ℕ → Bool) (i n : ℕ) → ((k : ℕ) → i ≤ k → k < i + n → f k ≡ g k) → keep f (up_from i n) ≡ keep g (up_from i n)
unfolding keep up_from
keep_up_from_same f g i zero h = refl
keep_up_from_same f g i (suc n) h =
    ap₂ (λ (x : Bool) (y : List ℕ). cons_if x i y) (h i (omega arith) (omega arith)) (keep_up_from_same f g (suc i) n (λ k p q. h k (omega arith) (omega arith)))

pub keep-below_same : (f g : ℕ → Bool) (n : ℕ) → ((k : ℕ) → k < n → f k ≡ g k) → keep f (below n) ≡ keep g (below n)
unfolding below
keep-below_same f g n h = keep_up_from_same f g 0 n (λ k p q. h k (omega arith))

-- tests over the numbers of a range that pass another
pub all-keep_same : (q f g : ℕ → Bool) (i n : ℕ) → ((k : ℕ) → i ≤ k → k < i + n → f k ≡ g k) → all f (keep q (up_from i n)) ≡ all g (keep q (up_from i n))
unfolding keep up_from cons_if all
all-keep_same q f g i zero h = refl
all-keep_same q f g i (suc n) h = go (q i) (h i (omega arith) (omega arith)) (all-keep_same q f g (suc i) n (λ k a b. h k (omega arith) (omega arith)))
  where
    go : (b : Bool) → f i ≡ g i → all f (keep q (up_from (suc i) n)) ≡ all g (keep q (up_from (suc i) n))
        → all f (cons_if b i (keep q (up_from (suc i) n))) ≡ all g (cons_if b i (keep q (up_from (suc i) n)))
    go true e r = ap₂ (λ (x y : Bool). x && y) e r
    go false e r = r

pub keep-keep_same : (q f g : ℕ → Bool) (i n : ℕ) → ((k : ℕ) → i ≤ k → k < i + n → f k ≡ g k) → keep f (keep q (up_from i n)) ≡ keep g (keep q (up_from i n))
unfolding keep up_from cons_if
keep-keep_same q f g i zero h = refl
keep-keep_same q f g i (suc n) h = go (q i) (h i (omega arith) (omega arith)) (keep-keep_same q f g (suc i) n (λ k a b. h k (omega arith) (omega arith)))
  where
    go : (b : Bool) → f i ≡ g i → keep f (keep q (up_from (suc i) n)) ≡ keep g (keep q (up_from (suc i) n))
        → keep f (cons_if b i (keep q (up_from (suc i) n))) ≡ keep g (cons_if b i (keep q (up_from (suc i) n)))
    go true e r = ap₂ (λ (x : Bool) (y : List ℕ). cons_if x i y) e r
    go false e r = r

pub length-keep : {A : Type 0} (f : A → Bool) (l : List A) → length (keep f l) ≤ length l
unfolding keep cons_if
length-keep f [] = omega arith
length-keep {A} f (a ∷ l) = go (f a) (length-keep f l)
  where
    go : (b : Bool) → length (keep f l) ≤ length l → length (cons_if b a (keep f l)) ≤ suc (length l)
    go true e = omega arith
    go false e = omega arith

-- ---- the first that passes

pub index_of_hit : {A : Type 0} (f : A → Bool) (a : A) (l : List A) → f a ≡ true → index_of f (a ∷ l) ≡ 0
unfolding index_of suc_unless
index_of_hit f a l e = ap (λ (x : Bool). suc_unless x (index_of f l)) e

pub index_of_miss : {A : Type 0} (f : A → Bool) (a : A) (l : List A) → f a ≡ false → index_of f (a ∷ l) ≡ suc (index_of f l)
unfolding index_of suc_unless
index_of_miss f a l e = ap (λ (x : Bool). suc_unless x (index_of f l)) e

pub index_of_none : {A : Type 0} (f : A → Bool) → index_of f [] ≡ 0
unfolding index_of
index_of_none f = refl

-- there is one just if the index is within the list
pub index_of_any : {A : Type 0} (f : A → Bool) (l : List A) → ltb (index_of f l) (length l) ≡ any f l
unfolding index_of any suc_unless
index_of_any f [] = refl
index_of_any f (a ∷ l) = go (f a) (index_of f l) (length l) (any f l) (index_of_any f l)
  where
    go : (b : Bool) (n m : ℕ) (c : Bool) → ltb n m ≡ c → ltb (suc_unless b n) (suc m) ≡ (b || c)
    go true n m c h = lt-ltb 0 (suc m) (omega arith)
    go false n m c h = leb-suc-suc (suc n) m ∙ h

-- the search from i on: a hit, a miss, the end
pub found_hit : (f : ℕ → Bool) (i n : ℕ) → i < n → f i ≡ true → i + index_of f (up_from i (n - i)) ≡ i
found_hit f i n h e =
    ap (λ (x : List ℕ). i + index_of f x) (up_from_step i n h) ∙ ap (λ (x : ℕ). i + x) (index_of_hit f i (up_from (i + 1) (n - (i + 1))) e) ∙ add-zero i

pub found_miss : (f : ℕ → Bool) (i n : ℕ) → i < n → f i ≡ false → i + index_of f (up_from i (n - i)) ≡ i + 1 + index_of f (up_from (i + 1) (n - (i + 1)))
found_miss f i n h e =
    let m = up_from (i + 1) (n - (i + 1)) in
    let q : index_of f (i ∷ m) ≡ suc (index_of f m) = index_of_miss f i m e in
    ap (λ (x : List ℕ). i + index_of f x) (up_from_step i n h) ∙ omega (arith, q)

pub found_end : (f : ℕ → Bool) (i n : ℕ) → n ≤ i → i + index_of f (up_from i (n - i)) ≡ i
found_end f i n h = ap (λ (x : List ℕ). i + index_of f x) (up_from_end i n h) ∙ ap (λ (x : ℕ). i + x) (index_of_none f) ∙ add-zero i

pub found-start : (f : ℕ → Bool) (n : ℕ) → 0 + index_of f (up_from 0 (n - 0)) ≡ index_of f (below n)
found-start f n = zero-add (index_of f (up_from 0 (n - 0))) ∙ ap (index_of f) (sym (below-start n))

-- ---- flat, total, greatest, least

pub flat_append : {A B : Type 0} (f : A → List B) (l m : List A) → flat f (l ++ m) ≡ flat f l ++ flat f m
unfolding flat
flat_append f [] m = refl
flat_append {B = B} f (a ∷ l) m = ap (λ (x : List B). f a ++ x) (flat_append f l m) ∙ sym (append_assoc (f a) (flat f l) (flat f m))

pub flat-snoc : {A B : Type 0} (f : A → List B) (l : List A) (a : A) → flat f (l ++ (a ∷ [])) ≡ flat f l ++ f a
unfolding flat
flat-snoc {B = B} f l a = flat_append f l (a ∷ []) ∙ ap (λ (x : List B). flat f l ++ x) (append-nil (f a))

pub flat_none : {A B : Type 0} (f : A → List B) → flat f [] ≡ []
unfolding flat
flat_none f = refl

pub flat-cons : {A B : Type 0} (f : A → List B) (a : A) (l : List A) → flat f (a ∷ l) ≡ f a ++ flat f l
unfolding flat
flat-cons f a l = refl

-- pieces of one length
pub length-flat : {A B : Type 0} (f : A → List B) (w : ℕ) (l : List A) → ((a : A) → length (f a) ≡ w) → length (flat f l) ≡ length l * w
unfolding flat
length-flat f w [] h = sym (zero-mul w)
length-flat f w (a ∷ l) h =
    let e : length (f a) + length (flat f l) ≡ w + length l * w = ap₂ ◌+◌ (h a) (length-flat f w l h) in
    length-append (f a) (flat f l) ∙ e ∙ omega (arith, suc-mul (length l) w)

pub total-append : (l m : List ℕ) → total (l ++ m) ≡ total l + total m
unfolding total
total-append [] m = sym (zero-add (total m))
total-append (n ∷ l) m = ap (λ (x : ℕ). n + x) (total-append l m) ∙ sym (add_assoc n (total l) (total m))

pub least-le : (n : ℕ) (l : List ℕ) → least n l ≤ n
unfolding least
least-le n [] = omega arith
least-le n (k ∷ l) = let h = least-le (min n k) l in omega arith

pub greatest-snoc : (l : List ℕ) (n : ℕ) → greatest (l ++ (n ∷ [])) ≡ max (greatest l) n
unfolding greatest
greatest-snoc [] n = max-zero n ∙ sym (zero-max n)
greatest-snoc (k ∷ l) n = ap (max k) (greatest-snoc l n) ∙ omega arith

pub greatest-append : (l m : List ℕ) → greatest (l ++ m) ≡ max (greatest l) (greatest m)
unfolding greatest
greatest-append [] m = sym (zero-max (greatest m))
greatest-append (k ∷ l) m = ap (max k) (greatest-append l m) ∙ omega arith

-- ---- equal lists

pub same_list_refl : (l : List ℕ) → same_list l l ≡ true
unfolding same_list
same_list_refl [] = refl
same_list_refl (a ∷ l) = and_both (eqb a a) (same_list l l) (eq-eqb a a refl) (same_list_refl l)

pub same_list_true : (s t : List ℕ) → same_list s t ≡ true → s ≡ t
unfolding same_list
same_list_true [] [] h = refl
same_list_true [] (b ∷ t) h = absurd (not_both false h refl)
same_list_true (a ∷ s) [] h = absurd (not_both false h refl)
same_list_true (a ∷ s) (b ∷ t) h =
    ap₂ ◌∷◌ (eqb-true a b (and_left (eqb a b) (same_list s t) h)) (same_list_true s t (and_right (eqb a b) (same_list s t) h))

pub same_list_of : (s t : List ℕ) → s ≡ t → same_list s t ≡ true
same_list_of s t e = ap (same_list s) (sym e) ∙ same_list_refl s

pub same_list_long : (s t : List ℕ) → (length s ≡ length t → ⊥) → same_list s t ≡ false
unfolding same_list
same_list_long [] [] h = absurd (h refl)
same_list_long [] (b ∷ t) h = refl
same_list_long (a ∷ s) [] h = refl
same_list_long (a ∷ s) (b ∷ t) h = go (eqb a b) (same_list s t) (same_list_long s t (λ e. h (ap suc e)))
  where
    go : (x y : Bool) → y ≡ false → (x && y) ≡ false
    go true y e = e
    go false y e = refl

-- the comparison from index i on
pub same_step : (s t : List ℕ) (i : ℕ) → i < length s → i < length t → get_or s i 0 ≡ get_or t i 0
    → same_list (drop i s) (drop i t) ≡ same_list (drop (i + 1) s) (drop (i + 1) t)
unfolding same_list
same_step s t i h k e =
    let q : eqb (get_or s i 0) (get_or t i 0) ≡ true = eq-eqb (get_or s i 0) (get_or t i 0) e in
    rw (add-one, drop-cons s i 0 h, drop-cons t i 0 k) (ap (λ (x : Bool). x && same_list (drop (suc i) s) (drop (suc i) t)) q)

pub same_stop : (s t : List ℕ) (i : ℕ) → i < length s → i < length t → (get_or s i 0 ≡ get_or t i 0 → ⊥) → same_list (drop i s) (drop i t) ≡ false
unfolding same_list
same_stop s t i h k e =
    let q : eqb (get_or s i 0) (get_or t i 0) ≡ false = ne_eqb (get_or s i 0) (get_or t i 0) e in
    rw (drop-cons s i 0 h, drop-cons t i 0 k) (ap (λ (x : Bool). x && same_list (drop (suc i) s) (drop (suc i) t)) q)

pub same_end : (s t : List ℕ) (i : ℕ) → length s ≤ i → length t ≤ i → same_list (drop i s) (drop i t) ≡ true
same_end s t i h k = same_list_of (drop i s) (drop i t) (drop_of_length-le s h ∙ sym (drop_of_length-le t k))

-- ---- padding

pub length-pad_to : (n : ℕ) (l : List ℕ) → length l ≤ n → length (pad_to n l) ≡ n
unfolding pad_to
length-pad_to n l h = length-append l (replicate (n - length l) 0) ∙ ap (λ (x : ℕ). length l + x) (length-replicate (n - length l) 0) ∙ add-sub_of_le h

pub replicate-snoc : (n : ℕ) → ◌≡◌ {A = List ℕ} (replicate n 0 ++ (0 ∷ [])) (replicate (n + 1) 0)
replicate-snoc n = replicate-append-replicate n 1 0

-- ---- pieces

pub length-pieces : (k n : ℕ) (l : List ℕ) → length (pieces k n l) ≡ n
unfolding pieces
length-pieces k zero l = refl
length-pieces k (suc n) l = ap suc (length-pieces k n (drop k l))

-- piece i is the part of k from i * k on
pub get_d_pieces : (k n : ℕ) (l : List ℕ) (i : ℕ) → i < n → get_or (pieces k n l) i [] ≡ part (i * k) k l
unfolding pieces part
get_d_pieces k zero l i h = absurd (let q : ⊥ = omega arith in q)
get_d_pieces k (suc n) l zero h = ap (λ (a : ℕ). take k (drop a l)) (sym (zero-mul k))
get_d_pieces k (suc n) l (suc i) h =
    get_d_pieces k n (drop k l) i (omega arith)
    ∙ ap (take k) (drop-drop (i * k) k l ∙ ap (λ (a : ℕ). drop a l) (let e : k + i * k ≡ suc i * k = omega (arith, suc-mul i k) in e))

-- ---- lists in pairs

pub zipped_set : {A B C : Type 0} (f : A → B → C) (xs : List A) (ys : List B) (i : ℕ) (a : A) (b : B)
    → zipped f (set xs i a) (set ys i b) ≡ set (zipped f xs ys) i (f a b)
unfolding zipped
zipped_set f [] ys i a b = refl
zipped_set f (x ∷ xs) [] zero a b = refl
zipped_set f (x ∷ xs) [] (suc i) a b = refl
zipped_set f (x ∷ xs) (y ∷ ys) zero a b = refl
zipped_set {C = C} f (x ∷ xs) (y ∷ ys) (suc i) a b = ap (λ (r : List C). f x y ∷ r) (zipped_set f xs ys i a b)

pub get_d_zipped : {A B C : Type 0} (f : A → B → C) (xs : List A) (ys : List B) (i : ℕ) (a : A) (b : B) (c : C) → i < length xs → i < length ys
    → get_or (zipped f xs ys) i c ≡ f (get_or xs i a) (get_or ys i b)
unfolding zipped
get_d_zipped f [] ys i a b c h g = absurd (let q : ⊥ = omega arith in q)
get_d_zipped f (x ∷ xs) [] i a b c h g = absurd (let q : ⊥ = omega arith in q)
get_d_zipped f (x ∷ xs) (y ∷ ys) zero a b c h g = refl
get_d_zipped f (x ∷ xs) (y ∷ ys) (suc i) a b c h g = get_d_zipped f xs ys i a b c (omega arith) (omega arith)

pub length-zipped : {A B C : Type 0} (f : A → B → C) (xs : List A) (ys : List B) → length (zipped f xs ys) ≡ min (length xs) (length ys)
unfolding zipped
length-zipped f [] ys = sym (zero-min (length ys))
length-zipped f (x ∷ xs) [] = sym (min-zero (suc (length xs)))
length-zipped f (x ∷ xs) (y ∷ ys) = ap suc (length-zipped f xs ys) ∙ sym (suc-min-suc (length xs) (length ys))

-- what all numbers of a list pass, a member passes
pub member_all : (f : ℕ → Bool) (n : ℕ) (l : List ℕ) → is_member_of n l ≡ true → all f l ≡ true → f n ≡ true
unfolding is_member_of any all
member_all f n [] h g = absurd (not_both false h refl)
member_all f n (k ∷ l) h g = go (test (eqb n k)) (λ e. member_all f n l e (and_right (f k) (all f l) g))
  where
    go : Test (eqb n k) → (is_member_of n l ≡ true → f n ≡ true) → f n ≡ true
    go (yes! e) r = ap f (eqb-true n k e) ∙ and_left (f k) (all f l) g
    go (no! e) r = r (sym (ap (λ (x : Bool). x || any (λ j. eqb n j) l) e) ∙ h)

-- ---- the first of those that pass, from i on

module _ (f : ℕ → Bool) (i n : ℕ) where
  pub first_turn : i < n → f i ≡ true → first_or 0 (keep f (up_from i (n - i))) ≡ i
  unfolding first_or
  first_turn h e = ap (first_or 0) (ap (keep f) (up_from_step i n h) ∙ keep_hit f i (up_from (i + 1) (n - (i + 1))) e)

  pub first_pass : i < n → f i ≡ false → first_or 0 (keep f (up_from i (n - i))) ≡ first_or 0 (keep f (up_from (i + 1) (n - (i + 1))))
  first_pass h e = ap (first_or 0) (ap (keep f) (up_from_step i n h) ∙ keep_miss f i (up_from (i + 1) (n - (i + 1))) e)

  pub first_end : n ≤ i → first_or 0 (keep f (up_from i (n - i))) ≡ 0
  unfolding first_or
  first_end h = ap (first_or 0) (ap (keep f) (up_from_end i n h) ∙ keep_none f)

-- the lowest of those that pass is one of them
pub first_passes : (f : ℕ → Bool) (i n : ℕ) → 0 < length (keep f (up_from i n))
    → (f (first_or 0 (keep f (up_from i n))) ≡ true) × (first_or 0 (keep f (up_from i n)) < i + n)
unfolding keep up_from cons_if first_or
first_passes f i zero h = absurd (let q : ⊥ = omega arith in q)
first_passes f i (suc n) h = go (test (f i)) (first_passes f (suc i) n) h
  where
    go : Test (f i) → (0 < length (keep f (up_from (suc i) n)) → (f (first_or 0 (keep f (up_from (suc i) n))) ≡ true) × (first_or 0 (keep f (up_from (suc i) n)) < suc i + n))
        → 0 < length (cons_if (f i) i (keep f (up_from (suc i) n)))
        → (f (first_or 0 (cons_if (f i) i (keep f (up_from (suc i) n)))) ≡ true) × (first_or 0 (cons_if (f i) i (keep f (up_from (suc i) n))) < i + suc n)
    go (yes! e) r q = rw e (e, omega arith)
    go (no! e) r q = let w = r (rw e at q) in rw e (w.0, omega (arith, w.1))

-- a test over those that pass another
pub all_keep : {A : Type 0} (f g : A → Bool) (l : List A) → all f (keep (λ (a : A). not (g a)) l) ≡ all (λ (a : A). g a || f a) l
unfolding all keep cons_if
all_keep f g [] = refl
all_keep {A} f g (a ∷ l) = go (g a) (all_keep f g l)
  where
    go : (b : Bool) → all f (keep (λ (x : A). not (g x)) l) ≡ all (λ (x : A). g x || f x) l
        → all f (cons_if (not b) a (keep (λ (x : A). not (g x)) l)) ≡ ((b || f a) && all (λ (x : A). g x || f x) l)
    go true e = e
    go false e = ap (λ (x : Bool). f a && x) e

-- ---- one more at the end

pub flat-below-snoc : {B : Type 0} (f : ℕ → List B) (n : ℕ) → flat f (below (n + 1)) ≡ flat f (below n) ++ f n
flat-below-snoc f n = ap (flat f) (below-snoc n) ∙ flat-snoc f (below n) n

pub keep-below-snoc : (f : ℕ → Bool) (n : ℕ) → keep f (below (n + 1)) ≡ keep f (below n) ++ cons_if (f n) n []
unfolding keep
keep-below-snoc f n = ap (keep f) (below-snoc n) ∙ keep_append f (below n) (n ∷ [])

pub tally-below_hit : (f : ℕ → Bool) (n : ℕ) → f n ≡ true → tally f (below (n + 1)) ≡ tally f (below n) + 1
unfolding tally cons_if
tally-below_hit f n e = ap length (keep-below-snoc f n) ∙ length-append (keep f (below n)) (cons_if (f n) n []) ∙ ap (λ (b : Bool). length (keep f (below n)) + length (cons_if b n [])) e

pub tally-below_miss : (f : ℕ → Bool) (n : ℕ) → f n ≡ false → tally f (below (n + 1)) ≡ tally f (below n)
unfolding tally cons_if
tally-below_miss f n e =
    ap length (keep-below-snoc f n) ∙ length-append (keep f (below n)) (cons_if (f n) n []) ∙ ap (λ (b : Bool). length (keep f (below n)) + length (cons_if b n [])) e
    ∙ add-zero (length (keep f (below n)))

pub tally-le : (f : ℕ → Bool) (n : ℕ) → tally f (below n) ≤ n
unfolding tally
tally-le f n = omega (arith, length-keep f (below n), length-below n)

pub any-map : {A B : Type 0} (f : B → Bool) (g : A → B) (l : List A) → any f (map g l) ≡ any (λ (a : A). f (g a)) l
unfolding any
any-map f g [] = refl
any-map f g (a ∷ l) = ap (λ (x : Bool). f (g a) || x) (any-map f g l)

-- a range at number m
pub below_split : (m k : ℕ) → below (m + k) ≡ below m ++ up_from m k
unfolding below
below_split m k = up_from_add 0 m k ∙ ap (λ (x : ℕ). up_from 0 m ++ up_from x k) (zero-add m)

pub any_up_from_same : (f g : ℕ → Bool) (i n : ℕ) → ((k : ℕ) → i ≤ k → k < i + n → f k ≡ g k) → any f (up_from i n) ≡ any g (up_from i n)
unfolding any up_from
any_up_from_same f g i zero h = refl
any_up_from_same f g i (suc n) h =
    ap₂ (λ (x y : Bool). x || y) (h i (omega arith) (omega arith)) (any_up_from_same f g (suc i) n (λ k p q. h k (omega arith) (omega arith)))

pub pass_none : {A : Type 0} (f : A → Bool) (l : List A) → any f l ≡ false → keep f l ≡ []
unfolding keep cons_if any
pass_none f [] e = refl
pass_none {A} f (a ∷ l) e = go (f a) (pass_none f l) e
  where
    go : (b : Bool) → (any f l ≡ false → keep f l ≡ []) → (b || any f l) ≡ false → cons_if b a (keep f l) ≡ []
    go true r q = absurd (not_both true refl q)
    go false r q = r q

pub or-false : (x y : Bool) → (x || y) ≡ false → (x ≡ false) × (y ≡ false)
or-false true y q = absurd (not_both true refl q)
or-false false y q = (refl, q)

pub any_false : (f : ℕ → Bool) (i n k : ℕ) → any f (up_from i n) ≡ false → i ≤ k → k < i + n → f k ≡ false
unfolding any up_from
any_false f i zero k e h l = absurd (let w : ⊥ = omega arith in w)
any_false f i (suc n) k e h l =
    let w = or-false (f i) (any f (up_from (suc i) n)) e in
    go (ℕ_discrete i k) w.0 (λ x. any_false f (suc i) n k w.1 x (omega arith))
  where
    go : Dec (i ≡ k) → f i ≡ false → (suc i ≤ k → f k ≡ false) → f k ≡ false
    go (yes q) a b = ap f (sym q) ∙ a
    go (no q) a b = b (lt_of_le-ne h q)

-- a && b fails where a holds
pub and_fails : (a b : Bool) → (a && b) ≡ false → a ≡ true → b ≡ false
and_fails true b e q = e
and_fails false b e q = absurd (not_both false q refl)

pub and-false : (a b : Bool) → b ≡ false → (a && b) ≡ false
and-false true b e = e
and-false false b e = refl

pub or_left : (a b : Bool) → (a || b) ≡ false → a ≡ false
or_left true b h = absurd (not_both true refl h)
or_left false b h = refl

pub nil_is : {A : Type 0} (l : List A) → is_nil l ≡ true → l ≡ []
unfolding is_nil
nil_is [] q = refl
nil_is (a ∷ l) q = absurd (not_both false q refl)

pub keep-map : {A B : Type 0} (f : B → Bool) (g : A → B) (l : List A) → keep f (map g l) ≡ map g (keep (λ (a : A). f (g a)) l)
unfolding keep cons_if
keep-map f g [] = refl
keep-map {A} f g (a ∷ l) = go (test (f (g a))) (keep-map f g l)
  where
    go : Test (f (g a)) → keep f (map g l) ≡ map g (keep (λ (x : A). f (g x)) l) → keep f (map g (a ∷ l)) ≡ map g (keep (λ (x : A). f (g x)) (a ∷ l))
    go (yes! q) ih = rw q (ap (λ x. g a ∷ x) ih)
    go (no! q) ih = rw q ih
