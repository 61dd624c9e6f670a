-- Rising lists, known by their members; numbers taken by rising keys; and a grid of drives and zones, number by number. Assumes nothing.
use Rattle.std.specs.Prelude.{◌≡◌, refl, true, false, cond, ◌&&◌, ◌||◌, ◌⊎◌, leb, ltb, length}
use Rattle.std.proofs.Common.{sym, ap₂, ◌∙◌, inl, inr, suc-mul, zero-mul, add-zero, add-one, eqb-true, eq-eqb, ne_eqb, leb-true, leb-false, ltb-true, ltb-false}
use Rattle.std.proofs.Math.Path.{ap, subst}
use mathlib.Core.List.{List, [], ◌∷◌, ◌++◌, map}
use Rattle.std.proofs.Math.Bool.{Bool, not}
use Prim.Native.Nat.{ℕ, zero, suc, ◌+◌, ◌*◌, ◌/◌, ◌%◌, ◌≤◌, ◌<◌}
use Rattle.std.proofs.Math.Decide.{ℕ_discrete}
use native.Mathlib.Omega.{arith}
use Rattle.std.proofs.lemmas.Bool.{eqb-false, not-true}
use Rattle.std.proofs.Math.Arith.{digits_div, digits_mod, lt_of_le-ne}
use Rattle.std.proofs.Math.Dec.{eqb}
use Rattle.spec.specs.Lists.{up_from, below, cons_if, keep, flat, insert_once, rising}
use Rattle.law_basic.specs.Ranges.{Test, test, and_right, below_split, below_none, flat_none, flat-cons, flat-below-snoc, map-append, map-map, keep_append, keep-map, length-keep}
use Rattle.law_basic.specs.Ranges.Test.{yes!, no! }
use Rattle.law_drives.specs.Dropping.{insert_in, in_rising, rising_in}
use Rattle.law_drives.specs.Members.{In, in_map, map_in, in_keep, keep_in, in_below, below_in, keep_cong, map_cong, flat_cong, keep-keep, keep_nothing}
use Rattle.law_drives.specs.Tests.{clash, not_so, and_false_right, or_true_left, or_true_right, or_neither, cond_true, cond_false}

-- ---- rising lists

-- each number is below all behind it
abbrev pub Climbs : List ℕ → Type 0
Climbs [] = Unit {0}
Climbs (a ∷ l) = ((k : ℕ) → In k l → a < k) × Climbs l

insert_climbs : (n : ℕ) (l : List ℕ) → Climbs l → Climbs (insert_once n l)
unfolding insert_once
insert_climbs n [] r = ((λ k m. absurd m), tt)
insert_climbs n (a ∷ l) (h, r) = go (test (ltb n a)) (test (eqb n a)) (insert_climbs n l r)
  where
    go : Test (ltb n a) → Test (eqb n a) → Climbs (insert_once n l) → Climbs (cond (ltb n a) (n ∷ a ∷ l) (a ∷ cond (eqb n a) l (insert_once n l)))
    go (yes! q) e ih = rw q (first, (h, r))
      where
        first : (k : ℕ) → In k (a ∷ l) → n < k
        first k (inl e) = subst (λ (x : ℕ). n < x) (sym e) (ltb-true n a q)
        first k (inr m) = let x = ltb-true n a q in let y = h k m in omega arith
    go (no! q) (yes! e) ih = rw (q, e) (h, r)
    go (no! q) (no! e) ih = rw (q, e) ((λ k m. later k (insert_in n l k m)), ih)
      where
        later : (k : ℕ) → (k ≡ n) ⊎ In k l → a < k
        later k (inl x) = let y = ltb-false n a q in let z : ¬ (n ≡ a) = eqb-false n a e in omega arith
        later k (inr m) = h k m

pub rising_climbs : (l : List ℕ) → Climbs (rising l)
unfolding rising
rising_climbs [] = tt
rising_climbs (n ∷ l) = insert_climbs n (rising l) (rising_climbs l)

keep_climbs : (f : ℕ → Bool) (l : List ℕ) → Climbs l → Climbs (keep f l)
unfolding keep cons_if
keep_climbs f [] r = tt
keep_climbs f (a ∷ l) (h, r) = go (f a) (keep_climbs f l r)
  where
    go : (b : Bool) → Climbs (keep f l) → Climbs (cons_if b a (keep f l))
    go true ih = ((λ k m. h k (keep_in f l k m).0), ih)
    go false ih = ih

-- two of them with the same members are one
climbs_same : (l m : List ℕ) → Climbs l → Climbs m → ((k : ℕ) → In k l → In k m) → ((k : ℕ) → In k m → In k l) → l ≡ m
climbs_same [] [] r t f g = refl
climbs_same [] (b ∷ m) r t f g = absurd (g b (inl refl))
climbs_same (a ∷ l) [] r t f g = absurd (f a (inl refl))
climbs_same (a ∷ l) (b ∷ m) (h, r) (i, t) f g =
    let e : a ≡ b = one (f a (inl refl)) (g b (inl refl)) in
    ap₂ (λ (x : ℕ) (y : List ℕ). x ∷ y) e (climbs_same l m r t
    (λ k x. behind k b m (let y = h k x in λ z. let w : ⊥ = omega arith in w) (f k (inr x)))
    (λ k x. behind k a l (let y = i k x in λ z. let w : ⊥ = omega arith in w) (g k (inr x))))
  where
    one : (a ≡ b) ⊎ In a m → (b ≡ a) ⊎ In b l → a ≡ b
    one (inl x) y = x
    one (inr x) (inl y) = sym y
    one (inr x) (inr y) = absurd (let p = i a x in let q = h b y in let w : ⊥ = omega arith in w)

    behind : (k c : ℕ) (n : List ℕ) → (k ≡ c → ⊥) → (k ≡ c) ⊎ In k n → In k n
    behind k c n d (inl x) = absurd (d x)
    behind k c n d (inr x) = x

pub keep-rising : (f : ℕ → Bool) (l : List ℕ) → keep f (rising l) ≡ rising (keep f l)
keep-rising f l = climbs_same (keep f (rising l)) (rising (keep f l)) (keep_climbs f (rising l) (rising_climbs l)) (rising_climbs (keep f l))
    (λ k m. let (i, q) = keep_in f (rising l) k m in in_rising (keep f l) k (in_keep f l k (rising_in l k i) q))
    (λ k m. let (i, q) = keep_in f l k (rising_in (keep f l) k m) in in_keep f (rising l) k (in_rising l k i) q)

-- lists with the same members give one rising list
pub rising_members : (l m : List ℕ) → ((k : ℕ) → In k l → In k m) → ((k : ℕ) → In k m → In k l) → rising l ≡ rising m
rising_members l m f g = climbs_same (rising l) (rising m) (rising_climbs l) (rising_climbs m) (λ k i. in_rising m k (f k (rising_in l k i))) (λ k i. in_rising l k (g k (rising_in m k i)))

-- the least comes first
pub rising_first : (l : List ℕ) (n : ℕ) → In n l → ((k : ℕ) → In k l → n ≤ k) → rising l ≡ n ∷ rising (keep (λ k. not (eqb k n)) l)
rising_first l n m h = climbs_same (rising l) (n ∷ rising others) (rising_climbs l) (above, rising_climbs others) to from
  where
    others : List ℕ
    others = keep (λ k. not (eqb k n)) l

    is : (k : ℕ) → In k (rising others) → In k l × (k ≡ n → ⊥)
    is k i = let (a, q) = keep_in (λ k. not (eqb k n)) l k (rising_in others k i) in (a, λ e. clash (eq-eqb k n e) (not-true (eqb k n) q))

    above : (k : ℕ) → In k (rising others) → n < k
    above k i = let (a, d) = is k i in let b = h k a in let c : ¬ (k ≡ n) = d in omega arith

    to : (k : ℕ) → In k (rising l) → (k ≡ n) ⊎ In k (rising others)
    to k i = go (test (eqb k n))
      where
        go : Test (eqb k n) → (k ≡ n) ⊎ In k (rising others)
        go (yes! q) = inl (eqb-true k n q)
        go (no! q) = inr (in_rising others k (in_keep (λ k. not (eqb k n)) l k (rising_in l k i) (ap not q)))

    from : (k : ℕ) → (k ≡ n) ⊎ In k (rising others) → In k (rising l)
    from k (inl e) = in_rising l k (subst (λ (x : ℕ). In x l) (sym e) m)
    from k (inr i) = in_rising l k (is k i).0

-- ---- the numbers below n that pass f, by rising keys s, then rising themselves

unfoldable pub by_keys : (ℕ → Bool) → (ℕ → ℕ) → ℕ → List ℕ
by_keys f s n = flat (λ r. keep (λ i. f i && eqb (s i) r) (below n)) (rising (map s (keep f (below n))))

-- among them at has the least key; n where there is none
pub record LeastKey (f : ℕ → Bool) (s : ℕ → ℕ) (n at : ℕ) : Type 0 where
  pub at_low : at ≤ n
  pub at_passes : at < n → f at ≡ true
  pub at_least : (j : ℕ) → j < n → f j ≡ true → (at < n) × (s at ≤ s j)

-- the search for it: the same among those below i
pub record LeastSo (f : ℕ → Bool) (s : ℕ → ℕ) (n i at : ℕ) : Type 0 where
  pub so_far : i ≤ n
  pub so_low : at ≤ n
  pub so_passes : at < n → f at ≡ true
  pub so_least : (j : ℕ) → j < i → f j ≡ true → (at < n) × (s at ≤ s j)

module _ (f : ℕ → Bool) (s : ℕ → ℕ) (n : ℕ) where
  pub least_begin : LeastSo f s n 0 n
  least_begin = record {
    so_far = omega arith;
    so_low = omega arith;
    so_passes = λ h. absurd (let x : ⊥ = omega (arith, h) in x);
    so_least = λ j h q. absurd (let x : ⊥ = omega (arith, h) in x);
  }

  pub least-all : (i at : ℕ) → LeastSo f s n i at → n ≤ i → LeastKey f s n at
  least-all i at k h = record { at_low = k.so_low; at_passes = k.so_passes; at_least = λ j l. k.so_least j (omega arith) }

  module _ (i at : ℕ) (k : LeastSo f s n i at) (h : i < n) where
    pub least_miss : f i ≡ false → LeastSo f s n (i + 1) at
    least_miss q = record { so_far = omega arith; so_low = k.so_low; so_passes = k.so_passes; so_least = λ j l t. go j l t (ℕ_discrete j i) }
      where
        go : (j : ℕ) → j < i + 1 → f j ≡ true → Dec (j ≡ i) → (at < n) × (s at ≤ s j)
        go j l t (yes e) = clash t (ap f e ∙ q)
        go j l t (no e) = k.so_least j (lt_of_le-ne (omega arith) e) t

    pub least_hit : (b : ℕ) → f i ≡ true → b ≡ cond (leb n at || ltb (s i) (s at)) i at → LeastSo f s n (i + 1) b
    least_hit b q e = go (test (leb n at)) (test (ltb (s i) (s at)))
      where
        it : b ≡ i → ((j : ℕ) → j < i → f j ≡ true → s i ≤ s j) → LeastSo f s n (i + 1) b
        it x g = record {
          so_far = omega arith;
          so_low = omega arith;
          so_passes = λ _. ap f x ∙ q;
          so_least = λ j l t. (omega arith, subst (λ (y : ℕ). s y ≤ s j) (sym x) (each j l t (ℕ_discrete j i)));
        }
          where
            each : (j : ℕ) → j < i + 1 → f j ≡ true → Dec (j ≡ i) → s i ≤ s j
            each j l t (yes y) = subst (λ (a : ℕ). s i ≤ s a) (sym y) (omega arith)
            each j l t (no y) = g j (lt_of_le-ne (omega arith) y) t

        go : Test (leb n at) → Test (ltb (s i) (s at)) → LeastSo f s n (i + 1) b
        go (yes! x) y =
            it (e ∙ cond_true (leb n at || ltb (s i) (s at)) i at (or_true_left (leb n at) (ltb (s i) (s at)) x))
            (λ j l t. absurd (let w = (k.so_least j l t).0 in let v = leb-true n at x in let z : ⊥ = omega arith in z))
        go (no! x) (yes! y) =
            it (e ∙ cond_true (leb n at || ltb (s i) (s at)) i at (or_true_right (leb n at) (ltb (s i) (s at)) y))
            (λ j l t. let w = (k.so_least j l t).1 in let v = ltb-true (s i) (s at) y in omega arith)
        go (no! x) (no! y) = subst (λ (a : ℕ). LeastSo f s n (i + 1) a)
            (sym (e ∙ cond_false (leb n at || ltb (s i) (s at)) i at (or_neither (leb n at) (ltb (s i) (s at)) x y))) (record {
              so_far = omega arith;
              so_low = k.so_low;
              so_passes = k.so_passes;
              so_least = λ j l t. each j l t (ℕ_discrete j i);
            })
          where
            each : (j : ℕ) → j < i + 1 → f j ≡ true → Dec (j ≡ i) → (at < n) × (s at ≤ s j)
            each j l t (yes z) = (leb-false n at x, subst (λ (a : ℕ). s at ≤ s a) (sym z) (ltb-false (s i) (s at) y))
            each j l t (no z) = k.so_least j (lt_of_le-ne (omega arith) z) t

module _ (f : ℕ → Bool) (s : ℕ → ℕ) (n at : ℕ) (k : LeastKey f s n at) where
  pub keys_none : n ≤ at → by_keys f s n ≡ []
  unfolding by_keys
  keys_none h = ap (λ (l : List ℕ). flat (λ r. keep (λ i. f i && eqb (s i) r) (below n)) (rising (map s l)))
      (keep_nothing f (below n) (λ j m. not_so (f j) (λ q. let x = (k.at_least j (below_in n j m) q).0 in let w : ⊥ = omega arith in w))) ∙ nothing
    where
      nothing : flat (λ r. keep (λ i. f i && eqb (s i) r) (below n)) (rising (map s [])) ≡ []
      nothing = unfold rising in flat_none (λ r. keep (λ i. f i && eqb (s i) r) (below n))

  -- those of the least key, then the others
  pub keys_first : at < n → by_keys f s n ≡ keep (λ i. f i && eqb (s i) (s at)) (below n) ++ by_keys (λ i. f i && not (eqb (s i) (s at))) s n
  unfolding by_keys
  keys_first h =
      let r = s at in
      let of : ℕ → List ℕ = λ x. keep (λ i. f i && eqb (s i) x) (below n) in
      let g : ℕ → Bool = λ i. f i && not (eqb (s i) r) in
      let l : List ℕ = map s (keep f (below n)) in
      let e : keep (λ x. not (eqb x r)) l ≡ map s (keep g (below n)) =
      keep-map (λ x. not (eqb x r)) s (keep f (below n)) ∙ ap (map s) (keep-keep (λ i. not (eqb (s i) r)) f (below n)) in
      ap (flat of) (rising_first l r (in_map s (keep f (below n)) at (in_keep f (below n) at (in_below n at h) (k.at_passes h))) least!
      ∙ ap (λ (x : List ℕ). r ∷ rising x) e)
      ∙ flat-cons of r (rising (map s (keep g (below n))))
      ∙ ap (λ (x : List ℕ). of r ++ x) (flat_cong of (λ x. keep (λ i. g i && eqb (s i) x) (below n)) (rising (map s (keep g (below n))))
      (λ x m. keep_cong (λ i. f i && eqb (s i) x) (λ i. g i && eqb (s i) x) (below n) (λ i _. other x (differs x m) i (test (eqb (s i) x)))))
    where
      least! : (x : ℕ) → In x (map s (keep f (below n))) → s at ≤ x
      least! x m =
          let (j, i, e) = map_in s (keep f (below n)) x m in
          let (b, q) = keep_in f (below n) j i in
          subst (λ (y : ℕ). s at ≤ y) (sym e) (k.at_least j (below_in n j b) q).1

      differs : (x : ℕ) → In x (rising (map s (keep (λ i. f i && not (eqb (s i) (s at))) (below n)))) → x ≡ s at → ⊥
      differs x m y =
          let (j, i, e) = map_in s (keep (λ i. f i && not (eqb (s i) (s at))) (below n)) x (rising_in (map s (keep (λ i. f i && not (eqb (s i) (s at))) (below n))) x m) in
          let (b, q) = keep_in (λ i. f i && not (eqb (s i) (s at))) (below n) j i in
          clash (eq-eqb (s j) (s at) (sym e ∙ y)) (not-true (eqb (s j) (s at)) (and_right (f j) (not (eqb (s j) (s at))) q))

      other : (x : ℕ) → (x ≡ s at → ⊥) → (i : ℕ) → Test (eqb (s i) x) → (f i && eqb (s i) x) ≡ ((f i && not (eqb (s i) (s at))) && eqb (s i) x)
      other x d i (yes! q) =
          let w : eqb (s i) (s at) ≡ false = ne_eqb (s i) (s at) (λ y. d (sym (eqb-true (s i) x q) ∙ y)) in
          ap (λ (b : Bool). b && eqb (s i) x) (sym (ap (λ (b : Bool). f i && not b) w ∙ and-true (f i)))
        where
          and-true : (b : Bool) → b && true ≡ b
          and-true true = refl
          and-true false = refl
      other x d i (no! q) = and_false_right (f i) (eqb (s i) x) q ∙ sym (and_false_right (f i && not (eqb (s i) (s at))) (eqb (s i) x) q)

pub keys_cong : (f g : ℕ → Bool) (s t : ℕ → ℕ) (n : ℕ) → ((i : ℕ) → i < n → f i ≡ g i) → ((i : ℕ) → i < n → s i ≡ t i) → by_keys f s n ≡ by_keys g t n
unfolding by_keys
keys_cong f g s t n a b =
    ap (λ (l : List ℕ). flat (λ r. keep (λ i. f i && eqb (s i) r) (below n)) (rising l))
    (map_cong s t (keep f (below n)) (λ i m. b i (below_in n i (keep_in f (below n) i m).0)) ∙ ap (map t) (keep_cong f g (below n) (λ i m. a i (below_in n i m))))
    ∙ flat_cong (λ r. keep (λ i. f i && eqb (s i) r) (below n)) (λ r. keep (λ i. g i && eqb (t i) r) (below n)) (rising (map t (keep g (below n))))
    (λ r _. keep_cong (λ i. f i && eqb (s i) r) (λ i. g i && eqb (t i) r) (below n)
    (λ i m. ap₂ (λ (x : Bool) (y : ℕ). x && eqb y r) (a i (below_in n i m)) (b i (below_in n i m))))

-- fewer pass where one more test fails
pub keep-fewer : {A : Type 0} (f : A → Bool) (l : List A) (a : A) → In a l → f a ≡ false → length (keep f l) < length l
unfolding keep cons_if
keep-fewer f [] a m q = absurd m
keep-fewer {A} f (b ∷ l) a (inl e) q = let x : f b ≡ false = ap f (sym e) ∙ q in let y = length-keep f l in rw x (omega arith)
keep-fewer {A} f (b ∷ l) a (inr m) q = go (f b) (keep-fewer f l a m q)
  where
    go : (c : Bool) → length (keep f l) < length l → length (cons_if c b (keep f l)) < length (b ∷ l)
    go true h = omega arith
    go false h = omega arith

-- ---- a grid, number by number

from_map : (i j n : ℕ) → up_from (i + j) n ≡ map (λ k. i + k) (up_from j n)
unfolding up_from
from_map i j zero = refl
from_map i j (suc n) = ap (λ (l : List ℕ). (i + j) ∷ l) (ap (λ (x : ℕ). up_from x n) (let e : suc (i + j) ≡ i + suc j = omega arith in e) ∙ from_map i (suc j) n)

pub by_number : {B : Type 0} (z : ℕ) (h : ℕ → ℕ → Bool) (s : ℕ → ℕ → B) (n : ℕ)
    → flat (λ d. map (s d) (keep (h d) (below z))) (below n) ≡ map (λ i. s (i / z) (i % z)) (keep (λ i. h (i / z) (i % z)) (below (n * z)))
by_number {B} z h s zero = ap (flat (λ d. map (s d) (keep (h d) (below z)))) below_none ∙ flat_none (λ d. map (s d) (keep (h d) (below z))) ∙ sym
    (ap (λ (l : List ℕ). map (λ i. s (i / z) (i % z)) l) none!)
  where
    none! : keep (λ i. h (i / z) (i % z)) (below (zero * z)) ≡ []
    none! = let e : zero * z ≡ 0 = zero-mul z in ap (λ (x : ℕ). keep (λ i. h (i / z) (i % z)) (below x)) e ∙ ap (keep (λ i. h (i / z) (i % z))) below_none ∙ (unfold keep in refl)
by_number {B} z h s (suc n) =
    let row : ℕ → List B = λ d. map (s d) (keep (h d) (below z)) in
    let at : ℕ → B = λ i. s (i / z) (i % z) in
    let on : ℕ → Bool = λ i. h (i / z) (i % z) in
    let e : suc n ≡ n + 1 = sym (add-one n) in
    let m : suc n * z ≡ n * z + z = suc-mul n z in
    ap (λ (x : ℕ). flat row (below x)) e ∙ flat-below-snoc row n
    ∙ ap₂ ◌++◌ (by_number z h s n) (last! n)
    ∙ sym (ap (λ (x : ℕ). map at (keep on (below x))) m
    ∙ ap (λ (l : List ℕ). map at (keep on l)) (below_split (n * z) z)
    ∙ ap (map at) (keep_append on (below (n * z)) (up_from (n * z) z))
    ∙ map-append at (keep on (below (n * z))) (keep on (up_from (n * z) z)))
  where
    last! : (n : ℕ) → map (s n) (keep (h n) (below z)) ≡ map (λ i. s (i / z) (i % z)) (keep (λ i. h (i / z) (i % z)) (up_from (n * z) z))
    last! n =
        let at : ℕ → B = λ i. s (i / z) (i % z) in
        let on : ℕ → Bool = λ i. h (i / z) (i % z) in
        let f : up_from (n * z) z ≡ map (λ k. n * z + k) (below z) = below! n in
        sym (ap (λ (l : List ℕ). map at (keep on l)) f
        ∙ ap (map at) (keep-map on (λ k. n * z + k) (below z))
        ∙ map-map at (λ k. n * z + k) (keep (λ k. on (n * z + k)) (below z))
        ∙ ap (map (λ k. at (n * z + k))) (keep_cong (λ k. on (n * z + k)) (h n) (below z) (λ k m. λ j. h (digits_div n (below_in z k m) j) (digits_mod n (below_in z k m) j)))
        ∙ map_cong (λ k. at (n * z + k)) (s n) (keep (h n) (below z)) (λ k m. let l = below_in z k (keep_in (h n) (below z) k m).0 in λ j. s (digits_div n l j) (digits_mod n l j)))
      where
        below! : (n : ℕ) → up_from (n * z) z ≡ map (λ k. n * z + k) (below z)
        below! n = unfold below in (ap (λ (x : ℕ). up_from x z) (sym (add-zero (n * z))) ∙ from_map (n * z) 0 z)
