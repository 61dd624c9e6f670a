-- Numbers kept from a range stand in rising order, each at the count of those kept below it; different numbers below a bound, as many as it, are all of them. Assumes nothing.
use Rattle.std.specs.Prelude.{◌≡◌, Bool, true, false, leb, ltb, take}
use Rattle.std.proofs.Math.Path.{refl, ap}
use Rattle.std.proofs.Common.{sym, ◌∙◌, inl, inr, lt-ltb, ltb-true, leb-true}
use mathlib.Core.List.{List, [], ◌∷◌, ◌++◌}
use Prim.Native.Nat.{ℕ, zero, suc, ◌+◌, ◌-◌, ◌≤◌, ◌<◌}
use Rattle.std.proofs.Math.Decide.{dec_lt}
use native.Mathlib.Omega.{arith}
use Rattle.std.proofs.Math.ListN.{length, get_or, length-append, get_or-append}
use Rattle.std.proofs.Math.Seq.{get_or-append-add}
use Rattle.spec.specs.Lists.{up_from, below, is_member_of, cons_if, keep, tally}
use Rattle.law_basic.specs.Ranges.{Test, test, keep_append, keep_hit, keep_none, keep-below-snoc, below_none, length-below, below_split}
use Rattle.law_basic.specs.Ranges.Test.{yes!, no! }
use Rattle.law_drives.specs.Counting.{Different, different_few}
use Rattle.law_drives.specs.Laid.{in_take}
use Rattle.law_drives.specs.Members.{In, keep_all, keep_in, below_in, in_get_d, is_member, member_is}
use Rattle.law_drives.specs.Tests.{clash, not_so, same_test}

-- ---- the place of a number that is kept

module _ (f : ℕ → Bool) where
  keep_split : (m k : ℕ) → keep f (below (m + k)) ≡ keep f (below m) ++ keep f (up_from m k)
  keep_split m k = ap (keep f) (below_split m k) ∙ keep_append f (below m) (up_from m k)

  -- from a number that is kept on
  kept_from : (s k : ℕ) → f s ≡ true → keep f (up_from s (suc k)) ≡ s ∷ keep f (up_from (suc s) k)
  unfolding up_from
  kept_from s k q = keep_hit f s (up_from (suc s) k) q

  kept_here : (s n : ℕ) → s < n → f s ≡ true → keep f (below n) ≡ keep f (below s) ++ (s ∷ keep f (up_from (suc s) (n - suc s)))
  kept_here s n h q =
      let e : n ≡ s + suc (n - suc s) = omega arith in
      ap (λ (x : ℕ). keep f (below x)) e ∙ keep_split s (suc (n - suc s)) ∙ ap (λ (l : List ℕ). keep f (below s) ++ l) (kept_from s (n - suc s) q)

  -- it stands at the count of those kept below it
  pub rank_low : (s n : ℕ) → s < n → f s ≡ true → tally f (below s) < length (keep f (below n))
  unfolding tally
  rank_low s n h q =
      let l = keep f (up_from (suc s) (n - suc s)) in
      let e : length (keep f (below n)) ≡ length (keep f (below s)) + suc (length l) = ap length (kept_here s n h q) ∙ length-append (keep f (below s)) (s ∷ l) in
      omega arith

  pub rank_at : (s n : ℕ) → s < n → f s ≡ true → get_or (keep f (below n)) (tally f (below s)) 0 ≡ s
  unfolding tally
  rank_at s n h q =
      let a = keep f (below s) in
      let l = keep f (up_from (suc s) (n - suc s)) in
      ap (λ (x : List ℕ). get_or x (length a) 0) (kept_here s n h q)
      ∙ ap (λ (x : ℕ). get_or (a ++ (s ∷ l)) x 0) (let e : length a ≡ length a + 0 = omega arith in e) ∙ get_or-append-add a (s ∷ l) 0 0

  -- and each place is that of its number
  pub rank_of_holds : (n j : ℕ) → j < length (keep f (below n)) → tally f (below (get_or (keep f (below n)) j 0)) ≡ j
  rank_of_holds zero j h = absurd (let e : length (keep f (below 0)) ≡ 0 = ap length (ap (keep f) below_none ∙ keep_none f) in let z : ⊥ = omega arith in z)
  rank_of_holds (suc n) j h = go (test (f n)) (dec_lt j (length (keep f (below n)))) (rank_of_holds n j)
    where
      more : (b : Bool) → f n ≡ b → keep f (below (suc n)) ≡ keep f (below n) ++ cons_if b n []
      more b q = ap (λ (x : ℕ). keep f (below x)) (let e : suc n ≡ n + 1 = omega arith in e) ∙ keep-below-snoc f n ∙ ap (λ (x : Bool). keep f (below n) ++ cons_if x n []) q

      one! : keep f (below n) ++ cons_if true n [] ≡ keep f (below n) ++ (n ∷ [])
      one! = unfold cons_if in refl

      no_one! : keep f (below n) ++ cons_if false n [] ≡ keep f (below n) ++ []
      no_one! = unfold cons_if in refl

      count! : tally f (below n) ≡ length (keep f (below n))
      count! = unfold tally in refl

      last : f n ≡ true → ¬ (j < length (keep f (below n))) → tally f (below (get_or (keep f (below (suc n))) j 0)) ≡ j
      last q g =
          let a = keep f (below n) in
          let e : keep f (below (suc n)) ≡ a ++ (n ∷ []) = more true q ∙ one! in
          let l : length (keep f (below (suc n))) ≡ length a + 1 = ap length e ∙ length-append a (n ∷ []) in
          let c : j ≡ length a + 0 = omega arith in
          let x : get_or (keep f (below (suc n))) j 0 ≡ n = ap (λ (y : List ℕ). get_or y j 0) e ∙ ap (λ (y : ℕ). get_or (a ++ (n ∷ [])) y 0) c ∙ get_or-append-add a (n ∷ []) 0 0 in
          ap (λ (y : ℕ). tally f (below y)) x ∙ count! ∙ (let z : length a ≡ j = omega arith in z)

      none! : f n ≡ false → ¬ (j < length (keep f (below n))) → ⊥
      none! q g =
          let a = keep f (below n) in
          let l : length (keep f (below (suc n))) ≡ length a + 0 = ap length (more false q ∙ no_one!) ∙ length-append a [] in
          omega arith

      go : Test (f n) → Dec (j < length (keep f (below n))) → (j < length (keep f (below n)) → tally f (below (get_or (keep f (below n)) j 0)) ≡ j)
          → tally f (below (get_or (keep f (below (suc n))) j 0)) ≡ j
      go t (yes i) ih =
          ap (λ (y : List ℕ). tally f (below (get_or y j 0))) (more (f n) refl)
          ∙ ap (λ (y : ℕ). tally f (below y)) (get_or-append (keep f (below n)) (cons_if (f n) n []) 0 j i) ∙ ih i
      go (yes! q) (no i) ih = last q i
      go (no! q) (no i) ih = absurd (none! q i)

  pub rank_lt : (s t : ℕ) → s < t → f s ≡ true → tally f (below s) < tally f (below t)
  rank_lt s t h q = let a = rank_low s t h q in (unfold tally in a)

  -- places are in the order of their numbers
  pub rank_order : (s t : ℕ) → f s ≡ true → f t ≡ true → ltb s t ≡ ltb (tally f (below s)) (tally f (below t))
  rank_order s t a b = same_test (ltb s t) (ltb (tally f (below s)) (tally f (below t)))
      (λ q. lt-ltb (tally f (below s)) (tally f (below t)) (rank_lt s t (ltb-true s t q) a))
      (λ q. lt-ltb s t (go (ltb-true (tally f (below s)) (tally f (below t)) q) (dec_lt s t) (dec_lt t s)))
    where
      go : tally f (below s) < tally f (below t) → Dec (s < t) → Dec (t < s) → s < t
      go x (yes h) k = h
      go x (no h) (yes k) = absurd (let y = rank_lt t s k b in let z : ⊥ = omega arith in z)
      go x (no h) (no k) = absurd (let e : s ≡ t = omega arith in let y : tally f (below s) ≡ tally f (below t) = ap (λ (n : ℕ). tally f (below n)) e in let z : ⊥ = omega arith in z)

  -- all below m are kept: no place above them is below m
  pub rank_high : (m s : ℕ) → m ≤ s → ((t : ℕ) → t < m → f t ≡ true) → m ≤ tally f (below s)
  unfolding tally
  rank_high m s h g =
      let e : s ≡ m + (s - m) = omega arith in
      let a : length (keep f (below s)) ≡ length (keep f (below m)) + length (keep f (up_from m (s - m))) =
      ap (λ (x : ℕ). length (keep f (below x))) e ∙ ap length (keep_split m (s - m)) ∙ length-append (keep f (below m)) (keep f (up_from m (s - m))) in
      let b : length (keep f (below m)) ≡ m = ap length (keep_all f (below m) (λ t i. g t (below_in m t i))) ∙ length-below m in
      omega arith

-- ---- different numbers

pub different_take : (n : ℕ) (l : List ℕ) → Different l → Different (take n l)
different_take zero l h = tt
different_take (suc n) [] h = tt
different_take (suc n) (a ∷ l) h = (λ m. h.0 (in_take n l a m), different_take n l h.1)

-- as many as the bound: all of them
pub all_there : (n : ℕ) (l : List ℕ) → Different l → ((x : ℕ) → In x l → x < n) → length l ≡ n → (t : ℕ) → t < n → In t l
all_there n l h f e t b = go (test (is_member_of t l))
  where
    go : Test (is_member_of t l) → In t l
    go (yes! q) = is_member t l q
    go (no! q) = absurd (
        let k : length (t ∷ l) ≤ n = different_few n (t ∷ l) (λ m. clash (member_is t l m) q, h) each in
        let z : ⊥ = omega arith in z)
      where
        each : (x : ℕ) → In x (t ∷ l) → x < n
        each x (inl i) = omega arith
        each x (inr i) = f x i

-- all that are kept are one: at most one is kept
pub few_kept : (f : ℕ → Bool) (n : ℕ) → ((i j : ℕ) → i < n → j < n → f i ≡ true → f j ≡ true → i ≡ j) → leb 2 (length (keep f (below n))) ≡ false
few_kept f n once = not_so (leb 2 (length (keep f (below n)))) (λ q.
    let l : 2 ≤ length (keep f (below n)) = leb-true 2 (length (keep f (below n))) q in
    let (a, x) = at! 0 (omega arith) in
    let (b, y) = at! 1 (omega arith) in
    let e : get_or (keep f (below n)) 0 0 ≡ get_or (keep f (below n)) 1 0 = once (get_or (keep f (below n)) 0 0) (get_or (keep f (below n)) 1 0) a b x y in
    let z : 0 ≡ 1 = sym (rank_of_holds f n 0 (omega arith)) ∙ ap (λ (i : ℕ). tally f (below i)) e ∙ rank_of_holds f n 1 (omega arith) in
    let bad : ⊥ = omega arith in bad)
  where
    at! : (j : ℕ) → j < length (keep f (below n)) → (get_or (keep f (below n)) j 0 < n) × (f (get_or (keep f (below n)) j 0) ≡ true)
    at! j h = let (i, q) = keep_in f (below n) (get_or (keep f (below n)) j 0) (in_get_d (keep f (below n)) j 0 h) in (below_in n (get_or (keep f (below n)) j 0) i, q)
