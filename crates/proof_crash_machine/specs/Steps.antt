-- Runs of stores over the drives, and over stripes and drives: what holds after every prefix. Assumes nothing.
use Rattle.std.specs.Prelude.{◌≡◌, refl, List, [], ◌∷◌, ◌++◌, take}
use Rattle.std.proofs.Math.Path.{subst}
use Prim.Native.Nat.{ℕ, zero, suc, ◌+◌, ◌≤◌, ◌<◌}
use Rattle.std.proofs.Common.{arith}
use Rattle.proof_crash_machine.specs.View.{ItemView, ItemStore, apply, apply_all}

-- st j, st (j + 1) .. : n stores
unfoldable pub list : (ℕ → ItemStore) → ℕ → ℕ → List ItemStore
list st j zero = []
list st j (suc n) = st j ∷ list st (suc j) n

-- rows k, k + 1 .. : n rows of hi stores
unfoldable pub rows : (ℕ → ℕ → ItemStore) → ℕ → ℕ → ℕ → List ItemStore
rows st hi k zero = []
rows st hi k (suc n) = list (st k) 0 hi ++ rows st hi (suc k) n

pub apply_all-append : (v : ItemView) (ss ts : List ItemStore) → apply_all v (ss ++ ts) ≡ apply_all (apply_all v ss) ts
unfolding apply_all
apply_all-append v [] ts = refl
apply_all-append v (s ∷ ss) ts = apply_all-append (apply v s) ss ts

abbrev pub Prefix : (ItemView → Type 0) → ItemView → List ItemStore → Type 0
Prefix P v ss = (k : ℕ) → P (apply_all v (take k ss))

-- a cut in one run after another
pub prefix_append : (P : ItemView → Type 0) (v : ItemView) (ss ts : List ItemStore) → Prefix P v ss → Prefix P (apply_all v ss) ts → Prefix P v (ss ++ ts)
unfolding apply_all
prefix_append P v [] ts a b k = b k
prefix_append P v (s ∷ ss) ts a b zero = a 0
prefix_append P v (s ∷ ss) ts a b (suc k) = prefix_append P (apply v s) ss ts (λ j. a (suc j)) b k

module _ (P : ItemView → Type 0) (I : ℕ → ItemView → Type 0) (st : ℕ → ItemStore) (hi : ℕ) (out : (j : ℕ) (v : ItemView) → I j v → P v)
    (step : (j : ℕ) (v : ItemView) → j < hi → I j v → I (suc j) (apply v (st j))) where
  pub list_prefix : (j n : ℕ) → j + n ≤ hi → (v : ItemView) → I j v → Prefix P v (list st j n)
  unfolding list apply_all
  list_prefix j zero b v i zero = out j v i
  list_prefix j zero b v i (suc k) = out j v i
  list_prefix j (suc n) b v i zero = out j v i
  list_prefix j (suc n) b v i (suc k) = list_prefix (suc j) n (omega arith) (apply v (st j)) (step j v (omega arith) i) k

  pub list_end : (j n t : ℕ) → j + n ≤ hi → t ≡ j + n → (v : ItemView) → I j v → I t (apply_all v (list st j n))
  unfolding list apply_all
  list_end j zero t b e v i = subst (λ (k : ℕ). I k v) (omega arith) i
  list_end j (suc n) t b e v i = list_end (suc j) n t (omega arith) (omega arith) (apply v (st j)) (step j v (omega arith) i)

module _ (P : ItemView → Type 0) (I : ℕ → ℕ → ItemView → Type 0) (st : ℕ → ℕ → ItemStore) (hi top : ℕ) (out : (k j : ℕ) (v : ItemView) → I k j v → P v)
    (step : (k j : ℕ) (v : ItemView) → k < top → j < hi → I k j v → I k (suc j) (apply v (st k j)))
    (turn : (k : ℕ) (v : ItemView) → I k hi v → I (suc k) 0 v) where
  row_end : (k : ℕ) (v : ItemView) → k < top → I k 0 v → I (suc k) 0 (apply_all v (list (st k) 0 hi))
  row_end k v b i = turn k (apply_all v (list (st k) 0 hi)) (list_end P (I k) (st k) hi (out k) (λ j u l. step k j u b l) 0 hi hi (omega arith) (omega arith) v i)

  pub rows_prefix : (k n : ℕ) → k + n ≤ top → (v : ItemView) → I k 0 v → Prefix P v (rows st hi k n)
  unfolding rows apply_all
  rows_prefix k zero b v i zero = out k 0 v i
  rows_prefix k zero b v i (suc j) = out k 0 v i
  rows_prefix k (suc n) b v i j =
      prefix_append P v (list (st k) 0 hi) (rows st hi (suc k) n) (list_prefix P (I k) (st k) hi (out k) (λ t u l. step k t u (omega arith) l) 0 hi (omega arith) v i)
      (rows_prefix (suc k) n (omega arith) (apply_all v (list (st k) 0 hi)) (row_end k v (omega arith) i)) j

  pub rows_end : (k n t : ℕ) → k + n ≤ top → t ≡ k + n → (v : ItemView) → I k 0 v → I t 0 (apply_all v (rows st hi k n))
  unfolding rows apply_all
  rows_end k zero t b e v i = subst (λ (j : ℕ). I j 0 v) (omega arith) i
  rows_end k (suc n) t b e v i =
      rw apply_all-append (rows_end (suc k) n t (omega arith) (omega arith) (apply_all v (list (st k) 0 hi)) (row_end k v (omega arith) i))
