-- Lists of stores on the view: what holds after every prefix, and at the end. Assumes nothing.
use Rattle.std.specs.Prelude.{◌≡◌, List, [], ◌∷◌, ◌++◌, map, take}
use Rattle.std.proofs.Math.Path.{subst}
use Prim.Native.Nat.{ℕ, zero, suc, ◌+◌, ◌≤◌, ◌<◌}
use Rattle.std.proofs.Common.{arith}
use Rattle.spec.specs.declared.Params.{Params}
use Rattle.spec.specs.Drives.{View, Store, store_view_of, store_all}
use Rattle.spec.specs.History.{step}
use Rattle.spec.specs.Lists.{up_from, flat}
use Rattle.law_basic.specs.Stores.{store_all-append}
use Rattle.proof_crash_items.specs.Sound.{Sound, AllSound, sound_append}

abbrev pub Always : (View → Type 0) → View → List Store → Type 0
Always Q v ss = (n : ℕ) → Q (store_all store_view_of (take n ss) v)

pub always_append : (Q : View → Type 0) (v : View) (ss ts : List Store) → Always Q v ss → Always Q (store_all store_view_of ss v) ts → Always Q v (ss ++ ts)
unfolding store_all
always_append Q v [] ts a b n = b n
always_append Q v (s ∷ ss) ts a b zero = a 0
always_append Q v (s ∷ ss) ts a b (suc n) = always_append Q (store_view_of s v) ss ts (λ j. a (suc j)) b n

module _ (Q : View → Type 0) (I : ℕ → View → Type 0) (st : ℕ → Store) (hi : ℕ) (out : (j : ℕ) (w : View) → I j w → Q w)
    (step : (j : ℕ) (w : View) → j < hi → I j w → I (suc j) (store_view_of (st j) w)) where
  pub run_always : (j n : ℕ) → j + n ≤ hi → (w : View) → I j w → Always Q w (map st (up_from j n))
  unfolding up_from store_all
  run_always j zero b w i zero = out j w i
  run_always j zero b w i (suc k) = out j w i
  run_always j (suc n) b w i zero = out j w i
  run_always j (suc n) b w i (suc k) = run_always (suc j) n (omega arith) (store_view_of (st j) w) (step j w (omega arith) i) k

  pub run_end : (j n t : ℕ) → j + n ≤ hi → t ≡ j + n → (w : View) → I j w → I t (store_all store_view_of (map st (up_from j n)) w)
  unfolding up_from store_all
  run_end j zero t b e w i = subst (λ (k : ℕ). I k w) (omega arith) i
  run_end j (suc n) t b e w i = run_end (suc j) n t (omega arith) (omega arith) (store_view_of (st j) w) (step j w (omega arith) i)

-- run after run
module _ (Q : View → Type 0) (D : ℕ → View → Type 0) (f : ℕ → List Store) (hi : ℕ) (out : (j : ℕ) (w : View) → D j w → Q w)
    (step : (j : ℕ) (w : View) → j < hi → D j w → Always Q w (f j) × D (suc j) (store_all store_view_of (f j) w)) where
  pub runs_always : (j n : ℕ) → j + n ≤ hi → (w : View) → D j w → Always Q w (flat f (up_from j n))
  unfolding up_from flat store_all
  runs_always j zero b w i zero = out j w i
  runs_always j zero b w i (suc k) = out j w i
  runs_always j (suc n) b w i m =
      let a : Always Q w (f j) × D (suc j) (store_all store_view_of (f j) w) = step j w (omega arith) i in
      always_append Q w (f j) (flat f (up_from (suc j) n)) a.0 (runs_always (suc j) n (omega arith) (store_all store_view_of (f j) w) a.1) m

  pub runs_end : (j n t : ℕ) → j + n ≤ hi → t ≡ j + n → (w : View) → D j w → D t (store_all store_view_of (flat f (up_from j n)) w)
  unfolding up_from flat store_all
  runs_end j zero t b e w i = subst (λ (k : ℕ). D k w) (omega arith) i
  runs_end j (suc n) t b e w i =
      let a : Always Q w (f j) × D (suc j) (store_all store_view_of (f j) w) = step j w (omega arith) i in
      rw store_all-append (runs_end (suc j) n t (omega arith) (omega arith) (store_all store_view_of (f j) w) a.1)

-- each store is of the right kind
module _ (p : Params) (I : ℕ → View → Type 0) (st : ℕ → Store) (hi : ℕ) (step : (j : ℕ) (w : View) → j < hi → I j w → I (suc j) (store_view_of (st j) w))
    (right : (j : ℕ) (w : View) → j < hi → I j w → Sound p w (st j)) where
  pub run_sound : (j n : ℕ) → j + n ≤ hi → (w : View) → I j w → AllSound p w (map st (up_from j n))
  unfolding up_from
  run_sound j zero b w i = tt
  run_sound j (suc n) b w i = (right j w (omega arith) i, run_sound (suc j) n (omega arith) (store_view_of (st j) w) (step j w (omega arith) i))

module _ (p : Params) (D : ℕ → View → Type 0) (f : ℕ → List Store) (hi : ℕ)
    (step : (j : ℕ) (w : View) → j < hi → D j w → AllSound p w (f j) × D (suc j) (store_all store_view_of (f j) w)) where
  pub runs_sound : (j n : ℕ) → j + n ≤ hi → (w : View) → D j w → AllSound p w (flat f (up_from j n))
  unfolding up_from flat
  runs_sound j zero b w i = tt
  runs_sound j (suc n) b w i =
      let a : AllSound p w (f j) × D (suc j) (store_all store_view_of (f j) w) = step j w (omega arith) i in
      sound_append p w (f j) (flat f (up_from (suc j) n)) a.0 (runs_sound (suc j) n (omega arith) (store_all store_view_of (f j) w) a.1)
