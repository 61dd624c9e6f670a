-- Runs of the machine, with the log of sends; what a list of stores does, one step for each. Assumes nothing.
use Rattle.std.specs.Prelude.{◌≡◌, refl, Bool, ℕ, zero, suc, take}
use Rattle.std.proofs.Common.{ap, ◌∙◌, subst}
use mathlib.Core.List.{List, [], ◌∷◌, ◌++◌}
use Rattle.spec.specs.declared.Params.{Params}
use Rattle.spec.specs.Drives.{View, Store, store_view_of, store_all}
use Rattle.law_basic.specs.Geometry.{Ranged}
use Rattle.proof_crash_machine.specs.Facts.{Par, Ghost, InV}
use Rattle.proof_crash_machine.specs.History.{Mode, State as m-State, Inv, Step, StepsTo, start}
use Rattle.proof_crash_machine.proofs.History.{kept-all, inv_start, step_inv}
use Rattle.proof_crash_machine.specs.History.Mode.{off as m-off}
use Rattle.proof_crash_machine.specs.History.Step.{lose}
use Rattle.proof_crash_machine.specs.History.StepsTo.{stop, then}
use Rattle.proof_crash_machine.specs.Order.{Track, Tracked, track, run_track, no_track}
use Rattle.proof_crash_machine.proofs.Order.{tracked}
use Rattle.proof_crash_machine.specs.Val.{Val}
use Rattle.proof_crash_machine.specs.View.{ItemView, ItemStore, apply, apply_all}
use Rattle.proof_crash_items.specs.Items.{store_item}
use Rattle.proof_crash_items.specs.Places.{place_store}
use Rattle.proof_crash_items.specs.Ranges.{par_of}
use Rattle.proof_crash_items.specs.Sound.{Sound, Follows, follows_nil, follows-cons}

abbrev pub mst : Ghost → ItemView → List Val → Bool → Mode → m-State
mst g v a c m = record { g = g; v = v; acked = a; since = c; mode = m }

-- the ghost g' is one of the same run, later: what the last restart read is as it was, and nothing sent is forgotten
pub record Later (g g' : Ghost) : Type 0 where
  pub un : g'.un ≡ g.un
  pub last : g'.last ≡ g.last
  pub sent : (x : Val) → InV x g.sent → InV x g'.sent

pub later_same : (g : Ghost) → Later g g
later_same g = record { un = refl; last = refl; sent = λ x m. m }

-- steps from one state to another, and the log that they lead to
pub record Go (p : Par) (σ τ : m-State) (T U : Track) : Type 0 where
  pub steps : StepsTo p σ τ
  pub tracks : run_track p σ τ steps T ≡ U

pub go_none : (p : Par) (σ : m-State) (T : Track) → Go p σ σ T T
go_none p σ T = record { steps = stop σ; tracks = refl }

pub go_step : (p : Par) (σ τ : m-State) (T : Track) (s : Step p σ τ) → Go p σ τ T (track p σ τ s T)
go_step p σ τ T s = record { steps = then σ τ τ s (stop τ); tracks = refl }

run_append : (p : Par) (σ τ υ : m-State) → StepsTo p σ τ → StepsTo p τ υ → StepsTo p σ υ
run_append p _ _ υ (stop σ) q = q
run_append p _ _ υ (then σ τ ρ s r) q = then σ τ υ s (run_append p τ ρ υ r q)

track-append : (p : Par) (σ τ υ : m-State) (r : StepsTo p σ τ) (q : StepsTo p τ υ) (T : Track)
    → run_track p σ υ (run_append p σ τ υ r q) T ≡ run_track p τ υ q (run_track p σ τ r T)
unfolding run_append
track-append p _ _ υ (stop σ) q T = refl
track-append p _ _ υ (then σ τ ρ s r) q T = track-append p τ ρ υ r q (track p σ τ s T)

pub go_then : (p : Par) (σ τ υ : m-State) (T U W : Track) → Go p σ τ T U → Go p τ υ U W → Go p σ υ T W
go_then p σ τ υ T U W a b = record {
  steps = run_append p σ τ υ a.steps b.steps;
  tracks = track-append p σ τ υ a.steps b.steps T ∙ ap (run_track p τ υ b.steps) a.tracks ∙ b.tracks;
}

-- one step more
pub go_more : (p : Par) (σ τ υ : m-State) (T U : Track) → Go p σ τ T U → (s : Step p τ υ) → Go p σ υ T (track p τ υ s U)
go_more p σ τ υ T U a s = go_then p σ τ υ T U (track p τ υ s U) a (go_step p τ υ U s)

-- ---- the invariant along them
pub go_inv : (p : Par) (σ τ : m-State) (T U : Track) → Go p σ τ T U → Inv p σ → Inv p τ
go_inv p σ τ T U a i = kept-all p σ τ a.steps i

run_tracked : (p : Par) (σ τ : m-State) (r : StepsTo p σ τ) (T : Track) → Inv p σ → Tracked σ T → Tracked τ (run_track p σ τ r T)
run_tracked p _ _ (stop σ) T i k = k
run_tracked p _ _ (then σ τ υ s r) T i k = run_tracked p τ υ r (track p σ τ s T) (step_inv p σ τ i s) (tracked p σ τ i s T k)

pub go_tracked : (p : Par) (σ τ : m-State) (T U : Track) → Go p σ τ T U → Inv p σ → Tracked σ T → Tracked τ U
go_tracked p σ τ T U a i k = subst (Tracked τ) a.tracks (run_tracked p σ τ a.steps T i k)

-- from empty drives
pub go_start : (p : Par) (τ : m-State) (U : Track) → Go p (start p) τ no_track U → Inv p τ × Tracked τ U
unfolding start
go_start p τ U a = (go_inv p (start p) τ no_track U a (inv_start p), go_tracked p (start p) τ no_track U a (inv_start p) (record { here = λ x m. absurd m; order = λ x y m n b. absurd m }))

-- ---- a list of stores, one step for each, memory and ghost as they were

module _ (p : Params) (h : Ranged p) (off : List ℕ) (g : Ghost) (a : List Val) (c : Bool) (m : Mode) where
  -- ss: the stores by zone, on drives v; ms: the same by segment, on the machine's view u
  abbrev pub Chain : View → ItemView → List Store → List ItemStore → Type 0
  Chain v u [] [] = Unit {0}
  Chain v u [] (x ∷ ms) = ⊥
  Chain v u (s ∷ ss) [] = ⊥
  Chain v u (s ∷ ss) (x ∷ ms) = Sound p v s × (store_item p v s ≡ place_store g.hd x)
      × ((T : Track) → Go (par_of p h off) (mst g u a c m) (mst g (apply u x) a c m) T T) × Chain (store_view_of s v) (apply u x) ss ms

  pub chain_follows : (v : View) (u : ItemView) (ss : List Store) (ms : List ItemStore) → Chain v u ss ms → Follows p g.hd v ss ms
  chain_follows v u [] [] k = follows_nil p g.hd v
  chain_follows v u [] (x ∷ ms) k = absurd k
  chain_follows v u (s ∷ ss) [] k = absurd k
  chain_follows v u (s ∷ ss) (x ∷ ms) k = follows-cons p g.hd v s ss x ms k.0 k.1 (chain_follows (store_view_of s v) (apply u x) ss ms k.3)

  pub chain_take : (v : View) (u : ItemView) (ss : List Store) (ms : List ItemStore) (n : ℕ) → Chain v u ss ms → Chain v u (take n ss) (take n ms)
  chain_take v u [] [] zero k = tt
  chain_take v u [] [] (suc n) k = tt
  chain_take v u [] (x ∷ ms) n k = absurd k
  chain_take v u (s ∷ ss) [] n k = absurd k
  chain_take v u (s ∷ ss) (x ∷ ms) zero k = tt
  chain_take v u (s ∷ ss) (x ∷ ms) (suc n) k = (k.0, k.1, k.2, chain_take (store_view_of s v) (apply u x) ss ms n k.3)

  pub chain_append : (v : View) (u : ItemView) (ss ts : List Store) (ms ns : List ItemStore) → Chain v u ss ms → Chain (store_all store_view_of ss v) (apply_all u ms) ts ns
      → Chain v u (ss ++ ts) (ms ++ ns)
  unfolding store_all apply_all
  chain_append v u [] ts [] ns k j = j
  chain_append v u [] ts (x ∷ ms) ns k j = absurd k
  chain_append v u (s ∷ ss) ts [] ns k j = absurd k
  chain_append v u (s ∷ ss) ts (x ∷ ms) ns k j = (k.0, k.1, k.2, chain_append (store_view_of s v) (apply u x) ss ts ms ns k.3 j)

  pub chain_go : (v : View) (u : ItemView) (ss : List Store) (ms : List ItemStore) (T : Track) → Chain v u ss ms
      → Go (par_of p h off) (mst g u a c m) (mst g (apply_all u ms) a c m) T T
  unfolding apply_all
  chain_go v u [] [] T k = go_none (par_of p h off) (mst g u a c m) T
  chain_go v u [] (x ∷ ms) T k = absurd k
  chain_go v u (s ∷ ss) [] T k = absurd k
  chain_go v u (s ∷ ss) (x ∷ ms) T k =
      go_then (par_of p h off) (mst g u a c m) (mst g (apply u x) a c m) (mst g (apply_all (apply u x) ms) a c m) T T T
      (k.2 T) (chain_go (store_view_of s v) (apply u x) ss ms T k.3)

-- cut after n stores
pub chain_cut : (p : Params) (h : Ranged p) (off : List ℕ) (g : Ghost) (a : List Val) (c : Bool) (m : Mode) (v : View) (u : ItemView) (ss : List Store) (ms : List ItemStore) (n : ℕ) (T : Track)
    → Chain p h off g a c m v u ss ms
    → Go (par_of p h off) (mst g u a c m) (mst g (apply_all u (take n ms)) a c m-off) T T
chain_cut p h off g a c m v u ss ms n T k =
    go_more (par_of p h off) (mst g u a c m) (mst g (apply_all u (take n ms)) a c m) (mst g (apply_all u (take n ms)) a c m-off) T T
    (chain_go p h off g a c m v u (take n ss) (take n ms) T (chain_take p h off g a c m v u ss ms n k)) (lose (mst g (apply_all u (take n ms)) a c m))
