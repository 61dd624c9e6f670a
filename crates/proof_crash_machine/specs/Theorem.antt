-- The theorem in one place: demand 3 over every history of the abstract machine. Assumes nothing.
use Rattle.std.specs.Prelude.{◌≡◌, false, ◌⊎◌, ℕ, ◌≤◌, ◌<◌}
use Rattle.proof_crash_machine.specs.Val.{Val}
use Rattle.proof_crash_machine.specs.Mask.{Mask, count}
use Rattle.proof_crash_machine.specs.Facts.{Par, L, InV, Choice}
use Rattle.proof_crash_machine.specs.History.{State, Step, StepsTo, Claim, StepClaim, start}
use Rattle.proof_crash_machine.specs.Order.{Reading, run_track, no_track}
use Rattle.proof_crash_machine.specs.Accept.{Accepts}
use Rattle.proof_crash_machine.specs.Exec.{best_stamp}

-- after every list of steps from empty drives, cut ones included
pub record MachineDemand (p : Par) : Type 0 where
  -- each finished restart reads at every address a block sent there, with a stamp no less than any acknowledged one's, and what the finished restart
  -- before it read if none was sent between, but for a restart that names all that that one named, not none, and more: it never reads older (`Claim`)
  pub reads : (σ τ : State) → StepsTo p (start p) σ → (s : Step p σ τ) → StepClaim p σ τ s
  -- that block was sent before, no earlier than any acknowledged one of that address; "never written" only where none was acknowledged
  pub order : (σ : State) (r : StepsTo p (start p) σ) (m : Mask) (K : ℕ → ℕ) → Claim p σ m K → (a : ℕ)
      → (Reading σ (run_track p (start p) σ r no_track) K a) ⊎ ((K a ≡ 0) × ((x : Val) → InV x σ.acked → x.addr ≡ a → ⊥))
  -- at every moment, also in the middle of a cut call: the table that a restart would compute from the drives as they are, naming any allowed drives or
  -- none, is right (`best_stamp` is computed from the drives alone, E lists the segments)
  pub always : (σ : State) → StepsTo p (start p) σ → (m : Mask) → Choice p σ.g.un m → (E : ℕ → ℕ) → ((z : ℕ) → L p σ.v m z → (k : ℕ) × (k < p.Z) × (E k ≡ z))
      → Claim p σ m (best_stamp p σ.v m E)
  -- with one parity no restart is excepted: it reads the same if none was sent between
  pub single : p.P ≤ 1 → (σ : State) (m : Mask) (K : ℕ → ℕ) → count p.N m ≤ p.P → Claim p σ m K → σ.since ≡ false → (a : ℕ) → K a ≡ σ.g.last a
  -- a restart that names any allowed drives, or none, is not refused 9 or 8
  pub accepts : (σ : State) → StepsTo p (start p) σ → (m : Mask) → Choice p σ.g.un m → Accepts p σ.g σ.v m
