-- Histories in a healthy run, after a cut, and what an event leaves of them. Assumes nothing.
use Rattle.std.specs.Prelude.{◌≡◌, List, ℕ}
use Rattle.spec.specs.declared.Params.{Params}
use Rattle.spec.specs.History.{Hist}
use Rattle.spec.specs.Memory.{zero_state}
use Rattle.law_basic.specs.Geometry.{Ranged}
use Rattle.proof_crash_machine.specs.Facts.{Ghost}
use Rattle.proof_crash_calls.specs.Go.{Later}
use Rattle.proof_crash_calls.specs.Join.{Healthy, Ended}

-- a healthy run goes on; n blocks had been sent when its restart finished
pub record Running (p : Params) (h : Ranged p) (off : List ℕ) (s : Hist) (n : ℕ) : Type 0 where
  pub healthy : Healthy p h off s.world.disk s.world.memory s.sends n
  pub trusted : s.untrusted ≡ 0

-- it was cut
pub record Halted (p : Params) (h : Ranged p) (off : List ℕ) (s : Hist) (n : ℕ) : Type 0 where
  pub ended : Ended p h off s.world.disk s.sends n
  pub trusted : s.untrusted ≡ 0
  -- the state is all zeros
  pub dark : s.world.memory.state ≡ zero_state

-- an event's step, from ghost g: the mark of the last finished restart stays
pub data Stepped (p : Params) (h : Ranged p) (off : List ℕ) (g : Ghost) (n : ℕ) (s s' : Hist) : Type 0 where
  goes_on : s'.mark ≡ s.mark → (x : Running p h off s' n) → Later g x.healthy.live.g → Stepped p h off g n s s'
  is_over : s'.mark ≡ s.mark → (x : Halted p h off s' n) → Later g x.ended.stopped.g → Stepped p h off g n s s'
