-- A healthy run on bytes, the power off, and what a call leaves of them. Assumes nothing.
use Rattle.std.specs.Prelude.{◌≡◌}
use mathlib.Core.List.{List}
use Rattle.std.proofs.Math.Bool.{true, false}
use Prim.Native.Nat.{ℕ}
use Rattle.spec.specs.declared.Params.{Params}
use Rattle.spec.specs.declared.Answer.{Answer}
use Rattle.spec.specs.Answers.{is_cut_of, finished}
use Rattle.spec.specs.Calls.{After}
use Rattle.spec.specs.Drives.{Disk}
use Rattle.spec.specs.Engine.{Call}
use Rattle.spec.specs.History.{Send, sent_after}
use Rattle.spec.specs.Memory.{Memory, zero_state}
use Rattle.law_basic.specs.Geometry.{Ranged}
use Rattle.law_views.specs.Views.{Whole, seen}
use Rattle.proof_crash_machine.specs.Facts.{Ghost}
use Rattle.proof_crash_calls.specs.Go.{Later}
use Rattle.proof_crash_calls.specs.Live.{Live, Stopped}

-- a healthy run, on bytes
pub record Healthy (p : Params) (h : Ranged p) (off : List ℕ) (k : Disk) (m : Memory) (ss : List Send) (n : ℕ) : Type 0 where
  pub whole : Whole p k
  pub live : Live p h off (seen p off k) m.state m.inflight m.addresses ss n

-- the power is off
pub record Ended (p : Params) (h : Ranged p) (off : List ℕ) (k : Disk) (ss : List Send) (n : ℕ) : Type 0 where
  pub whole : Whole p k
  pub stopped : Stopped p h off (seen p off k) ss n

-- what a call leaves; ss: the blocks sent, after it
pub data Next (p : Params) (h : Ranged p) (off : List ℕ) (g : Ghost) (n : ℕ) (r : After Disk) (ss : List Send) : Type 0 where
  goes : is_cut_of r.answer ≡ false → finished r.answer ≡ false → (x : Healthy p h off r.drives r.memory ss n) → Later g x.live.g → Next p h off g n r ss
  stops : is_cut_of r.answer ≡ true → finished r.answer ≡ false → r.memory.state ≡ zero_state → (x : Ended p h off r.drives ss n) → Later g x.stopped.g
      → Next p h off g n r ss

-- ---- reads

-- the run goes on, and nothing is sent
pub record GoesOn (c : Call) (r : Answer) : Type 0 where
  pub uncut : is_cut_of r ≡ false
  pub open? : finished r ≡ false
  pub sent : (ss : List Send) → sent_after c r ss ≡ ss
