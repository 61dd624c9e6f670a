-- Where a history stands: a machine state with its invariant and the order of its sends, with the drives' items, byte facts, log and memory. Assumes nothing.
use Rattle.std.specs.Prelude.{◌≡◌, List, map, Bool, false, ℕ, ◌≤◌, ◌<◌, length, take}
use Rattle.spec.specs.declared.Params.{Params}
use Rattle.spec.specs.declared.State.{State}
use Rattle.spec.specs.Calls.{Plan}
use Rattle.spec.specs.Demands.{send_at}
use Rattle.spec.specs.Drives.{View, store_view_of, store_all}
use Rattle.spec.specs.History.{Send, forget}
use Rattle.law_basic.specs.Geometry.{Ranged}
use Rattle.proof_crash_machine.specs.History.{Mode, Inv}
use Rattle.proof_crash_machine.specs.History.Mode.{off as m-off, run}
use Rattle.proof_crash_machine.specs.Memory.{Mem}
use Rattle.proof_crash_machine.specs.Order.{Track, Tracked}
use Rattle.proof_crash_machine.specs.Val.{Val}
use Rattle.proof_crash_machine.specs.Facts.{Ghost, None}
use Rattle.proof_crash_machine.specs.View.{ItemView}
use Rattle.proof_crash_items.specs.Carry.{Tie}
use Rattle.proof_crash_items.specs.Ranges.{par_of}
use Rattle.proof_crash_items.specs.Sound.{AllSound}
use Rattle.proof_crash_calls.specs.Go.{mst, Later}
use Rattle.proof_crash_calls.specs.Held.{TableOk}
use Rattle.proof_crash_calls.specs.Rel.{Rel}
use Rattle.proof_crash_calls.specs.Sends.{Logged, Waits}

-- drives v, as the machine sees them u, blocks sent ss, of which n before the last finished restart ended; mode m of the machine
pub record Reached (p : Params) (h : Ranged p) (off : List ℕ) (v : View) (u : ItemView) (ss : List Send) (n : ℕ) (g : Ghost) (a : List Val) (c : Bool) (m : Mode) (T : Track) : Type 0 where
  pub inv : Inv (par_of p h off) (mst g u a c m)
  pub tracked : Tracked (mst g u a c m) T
  pub tie : Tie p h off g.un g.hd v u
  pub logged : Logged p a T ss
  pub marked : n ≤ length ss
  pub still : length ss ≡ n → c ≡ false

-- a healthy run
pub record Live (p : Params) (h : Ranged p) (off : List ℕ) (v : View) (st : State) (fl tb : List ℕ) (ss : List Send) (n : ℕ) : Type 0 where
  pub g : Ghost
  pub u : ItemView
  pub a : List Val
  pub c : Bool
  pub M : Mem
  pub T : Track
  pub reached : Reached p h off v u ss n g a c (run M) T
  pub rel : Rel p u st fl M
  pub waits : Waits p g st M T ss
  -- the address table
  pub table : TableOk p h off g u tb

-- the power is off: nothing waits
pub record Stopped (p : Params) (h : Ranged p) (off : List ℕ) (v : View) (ss : List Send) (n : ℕ) : Type 0 where
  pub g : Ghost
  pub u : ItemView
  pub a : List Val
  pub c : Bool
  pub T : Track
  pub reached : Reached p h off v u ss n g a c m-off T
  pub healthy : None (par_of p h off) g.un
  pub idle : (j : ℕ) → j < length ss → (send_at ss j).waits ≡ false

-- what a call with plan q does from ghost g, uncut and cut
pub record CallOk (p : Params) (h : Ranged p) (off : List ℕ) (g : Ghost) (v : View) (q : Plan) (ss ss' : List Send) (n : ℕ) : Type 0 where
  pub sound : AllSound p v q.stores
  pub done : (x : Live p h off (store_all store_view_of q.stores v) q.memory.state q.memory.inflight q.memory.addresses ss' n) × Later g x.g
  pub cut : (k : ℕ) → (x : Stopped p h off (store_all store_view_of (take k q.stores) v) (map forget ss) n) × Later g x.g
