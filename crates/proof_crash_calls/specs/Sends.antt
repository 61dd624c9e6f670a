-- The blocks sent, as a history has them, and the machine's log of them. Assumes nothing.
use Rattle.std.specs.Prelude.{◌≡◌, cond, ◌&&◌, length, get_or}
use mathlib.Core.List.{List, ◌∷◌}
use Rattle.std.proofs.Math.Bool.{true}
use Prim.Native.Nat.{ℕ, zero, suc, ◌<◌}
use Rattle.std.proofs.Math.Dec.{eqb}
use Rattle.spec.specs.declared.Params.{Params}
use Rattle.spec.specs.declared.State.{State}
use Rattle.spec.specs.Demands.{send_at}
use Rattle.spec.specs.History.{Send}
use Rattle.proof_crash_machine.specs.Facts.{Ghost, InV}
use Rattle.proof_crash_machine.specs.Memory.{Mem}
use Rattle.proof_crash_machine.specs.Order.{Track}
use Rattle.proof_crash_machine.specs.Val.{Val}
use Rattle.proof_crash_calls.specs.Rel.{Waiting}

-- ---- the log

-- x is the block that y sent, with its stamp
pub record SameSend (p : Params) (x : Val) (y : Send) : Type 0 where
  pub addr : x.addr ≡ y.address
  pub stamp : x.stamp ≡ y.stamp
  pub blk : x.blk ≡ (λ i. get_or y.block i 0)
  pub long : length y.block ≡ p.B

-- the log has the sends in order; what is acknowledged is so for the machine, and stands in the log where it was sent
pub record Logged (p : Params) (a : List Val) (T : Track) (ss : List Send) : Type 0 where
  pub count : T.clock ≡ length ss
  pub same : (j : ℕ) → j < length ss → SameSend p (T.log j) (send_at ss j)
  pub acks : (j : ℕ) → j < length ss → (send_at ss j).acked ≡ true → InV (T.log j) a × (T.pos (T.log j).stamp ≡ j)

-- a send that waits is a write in flight
abbrev pub Waits : Params → Ghost → State → Mem → Track → List Send → Type 0
Waits p g st M T ss = (j : ℕ) → j < length ss → (send_at ss j).waits ≡ true
    → Waiting p st M (T.log j) (send_at ss j).stripe × InV (T.log j) g.sent × (T.pos (T.log j).stamp ≡ j)

-- ---- a stripe is acknowledged

-- the blocks of sends below n that wait in stripe s, then a
unfoldable pub acked_to : Track → List Send → ℕ → List Val → ℕ → List Val
acked_to T ss s a zero = a
acked_to T ss s a (suc n) =
    let l = acked_to T ss s a n in
    cond ((send_at ss n).waits && eqb (send_at ss n).stripe s) (T.log n ∷ l) l
