-- `is_fewest`: all segments below g have enough; a turn adds g (`below_more`), and false promises nothing. Assumes nothing.
use Prim.Native.Nat.{ℕ, ◌≤◌, ◌<◌}
use Rattle.call_reclaim_records.specs.Vouch.{Enough}
use Rattle.call_reclaim_records.proofs.is_fewest.Given as goal

abbrev pub invariant-loop-g : goal.invariant-loop-g
invariant-loop-g l = (l.g ≤ l.p.Z) × ((k : ℕ) → k < l.g → Enough l.p l.rows l.sealed l.addresses l.best l.n k)
