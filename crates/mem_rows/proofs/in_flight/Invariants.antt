-- `in_flight`: n plus the taken eighths from i on is all of them; a taken eighth i moves to n in its turn. Assumes nothing.
use Prim.Native.Nat.{◌+◌, ◌-◌, ◌≤◌}
use Rattle.spec.specs.Lists.{up_from, below, keep}
use lib.Dec.{eqb}
use lib.ListN.{length, get_or}
use mathlib.Core.Bool.{not}
use mathlib.Core.Path.{◌≡◌}
use Rattle.mem_rows.proofs.in_flight.Given as goal

abbrev pub invariant-loop-i : goal.invariant-loop-i
invariant-loop-i l = (l.n ≤ l.i) × (l.n + length (keep (λ k. not (eqb (get_or l.filled k 0) 0)) (up_from l.i (8 - l.i))) ≡ length (keep (λ k. not (eqb (get_or l.filled k 0) 0)) (below 8)))
