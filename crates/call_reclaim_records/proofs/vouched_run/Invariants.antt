-- `vouched_run`: c is at most the places among the first i that the table points at, and at most i; a turn adds place q + i if it does. Assumes nothing.
use Prim.Native.Nat.{◌≤◌}
use Rattle.call_reclaim_records.specs.Vouch.{pointed_from}
use lib.ListN.{length}
use Rattle.call_reclaim_records.proofs.vouched_run.Given as goal

abbrev pub invariant-loop-i : goal.invariant-loop-i
invariant-loop-i l = (l.i ≤ l.n) × (l.c ≤ length (pointed_from l.addresses l.l l.q l.i)) × (l.c ≤ l.i)
