-- `idle_windows`: found is right for the live blocks below first; a turn marks the next window and goes over its zones. Assumes nothing.
use Rattle.spec.specs.Memory.{state_of}
use Prim.Native.Nat.{ℕ, ◌-◌, ◌≤◌}
use Rattle.spec.specs.Drives.{view_of}
use Rattle.call_reclaim_victim.specs.Waiting.{IdleBelow}
use lib.ListN.{length}
use mathlib.Core.List.{List}
use mathlib.Core.Path.{◌≡◌}
use Rattle.call_reclaim_victim.proofs.idle_windows.Given as goal

abbrev pub invariant-loop-first : goal.invariant-loop-first
invariant-loop-first l =
    (l.first ≤ l.all) × (length l.marks ≡ length l.initial.marks)
    × ((off : List ℕ) → IdleBelow l.p (view_of l.p off l.image l.pointers) (state_of l.bytes) l.segment l.addresses l.first l.found)

abbrev pub decreases-loop-first : goal.decreases-loop-first
decreases-loop-first l = l.all - l.first
