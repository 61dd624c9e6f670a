-- `see_zone`: if what came vouches for the places below at, found does for those below at + o, with at most o more; a turn sees block o. Assumes nothing.
use Rattle.spec.specs.Memory.{state_of}
use Prim.Native.Nat.{ℕ, ◌+◌, ◌≤◌}
use Rattle.spec.specs.Drives.{view_of}
use Rattle.call_reclaim_victim.specs.Vouched.{Vouched}
use mathlib.Core.List.{List}
use Rattle.call_reclaim_victim.proofs.see_zone.Given as goal

abbrev pub invariant-loop-o : goal.invariant-loop-o
invariant-loop-o l =
    (l.o ≤ l.p.S) × (l.found.live ≤ l.initial.found.live + l.o)
    × ((off : List ℕ) → Vouched l.p (view_of l.p off l.image l.pointers) (state_of l.bytes) l.segment l.addresses l.at l.initial.found
    → Vouched l.p (view_of l.p off l.image l.pointers) (state_of l.bytes) l.segment l.addresses (l.at + l.o) l.found)
