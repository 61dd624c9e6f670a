-- `idle_zones`: at is the first place of zone t, and found is right below from; a turn goes over zone t, whose places are all of one segment or none. Assumes nothing.
use Rattle.spec.specs.Memory.{state_of}
use Prim.Native.Nat.{ℕ, ◌+◌, ◌-◌, ◌*◌, min, max, ◌≤◌}
use Rattle.spec.specs.Drives.{view_of}
use Rattle.mem_marks.specs.Marks.{Marks}
use Rattle.call_reclaim_victim.specs.Waiting.{IdleBelow}
use mathlib.Core.List.{List}
use mathlib.Core.Path.{◌≡◌}
use Rattle.call_reclaim_victim.proofs.idle_zones.Given as goal

abbrev pub invariant-loop-at : goal.invariant-loop-at
invariant-loop-at l =
    (l.from ≡ min l.end (max l.first l.at))
    × (l.at ≡ l.t * l.cap)
    × ((off tb : List ℕ)
    → Marks tb l.p.L l.marks l.first l.end
    → IdleBelow l.p (view_of l.p off l.image l.pointers) (state_of l.bytes) l.segment tb l.first l.initial.found
    → IdleBelow l.p (view_of l.p off l.image l.pointers) (state_of l.bytes) l.segment tb l.from l.found)
    × (l.at ≤ l.end + 87381)

abbrev pub decreases-loop-at : goal.decreases-loop-at
decreases-loop-at l = l.end - l.at
