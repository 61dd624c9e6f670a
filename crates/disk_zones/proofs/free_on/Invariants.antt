-- `free_on`: min(most, n + the free zones below z) is min(most, all of them); such a zone z - 1 moves to n in its turn.
-- The loop ends at n = most or at z = 0, and then that minimum is n. Assumes nothing.
use mathlib.Core.Path.{◌≡◌}
use Prim.Native.Nat.{◌+◌, min, ◌≤◌}
use Rattle.spec.specs.Lists.{below, tally}
use Rattle.disk_zones.specs.Empty.{free_by}
use Rattle.disk_zones.proofs.free_on.Given as goal

abbrev pub invariant-loop-z : goal.invariant-loop-z
invariant-loop-z l =
    (l.z ≤ l.p.Z) × (l.n ≤ l.most) × (l.n + l.z ≤ l.p.Z)
    × (min l.most (l.n + tally (free_by l.p l.pointers l.offline l.drive) (below l.z)) ≡ min l.most (tally (free_by l.p l.pointers l.offline l.drive) (below l.p.Z)))

abbrev pub decreases-loop-z : goal.decreases-loop-z
decreases-loop-z l = l.z
