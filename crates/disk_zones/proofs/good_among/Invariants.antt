-- `good_among`: those below lo and the n counted are those below z; a good zone z moves to n in its turn. Assumes nothing.
use mathlib.Core.Path.{◌≡◌}
use Prim.Native.Nat.{◌+◌, ◌-◌, ◌≤◌}
use Rattle.spec.specs.Lists.{below, tally}
use Rattle.disk_zones.specs.Empty.{zero_at}
use Rattle.disk_zones.proofs.good_among.Given as goal

abbrev pub invariant-loop-z : goal.invariant-loop-z
invariant-loop-z l =
    (l.lo ≤ l.z) × (l.z ≤ l.hi) × (l.n + l.lo ≤ l.z) × (tally (zero_at l.offline l.first) (below l.lo) + l.n ≡ tally (zero_at l.offline l.first) (below l.z))

abbrev pub decreases-loop-z : goal.decreases-loop-z
decreases-loop-z l = l.hi - l.z
