-- `good_on`: n are the good zones below z. At most of them all are no fewer (`tally_grows`); at z = Z they are all. Assumes nothing.
use mathlib.Core.Path.{◌≡◌}
use Prim.Native.Nat.{◌-◌, ◌≤◌}
use Rattle.spec.specs.Drives.{is_good}
use Rattle.spec.specs.Lists.{below, tally}
use Rattle.disk_zones.proofs.good_on.Given as goal

abbrev pub invariant-loop-z : goal.invariant-loop-z
invariant-loop-z l = (l.z ≤ l.p.Z) × (l.n ≡ tally (is_good l.p l.offline l.drive) (below l.z))

abbrev pub decreases-loop-z : goal.decreases-loop-z
decreases-loop-z l = l.p.Z - l.z
