-- `lowest_free`: the first from z on is the first of all; such a zone z is it, another passes on; at Z there is none. Assumes nothing.
use mathlib.Core.Path.{◌≡◌}
use Prim.Native.Nat.{◌-◌, ◌≤◌}
use Rattle.spec.specs.Lists.{below, up_from, keep, first_or}
use Rattle.disk_zones.specs.Empty.{free_by}
use Rattle.disk_zones.proofs.lowest_free.Given as goal

abbrev pub invariant-loop-z : goal.invariant-loop-z
invariant-loop-z l =
    (l.z ≤ l.p.Z) × (first_or 0 (keep (free_by l.p l.pointers l.offline l.drive) (up_from l.z (l.p.Z - l.z))) ≡ first_or 0 (keep (free_by l.p l.pointers l.offline l.drive) (below l.p.Z)))
