-- `next_zone`: of the first z zones it is the next one; at Z of all. Assumes nothing.
use Prim.Native.Nat.{◌≤◌}
use Rattle.recover_rebuild.specs.Rising.{RisingNext}
use Rattle.recover_rebuild.proofs.next_zone.Given as goal

abbrev pub invariant-loop-z : goal.invariant-loop-z
invariant-loop-z l = (l.z ≤ l.p.Z) × RisingNext l.p.Z l.kept l.serials l.last.0 l.z l.next
