-- `rebuild_zones`: what is owed are the segments with serials above last, their zones still empty; one turn pays that with the least, or is cut. Assumes nothing.
use mathlib.Core.List.{List}
use Prim.Native.Nat.{ℕ, ◌-◌}
use Rattle.spec.specs.Drives.{mk_disk}
use Rattle.recover_rebuild.specs.Drive.{Zones}
use Rattle.recover_rebuild.specs.Rising.{RisingNext}
use Rattle.recover_rebuild.proofs.rebuild_zones.Given as goal

abbrev pub invariant-loop-z : goal.invariant-loop-z
invariant-loop-z l =
    ((off : List ℕ) → Zones l.p off l.drive l.count l.kept l.serials l.rows (mk_disk l.initial.image l.initial.pointers) l.last l.left (mk_disk l.image l.pointers))
    × RisingNext l.p.Z l.kept l.serials l.last l.p.Z l.z

abbrev pub decreases-loop-z : goal.decreases-loop-z
decreases-loop-z l = 18446744073709551616 - l.last
