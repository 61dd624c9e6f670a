-- `reset_drive`: what is owed are the resets of the good zones from z on; one turn pays that of z, a cut ends it, at Z nothing is owed. Assumes nothing.
use mathlib.Core.Path.{◌≡◌}
use mathlib.Core.List.{List, map}
use Prim.Native.Nat.{ℕ, ◌≤◌}
use lib.ListN.{length}
use Rattle.spec.specs.Drives.{mk_disk, good_zones}
use Rattle.spec.specs.Drives.Store.{reset}
use Rattle.recover_drop.specs.Going.{Owes}
use Rattle.recover_reset.specs.Good.{good_from}
use Rattle.recover_reset.proofs.reset_drive.Given as goal

abbrev pub invariant-loop-z : goal.invariant-loop-z
invariant-loop-z l =
    (l.z ≤ l.p.Z)
    × (length l.pointers ≡ length l.initial.pointers)
    × ((im : List ℕ) → Owes l.p l.count (map (reset l.drive) (good_zones l.p l.offline l.drive)) (mk_disk im l.initial.pointers)
    (good_from l.p l.offline l.drive l.z) l.left (mk_disk im l.pointers))
