-- `put_groups_with`: what is owed are the lost chunks from stripe base on; one turn pays a group, or is cut, and at S nothing is owed. Assumes nothing.
use mathlib.Core.Path.{◌≡◌}
use mathlib.Core.List.{List}
use Prim.Native.Nat.{ℕ, ◌<◌}
use lib.ListN.{length}
use Rattle.spec.specs.Drives.{mk_disk}
use Rattle.recover_decode.specs.Group.{Groups}
use Rattle.recover_decode.proofs.put_groups_with.Given as goal

abbrev pub invariant-loop-base : goal.invariant-loop-base
invariant-loop-base l =
    (length l.at ≡ length l.initial.at) × (l.base < l.p.S)
    × ((off : List ℕ) → Groups l.p off l.gone l.seg l.drive l.count (mk_disk l.initial.image l.initial.pointers) l.base l.left (mk_disk l.image l.pointers))
