-- `drop_stores`: what is owed are the resets that the drives still ask for; a turn pays those of the lowest serial, and fewer zones wait. Assumes nothing.
use Prim.Native.Nat.{◌*◌}
use Rattle.spec.specs.Drives.{view_of}
use Rattle.spec.specs.Lists.{below, tally}
use Rattle.recover_drop.specs.Dropped.{serial_no, untaken_no, SerialsLeft}
use Rattle.recover_drop.specs.Rising.{LeastKey}
use Rattle.recover_drop.proofs.drop_stores.Given as goal

abbrev pub invariant-loop-at : goal.invariant-loop-at
invariant-loop-at l =
    SerialsLeft l.p l.offline l.image l.taken l.count l.initial.pointers l.left l.pointers
    × LeastKey (untaken_no l.p (view_of l.p l.offline l.image l.pointers) l.taken) (serial_no l.p (view_of l.p l.offline l.image l.pointers)) (l.p.N * l.p.Z) l.at

abbrev pub decreases-loop-at : goal.decreases-loop-at
decreases-loop-at l = tally (untaken_no l.p (view_of l.p l.offline l.image l.pointers) l.taken) (below (l.p.N * l.p.Z))
