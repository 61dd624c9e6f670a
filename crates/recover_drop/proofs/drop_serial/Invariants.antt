-- `drop_serial`: what is owed are the resets of the zones from i on that bear the serial; these zones are as they came. Assumes nothing.
use Rattle.recover_drop.specs.Dropped.{SerialLeft}
use Rattle.recover_drop.proofs.drop_serial.Given as goal

abbrev pub invariant-loop-i : goal.invariant-loop-i
invariant-loop-i l = SerialLeft l.p l.offline l.image l.taken l.count l.initial.pointers l.serial.0 l.i l.left l.pointers
