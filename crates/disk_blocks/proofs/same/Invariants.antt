-- `same`: off 0: a equals b iff what follows i does; else they differ. One turn adds the bits in which bytes i differ. Unequal lengths end it. Assumes nothing.
use Rattle.disk_blocks.specs.Same.{Comparing}
use Rattle.disk_blocks.proofs.same.Given as goal

abbrev pub invariant-loop-i : goal.invariant-loop-i
invariant-loop-i l = Comparing l.a l.b l.off l.i
