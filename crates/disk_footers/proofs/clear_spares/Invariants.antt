-- `clear_spares`: after i turns zeroing the spares of the other n - i blocks gives what zeroing all n at the start gives;
-- one turn zeroes that of block at + i; then none is left. Assumes nothing.
use Rattle.disk_footers.specs.Laid.{Clearing}
use Rattle.disk_footers.proofs.clear_spares.Given as goal

abbrev pub invariant-loop-i : goal.invariant-loop-i
invariant-loop-i l = Clearing l.p l.drive l.zone l.at l.n l.initial.image l.i l.image
