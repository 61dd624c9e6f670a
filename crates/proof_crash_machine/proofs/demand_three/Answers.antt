-- `demand_three`: `theorem`: every step from empty drives keeps `Inv`, and from it follow what a restart reads and that none is refused. Assumes nothing.
use Rattle.proof_crash_machine.proofs.Theorem.{theorem}
use Rattle.proof_crash_machine.proofs.demand_three.Goals as goal

pub returns : goal.returns
returns c = theorem
