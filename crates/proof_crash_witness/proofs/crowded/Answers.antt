-- `crowded`: `crowded-holds`: the history is evaluated, and what item 3 says of the write follows. Assumes nothing.
use Rattle.proof_crash_witness.proofs.Full.{crowded-holds}
use Rattle.proof_crash_witness.proofs.crowded.Goals as goal

pub returns : goal.returns
returns c = crowded-holds
