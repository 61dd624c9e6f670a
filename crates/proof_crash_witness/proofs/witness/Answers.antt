-- `witness`: `witness_holds`: the history is evaluated in eight parts, each from what the one before came to; the last has the table's
-- answers and reads. Assumes nothing.
use Rattle.proof_crash_witness.proofs.Parts.{witness_holds}
use Rattle.proof_crash_witness.proofs.witness.Goals as goal

pub returns : goal.returns
returns c = witness_holds
