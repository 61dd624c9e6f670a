-- `empty_write`: `empty_write`: the write's verdict is a refusal, that of a closing, or nothing due; a state read from bytes is written back as they stand. Assumes nothing.
use Rattle.proof_bytes.specs.Emptied.{empty_write}
use Rattle.proof_bytes.proofs.empty_write.Goals as goal

pub returns : goal.returns
returns c = empty_write
