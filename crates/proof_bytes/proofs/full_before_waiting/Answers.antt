-- `full_before_waiting`: `full_before-waiting`: the two orders refuse alike but where 7 and 8 both hold and nothing before; what is left follows from the refusal. Assumes nothing.
use Rattle.proof_bytes.specs.Reordered.{full_before-waiting}
use Rattle.proof_bytes.proofs.full_before_waiting.Goals as goal

pub returns : goal.returns
returns c = full_before-waiting
