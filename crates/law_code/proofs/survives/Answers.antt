-- `survives`: `survive`: the exclusive or of all chunks of an encoded stripe is 0, so what is lost is the exclusive or of the rest. Assumes nothing.
use Rattle.law_code.specs.Survives.{survive}
use Rattle.law_code.proofs.survives.Goals as goal

pub returns : goal.returns
returns c = survive
