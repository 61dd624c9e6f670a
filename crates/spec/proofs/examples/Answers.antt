-- `examples`: M1 to M8 evaluated: each side computes to the same numbers in `examples_hold`. Assumes nothing.
use Rattle.spec.proofs.Evaluation.{examples_hold}
use Rattle.spec.proofs.examples.Goals as goal

pub returns : goal.returns
returns c = examples_hold
