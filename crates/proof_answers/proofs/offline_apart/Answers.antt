-- `offline_apart`: `offline_apart`: a call's verdict looks at good zones alone, and so do its stores. Assumes nothing.
use Rattle.proof_answers.specs.Unseen.{offline_apart}
use Rattle.proof_answers.proofs.offline_apart.Goals as goal

pub returns : goal.returns
returns c = offline_apart
