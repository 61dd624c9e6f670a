-- `zone_rules`: `zone_rules`: the stores that a call's verdict makes due obey the rules, and so do the first n of them where the call is cut. Assumes nothing.
use Rattle.proof_answers.specs.Ruled.{zone_rules}
use Rattle.proof_answers.proofs.zone_rules.Goals as goal

pub returns : goal.returns
returns c = zone_rules
