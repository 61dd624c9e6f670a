-- `demand_one`: `demand_1`: a call's verdict is refused or a plan; refused leaves all as it was, a plan is cut or done by the store count. Assumes nothing.
use Rattle.proof_answers.specs.Answered.{demand_1}
use Rattle.proof_answers.proofs.demand_one.Goals as goal

pub returns : goal.returns
returns c = demand_1
