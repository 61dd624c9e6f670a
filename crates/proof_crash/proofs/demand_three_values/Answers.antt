-- `demand_three_values`: `demand_3`: `Holds` is true of empty drives, each allowed event keeps it, and it gives what a restart there claims. Assumes nothing.
use Rattle.proof_crash.proofs.Demand.{demand_3}
use Rattle.proof_crash.proofs.demand_three_values.Goals as goal

pub returns : goal.returns
returns c = demand_3
