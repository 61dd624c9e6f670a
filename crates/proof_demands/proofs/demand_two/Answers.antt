-- `demand_two`: `demand_2` joins four parts: the zone rules, that empty drives are accepted, that what is said is the latest block,
-- and what holds after a restart, carried from values to the lent bytes. Assumes nothing.
use Rattle.proof_demands.specs.Demand.{demand_2}
use Rattle.proof_demands.proofs.demand_two.Goals as goal

pub returns : goal.returns
returns c = demand_2
