-- `demand_three`: `demand_3_bytes`: a history on lent bytes, decoded, is one on values, event by event; there demand 3 of values holds. Assumes nothing.
use Rattle.proof_bytes.specs.Three.{demand_3_bytes}
use Rattle.proof_bytes.proofs.demand_three.Goals as goal

pub returns : goal.returns
returns c = demand_3_bytes
