-- `zero_state`: the definition is the idle state of six zeros. Assumes nothing.
use Rattle.spec.specs.Memory.{zero_state}
use Rattle.mem_state.proofs.zero_state.Goals as goal

pub returns : goal.returns
unfolding zero_state
returns c = c.idle_state.ensures
