-- `idle_state`: each field is the argument, or the array of zeros, of the definition. Assumes nothing.
use Rattle.spec.specs.Memory.{idle_state}
use mathlib.Core.Path.{refl}
use Rattle.mem_state.proofs.idle_state.Goals as goal

pub returns : goal.returns
unfolding idle_state
returns c = refl
