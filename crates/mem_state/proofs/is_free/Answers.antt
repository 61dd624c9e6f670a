-- `is_free`: the count at index i is what the definition compares with 0. Assumes nothing.
use Rattle.spec.specs.Memory.{filled_in_of, is_free}
use Rattle.mem_state.proofs.is_free.Goals as goal

pub returns : goal.returns
unfolding is_free filled_in_of
returns c = c.is_free.ensures
