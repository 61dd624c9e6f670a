-- `in_flight`: the eighths that are not free are those in flight. Assumes nothing.
use Rattle.spec.specs.Memory.{slot_count, slots, is_free, filled_in_of, in_flight}
use Rattle.mem_state.proofs.in_flight.Goals as goal

pub returns : goal.returns
unfolding in_flight slots slot_count is_free filled_in_of
returns c = c.in_flight.ensures
