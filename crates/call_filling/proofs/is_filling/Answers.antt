-- `is_filling`: both tests are those of the conjunction. Assumes nothing.
use Rattle.std.proofs.Common.{not, ◌&&◌}
use Rattle.spec.specs.Memory.{filled_in_of, is_free, is_full, is_filling}
use Rattle.call_filling.proofs.is_filling.Goals as goal

pub returns : goal.returns
unfolding is_filling is_free is_full filled_in_of
returns c = λ j. not (c.is_free.ensures j) && c.has_room.ensures j
