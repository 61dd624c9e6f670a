-- `filled_in`: the row's number of filled positions, made wide, is `filled_in_of` unfolded. Assumes nothing.
use Rattle.spec.specs.Memory.{filled_in_of}
use Rattle.call_land_chunk.specs.Alone.{alone}
use mathlib.Core.Path.{refl}
use Rattle.call_land_chunk.proofs.filled_in.Goals as goal

pub returns : goal.returns
unfolding alone filled_in_of
returns c = refl
