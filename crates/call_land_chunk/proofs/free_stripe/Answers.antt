-- `free_stripe`: the row with filled set to 0 is `free_row` unfolded. Assumes nothing.
use Rattle.call_land_chunk.specs.Alone.{free_row}
use mathlib.Core.Path.{refl}
use Rattle.call_land_chunk.proofs.free_stripe.Goals as goal

pub returns : goal.returns
unfolding free_row
returns c = refl
