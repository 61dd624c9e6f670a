-- `no_row`: each field is the zero, or the array of zeros, of the definition. Assumes nothing.
use Rattle.mem_rows.specs.Rows.{no_row}
use mathlib.Core.Path.{refl}
use Rattle.mem_rows.proofs.no_row.Goals as goal

pub returns : goal.returns
unfolding no_row
returns c = refl
