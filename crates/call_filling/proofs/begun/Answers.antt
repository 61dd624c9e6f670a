-- `begun`: the row with four fields set is `begun_row` unfolded. Assumes nothing.
use Rattle.call_filling.specs.Entries.{begun_row}
use mathlib.Core.Path.{refl}
use Rattle.call_filling.proofs.begun.Goals as goal

pub returns : goal.returns
unfolding begun_row
returns c = refl
