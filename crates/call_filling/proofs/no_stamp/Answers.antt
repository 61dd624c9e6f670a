-- `no_stamp`: the test of the stamp against the last one is `no_stamp` unfolded. Assumes nothing.
use Rattle.spec.specs.Write.{no_stamp}
use mathlib.Core.Path.{refl}
use Rattle.call_filling.proofs.no_stamp.Goals as goal

pub returns : goal.returns
unfolding no_stamp
returns c = refl
