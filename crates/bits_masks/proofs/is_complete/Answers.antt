-- `is_complete`: `count` is the number of ones, so that the code compares what the definition compares. Assumes nothing.
use mathlib.Core.Path.{ap}
use Prim.Native.Nat.{ℕ}
use lib.Dec.{eqb}
use Rattle.bits_masks.proofs.is_complete.Goals as goal

pub returns : goal.returns
returns c = ap (λ (x : ℕ). eqb x c.args.drives) c.count.ensures.0
