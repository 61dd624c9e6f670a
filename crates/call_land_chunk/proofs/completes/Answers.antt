-- `completes`: the bits of the mask with drive d are counted and compared with N, as `completes` unfolded does. Assumes nothing.
use Prim.Native.Nat.{ℕ}
use Rattle.spec.specs.Landing.{completes}
use Rattle.spec.specs.Memory.{landed_in, landed_mask}
use Rattle.call_land_chunk.specs.Alone.{alone}
use lib.Count.{ones}
use lib.Dec.{eqb}
use mathlib.Core.Path.{ap, ◌∙◌}
use Rattle.call_land_chunk.proofs.completes.Goals as goal

pub returns : goal.returns
unfolding completes landed_mask landed_in alone
returns c = c.is_complete.ensures ∙ ap (λ (x : ℕ). eqb (ones x) c.args.p.N) c.with_drive.ensures
