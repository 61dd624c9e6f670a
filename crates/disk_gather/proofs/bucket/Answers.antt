-- `bucket`: the bits of the mask are at most it. Assumes nothing.
use mathlib.Core.Path.{refl}
use lib.Bits.{and_le_r}
use Rattle.disk_gather.proofs.bucket.Goals as goal

pub returns : goal.returns
returns c =
    (refl, and_le_r c.args.serial.0 c.args.mask)
