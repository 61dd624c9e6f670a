-- `with_drive`: `only_drive` is the mask of the drive alone; the bitwise or is that of the definition. Assumes nothing.
use mathlib.Core.Path.{ap}
use lib.Bits.{bit_or}
use Rattle.bits_masks.proofs.with_drive.Goals as goal

pub returns : goal.returns
returns c = ap (bit_or c.args.mask) c.only_drive.ensures
