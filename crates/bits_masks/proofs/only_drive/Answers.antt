-- `only_drive`: above 7 the mask is none; else 1 shifted by the drive is the mask of it alone. Assumes nothing.
use mathlib.Core.Path.{sym}
use Rattle.law_basic.specs.Mask.{only_none, shl_only}
use Rattle.bits_masks.proofs.only_drive.Goals as goal

pub returns-then-drive-ge8 : goal.returns-then-drive-ge8
returns-then-drive-ge8 c = sym (only_none c.args.drive c.if-drive-ge8.true)

pub returns : goal.returns
returns c = shl_only c.args.drive c.if-drive-ge8.false
