-- `has_drive`: above 7 no bit of a number below 256 is set; else the bit is what shifting and mod 2 leave. Assumes nothing.
use mathlib.Core.Path.{sym}
use Prim.Native.Nat.{◌<◌}
use borrow.Author.Rules.{rules}
use Rattle.law_basic.specs.Mask.{is_in_pow, is_in_none}
use Rattle.bits_masks.proofs.has_drive.Goals as goal

pub returns-then-drive-ge8 : goal.returns-then-drive-ge8
returns-then-drive-ge8 c =
    let m = c.args.mask in
    let f : m < 256 = search rules in
    sym (is_in_none m c.args.drive f c.if-drive-ge8.true)

pub returns : goal.returns
returns c = sym (is_in_pow c.args.mask c.args.drive c.if-drive-ge8.false)
