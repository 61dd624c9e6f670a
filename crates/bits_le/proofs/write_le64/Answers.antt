-- `write_le64`: the library's 8 bytes of n are those of `to_le`, and replace as many. Assumes nothing.
use Rattle.std.proofs.Common.{ap, ◌∙◌, length}
use Rattle.spec.specs.Bytes.{splice}
use Rattle.law_basic.specs.Le.{length-to_le}
use Rattle.law_basic.specs.Splice.{splice_lent}
use Rattle.bits_le.specs.Lowest.{bytes_low_first-to_le}
use Rattle.bits_le.proofs.write_le64.Goals as goal

pub returns : goal.returns
returns c =
    let e = c.copy_from_slice.ensures.after ∙ c.to_le_bytes.ensures ∙ bytes_low_first-to_le 8 c.args.n in
    splice_lent c.args.at 8 c.args.dst.now _ (ap length e ∙ length-to_le 8 c.args.n) ∙ ap (splice c.args.dst.now c.args.at) e
