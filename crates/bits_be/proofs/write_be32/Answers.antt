-- `write_be32`: the library's 4 bytes of n are those of `to_be`, and replace as many. Assumes nothing.
use Rattle.std.proofs.Common.{ap, ◌∙◌, length}
use Rattle.spec.specs.Bytes.{splice}
use Rattle.law_basic.specs.Be.{length-to_be}
use Rattle.law_basic.specs.Splice.{splice_lent}
use Rattle.bits_be.specs.Native.{bytes_high_first-to_be}
use Rattle.bits_be.proofs.write_be32.Goals as goal

pub returns : goal.returns
returns c =
    let e = c.copy_from_slice.ensures.after ∙ c.to_be_bytes.ensures ∙ bytes_high_first-to_be 4 c.args.n in
    splice_lent c.args.at 4 c.args.dst.now _ (ap length e ∙ length-to_be 4 c.args.n) ∙ ap (splice c.args.dst.now c.args.at) e
