-- `clear`: the part from 0 of the whole length is all of dst, and that many zeros replace it. Assumes nothing.
use mathlib.Core.Path.{◌∙◌}
use lib.ListN.{length, replicate, length-replicate}
use Rattle.law_basic.specs.Splice.{splice_all}
use Rattle.disk_blocks.proofs.clear.Goals as goal

pub returns : goal.returns
returns c =
    let clear-part = c.clear_part in
    let args = c.args in
    clear-part.ensures ∙ splice_all args.dst.now (replicate (length args.dst.now) 0) (length-replicate (length args.dst.now) 0)
