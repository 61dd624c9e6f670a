-- `copy_part`: what is lent for the copy is the part from at as long as src. Assumes nothing.
use Rattle.std.proofs.Common.{length, ap, ◌∙◌}
use Rattle.spec.specs.Bytes.{splice}
use Rattle.law_basic.specs.Splice.{splice_lent}
use Rattle.disk_blocks.proofs.copy_part.Goals as goal

pub returns : goal.returns
returns c =
    let a = c.args in
    let e = c.copy_from_slice.ensures.after in
    splice_lent a.at (length a.src.now) a.dst.now _ (ap length e) ∙ ap (splice a.dst.now a.at) e
