-- `chunk_block`: the block lies at that byte of the image, within its length, and is the stripe's. Assumes nothing.
use mathlib.Core.Path.{ap, sym, ◌∙◌}
use native.Mathlib.Omega.{arith}
use lib.ListN.{length}
use Rattle.law_basic.specs.Splice.{length_part, part_lent}
use Rattle.recover_groups.proofs.chunk_block.Goals as goal

pub block_at-a-requires : goal.block_at-a-requires
block_at-a-requires c =
    let q = c.requires.image_len in
    record { p_value = c.requires.p_value; at_len = (q.1, q.2, q.3, q.4, q.5); entered = c.requires.entered }

pub slice_bounds-result-end : goal.slice_bounds-result-end
slice_bounds-result-end c = omega (arith, c.block_at-a.ensures.b_bound, c.requires.image_len.0)

pub returns : goal.returns
returns c =
    let b = c.block_at-a in
    let p = c.args.p in
    let im = c.args.image.now in
    let e = part_lent b.result p.B im in
    let q = c.requires.image_len.0 in record {
      long = ap length e ∙ length_part b.result p.B im (omega (arith, b.ensures.b_bound, q));
      block = λ off ps x. e ∙ sym (b.ensures.by_index off im ps q x);
    }
