-- `header_of`: the header block lies at that byte of the image, within its length. Assumes nothing.
use mathlib.Core.Path.{sym, ap, ◌∙◌}
use Prim.Native.Nat.{ℕ}
use native.Mathlib.Omega.{arith}
use lib.ListN.{length}
use Rattle.spec.specs.Bytes.{part}
use Rattle.law_basic.specs.Geometry.{ranged, capacity-low}
use Rattle.law_basic.specs.Splice.{length_part, part_lent}
use Rattle.disk_gather.specs.Found.{block_in_unit, head_bytes}
use Rattle.disk_gather.proofs.header_of.Goals as goal

pub block_byte-a-requires-clause-drive_lt_n : goal.block_byte-a-requires-clause-drive_lt_n
block_byte-a-requires-clause-drive_lt_n c =
    let x = capacity-low c.args.p (ranged c.args.p c.requires.p_value) in (c.requires.image_len.1, c.requires.image_len.2, omega (arith, x))

pub overflow_add-result : goal.overflow_add-result
overflow_add-result c =
    omega (arith, c.block_byte-a.ensures.2, (ranged c.args.p c.requires.p_value).block_high)

pub slice_bounds-result-end : goal.slice_bounds-result-end
slice_bounds-result-end c =
    omega (arith, c.block_byte-a.ensures.1, c.requires.image_len.0, block_in_unit c.args.p)

pub returns : goal.returns
returns c =
    let b = c.block_byte-a in
    let p = c.args.p in
    let im = c.args.image.now in
    let q = c.requires.image_len in record {
      long = ap length (part_lent b.result p.B im) ∙ length_part b.result p.B im (omega (arith, b.ensures.1, q.0, block_in_unit p));
      block = (λ off ps h. part_lent b.result p.B im ∙ ap (λ (x : ℕ). part x p.B im) b.ensures.0
          ∙ sym (head_bytes p off im ps q.0 h c.args.drive c.args.zone q.1 q.2 (ranged p c.requires.p_value)));
    }
