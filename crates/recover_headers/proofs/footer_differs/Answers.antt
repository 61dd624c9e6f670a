-- `footer_differs`: a block is at most 4096 bytes, so scratch has room for it. Assumes nothing.
use Rattle.law_basic.specs.Geometry.{ranged}
use Rattle.recover_headers.proofs.footer_differs.Goals as goal

pub footer_unlike-requires : goal.footer_unlike-requires
footer_unlike-requires c =
    let h = c.requires in record { p_value = h.p_value; image_len = (h.image_len.0, (ranged c.args.p h.p_value).block_high, h.image_len.1, h.image_len.2, h.image_len.3) }
