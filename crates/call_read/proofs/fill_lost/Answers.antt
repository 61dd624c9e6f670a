-- `fill_lost`: drive and stripe of the place, and the block that `disk_code` decodes. Assumes nothing.
use mathlib.Core.Path.{sym, ◌∙◌, subst}
use Prim.Native.Nat.{ℕ, ◌-◌, ◌<◌}
use native.Mathlib.Omega.{arith}
use lib.ListN.{get_or}
use Rattle.spec.specs.Bytes.{part}
use Rattle.spec.specs.Parity.{decode_block}
use Rattle.call_read.specs.Decode.{lost_block}
use Rattle.call_read.proofs.fill_lost.Goals as goal

pub decode_block-requires : goal.decode_block-requires
decode_block-requires c =
    let q = c.requires in
    let drive = subst (λ (x : ℕ). x < c.args.p.N) (sym c.place_drive-drive.ensures.0) q.image_len.2.drive_low in
    record { p_value = q.p_value; at_len = (q.bytes_len.0, q.image_len.1, drive); parts_within = λ k h n. omega (arith, q.bytes_len.1 k h n, q.image_len.0) }

pub returns : goal.returns
unfolding lost_block
returns c =
    let a = c.args in
    let drive = c.place_drive-drive in
    let block = c.place_block-s in
    c.decode_block.ensures
    ∙ (λ j. decode_block a.p a.gone (block.ensures.0 j - 1) (drive.ensures.0 j) (λ e. part (get_or a.bytes.now e 0) a.p.B a.image.now))
