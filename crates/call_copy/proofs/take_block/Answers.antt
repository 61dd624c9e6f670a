-- `take_block`: the block at q ends within the image (`place_within`), and copied to byte 0 it is the front of the buffer (`front_part`). Assumes nothing.
use Prim.Native.Nat.{ℕ, ◌+◌, ◌-◌}
use Rattle.spec.specs.Bytes.{part}
use Rattle.spec.specs.Params.{unit_len}
use Rattle.law_basic.specs.Geometry.{place_within}
use Rattle.law_basic.specs.Splice.{part_lent}
use Rattle.call_copy.specs.Copying.{front_part}
use lib.ListN.{take, drop}
use mathlib.Core.Path.{ap, ◌∙◌}
use native.Mathlib.Omega.{arith}
use Rattle.call_copy.proofs.take_block.Goals as goal

pub slice_bounds-copy_part-end : goal.slice_bounds-copy_part-end
unfolding unit_len
slice_bounds-copy_part-end c =
    let a = c.args in
    let place_byte = c.place_byte-at in
    let pre = c.requires in
    omega (arith, place_byte.ensures.0, place_within a.p a.q.0 pre.image_len.1, pre.image_len.0)

pub returns : goal.returns
unfolding unit_len
returns c =
    let a = c.args in
    let copy-part = c.copy_part in
    let place_byte = c.place_byte-at in
    let pre = c.requires in
    let at = place_byte.result in
    let e = place_byte.ensures.0 in
    front_part a.block.now copy-part.new.dst a.image.now (take (at + a.p.B - at) (drop at a.image.now)) at a.p.B copy-part.ensures (part_lent at a.p.B a.image.now)
    (omega (arith, e, place_within a.p a.q.0 pre.image_len.1, pre.image_len.0)) pre.image_len.2
    ∙ ap (λ (x : ℕ). part x a.p.B a.image.now) e
