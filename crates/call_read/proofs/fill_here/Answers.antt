-- `fill_here`: the block at q ends within the image (`place_in_image`), and the part lent is the place's bytes. Assumes nothing.
use Prim.Native.Nat.{ℕ}
use Rattle.spec.specs.Bytes.{part}
use Rattle.spec.specs.Params.{unit_len}
use Rattle.law_basic.specs.Splice.{part_lent}
use Rattle.call_read.specs.Placed.{place_in_image}
use mathlib.Core.Path.{ap, ◌∙◌}
use native.Mathlib.Omega.{arith}
use Rattle.call_read.proofs.fill_here.Goals as goal

pub slice_bounds-copy-end : goal.slice_bounds-copy-end
unfolding unit_len
slice_bounds-copy-end c =
    let place_byte = c.place_byte-at in
    let args = c.args in
    let pre = c.requires in
    omega (arith, place_byte.ensures.0, place_in_image args.p args.q.0 pre.p_value pre.image_len.2, pre.image_len.0)

pub returns : goal.returns
returns c =
    let a = c.args in
    let copy = c.copy in
    let place_byte = c.place_byte-at in
    copy.ensures ∙ part_lent place_byte.result a.p.B a.image.now ∙ ap (λ (x : ℕ). part x a.p.B a.image.now) place_byte.ensures.0
