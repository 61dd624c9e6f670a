-- `put`: block and spare one behind the other are one splice of both (`splice_next`) at the place of the pointer, which is raised by 1. Assumes nothing.
use mathlib.Core.Path.{◌≡◌, sym, ap, ap₂, ◌∙◌}
use mathlib.Core.List.{List, ◌++◌}
use Prim.Native.Nat.{ℕ, suc, ◌+◌, ◌≤◌}
use native.Mathlib.Omega.{arith}
use lib.ListN.{length}
use Rattle.spec.specs.Bytes.{splice}
use Rattle.spec.specs.Drives.{pointer_of, set_pointer}
use Rattle.spec.specs.Params.{unit_len, place_of, place_byte}
use Rattle.law_basic.specs.Geometry.{ranged, capacity_high}
use Rattle.law_basic.specs.Splice.{splice_next}
use Rattle.disk_zones.specs.Made.{put-disk}
use Rattle.disk_zones.proofs.put.Goals as goal

pub copy_part-requires : goal.copy_part-requires
unfolding unit_len
copy_part-requires c =
    let a = c.args in
    let block_byte = c.block_byte-at in
    let pre = c.requires in
    let p = a.p in
    let r = ranged p pre.p_value in
    let w = pre.whole in
    let h = pre.drive_lt_n in
    let g = pre.block_len in
    omega (arith, block_byte.ensures.1, w.image_long, g.0)

pub copy_part-requires-2 : goal.copy_part-requires-2
unfolding unit_len
copy_part-requires-2 c =
    let a = c.args in
    let copy-part = c.copy_part in
    let block_byte = c.block_byte-at in
    let pre = c.requires in
    let p = a.p in
    let r = ranged p pre.p_value in
    let w = pre.whole in
    let h = pre.drive_lt_n in
    let g = pre.block_len in
    omega (arith, block_byte.ensures.1, w.image_long, g.1, copy-part.auto.dst)

pub overflow_add-n : goal.overflow_add-n
overflow_add-n c =
    let a = c.args in
    let pointer = c.pointer-n in
    let pre = c.requires in
    let p = a.p in
    let r = ranged p pre.p_value in
    let w = pre.whole in
    let h = pre.drive_lt_n in
    omega (arith, pointer.ensures, h.2, capacity_high p r)

pub returns : goal.returns
unfolding unit_len
returns c =
    let a = c.args in
    let set-pointer = c.set_pointer in
    let copy-part2 = c.copy_part-2 in
    let copy-part = c.copy_part in
    let block_byte = c.block_byte-at in
    let pointer' = c.pointer-n in
    let pre = c.requires in
    let p = a.p in
    let r = ranged p pre.p_value in
    let w = pre.whole in
    let h = pre.drive_lt_n in
    let g = pre.block_len in
    let n : pointer'.result + 1 ≡ suc (pointer_of p a.pointers.now a.drive a.zone) = omega (arith, pointer'.ensures) in
    let at : block_byte.result ≡ place_byte p (place_of p a.drive a.zone (pointer_of p a.pointers.now a.drive a.zone)) =
    block_byte.ensures.0 ∙ ap (λ (x : ℕ). place_byte p (place_of p a.drive a.zone x)) pointer'.ensures in
    let b = a.block.now in
    let s = a.spare.now in
    let im = a.image.now in
    let m : block_byte.result + p.B ≡ block_byte.result + length b = ap (λ (x : ℕ). block_byte.result + x) (sym g.0) in
    let fits : block_byte.result + length b + length s ≤ length im = omega (arith, block_byte.ensures.1, w.image_long, g.0, g.1) in
    put-disk p a.drive a.zone b s im a.pointers.now copy-part2.new.dst set-pointer.new.pointers
    (copy-part2.ensures ∙ ap₂ (λ (x : List ℕ) (y : ℕ). splice x y s) copy-part.ensures m ∙ splice_next im block_byte.result b s fits ∙ ap (λ (x : ℕ). splice im x (b ++ s)) at)
    (set-pointer.ensures ∙ ap (set_pointer p a.pointers.now a.drive a.zone) n)
