-- `put_header`: the part lent to `write_header` lies at the place of the pointer, so the image is spliced there; the pointer is raised by 1. Assumes nothing.
use mathlib.Core.Path.{◌≡◌, sym, ap, ap₂, ◌∙◌}
use mathlib.Core.List.{◌++◌}
use Prim.Native.Nat.{ℕ, suc, ◌+◌, ◌-◌}
use native.Mathlib.Omega.{arith}
use lib.ListN.{length, take, drop}
use Rattle.spec.specs.Bytes.{splice}
use Rattle.spec.specs.Drives.{pointer_of, set_pointer, zero_spare, zones_in}
use Rattle.spec.specs.Layout.{header_block}
use Rattle.spec.specs.Params.{place_of, place_byte}
use Rattle.law_basic.specs.Geometry.{ranged, capacity_high}
use Rattle.law_basic.specs.Splice.{splice_lent}
use Rattle.law_basic.specs.Segs.{zones_in_long}
use Rattle.disk_zones.specs.Made.{put-disk, header_unit}
use Rattle.disk_zones.proofs.put_header.Goals as goal

pub overflow_add-n : goal.overflow_add-n
overflow_add-n c =
    let a = c.args in
    let pointer = c.pointer-n in
    let pre = c.requires in
    let p = a.p in
    let r = ranged p pre.p_value in
    let w = pre.whole in
    let h = pre.drive_lt_n in
    omega (arith, pointer.ensures, h.2, capacity_high p r)

pub returns : goal.returns
returns c =
    let a = c.args in
    let set-pointer = c.set_pointer in
    let write-header = c.write_header in
    let unit-len = c.unit_len in
    let block_byte = c.block_byte-at in
    let pointer' = c.pointer-n in
    let pre = c.requires in
    let p = a.p in
    let r = ranged p pre.p_value in
    let w = pre.whole in
    let h = pre.drive_lt_n in
    let n : pointer'.result + 1 ≡ suc (pointer_of p a.pointers.now a.drive a.zone) = omega (arith, pointer'.ensures) in
    let at : block_byte.result ≡ place_byte p (place_of p a.drive a.zone (pointer_of p a.pointers.now a.drive a.zone)) =
    block_byte.ensures.0 ∙ ap (λ (x : ℕ). place_byte p (place_of p a.drive a.zone x)) pointer'.ensures in
    let im = a.image.now in
    let b = header_block p a.drive (zones_in p a.segment) a.serial.0 a.copied.0 in
    let t = block_byte.result in
    let u = unit-len.result in
    let l : length write-header.new.dst ≡ u =
    ap length write-header.ensures
    ∙ header_unit p r a.drive (zones_in p a.segment) a.serial.0 a.copied.0 (zones_in_long p a.segment)
    ∙ sym unit-len.ensures.0 in
    put-disk p a.drive a.zone b zero_spare im a.pointers.now (take t im ++ (write-header.new.dst ++ drop (t + u - t) (drop t im))) set-pointer.new.pointers
    (splice_lent t u im write-header.new.dst l ∙ ap₂ (splice im) at write-header.ensures)
    (set-pointer.ensures ∙ ap (set_pointer p a.pointers.now a.drive a.zone) n)
