-- `read_serials`: zone by zone the array has the serials (`set_more`), and keeps its length. The header's byte goes along. Assumes nothing.
use mathlib.Core.Path.{sym, ap, ◌∙◌}
use Prim.Native.Nat.{ℕ, ◌+◌, ◌<◌}
use native.Mathlib.Omega.{arith}
use lib.ListN.{length-set}
use Rattle.spec.specs.Drives.{view_of}
use Rattle.spec.specs.Params.{capacity}
use Rattle.spec.specs.Segments.{low_drive, serial_in}
use Rattle.law_basic.specs.Geometry.{ranged, capacity-low}
use Rattle.disk_gather.specs.Found.{set_more, serial_bytes, head_step, found_header_room}
use Rattle.disk_gather.proofs.read_serials.Goals as goal

pub block_byte-at-requires-clause-drive_lt_n : goal.block_byte-at-requires-clause-drive_lt_n
block_byte-at-requires-clause-drive_lt_n c =
    let r = ranged c.args.p c.requires.p_value in
    let k : 0 < capacity c.args.p = let x = capacity-low c.args.p r in omega (arith, x) in
    (c.low_drive-low.ensures.1, omega (arith, r.zones_low), k)

pub serial_here-s-requires-clause-p_in_bounds : goal.serial_here-s-requires-clause-p_in_bounds
serial_here-s-requires-clause-p_in_bounds c =
    let a = c.args in
    let l = c.loop-z in
    let low = c.low_drive-low in found_header_room a.p low.result l.z l.at a.image.now
    (ranged a.p c.requires.p_value) low.ensures.1 c.loop-z-test.true l.invariant.2 c.requires.image_len.0

pub overflow_add-at : goal.overflow_add-at
overflow_add-at c =
    let a = c.args in
    let l = c.loop-z in
    let low = c.low_drive-low in
    let k = found_header_room a.p low.result l.z l.at a.image.now (ranged a.p c.requires.p_value) low.ensures.1 c.loop-z-test.true l.invariant.2 c.requires.image_len.0 in
    omega (arith, k.1, c.zone_len-step.ensures.1)

pub loop-z-preserved : goal.loop-z-preserved
loop-z-preserved c =
    let a = c.args in
    let p = a.p in
    let im = a.image.now in
    let l = c.loop-z in
    let s = c.serial_here-s.result.0 in
    let low = c.low_drive-low in
    let h = c.loop-z-test.true in (
      omega (arith, h),
      length-set l.out l.z s ∙ l.invariant.1,
      (λ j. l.invariant.2 j + c.zone_len-step.ensures.0 j) ∙ sym (head_step p low.result l.z),
      λ off ps k. set_more l.out l.z s 0 (serial_in p (view_of p off im ps) (low_drive p a.gone)) (omega (arith, l.invariant.1, h, c.requires.image_len.1)) (l.invariant.3 off ps k)
          (c.serial_here-s.ensures ∙ serial_bytes p off im ps c.requires.image_len.0 k low.result l.z low.ensures.1 h (ranged p c.requires.p_value) l.at l.invariant.2
          ∙ ap (λ (d : ℕ). serial_in p (view_of p off im ps) d l.z) low.ensures.0),
    )

pub returns : goal.returns
returns c =
    let l = c.loop-z in
    λ off ps k. (omega (arith, l.invariant.1, c.requires.image_len.1), λ j i. l.invariant.3 off ps k j (omega (arith, i, c.loop-z-test.false)))
