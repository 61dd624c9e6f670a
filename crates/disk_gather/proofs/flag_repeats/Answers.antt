-- `flag_repeats`: zone by zone the array has the flags (`set_more`), and keeps its length. The header's byte goes along. Assumes nothing.
use mathlib.Core.Path.{sym, ap, ◌∙◌}
use mathlib.Core.Bool.{Bool, false}
use Prim.Native.Nat.{ℕ, ◌+◌, ◌<◌}
use native.Mathlib.Omega.{arith}
use lib.Dec.{leb}
use lib.ListN.{length, length-set}
use Rattle.spec.specs.Drives.{view_of}
use Rattle.spec.specs.Lists.{any}
use Rattle.spec.specs.Params.{capacity, present}
use Rattle.spec.specs.Segments.{low_drive, serial_in, bearing}
use Rattle.law_basic.specs.Geometry.{ranged, capacity-low}
use Rattle.disk_gather.specs.Found.{set_more, serial_bytes, head_step, found_header_room}
use Rattle.disk_gather.proofs.flag_repeats.Goals as goal

pub block_byte-at-requires-clause-drive_lt_n : goal.block_byte-at-requires-clause-drive_lt_n
block_byte-at-requires-clause-drive_lt_n c =
    let i = c.args.index.now in
    let r = ranged i.p i.sound in
    let k : 0 < capacity i.p = let x = capacity-low i.p r in omega (arith, x) in
    (i.lowest.1, omega (arith, r.zones_low), k)

pub serial_here-s-requires-clause-p_in_bounds : goal.serial_here-s-requires-clause-p_in_bounds
serial_here-s-requires-clause-p_in_bounds c =
    let i = c.args.index.now in
    let l = c.loop-z in found_header_room i.p i.low l.z l.at c.args.image.now (ranged i.p i.sound) i.lowest.1 c.loop-z-test.true l.invariant.1 c.requires.image_len

pub overflow_add-at : goal.overflow_add-at
overflow_add-at c =
    let i = c.args.index.now in
    let l = c.loop-z in
    let k = found_header_room i.p i.low l.z l.at c.args.image.now (ranged i.p i.sound) i.lowest.1 c.loop-z-test.true l.invariant.1 c.requires.image_len in
    omega (arith, k.1, c.zone_len-step.ensures.1)

pub loop-z-preserved : goal.loop-z-preserved
loop-z-preserved c =
    let i = c.args.index.now in
    let p = i.p in
    let im = c.args.image.now in
    let l = c.loop-z in
    let r = c.is_repeated in
    let h = c.loop-z-test.true in
    let zl = c.zone_len-step.ensures.0 in (
      length-set l.out l.z r.result ∙ l.invariant.0,
      (λ j. l.invariant.1 j + zl j) ∙ sym (head_step p i.low l.z),
      λ off ps k x.
          let v = view_of p off im ps in
          let f : ℕ → Bool = λ s. any (λ d. leb 2 (length (bearing p v d s))) (present p i.gone) in
          let e = c.serial_here-s.ensures ∙ serial_bytes p off im ps c.requires.image_len k i.low l.z i.lowest.1 h (ranged p i.sound) l.at l.invariant.1
          ∙ ap (λ (d : ℕ). serial_in p v d l.z) i.lowest.0 in
          set_more l.out l.z r.result false (λ j. f (serial_in p v (low_drive p i.gone) j)) (omega (arith, l.invariant.0, h, c.requires.z_in_bounds))
          (l.invariant.2 off ps k x) (r.ensures v x ∙ ap f e),
    )

pub returns : goal.returns
returns c =
    let l = c.loop-z in
    λ off ps k x j i. l.invariant.2 off ps k x j (omega (arith, i, c.loop-z-test.false))
