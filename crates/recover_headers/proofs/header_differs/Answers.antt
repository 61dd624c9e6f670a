-- `header_differs`: a missing drive makes the first part false; else the image's part is the zone's first chunk, compared with the header. Assumes nothing.
use mathlib.Core.Path.{◌≡◌, sym, ap, ap₂, ◌∙◌}
use mathlib.Core.Bool.{Bool, not, ◌&&◌}
use Prim.Native.Nat.{ℕ, ◌+◌, ◌-◌}
use native.Mathlib.Omega.{arith}
use lib.ListN.{take, drop}
use Rattle.spec.specs.Bytes.{part}
use Rattle.spec.specs.Drives.{chunk_of, zone_on, zero_spare, zones_in}
use Rattle.spec.specs.Faults.{same_chunk}
use Rattle.spec.specs.Layout.{header_block}
use Rattle.spec.specs.Params.{unit_len, place_of, place_byte}
use Rattle.law_basic.specs.Geometry.{ranged, capacity-low}
use Rattle.law_basic.specs.Splice.{part_lent}
use Rattle.recover_headers.specs.Fronts.{header_off}
use Rattle.law_basic.specs.Segs.{low_zone}
use Rattle.recover_headers.proofs.header_differs.Goals as goal

pub returns-then-has_drive : goal.returns-then-has_drive
returns-then-has_drive c =
    let a = c.args in
    sym (ap (λ (b : Bool). not b && header_off a.p a.image.now a.segment a.names a.serial.0 a.copied.0 a.drive) (sym c.has_drive.ensures ∙ c.if-has_drive.true))

pub block_byte-a-requires : goal.block_byte-a-requires
block_byte-a-requires c =
    let a = c.args in
    let q = c.requires in
    let low = low_zone a.p a.gone a.segment a.drive q.image_len.2 q.image_len.1 (sym c.has_drive.ensures ∙ c.if-has_drive.false) in
    record { p_value = q.p_value; drive_lt_n = (q.image_len.1, rw c.zone_on-zone.ensures low, omega (arith, capacity-low a.p (ranged a.p q.p_value))) }

pub returns : goal.returns
unfolding header_off
returns c =
    let a = c.args in
    let u = c.unit_len in
    let k = c.block_byte-a in
    let z = c.zone_on-zone in
    let if1 = c.if-has_drive in
    let has-drive = c.has_drive in
    let p = a.p in
    let im = a.image.now in
    let e : take (k.result + u.result - k.result) (drop k.result im) ≡ part (place_byte p (place_of p a.drive (zone_on a.segment a.drive) 0)) (unit_len p) im =
    part_lent k.result u.result im
    ∙ ap₂ (λ (x y : ℕ). part x y im) (k.ensures.0 ∙ ap (λ (x : ℕ). place_byte p (place_of p a.drive x 0)) z.ensures) u.ensures.0 in
    ap not (c.is_header.ensures ∙ (λ j. same_chunk (chunk_of p (e j)) (header_block p a.drive (zones_in p a.names) a.serial.0 a.copied.0) zero_spare))
    ∙ sym (ap (λ (b : Bool). not b && header_off p im a.segment a.names a.serial.0 a.copied.0 a.drive)
    (sym has-drive.ensures ∙ if1.false))
