-- `serial_at`: the header of drive 0's zone of the segment. Assumes nothing.
use Prim.Native.Nat.{ℕ}
use Rattle.spec.specs.Drives.{view_of}
use Rattle.spec.specs.Segments.{serial_in, header_at, serial_at}
use Rattle.law_basic.specs.Geometry.{ranged}
use mathlib.Core.Path.{ap, ◌∙◌}
use native.Mathlib.Omega.{arith}
use Rattle.call_land_table.proofs.serial_at.Goals as goal

pub zone_on-requires : goal.zone_on-requires
zone_on-requires c =
    let pre = c.requires in record { p_value = pre.p_value; drive_lt_n = omega (arith, (ranged c.args.p pre.p_value).drives_low) }

pub serial_in-requires : goal.serial_in-requires
serial_in-requires c =
    let q = c.requires in
    let p = c.args.p in record { p_value = q.p_value; image_len = (q.image_len.0, omega (arith, (ranged p q.p_value).drives_low), omega (arith, c.zone_on.ensures, q.image_len.1)) }

pub returns : goal.returns
unfolding serial_at serial_in header_at
returns c off ps h =
    let a = c.args in
    c.serial_in.ensures off ps h ∙ ap (λ (x : ℕ). serial_in a.p (view_of a.p off a.image.now ps) 0 x) c.zone_on.ensures
