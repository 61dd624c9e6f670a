-- `serial_no`: the drive and zone of a number are in range. Assumes nothing.
use native.Mathlib.Omega.{arith}
use Rattle.law_basic.specs.Geometry.{ranged}
use Rattle.recover_drop.specs.Dropped.{serial_no, number_drive, number_zone}
use Rattle.recover_drop.proofs.serial_no.Goals as goal

pub nonzero_div-i : goal.nonzero_div-i
nonzero_div-i c = omega (arith, (ranged c.args.p c.requires.p_value).zones_low)

pub nonzero_rem-i : goal.nonzero_rem-i
nonzero_rem-i c = omega (arith, (ranged c.args.p c.requires.p_value).zones_low)

pub serial_in-requires : goal.serial_in-requires
serial_in-requires c =
    let a = c.args in
    let q = c.requires in
    let r = ranged a.p q.p_value in record { p_value = q.p_value; image_len = (q.image_len.0, number_drive a.p r a.i q.image_len.1, number_zone a.p r a.i) }

pub returns : goal.returns
unfolding serial_no
returns c = c.serial_in.ensures
