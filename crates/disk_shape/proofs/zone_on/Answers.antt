-- `zone_on`: the drive is one of eight, and the zone stands at its index. Assumes nothing.
use mathlib.Core.Path.{sym}
use native.Mathlib.Omega.{arith}
use Rattle.law_basic.specs.Geometry.{ranged}
use Rattle.law_basic.specs.Segs.{zone_is}
use Rattle.disk_shape.proofs.zone_on.Goals as goal

pub offset_bounds-zones-drive : goal.offset_bounds-zones-drive
offset_bounds-zones-drive c = omega (arith, (ranged c.args.p c.requires.p_value).drives_high)

pub bounds-zones-drive : goal.bounds-zones-drive
bounds-zones-drive c = omega (arith, (ranged c.args.p c.requires.p_value).drives_high)

pub returns : goal.returns
returns c = sym (zone_is c.args.segment c.args.drive)
