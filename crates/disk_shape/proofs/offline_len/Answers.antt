-- `offline_len`: N * Z is at most 8192. Assumes nothing.
use mathlib.Core.Path.{refl}
use native.Mathlib.Omega.{arith}
use Rattle.spec.specs.Params.{offline_len}
use Rattle.law_basic.specs.Geometry.{ranged, zones_all, offline_high}
use Rattle.disk_shape.proofs.offline_len.Goals as goal

pub overflow_mul-result : goal.overflow_mul-result
overflow_mul-result c = let r = ranged c.args.p c.requires in omega (arith, zones_all c.args.p r)

pub returns : goal.returns
unfolding offline_len
returns c = let r = ranged c.args.p c.requires in (refl, offline_high c.args.p r)
