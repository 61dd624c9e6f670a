-- `pointers_len`: N * Z is at most 8192, so four times that is at most 32768. Assumes nothing.
use mathlib.Core.Path.{refl}
use native.Mathlib.Omega.{arith}
use Rattle.spec.specs.Params.{pointers_len}
use Rattle.law_basic.specs.Geometry.{ranged, zones_all, pointers_high}
use Rattle.disk_shape.proofs.pointers_len.Goals as goal

pub overflow_mul-result : goal.overflow_mul-result
overflow_mul-result c = let r = ranged c.args.p c.requires in omega (arith, zones_all c.args.p r)

pub overflow_mul-result-2 : goal.overflow_mul-result-2
overflow_mul-result-2 c = let r = ranged c.args.p c.requires in omega (arith, zones_all c.args.p r)

pub returns : goal.returns
unfolding pointers_len
returns c = let r = ranged c.args.p c.requires in (refl, pointers_high c.args.p r)
