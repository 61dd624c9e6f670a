-- `addresses_len`: L is at most 468378645 (`addresses_all`), so that four times that fits. Assumes nothing.
use mathlib.Core.Path.{refl}
use native.Mathlib.Omega.{arith}
use Rattle.spec.specs.Params.{addresses_len}
use Rattle.law_basic.specs.Geometry.{ranged, addresses_all}
use Rattle.disk_shape.proofs.addresses_len.Goals as goal

pub overflow_mul-result : goal.overflow_mul-result
overflow_mul-result c = let r = ranged c.args.p c.requires in omega (arith, addresses_all c.args.p r)

pub returns : goal.returns
unfolding addresses_len
returns c = let r = ranged c.args.p c.requires in (refl, omega (arith, addresses_all c.args.p r))
