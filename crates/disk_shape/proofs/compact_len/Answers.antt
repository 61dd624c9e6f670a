-- `compact_len`: N * Z is at most 8192 and the product with S at most 536862720 (`compact_high`). Assumes nothing.
use mathlib.Core.Path.{refl}
use native.Mathlib.Omega.{arith}
use Rattle.spec.specs.Params.{compact_len}
use Rattle.law_basic.specs.Geometry.{ranged, zones_all, compact_high}
use Rattle.disk_shape.proofs.compact_len.Goals as goal

pub overflow_mul-result : goal.overflow_mul-result
overflow_mul-result c = let r = ranged c.args.p c.requires in omega (arith, zones_all c.args.p r)

pub overflow_mul-result-2 : goal.overflow_mul-result-2
unfolding compact_len
overflow_mul-result-2 c =
    let args = c.args in
    let r = ranged args.p c.requires in omega (arith, compact_high args.p r)

pub returns : goal.returns
unfolding compact_len
returns c =
    let args = c.args in
    let r = ranged args.p c.requires in (refl, compact_high args.p r)
