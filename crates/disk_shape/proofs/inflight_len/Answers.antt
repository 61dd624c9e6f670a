-- `inflight_len`: N is at most 8 and B at most 4096, so the product is at most 262144 (`inflight_high`). Assumes nothing.
use mathlib.Core.Path.{refl}
use native.Mathlib.Omega.{arith}
use Rattle.spec.specs.Params.{inflight_len}
use Rattle.law_basic.specs.Geometry.{ranged, inflight_high}
use Rattle.disk_shape.proofs.inflight_len.Goals as goal

pub overflow_mul-result : goal.overflow_mul-result
overflow_mul-result c = let r = ranged c.args.p c.requires in omega arith

pub overflow_mul-result-2 : goal.overflow_mul-result-2
unfolding inflight_len
overflow_mul-result-2 c =
    let args = c.args in
    let r = ranged args.p c.requires in omega (arith, inflight_high args.p r)

pub returns : goal.returns
unfolding inflight_len
returns c =
    let args = c.args in
    let r = ranged args.p c.requires in (refl, inflight_high args.p r)
