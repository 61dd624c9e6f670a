-- `places`: N * Z is at most 8192 and the capacity at most 87381, so the product is at most 715825152. Assumes nothing.
use Prim.Native.Nat.{ℕ, ◌*◌}
use Rattle.law_basic.specs.Geometry.{prod_le, ranged, zones_all}
use mathlib.Core.Path.{ap}
use native.Mathlib.Omega.{arith}
use Rattle.call_reclaim_live.proofs.places.Goals as goal

pub overflow_mul-result : goal.overflow_mul-result
overflow_mul-result c = omega (arith, zones_all c.args.p (ranged c.args.p c.requires))

pub overflow_mul-result-2 : goal.overflow_mul-result-2
overflow_mul-result-2 c =
    let p = c.args.p in
    let r = ranged p c.requires in
    omega (arith, prod_le (p.N * p.Z) c.capacity.result 8192 87381 715825152 (zones_all p r) c.capacity.ensures.2 (omega arith))

pub returns : goal.returns
returns c =
    let p = c.args.p in
    let r = ranged p c.requires in
    (ap (λ (x : ℕ). p.N * p.Z * x) c.capacity.ensures.0, prod_le (p.N * p.Z) c.capacity.result 8192 87381 715825152 (zones_all p r) c.capacity.ensures.2 (omega arith))
