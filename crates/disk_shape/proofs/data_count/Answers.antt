-- `data_count`: N is at least 3 and there are at most two parities, so the subtraction stays above 0; its range is a law. Assumes nothing.
use mathlib.Core.Path.{◌≡◌, ap}
use Prim.Native.Nat.{ℕ, ◌-◌}
use native.Mathlib.Omega.{arith}
use Rattle.spec.specs.Params.{data_count}
use Rattle.law_basic.specs.Geometry.{ranged, data_count-low, data_count_high}
use Rattle.disk_shape.proofs.data_count.Goals as goal

pub overflow_sub-result : goal.overflow_sub-result
overflow_sub-result c = let r = ranged c.args.p c.requires in omega (arith, r.drives_low, c.parity_count.ensures.2)

pub returns : goal.returns
unfolding data_count
returns c =
    let p = c.args.p in
    let r = ranged p c.requires in
    let e : p.N - c.parity_count.result ≡ data_count p = ap (λ (k : ℕ). p.N - k) c.parity_count.ensures.0 in
    (e, omega (arith, e, data_count-low p r), omega (arith, e, data_count_high p r))
