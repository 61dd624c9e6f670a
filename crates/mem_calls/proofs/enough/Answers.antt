-- `enough`: all zones are, by the range of L; and so many that L is met (`stops_enough`). Assumes nothing.
use Prim.Native.Nat.{ℕ, ◌+◌, ◌-◌, ◌*◌, ◌/◌, ◌≤◌, ◌<◌}
use Rattle.spec.specs.Params.{most_with, most_addresses}
use Rattle.law_basic.specs.Geometry.{ranged, prod_le}
use Rattle.mem_calls.specs.Listed.{segment_low, stops_high, stops_enough}
use mathlib.Core.Path.{sym, subst}
use native.Mathlib.Omega.{arith}
use Rattle.mem_calls.proofs.enough.Goals as goal

pub returns-then-p-le224 : goal.returns-then-p-le224
unfolding most_addresses
returns-then-p-le224 c =
    let r = ranged c.args.p c.requires in
    (r.zones_low, omega arith, r.addresses_high)

pub overflow_mul-segment : goal.overflow_mul-segment
overflow_mul-segment c =
    let d = c.data_count in
    omega (arith, prod_le c.args.p.S d.result 65535 7 458745 (ranged c.args.p c.requires).stripes_high d.ensures.2 (omega arith))

pub overflow_sub-result : goal.overflow_sub-result
overflow_sub-result c =
    omega (arith, (ranged c.args.p c.requires).addresses_low)

pub nonzero_div-result : goal.nonzero_div-result
nonzero_div-result c =
    let p = c.args.p in
    subst (λ (x : ℕ). 0 < p.S * x) (sym c.data_count.ensures.0) (segment_low p (ranged p c.requires))

pub overflow_add-result : goal.overflow_add-result
overflow_add-result c =
    let p = c.args.p in
    let r = ranged p c.requires in
    omega (arith, subst (λ (x : ℕ). 4 + (p.L - 1) / (p.S * x) ≤ p.Z) (sym c.data_count.ensures.0) (stops_high p r), r.zones_high)

pub returns : goal.returns
returns c =
    let p = c.args.p in
    let r = ranged p c.requires in
    subst (λ (x : ℕ). (4 ≤ 4 + (p.L - 1) / (p.S * x)) × (4 + (p.L - 1) / (p.S * x) ≤ p.Z) × (p.L ≤ most_with p (4 + (p.L - 1) / (p.S * x))))
    (sym c.data_count.ensures.0) (omega arith, stops_high p r, stops_enough p r)
