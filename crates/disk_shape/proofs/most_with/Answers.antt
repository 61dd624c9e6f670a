-- `most_with`: at most 1021 zones count, of at most 65535 stripes with at most 7 data blocks. Assumes nothing.
use Rattle.std.proofs.Common.{ap₂, ℕ, ◌*◌, arith}
use Rattle.spec.specs.Params.{most_with}
use Rattle.law_basic.specs.Geometry.{prod_le, ranged}
use Rattle.disk_shape.proofs.most_with.Goals as goal

pub overflow_mul-result : goal.overflow_mul-result
overflow_mul-result c =
    let a = c.args in
    let r = ranged a.p c.requires.p_value in
    omega (arith, prod_le c.saturating_sub.result a.p.S 1021 65535 66911235 (omega (arith, r.zones_high, c.requires.zones_le_z, c.saturating_sub.ensures)) r.stripes_high (omega arith))

pub overflow_mul-result-2 : goal.overflow_mul-result-2
overflow_mul-result-2 c =
    let a = c.args in
    let z = c.saturating_sub.result in
    let r = ranged a.p c.requires.p_value in
    let k = prod_le z a.p.S 1021 65535 66911235 (omega (arith, r.zones_high, c.requires.zones_le_z, c.saturating_sub.ensures)) r.stripes_high (omega arith) in
    omega (arith, prod_le (z * a.p.S) c.data_count.result 66911235 7 468378645 k c.data_count.ensures.2 (omega arith))

pub returns : goal.returns
unfolding most_with
returns c =
    let a = c.args in
    let z = c.saturating_sub.result in
    let r = ranged a.p c.requires.p_value in
    let k = prod_le z a.p.S 1021 65535 66911235 (omega (arith, r.zones_high, c.requires.zones_le_z, c.saturating_sub.ensures)) r.stripes_high (omega arith) in (
      ap₂ (λ (x y : ℕ). x * a.p.S * y) c.saturating_sub.ensures c.data_count.ensures.0,
      prod_le (z * a.p.S) c.data_count.result 66911235 7 468378645 k c.data_count.ensures.2 (omega arith),
    )
