-- Parameters in range: what follows for sizes and places.
use Rattle.std.specs.Prelude.{◌≡◌, ℕ, ◌+◌, ◌*◌, ◌^◌, ◌≤◌, ◌<◌}
use Rattle.std.proofs.Math.Path.{refl}
use Rattle.std.proofs.Math.Nat.{mul-le-mul}
use native.Mathlib.Omega.{arith}
use Rattle.spec.specs.declared.Params.{Params}
use Rattle.spec.specs.Counts.{never_place}
use Rattle.spec.specs.Params.{footers, capacity, place_of}
use Rattle.law_basic.specs.Geometry.{Ranged, footers-low, capacity_high}

module _ (p : Params) (r : Ranged p) where
  pub capacity_is : capacity p ≡ 1 + p.S + footers p
  unfolding capacity
  capacity_is = refl

  -- the pointer of a zone whose data are all stored is below the capacity
  pub capacity_over : p.S + 2 ≤ capacity p
  capacity_over = omega (arith, capacity_is, footers-low p r)

  pub capacity_word : capacity p < 256 ^ 4
  capacity_word = omega (arith, capacity_high p r)

  -- places
  pub place_low : (d z b : ℕ) → d < p.N → z < p.Z → b < capacity p → place_of p d z b < never_place
  unfolding place_of
  place_low d z b hd hz hb =
      let a : d * p.Z + z < 8 * 1024 =
      let x : d * p.Z ≤ 7 * 1024 = mul-le-mul (let y : d ≤ 7 = omega (arith, r.drives_high) in y) r.zones_high in
      omega (arith, r.zones_high) in
      let c : (d * p.Z + z) * capacity p ≤ 8191 * 87381 = mul-le-mul (let y : d * p.Z + z ≤ 8191 = omega arith in y) (capacity_high p r) in
      omega (arith, capacity_high p r)
