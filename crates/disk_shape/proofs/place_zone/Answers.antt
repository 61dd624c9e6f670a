-- `place_zone`: `capacity` is the divisor; Z is at least 4, and a remainder is below it. Assumes nothing.
use mathlib.Core.Path.{ap}
use Prim.Native.Nat.{ℕ, ◌/◌, ◌%◌}
use native.Mathlib.Omega.{arith}
use native.Mathlib.Nat.{mod-lt}
use Rattle.spec.specs.Params.{place_zone}
use Rattle.law_basic.specs.Geometry.{ranged}
use Rattle.disk_shape.proofs.place_zone.Goals as goal

pub nonzero_rem-result : goal.nonzero_rem-result
nonzero_rem-result c = let r = ranged c.args.p c.requires in omega arith

pub returns : goal.returns
unfolding place_zone
returns c =
    let capacity = c.capacity-c in
    let args = c.args in
    let pre = c.requires in
    let p = args.p in
    let r = ranged p (pre) in
    let q = args.place.0 in
    (ap (λ (x : ℕ). q / x % p.Z) capacity.ensures.0, mod-lt (q / capacity.result) (omega (arith, r.zones_low)))
