-- `place_drive`: the divisors are above 0; two quotients are not above the place, which is below 2 ^ 32. Assumes nothing.
use mathlib.Core.Path.{ap}
use Prim.Native.Nat.{ℕ, ◌/◌, ◌<◌}
use native.Mathlib.Omega.{arith}
use borrow.Author.Rules.{rules}
use native.Mathlib.Nat.{div-le_self}
use Rattle.spec.specs.Params.{place_drive}
use Rattle.law_basic.specs.Geometry.{ranged}
use Rattle.disk_shape.proofs.place_drive.Goals as goal

pub nonzero_div-result-2 : goal.nonzero_div-result-2
nonzero_div-result-2 c = let r = ranged c.args.p c.requires in omega arith

pub returns : goal.returns
unfolding place_drive
returns c =
    let capacity = c.capacity-c in
    let args = c.args in
    let p = args.p in
    let q = args.place.0 in
    let f : q < 4294967296 = search rules in
    (ap (λ (x : ℕ). q / x / p.Z) capacity.ensures.0, omega (arith, div-le_self (q / capacity.result) p.Z, div-le_self q capacity.result))
