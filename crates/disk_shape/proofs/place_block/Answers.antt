-- `place_block`: `capacity` is the divisor, 3 to 87381, and a remainder is below it. Assumes nothing.
use mathlib.Core.Path.{ap}
use Prim.Native.Nat.{ℕ, ◌%◌, ◌<◌}
use native.Mathlib.Omega.{arith}
use native.Mathlib.Nat.{mod-lt}
use Rattle.spec.specs.Params.{place_block}
use Rattle.disk_shape.proofs.place_block.Goals as goal

pub returns : goal.returns
unfolding place_block
returns c =
    let q = c.args.place.0 in
    let e = c.capacity-c.ensures.0 in
    let l : q % c.capacity-c.result < c.capacity-c.result = mod-lt q (omega arith) in
    (ap (λ (x : ℕ). q % x) e, omega (arith, l, e), omega arith)
