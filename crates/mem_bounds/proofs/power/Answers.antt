-- `power`: 2 ^ k is at most 2 ^ 8, so that the shift loses nothing. Assumes nothing.
use mathlib.Core.Path.{◌∙◌}
use native.Mathlib.Omega.{arith}
use Prim.Native.Nat.{◌^◌, ◌≤◌}
use native.Mathlib.Nat.{one-mul, mod-eq_of_lt, pow-le-pow_right}
use lib.Dec.{lit<}
use Rattle.mem_bounds.proofs.power.Goals as goal

pub returns : goal.returns
returns c =
    let k = c.args.k in
    let p : 2 ^ k ≤ 2 ^ 8 = pow-le-pow_right (lit< tt) {i = k} {j = 8} c.requires in
    mod-eq_of_lt (omega arith) ∙ one-mul (2 ^ k)
