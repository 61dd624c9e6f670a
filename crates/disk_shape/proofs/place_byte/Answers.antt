-- `place_byte`: the place is below 2 ^ 32 and a unit at most the longest block with its spare, which bounds the product. Assumes nothing.
use mathlib.Core.Path.{ap}
use Prim.Native.Nat.{ℕ, ◌+◌, ◌*◌, ◌≤◌, ◌<◌}
use native.Mathlib.Omega.{arith}
use borrow.Author.Rules.{rules}
use Rattle.spec.specs.Params.{spare_len, place_byte}
use Rattle.law_basic.specs.Geometry.{prod_le, spare_len_lem}
use Rattle.disk_shape.proofs.place_byte.Goals as goal

pub overflow_mul-result : goal.overflow_mul-result
overflow_mul-result c =
    let q = c.args.place.0 in
    let f : q < 4294967296 = search rules in
    let m : q * c.unit_len.result ≤ 17678085386220 = prod_le q c.unit_len.result 4294967295 (4096 + spare_len) 17678085386220 (omega arith) (omega arith) (omega (arith, spare_len_lem)) in
    omega arith

pub returns : goal.returns
unfolding place_byte
returns c =
    let q = c.args.place.0 in
    let f : q < 4294967296 = search rules in
    let m : q * c.unit_len.result ≤ 17678085386220 = prod_le q c.unit_len.result 4294967295 (4096 + spare_len) 17678085386220 (omega arith) (omega arith) (omega (arith, spare_len_lem)) in
    (ap (λ (x : ℕ). q * x) c.unit_len.ensures.0, omega arith)
