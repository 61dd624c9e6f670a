-- `asked`: the product is at most 524280 * 468378646, and a quotient is no more than what it divides. Assumes nothing.
-- the product
use Prim.Native.Nat.{ℕ, ◌+◌, ◌*◌, ◌≤◌}
use Rattle.law_basic.specs.Geometry.{prod_le}
use native.Mathlib.Nat.{div-le_self}
use native.Mathlib.Omega.{arith}
use Rattle.call_reclaim_records.proofs.asked.Goals as goal

within : (records n : ℕ) → records ≤ 524280 → n ≤ 468378645 → records * (n + 1) ≤ 245561556524880
within records n h k = prod_le records (n + 1) 524280 468378646 245561556524880 h (omega arith) (omega arith)

pub overflow_mul-result : goal.overflow_mul-result
overflow_mul-result c =
    let a = c.args in
    record { fits = omega (arith, within a.records a.n c.requires.0 c.requires.1) }

pub returns : goal.returns
returns c =
    let a = c.args in
    omega (arith, within a.records a.n c.requires.0 c.requires.1, div-le_self (a.records * (a.n + 1)) a.entries)
