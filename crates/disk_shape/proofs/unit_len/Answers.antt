-- `unit_len`: the constant is the spare's length; B is from 64 to 4096. Assumes nothing.
use mathlib.Core.Path.{sym, ap}
use Prim.Native.Nat.{ℕ, ◌+◌}
use native.Mathlib.Omega.{arith}
use Rattle.spec.specs.Params.{unit_len}
use Rattle.law_basic.specs.Geometry.{ranged, spare_len_lem}
use Rattle.disk_shape.proofs.unit_len.Goals as goal

pub overflow_add-result : goal.overflow_add-result
overflow_add-result c = let r = ranged c.args.p c.requires in omega arith

pub returns : goal.returns
unfolding unit_len
returns c =
    let p = c.args.p in
    let r = ranged p c.requires in
    (ap (λ (n : ℕ). p.B + n) (sym spare_len_lem), omega (arith, r.block_low, spare_len_lem), omega (arith, r.block_high, spare_len_lem))
