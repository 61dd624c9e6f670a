-- `spare_byte`: the spare is B bytes behind the start of its block; the block with its spare ends inside the image. Assumes nothing.
use mathlib.Core.Path.{ap}
use Prim.Native.Nat.{ℕ, ◌+◌}
use native.Mathlib.Omega.{arith}
use Rattle.spec.specs.Params.{unit_len}
use Rattle.law_basic.specs.Geometry.{ranged, image_high}
use Rattle.disk_stored.proofs.spare_byte.Goals as goal

pub overflow_add-result : goal.overflow_add-result
overflow_add-result c = omega (arith, c.begins.ensures.2, (ranged c.args.p c.requires.p_value).block_high)

pub returns : goal.returns
unfolding unit_len
returns c =
    let p = c.args.p in
    let r = ranged p c.requires.p_value in
    let e = c.begins.ensures in
    (ap (λ (x : ℕ). x + p.B) e.0, omega (arith, e.1), omega (arith, e.1, image_high p r))
