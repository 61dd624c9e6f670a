-- `capacity`: `footers` is the count in the sum; S from 1 to 65535 and that count bound the sum from 3 to 87381. Assumes nothing.
use mathlib.Core.Path.{◌≡◌, ap}
use Prim.Native.Nat.{ℕ, ◌+◌}
use native.Mathlib.Omega.{arith}
use Rattle.spec.specs.Params.{capacity}
use Rattle.law_basic.specs.Geometry.{ranged, capacity-low, capacity_high}
use Rattle.disk_shape.proofs.capacity.Goals as goal

pub overflow_add-result : goal.overflow_add-result
overflow_add-result c = let r = ranged c.args.p c.requires in omega arith

pub overflow_add-result-2 : goal.overflow_add-result-2
overflow_add-result-2 c = let r = ranged c.args.p c.requires in omega arith

pub returns : goal.returns
unfolding capacity
returns c =
    let p = c.args.p in
    let r = ranged p c.requires in
    let e : 1 + p.S + c.footers.result ≡ capacity p = ap (λ (x : ℕ). 1 + p.S + x) c.footers.ensures.0 in
    (e, omega (arith, capacity-low p r), omega (arith, capacity_high p r))
