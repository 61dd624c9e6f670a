-- `footers`: `per_footer` is the divisor, at least 3; S from 1 to 65535 gives 1 to 21845 footers. Assumes nothing.
use mathlib.Core.Path.{◌≡◌, ap}
use Prim.Native.Nat.{ℕ, ◌+◌, ◌-◌, ◌/◌}
use native.Mathlib.Omega.{arith}
use Rattle.spec.specs.Params.{footers}
use Rattle.law_basic.specs.Geometry.{ranged, footers-low, footers_high}
use Rattle.disk_shape.proofs.footers.Goals as goal

pub overflow_add-result : goal.overflow_add-result
overflow_add-result c = let r = ranged c.args.p c.requires in omega arith

pub returns : goal.returns
unfolding footers
returns c =
    let p = c.args.p in
    let r = ranged p c.requires in
    let e : (p.S + c.per_footer-n.result - 1) / c.per_footer-n.result ≡ footers p = ap (λ (x : ℕ). (p.S + x - 1) / x) c.per_footer-n.ensures.0 in
    (e, omega (arith, footers-low p r), omega (arith, footers_high p r))
