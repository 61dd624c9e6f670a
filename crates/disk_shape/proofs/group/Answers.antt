-- `group`: G is at least 1, so the division has a value, and a quotient is not above the number divided. Assumes nothing.
use mathlib.Core.Path.{refl}
use native.Mathlib.Omega.{arith}
use native.Mathlib.Nat.{div-le_self}
use Rattle.spec.specs.Layout.{group}
use Rattle.law_basic.specs.Geometry.{ranged}
use Rattle.disk_shape.proofs.group.Goals as goal

pub nonzero_div-result : goal.nonzero_div-result
nonzero_div-result c = let r = ranged c.args.p c.requires in omega arith

pub returns : goal.returns
unfolding group
returns c = (refl, div-le_self c.args.stripe c.args.p.G)
