-- `compact_entry`: G is from 1 to 256, so the remainder is below 256 and fits in a byte. Assumes nothing.
use mathlib.Core.Path.{refl}
use Prim.Native.Nat.{◌%◌, ◌<◌}
use native.Mathlib.Omega.{arith}
use native.Mathlib.Nat.{mod-lt}
use Rattle.spec.specs.Layout.{compact_entry}
use Rattle.law_basic.specs.Geometry.{ranged}
use Rattle.disk_shape.proofs.compact_entry.Goals as goal

pub nonzero_rem-result : goal.nonzero_rem-result
nonzero_rem-result c =
    let r = ranged c.args.p c.requires in
    let l : c.args.stripe % c.args.p.G < c.args.p.G = mod-lt c.args.stripe (omega (arith, r.group-low)) in omega arith

pub overflow_cast-result : goal.overflow_cast-result
overflow_cast-result c =
    let r = ranged c.args.p c.requires in
    let l : c.args.stripe % c.args.p.G < c.args.p.G = mod-lt c.args.stripe (omega (arith, r.group-low)) in omega arith

pub returns : goal.returns
unfolding compact_entry
returns c = refl
