-- `parity_drive`: stripe % N is below N, so that nothing is taken from too little and the result is below N. Assumes nothing.
use mathlib.Core.Path.{refl}
use Prim.Native.Nat.{◌%◌, ◌<◌}
use native.Mathlib.Omega.{arith}
use native.Mathlib.Nat.{mod-lt}
use Rattle.spec.specs.Layout.{parity_drive}
use Rattle.law_basic.specs.Geometry.{ranged}
use Rattle.disk_shape.proofs.parity_drive.Goals as goal

pub overflow_sub-result : goal.overflow_sub-result
overflow_sub-result c =
    let r = ranged c.args.p c.requires in
    let l : c.args.stripe % c.args.p.N < c.args.p.N = mod-lt c.args.stripe (omega (arith, r.drives_low)) in omega arith

pub nonzero_rem-result : goal.nonzero_rem-result
nonzero_rem-result c =
    let args = c.args in
    let pre = c.requires in
    let r = ranged args.p (pre) in let l : args.stripe % args.p.N < args.p.N = mod-lt args.stripe (omega (arith, r.drives_low)) in omega arith

pub overflow_sub-result-2 : goal.overflow_sub-result-2
overflow_sub-result-2 c =
    let args = c.args in
    let pre = c.requires in
    let r = ranged args.p (pre) in let l : args.stripe % args.p.N < args.p.N = mod-lt args.stripe (omega (arith, r.drives_low)) in omega arith

pub returns : goal.returns
unfolding parity_drive
returns c =
    let args = c.args in
    let pre = c.requires in
    let r = ranged args.p (pre) in let l : args.stripe % args.p.N < args.p.N = mod-lt args.stripe (omega (arith, r.drives_low)) in (refl, omega arith)
