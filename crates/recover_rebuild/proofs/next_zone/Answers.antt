-- `next_zone`: of the first z zones it is the next one; at Z of all. Assumes nothing.
use mathlib.Core.Path.{◌≡◌, subst}
use Prim.Native.Nat.{ℕ}
use native.Mathlib.Omega.{arith}
use Rattle.recover_rebuild.specs.Rising.{RisingNext, next_first}
use Rattle.recover_rebuild.proofs.next_zone.Goals as goal

pub loop-z-init : goal.loop-z-init
loop-z-init c =
    let a = c.args in
    (omega arith, next_first a.p.Z a.kept.now a.serials.now a.last.0)

pub sooner-next-requires : goal.sooner-next-requires
sooner-next-requires c =
    let pre = c.requires in
    let l = c.loop-z in
    (pre.0, pre.1, c.loop-z-test.true, l.invariant.1.upto)

pub loop-z-preserved : goal.loop-z-preserved
loop-z-preserved c =
    let l = c.loop-z in
    (omega (arith, c.loop-z-test.true), c.sooner-next.ensures.rising_next l.invariant.1)

pub returns : goal.returns
returns c =
    let a = c.args in
    let l = c.loop-z in
    let e : l.z ≡ a.p.Z = omega (arith, c.loop-z-test.false, l.invariant.0) in
    subst (λ (n : ℕ). RisingNext a.p.Z a.kept.now a.serials.now a.last.0 n l.next) e l.invariant.1
