-- `same`: off 0: a equals b iff what follows i does; else they differ. One turn adds the bits in which bytes i differ. Unequal lengths end it. Assumes nothing.
use mathlib.Core.Path.{refl, sym}
use native.Mathlib.Omega.{arith}
use Rattle.law_basic.specs.Ranges.{same_list_long}
use Rattle.disk_blocks.specs.Same.{comparing_next, compared}
use Rattle.disk_blocks.proofs.same.Goals as goal

pub returns-then-a-b : goal.returns-then-a-b
returns-then-a-b c = sym (same_list_long c.args.a.now c.args.b.now c.if-a-b.true)

pub loop-i-init : goal.loop-i-init
loop-i-init c = record { upto = omega arith; long = c.if-a-b.false; equal = λ e. refl; differ = λ n. absurd (n refl) }

pub bounds-b-i : goal.bounds-b-i
bounds-b-i c = omega (arith, c.loop-i-test.true, c.loop-i.invariant.long)

pub loop-i-preserved : goal.loop-i-preserved
loop-i-preserved c =
    let l = c.loop-i in
    let a = c.args in
    comparing_next a.a.now a.b.now l.off l.i l.invariant c.loop-i-test.true

pub returns : goal.returns
returns c =
    let l = c.loop-i in
    let a = c.args in
    compared a.a.now a.b.now l.off l.i l.invariant (omega arith)
