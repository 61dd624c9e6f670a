-- `any_sealed`: some segment from g on is sealed just when any is; a found one ends it, one passed drops off. Assumes nothing.
-- a segment from g on is sealed just if any is
use Rattle.law_scans.specs.Scans.{any_found, any_passed, any-ended, any-start}
use lib.ListN.{get_or}
use mathlib.Core.Bool.{false}
use mathlib.Core.Path.{sym, ◌∙◌}
use native.Mathlib.Omega.{arith}
use Rattle.call_reclaim_victim.proofs.any_sealed.Goals as goal

pub loop-g-init : goal.loop-g-init
loop-g-init c = (omega arith, any-start (λ k. get_or c.args.sealed.now k false) c.args.p.Z)

pub bounds-sealed-g : goal.bounds-sealed-g
bounds-sealed-g c = omega (arith, c.loop-g-test.true, c.requires)

pub returns-then-sealed-g : goal.returns-then-sealed-g
returns-then-sealed-g c =
    let a = c.args in
    let l = c.loop-g in
    sym (any_found (λ k. get_or a.sealed.now k false) l.g a.p.Z c.loop-g-test.true c.if-sealed-g.true) ∙ l.invariant.1

pub loop-g-preserved : goal.loop-g-preserved
loop-g-preserved c =
    let a = c.args in
    let l = c.loop-g in
    let u = c.loop-g-test.true in
    (omega (arith, u), sym (any_passed (λ k. get_or a.sealed.now k false) l.g a.p.Z u c.if-sealed-g.false) ∙ l.invariant.1)

pub returns : goal.returns
returns c =
    let a = c.args in
    let l = c.loop-g in
    sym (any-ended (λ k. get_or a.sealed.now k false) l.g a.p.Z (omega (arith, c.loop-g-test.false))) ∙ l.invariant.1
