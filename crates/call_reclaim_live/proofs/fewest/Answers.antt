-- `fewest`: best is the lowest of the sealed segments below g with the least count; a turn weighs g (`least_turn`). Assumes nothing.
use Prim.Native.Nat.{ℕ}
use Rattle.std.specs.Prelude.{unwrap_or}
use Rattle.call_reclaim_live.specs.Least.{Least, least_none, least_turn}
use mathlib.Core.Path.{◌≡◌, subst}
use native.Mathlib.Omega.{arith}
use Rattle.call_reclaim_live.proofs.fewest.Goals as goal

pub loop-g-init : goal.loop-g-init
loop-g-init c =
    let a = c.args in
    (least_none a.p a.sealed.now a.live.now a.p.Z (omega arith), tt)

pub loop-g-preserved : goal.loop-g-preserved
loop-g-preserved c =
    let a = c.args in
    let l = c.loop-g in
    let b = c.better-best in
    (least_turn a.p a.sealed.now a.live.now l.g (unwrap_or l.best a.p.Z) l.invariant.0 c.loop-g-test.true (unwrap_or b.result a.p.Z) b.ensures.pick, b.ensures.low)

pub returns-clause-least : goal.returns-clause-least
returns-clause-least c =
    let a = c.args in
    let l = c.loop-g in
    let e : l.g ≡ a.p.Z = omega arith in
    subst (λ (x : ℕ). Least a.p a.sealed.now a.live.now x (unwrap_or l.best a.p.Z)) e l.invariant.0
