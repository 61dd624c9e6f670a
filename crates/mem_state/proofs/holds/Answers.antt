-- `holds`: what the eighths from i on hold is what any holds; one that does ends it with true, another passes on, none left is false. Assumes nothing.
use Prim.Native.Nat.{◌+◌, ◌-◌, ◌*◌}
use Rattle.spec.specs.Lists.{up_from, any}
use Rattle.spec.specs.Memory.{holds_at, holds, state_of}
use Rattle.law_scans.specs.Scans.{any-ended, any-start}
use Rattle.mem_state.specs.Flights.{eighth_next}
use mathlib.Core.Bool.{Bool, ◌||◌}
use mathlib.Core.Path.{sym, ap, ◌∙◌}
use native.Mathlib.Omega.{arith}
use Rattle.mem_state.proofs.holds.Goals as goal

pub loop-i-init : goal.loop-i-init
unfolding holds
loop-i-init c = let a = c.args in any-start (holds_at (state_of a.bytes.now) a.address.0 a.stamp.0) 64

pub returns-then-is_held : goal.returns-then-is_held
returns-then-is_held c =
    let a = c.args in
    let l = c.loop-i in
    let st = state_of a.bytes.now in
    let rest = any (holds_at st a.address.0 a.stamp.0) (up_from (8 * (l.i + 1)) (64 - 8 * (l.i + 1))) in
    sym (eighth_next st a.address.0 a.stamp.0 l.i (omega arith) ∙ ap (λ (x : Bool). x || rest) (sym c.is_held.ensures ∙ c.if-is_held.true)) ∙ l.invariant

pub loop-i-preserved : goal.loop-i-preserved
loop-i-preserved c =
    let a = c.args in
    let l = c.loop-i in
    let st = state_of a.bytes.now in
    let rest = any (holds_at st a.address.0 a.stamp.0) (up_from (8 * (l.i + 1)) (64 - 8 * (l.i + 1))) in
    sym (eighth_next st a.address.0 a.stamp.0 l.i (omega arith) ∙ ap (λ (x : Bool). x || rest) (sym c.is_held.ensures ∙ c.if-is_held.false)) ∙ l.invariant

pub returns : goal.returns
returns c =
    let a = c.args in
    let l = c.loop-i in
    let h = holds_at (state_of a.bytes.now) a.address.0 a.stamp.0 in
    sym (any-ended h (8 * l.i) 64 (omega (arith, c.loop-i-test.false))) ∙ l.invariant
