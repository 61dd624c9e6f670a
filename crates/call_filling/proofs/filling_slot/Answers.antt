-- `filling_slot`: i plus the index of the first filling eighth from i on is the answer; a hit has index 0, a miss goes one on, 8 ends it. Assumes nothing.
use Rattle.mem_rows.specs.Rows.{behind}
use Rattle.spec.specs.Memory.{slot_count, slots, is_filling, filling_slot}
use Rattle.law_basic.specs.Ranges.{found_hit, found_miss, found_end, found-start}
use mathlib.Core.Path.{◌≡◌, sym, ◌∙◌}
use native.Mathlib.Omega.{arith}
use Rattle.call_filling.proofs.filling_slot.Goals as goal

pub loop-i-init : goal.loop-i-init
unfolding filling_slot slots slot_count
loop-i-init c = let a = c.args in found-start (is_filling a.p (behind a.f)) 8

pub returns-then-is_filling : goal.returns-then-is_filling
returns-then-is_filling c =
    let a = c.args in
    let l = c.loop-i in
    sym (found_hit (is_filling a.p (behind a.f)) l.i 8 (omega arith) (sym c.is_filling.ensures ∙ c.if-is_filling.true)) ∙ l.invariant

pub loop-i-preserved : goal.loop-i-preserved
loop-i-preserved c =
    let a = c.args in
    let l = c.loop-i in
    sym (found_miss (is_filling a.p (behind a.f)) l.i 8 (omega arith) (sym c.is_filling.ensures ∙ c.if-is_filling.false)) ∙ l.invariant

pub returns : goal.returns
returns c =
    let a = c.args in
    let l = c.loop-i in
    let e : l.i ≡ 8 = omega arith in
    sym e ∙ sym (found_end (is_filling a.p (behind a.f)) l.i 8 (omega arith)) ∙ l.invariant
