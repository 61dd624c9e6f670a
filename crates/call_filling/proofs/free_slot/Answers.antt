-- `free_slot`: i plus the index of the first free eighth from i on is the answer; a hit has index 0, a miss goes one on, 8 ends it. Assumes nothing.
use Rattle.mem_rows.specs.Rows.{behind}
use Rattle.spec.specs.Memory.{slot_count, slots, is_free, filled_in_of, free_slot}
use Rattle.law_basic.specs.Ranges.{found_hit, found_miss, found_end, found-start}
use mathlib.Core.Path.{◌≡◌, sym, ◌∙◌}
use native.Mathlib.Omega.{arith}
use Rattle.call_filling.proofs.free_slot.Goals as goal

pub loop-i-init : goal.loop-i-init
unfolding free_slot slots slot_count
loop-i-init c = let a = c.args in found-start (is_free (behind a.f)) 8

pub returns-then-is_free : goal.returns-then-is_free
unfolding is_free filled_in_of
returns-then-is_free c =
    let a = c.args in
    let l = c.loop-i in
    sym (found_hit (is_free (behind a.f)) l.i 8 (omega arith) (sym c.is_free.ensures ∙ c.if-is_free.true)) ∙ l.invariant

pub loop-i-preserved : goal.loop-i-preserved
unfolding is_free filled_in_of
loop-i-preserved c =
    let a = c.args in
    let l = c.loop-i in
    sym (found_miss (is_free (behind a.f)) l.i 8 (omega arith) (sym c.is_free.ensures ∙ c.if-is_free.false)) ∙ l.invariant

pub returns : goal.returns
returns c =
    let a = c.args in
    let l = c.loop-i in
    let e : l.i ≡ 8 = omega arith in
    sym e ∙ sym (found_end (is_free (behind a.f)) l.i 8 (omega arith)) ∙ l.invariant
