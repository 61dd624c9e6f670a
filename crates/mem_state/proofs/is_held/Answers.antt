-- `is_held`: what the cells from k on hold is what the eighth holds; from the first position not filled on they hold nothing. Assumes nothing.
use Prim.Native.Nat.{ℕ, ◌+◌, ◌-◌, ◌*◌, ◌<◌}
use Rattle.law_basic.specs.Le.{le_of_part-one}
use Rattle.law_scans.specs.Scans.{any_found, any_passed, any-ended}
use Rattle.mem_codec.specs.Codec.{state_len_lem}
use Rattle.mem_state.specs.Flights.{held_in_of, filled_read, filled-cell, empty_rest}
use Rattle.spec.specs.Lists.{up_from, any}
use Rattle.spec.specs.Memory.{filled_in_of, holds_at, state_len, state_of}
use lib.ListN.{length, get_or}
use mathlib.Core.List.{List}
use mathlib.Core.Path.{◌≡◌, sym, ap, ap₂, ◌∙◌}
use native.Mathlib.Omega.{arith}
use Rattle.mem_state.proofs.is_held.Goals as goal

-- the positions filled
filled_is : (bs : List ℕ) (i : ℕ) → length bs ≡ state_len → i < 8 → get_or bs (62 + i) 0 ≡ filled_in_of (state_of bs) i
filled_is bs i h k = le_of_part-one (62 + i) bs (omega (arith, state_len_lem, h, k)) ∙ filled_read bs i k

pub loop-k-init : goal.loop-k-init
unfolding held_in_of
loop-k-init c =
    let a = c.args in
    let st = state_of a.bytes.now in
    let e : 8 * a.i + 0 ≡ 8 * a.i = omega arith in
    let n : 8 * a.i + 8 - (8 * a.i + 0) ≡ 8 = omega arith in
    ap₂ (λ (x y : ℕ). any (holds_at st a.address.0 a.stamp.0) (up_from x y)) e n

pub returns-then-f-k : goal.returns-then-f-k
returns-then-f-k c =
    let a = c.args in
    let l = c.loop-k in
    let st = state_of a.bytes.now in
    sym (empty_rest st a.address.0 a.stamp.0 a.i l.k (omega arith) (omega (arith, c.if-f-k.true, filled_is a.bytes.now a.i c.requires.0 c.requires.1))) ∙ l.invariant

pub returns-then-is_cell : goal.returns-then-is_cell
returns-then-is_cell c =
    let a = c.args in
    let l = c.loop-k in
    let f = filled_is a.bytes.now a.i c.requires.0 c.requires.1 in
    let e = c.is_cell.ensures ∙ filled-cell (state_of a.bytes.now) a.address.0 a.stamp.0 a.i l.k (omega arith) (omega (arith, c.if-f-k.false, f)) in
    sym (any_found (holds_at (state_of a.bytes.now) a.address.0 a.stamp.0) (8 * a.i + l.k) (8 * a.i + 8) (omega arith)
    (sym e ∙ c.if-is_cell.true)) ∙ l.invariant

pub loop-k-preserved : goal.loop-k-preserved
loop-k-preserved c =
    let a = c.args in
    let l = c.loop-k in
    let h = holds_at (state_of a.bytes.now) a.address.0 a.stamp.0 in
    let f = filled_is a.bytes.now a.i c.requires.0 c.requires.1 in
    let w = c.is_cell.ensures ∙ filled-cell (state_of a.bytes.now) a.address.0 a.stamp.0 a.i l.k (omega arith) (omega (arith, c.if-f-k.false, f)) in
    let e : 8 * a.i + l.k + 1 ≡ 8 * a.i + (l.k + 1) = omega arith in
    ap (λ (x : ℕ). any h (up_from x (8 * a.i + 8 - x))) (sym e)
    ∙ sym (any_passed h (8 * a.i + l.k) (8 * a.i + 8) (omega arith) (sym w ∙ c.if-is_cell.false)) ∙ l.invariant

pub returns : goal.returns
returns c =
    let a = c.args in
    let l = c.loop-k in
    sym (any-ended (holds_at (state_of a.bytes.now) a.address.0 a.stamp.0) (8 * a.i + l.k) (8 * a.i + 8) (omega (arith, c.loop-k-test.false))) ∙ l.invariant
