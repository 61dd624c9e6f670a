-- `end`: the front and the filling stripe's eighth are the state's; then refused, as a closing, or with nothing done. Assumes nothing.
use Rattle.mem_calls.specs.Left.{checked}
use Rattle.call_empty.specs.Ends.{empty_refused, empty_as_close, empty_nothing}
use Rattle.call_empty.specs.Order.{empty_first, first_refuses, first_passed, empty_state_fails, empty_state_passes}
use Rattle.call_close.specs.Ready.{slot_is}
use Rattle.call_filling.specs.Aims.{front_filling}
use Rattle.spec.specs.Drives.{mk_disk}
use Rattle.spec.specs.Lists.Opt.{none, some}
use Rattle.spec.specs.Memory.{mk_memory, filling_slot, has_filling, state_ok}
use Rattle.mem_rows.specs.Rows.{kept_as}
use Rattle.mem_rows.specs.declared.Change.{Change}
use Rattle.spec.specs.declared.Answer.TheVariants.{Nothing}
use borrow.Author.Tests.{lt-ltb, le-ltb}
use mathlib.Core.Bool.{false}
use mathlib.Core.Path.{◌≡◌, refl, sym, ap, ◌∙◌}
use Rattle.call_empty.proofs.end.Goals as goal
use Rattle.call_empty.proofs.end.Goals.{In_default, After-filling_slot, Else-filling_slot-lt8}

pub returns-in-Err : goal.returns-in-Err
returns-in-Err c = λ n.
    let e = sym (c.checks.ensures c.args.state refl) ∙ ap checked c.in-Err.is ∙ ap some (sym c.from.ensures ∙ ap (λ (x : Change). x.answer) (sym c.kept.ensures)) in
    empty_refused _ _ _ _ _ n c.kept.result (first_refuses 6 _ c.kept.result.answer e)

-- none of the first six refuses
passed : (c : In_default) → let a = c.args in
    empty_first a.p a.offline.now (mk_disk a.image.now a.pointers.now) (mk_memory a.state a.addresses.now a.compact.now a.inflight.now) a.address.0 0 ≡ none
passed c = sym (c.in_default.ensures c.args.state refl)

-- the eighth is the state's
slot_of_lem : (c : After-filling_slot) → c.filling_slot.result ≡ filling_slot c.args.p c.args.state
slot_of_lem c = c.filling_slot.ensures ∙ front_filling c.args.p c.args.state c.front_of-f.result c.front_of-f.ensures

pub returns-then-filling_slot-lt8 : goal.returns-then-filling_slot-lt8
returns-then-filling_slot-lt8 c = λ n.
    let g = goal.at.returns-then-filling_slot-lt8 c in
    let i = c.filling_slot.result in
    c.close.ensures n
    ∙ empty_as_close _ _ _ _ _ n (sym (slot_is _ _ i (slot_of_lem g.After-filling_slot)) ∙ lt-ltb i 8 c.if-filling_slot-lt8.true) (first_passed _ _ _ _ _ (passed g.In_default)).1

pub state_ok-requires-clause-p_value : goal.state_ok-requires-clause-p_value
state_ok-requires-clause-p_value c = (first_passed _ _ _ _ _ (passed (goal.at.state_ok-requires-clause-p_value c).In_default)).0

-- no stripe is filling
idle_is : (c : Else-filling_slot-lt8) → has_filling c.args.p c.args.state ≡ false
idle_is c =
    let i = c.filling_slot.result in
    sym (slot_is c.args.p c.args.state i (c.filling_slot.ensures ∙ front_filling c.args.p c.args.state c.front_of-f.result c.front_of-f.ensures)) ∙ le-ltb i 8 c.if-filling_slot-lt8.false

pub returns-then-not-state_ok : goal.returns-then-not-state_ok
returns-then-not-state_ok c = λ n.
    let g = goal.at.returns-then-not-state_ok c in
    let q = c.kept-then-not-state_ok in
    let e = sym (empty_state_fails _ _ _ _ _ (passed g.In_default) (idle_is g.Else-filling_slot-lt8) (ap (state_ok c.args.p) c.requires.0 ∙ sym c.state_ok.ensures ∙ c.if-not-state_ok.true)) in
    empty_refused _ _ _ _ _ n q.result (e ∙ ap (λ (x : Change). some x.answer) (sym q.ensures))

pub returns : goal.returns
returns c = λ n.
    let g = goal.at.returns c in
    let i = idle_is g.Else-filling_slot-lt8 in
    let e = sym (empty_state_passes _ _ _ _ _ (passed g.In_default) i (ap (state_ok c.args.p) c.requires.0 ∙ sym c.state_ok.ensures ∙ c.if-not-state_ok.false)) in
    empty_nothing _ _ _ _ _ n e i c.nothing.result (c.nothing.ensures ∙ ap (kept_as Nothing) c.front_of-f.ensures)
