-- `close`: the front and the filling stripe's eighth are the state's, which the bytes say; then refused or done. Assumes nothing.
use Prim.Native.Nat.{◌≤◌}
use Rattle.mem_calls.specs.Left.{checked}
use Rattle.mem_codec.specs.Changes.{read_sized}
use Rattle.call_close.specs.Ends.{close_refused, close_done}
use Rattle.call_close.specs.Order.{close_refusal}
use Rattle.call_close.specs.Ready.{close_ready, slot_low, slot_open}
use Rattle.spec.specs.Drives.{mk_disk}
use Rattle.spec.specs.Lists.Opt.{none, some}
use Rattle.spec.specs.Memory.{mk_memory, filled_in_of, filling_slot}
use Rattle.spec.specs.Params.{data_count}
use Rattle.spec.specs.declared.State.{State}
use Rattle.call_filling.specs.Aims.{front_filling}
use Rattle.call_filling.specs.Entries.{row_filled}
use Rattle.law_basic.specs.Geometry.{ranged, data_count_high}
use Rattle.mem_rows.specs.Rows.{RowsSized, slot_row}
use Rattle.mem_rows.specs.declared.Change.{Change}
use Rattle.mem_rows.specs.declared.Row.{Row}
use mathlib.Core.Path.{◌≡◌, refl, sym, ap, ◌∙◌, subst}
use native.Mathlib.Omega.{arith}
use Rattle.call_close.proofs.close.Goals as goal
use Rattle.call_close.proofs.close.Goals.{After-filling_slot-i, After-checks, In_default, After-row_at-row}

-- the eighth is the state's
slot_of_lem : (c : After-filling_slot-i) → c.filling_slot-i.result ≡ filling_slot c.args.p c.args.state
slot_of_lem c = c.filling_slot-i.ensures ∙ front_filling c.args.p c.args.state c.front_of-f.result c.front_of-f.ensures

pub checks-requires : goal.checks-requires
checks-requires c =
    let e = c.requires.0 in
    (slot_of_lem (goal.at.checks-requires c).After-filling_slot-i ∙ ap (filling_slot c.args.p) e, ap (λ (x : State). x.missing) e, c.requires.1)

-- the refusal is that of the state
checked_is : (c : After-checks) → let a = c.args in
    checked c.checks.result ≡ close_refusal a.p a.offline.now (mk_disk a.image.now a.pointers.now) (mk_memory a.state a.addresses.now a.compact.now a.inflight.now)
checked_is c =
    let a = c.args in
    subst (λ (x : State). checked c.checks.result ≡ close_refusal a.p a.offline.now (mk_disk a.image.now a.pointers.now) (mk_memory x a.addresses.now a.compact.now a.inflight.now))
    (sym c.requires.0) c.checks.ensures

pub returns-in-Err : goal.returns-in-Err
returns-in-Err c = λ n.
    close_refused _ _ _ _ c.kept.result
    (sym (checked_is (goal.at.returns-in-Err c).After-checks) ∙ ap checked c.in-Err.is ∙ ap some (sym c.from.ensures ∙ ap (λ (x : Change). x.answer) (sym c.kept.ensures))) n

-- no check holds
passed : (c : In_default) → let a = c.args in
    close_refusal a.p a.offline.now (mk_disk a.image.now a.pointers.now) (mk_memory a.state a.addresses.now a.compact.now a.inflight.now) ≡ none
passed c =
    let a = c.args in
    subst (λ (x : State). close_refusal a.p a.offline.now (mk_disk a.image.now a.pointers.now) (mk_memory x a.addresses.now a.compact.now a.inflight.now) ≡ none)
    (sym c.requires.0) (sym c.in_default.ensures)

pub row_at-row-requires : goal.row_at-row-requires
row_at-row-requires c =
    let g = goal.at.row_at-row-requires c in
    (c.requires.1, slot_low _ _ _ (slot_of_lem g.After-filling_slot-i) (close_ready _ _ _ _ (passed g.In_default)).filling)

-- the row is the state's
row_is : (c : After-row_at-row) → c.row_at-row.result ≡ slot_row c.args.state c.filling_slot-i.result
row_is c = c.row_at-row.ensures ∙ ap (λ (x : State). slot_row x c.filling_slot-i.result) (sym c.requires.0)

pub pad_all-next-requires : goal.pad_all-next-requires
pad_all-next-requires c =
    let g = goal.at.pad_all-next-requires c in
    let r = close_ready _ _ _ _ (passed g.In_default) in
    let i = c.filling_slot-i.result in
    let s = slot_of_lem g.After-filling_slot-i in
    let e : c.row_at-row.result.filled ≡ filled_in_of c.args.state i = ap (λ (x : Row). x.filled) (row_is g.After-row_at-row) ∙ row_filled c.args.state i in
    record { p_value = r.ranged; i_bound = (slot_low _ _ i s r.filling, omega (arith, e, slot_open c.args.p c.args.state i s r.filling), r.inflight_long) }

pub returns : goal.returns
returns c = λ n.
    let g = goal.at.returns c in
    let q = c.pad_all-next in
    let a = c.args in
    let e = passed g.In_default in
    let r = close_ready _ _ _ _ e in
    let at = filling_slot a.p a.state in
    let few : data_count a.p ≤ 8 = omega (arith, data_count_high a.p (ranged a.p r.ranged)) in
    close_done _ _ _ _ e (subst RowsSized (sym c.requires.0) (read_sized a.bytes.now)) (slot_low a.p a.state at refl r.filling) few (slot_open a.p a.state at refl r.filling)
    _ c.front_of-f.ensures _ (slot_of_lem g.After-filling_slot-i) _ (row_is g.After-row_at-row) q.result q.new.inflight q.ensures.value q.ensures.inflight_after n
