-- `send`: a stripe that begins has 0 filled, so room, and next grows by one; another has room as required; both are `place` in `sent_row`. Assumes nothing.
use Prim.Native.Nat.{ℕ, suc}
use Rattle.call_filling.specs.Entries.{begun_row, placed_row_of, mk_sent_row, sent_row}
use Rattle.law_basic.specs.Geometry.{ranged, data_count-low}
use Rattle.mem_rows.specs.declared.Row.{Row}
use mathlib.Core.Bool.{Bool, cond}
use mathlib.Core.Path.{◌≡◌, sym, ap, ap₂, ◌∙◌}
use native.Mathlib.Numerals.{add-one}
use native.Mathlib.Omega.{arith}
use Rattle.call_filling.proofs.send.Goals as goal

pub place-q-requires : goal.place-q-requires
unfolding begun_row
place-q-requires c =
    let z : c.begun-first.result.filled ≡ 0 = ap (λ (x : Row). x.filled) c.begun-first.ensures in
    record {
      p_value = c.requires.p_value;
      i_bound =
          (c.requires.slot_bound.0, omega (arith, z, data_count-low c.args.p (ranged c.args.p c.requires.p_value)), c.requires.slot_bound.3, c.requires.slot_bound.4);
    }

pub returns-then-a : goal.returns-then-a
unfolding sent_row
returns-then-a c =
    let a = c.args in
    let place = c.place-q in
    let begun = c.begun-first in
    let if1 = c.if-a in
    let w : ℕ = cond a.write 1 0 in
    let q = place.ensures ∙ ap (λ (x : Row). placed_row_of a.p x a.inflight.now a.a.slot a.address.0 a.stamp.0 w a.block.now) begun.ensures in
    ap₂ mk_sent_row (add-one a.next) q
    ∙ ap (λ (x : Bool). mk_sent_row (cond x (suc a.next) a.next)
    (placed_row_of a.p (cond x (begun_row a.row a.next) a.row) a.inflight.now a.a.slot a.address.0 a.stamp.0 w
    a.block.now)) (sym if1.true)

pub place-q-requires-2 : goal.place-q-requires-2
place-q-requires-2 c = record { p_value = c.requires.p_value; i_bound = (c.requires.slot_bound.0, c.requires.slot_bound.1 c.if-a.false, c.requires.slot_bound.3, c.requires.slot_bound.4) }

pub returns : goal.returns
unfolding sent_row
returns c =
    let a = c.args in
    let if1 = c.if-a in
    let w : ℕ = cond a.write 1 0 in
    ap (mk_sent_row a.next) c.place-q-2.ensures
    ∙ ap (λ (x : Bool). mk_sent_row (cond x (suc a.next) a.next)
    (placed_row_of a.p (cond x (begun_row a.row a.next) a.row) a.inflight.now a.a.slot a.address.0 a.stamp.0 w
    a.block.now)) (sym if1.false)
