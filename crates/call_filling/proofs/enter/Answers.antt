-- `enter`: the row is that of `added`; parity is set just when filled + 1 reaches the data count, as `entered` has it, else the buffer stays. Assumes nothing.
use Prim.Native.Nat.{suc}
use Rattle.spec.specs.Memory.{set_slot_parity}
use Rattle.spec.specs.Params.{data_count}
use Rattle.call_filling.specs.Entries.{added_row, entered}
use Rattle.law_basic.specs.Geometry.{ranged, data_count_high}
use Rattle.mem_rows.specs.declared.Row.{Row}
use borrow.Author.Tests.{not-true, not-false}
use lib.Dec.{leb}
use mathlib.Core.Bool.{Bool, true, false, cond, not}
use mathlib.Core.Path.{◌≡◌, sym, ap, ◌∙◌}
use native.Mathlib.Omega.{arith}
use Rattle.call_filling.proofs.enter.Goals as goal

pub added-next-requires : goal.added-next-requires
added-next-requires c =
    omega (arith, c.requires.i_bound.1, data_count_high c.args.p (ranged c.args.p c.requires.p_value))

pub returns-then-not-has_room : goal.returns-then-not-has_room
unfolding entered added_row
returns-then-not-has_room c =
    let a = c.args in
    let h = c.has_room in
    let slot_parity = c.slot_parity in
    let if1 = c.if-not-has_room in
    let added = c.added-next in
    let f : h.result ≡ not (leb (data_count a.p) (suc a.row.filled)) = h.ensures ∙ ap (λ (x : Row). not (leb (data_count a.p) x.filled)) added.ensures in
    let e : leb (data_count a.p) (suc a.row.filled) ≡ true = not-false (leb (data_count a.p) (suc a.row.filled)) (sym f ∙ not-true h.result if1.true-raw) in record {
      value = added.ensures;
      inflight_after = slot_parity.ensures
          ∙ ap (λ (x : Bool). cond x (set_slot_parity a.p a.inflight.now a.i a.row.number) a.inflight.now) (sym e);
    }

pub returns-else-not-has_room : goal.returns-else-not-has_room
unfolding entered added_row
returns-else-not-has_room c =
    let a = c.args in
    let h = c.has_room in
    let added = c.added-next in
    let f : h.result ≡ not (leb (data_count a.p) (suc a.row.filled)) = h.ensures ∙ ap (λ (x : Row). not (leb (data_count a.p) x.filled)) added.ensures in
    let e : leb (data_count a.p) (suc a.row.filled) ≡ false = not-true (leb (data_count a.p) (suc a.row.filled))
    (sym f ∙ not-false h.result c.if-not-has_room.false-raw) in
    record { value = added.ensures; inflight_after = ap (λ (x : Bool). cond x (set_slot_parity a.p a.inflight.now a.i a.row.number) a.inflight.now) (sym e) }
