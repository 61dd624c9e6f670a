-- `look_at`: each field is what its question answers; the row of the bytes is that of the state. Assumes nothing.
use Prim.Native.Nat.{ℕ, ◌<◌}
use Rattle.spec.specs.declared.State.{State}
use Rattle.mem_rows.specs.Rows.{slot_row}
use lib.Dec.{eqb}
use mathlib.Core.Bool.{◌&&◌}
use mathlib.Core.Path.{sym, ap, ◌∙◌, subst}
use Rattle.call_land.proofs.look_at.Goals as goal

pub row_at-row-requires : goal.row_at-row-requires
row_at-row-requires c = (c.requires.1, c.within.ensures.0)

pub returns : goal.returns
returns c =
    let completes = c.completes-done in
    let row_at = c.row_at-row in
    let within = c.within in
    let slot_of_lem = c.slot_of-slot in
    let a = c.args in
    let e = slot_of_lem.ensures in
    let d = completes.result in
    record {
      slot = e;
      row = λ h. row_at.ensures ∙ ap (λ (x : State). slot_row x within.result) (sym c.requires.0) ∙ ap (slot_row a.state) (within.ensures.1 (subst (λ (x : ℕ). x < 8) (sym e) h) ∙ e);
      done = completes.ensures;
      seals = c.is_last-seals.ensures ∙ ap (λ (x : ℕ). d && eqb a.state.next a.p.S && eqb x 1) c.in_flight-flying.ensures;
    }
