-- `full_zone`: a zone without room is named, one with room is not. Assumes nothing.
use Rattle.spec.specs.Drives.{zone_on}
use Rattle.spec.specs.Lists.{cons_if}
use mathlib.Core.Bool.{Bool}
use mathlib.Core.List.{[], ◌∷◌}
use mathlib.Core.Path.{sym, ap, ◌∙◌}
use Prim.Native.Nat.{ℕ}
use Rattle.call_land_faults.proofs.full_zone.Goals as goal

pub returns-then-no_room : goal.returns-then-no_room
unfolding cons_if
returns-then-no_room c =
    let a = c.args in
    ap (λ (x : Bool). cons_if x (zone_on a.segment a.e) []) (sym c.no_room.ensures ∙ c.if-no_room.true) ∙ ap (λ (x : ℕ). x ∷ []) (sym c.zone_on.ensures)

pub returns : goal.returns
unfolding cons_if
returns c =
    let a = c.args in
    ap (λ (x : Bool). cons_if x (zone_on a.segment a.e) []) (sym c.no_room.ensures ∙ c.if-no_room.false)
