-- `zone_check`: below Z the list has that zone and refuses with it (`zone_fails`); else it is empty and passes. Assumes nothing.
use Rattle.spec.specs.Calls.{first_refusal}
use Rattle.spec.specs.Calls.Check.{zones}
use Rattle.spec.specs.Lists.{cons_if}
use Rattle.law_calls.specs.Refusals.{zone_fails, zones_pass, none_left}
use borrow.Author.Tests.{lt-ltb, le-ltb}
use mathlib.Core.Bool.{Bool}
use mathlib.Core.List.{[], ◌∷◌}
use mathlib.Core.Path.{refl, sym, ap, ◌∙◌}
use native.Mathlib.Omega.{arith}
use Rattle.mem_lookup.proofs.zone_check.Goals as goal

pub returns-then-zone-p : goal.returns-then-zone-p
unfolding cons_if
returns-then-zone-p c =
    let a = c.args in
    sym (ap (λ (x : Bool). first_refusal (zones (cons_if x a.zone []) ∷ [])) (lt-ltb a.zone a.p.Z c.if-zone-p.true) ∙ zone_fails a.zone [])

pub returns : goal.returns
unfolding cons_if
returns c =
    let a = c.args in
    sym (ap (λ (x : Bool). first_refusal (zones (cons_if x a.zone []) ∷ [])) (le-ltb a.zone a.p.Z (omega (arith, c.if-zone-p.false))) ∙ zones_pass [] [] refl ∙ none_left)
