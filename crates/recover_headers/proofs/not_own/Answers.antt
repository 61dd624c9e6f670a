-- `not_own`: a missing drive makes the first part false; else it is true, and the two zones are compared. Assumes nothing.
use mathlib.Core.Path.{sym, ap, ap₂, ◌∙◌}
use mathlib.Core.Bool.{Bool, not, ◌&&◌}
use lib.Dec.{eqb}
use Rattle.spec.specs.Drives.{zone_on}
use Rattle.recover_headers.proofs.not_own.Goals as goal

pub returns-then-has_drive : goal.returns-then-has_drive
returns-then-has_drive c =
    let a = c.args in
    sym (ap (λ (b : Bool). not b && not (eqb (zone_on a.names a.drive) (zone_on a.segment a.drive))) (sym c.has_drive.ensures ∙ c.if-has_drive.true))

pub returns : goal.returns
returns c =
    let has-drive = c.has_drive in
    let if1 = c.if-has_drive in
    let a = c.args in
    ap not (ap₂ eqb c.zone_on.ensures c.zone_on-2.ensures)
    ∙ sym (ap (λ (b : Bool). not b && not (eqb (zone_on a.names a.drive) (zone_on a.segment a.drive))) (sym has-drive.ensures ∙ if1.false))
