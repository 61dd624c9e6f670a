-- `is_above`: a missing drive or an offline zone makes its part false; else both are true, and capacity and pointer are compared. Assumes nothing.
use mathlib.Core.Path.{sym, ap, ap₂, ◌∙◌}
use mathlib.Core.Bool.{Bool, not, ◌&&◌}
use borrow.Author.Tests.{not-true, not-false}
use lib.Dec.{ltb}
use Rattle.spec.specs.Drives.{pointer_of, is_good}
use Rattle.spec.specs.Params.{capacity}
use Rattle.recover_headers.proofs.is_above.Goals as goal

pub returns-then-has_drive : goal.returns-then-has_drive
returns-then-has_drive c =
    let a = c.args in
    sym (ap (λ (b : Bool). not b && (is_good a.p a.offline.now a.drive a.zone && ltb (capacity a.p) (pointer_of a.p a.pointers.now a.drive a.zone)))
    (sym c.has_drive.ensures ∙ c.if-has_drive.true))

pub returns-then-not-is_good : goal.returns-then-not-is_good
returns-then-not-is_good c =
    let a = c.args in
    sym (ap₂ (λ (b g : Bool). not b && (g && ltb (capacity a.p) (pointer_of a.p a.pointers.now a.drive a.zone)))
    (sym c.has_drive.ensures ∙ c.if-has_drive.false) (sym c.is_good.ensures ∙ not-true c.is_good.result c.if-not-is_good.true-raw))

pub returns : goal.returns
returns c =
    let capacity' = c.capacity in
    let has-drive = c.has_drive in
    let if1 = c.if-has_drive in
    let is-good = c.is_good in
    let if2 = c.if-not-is_good in
    let a = c.args in
    ap₂ ltb capacity'.ensures.0 c.pointer.ensures
    ∙ sym (ap₂ (λ (b g : Bool). not b && (g && ltb (capacity a.p) (pointer_of a.p a.pointers.now a.drive a.zone)))
    (sym has-drive.ensures ∙ if1.false) (sym is-good.ensures ∙ not-false is-good.result if2.false-raw))
