-- `is_borne`: all drives are missing or bear the serial just if those from d on do; one that does not ends it. Assumes nothing.
use Rattle.disk_drives.specs.Viewed.{viewed}
use mathlib.Core.Path.{sym, ◌∙◌}
use native.Mathlib.Omega.{arith}
use borrow.Author.Tests.{not-true, not-false}
use Rattle.disk_holders.specs.Borne.{borne_start, borne_broken, borne_passed, borne_ended}
use Rattle.disk_holders.proofs.is_borne.Goals as goal

pub loop-d-init : goal.loop-d-init
loop-d-init c =
    let a = c.args in
    borne_start a.drives.now.p (viewed a.drives.now) a.gone a.serial.0

pub is_borne_on-requires : goal.is_borne_on-requires
is_borne_on-requires c = record { low_lt_n = (c.requires.low_lt_n.0, c.requires.low_lt_n.1, c.loop-d-test.true) }

pub returns-then-not-is_borne_on : goal.returns-then-not-is_borne_on
returns-then-not-is_borne_on c =
    let a = c.args in
    let l = c.loop-d in
    let on = c.is_borne_on in
    let v = viewed a.drives.now in
    sym (borne_broken a.drives.now.p v a.gone a.serial.0 l.d c.loop-d-test.true (sym on.ensures ∙ not-true on.result c.if-not-is_borne_on.true-raw)) ∙ l.invariant

pub loop-d-preserved : goal.loop-d-preserved
loop-d-preserved c =
    let a = c.args in
    let l = c.loop-d in
    let on = c.is_borne_on in
    let v = viewed a.drives.now in
    sym (borne_passed a.drives.now.p v a.gone a.serial.0 l.d c.loop-d-test.true (sym on.ensures ∙ not-false on.result c.if-not-is_borne_on.false-raw)) ∙ l.invariant

pub returns : goal.returns
returns c =
    let a = c.args in
    let l = c.loop-d in
    let v = viewed a.drives.now in
    sym (borne_ended a.drives.now.p v a.gone a.serial.0 l.d (omega (arith, c.loop-d-test.false))) ∙ l.invariant
