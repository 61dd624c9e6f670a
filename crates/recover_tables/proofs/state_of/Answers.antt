-- `state_of`: a missing drive or no unsealed segment makes the test of `cond` false, and both numbers are 0; else it is true. Assumes nothing.
use mathlib.Core.Path.{◌≡◌, sym, ap₂, ◌∙◌}
use mathlib.Core.Bool.{true, false, ◌&&◌}
use native.Mathlib.Omega.{arith}
use borrow.Author.Tests.{eq-eqb, ne_eqb, lt-ltb, le-ltb}
use lib.Dec.{ltb, eqb}
use lib.ListN.{get_or}
use Rattle.spec.specs.Memory.{idle_state}
use Rattle.law_basic.specs.Ranges.{and_both}
use Rattle.law_drives.specs.Tests.{and_false_left, and_false_right, cond_true, cond_false}
use Rattle.recover_tables.proofs.state_of.Goals as goal

pub returns-then-gone-ne0 : goal.returns-then-gone-ne0
returns-then-gone-ne0 c =
    let a = c.args in
    let b = eqb a.gone 0 && ltb a.opened a.p.Z in
    let e : eqb a.gone 0 && ltb a.opened a.p.Z ≡ false = and_false_left (eqb a.gone 0) (ltb a.opened a.p.Z) (ne_eqb a.gone 0 c.if-gone-ne0.true) in
    c.idle_state.ensures
    ∙ ap₂ (idle_state 1 a.gone a.h.stamp.0 a.serial.0) (sym (cond_false b (get_or a.serials.now a.opened 0) 0 e)) (sym (cond_false b a.h.next 0 e))

pub returns-then-p-opened : goal.returns-then-p-opened
returns-then-p-opened c =
    let a = c.args in
    let b = eqb a.gone 0 && ltb a.opened a.p.Z in
    let e : eqb a.gone 0 && ltb a.opened a.p.Z ≡ false = and_false_right (eqb a.gone 0) (ltb a.opened a.p.Z) (le-ltb a.opened a.p.Z c.if-p-opened.true) in
    c.idle_state-then-p-opened.ensures
    ∙ ap₂ (idle_state 1 a.gone a.h.stamp.0 a.serial.0) (sym (cond_false b (get_or a.serials.now a.opened 0) 0 e)) (sym (cond_false b a.h.next 0 e))

pub offset_bounds-serials-opened : goal.offset_bounds-serials-opened
offset_bounds-serials-opened c = omega arith

pub bounds-serials-opened : goal.bounds-serials-opened
bounds-serials-opened c = omega arith

pub overflow_cast-next : goal.overflow_cast-next
overflow_cast-next c = omega arith

pub returns : goal.returns
returns c =
    let a = c.args in
    let b = eqb a.gone 0 && ltb a.opened a.p.Z in
    let e : eqb a.gone 0 && ltb a.opened a.p.Z ≡ true =
    and_both (eqb a.gone 0) (ltb a.opened a.p.Z) (eq-eqb a.gone 0 c.if-gone-ne0.false)
    (lt-ltb a.opened a.p.Z c.if-p-opened.false) in
    c.idle_state-2.ensures
    ∙ ap₂ (idle_state 1 a.gone a.h.stamp.0 a.serial.0) (sym (cond_true b (get_or a.serials.now a.opened 0) 0 e)) (sym (cond_true b a.h.next 0 e))
