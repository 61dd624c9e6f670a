-- `aim_of`: an eighth below 8 is the filling one (`aim_filling`); at 8 there is none and a stripe begins in the free eighth (`aim_begins`). Assumes nothing.
use Rattle.call_filling.specs.Aims.{aim_filling, aim_begins}
use Rattle.mem_rows.specs.Rows.{behind}
use native.Mathlib.Omega.{arith}
use Rattle.call_filling.proofs.aim_of.Goals as goal

pub returns-then-i-lt8 : goal.returns-then-i-lt8
returns-then-i-lt8 c =
    let a = c.args in
    aim_filling a.p (behind a.f) c.filling_slot-i.result c.filling_slot-i.ensures c.if-i-lt8.true

pub returns : goal.returns
returns c =
    let a = c.args in
    let if1 = c.if-i-lt8 in
    let filling_slot_lem = c.filling_slot-i in
    aim_begins a.p (behind a.f) filling_slot_lem.result filling_slot_lem.ensures (omega (arith, if1.false)) c.must_open.result
    c.free_slot.result c.must_open.ensures c.free_slot.ensures
