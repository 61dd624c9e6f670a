-- `look_within`: the marks are ROOM bytes: as many as `look_with` asks (`marks_long`). Assumes nothing.
use native.Mathlib.Omega.{arith}
use Rattle.call_reclaim_victim.specs.Looked.{marks_long}
use Rattle.call_reclaim_victim.proofs.look_within.Goals as goal

pub look_with-requires : goal.look_with-requires
look_with-requires g c =
    let pre = c.requires in
    let m = marks_long g.row.ROOM pre.room.0 (omega (arith, pre.room.1)) in
    record { p_value = pre.p_value; whole = pre.whole; addresses_len = (pre.addresses_len.0, m.0, m.1, pre.addresses_len.1) }
