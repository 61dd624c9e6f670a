-- `record_byte`: the offset's quotient steps over units, its remainder over records; `stepping` says this is the record's byte. Assumes nothing.
use mathlib.Core.Path.{sym}
use native.Mathlib.Omega.{arith}
use Rattle.law_basic.specs.Geometry.{ranged, spare_len_lem}
use Rattle.disk_stored.specs.Stored.{stepping}
use Rattle.disk_stored.proofs.record_byte.Goals as goal

pub overflow_cast-block : goal.overflow_cast-block
overflow_cast-block c =
    let a = c.args in
    let pre = c.requires in
    let p = a.p in
    let r = ranged p pre.p_value in
    let h = pre.drive_lt_n in
    let g =
    stepping p r a.full c.first_byte-first.result c.together-per.result _ a.drive a.zone a.offset
    c.first_byte-first.ensures.0 c.together-per.ensures.0 (sym spare_len_lem) h.0 h.1 h.2 in
    omega (arith, g.low)

pub overflow_cast-block-2 : goal.overflow_cast-block-2
overflow_cast-block-2 c =
    let a = c.args in
    let pre = c.requires in
    let p = a.p in
    let r = ranged p pre.p_value in
    let h = pre.drive_lt_n in
    let g =
    stepping p r a.full c.first_byte-first.result c.together-per.result _ a.drive a.zone a.offset
    c.first_byte-first.ensures.0 c.together-per.ensures.0 (sym spare_len_lem) h.0 h.1 h.2 in
    omega (arith, g.quotient)

pub overflow_cast-number : goal.overflow_cast-number
overflow_cast-number c =
    let a = c.args in
    let pre = c.requires in
    let p = a.p in
    let r = ranged p pre.p_value in
    let h = pre.drive_lt_n in
    let g =
    stepping p r a.full c.first_byte-first.result c.together-per.result _ a.drive a.zone a.offset
    c.first_byte-first.ensures.0 c.together-per.ensures.0 (sym spare_len_lem) h.0 h.1 h.2 in
    omega (arith, g.low)

pub overflow_cast-number-2 : goal.overflow_cast-number-2
overflow_cast-number-2 c =
    let a = c.args in
    let pre = c.requires in
    let p = a.p in
    let r = ranged p pre.p_value in
    let h = pre.drive_lt_n in
    let g =
    stepping p r a.full c.first_byte-first.result c.together-per.result _ a.drive a.zone a.offset
    c.first_byte-first.ensures.0 c.together-per.ensures.0 (sym spare_len_lem) h.0 h.1 h.2 in
    omega (arith, g.rest)

pub overflow_add-result : goal.overflow_add-result
overflow_add-result c =
    let a = c.args in
    let first_byte = c.first_byte-first in
    let pre = c.requires in
    let p = a.p in
    let r = ranged p pre.p_value in
    let h = pre.drive_lt_n in
    let g =
    stepping p r a.full first_byte.result c.together-per.result _ a.drive a.zone a.offset first_byte.ensures.0
    c.together-per.ensures.0 (sym spare_len_lem) h.0 h.1 h.2 in
    omega (arith, g.byte, g.within, g.high, g.rest, r.block_high)

pub overflow_mul-result : goal.overflow_mul-result
overflow_mul-result c =
    let a = c.args in
    let first_byte = c.first_byte-first in
    let pre = c.requires in
    let p = a.p in
    let r = ranged p pre.p_value in
    let h = pre.drive_lt_n in
    let g =
    stepping p r a.full first_byte.result c.together-per.result _ a.drive a.zone a.offset first_byte.ensures.0
    c.together-per.ensures.0 (sym spare_len_lem) h.0 h.1 h.2 in
    omega (arith, g.byte, g.within, g.high, g.rest, r.block_high)

pub overflow_add-result-2 : goal.overflow_add-result-2
overflow_add-result-2 c =
    let a = c.args in
    let first_byte = c.first_byte-first in
    let pre = c.requires in
    let p = a.p in
    let r = ranged p pre.p_value in
    let h = pre.drive_lt_n in
    let g =
    stepping p r a.full first_byte.result c.together-per.result _ a.drive a.zone a.offset first_byte.ensures.0
    c.together-per.ensures.0 (sym spare_len_lem) h.0 h.1 h.2 in
    omega (arith, g.byte, g.within, g.high, g.rest, r.block_high)

pub overflow_mul-result-2 : goal.overflow_mul-result-2
overflow_mul-result-2 c =
    let a = c.args in
    let first_byte = c.first_byte-first in
    let pre = c.requires in
    let p = a.p in
    let r = ranged p pre.p_value in
    let h = pre.drive_lt_n in
    let g =
    stepping p r a.full first_byte.result c.together-per.result _ a.drive a.zone a.offset first_byte.ensures.0
    c.together-per.ensures.0 (sym spare_len_lem) h.0 h.1 h.2 in
    omega (arith, g.byte, g.within, g.high, g.rest, r.block_high)

pub overflow_add-result-3 : goal.overflow_add-result-3
overflow_add-result-3 c =
    let a = c.args in
    let first_byte = c.first_byte-first in
    let pre = c.requires in
    let p = a.p in
    let r = ranged p pre.p_value in
    let h = pre.drive_lt_n in
    let g =
    stepping p r a.full first_byte.result c.together-per.result _ a.drive a.zone a.offset first_byte.ensures.0
    c.together-per.ensures.0 (sym spare_len_lem) h.0 h.1 h.2 in
    omega (arith, g.byte, g.within, g.high, g.rest, r.block_high)

pub returns : goal.returns
returns c =
    let a = c.args in
    let first_byte = c.first_byte-first in
    let pre = c.requires in
    let p = a.p in
    let r = ranged p pre.p_value in
    let h = pre.drive_lt_n in
    let g =
    stepping p r a.full first_byte.result c.together-per.result _ a.drive a.zone a.offset first_byte.ensures.0
    c.together-per.ensures.0 (sym spare_len_lem) h.0 h.1 h.2 in
    (g.byte, omega (arith, g.byte, g.within), omega (arith, g.byte, g.within, g.high))
