-- `begins`: per is the records of a footer block, so the numbers are footers, place and byte of the definitions; `begun_at` bounds each. Assumes nothing.
use mathlib.Core.Path.{sym}
use native.Mathlib.Omega.{arith}
use Rattle.law_basic.specs.Geometry.{ranged, spare_len_lem, capacity_high}
use Rattle.disk_stored.specs.Stored.{begun_at}
use Rattle.disk_stored.proofs.begins.Goals as goal

pub overflow_cast-feet : goal.overflow_cast-feet
overflow_cast-feet c =
    let a = c.args in
    let r = ranged a.p c.requires.p_value in
    let h = c.requires.per_value in
    let g = begun_at a.p r a.per _ a.drive a.zone a.block h.0 (sym spare_len_lem) h.1 h.2 h.3 in
    omega (arith, r.stripes_high)

pub overflow_add-feet : goal.overflow_add-feet
overflow_add-feet c =
    let a = c.args in
    let r = ranged a.p c.requires.p_value in
    let h = c.requires.per_value in
    let g = begun_at a.p r a.per _ a.drive a.zone a.block h.0 (sym spare_len_lem) h.1 h.2 h.3 in
    omega (arith, r.stripes_high, g.few)

pub overflow_sub-feet : goal.overflow_sub-feet
overflow_sub-feet c =
    let a = c.args in
    let r = ranged a.p c.requires.p_value in
    let h = c.requires.per_value in
    let g = begun_at a.p r a.per _ a.drive a.zone a.block h.0 (sym spare_len_lem) h.1 h.2 h.3 in
    omega (arith, g.some)

pub nonzero_div-feet : goal.nonzero_div-feet
nonzero_div-feet c =
    let a = c.args in
    let r = ranged a.p c.requires.p_value in
    let h = c.requires.per_value in
    let g = begun_at a.p r a.per _ a.drive a.zone a.block h.0 (sym spare_len_lem) h.1 h.2 h.3 in
    omega (arith, g.some)

pub overflow_cast-feet-2 : goal.overflow_cast-feet-2
overflow_cast-feet-2 c =
    let a = c.args in
    let r = ranged a.p c.requires.p_value in
    let h = c.requires.per_value in
    let g = begun_at a.p r a.per _ a.drive a.zone a.block h.0 (sym spare_len_lem) h.1 h.2 h.3 in
    omega (arith, g.feet)

pub overflow_mul-place : goal.overflow_mul-place
overflow_mul-place c =
    let a = c.args in
    let pre = c.requires in
    let r = ranged a.p pre.p_value in
    let h = pre.per_value in
    let g = begun_at a.p r a.per _ a.drive a.zone a.block h.0 (sym spare_len_lem) h.1 h.2 h.3 in
    omega (arith, g.zone_high)

pub overflow_add-place : goal.overflow_add-place
overflow_add-place c =
    let a = c.args in
    let pre = c.requires in
    let r = ranged a.p pre.p_value in
    let h = pre.per_value in
    let g = begun_at a.p r a.per _ a.drive a.zone a.block h.0 (sym spare_len_lem) h.1 h.2 h.3 in
    omega (arith, g.zone_high)

pub overflow_add-place-2 : goal.overflow_add-place-2
overflow_add-place-2 c =
    let a = c.args in
    let pre = c.requires in
    let r = ranged a.p pre.p_value in
    let h = pre.per_value in
    let g = begun_at a.p r a.per _ a.drive a.zone a.block h.0 (sym spare_len_lem) h.1 h.2 h.3 in
    omega (arith, r.stripes_high)

pub overflow_add-place-3 : goal.overflow_add-place-3
overflow_add-place-3 c =
    let a = c.args in
    let pre = c.requires in
    let r = ranged a.p pre.p_value in
    let h = pre.per_value in
    let g = begun_at a.p r a.per _ a.drive a.zone a.block h.0 (sym spare_len_lem) h.1 h.2 h.3 in
    omega (arith, r.stripes_high, g.feet)

pub overflow_mul-place-2 : goal.overflow_mul-place-2
overflow_mul-place-2 c =
    let a = c.args in
    let pre = c.requires in
    let r = ranged a.p pre.p_value in
    let h = pre.per_value in
    let g = begun_at a.p r a.per _ a.drive a.zone a.block h.0 (sym spare_len_lem) h.1 h.2 h.3 in
    omega (arith, g.rows)

pub overflow_add-place-4 : goal.overflow_add-place-4
overflow_add-place-4 c =
    let a = c.args in
    let pre = c.requires in
    let r = ranged a.p pre.p_value in
    let h = pre.per_value in
    let g = begun_at a.p r a.per _ a.drive a.zone a.block h.0 (sym spare_len_lem) h.1 h.2 h.3 in
    omega (arith, g.rows, h.3, capacity_high a.p r)

pub overflow_add-result : goal.overflow_add-result
overflow_add-result c =
    let a = c.args in
    let pre = c.requires in
    let r = ranged a.p pre.p_value in
    let h = pre.per_value in
    let g = begun_at a.p r a.per _ a.drive a.zone a.block h.0 (sym spare_len_lem) h.1 h.2 h.3 in
    omega (arith, r.block_high)

pub overflow_mul-result : goal.overflow_mul-result
overflow_mul-result c =
    let a = c.args in
    let pre = c.requires in
    let r = ranged a.p pre.p_value in
    let h = pre.per_value in
    let g = begun_at a.p r a.per _ a.drive a.zone a.block h.0 (sym spare_len_lem) h.1 h.2 h.3 in
    omega (arith, g.byte, g.within, g.high)

pub returns : goal.returns
returns c =
    let a = c.args in
    let pre = c.requires in
    let r = ranged a.p pre.p_value in
    let h = pre.per_value in
    let g = begun_at a.p r a.per _ a.drive a.zone a.block h.0 (sym spare_len_lem) h.1 h.2 h.3 in
    (g.byte, omega (arith, g.byte, g.within), omega (arith, g.byte, g.within, g.high))
