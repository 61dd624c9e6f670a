-- `compact_at`: drive * Z + zone is below N * Z <= 8192, and the index below the table's length (`compact_within`), so no step overflows. Assumes nothing.
use mathlib.Core.Path.{refl}
use Prim.Native.Nat.{◌+◌, ◌*◌, ◌≤◌, ◌<◌}
use native.Mathlib.Omega.{arith}
use Rattle.spec.specs.Memory.{compact_at}
use Rattle.spec.specs.Params.{compact_len}
use Rattle.law_basic.specs.Geometry.{ranged, zones_all, compact_high, zone_index_lt, compact_within}
use Rattle.disk_shape.proofs.compact_at.Goals as goal

pub overflow_mul-result : goal.overflow_mul-result
unfolding compact_at
overflow_mul-result c =
    let a = c.args in
    let p = a.p in
    let h = c.requires.drive_lt_n in
    let r = ranged p c.requires.p_value in
    let d : a.drive * p.Z + a.zone < p.N * p.Z = zone_index_lt p a.drive a.zone h.0 h.1 in
    let n : p.N * p.Z ≤ 8192 = zones_all p r in
    let c : compact_at p a.drive a.zone a.offset < compact_len p = compact_within p a.drive a.zone a.offset h.0 h.1 h.2 in
    let m : compact_len p ≤ 536862720 = compact_high p r in
    omega arith

pub overflow_add-result : goal.overflow_add-result
unfolding compact_at
overflow_add-result c =
    let a = c.args in
    let p = a.p in
    let h = c.requires.drive_lt_n in
    let r = ranged p c.requires.p_value in
    let d : a.drive * p.Z + a.zone < p.N * p.Z = zone_index_lt p a.drive a.zone h.0 h.1 in
    let n : p.N * p.Z ≤ 8192 = zones_all p r in
    let c : compact_at p a.drive a.zone a.offset < compact_len p = compact_within p a.drive a.zone a.offset h.0 h.1 h.2 in
    let m : compact_len p ≤ 536862720 = compact_high p r in
    omega arith

pub overflow_mul-result-2 : goal.overflow_mul-result-2
unfolding compact_at
overflow_mul-result-2 c =
    let a = c.args in
    let pre = c.requires in
    let p = a.p in
    let h = pre.drive_lt_n in
    let r = ranged p pre.p_value in
    let d : a.drive * p.Z + a.zone < p.N * p.Z = zone_index_lt p a.drive a.zone h.0 h.1 in
    let n : p.N * p.Z ≤ 8192 = zones_all p r in
    let c : compact_at p a.drive a.zone a.offset < compact_len p = compact_within p a.drive a.zone a.offset h.0 h.1 h.2 in
    let m : compact_len p ≤ 536862720 = compact_high p r in
    omega arith

pub overflow_add-result-2 : goal.overflow_add-result-2
unfolding compact_at
overflow_add-result-2 c =
    let a = c.args in
    let pre = c.requires in
    let p = a.p in
    let h = pre.drive_lt_n in
    let r = ranged p pre.p_value in
    let d : a.drive * p.Z + a.zone < p.N * p.Z = zone_index_lt p a.drive a.zone h.0 h.1 in
    let n : p.N * p.Z ≤ 8192 = zones_all p r in
    let c : compact_at p a.drive a.zone a.offset < compact_len p = compact_within p a.drive a.zone a.offset h.0 h.1 h.2 in
    let m : compact_len p ≤ 536862720 = compact_high p r in
    omega arith

pub returns : goal.returns
unfolding compact_at
returns c =
    let a = c.args in
    let pre = c.requires in
    let p = a.p in
    let h = pre.drive_lt_n in
    let r = ranged p pre.p_value in
    let d : a.drive * p.Z + a.zone < p.N * p.Z = zone_index_lt p a.drive a.zone h.0 h.1 in
    let n : p.N * p.Z ≤ 8192 = zones_all p r in
    let c : compact_at p a.drive a.zone a.offset < compact_len p = compact_within p a.drive a.zone a.offset h.0 h.1 h.2 in
    let m : compact_len p ≤ 536862720 = compact_high p r in
    (refl, c, omega arith)
