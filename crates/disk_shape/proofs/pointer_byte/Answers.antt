-- `pointer_byte`: drive * Z + zone is below N * Z <= 8192; the four bytes end inside the pointers (`pointer_within`). Assumes nothing.
use mathlib.Core.Path.{refl}
use Prim.Native.Nat.{◌+◌, ◌*◌, ◌≤◌, ◌<◌}
use native.Mathlib.Omega.{arith}
use Rattle.spec.specs.Drives.{pointer_byte}
use Rattle.law_basic.specs.Geometry.{ranged, zones_all, zone_index_lt, pointer_within}
use Rattle.disk_shape.proofs.pointer_byte.Goals as goal

pub overflow_mul-result : goal.overflow_mul-result
overflow_mul-result c =
    let a = c.args in
    let p = a.p in
    let h = c.requires.drive_lt_n in
    let r = ranged p c.requires.p_value in
    let d : a.drive * p.Z + a.zone < p.N * p.Z = zone_index_lt p a.drive a.zone h.0 h.1 in
    let n : p.N * p.Z ≤ 8192 = zones_all p r in
    omega arith

pub overflow_add-result : goal.overflow_add-result
overflow_add-result c =
    let a = c.args in
    let p = a.p in
    let h = c.requires.drive_lt_n in
    let r = ranged p c.requires.p_value in
    let d : a.drive * p.Z + a.zone < p.N * p.Z = zone_index_lt p a.drive a.zone h.0 h.1 in
    let n : p.N * p.Z ≤ 8192 = zones_all p r in
    omega arith

pub overflow_mul-result-2 : goal.overflow_mul-result-2
overflow_mul-result-2 c =
    let a = c.args in
    let p = a.p in
    let h = c.requires.drive_lt_n in
    let r = ranged p c.requires.p_value in
    let d : a.drive * p.Z + a.zone < p.N * p.Z = zone_index_lt p a.drive a.zone h.0 h.1 in
    let n : p.N * p.Z ≤ 8192 = zones_all p r in
    omega arith

pub returns : goal.returns
unfolding pointer_byte
returns c =
    let a = c.args in
    let p = a.p in
    let h = c.requires.drive_lt_n in
    let r = ranged p c.requires.p_value in
    let d : a.drive * p.Z + a.zone < p.N * p.Z = zone_index_lt p a.drive a.zone h.0 h.1 in
    let n : p.N * p.Z ≤ 8192 = zones_all p r in
    (refl, pointer_within p a.drive a.zone h.0 h.1, omega arith)
