-- `offline_at`: drive * Z + zone is below N * Z <= 8192. Assumes nothing.
use mathlib.Core.Path.{refl}
use Prim.Native.Nat.{◌+◌, ◌*◌, ◌<◌}
use native.Mathlib.Omega.{arith}
use Rattle.law_basic.specs.Geometry.{ranged, zones_all, zone_index_lt, offline_within}
use Rattle.disk_shape.proofs.offline_at.Goals as goal

pub overflow_mul-result : goal.overflow_mul-result
overflow_mul-result c =
    let a = c.args in
    let p = a.p in
    let h = c.requires.drive_lt_n in
    let d : a.drive * p.Z + a.zone < p.N * p.Z = zone_index_lt p a.drive a.zone h.0 h.1 in
    omega (arith, zones_all p (ranged p c.requires.p_value))

pub overflow_add-result : goal.overflow_add-result
overflow_add-result c =
    let a = c.args in
    let p = a.p in
    let h = c.requires.drive_lt_n in
    let d : a.drive * p.Z + a.zone < p.N * p.Z = zone_index_lt p a.drive a.zone h.0 h.1 in
    omega (arith, zones_all p (ranged p c.requires.p_value))

pub returns : goal.returns
returns c =
    let a = c.args in
    let p = a.p in
    let h = c.requires.drive_lt_n in
    let d : a.drive * p.Z + a.zone < p.N * p.Z = zone_index_lt p a.drive a.zone h.0 h.1 in
    (refl, offline_within p a.drive a.zone h.0 h.1, omega (arith, zones_all p (ranged p c.requires.p_value)))
