-- `place_of`: drive * Z + zone is below N * Z <= 8192 and capacity at most 87381, so that the place fits in 32 bits. Assumes nothing.
use mathlib.Core.Path.{ap}
use Prim.Native.Nat.{ℕ, ◌+◌, ◌*◌, ◌≤◌, ◌<◌}
use native.Mathlib.Omega.{arith}
use Rattle.spec.specs.Params.{place_of}
use Rattle.law_basic.specs.Geometry.{prod_le, ranged, zones_all, zone_index_lt}
use Rattle.disk_shape.proofs.place_of.Goals as goal

pub overflow_mul-at : goal.overflow_mul-at
overflow_mul-at c =
    let a = c.args in
    let pre = c.requires in
    let p = a.p in
    let h = pre.drive_lt_n in
    let r = ranged p pre.p_value in
    let d : a.drive * p.Z + a.zone < p.N * p.Z = zone_index_lt p a.drive a.zone h.0 h.1 in
    let n : p.N * p.Z ≤ 8192 = zones_all p r in
    omega arith

pub overflow_add-at : goal.overflow_add-at
overflow_add-at c =
    let a = c.args in
    let pre = c.requires in
    let p = a.p in
    let h = pre.drive_lt_n in
    let r = ranged p pre.p_value in
    let d : a.drive * p.Z + a.zone < p.N * p.Z = zone_index_lt p a.drive a.zone h.0 h.1 in
    let n : p.N * p.Z ≤ 8192 = zones_all p r in
    omega arith

pub overflow_mul-at-2 : goal.overflow_mul-at-2
overflow_mul-at-2 c =
    let a = c.args in
    let pre = c.requires in
    let p = a.p in
    let h = pre.drive_lt_n in
    let r = ranged p pre.p_value in
    let d : a.drive * p.Z + a.zone < p.N * p.Z = zone_index_lt p a.drive a.zone h.0 h.1 in
    let n : p.N * p.Z ≤ 8192 = zones_all p r in
    let m : (a.drive * p.Z + a.zone) * c.capacity-c.result ≤ 715737771 =
    prod_le (a.drive * p.Z + a.zone) c.capacity-c.result 8191 87381 715737771 (omega arith) (omega arith) (omega arith) in
    omega arith

pub overflow_add-at-2 : goal.overflow_add-at-2
overflow_add-at-2 c =
    let a = c.args in
    let pre = c.requires in
    let p = a.p in
    let h = pre.drive_lt_n in
    let r = ranged p pre.p_value in
    let d : a.drive * p.Z + a.zone < p.N * p.Z = zone_index_lt p a.drive a.zone h.0 h.1 in
    let n : p.N * p.Z ≤ 8192 = zones_all p r in
    let m : (a.drive * p.Z + a.zone) * c.capacity-c.result ≤ 715737771 =
    prod_le (a.drive * p.Z + a.zone) c.capacity-c.result 8191 87381 715737771 (omega arith) (omega arith) (omega arith) in
    let b : a.block < c.capacity-c.result = omega (arith, c.capacity-c.ensures.0, h.2) in
    omega arith

pub overflow_cast-result : goal.overflow_cast-result
overflow_cast-result c =
    let a = c.args in
    let pre = c.requires in
    let p = a.p in
    let h = pre.drive_lt_n in
    let r = ranged p pre.p_value in
    let d : a.drive * p.Z + a.zone < p.N * p.Z = zone_index_lt p a.drive a.zone h.0 h.1 in
    let n : p.N * p.Z ≤ 8192 = zones_all p r in
    let m : (a.drive * p.Z + a.zone) * c.capacity-c.result ≤ 715737771 =
    prod_le (a.drive * p.Z + a.zone) c.capacity-c.result 8191 87381 715737771 (omega arith) (omega arith) (omega arith) in
    let b : a.block < c.capacity-c.result = omega (arith, c.capacity-c.ensures.0, h.2) in
    omega arith

pub returns : goal.returns
unfolding place_of
returns c =
    let a = c.args in
    let pre = c.requires in
    let p = a.p in
    let h = pre.drive_lt_n in
    let r = ranged p pre.p_value in
    let d : a.drive * p.Z + a.zone < p.N * p.Z = zone_index_lt p a.drive a.zone h.0 h.1 in
    let n : p.N * p.Z ≤ 8192 = zones_all p r in
    let m : (a.drive * p.Z + a.zone) * c.capacity-c.result ≤ 715737771 =
    prod_le (a.drive * p.Z + a.zone) c.capacity-c.result 8191 87381 715737771 (omega arith) (omega arith) (omega arith) in
    let b : a.block < c.capacity-c.result = omega (arith, c.capacity-c.ensures.0, h.2) in
    (ap (λ (x : ℕ). (a.drive * p.Z + a.zone) * x + a.block) c.capacity-c.ensures.0, omega arith)
