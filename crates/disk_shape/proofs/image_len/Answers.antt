-- `image_len`: capacity <= 87381, unit <= the longest block with its spare, Z <= 1024, N <= 8: each product is at most that of the bounds. Assumes nothing.
-- a zone's bytes
use mathlib.Core.Path.{ap₂}
use Prim.Native.Nat.{ℕ, ◌+◌, ◌*◌, ◌≤◌}
use native.Mathlib.Omega.{arith}
use Rattle.spec.specs.Params.{spare_len, zone_len, drive_len, image_len}
use Rattle.law_basic.specs.Geometry.{prod_le, ranged, spare_len_lem}
use Rattle.disk_shape.proofs.image_len.Goals as goal

zone_few : (x y : ℕ) → x ≤ 87381 → y ≤ 4096 + spare_len → x * y ≤ 359660196
zone_few x y a b = prod_le x y 87381 (4096 + spare_len) 359660196 a b (omega (arith, spare_len_lem))

pub overflow_mul-result : goal.overflow_mul-result
overflow_mul-result c =
    let p = c.args.p in
    let r = ranged p c.requires in
    let h : c.capacity.result * c.unit_len.result ≤ 359660196 =
    zone_few c.capacity.result c.unit_len.result (omega arith) (omega arith) in
    omega arith

pub overflow_mul-result-2 : goal.overflow_mul-result-2
overflow_mul-result-2 c =
    let capacity = c.capacity in
    let args = c.args in
    let pre = c.requires in
    let p = args.p in
    let r = ranged p (pre) in
    let h : capacity.result * c.unit_len.result ≤ 359660196 = zone_few capacity.result c.unit_len.result (omega arith) (omega arith) in
    let k : p.Z * (capacity.result * c.unit_len.result) ≤ 368292040704 =
    prod_le p.Z (capacity.result * c.unit_len.result) 1024 359660196 368292040704 r.zones_high h (omega arith) in
    omega arith

pub overflow_mul-result-3 : goal.overflow_mul-result-3
overflow_mul-result-3 c =
    let unit-len = c.unit_len in
    let capacity = c.capacity in
    let args = c.args in
    let pre = c.requires in
    let p = args.p in
    let r = ranged p (pre) in
    let h : capacity.result * unit-len.result ≤ 359660196 = zone_few capacity.result unit-len.result (omega arith) (omega arith) in
    let k : p.Z * (capacity.result * unit-len.result) ≤ 368292040704 = prod_le p.Z (capacity.result * unit-len.result) 1024 359660196 368292040704 r.zones_high h (omega arith) in
    let m : p.N * (p.Z * (capacity.result * unit-len.result)) ≤ 2946336325632 =
    prod_le p.N (p.Z * (capacity.result * unit-len.result)) 8 368292040704 2946336325632 r.drives_high k (omega arith) in
    omega arith

pub returns : goal.returns
unfolding image_len drive_len zone_len
returns c =
    let unit-len = c.unit_len in
    let capacity = c.capacity in
    let args = c.args in
    let pre = c.requires in
    let p = args.p in
    let r = ranged p (pre) in
    let h : capacity.result * unit-len.result ≤ 359660196 = zone_few capacity.result unit-len.result (omega arith) (omega arith) in
    let k : p.Z * (capacity.result * unit-len.result) ≤ 368292040704 = prod_le p.Z (capacity.result * unit-len.result) 1024 359660196 368292040704 r.zones_high h (omega arith) in
    let m : p.N * (p.Z * (capacity.result * unit-len.result)) ≤ 2946336325632 =
    prod_le p.N (p.Z * (capacity.result * unit-len.result)) 8 368292040704 2946336325632 r.drives_high k (omega arith) in
    (ap₂ (λ (x y : ℕ). p.N * (p.Z * (x * y))) capacity.ensures.0 unit-len.ensures.0, m)
