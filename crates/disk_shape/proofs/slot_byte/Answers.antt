-- `slot_byte`: slot * N + drive is below 8 * N; the block ends inside the in-flight buffer (`slot_within`), at most 262144 bytes. Assumes nothing.
use mathlib.Core.Path.{refl}
use Prim.Native.Nat.{◌+◌, ◌*◌, ◌≤◌, ◌<◌}
use native.Mathlib.Omega.{arith}
use lib.Arith.{digits_lt}
use Rattle.spec.specs.Memory.{slot_byte}
use Rattle.spec.specs.Params.{inflight_len}
use Rattle.law_basic.specs.Geometry.{ranged, inflight_high, slot_within}
use Rattle.disk_shape.proofs.slot_byte.Goals as goal

pub overflow_mul-result : goal.overflow_mul-result
unfolding slot_byte
overflow_mul-result c =
    let a = c.args in
    let p = a.p in
    let h = c.requires.slot_bound in
    let r = ranged p c.requires.p_value in
    let d : a.slot * p.N + a.drive < 8 * p.N = digits_lt h.0 h.1 in
    let w : slot_byte p a.slot a.drive + p.B ≤ inflight_len p = slot_within p a.slot a.drive h.0 h.1 in
    let m : inflight_len p ≤ 262144 = inflight_high p r in
    omega arith

pub overflow_add-result : goal.overflow_add-result
unfolding slot_byte
overflow_add-result c =
    let a = c.args in
    let p = a.p in
    let h = c.requires.slot_bound in
    let r = ranged p c.requires.p_value in
    let d : a.slot * p.N + a.drive < 8 * p.N = digits_lt h.0 h.1 in
    let w : slot_byte p a.slot a.drive + p.B ≤ inflight_len p = slot_within p a.slot a.drive h.0 h.1 in
    let m : inflight_len p ≤ 262144 = inflight_high p r in
    omega arith

pub overflow_mul-result-2 : goal.overflow_mul-result-2
unfolding slot_byte
overflow_mul-result-2 c =
    let a = c.args in
    let pre = c.requires in
    let p = a.p in
    let h = pre.slot_bound in
    let r = ranged p pre.p_value in
    let d : a.slot * p.N + a.drive < 8 * p.N = digits_lt h.0 h.1 in
    let w : slot_byte p a.slot a.drive + p.B ≤ inflight_len p = slot_within p a.slot a.drive h.0 h.1 in
    let m : inflight_len p ≤ 262144 = inflight_high p r in
    omega arith

pub returns : goal.returns
unfolding slot_byte
returns c =
    let a = c.args in
    let pre = c.requires in
    let p = a.p in
    let h = pre.slot_bound in
    let r = ranged p pre.p_value in
    let d : a.slot * p.N + a.drive < 8 * p.N = digits_lt h.0 h.1 in
    let w : slot_byte p a.slot a.drive + p.B ≤ inflight_len p = slot_within p a.slot a.drive h.0 h.1 in
    let m : inflight_len p ≤ 262144 = inflight_high p r in
    (refl, w, omega (arith, r.block_low))
