-- `block_byte`: `place_byte` of `place_of`; the block ends inside the image (`block_within`), whose greatest length bounds the byte. Assumes nothing.
use mathlib.Core.Path.{◌≡◌, ap, ◌∙◌}
use Prim.Native.Nat.{◌+◌, ◌≤◌}
use native.Mathlib.Omega.{arith}
use Rattle.spec.specs.Params.{unit_len, image_len, place_of, place_byte}
use Rattle.law_basic.specs.Geometry.{ranged, image_high, block_within}
use Rattle.disk_shape.proofs.block_byte.Goals as goal

pub returns : goal.returns
returns c =
    let a = c.args in
    let pre = c.requires in
    let p = a.p in
    let h = pre.drive_lt_n in
    let e : c.place_byte.result ≡ place_byte p (place_of p a.drive a.zone a.block) = c.place_byte.ensures.0 ∙ ap (place_byte p) c.place_of.ensures.0 in
    let w : place_byte p (place_of p a.drive a.zone a.block) + unit_len p ≤ image_len p = block_within p a.drive a.zone a.block h.0 h.1 h.2 in
    (e, omega arith, omega (arith, image_high p (ranged p pre.p_value)))
