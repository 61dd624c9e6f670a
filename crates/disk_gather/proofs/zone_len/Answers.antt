-- `zone_len`: so many blocks of so many bytes. Assumes nothing.
use mathlib.Core.Path.{◌≡◌}
use Prim.Native.Nat.{◌*◌}
use native.Mathlib.Omega.{arith}
use Rattle.spec.specs.Params.{zone_len}
use Rattle.law_basic.specs.Geometry.{ranged, zone_high}
use Rattle.disk_gather.proofs.zone_len.Goals as goal

pub overflow_mul-result : goal.overflow_mul-result
unfolding zone_len
overflow_mul-result c =
    let p = c.args.p in
    let e : c.capacity.result * c.unit_len.result ≡ zone_len p = λ j. c.capacity.ensures.0 j * c.unit_len.ensures.0 j in
    omega (arith, e, zone_high p (ranged p c.requires))

pub returns : goal.returns
unfolding zone_len
returns c =
    let p = c.args.p in
    let e : c.capacity.result * c.unit_len.result ≡ zone_len p = λ j. c.capacity.ensures.0 j * c.unit_len.ensures.0 j in
    (e, omega (arith, e, zone_high p (ranged p c.requires)))
