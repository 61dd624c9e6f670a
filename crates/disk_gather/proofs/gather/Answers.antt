-- `gather`: with the small arrays where there are few zones, else with the large. Assumes nothing.
use Prim.Native.Nat.{◌*◌, ◌≤◌}
use native.Mathlib.Omega.{arith}
use Rattle.spec.specs.Params.{offline_len}
use Rattle.law_basic.specs.Geometry.{ranged, zones_all}
use Rattle.disk_gather.specs.Index.{chain_room, links_few}
use Rattle.disk_gather.proofs.gather.Goals as goal

pub gather_in-requires-clause-room : goal.gather_in-requires-clause-room
unfolding offline_len
gather_in-requires-clause-room c =
    let p = c.args.drives.now.p in
    let few : p.N * p.Z ≤ 256 = omega (arith, c.if-offline_len-le-FEW_ZONES.true, c.offline_len.ensures.0) in
    (omega arith, few, links_few p (ranged p c.args.drives.now.sound) few, omega arith, omega arith)

pub gather_in-requires-2-clause-room : goal.gather_in-requires-2-clause-room
gather_in-requires-2-clause-room c =
    let p = c.args.drives.now.p in
    let r = ranged p c.args.drives.now.sound in
    (omega arith, zones_all p r, (chain_room p 2047 0 r (omega (arith, r.drives_low)) (omega arith)).3, omega arith, omega arith)
