-- `chain_drive`: from z on the drive has its index; at Z there is none to have, and each turn adds one zone below. The header's byte goes along. Assumes nothing.
use Rattle.disk_drives.specs.Viewed.{viewed}
use mathlib.Core.Path.{◌≡◌, refl, sym, subst, ◌∙◌}
use Prim.Native.Nat.{ℕ, ◌+◌, ◌<◌}
use native.Mathlib.Omega.{arith}
use Rattle.spec.specs.Drives.{view_of}
use Rattle.spec.specs.Params.{capacity}
use Rattle.law_basic.specs.Geometry.{ranged, capacity-low}
use Rattle.disk_gather.specs.Found.{head_back}
use Rattle.disk_gather.specs.Index.{Chained, chain_none}
use Rattle.disk_gather.proofs.chain_drive.Goals as goal

pub overflow_sub-own : goal.overflow_sub-own
overflow_sub-own c =
    omega (arith, (ranged c.args.drives.now.p c.args.drives.now.sound).zones_low)

pub block_byte-requires-clause-drive_lt_n : goal.block_byte-requires-clause-drive_lt_n
block_byte-requires-clause-drive_lt_n c =
    let r = ranged c.args.drives.now.p c.args.drives.now.sound in
    let k : 0 < capacity c.args.drives.now.p = let x = capacity-low c.args.drives.now.p r in omega (arith, x) in
    (c.requires.drive_lt_n.0, omega (arith, r.zones_low), k)

pub loop-z-init : goal.loop-z-init
loop-z-init c =
    let a = c.args in
    let p = a.drives.now.p in
    let r = ranged p c.args.drives.now.sound in
    let v = view_of p a.drives.now.offline.now a.drives.now.image.now a.drives.now.pointers.now in (
      omega arith,
      refl,
      refl,
      (λ j. c.block_byte.ensures.0 j + c.zone_len-step.ensures.0 j) ∙ sym (head_back p a.drive p.Z (omega (arith, r.zones_low))),
      chain_none p v a.mask a.drive a.heads.now a.links.now (λ b h. let x = c.requires.by_index b h in omega (arith, x, r.zones_high)),
    )

pub overflow_sub-at : goal.overflow_sub-at
overflow_sub-at c =
    omega (arith, c.loop-z.invariant.3, head_back c.args.drives.now.p c.args.drive c.loop-z.z c.loop-z-test.true, c.zone_len-step.ensures.0)

pub chain_zone-requires-clause-drive_lt_n : goal.chain_zone-requires-clause-drive_lt_n
chain_zone-requires-clause-drive_lt_n c =
    let a = c.args in
    let q = c.requires in
    let l = c.loop-z in
    let k = q.drive_lt_n in
    let h = c.loop-z-test.true in
    (k.0, omega (arith, h, l.invariant.0), omega (arith, l.invariant.3, head_back a.drives.now.p a.drive l.z h, c.zone_len-step.ensures.0), k.1)

pub loop-z-preserved : goal.loop-z-preserved
loop-z-preserved c =
    let a = c.args in
    let l = c.loop-z in
    let h = c.loop-z-test.true in (
      omega (arith, h, l.invariant.0),
      c.chain_zone.auto.heads ∙ l.invariant.1,
      c.chain_zone.auto.links ∙ l.invariant.2,
      omega (arith, l.invariant.3, head_back a.drives.now.p a.drive l.z h, c.zone_len-step.ensures.0),
      c.chain_zone.ensures,
    )

pub returns : goal.returns
returns c =
    let a = c.args in
    let l = c.loop-z in
    let v = viewed a.drives.now in
    let e : l.z ≡ 0 = omega (arith, c.loop-z-test.false) in
    subst (λ (n : ℕ). Chained a.drives.now.p v a.mask a.drive n l.heads l.links) e l.invariant.4
