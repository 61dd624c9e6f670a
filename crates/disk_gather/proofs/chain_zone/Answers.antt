-- `chain_zone`: a zone that takes no part is passed (`chain_pass`), another put before the lowest of its bucket (`chain_put`). Assumes nothing.
use Rattle.disk_drives.specs.Viewed.{viewed}
use mathlib.Core.Path.{sym, ap, ◌∙◌}
use Prim.Native.Nat.{ℕ, ◌+◌, ◌-◌}
use native.Mathlib.Omega.{arith}
use borrow.Author.Tests.{not-true, not-false}
use Rattle.spec.specs.Drives.{view_of}
use Rattle.law_basic.specs.Geometry.{ranged}
use Rattle.disk_gather.specs.Found.{serial_bytes, found_header_room}
use Rattle.disk_gather.specs.Index.{chain_pass, chain_put}
use Rattle.disk_gather.proofs.chain_zone.Goals as goal

pub returns-then-not-is_used : goal.returns-then-not-is_used
returns-then-not-is_used c =
    let a = c.args in
    let q = c.requires in
    let v = viewed a.drives.now in
    chain_pass a.drives.now.p v a.mask a.drive a.z a.heads.now a.links.now q.z_in_bounds.2
    (sym (c.is_used.ensures a.drives.now.image.now c.args.drives.now.whole.image_long) ∙ not-true c.is_used.result c.if-not-is_used.true-raw)

pub serial_here-s-requires-clause-p_in_bounds : goal.serial_here-s-requires-clause-p_in_bounds
serial_here-s-requires-clause-p_in_bounds c =
    let a = c.args in
    let q = c.requires in
    let h = q.drive_lt_n in found_header_room a.drives.now.p a.drive a.z a.at a.drives.now.image.now (ranged a.drives.now.p c.args.drives.now.sound) h.0 h.1 h.2 c.args.drives.now.whole.image_long

pub returns : goal.returns
returns c =
    let a = c.args in
    let p = a.drives.now.p in
    let q = c.requires in
    let h = q.drive_lt_n in
    let k = q.z_in_bounds in
    let v = view_of p a.drives.now.offline.now a.drives.now.image.now a.drives.now.pointers.now in
    let s = c.serial_here-s.result.0 in
    let b = c.bucket-b.result in
    let u = c.is_used in
    chain_put p v a.mask a.drive a.z a.heads.now a.links.now k.2 s b (c.from.result - (a.z + 1))
    (sym (u.ensures a.drives.now.image.now c.args.drives.now.whole.image_long) ∙ not-false u.result c.if-not-is_used.false-raw)
    (c.serial_here-s.ensures
    ∙ serial_bytes p a.drives.now.offline.now a.drives.now.image.now a.drives.now.pointers.now c.args.drives.now.whole.image_long c.args.drives.now.whole.pointers_long
    a.drive a.z h.0 h.1 (ranged p c.args.drives.now.sound) a.at h.2)
    c.bucket-b.ensures.0 (ap (λ (n : ℕ). n - (a.z + 1)) c.from.ensures) (omega (arith, h.1, k.0)) (omega (arith, h.1, k.1))
