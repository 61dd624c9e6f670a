-- `zone_by`: on a missing drive the zone that the header names, on the lowest present one the one given, else the one that is asked for. Assumes nothing.
use mathlib.Core.Path.{◌≡◌, sym, ap, ◌∙◌}
use mathlib.Core.Bool.{false}
use Prim.Native.Nat.{ℕ}
use native.Mathlib.Omega.{arith}
use Rattle.spec.specs.Drives.{view_of, chunk_at}
use Rattle.spec.specs.Layout.{header_zone}
use Rattle.spec.specs.Lists.{is_in}
use Rattle.spec.specs.Segments.{low_drive, lowest_bearing, zone_for}
use Rattle.law_basic.specs.Geometry.{ranged}
use Rattle.law_drives.specs.Tests.{cond_true, cond_false}
use Rattle.disk_gather.proofs.zone_by.Goals as goal

pub returns-then-has_drive : goal.returns-then-has_drive
unfolding zone_for
returns-then-has_drive g c =
    let a = c.args in
    let p = a.p in
    let e = c.requires.drive_lt_n.3 in
    let low = low_drive p a.gone in
    λ off ps s long q t.
    let v = view_of p off a.image.now ps in
    let named = header_zone p (chunk_at v low (lowest_bearing p v low s) 0).block a.drive in
    let z : a.first ≡ lowest_bearing p v low s = q ∙ ap (λ (x : ℕ). lowest_bearing p v x s) e in
    c.zone_named.ensures off ps long ∙ (λ j. header_zone p (chunk_at v (e j) (z j) 0).block a.drive)
    ∙ sym (cond_true (is_in a.gone a.drive) named (lowest_bearing p v a.drive s) (sym c.has_drive.ensures ∙ c.if-has_drive.true))

pub overflow_cast-result : goal.overflow_cast-result
overflow_cast-result g c =
    omega (arith, (ranged c.args.p c.requires.p_value).zones_high, c.requires.drive_lt_n.4)

pub returns-then-drive-low : goal.returns-then-drive-low
unfolding zone_for
returns-then-drive-low g c =
    let a = c.args in
    let p = a.p in
    let low = low_drive p a.gone in
    λ off ps s long q t.
    let v = view_of p off a.image.now ps in
    let named = header_zone p (chunk_at v low (lowest_bearing p v low s) 0).block a.drive in
    q ∙ ap (λ (x : ℕ). lowest_bearing p v x s) (sym c.if-drive-low.true)
    ∙ sym (cond_false (is_in a.gone a.drive) named (lowest_bearing p v a.drive s) (sym c.has_drive.ensures ∙ c.if-has_drive.false))

pub overflow_cast-result-2 : goal.overflow_cast-result-2
overflow_cast-result-2 g c =
    omega (arith, (ranged c.args.p c.requires.p_value).zones_high, c.requires.callable.1 c.lowest.result c.lowest.ensures)

pub returns : goal.returns
unfolding zone_for
returns g c =
    let a = c.args in
    let p = a.p in
    let low = low_drive p a.gone in
    λ off ps s long q t.
    let v = view_of p off a.image.now ps in
    let named = header_zone p (chunk_at v low (lowest_bearing p v low s) 0).block a.drive in
    let n : is_in a.gone a.drive ≡ false = sym c.has_drive.ensures ∙ c.if-has_drive.false in
    t c.lowest.result n c.lowest.ensures ∙ sym (cond_false (is_in a.gone a.drive) named (lowest_bearing p v a.drive s) n)
