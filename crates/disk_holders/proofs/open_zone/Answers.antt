-- `open_zone`: Z where the serial does not remain, else the lowest zone of the drive that bears it (`opened_nowhere`, `opened_at`). Assumes nothing.
use Rattle.disk_drives.specs.Viewed.{viewed}
use mathlib.Core.Path.{refl, sym, ap, ◌∙◌, subst}
use Prim.Native.Nat.{ℕ, ◌≤◌}
use native.Mathlib.Omega.{arith}
use borrow.Author.Tests.{not-true, not-false}
use Rattle.spec.specs.Segments.{lowest_bearing}
use Rattle.law_basic.specs.Geometry.{ranged}
use Rattle.law_basic.specs.Mask.{is_in_empty}
use Rattle.law_drives.specs.Settled.{low_first, zero_here}
use Rattle.disk_holders.specs.Borne.{not_borne, unborne_dropped}
use Rattle.disk_holders.specs.Opened.{opened_nowhere, opened_at}
use Rattle.disk_holders.proofs.open_zone.Goals as goal

pub lowest_bearing-first-requires : goal.lowest_bearing-first-requires
lowest_bearing-first-requires c = record { drive_lt_n = omega (arith, (ranged c.args.drives.now.p c.args.drives.now.sound).drives_low) }

pub returns-then-drives-first : goal.returns-then-drives-first
returns-then-drives-first c =
    let a = c.args in
    let r = ranged a.drives.now.p c.args.drives.now.sound in
    let v = viewed a.drives.now in
    let b = not_borne a.drives.now.p v 0 a.serial.0 0 (omega (arith, r.drives_low)) (is_in_empty 0)
    (subst (λ (n : ℕ). a.drives.now.p.Z ≤ n) c.lowest_bearing-first.ensures.0 c.if-drives-first.true) in
    let y = opened_nowhere a.drives.now.p r v a.drive a.serial.0 a.drives.now.p.Z (unborne_dropped a.drives.now.p v 0 a.serial.0 b) refl in record { st_value = y.0; value = y.1; upper_bound = y.2 }

pub remains_from-requires : goal.remains_from-requires
remains_from-requires c =
    let r = ranged c.args.drives.now.p c.args.drives.now.sound in
    record { here = zero_here c.args.drives.now.p r; low_value = (sym (low_first c.args.drives.now.p r), c.if-drives-first.false, c.lowest_bearing-first.ensures.0) }

pub returns-then-not-remains_from : goal.returns-then-not-remains_from
returns-then-not-remains_from c =
    let a = c.args in
    let v = viewed a.drives.now in
    let m = c.remains_from in
    let y = opened_nowhere a.drives.now.p (ranged a.drives.now.p c.args.drives.now.sound) v a.drive a.serial.0 a.drives.now.p.Z
    (sym m.ensures ∙ not-true m.result c.if-not-remains_from.true-raw) refl in
    record { st_value = y.0; value = y.1; upper_bound = y.2 }

pub returns-then-drive-eq0 : goal.returns-then-drive-eq0
returns-then-drive-eq0 c =
    let a = c.args in
    let v = viewed a.drives.now in
    let m = c.remains_from in
    let first = c.lowest_bearing-first in
    let y = opened_at a.drives.now.p (ranged a.drives.now.p c.args.drives.now.sound) v a.drive a.serial.0 first.result
    (sym m.ensures ∙ not-false m.result c.if-not-remains_from.false-raw) c.requires.drive_lt_n
    (first.ensures.0 ∙ ap (λ (d : ℕ). lowest_bearing a.drives.now.p v d a.serial.0) (sym c.if-drive-eq0.true)) in record { st_value = y.0; value = y.1; upper_bound = y.2 }

pub lowest_bearing-requires : goal.lowest_bearing-requires
lowest_bearing-requires c = record { drive_lt_n = c.requires.drive_lt_n }

pub returns : goal.returns
returns c =
    let a = c.args in
    let v = viewed a.drives.now in
    let m = c.remains_from in
    let there = c.lowest_bearing in
    let y = opened_at a.drives.now.p (ranged a.drives.now.p c.args.drives.now.sound) v a.drive a.serial.0 there.result
    (sym m.ensures ∙ not-false m.result c.if-not-remains_from.false-raw) c.requires.drive_lt_n
    there.ensures.0 in record { st_value = y.0; value = y.1; upper_bound = y.2 }
