-- `bears_at`: the three tests in their order. Assumes nothing.
use Rattle.disk_drives.specs.Viewed.{viewed}
use mathlib.Core.Path.{sym, ap, ◌∙◌}
use mathlib.Core.Bool.{◌&&◌}
use Prim.Native.Nat.{ℕ}
use borrow.Author.Tests.{lt-ltb, le-ltb, not-true, not-false}
use lib.Dec.{eqb, ltb}
use Rattle.spec.specs.Segments.{is_used, serial_in}
use Rattle.law_drives.specs.Tests.{and_false_left, and_false_right}
use Rattle.disk_holders.proofs.bears_at.Goals as goal

pub returns-then-drives-zone : goal.returns-then-drives-zone
returns-then-drives-zone c =
    let a = c.args in
    let v = viewed a.drives.now in
    sym (and_false_left (ltb a.zone a.drives.now.p.Z) (is_used a.drives.now.p v a.drive a.zone && eqb (serial_in a.drives.now.p v a.drive a.zone) a.serial.0)
    (le-ltb a.zone a.drives.now.p.Z c.if-drives-zone.true))

pub is_used-requires : goal.is_used-requires
is_used-requires c = record {
  p_value = c.args.drives.now.sound;
  pointers_len = (c.args.drives.now.whole.pointers_long, c.args.drives.now.listed);
  drive_lt_n =
      (c.requires.drive_lt_n, c.if-drives-zone.false);
}

pub returns-then-not-is_used : goal.returns-then-not-is_used
returns-then-not-is_used c =
    let a = c.args in
    let v = viewed a.drives.now in
    let s = eqb (serial_in a.drives.now.p v a.drive a.zone) a.serial.0 in
    sym (and_false_right (ltb a.zone a.drives.now.p.Z) (is_used a.drives.now.p v a.drive a.zone && s)
    (and_false_left (is_used a.drives.now.p v a.drive a.zone) s
    (sym (c.is_used.ensures a.drives.now.image.now c.args.drives.now.whole.image_long) ∙ not-true c.is_used.result c.if-not-is_used.true-raw)))

pub serial_in-s-requires : goal.serial_in-s-requires
serial_in-s-requires c = record { p_value = c.args.drives.now.sound; image_len = (c.args.drives.now.whole.image_long, c.requires.drive_lt_n, c.if-drives-zone.false) }

pub returns : goal.returns
returns c =
    let a = c.args in
    let used = c.is_used in
    ap (λ (n : ℕ). eqb n a.serial.0) (c.serial_in-s.ensures a.drives.now.offline.now a.drives.now.pointers.now c.args.drives.now.whole.pointers_long)
    ∙ sym (λ j. lt-ltb a.zone a.drives.now.p.Z c.if-drives-zone.false j
    && ((sym (used.ensures a.drives.now.image.now c.args.drives.now.whole.image_long) ∙ not-false used.result c.if-not-is_used.false-raw) j
    && eqb (serial_in a.drives.now.p (viewed a.drives.now) a.drive a.zone) a.serial.0))
