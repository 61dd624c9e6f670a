-- `named_held`: none, one or more headers name the zone (`nothing_names`, `one_names`, `two_name`). Assumes nothing.
use Rattle.disk_drives.specs.Viewed.{viewed}
use mathlib.Core.Path.{sym, ap, ◌∙◌, subst}
use Prim.Native.Nat.{ℕ, ◌≤◌}
use native.Mathlib.Omega.{arith}
use borrow.Author.Tests.{not-true, not-false}
use lib.Dec.{eqb}
use lib.ListN.{length}
use Rattle.spec.specs.Drives.{view_of, is_good}
use Rattle.spec.specs.Segments.{serial_in, holders}
use Rattle.law_basic.specs.Geometry.{ranged}
use Rattle.law_drives.specs.Tests.{and_false_left, and_false_right}
use Rattle.disk_holders.specs.Held.{HeldOne, nothing_names, one_names, two_name, held_answer}
use Rattle.disk_holders.specs.Next.{some_low, none_high}
use Rattle.std.specs.Prelude.{unwrap_or}
use Rattle.disk_holders.proofs.named_held.Goals as goal

pub is_good-requires : goal.is_good-requires
is_good-requires c = record { p_value = c.args.drives.now.sound; offline_len = (c.args.drives.now.listed, c.requires.drive_lt_n.0, c.requires.drive_lt_n.1) }

pub returns-then-not-is_good : goal.returns-then-not-is_good
returns-then-not-is_good c =
    let a = c.args in
    let v = viewed a.drives.now in
    let g = c.is_good in record {
      zone_value = and_false_left (is_good a.drives.now.p a.drives.now.offline.now a.drive a.zone) (eqb (length (holders a.drives.now.p v a.gone a.drive a.zone)) 1)
          (sym g.ensures ∙ not-true g.result c.if-not-is_good.true-raw);
      held_as = tt;
    }

pub returns-in_err-y : goal.returns-in_err-y
returns-in_err-y c =
    let a = c.args in
    let v = viewed a.drives.now in
    rw c.from_residual.ensures record {
      zone_value = and_false_right (is_good a.drives.now.p a.drives.now.offline.now a.drive a.zone) (eqb (length (holders a.drives.now.p v a.gone a.drive a.zone)) 1)
          (nothing_names a.drives.now.p v a.gone c.requires.here a.drive a.zone c.requires.drive_lt_n.0 c.requires.drive_lt_n.2 (omega (arith, c.in_err-y.ensures.0)));
      held_as = tt;
    }

pub overflow_add-y : goal.overflow_add-y
overflow_add-y c =
    omega (arith, c.in_ok-y.ensures.1, (ranged c.args.drives.now.p c.args.drives.now.sound).zones_high)

pub next_named-other-requires : goal.next_named-other-requires
next_named-other-requires c = record { here = c.requires.here; low_value = (c.low_drive-low.ensures.0, c.requires.drive_lt_n.0, omega (arith, c.in_ok-y.ensures.1)) }

pub returns-then-is_some : goal.returns-then-is_some
returns-then-is_some c =
    let a = c.args in
    let v = viewed a.drives.now in
    let y = c.in_ok-y in
    let (ey, ly) = y.ensures in
    let x = c.next_named-other in record {
      zone_value = and_false_right (is_good a.drives.now.p a.drives.now.offline.now a.drive a.zone) (eqb (length (holders a.drives.now.p v a.gone a.drive a.zone)) 1)
          (two_name a.drives.now.p v a.gone c.requires.here a.drive a.zone c.requires.drive_lt_n.0 c.requires.drive_lt_n.2 y.y ly ey
          (unwrap_or x.result a.drives.now.p.Z) (some_low x.result a.drives.now.p.Z (sym c.is_some.ensures ∙ c.if-is_some.true) x.ensures.1) x.ensures.0);
      held_as = tt;
    }

pub serial_in-requires : goal.serial_in-requires
serial_in-requires c = record { p_value = c.args.drives.now.sound; image_len = (c.args.drives.now.whole.image_long, c.low_drive-low.ensures.1, c.in_ok-y.ensures.1) }

pub returns : goal.returns
unfolding view_of
returns c =
    let a = c.args in
    let v = viewed a.drives.now in
    let g = c.is_good in
    let y = c.in_ok-y in
    let (ey, ly) = y.ensures in
    let x = c.next_named-other in
    let s = c.serial_in.ensures a.drives.now.offline.now a.drives.now.pointers.now c.args.drives.now.whole.pointers_long
    ∙ ap (λ (d : ℕ). serial_in a.drives.now.p v d y.y) c.low_drive-low.ensures.0 in
    let h = one_names a.drives.now.p v a.gone c.requires.here a.drive a.zone c.requires.drive_lt_n.0 c.requires.drive_lt_n.2 y.y ly ey
    (subst (λ (n : ℕ). a.drives.now.p.Z ≤ n) x.ensures.0 (none_high x.result a.drives.now.p.Z (sym c.is_some.ensures ∙ c.if-is_some.false))) in
    let k : HeldOne a.drives.now.p v a.gone a.drive a.zone c.serial_in.result.0 = subst (HeldOne a.drives.now.p v a.gone a.drive a.zone) (sym s) h in record {
      zone_value = held_answer a.drives.now.p v a.gone a.drive a.zone c.serial_in.result.0
          (sym g.ensures ∙ not-false g.result c.if-not-is_good.false-raw) k;
      held_as = k;
    }
