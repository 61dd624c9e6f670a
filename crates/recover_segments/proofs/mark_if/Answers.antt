-- `mark_if`: unflagged nothing changes; flagged, the zones of the row are marked. Assumes nothing.
use mathlib.Core.Path.{sym, ap, ◌∙◌}
use mathlib.Core.Bool.{Bool, false, ◌&&◌, ◌||◌}
use Prim.Native.Nat.{◌+◌, ◌*◌}
use native.Mathlib.Omega.{arith}
use borrow.Author.Tests.{not-true, not-false}
use lib.Dec.{eqb}
use lib.ListN.{get_or}
use Rattle.spec.specs.Bytes.{part}
use Rattle.spec.specs.Drives.{zone_on, seg}
use Rattle.spec.specs.declared.Seg.{Seg}
use Rattle.law_basic.specs.Geometry.{ranged}
use Rattle.recover_segments.specs.Taken.{or_no}
use Rattle.recover_segments.proofs.mark_if.Goals as goal

pub returns-then-not-flag : goal.returns-then-not-flag
returns-then-not-flag c =
    let a = c.args in
    λ d y hd hy. sym (or_no (get_or a.marks.now (d * a.p.Z + y) false))
    ∙ sym (ap (λ (b : Bool). get_or a.marks.now (d * a.p.Z + y) false || (b && eqb (zone_on (seg (part (8 * a.z) 8 a.rows.now)) d) y)) (not-true a.flag c.if-not-flag.true-raw))

pub row-requires : goal.row-requires
row-requires c =
    (omega (arith, c.requires.z_in_bounds.1, c.requires.z_in_bounds.2), omega (arith, c.requires.z_in_bounds.2, (ranged c.args.p c.requires.p_value).zones_high))

pub returns : goal.returns
returns c =
    let a = c.args in
    λ d y hd hy. c.mark_segment.ensures d y hd hy
    ∙ ap (λ (g : Seg). get_or a.marks.now (d * a.p.Z + y) false || eqb (zone_on g d) y) c.row.ensures
    ∙ sym (ap (λ (b : Bool). get_or a.marks.now (d * a.p.Z + y) false || (b && eqb (zone_on (seg (part (8 * a.z) 8 a.rows.now)) d) y))
    (not-false a.flag c.if-not-flag.false-raw))
