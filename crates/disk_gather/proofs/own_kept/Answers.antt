-- `own_kept`: a row that is not kept changes nothing; else it is `own_zones` of the row. Assumes nothing.
use Prim.Native.Nat.{◌+◌, ◌*◌}
use Rattle.disk_gather.specs.Owners.{row_seg}
use Rattle.law_basic.specs.Geometry.{ranged}
use Rattle.law_basic.specs.Segs.{ZonesLow}
use Rattle.spec.specs.Drives.{zone_on}
use Rattle.spec.specs.declared.Seg.{Seg}
use borrow.Author.Tests.{not-true, not-false}
use lib.Dec.{eqb}
use lib.ListN.{get_or}
use mathlib.Core.Bool.{Bool, false, cond, ◌&&◌}
use mathlib.Core.Path.{sym, ap, ap₂, ◌∙◌, subst}
use native.Mathlib.Omega.{arith}
use Rattle.disk_gather.proofs.own_kept.Goals as goal

pub returns-then-not-kept-g : goal.returns-then-not-kept-g
returns-then-not-kept-g c =
    let a = c.args in
    λ d z x y. sym (ap (λ (b : Bool). cond (b && eqb z (zone_on (row_seg a.rows.now a.g) d)) a.g (get_or a.owners.now (d * a.p.Z + z) 0))
    (not-true (get_or a.kept.now a.g false) c.if-not-kept-g.true-raw))

pub row-segment-requires : goal.row-segment-requires
row-segment-requires c =
    (omega (arith, c.requires.z_in_bounds), omega (arith, c.requires.z_in_bounds, (ranged c.args.p c.requires.p_value).zones_high))

pub own_zones-requires-clause-z_in_bounds : goal.own_zones-requires-clause-z_in_bounds
own_zones-requires-clause-z_in_bounds c = (
  c.requires.z_in_bounds.2,
  subst (λ (s : Seg). ZonesLow c.args.p 0 s) (sym c.row-segment.ensures)
      (c.requires.z_in_bounds.3 c.args.g c.requires.z_in_bounds.4 (not-false (get_or c.args.kept.now c.args.g false) c.if-not-kept-g.false-raw)),
  omega (arith, c.requires.z_in_bounds, (ranged c.args.p c.requires.p_value).zones_high),
)

pub returns : goal.returns
returns c =
    let a = c.args in
    λ d z x y. c.own_zones.ensures d z x y
    ∙ ap₂ (λ (b : Bool) (s : Seg). cond (b && eqb z (zone_on s d)) a.g (get_or a.owners.now (d * a.p.Z + z) 0))
    (sym (not-false (get_or a.kept.now a.g false) c.if-not-kept-g.false-raw)) c.row-segment.ensures
