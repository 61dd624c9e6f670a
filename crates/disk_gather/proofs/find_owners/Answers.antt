-- `find_owners`: below g each zone has the last kept row that has it; a turn puts row g (`owner_more`). Assumes nothing.
use Prim.Native.Nat.{◌+◌, ◌*◌}
use Rattle.disk_gather.specs.Owners.{row_seg, owner_of, owner_none, owner_more}
use Rattle.law_basic.specs.Geometry.{zone_index_lt}
use Rattle.spec.specs.Drives.{zone_on}
use lib.Dec.{eqb}
use lib.ListN.{get_or}
use mathlib.Core.Bool.{false, cond, ◌&&◌}
use mathlib.Core.Path.{◌≡◌, refl, sym, ap, ◌∙◌}
use native.Mathlib.Omega.{arith}
use Rattle.disk_gather.proofs.find_owners.Goals as goal

pub loop-g-init : goal.loop-g-init
loop-g-init c =
    let a = c.args in
    (omega arith, refl, λ d z x y. c.requires.by_index (d * a.p.Z + z) (zone_index_lt a.p d z x y) ∙ sym (owner_none a.rows.now a.kept.now d z))

pub loop-g-preserved : goal.loop-g-preserved
loop-g-preserved c =
    let a = c.args in
    let l = c.loop-g in
    let own = c.own_kept in (
      omega (arith, c.loop-g-test.true),
      own.auto.owners ∙ l.invariant.1,
      (λ d z x y.
          own.ensures d z x y
          ∙ ap (cond (get_or a.kept.now l.g false && eqb z (zone_on (row_seg a.rows.now l.g) d)) l.g) (l.invariant.2 d z x y)
          ∙ sym (owner_more a.rows.now a.kept.now d z l.g)),
    )

pub returns : goal.returns
returns c =
    let a = c.args in
    let l = c.loop-g in
    let e : l.g ≡ a.p.Z = omega (arith, c.loop-g-test.false, l.invariant.0) in
    λ d z x y. l.invariant.2 d z x y ∙ ap (owner_of a.rows.now a.kept.now d z) e
