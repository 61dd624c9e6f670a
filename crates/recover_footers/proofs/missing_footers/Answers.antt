-- `missing_footers`: what is owed are the footers of the drives from d on, whose zones are as found; a turn pays those of d, or is cut. Assumes nothing.
use Rattle.spec.specs.Drives.{mk_disk}
use Rattle.law_basic.specs.Geometry.{ranged}
use Rattle.recover_footers.specs.Feet.{feet_start, feet_pointer, feet_done, feet_cut, feet_turn}
use mathlib.Core.List.{[]}
use mathlib.Core.Path.{refl, ◌∙◌}
use native.Mathlib.Omega.{arith}
use Rattle.law_basic.specs.Segs.{low_here}
use Rattle.disk_zones.specs.Made.{storing_exit}
use Rattle.recover_footers.proofs.missing_footers.Goals as goal

pub loop-d-init : goal.loop-d-init
loop-d-init c =
    let args = c.args in
    let pre = c.requires in (
      refl,
      refl,
      λ off. feet_start args.p (ranged args.p pre.p_value) off args.count args.segment pre.zones_low.0
          (mk_disk args.image.now args.pointers.now) pre.whole (pre.by_index off),
    )

pub zone_on-zone-requires : goal.zone_on-zone-requires
zone_on-zone-requires c = record { p_value = c.requires.p_value; drive_lt_n = c.loop-d-test.true }

pub missing_on-requires : goal.missing_on-requires
missing_on-requires c =
    let a = c.args in
    let l = c.loop-d in
    let if1 = c.loop-d-test in
    let pre = c.requires in
    let k = (mk_disk a.image.now a.pointers.now) in
    let hz = pre.zones_low.0 in
    let e = feet_pointer a.p (ranged a.p pre.p_value) [] a.count a.segment hz k l.d l.left (mk_disk l.image l.pointers) (l.invariant.2 []) l.d
    (omega arith) if1.true pre.whole in
    let z = c.zone_on-zone.ensures in
    let b = pre.zones_low.1 l.d if1.true in record {
      p_value = pre.p_value;
      whole = (l.invariant.2 []).going.whole;
      drive_lt_n =
          (if1.true, rw z (low_here a.p a.segment l.d hz if1.true), rw (z, e) b.0, rw (z, e) b.1);
    }

pub shape_of-image-in_err-left : goal.shape_of-image-in_err-left
shape_of-image-in_err-left c =
    let missing_on_holds = c.missing_on in
    let loop = c.loop-d in
    missing_on_holds.auto.image ∙ loop.invariant.0

pub shape_of-pointers-in_err-left : goal.shape_of-pointers-in_err-left
shape_of-pointers-in_err-left c =
    let missing_on_holds = c.missing_on in
    let loop = c.loop-d in
    missing_on_holds.auto.pointers ∙ loop.invariant.1

pub returns-in_err-left : goal.returns-in_err-left
returns-in_err-left c =
    let a = c.args in
    let l = c.loop-d in
    let missing_on_holds = c.missing_on in
    let zone_on_holds = c.zone_on-zone in
    let if1 = c.loop-d-test in
    let pre = c.requires in
    λ off. storing_exit c.from_residual.result c.from_residual.ensures.0 (feet_cut a.p (ranged a.p pre.p_value) off a.count a.segment pre.zones_low.0 (mk_disk a.image.now a.pointers.now) l.d l.left
    (mk_disk l.image l.pointers) (l.invariant.2 off) if1.true zone_on_holds.result zone_on_holds.ensures
    (mk_disk missing_on_holds.new.image missing_on_holds.new.pointers) (c.in_err-left.ensures off))

pub loop-d-preserved : goal.loop-d-preserved
loop-d-preserved c =
    let a = c.args in
    let l = c.loop-d in
    let missing_on_holds = c.missing_on in
    let zone_on_holds = c.zone_on-zone in
    let if1 = c.loop-d-test in
    let pre = c.requires in (
      missing_on_holds.auto.image ∙ l.invariant.0,
      missing_on_holds.auto.pointers ∙ l.invariant.1,
      λ off. feet_turn a.p (ranged a.p pre.p_value) off a.count a.segment pre.zones_low.0 (mk_disk a.image.now a.pointers.now) l.d l.left
          (mk_disk l.image l.pointers) (l.invariant.2 off) if1.true zone_on_holds.result zone_on_holds.ensures c.in_ok-left.left
          (mk_disk missing_on_holds.new.image missing_on_holds.new.pointers) (c.in_ok-left.ensures off),
    )

pub shape_of-image : goal.shape_of-image
shape_of-image c = c.loop-d.invariant.0

pub shape_of-pointers : goal.shape_of-pointers
shape_of-pointers c = c.loop-d.invariant.1

pub returns : goal.returns
returns c =
    let a = c.args in
    let l = c.loop-d in
    let pre = c.requires in
    λ off. feet_done a.p (ranged a.p pre.p_value) off a.count a.segment pre.zones_low.0 (mk_disk a.image.now a.pointers.now) l.d l.left
    (mk_disk l.image l.pointers) (l.invariant.2 off) (omega (arith, c.loop-d-test.false))
