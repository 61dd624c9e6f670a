-- `rebuild_zones`: what is owed are the segments with serials above last, their zones still empty; one turn pays that with the least, or is cut. Assumes nothing.
use mathlib.Core.Path.{◌≡◌, sym, ◌∙◌, subst}
use mathlib.Core.Bool.{false}
use mathlib.Core.List.{List, []}
use Prim.Native.Nat.{ℕ, ◌*◌, ◌<◌}
use native.Mathlib.Omega.{arith}
use Rattle.spec.specs.Bytes.{part}
use Rattle.spec.specs.Drives.{mk_disk, pointer_of, zone_on, seg}
use Rattle.spec.specs.Params.{named}
use Rattle.spec.specs.Rebuild.{rebuilt_zone}
use Rattle.spec.specs.Segments.{segment_of}
use Rattle.spec.specs.declared.Seg.{Seg}
use Rattle.law_basic.specs.Geometry.{ranged}
use Rattle.law_basic.specs.Segs.{ZonesLow}
use Rattle.law_views.specs.Views.{AllFit, seen}
use Rattle.disk_zones.specs.Made.{Storing}
use Rattle.recover_groups.specs.Groups.{recs_fault}
use Rattle.recover_rebuild.specs.Drive.{zones_start, zones_done, zones_fit, zones_good, zones_cut, zones_turn}
use Rattle.std.specs.Prelude.{Result, Ok}
use Rattle.disk_zones.specs.declared.TooFew.{TooFew}
use Rattle.disk_zones.specs.Made.{too_few, storing_exit}
use Rattle.recover_rebuild.proofs.rebuild_zones.Goals as goal
use Rattle.recover_rebuild.proofs.rebuild_zones.Goals.{After-rebuild_zone}

pub next_zone-z-requires : goal.next_zone-z-requires
next_zone-z-requires c =
    let ra = c.requires.gone_value.2 in
    (ra.flags_long, ra.serials_long)

pub loop-z-init : goal.loop-z-init
loop-z-init c =
    let a = c.args in
    let q = c.requires in (
      λ off. zones_start a.p off a.drive a.count a.kept.now a.serials.now a.rows.now (mk_disk a.image.now a.pointers.now) q.whole
          (q.by_index_2 off) q.zones_empty,
      c.next_zone-z.ensures,
    )

pub row-segment-requires : goal.row-segment-requires
row-segment-requires c =
    let q = c.requires in
    let h = c.loop-z-test.true in
    (omega (arith, h, q.gone_value.2.rows_long), omega (arith, h, (ranged c.args.p q.p_value).zones_high))

pub rebuild_zone-requires : goal.rebuild_zone-requires
rebuild_zone-requires c =
    let a = c.args in
    let q = c.requires in
    let l = c.loop-z in
    let p = a.p in
    let d = a.drive in
    let r = ranged p q.p_value in
    let h = c.loop-z-test.true in
    let ra = q.gone_value.2 in
    let hd = q.gone_value.1 in
    let x = l.invariant.1 in
    let f = (x.is_one h).0 in
    let k₀ = mk_disk a.image.now a.pointers.now in
    let k = mk_disk l.image l.pointers in
    let ea = sym c.row-segment.ensures in record {
      p_value = q.p_value;
      whole = (l.invariant.0 []).moving.going.whole;
      gone_value = (
        q.gone_value.0,
        hd,
        subst (λ (y : Seg). ZonesLow p (named d) y) ea (ra.zones_low l.z h f),
        subst (λ (y : Seg). pointer_of p l.pointers d (zone_on y d) ≡ 0) ea ((l.invariant.0 []).empty l.z h f (x.is_one h).1),
        subst (λ (y : Seg). zone_on y d < p.Z) ea (ra.zone_low l.z h f),
      );
      by_index = λ off. subst (λ (y : Seg). recs_fault p (named d) (segment_of p (seen p off k) (named d) y) ≡ false) ea
          (zones_good p r off d a.count hd a.kept.now a.serials.now a.rows.now ra k₀ l.last l.left k (l.invariant.0 off) l.z x h (q.by_index off));
      by_index_2 = λ off. subst (λ (y : Seg). AllFit p (seen p off k) (rebuilt_zone p d (segment_of p (seen p off k) (named d) y))) ea
          (zones_fit p r off d a.count hd a.kept.now a.serials.now a.rows.now ra k₀ l.last l.left k (l.invariant.0 off) l.z x h);
    }

-- what is made is of the segment of the row
made_is :
    (c : After-rebuild_zone) (off : List ℕ) (m : Result ℕ TooFew)
    → let a = c.args in
    let l = c.loop-z in
    let k = mk_disk l.image l.pointers in
    let k' = mk_disk c.rebuild_zone.new.image c.rebuild_zone.new.pointers in
    Storing a.p l.left (rebuilt_zone a.p a.drive (segment_of a.p (seen a.p off k) (named a.drive) c.row-segment.result)) k m k'
    → Storing a.p l.left (rebuilt_zone a.p a.drive (segment_of a.p (seen a.p off k) (named a.drive) (seg (part (8 * l.z) 8 a.rows.now)))) k m k'
made_is c off m s =
    let a = c.args in
    let l = c.loop-z in
    let k = mk_disk l.image l.pointers in
    subst
    (λ (y : Seg). Storing a.p l.left (rebuilt_zone a.p a.drive (segment_of a.p (seen a.p off k) (named a.drive) y))
    k m (mk_disk c.rebuild_zone.new.image c.rebuild_zone.new.pointers)) c.row-segment.ensures s

pub shape_of-image-in_err-left : goal.shape_of-image-in_err-left
shape_of-image-in_err-left c =
    let z = c.rebuild_zone in
    let l = c.loop-z in
    let pre = c.requires in
    z.auto.image ∙ (l.invariant.0 []).moving.going.whole.image_long ∙ sym pre.whole.image_long

pub shape_of-pointers-in_err-left : goal.shape_of-pointers-in_err-left
shape_of-pointers-in_err-left c =
    let z = c.rebuild_zone in
    let l = c.loop-z in
    let pre = c.requires in
    z.auto.pointers ∙ (l.invariant.0 []).moving.going.whole.pointers_long ∙ sym pre.whole.pointers_long

pub returns-in_err-left : goal.returns-in_err-left
returns-in_err-left c =
    let a = c.args in
    let q = c.requires in
    let l = c.loop-z in
    let if1 = c.loop-z-test in
    let z = c.rebuild_zone in
    λ off. storing_exit c.from_residual.result c.from_residual.ensures.0 (zones_cut a.p (ranged a.p q.p_value) off a.drive a.count q.gone_value.1 a.kept.now a.serials.now a.rows.now q.gone_value.2
    (mk_disk a.image.now a.pointers.now) l.last l.left (mk_disk l.image l.pointers) (l.invariant.0 off) l.z l.invariant.1 if1.true
    (mk_disk z.new.image z.new.pointers) (made_is (goal.at.returns-in_err-left c).After-rebuild_zone off too_few (c.in_err-left.ensures off)))

pub offset_bounds-serials-z : goal.offset_bounds-serials-z
offset_bounds-serials-z c =
    let if1 = c.loop-z-test in
    omega (arith, if1.true, (ranged c.args.p c.requires.p_value).zones_high)

pub bounds-serials-z : goal.bounds-serials-z
bounds-serials-z c =
    let if1 = c.loop-z-test in
    let pre = c.requires in
    omega (arith, if1.true, pre.gone_value.2.serials_long)

pub next_zone-z-requires-in-loop-z : goal.next_zone-z-requires-in-loop-z
next_zone-z-requires-in-loop-z c =
    let ra = c.requires.gone_value.2 in
    (ra.flags_long, ra.serials_long)

pub loop-z-smaller : goal.loop-z-smaller
loop-z-smaller c =
    let l = c.loop-z in
    let if1 = c.loop-z-test in
    let known = c.shared_slice_known-2-1 in
    omega (arith, (l.invariant.1.is_one if1.true).1, known.given l.z)

pub loop-z-preserved : goal.loop-z-preserved
loop-z-preserved c =
    let a = c.args in
    let q = c.requires in
    let l = c.loop-z in
    let if1 = c.loop-z-test in
    let z = c.rebuild_zone in (
      λ off. zones_turn a.p (ranged a.p q.p_value) off a.drive a.count q.gone_value.1 a.kept.now a.serials.now a.rows.now q.gone_value.2
          (mk_disk a.image.now a.pointers.now) l.last l.left (mk_disk l.image l.pointers) (l.invariant.0 off) l.z l.invariant.1 if1.true
          c.in_ok-left.left (mk_disk z.new.image z.new.pointers)
          (made_is (goal.at.loop-z-preserved c).After-rebuild_zone off (Ok c.in_ok-left.left) (c.in_ok-left.ensures off)),
      c.next_zone-z-in-loop-z.ensures,
    )

pub shape_of-image : goal.shape_of-image
shape_of-image c = (c.loop-z.invariant.0 []).moving.going.whole.image_long ∙ sym c.requires.whole.image_long

pub shape_of-pointers : goal.shape_of-pointers
shape_of-pointers c = (c.loop-z.invariant.0 []).moving.going.whole.pointers_long ∙ sym c.requires.whole.pointers_long

pub returns : goal.returns
returns c =
    let a = c.args in
    let l = c.loop-z in
    λ off. zones_done a.p off a.drive a.count a.kept.now a.serials.now a.rows.now (mk_disk a.image.now a.pointers.now) l.last l.left
    (mk_disk l.image l.pointers) (l.invariant.0 off) l.z l.invariant.1 (omega (arith, c.loop-z-test.false))
