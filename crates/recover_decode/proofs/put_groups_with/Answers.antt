-- `put_groups_with`: what is owed are the lost chunks from stripe base on; one turn pays a group, or is cut, and at S nothing is owed. Assumes nothing.
use mathlib.Core.Path.{refl, sym, ◌∙◌}
use mathlib.Core.List.{List, []}
use Prim.Native.Nat.{ℕ, ◌+◌}
use native.Mathlib.Omega.{arith}
use Rattle.spec.specs.Drives.{mk_disk}
use Rattle.law_basic.specs.Geometry.{ranged}
use Rattle.recover_decode.specs.Group.{Groups, groups_start, groups_done, groups_fit, groups_full, groups_sound, groups_cut, groups_turn}
use Rattle.disk_zones.specs.Made.{storing_exit}
use Rattle.recover_decode.proofs.put_groups_with.Goals as goal
use Rattle.recover_decode.proofs.put_groups_with.Goals.{In_ok-left}

pub nonzero_div-base-step : goal.nonzero_div-base-step
nonzero_div-base-step c = omega (arith, (ranged c.args.p c.requires.p_value).group-low)

pub loop-base-init : goal.loop-base-init
loop-base-init c =
    let a = c.args in
    let q = c.requires in (
      refl,
      omega (arith, (ranged a.p q.p_value).stripes_low),
      λ off. groups_start a.p off a.gone a.seg a.drive a.count (mk_disk a.image.now a.pointers.now)
          (ranged a.p q.p_value) q.whole (q.by_index_3 off),
    )

pub put_group-requires : goal.put_group-requires
put_group-requires c =
    let a = c.args in
    let q = c.requires in
    let l = c.loop-base in
    let h = l.invariant.1 in record {
      p_value = q.p_value;
      whole = (l.invariant.2 []).moving.going.whole;
      lacks = q.lacks;
      at_len = (l.invariant.0 ∙ q.at_len.0, q.at_len.1, h, (l.invariant.2 []).first, q.at_len.2);
      by_index = λ off. groups_full a.p (ranged a.p q.p_value) off a.gone a.seg a.drive a.count (mk_disk a.image.now a.pointers.now)
          q.lacks q.at_len.1 l.base l.left (mk_disk l.image l.pointers) (l.invariant.2 off) h a.full (q.by_index off);
      by_index_2 = λ off. groups_sound a.p (ranged a.p q.p_value) off a.gone a.seg a.drive a.count (mk_disk a.image.now a.pointers.now)
          q.lacks q.at_len.1 l.base l.left (mk_disk l.image l.pointers) (l.invariant.2 off) h (q.by_index_2 off);
      by_index_3 = λ off. groups_fit a.p (ranged a.p q.p_value) off a.gone a.seg a.drive a.count (mk_disk a.image.now a.pointers.now)
          q.lacks q.at_len.1 l.base l.left (mk_disk l.image l.pointers) (l.invariant.2 off) h;
    }

pub shape_of-image-in_err-left : goal.shape_of-image-in_err-left
shape_of-image-in_err-left c =
    let put-group = c.put_group in
    let loop = c.loop-base in
    let pre = c.requires in
    put-group.auto.image ∙ (loop.invariant.2 []).moving.going.whole.image_long ∙ sym pre.whole.image_long

pub shape_of-pointers-in_err-left : goal.shape_of-pointers-in_err-left
shape_of-pointers-in_err-left c =
    let put-group = c.put_group in
    let loop = c.loop-base in
    let pre = c.requires in
    put-group.auto.pointers ∙ (loop.invariant.2 []).moving.going.whole.pointers_long ∙ sym pre.whole.pointers_long

pub shape_of-at-in_err-left : goal.shape_of-at-in_err-left
shape_of-at-in_err-left c =
    let put-group = c.put_group in
    let loop = c.loop-base in
    put-group.auto.at ∙ loop.invariant.0

pub returns-in_err-left : goal.returns-in_err-left
returns-in_err-left c =
    let a = c.args in
    let q = c.requires in
    let l = c.loop-base in
    let put-group = c.put_group in
    λ off. storing_exit c.from_residual.result c.from_residual.ensures.0 (groups_cut a.p (ranged a.p q.p_value) off a.gone a.seg a.drive a.count (mk_disk a.image.now a.pointers.now) q.lacks
    q.at_len.1 l.base l.left (mk_disk l.image l.pointers) (l.invariant.2 off) l.invariant.1
    (mk_disk put-group.new.image put-group.new.pointers) (c.in_err-left.ensures off))

-- a group's chunks are paid
turn : (c : In_ok-left) (off : List ℕ)
    → Groups c.args.p off c.args.gone c.args.seg c.args.drive c.args.count (mk_disk c.args.image.now c.args.pointers.now) (c.loop-base.base + c.args.p.G) c.in_ok-left.left
    (mk_disk c.put_group.new.image c.put_group.new.pointers)
turn c off =
    let a = c.args in
    let q = c.requires in
    let l = c.loop-base in
    groups_turn a.p (ranged a.p q.p_value) off a.gone a.seg a.drive a.count (mk_disk a.image.now a.pointers.now) q.lacks q.at_len.1 l.base l.left (mk_disk l.image l.pointers)
    (l.invariant.2 off) l.invariant.1 c.in_ok-left.left (mk_disk c.put_group.new.image c.put_group.new.pointers) (c.in_ok-left.ensures off)

pub loop-base-smaller : goal.loop-base-smaller
loop-base-smaller c = omega (arith, (ranged c.args.p c.requires.p_value).group-low)

pub loop-base-preserved : goal.loop-base-preserved
loop-base-preserved c = (c.put_group.auto.at ∙ c.loop-base.invariant.0, omega arith, turn (goal.at.loop-base-preserved c).In_ok-left)

pub returns-in_ok-left : goal.returns-in_ok-left
returns-in_ok-left c =
    let a = c.args in
    λ off. groups_done a.p off a.gone a.seg a.drive a.count (mk_disk a.image.now a.pointers.now) (c.loop-base.base + a.p.G) c.in_ok-left.left
    (mk_disk c.put_group.new.image c.put_group.new.pointers) (turn (goal.at.returns-in_ok-left c).In_ok-left off) (omega arith)
