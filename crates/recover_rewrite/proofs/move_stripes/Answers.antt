-- `move_stripes`: what is left to move are the counted stripes from base on, and next is at most base; one turn moves a group, or is cut. Assumes nothing.
use Prim.Native.Nat.{ℕ, ◌+◌, ◌-◌}
use Rattle.spec.specs.Drives.{mk_disk}
use Rattle.spec.specs.Segments.{Segment, segment_of, counted}
use Rattle.recover_groups.specs.Bases.{group_len_le}
use Rattle.recover_groups.specs.Groups.{group_len, recs_fault}
use Rattle.law_basic.specs.Geometry.{ranged, base_next}
use Rattle.recover_rewrite.specs.Due.{counted_from, MovedUpto, from_few, from_none, from-group, from_all, upto_start, upto_as, upto_done, upto_first, upto_cut}
use Rattle.recover_rewrite.specs.Due.{upto_turn, upto_in, upto_sealed, upto_step, upto_fits, group_at_of, unmoved, bases_first}
use Rattle.law_views.specs.Views.{seen}
use mathlib.Core.Bool.{false}
use mathlib.Core.List.{List, [], ◌++◌}
use mathlib.Core.Path.{◌≡◌, refl, sym, ◌∙◌, subst}
use native.Mathlib.Omega.{arith}
use Rattle.std.specs.Prelude.{Ok, Err}
use Rattle.disk_zones.specs.Made.{storing_exit}
use Rattle.recover_rewrite.proofs.move_stripes.Goals as goal
use Rattle.recover_rewrite.proofs.move_stripes.Goals.{In_ok-m}

pub nonzero_div-base-step : goal.nonzero_div-base-step
nonzero_div-base-step c = omega (arith, (ranged c.args.p c.requires.p_value).group-low)

pub loop-base-init : goal.loop-base-init
loop-base-init c =
    let args = c.args in
    let pre = c.requires in (
      bases_first args.p (ranged args.p pre.p_value).group-low,
      refl,
      omega (arith, (ranged args.p pre.p_value).stripes_low),
      refl,
      refl,
      omega arith,
      λ off. upto_as args.p (ranged args.p pre.p_value) off
          (segment_of args.p (seen args.p off (mk_disk args.image.now args.pointers.now)) 0 args.seg) args.to args.seg
          pre.zones_low.0 pre.zones_low.2 (unmoved args.count) (mk_disk args.image.now args.pointers.now)
          (counted args.p 0 (segment_of args.p (seen args.p off (mk_disk args.image.now args.pointers.now)) 0 args.seg))
          (counted args.p 0 (segment_of args.p (seen args.p off (mk_disk args.image.now args.pointers.now)) 0 args.seg))
          (counted_from args.p (segment_of args.p (seen args.p off (mk_disk args.image.now args.pointers.now)) 0 args.seg) 0
          (args.p.S - 0)) (unmoved args.count) (mk_disk args.image.now args.pointers.now)
          (from_all args.p (segment_of args.p (seen args.p off (mk_disk args.image.now args.pointers.now)) 0 args.seg))
          (upto_start args.p (ranged args.p pre.p_value) off
          (segment_of args.p (seen args.p off (mk_disk args.image.now args.pointers.now)) 0 args.seg) args.to args.seg
          pre.zones_low.0 pre.zones_low.2 (unmoved args.count) (mk_disk args.image.now args.pointers.now)
          (counted args.p 0 (segment_of args.p (seen args.p off (mk_disk args.image.now args.pointers.now)) 0 args.seg)) pre.whole
          (pre.by_index_2 off)),
    )

pub slice_bounds-move_group-end : goal.slice_bounds-move_group-end
slice_bounds-move_group-end c =
    let loop = c.loop-base in
    sym loop.invariant.1

pub move_group-requires : goal.move_group-requires
move_group-requires c =
    let loop = c.loop-base in
    let args = c.args in
    let pre = c.requires in record {
      p_value = pre.p_value;
      whole = (loop.invariant.6 []).moves.going.whole;
      at_len = (loop.invariant.1, pre.zones_low.0, loop.invariant.2, loop.invariant.0, refl);
      by_index = λ off. (
        sym (pre.by_index off).0
            ∙ upto_sealed args.p (ranged args.p pre.p_value) off (group_at_of args.seg loop.base) refl args.to (unmoved args.count)
            (mk_disk args.image.now args.pointers.now)
            (counted args.p 0 (segment_of args.p (seen args.p off (mk_disk args.image.now args.pointers.now)) 0 args.seg))
            (counted_from args.p (segment_of args.p (seen args.p off (mk_disk args.image.now args.pointers.now)) 0 args.seg)
            loop.base (args.p.S - loop.base)) loop.m (mk_disk loop.image loop.pointers) (loop.invariant.6 off),
        subst
            (λ (y : Segment). recs_fault args.p 0 y ≡ false)
            (upto_in args.p (ranged args.p pre.p_value) off (group_at_of args.seg loop.base) refl args.to (unmoved args.count)
            (mk_disk args.image.now args.pointers.now)
            (counted args.p 0 (segment_of args.p (seen args.p off (mk_disk args.image.now args.pointers.now)) 0 args.seg))
            (counted_from args.p (segment_of args.p (seen args.p off (mk_disk args.image.now args.pointers.now)) 0 args.seg)
            loop.base (args.p.S - loop.base)) loop.m (mk_disk loop.image loop.pointers) (loop.invariant.6 off)) (pre.by_index off).1,
      );
      zones_low = (pre.zones_low.1, loop.invariant.5, pre.zones_low.2);
      by_index_2 = λ off. upto_fits args.p (ranged args.p pre.p_value) off (group_at_of args.seg loop.base) refl args.to (unmoved args.count)
          (mk_disk args.image.now args.pointers.now)
          (counted args.p 0 (segment_of args.p (seen args.p off (mk_disk args.image.now args.pointers.now)) 0 args.seg))
          (counted_from args.p (segment_of args.p (seen args.p off (mk_disk args.image.now args.pointers.now)) 0 args.seg)
          loop.base (args.p.S - loop.base)) loop.m (mk_disk loop.image loop.pointers) (loop.invariant.6 off)
          (λ (y : Segment). counted_from args.p y loop.base (group_len args.p loop.base)) loop.m.next
          (upto_first args.p (ranged args.p pre.p_value) off
          (segment_of args.p (seen args.p off (mk_disk args.image.now args.pointers.now)) 0 args.seg) args.to args.seg
          pre.zones_low.0 pre.zones_low.2 (unmoved args.count) (mk_disk args.image.now args.pointers.now)
          (counted args.p 0 (segment_of args.p (seen args.p off (mk_disk args.image.now args.pointers.now)) 0 args.seg))
          (counted_from args.p (segment_of args.p (seen args.p off (mk_disk args.image.now args.pointers.now)) 0 args.seg)
          loop.base (group_len args.p loop.base))
          (counted_from args.p (segment_of args.p (seen args.p off (mk_disk args.image.now args.pointers.now)) 0 args.seg)
          (loop.base + args.p.G) (args.p.S - (loop.base + args.p.G))) loop.m (mk_disk loop.image loop.pointers)
          (upto_as args.p (ranged args.p pre.p_value) off
          (segment_of args.p (seen args.p off (mk_disk args.image.now args.pointers.now)) 0 args.seg) args.to args.seg
          pre.zones_low.0 pre.zones_low.2 (unmoved args.count) (mk_disk args.image.now args.pointers.now)
          (counted args.p 0 (segment_of args.p (seen args.p off (mk_disk args.image.now args.pointers.now)) 0 args.seg))
          (counted_from args.p (segment_of args.p (seen args.p off (mk_disk args.image.now args.pointers.now)) 0 args.seg)
          loop.base (args.p.S - loop.base))
          ((counted_from args.p (segment_of args.p (seen args.p off (mk_disk args.image.now args.pointers.now)) 0 args.seg)
          loop.base (group_len args.p loop.base)) ++
          (counted_from args.p (segment_of args.p (seen args.p off (mk_disk args.image.now args.pointers.now)) 0 args.seg)
          (loop.base + args.p.G) (args.p.S - (loop.base + args.p.G)))) loop.m (mk_disk loop.image loop.pointers)
          (from-group args.p (segment_of args.p (seen args.p off (mk_disk args.image.now args.pointers.now)) 0 args.seg)
          loop.base loop.invariant.2) (loop.invariant.6 off)));
    }

pub shape_of-image-in_err-m : goal.shape_of-image-in_err-m
shape_of-image-in_err-m c =
    let move-group = c.move_group in
    let loop = c.loop-base in
    move-group.auto.image ∙ loop.invariant.3

pub shape_of-pointers-in_err-m : goal.shape_of-pointers-in_err-m
shape_of-pointers-in_err-m c =
    let move-group = c.move_group in
    let loop = c.loop-base in
    move-group.auto.pointers ∙ loop.invariant.4

pub returns-in_err-m : goal.returns-in_err-m
returns-in_err-m c =
    let move-group = c.move_group in
    let loop = c.loop-base in
    let args = c.args in
    let pre = c.requires in
    λ off. storing_exit c.from_residual.result c.from_residual.ensures.0 (upto_cut args.p (ranged args.p pre.p_value) off
    (segment_of args.p (seen args.p off (mk_disk args.image.now args.pointers.now)) 0 args.seg) args.to args.seg pre.zones_low.0
    pre.zones_low.2 (unmoved args.count) (mk_disk args.image.now args.pointers.now)
    (counted args.p 0 (segment_of args.p (seen args.p off (mk_disk args.image.now args.pointers.now)) 0 args.seg))
    (counted_from args.p (segment_of args.p (seen args.p off (mk_disk args.image.now args.pointers.now)) 0 args.seg) loop.base
    (group_len args.p loop.base)) (counted_from args.p
    (segment_of args.p (seen args.p off (mk_disk args.image.now args.pointers.now)) 0 args.seg) (loop.base + args.p.G)
    (args.p.S - (loop.base + args.p.G))) loop.m (mk_disk loop.image loop.pointers)
    (upto_as args.p (ranged args.p pre.p_value) off
    (segment_of args.p (seen args.p off (mk_disk args.image.now args.pointers.now)) 0 args.seg) args.to args.seg
    pre.zones_low.0 pre.zones_low.2 (unmoved args.count) (mk_disk args.image.now args.pointers.now)
    (counted args.p 0 (segment_of args.p (seen args.p off (mk_disk args.image.now args.pointers.now)) 0 args.seg))
    (counted_from args.p (segment_of args.p (seen args.p off (mk_disk args.image.now args.pointers.now)) 0 args.seg) loop.base
    (args.p.S - loop.base)) ((counted_from args.p
    (segment_of args.p (seen args.p off (mk_disk args.image.now args.pointers.now)) 0 args.seg) loop.base
    (group_len args.p loop.base)) ++ (counted_from args.p
    (segment_of args.p (seen args.p off (mk_disk args.image.now args.pointers.now)) 0 args.seg) (loop.base + args.p.G)
    (args.p.S - (loop.base + args.p.G)))) loop.m (mk_disk loop.image loop.pointers)
    (from-group args.p (segment_of args.p (seen args.p off (mk_disk args.image.now args.pointers.now)) 0 args.seg) loop.base
    loop.invariant.2) (loop.invariant.6 off)) (mk_disk move-group.new.image move-group.new.pointers)
    (upto_step args.p (ranged args.p pre.p_value) off (group_at_of args.seg loop.base) refl args.to (unmoved args.count)
    (mk_disk args.image.now args.pointers.now)
    (counted args.p 0 (segment_of args.p (seen args.p off (mk_disk args.image.now args.pointers.now)) 0 args.seg))
    (counted_from args.p (segment_of args.p (seen args.p off (mk_disk args.image.now args.pointers.now)) 0 args.seg) loop.base
    (args.p.S - loop.base)) loop.m (mk_disk loop.image loop.pointers) (loop.invariant.6 off)
    (λ (y : Segment). counted_from args.p y loop.base (group_len args.p loop.base)) (Err (record {}))
    (mk_disk move-group.new.image move-group.new.pointers) (c.in_err-m.ensures off))).stored

-- a group is moved, then the counted stripes behind it
turn : (c : In_ok-m) (off : List ℕ)
    → MovedUpto c.args.p off (segment_of c.args.p (seen c.args.p off (mk_disk c.args.image.now c.args.pointers.now)) 0 c.args.seg) c.args.to c.args.seg (unmoved c.args.count)
    (mk_disk c.args.image.now c.args.pointers.now) (counted c.args.p 0 (segment_of c.args.p (seen c.args.p off (mk_disk c.args.image.now c.args.pointers.now)) 0 c.args.seg))
    (counted_from c.args.p (segment_of c.args.p (seen c.args.p off (mk_disk c.args.image.now c.args.pointers.now)) 0 c.args.seg)
    (c.loop-base.base + c.args.p.G) (c.args.p.S - (c.loop-base.base + c.args.p.G))) c.in_ok-m.m (mk_disk c.move_group.new.image c.move_group.new.pointers)
turn c off =
    let loop = c.loop-base in
    let args = c.args in
    let pre = c.requires in
    upto_turn args.p (ranged args.p pre.p_value) off
    (segment_of args.p (seen args.p off (mk_disk args.image.now args.pointers.now)) 0 args.seg) args.to
    args.seg pre.zones_low.0
    pre.zones_low.2 (unmoved args.count) (mk_disk args.image.now args.pointers.now)
    (counted args.p 0 (segment_of args.p (seen args.p off (mk_disk args.image.now args.pointers.now)) 0 args.seg))
    (counted_from args.p (segment_of args.p (seen args.p off (mk_disk args.image.now args.pointers.now)) 0 args.seg) loop.base
    (group_len args.p loop.base)) (counted_from args.p
    (segment_of args.p (seen args.p off (mk_disk args.image.now args.pointers.now)) 0 args.seg) (loop.base + args.p.G)
    (args.p.S - (loop.base + args.p.G))) loop.m (mk_disk loop.image loop.pointers)
    (upto_as args.p (ranged args.p pre.p_value) off
    (segment_of args.p (seen args.p off (mk_disk args.image.now args.pointers.now)) 0 args.seg) args.to
    args.seg pre.zones_low.0
    pre.zones_low.2 (unmoved args.count) (mk_disk args.image.now args.pointers.now)
    (counted args.p 0 (segment_of args.p (seen args.p off (mk_disk args.image.now args.pointers.now)) 0 args.seg))
    (counted_from args.p (segment_of args.p (seen args.p off (mk_disk args.image.now args.pointers.now)) 0 args.seg) loop.base
    (args.p.S - loop.base)) ((counted_from args.p
    (segment_of args.p (seen args.p off (mk_disk args.image.now args.pointers.now)) 0 args.seg) loop.base
    (group_len args.p loop.base)) ++ (counted_from args.p
    (segment_of args.p (seen args.p off (mk_disk args.image.now args.pointers.now)) 0 args.seg) (loop.base + args.p.G)
    (args.p.S - (loop.base + args.p.G)))) loop.m (mk_disk loop.image loop.pointers)
    (from-group args.p (segment_of args.p (seen args.p off (mk_disk args.image.now args.pointers.now)) 0 args.seg) loop.base
    loop.invariant.2) (loop.invariant.6 off)) c.in_ok-m.m (mk_disk c.move_group.new.image c.move_group.new.pointers)
    (upto_step args.p (ranged args.p pre.p_value) off (group_at_of args.seg loop.base) refl args.to (unmoved args.count)
    (mk_disk args.image.now args.pointers.now)
    (counted args.p 0 (segment_of args.p (seen args.p off (mk_disk args.image.now args.pointers.now)) 0 args.seg))
    (counted_from args.p (segment_of args.p (seen args.p off (mk_disk args.image.now args.pointers.now)) 0 args.seg) loop.base
    (args.p.S - loop.base)) loop.m (mk_disk loop.image loop.pointers) (loop.invariant.6 off)
    (λ (y : Segment). counted_from args.p y loop.base (group_len args.p loop.base)) (Ok c.in_ok-m.m)
    (mk_disk c.move_group.new.image c.move_group.new.pointers) (c.in_ok-m.ensures off))

pub loop-base-smaller : goal.loop-base-smaller
loop-base-smaller c = omega (arith, (ranged c.args.p c.requires.p_value).group-low)

pub loop-base-preserved : goal.loop-base-preserved
loop-base-preserved c =
    let move-group = c.move_group in
    let loop = c.loop-base in
    let args = c.args in
    let pre = c.requires in (
      base_next loop.base args.p.G loop.invariant.0,
      move-group.auto.at ∙ loop.invariant.1,
      omega arith,
      move-group.auto.image ∙ loop.invariant.3,
      move-group.auto.pointers ∙ loop.invariant.4,
      omega (
        arith,
        loop.invariant.5,
        (upto_step args.p (ranged args.p pre.p_value) [] (group_at_of args.seg loop.base) refl args.to (unmoved args.count)
            (mk_disk args.image.now args.pointers.now)
            (counted args.p 0 (segment_of args.p (seen args.p [] (mk_disk args.image.now args.pointers.now)) 0 args.seg))
            (counted_from args.p (segment_of args.p (seen args.p [] (mk_disk args.image.now args.pointers.now)) 0 args.seg) loop.base
            (args.p.S - loop.base)) loop.m (mk_disk loop.image loop.pointers) (loop.invariant.6 [])
            (λ (y : Segment). counted_from args.p y loop.base (group_len args.p loop.base)) (Ok c.in_ok-m.m)
            (mk_disk move-group.new.image move-group.new.pointers) (c.in_ok-m.ensures [])).number,
        from_few args.p (segment_of args.p (seen args.p [] (mk_disk args.image.now args.pointers.now)) 0 args.seg) loop.base
            (group_len args.p loop.base),
        group_len_le args.p loop.base,
      ),
      turn (goal.at.loop-base-preserved c).In_ok-m,
    )

pub returns-in_ok-m : goal.returns-in_ok-m
returns-in_ok-m c =
    let args = c.args in
    let pre = c.requires in
    let m = c.in_ok-m.m in
    let base = c.loop-base.base + args.p.G in
    let k = mk_disk c.move_group.new.image c.move_group.new.pointers in
    let k₀ = mk_disk args.image.now args.pointers.now in
    λ off.
    let g = segment_of args.p (seen args.p off k₀) 0 args.seg in
    let r = ranged args.p pre.p_value in
    (upto_done args.p r off g args.to args.seg pre.zones_low.0 pre.zones_low.2 (unmoved args.count) k₀ (counted args.p 0 g) m k
    (upto_as args.p r off g args.to args.seg pre.zones_low.0 pre.zones_low.2 (unmoved args.count) k₀ (counted args.p 0 g) (counted_from args.p g base (args.p.S - base)) [] m k
    (from_none args.p g base (args.p.S - base) (omega arith)) (turn (goal.at.returns-in_ok-m c).In_ok-m off))).stored
