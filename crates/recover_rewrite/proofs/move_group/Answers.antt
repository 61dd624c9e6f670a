-- `move_group`: what is left to move are the counted stripes from base + k on; seg stays, and with it the index; a turn moves k or is cut. Assumes nothing.
use Prim.Native.Nat.{ℕ, ◌+◌, ◌-◌}
use Rattle.spec.specs.Drives.{mk_disk}
use Rattle.spec.specs.Segments.{Segment}
use Rattle.recover_groups.specs.Groups.{group_len, segment_in}
use Rattle.law_basic.specs.Geometry.{ranged}
use Rattle.recover_rewrite.specs.Due.{itself, counted_from, itself_few, from_none, from_step, upto_start, upto_as, upto_done, upto_first, upto_cut}
use Rattle.recover_rewrite.specs.Due.{upto_turn, from_start, upto_reads, upto_step, upto_fits}
use mathlib.Core.List.{[], ◌++◌}
use mathlib.Core.Path.{refl, sym, ◌∙◌, subst}
use native.Mathlib.Omega.{arith}
use Rattle.law_basic.specs.Segs.{ZonesLow}
use Rattle.std.specs.Prelude.{Ok, Err}
use Rattle.disk_zones.specs.Made.{only_cut}
use Rattle.recover_rewrite.proofs.move_group.Goals as goal

pub index_group-requires : goal.index_group-requires
index_group-requires c =
    let pre = c.requires in record {
      p_value = pre.p_value;
      whole = pre.whole;
      at_len =
          (pre.at_len.0, subst (λ (x : ℕ). ZonesLow c.args.p x c.args.w.seg) (sym pre.at_len.4) pre.at_len.1, pre.at_len.2, pre.at_len.3);
    }

pub group_len-len-requires : goal.group_len-len-requires
group_len-len-requires c =
    let pre = c.requires in record { p_value = pre.p_value; base_lt_s = pre.at_len.2 }

pub loop-k-init : goal.loop-k-init
loop-k-init c =
    let args = c.args in
    let pre = c.requires in (
      omega arith,
      refl,
      refl,
      omega (arith, pre.zones_low.1),
      λ off. upto_as args.p (ranged args.p pre.p_value) off (segment_in args.p off args.image.now args.pointers.now args.w) args.to
          args.w.seg pre.at_len.1 pre.zones_low.2 args.m (mk_disk args.image.now args.pointers.now)
          (counted_from args.p (segment_in args.p off args.image.now args.pointers.now args.w) args.w.base
          (group_len args.p args.w.base)) (counted_from args.p (segment_in args.p off args.image.now args.pointers.now args.w)
          args.w.base (group_len args.p args.w.base))
          (counted_from args.p (segment_in args.p off args.image.now args.pointers.now args.w) (args.w.base + 0)
          (group_len args.p args.w.base - 0)) args.m (mk_disk args.image.now args.pointers.now)
          (from_start args.p (segment_in args.p off args.image.now args.pointers.now args.w) args.w.base
          (group_len args.p args.w.base)) (upto_start args.p (ranged args.p pre.p_value) off
          (segment_in args.p off args.image.now args.pointers.now args.w) args.to args.w.seg pre.at_len.1
          pre.zones_low.2 args.m (mk_disk args.image.now args.pointers.now)
          (counted_from args.p (segment_in args.p off args.image.now args.pointers.now args.w) args.w.base
          (group_len args.p args.w.base)) pre.whole (pre.by_index_2 off)),
    )

pub move_if-requires : goal.move_if-requires
move_if-requires c =
    let loop-test = c.loop-k-test in
    let loop = c.loop-k in
    let group-len = c.group_len-len in
    let index-group = c.index_group in
    let args = c.args in
    let pre = c.requires in record {
      p_value = pre.p_value;
      whole = (loop.invariant.4 []).moves.going.whole;
      moves_shown = record {
        at_long = index-group.auto.at
            ∙ pre.at_len.0;
        seg-low = pre.at_len.1;
        base_low = pre.at_len.2;
        in_group =
            (omega (arith, group-len.ensures.0, loop-test.true));
        none_gone = pre.at_len.4;
      };
      by_index = λ off. upto_reads args.p (ranged args.p pre.p_value) off args.w pre.at_len.4 args.to args.m
          (mk_disk args.image.now args.pointers.now)
          (counted_from args.p (segment_in args.p off args.image.now args.pointers.now args.w) args.w.base
          (group_len args.p args.w.base)) (counted_from args.p (segment_in args.p off args.image.now args.pointers.now args.w)
          (args.w.base + loop.k) (group_len args.p args.w.base - loop.k)) loop.next (mk_disk loop.image loop.pointers)
          (loop.invariant.4 off) index-group.new.at
          (record { long = pre.whole.pointers_long; full_right = (pre.by_index off).0; indexed = index-group.ensures.by_index_2 off (pre.by_index off).0 (pre.by_index off).1 });
      zones_low = (pre.zones_low.0, loop.invariant.3, pre.zones_low.2);
      by_index_2 = λ off. upto_fits args.p (ranged args.p pre.p_value) off args.w pre.at_len.4 args.to args.m
          (mk_disk args.image.now args.pointers.now)
          (counted_from args.p (segment_in args.p off args.image.now args.pointers.now args.w) args.w.base
          (group_len args.p args.w.base)) (counted_from args.p (segment_in args.p off args.image.now args.pointers.now args.w)
          (args.w.base + loop.k) (group_len args.p args.w.base - loop.k)) loop.next (mk_disk loop.image loop.pointers)
          (loop.invariant.4 off) (λ (y : Segment). itself args.p y (args.w.base + loop.k)) loop.next.next
          (upto_first args.p (ranged args.p pre.p_value) off (segment_in args.p off args.image.now args.pointers.now args.w) args.to
          args.w.seg pre.at_len.1 pre.zones_low.2 args.m (mk_disk args.image.now args.pointers.now)
          (counted_from args.p (segment_in args.p off args.image.now args.pointers.now args.w) args.w.base
          (group_len args.p args.w.base))
          (itself args.p (segment_in args.p off args.image.now args.pointers.now args.w) (args.w.base + loop.k))
          (counted_from args.p (segment_in args.p off args.image.now args.pointers.now args.w) (args.w.base + (loop.k + 1))
          (group_len args.p args.w.base - (loop.k + 1))) loop.next (mk_disk loop.image loop.pointers)
          (upto_as args.p (ranged args.p pre.p_value) off (segment_in args.p off args.image.now args.pointers.now args.w) args.to
          args.w.seg pre.at_len.1 pre.zones_low.2 args.m (mk_disk args.image.now args.pointers.now)
          (counted_from args.p (segment_in args.p off args.image.now args.pointers.now args.w) args.w.base
          (group_len args.p args.w.base)) (counted_from args.p
          (segment_in args.p off args.image.now args.pointers.now args.w) (args.w.base + loop.k)
          (group_len args.p args.w.base - loop.k))
          ((itself args.p (segment_in args.p off args.image.now args.pointers.now args.w) (args.w.base + loop.k)) ++
          (counted_from args.p (segment_in args.p off args.image.now args.pointers.now args.w) (args.w.base + (loop.k + 1))
          (group_len args.p args.w.base - (loop.k + 1)))) loop.next (mk_disk loop.image loop.pointers)
          (from_step args.p (segment_in args.p off args.image.now args.pointers.now args.w) args.w.base loop.k
          (group_len args.p args.w.base) (omega (arith, group-len.ensures.0, loop-test.true))) (loop.invariant.4 off)));
    }

pub shape_of-image-in_err-next : goal.shape_of-image-in_err-next
shape_of-image-in_err-next c =
    let move-if = c.move_if in
    let loop = c.loop-k in
    move-if.auto.image ∙ loop.invariant.1

pub shape_of-pointers-in_err-next : goal.shape_of-pointers-in_err-next
shape_of-pointers-in_err-next c =
    let move-if = c.move_if in
    let loop = c.loop-k in
    move-if.auto.pointers ∙ loop.invariant.2

pub shape_of-at-in_err-next : goal.shape_of-at-in_err-next
shape_of-at-in_err-next c =
    let index-group = c.index_group in
    index-group.auto.at

pub returns-in_err-next : goal.returns-in_err-next
returns-in_err-next c =
    let move-if = c.move_if in
    let loop-test = c.loop-k-test in
    let loop = c.loop-k in
    let group-len = c.group_len-len in
    let args = c.args in
    let pre = c.requires in
    λ off. rw (only_cut c.from_residual.result c.from_residual.ensures.0)
    (upto_cut args.p (ranged args.p pre.p_value) off (segment_in args.p off args.image.now args.pointers.now args.w) args.to args.w.seg
    pre.at_len.1 pre.zones_low.2 args.m (mk_disk args.image.now args.pointers.now)
    (counted_from args.p (segment_in args.p off args.image.now args.pointers.now args.w) args.w.base
    (group_len args.p args.w.base))
    (itself args.p (segment_in args.p off args.image.now args.pointers.now args.w) (args.w.base + loop.k))
    (counted_from args.p (segment_in args.p off args.image.now args.pointers.now args.w) (args.w.base + (loop.k + 1))
    (group_len args.p args.w.base - (loop.k + 1))) loop.next (mk_disk loop.image loop.pointers)
    (upto_as args.p (ranged args.p pre.p_value) off (segment_in args.p off args.image.now args.pointers.now args.w) args.to
    args.w.seg pre.at_len.1 pre.zones_low.2 args.m (mk_disk args.image.now args.pointers.now)
    (counted_from args.p (segment_in args.p off args.image.now args.pointers.now args.w) args.w.base
    (group_len args.p args.w.base)) (counted_from args.p (segment_in args.p off args.image.now args.pointers.now args.w)
    (args.w.base + loop.k) (group_len args.p args.w.base - loop.k))
    ((itself args.p (segment_in args.p off args.image.now args.pointers.now args.w) (args.w.base + loop.k)) ++
    (counted_from args.p (segment_in args.p off args.image.now args.pointers.now args.w) (args.w.base + (loop.k + 1))
    (group_len args.p args.w.base - (loop.k + 1)))) loop.next (mk_disk loop.image loop.pointers)
    (from_step args.p (segment_in args.p off args.image.now args.pointers.now args.w) args.w.base loop.k
    (group_len args.p args.w.base) (omega (arith, group-len.ensures.0, loop-test.true))) (loop.invariant.4 off)) (mk_disk move-if.new.image move-if.new.pointers)
    (upto_step args.p (ranged args.p pre.p_value) off args.w pre.at_len.4 args.to args.m
    (mk_disk args.image.now args.pointers.now)
    (counted_from args.p (segment_in args.p off args.image.now args.pointers.now args.w) args.w.base
    (group_len args.p args.w.base)) (counted_from args.p (segment_in args.p off args.image.now args.pointers.now args.w)
    (args.w.base + loop.k) (group_len args.p args.w.base - loop.k)) loop.next (mk_disk loop.image loop.pointers)
    (loop.invariant.4 off) (λ (y : Segment). itself args.p y (args.w.base + loop.k)) (Err (record {}))
    (mk_disk move-if.new.image move-if.new.pointers) (c.in_err-next.ensures off)))

pub loop-k-preserved : goal.loop-k-preserved
loop-k-preserved c =
    let move-if = c.move_if in
    let loop-test = c.loop-k-test in
    let loop = c.loop-k in
    let group-len = c.group_len-len in
    let args = c.args in
    let pre = c.requires in (
      omega (arith, loop-test.true),
      move-if.auto.image ∙ loop.invariant.1,
      move-if.auto.pointers ∙ loop.invariant.2,
      omega (
        arith,
        loop.invariant.3,
        (upto_step args.p (ranged args.p pre.p_value) [] args.w pre.at_len.4 args.to args.m
            (mk_disk args.image.now args.pointers.now)
            (counted_from args.p (segment_in args.p [] args.image.now args.pointers.now args.w) args.w.base
            (group_len args.p args.w.base)) (counted_from args.p (segment_in args.p [] args.image.now args.pointers.now args.w)
            (args.w.base + loop.k) (group_len args.p args.w.base - loop.k)) loop.next (mk_disk loop.image loop.pointers)
            (loop.invariant.4 []) (λ (y : Segment). itself args.p y (args.w.base + loop.k)) (Ok c.in_ok-next.next)
            (mk_disk move-if.new.image move-if.new.pointers) (c.in_ok-next.ensures [])).number,
        itself_few args.p (segment_in args.p [] args.image.now args.pointers.now args.w) (args.w.base + loop.k),
      ),
      λ off. upto_turn args.p (ranged args.p pre.p_value) off (segment_in args.p off args.image.now args.pointers.now args.w) args.to args.w.seg
          pre.at_len.1 pre.zones_low.2 args.m (mk_disk args.image.now args.pointers.now)
          (counted_from args.p (segment_in args.p off args.image.now args.pointers.now args.w) args.w.base
          (group_len args.p args.w.base))
          (itself args.p (segment_in args.p off args.image.now args.pointers.now args.w) (args.w.base + loop.k))
          (counted_from args.p (segment_in args.p off args.image.now args.pointers.now args.w) (args.w.base + (loop.k + 1))
          (group_len args.p args.w.base - (loop.k + 1))) loop.next (mk_disk loop.image loop.pointers)
          (upto_as args.p (ranged args.p pre.p_value) off (segment_in args.p off args.image.now args.pointers.now args.w) args.to args.w.seg
          pre.at_len.1 pre.zones_low.2 args.m (mk_disk args.image.now args.pointers.now)
          (counted_from args.p (segment_in args.p off args.image.now args.pointers.now args.w) args.w.base
          (group_len args.p args.w.base)) (counted_from args.p (segment_in args.p off args.image.now args.pointers.now args.w)
          (args.w.base + loop.k) (group_len args.p args.w.base - loop.k))
          ((itself args.p (segment_in args.p off args.image.now args.pointers.now args.w) (args.w.base + loop.k)) ++
          (counted_from args.p (segment_in args.p off args.image.now args.pointers.now args.w) (args.w.base + (loop.k + 1))
          (group_len args.p args.w.base - (loop.k + 1)))) loop.next (mk_disk loop.image loop.pointers)
          (from_step args.p (segment_in args.p off args.image.now args.pointers.now args.w) args.w.base loop.k
          (group_len args.p args.w.base) (omega (arith, group-len.ensures.0, loop-test.true))) (loop.invariant.4 off)) c.in_ok-next.next
          (mk_disk move-if.new.image move-if.new.pointers)
          (upto_step args.p (ranged args.p pre.p_value) off args.w pre.at_len.4 args.to args.m
          (mk_disk args.image.now args.pointers.now)
          (counted_from args.p (segment_in args.p off args.image.now args.pointers.now args.w) args.w.base
          (group_len args.p args.w.base)) (counted_from args.p (segment_in args.p off args.image.now args.pointers.now args.w)
          (args.w.base + loop.k) (group_len args.p args.w.base - loop.k)) loop.next (mk_disk loop.image loop.pointers) (loop.invariant.4 off)
          (λ (y : Segment). itself args.p y (args.w.base + loop.k)) (Ok c.in_ok-next.next) (mk_disk move-if.new.image move-if.new.pointers)
          (c.in_ok-next.ensures off)),
    )

pub shape_of-image : goal.shape_of-image
shape_of-image c = c.loop-k.invariant.1

pub shape_of-pointers : goal.shape_of-pointers
shape_of-pointers c = c.loop-k.invariant.2

pub shape_of-at : goal.shape_of-at
shape_of-at c =
    let index-group = c.index_group in
    index-group.auto.at

pub returns : goal.returns
returns c =
    let group-len = c.group_len-len in
    let args = c.args in
    let pre = c.requires in
    λ off. upto_done args.p (ranged args.p pre.p_value) off (segment_in args.p off args.image.now args.pointers.now args.w) args.to args.w.seg
    pre.at_len.1 pre.zones_low.2 args.m (mk_disk args.image.now args.pointers.now)
    (counted_from args.p (segment_in args.p off args.image.now args.pointers.now args.w) args.w.base
    (group_len args.p args.w.base)) c.loop-k.next (mk_disk c.loop-k.image c.loop-k.pointers)
    (upto_as args.p (ranged args.p pre.p_value) off (segment_in args.p off args.image.now args.pointers.now args.w) args.to
    args.w.seg pre.at_len.1 pre.zones_low.2 args.m (mk_disk args.image.now args.pointers.now)
    (counted_from args.p (segment_in args.p off args.image.now args.pointers.now args.w) args.w.base
    (group_len args.p args.w.base)) (counted_from args.p (segment_in args.p off args.image.now args.pointers.now args.w)
    (args.w.base + c.loop-k.k) (group_len args.p args.w.base - c.loop-k.k)) [] c.loop-k.next
    (mk_disk c.loop-k.image c.loop-k.pointers)
    (from_none args.p (segment_in args.p off args.image.now args.pointers.now args.w) (args.w.base + c.loop-k.k)
    (group_len args.p args.w.base - c.loop-k.k) (omega (arith, group-len.ensures.0, c.loop-k-test.false)))
    (c.loop-k.invariant.4 off))
