-- `move_stripe`: what is owed are the chunks of the drives from d on; to is not the segment, which stays as it is; one turn pays d, or is cut. Assumes nothing.
use Prim.Native.Nat.{◌+◌, ◌-◌}
use Rattle.spec.specs.Drives.{mk_disk}
use Rattle.spec.specs.Lists.{up_from}
use Rattle.spec.specs.Restart.{moved_stripe}
use Rattle.recover_groups.specs.Groups.{segment_in}
use Rattle.law_basic.specs.Geometry.{ranged}
use Rattle.recover_move.specs.Moves.{moved_to, moves_reads, row_moves_start, row_done, row_room, row_cut, row_turn}
use mathlib.Core.List.{[], map}
use mathlib.Core.Path.{refl, ◌∙◌}
use native.Mathlib.Omega.{arith}
use Rattle.law_basic.specs.Segs.{low_here}
use Rattle.disk_zones.specs.Made.{storing_exit}
use Rattle.recover_move.proofs.move_stripe.Goals as goal

pub loop-d-init : goal.loop-d-init
loop-d-init c =
    let args = c.args in
    let pre = c.requires in (
      refl,
      refl,
      λ off. row_moves_start args.p (ranged args.p pre.p_value) off args.count (mk_disk args.image.now args.pointers.now) args.w
          pre.moves_shown.seg-low pre.moves_shown.none_gone args.to (args.w.base + args.k) args.s pre.zones_low.2 pre.whole
          (pre.by_index_2 off),
    )

pub move_chunk-requires : goal.move_chunk-requires
move_chunk-requires c =
    let a = c.args in
    let if1 = c.loop-d-test in
    let loop = c.loop-d in
    let pre = c.requires in record {
      p_value = pre.p_value;
      whole = (loop.invariant.2 []).going.whole;
      moves_shown = pre.moves_shown;
      all_entered = pre.all_entered;
      by_index = λ off. moves_reads a.p (ranged a.p pre.p_value) off a.count
          (moved_stripe a.p (segment_in a.p off a.image.now a.pointers.now a.w) a.to (a.w.base + a.k) a.s)
          (mk_disk a.image.now a.pointers.now) a.w.seg
          (map (moved_to a.p (segment_in a.p off a.image.now a.pointers.now a.w) a.to (a.w.base + a.k) a.s)
          (up_from loop.d (a.p.N - loop.d))) loop.left (mk_disk loop.image loop.pointers) (loop.invariant.2 off) a.w
          pre.moves_shown.none_gone refl a.at.now (pre.by_index off);
      drive_lt_n = (
        if1.true,
        low_here a.p a.to loop.d pre.zones_low.0 if1.true,
        pre.zones_low.1,
        row_room a.p (ranged a.p pre.p_value) [] a.count (mk_disk a.image.now a.pointers.now) a.w pre.moves_shown.seg-low
            pre.moves_shown.none_gone a.to (a.w.base + a.k) a.s pre.zones_low.2 loop.d loop.left
            (mk_disk loop.image loop.pointers) (loop.invariant.2 []) if1.true,
      );
    }

pub shape_of-image-in_err-left : goal.shape_of-image-in_err-left
shape_of-image-in_err-left c =
    let move-chunk = c.move_chunk in
    let loop = c.loop-d in
    move-chunk.auto.image ∙ loop.invariant.0

pub shape_of-pointers-in_err-left : goal.shape_of-pointers-in_err-left
shape_of-pointers-in_err-left c =
    let move-chunk = c.move_chunk in
    let loop = c.loop-d in
    move-chunk.auto.pointers ∙ loop.invariant.1

pub returns-in_err-left : goal.returns-in_err-left
returns-in_err-left c =
    let move-chunk = c.move_chunk in
    let if1 = c.loop-d-test in
    let loop = c.loop-d in
    let args = c.args in
    let pre = c.requires in
    λ off. storing_exit c.from_residual.result c.from_residual.ensures.0
    (row_cut args.p (ranged args.p pre.p_value) off args.count (mk_disk args.image.now args.pointers.now) args.w pre.moves_shown.seg-low
    pre.moves_shown.none_gone args.to (args.w.base + args.k) args.s pre.zones_low.2 loop.d loop.left
    (mk_disk loop.image loop.pointers) (loop.invariant.2 off) if1.true
    (mk_disk move-chunk.new.image move-chunk.new.pointers) (c.in_err-left.ensures off))

pub loop-d-preserved : goal.loop-d-preserved
loop-d-preserved c =
    let move-chunk = c.move_chunk in
    let if1 = c.loop-d-test in
    let loop = c.loop-d in
    let args = c.args in
    let pre = c.requires in (
      move-chunk.auto.image
          ∙ loop.invariant.0,
      move-chunk.auto.pointers
          ∙ loop.invariant.1,
      λ off. row_turn args.p (ranged args.p pre.p_value) off args.count (mk_disk args.image.now args.pointers.now) args.w
          pre.moves_shown.seg-low pre.moves_shown.none_gone args.to (args.w.base + args.k) args.s pre.zones_low.2 loop.d
          loop.left (mk_disk loop.image loop.pointers) (loop.invariant.2 off) if1.true c.in_ok-left.left
          (mk_disk move-chunk.new.image move-chunk.new.pointers) (c.in_ok-left.ensures off),
    )

pub shape_of-image : goal.shape_of-image
shape_of-image c = c.loop-d.invariant.0

pub shape_of-pointers : goal.shape_of-pointers
shape_of-pointers c = c.loop-d.invariant.1

pub returns : goal.returns
returns c =
    let loop = c.loop-d in
    let args = c.args in
    let pre = c.requires in
    λ off. row_done args.p (ranged args.p pre.p_value) off args.count (mk_disk args.image.now args.pointers.now) args.w pre.moves_shown.seg-low
    pre.moves_shown.none_gone args.to (args.w.base + args.k) args.s pre.zones_low.2 loop.d loop.left
    (mk_disk loop.image loop.pointers) (loop.invariant.2 off) (omega (arith, c.loop-d-test.false))
