-- `moved_parity`: block and record are the exclusive or of the first i data chunks, the block at first zeros; one turn adds chunk i. Assumes nothing.
use Prim.Native.Nat.{ℕ, ◌+◌}
use Rattle.spec.specs.Bytes.{xors}
use Rattle.spec.specs.Layout.{mk_rec}
use Rattle.spec.specs.Params.{data_count}
use Rattle.recover_groups.specs.Groups.{segment_in}
use Rattle.law_basic.specs.Geometry.{ranged}
use Rattle.law_basic.specs.Mask.{is_in_empty}
use Rattle.recover_move.specs.Moves.{shown-low}
use Rattle.recover_move.specs.Pieces.{data_count_minus, Xored, xored_start, xored_done, xored_step}
use Rattle.disk_records.specs.Record.{rec_val}
use lib.ListN.{replicate}
use mathlib.Core.Path.{◌≡◌, refl, sym, ap, ◌∙◌, subst}
use native.Mathlib.Omega.{arith}
use Rattle.law_basic.specs.Segs.{low_here}
use Rattle.recover_move.proofs.moved_parity.Goals as goal

pub overflow_cast-r : goal.overflow_cast-r
overflow_cast-r c = omega arith

pub overflow_sub-i-end : goal.overflow_sub-i-end
overflow_sub-i-end c =
    let args = c.args in
    let pre = c.requires in
    omega (arith, (ranged args.p pre.p_value).drives_low)

pub loop-i-init : goal.loop-i-init
loop-i-init c =
    let clear = c.clear in
    let args = c.args in
    let pre = c.requires in (
      omega arith,
      refl,
      λ off ps x. xored_start args.p (segment_in args.p off args.image.now ps args.w) (args.w.base + args.k) args.s clear.new.dst
          (mk_rec 0 0 args.s) (clear.ensures ∙ ap (λ (n : ℕ). replicate n 0) pre.image_len.1) refl refl refl,
    )

pub overflow_add-w : goal.overflow_add-w
overflow_add-w c =
    let args = c.args in
    let pre = c.requires in
    omega (arith, shown-low args.p args.w args.at.now args.k pre.moves_shown, (ranged args.p pre.p_value).stripes_high)

pub data_drive-from-requires : goal.data_drive-from-requires
data_drive-from-requires c =
    let args = c.args in
    let pre = c.requires in record { p_value = pre.p_value; position_bound = omega (arith, data_count_minus args.p, c.loop-i-test.true) }

pub chunk_block-requires : goal.chunk_block-requires
chunk_block-requires c =
    let args = c.args in
    let pre = c.requires in record {
      p_value = pre.p_value;
      image_len = (
        pre.image_len.0,
        pre.moves_shown.at_long,
        low_here args.p args.w.seg c.data_drive-from.result pre.moves_shown.seg-low c.data_drive-from.ensures.1,
        pre.moves_shown.base_low,
        c.data_drive-from.ensures.1,
        pre.moves_shown.in_group,
      );
      entered = pre.all_entered c.data_drive-from.result c.data_drive-from.ensures.1 (is_in_empty c.data_drive-from.result);
    }

pub xor_into-requires : goal.xor_into-requires
xor_into-requires c = c.chunk_block.ensures.long ∙ sym (c.loop-i.invariant.1 ∙ c.clear.auto.dst ∙ c.requires.image_len.1)

pub stored_rec-requires : goal.stored_rec-requires
stored_rec-requires c =
    let data-drive = c.data_drive-from in
    let args = c.args in
    let pre = c.requires in record {
      p_value = pre.p_value;
      image_len = (
        pre.image_len.0,
        pre.moves_shown.at_long,
        low_here args.p args.w.seg data-drive.result pre.moves_shown.seg-low data-drive.ensures.1,
        pre.moves_shown.base_low,
        data-drive.ensures.1,
        pre.moves_shown.in_group,
      );
      entered = pre.all_entered data-drive.result data-drive.ensures.1 (is_in_empty data-drive.result);
    }

pub loop-i-preserved : goal.loop-i-preserved
loop-i-preserved c =
    let data-drive = c.data_drive-from in
    let if1 = c.loop-i-test in
    let loop = c.loop-i in
    let args = c.args in
    let pre = c.requires in (
      omega (arith, data_count_minus args.p, if1.true),
      c.xor_into.auto.dst ∙ loop.invariant.1,
      λ off ps x.
          xored_step args.p (ranged args.p pre.p_value) off args.image.now ps args.w args.at.now args.k args.s pre.image_len.0
          pre.moves_shown.seg-low pre.moves_shown.base_low pre.moves_shown.in_group pre.all_entered x loop.i data-drive.result loop.block
          c.xor_into.new.dst (rec_val loop.r) (rec_val c.xor_rec-r.result) (rec_val c.stored_rec.result)
          (omega (arith, data_count_minus args.p, if1.true)) data-drive.ensures.0 (loop.invariant.2 off ps x) (c.xor_into.ensures ∙ ap (xors loop.block) (c.chunk_block.ensures.block off ps x))
          (c.stored_rec.ensures off ps x) c.xor_rec-r.ensures.0 c.xor_rec-r.ensures.1 c.xor_rec-r.ensures.2,
    )

pub shape_of-block : goal.shape_of-block
shape_of-block c =
    let clear = c.clear in
    c.loop-i.invariant.1 ∙ clear.auto.dst

pub returns : goal.returns
returns c =
    let loop = c.loop-i in
    let args = c.args in
    λ off ps x.
    let e : loop.i ≡ data_count args.p = omega (arith, loop.invariant.0, data_count_minus args.p, c.loop-i-test.false) in
    xored_done args.p (segment_in args.p off args.image.now ps args.w) (args.w.base + args.k) args.s loop.block (rec_val loop.r)
    (subst (λ (n : ℕ). Xored args.p (segment_in args.p off args.image.now ps args.w) (args.w.base + args.k) args.s n loop.block (rec_val loop.r)) e (loop.invariant.2 off ps x))
