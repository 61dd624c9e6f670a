-- `moved_data`: data position i of the stripe is on a drive that has it; its block and record under stripe s are the renumbered chunk. Assumes nothing.
use Rattle.spec.specs.Layout.{mk_rec}
use Rattle.law_basic.specs.Geometry.{ranged}
use Rattle.law_basic.specs.Mask.{is_in_empty}
use Rattle.recover_move.specs.Moves.{shown-low}
use Rattle.recover_move.specs.Pieces.{data-moved}
use Rattle.disk_records.specs.Record.{rec_val}
use mathlib.Core.Path.{refl, sym, ◌∙◌}
use native.Mathlib.Omega.{arith}
use Rattle.law_basic.specs.Segs.{low_here}
use Rattle.recover_move.proofs.moved_data.Goals as goal

pub overflow_add-w : goal.overflow_add-w
overflow_add-w c =
    let args = c.args in
    let pre = c.requires in
    omega (arith, shown-low args.p args.w args.at.now args.k pre.moves_shown, (ranged args.p pre.p_value).stripes_high)

pub chunk_block-requires : goal.chunk_block-requires
chunk_block-requires c =
    let args = c.args in
    let pre = c.requires in record {
      p_value = pre.p_value;
      image_len = (
        pre.image_len.0,
        pre.moves_shown.at_long,
        low_here args.p args.w.seg c.data_drive-from.result pre.moves_shown.seg-low c.data_drive-from.ensures.1,
        pre.moves_shown.base_low,
        c.data_drive-from.ensures.1,
        pre.moves_shown.in_group,
      );
      entered = pre.all_entered c.data_drive-from.result c.data_drive-from.ensures.1 (is_in_empty c.data_drive-from.result);
    }

pub copy-requires : goal.copy-requires
copy-requires c = c.chunk_block.ensures.long ∙ sym c.requires.image_len.1

pub stored_rec-r-requires : goal.stored_rec-r-requires
stored_rec-r-requires c =
    let data-drive = c.data_drive-from in
    let args = c.args in
    let pre = c.requires in record {
      p_value = pre.p_value;
      image_len = (
        pre.image_len.0,
        pre.moves_shown.at_long,
        low_here args.p args.w.seg data-drive.result pre.moves_shown.seg-low data-drive.ensures.1,
        pre.moves_shown.base_low,
        data-drive.ensures.1,
        pre.moves_shown.in_group,
      );
      entered = pre.all_entered data-drive.result data-drive.ensures.1 (is_in_empty data-drive.result);
    }

pub returns : goal.returns
returns c =
    let stored_rec_holds = c.stored_rec-r in
    let data-drive = c.data_drive-from in
    let args = c.args in
    let pre = c.requires in
    λ off ps x.
    data-moved args.p (ranged args.p pre.p_value) off args.image.now ps args.w args.at.now args.k args.s pre.image_len.0
    pre.moves_shown.seg-low pre.moves_shown.base_low pre.moves_shown.in_group pre.all_entered x args.i data-drive.result
    c.copy.new.dst (rec_val stored_rec_holds.result)
    (mk_rec stored_rec_holds.result.address.0 stored_rec_holds.result.stamp.0 args.s) data-drive.ensures.0 (c.copy.ensures ∙ c.chunk_block.ensures.block off ps x)
    (stored_rec_holds.ensures off ps x) refl refl refl
