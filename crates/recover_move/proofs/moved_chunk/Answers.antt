-- `moved_chunk`: a data drive of s gets the chunk of its position, by `renumbered_data`; the parity drive the new parity, by `parity-moved`. Assumes nothing.
use Prim.Native.Nat.{ℕ, ◌+◌, ◌<◌}
use Rattle.spec.specs.Layout.{data_drive}
use Rattle.spec.specs.Params.{data_count}
use Rattle.spec.specs.Restart.{renumbered}
use Rattle.spec.specs.Segments.{stored_piece}
use Rattle.recover_groups.specs.Groups.{segment_in}
use Rattle.law_basic.specs.Geometry.{position_lt}
use Rattle.recover_move.specs.Pieces.{renumbered_data, parity-moved}
use mathlib.Core.Path.{sym, ap, ◌∙◌, subst}
use Rattle.recover_move.proofs.moved_chunk.Goals as goal

pub moved_data-requires : goal.moved_data-requires
moved_data-requires c =
    let if1 = c.if-is_data in
    let is_data_holds = c.is_data in
    let args = c.args in
    let pre = c.requires in record {
      p_value = pre.p_value;
      moves_shown = pre.moves_shown;
      all_entered = pre.all_entered;
      image_len = (
        pre.image_len.0,
        pre.image_len.1,
        subst (λ (x : ℕ). x < data_count args.p) (sym c.data_position-i.ensures.0)
            (position_lt args.p args.s args.drive (sym is_data_holds.ensures ∙ if1.true) pre.image_len.2),
        pre.image_len.3,
      );
    }

pub returns-then-is_data : goal.returns-then-is_data
returns-then-is_data c =
    let moved-data' = c.moved_data in
    let data-position = c.data_position-i in
    let if1 = c.if-is_data in
    let is_data_holds = c.is_data in
    let args = c.args in
    let pre = c.requires in
    λ off ps x.
    let g = segment_in args.p off args.image.now ps args.w in
    let s = args.w.base + args.k in
    moved-data'.ensures off ps x
    ∙ ap (λ (i : ℕ). renumbered args.s (stored_piece g s (data_drive args.p s i))) data-position.ensures.0
    ∙ renumbered_data args.p g s args.s args.drive pre.image_len.2 (sym is_data_holds.ensures ∙ if1.true)

pub moved_parity-requires : goal.moved_parity-requires
moved_parity-requires c =
    let pre = c.requires in record { p_value = pre.p_value; moves_shown = pre.moves_shown; all_entered = pre.all_entered; image_len = (pre.image_len.0, pre.image_len.1, pre.image_len.3) }

pub returns : goal.returns
returns c =
    let moved-parity' = c.moved_parity in
    let if1 = c.if-is_data in
    let is_data_holds = c.is_data in
    let args = c.args in
    λ off ps x. moved-parity'.ensures off ps x
    ∙ parity-moved args.p (segment_in args.p off args.image.now ps args.w) (args.w.base + args.k) args.s args.drive
    (sym is_data_holds.ensures ∙ if1.false)
