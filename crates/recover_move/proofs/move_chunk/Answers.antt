-- `move_chunk`: a block is at most 4096 bytes, so there is room for it. Assumes nothing.
use Prim.Native.Nat.{ℕ}
use Rattle.law_basic.specs.Geometry.{ranged}
use lib.ListN.{replicate}
use lib.Seq.{length-take-le}
use mathlib.Core.List.{List}
use mathlib.Core.Path.{sym}
use native.Mathlib.Omega.{arith}
use Rattle.recover_move.proofs.move_chunk.Goals as goal

abbrev zeros : List ℕ
zeros = replicate 4096 0

pub slice_bounds-block-end : goal.slice_bounds-block-end
slice_bounds-block-end c =
    let args = c.args in
    let pre = c.requires in
    omega (arith, (ranged args.p pre.p_value).block_high)

pub slice_bounds-move_with-end : goal.slice_bounds-move_with-end
slice_bounds-move_with-end c =
    let args = c.args in
    let pre = c.requires in
    sym (length-take-le args.p.B zeros (ranged args.p pre.p_value).block_high)

pub move_with-requires : goal.move_with-requires
move_with-requires c =
    let args = c.args in
    let pre = c.requires in record {
      p_value = pre.p_value;
      whole = pre.whole;
      moves_shown = pre.moves_shown;
      all_entered = pre.all_entered;
      by_index = pre.by_index;
      drive_lt_n = (
        pre.drive_lt_n.0,
        pre.drive_lt_n.1,
        pre.drive_lt_n.2,
        (length-take-le args.p.B zeros (ranged args.p pre.p_value).block_high),
        pre.drive_lt_n.3,
      );
    }
