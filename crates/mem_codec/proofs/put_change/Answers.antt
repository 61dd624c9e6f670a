-- `put_change`: the edits of the numbers in front, then of an eighth where one changes. Assumes nothing.
use Rattle.mem_codec.specs.Changes.{change_front, change_row}
use Rattle.mem_rows.specs.Rows.{RowSized}
use borrow.Author.Rules.{rules}
use native.Mathlib.Omega.{arith}
use Rattle.mem_codec.proofs.put_change.Goals as goal
use Rattle.mem_codec.proofs.put_change.Goals.{Start}

row_sized : (c : Start) → RowSized c.args.c.row
row_sized c = record { addresses = search rules; stamps = search rules; offsets = search rules }

pub returns-then-i-ge8 : goal.returns-then-i-ge8
returns-then-i-ge8 c =
    let put-counts = c.put_counts in
    let slice-known = c.slice_known-1 in
    change_front c.args.dst.now c.requires (λ k h. omega (arith, slice-known.given k)) c.args.c put-counts.new.dst put-counts.ensures c.if-i-ge8.true

pub returns : goal.returns
returns c =
    let put-cells = c.put_cells in
    let put-marks = c.put_marks in
    let if1 = c.if-i-ge8 in
    let put-counts = c.put_counts in
    let slice-known = c.slice_known-1 in
    change_row c.args.dst.now c.requires (λ k h. omega (arith, slice-known.given k)) c.args.c put-counts.new.dst put-counts.ensures
    (omega (arith, if1.false)) (row_sized (goal.at.returns c).Start) put-marks.new.dst put-cells.new.dst put-marks.ensures put-cells.ensures
