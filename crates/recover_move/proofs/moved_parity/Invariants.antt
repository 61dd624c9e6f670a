-- `moved_parity`: block and record are the exclusive or of the first i data chunks, the block at first zeros; one turn adds chunk i. Assumes nothing.
use Prim.Native.Nat.{ℕ, ◌+◌, ◌≤◌}
use Rattle.spec.specs.Params.{data_count}
use Rattle.recover_groups.specs.Groups.{segment_in, GroupReads}
use Rattle.recover_move.specs.Pieces.{Xored}
use Rattle.disk_records.specs.Record.{rec_val}
use lib.ListN.{length}
use mathlib.Core.List.{List}
use mathlib.Core.Path.{◌≡◌}
use Rattle.recover_move.proofs.moved_parity.Given as goal

abbrev pub invariant-loop-i : goal.invariant-loop-i
invariant-loop-i l =
    (l.i ≤ data_count l.p) × (length l.block ≡ length l.initial.block) ×
    ((off : List ℕ) (ps : List ℕ) → GroupReads l.p off l.image ps l.w l.at → Xored l.p (segment_in l.p off l.image ps l.w) (l.w.base + l.k) l.s l.i l.block (rec_val l.r))
