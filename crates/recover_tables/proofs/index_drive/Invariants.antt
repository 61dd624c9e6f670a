-- Entry by entry: each offset below the pointer is entered where the table says; the law entered has that step, all-entered the end.
use mathlib.Core.Path.{◌≡◌}
use mathlib.Core.List.{List}
use Prim.Native.Nat.{ℕ, ◌≤◌}
use lib.ListN.{length}
use Rattle.spec.specs.Drives.{view_of}
use Rattle.spec.specs.Segments.{remaining, recs_on}
use Rattle.recover_groups.specs.Entering.{Entering}
use Rattle.recover_groups.specs.Groups.{group_recs, segment_in}
use Rattle.recover_compact.specs.Compacts.{SegmentShown}
use Rattle.recover_addresses.specs.Lies.{Ground}
use Rattle.law_drives.specs.Members.{In}
use Rattle.recover_tables.proofs.index_drive.Given as goal

abbrev pub invariant-loop-i : goal.invariant-loop-i
invariant-loop-i l =
    (l.i ≤ l.n) × (length l.at ≡ 2048)
    × ((off im : List ℕ) → Ground l.p off im l.pointers l.w.gone l.compact → In l.w.seg (remaining l.p (view_of l.p off im l.pointers) l.w.gone)
    → SegmentShown l.p (view_of l.p off im l.pointers) l.w.gone l.w.seg l.compact
    → Entering l.p l.drive l.w.base (group_recs l.p l.w.base (recs_on (segment_in l.p off im l.pointers l.w) l.drive)) l.initial.at l.at l.i)
