-- Drive by drive: the rows of the drives below d are right; with all of them the group is indexed, since no record is at fault (seg-clean).
use mathlib.Core.Path.{◌≡◌}
use mathlib.Core.List.{List}
use Prim.Native.Nat.{ℕ, ◌≤◌, ◌<◌}
use lib.ListN.{length}
use Rattle.spec.specs.Drives.{view_of}
use Rattle.spec.specs.Segments.{remaining, recs_on}
use Rattle.recover_groups.specs.Groups.{group_recs, segment_in, Row}
use Rattle.recover_compact.specs.Compacts.{SegmentShown}
use Rattle.recover_addresses.specs.Lies.{Ground}
use Rattle.law_drives.specs.Members.{In}
use Rattle.recover_tables.proofs.index_group.Given as goal

abbrev pub invariant-loop-d : goal.invariant-loop-d
invariant-loop-d l =
    (l.d ≤ l.p.N) × (length l.at ≡ 2048)
    × ((off im : List ℕ) → Ground l.p off im l.pointers l.w.gone l.compact → In l.w.seg (remaining l.p (view_of l.p off im l.pointers) l.w.gone)
    → SegmentShown l.p (view_of l.p off im l.pointers) l.w.gone l.w.seg l.compact
    → (e : ℕ) → e < l.d → Row l.p l.w.base (group_recs l.p l.w.base (recs_on (segment_in l.p off im l.pointers l.w) e)) e l.at)
