-- `index_drive`: the first i records are entered and none is bad; a bad address or number ends it, else record i is entered as i + 1. Assumes nothing.
use mathlib.Core.Path.{◌≡◌}
use mathlib.Core.List.{List}
use Prim.Native.Nat.{ℕ, ◌≤◌}
use lib.ListN.{length}
use Rattle.spec.specs.Drives.{view_of, sealed_in}
use Rattle.spec.specs.Segments.{recs_on}
use Rattle.recover_groups.specs.Entering.{Entering}
use Rattle.recover_groups.specs.Groups.{group_recs, segment_in, SameBelow}
use Rattle.recover_groups.proofs.index_drive.Given as goal

abbrev pub invariant-loop-i : goal.invariant-loop-i
invariant-loop-i l =
    (l.i ≤ l.n) × (length l.at ≡ 2048) × SameBelow l.drive l.initial.at l.at
    × ((off : List ℕ) → l.w.full ≡ sealed_in l.p (view_of l.p off l.image l.pointers) l.w.gone l.w.seg
    → Entering l.p l.drive l.w.base (group_recs l.p l.w.base (recs_on (segment_in l.p off l.image l.pointers l.w) l.drive)) l.initial.at l.at l.i)
