-- `count_windows`: live counts each segment's live blocks below first; a turn marks and counts a window. One window of all leaves its marks. Assumes nothing.
use Prim.Native.Nat.{◌-◌, ◌*◌, ◌≤◌, ◌<◌}
use Rattle.call_reclaim_live.specs.Live.{LiveCounted}
use Rattle.mem_marks.specs.Marks.{Marks}
use Rattle.mem_tables.specs.Tables.{count_places}
use lib.ListN.{length}
use mathlib.Core.Path.{◌≡◌}
use Rattle.call_reclaim_live.proofs.count_windows.Given as goal

abbrev pub invariant-loop-first : goal.invariant-loop-first
invariant-loop-first l =
    (l.first ≤ l.all) × (length l.marks ≡ length l.initial.marks) × (length l.live ≡ length l.initial.live) × LiveCounted l.p l.segments l.addresses l.live l.first
    × (0 < l.first → l.all ≤ 8 * length l.initial.marks → (l.first ≡ l.all) × Marks l.addresses l.p.L l.marks 0 l.all)
    × (0 < l.first → l.outside ≡ count_places l.addresses l.p.L l.first 4294967295)

abbrev pub decreases-loop-first : goal.decreases-loop-first
decreases-loop-first l = l.all - l.first
