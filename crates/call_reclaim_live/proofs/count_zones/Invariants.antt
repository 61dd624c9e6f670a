-- `count_zones`: at is the first place of zone t, and live counts the live blocks below from; a turn adds the marks of that zone to its segment's count. Assumes nothing.
use Prim.Native.Nat.{ℕ, ◌+◌, ◌-◌, ◌*◌, min, max, ◌≤◌}
use Rattle.call_reclaim_live.specs.Live.{LiveCounted}
use Rattle.spec.specs.Params.{capacity}
use Rattle.spec.specs.declared.Params.{Params}
use Rattle.mem_marks.specs.Marks.{Marks}
use lib.ListN.{length, get_or}
use mathlib.Core.List.{List}
use mathlib.Core.Path.{◌≡◌}
use Rattle.call_reclaim_live.proofs.count_zones.Given as goal

abbrev pub invariant-loop-at : goal.invariant-loop-at
invariant-loop-at l =
    (l.from ≡ min l.end (max l.first l.at))
    × (l.at ≡ l.t * l.cap)
    × (length l.live ≡ length l.initial.live)
    × ((g : ℕ) → g ≤ 1024 → get_or l.live g 0 ≤ l.from)
    × ((p : Params) → l.cap ≡ capacity p → (tb : List ℕ) → Marks tb p.L l.marks l.first l.end → LiveCounted p l.segments tb l.initial.live l.first
    → LiveCounted p l.segments tb l.live l.from)
    × (l.at ≤ l.end + 87381)

abbrev pub decreases-loop-at : goal.decreases-loop-at
decreases-loop-at l = l.end - l.at
