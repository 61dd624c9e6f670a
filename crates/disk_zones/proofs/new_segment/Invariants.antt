-- `new_segment`: after d turns the first d zones are the drives' lowest empty good ones and the others 0; after N it is the segment. Assumes nothing.
-- one more is a zone
use mathlib.Core.Path.{◌≡◌}
use Prim.Native.Nat.{ℕ, ◌≤◌, ◌<◌}
use Rattle.spec.specs.Lists.{below, keep, first_or}
use Rattle.disk_zones.specs.Empty.{free_by}
use Rattle.law_basic.specs.Segs.{filled_to}
use Rattle.disk_zones.proofs.new_segment.Given as goal

abbrev pub invariant-loop-d : goal.invariant-loop-d
invariant-loop-d l = (l.d ≤ l.p.N) × (l.zones ≡ filled_to (λ e. first_or 0 (keep (free_by l.p l.pointers l.offline e) (below l.p.Z))) l.d)
    × ((e : ℕ) → e < l.d → first_or 0 (keep (free_by l.p l.pointers l.offline e) (below l.p.Z)) < l.p.Z)
