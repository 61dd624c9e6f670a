-- `free_segment`: after d turns the first d zones are the drives' lowest free ones and the others 0; after N it is the segment. Assumes nothing.
use mathlib.Core.Path.{◌≡◌}
use Prim.Native.Nat.{◌≤◌}
use Rattle.spec.specs.Lists.{below, keep, first_or}
use Rattle.recover_segments.specs.Taken.{free_in}
use Rattle.law_basic.specs.Segs.{filled_to}
use Rattle.recover_segments.proofs.free_segment.Given as goal

abbrev pub invariant-loop-d : goal.invariant-loop-d
invariant-loop-d l = (l.d ≤ l.p.N) × (l.zones ≡ filled_to (λ e. first_or 0 (keep (free_in l.p l.offline l.marks e) (below l.p.Z))) l.d)
