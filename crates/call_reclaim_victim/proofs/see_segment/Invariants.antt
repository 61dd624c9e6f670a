-- `see_segment`: what is found vouches for the drives below d, with at most 65535 * d; a turn skips to its zone, sees it and skips on. Assumes nothing.
-- all drives before d are seen
use Rattle.spec.specs.Memory.{state_of}
use Prim.Native.Nat.{ℕ, ◌*◌, ◌≤◌}
use Rattle.spec.specs.Drives.{view_of}
use Rattle.spec.specs.Params.{place_of}
use Rattle.call_reclaim_victim.specs.Vouched.{Vouched}
use mathlib.Core.List.{List}
use Rattle.call_reclaim_victim.proofs.see_segment.Given as goal

abbrev pub invariant-loop-d : goal.invariant-loop-d
invariant-loop-d l =
    (l.d ≤ l.p.N) × (l.found.live ≤ 65535 * l.d) × ((off : List ℕ) → Vouched l.p (view_of l.p off l.image l.pointers) (state_of l.bytes) l.segment l.addresses (place_of l.p l.d 0 0) l.found)
