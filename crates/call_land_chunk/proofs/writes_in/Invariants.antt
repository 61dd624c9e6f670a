-- `writes_in`: n plus the writes among positions k on is the number of all; n is at most k, and a turn counts position k or passes it. Assumes nothing.
use Prim.Native.Nat.{◌+◌, ◌-◌, ◌≤◌}
use Rattle.spec.specs.Landing.{writes_in}
use Rattle.spec.specs.Lists.{up_from, keep}
use Rattle.spec.specs.Memory.{filled_in_of, is_write}
use Rattle.call_land_chunk.specs.Alone.{alone}
use lib.ListN.{length}
use mathlib.Core.Path.{◌≡◌}
use Rattle.call_land_chunk.proofs.writes_in.Given as goal

abbrev pub invariant-loop-k : goal.invariant-loop-k
invariant-loop-k l = (l.f ≡ filled_in_of (alone l.row) 0) × (l.k ≤ l.f) × (l.n ≤ l.k)
    × (l.n + length (keep (is_write (alone l.row) 0) (up_from l.k (l.f - l.k))) ≡ writes_in (alone l.row) 0)
