-- `put_places`: putting positions k on into the table so far gives what putting all gives; a turn puts k (`put_one`) or not (`put_none`). Assumes nothing.
use Rattle.call_land_chunk.specs.Alone.{alone}
use Prim.Native.Nat.{◌-◌, ◌≤◌}
use Rattle.spec.specs.Lists.{up_from, below}
use Rattle.spec.specs.Memory.{filled_in_of}
use Rattle.call_land_table.specs.Winners.{put_winners}
use lib.ListN.{length}
use mathlib.Core.Path.{◌≡◌}
use Rattle.call_land_table.proofs.put_places.Given as goal

abbrev pub invariant-loop-k : goal.invariant-loop-k
invariant-loop-k l =
    (l.n ≡ filled_in_of (alone l.row) 0) × (l.k ≤ l.n) × (length l.addresses ≡ length l.initial.addresses)
    × (put_winners l.p (alone l.row) 0 l.places (up_from l.k (l.n - l.k)) l.addresses ≡ put_winners l.p (alone l.row) 0 l.places (below (filled_in_of (alone l.row) 0)) l.initial.addresses)
