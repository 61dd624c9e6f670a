-- `winners`: the first k places are the winners of addresses below L; a turn sets the next one (`set_winner`) or leaves one not below L. Assumes nothing.
use Rattle.disk_drives.specs.Viewed.{viewed}
use Rattle.call_land_chunk.specs.Alone.{alone}
use Prim.Native.Nat.{ℕ, ◌≤◌, ◌<◌}
use Rattle.spec.specs.Landing.{landed_cands}
use Rattle.spec.specs.Memory.{filled_in_of, entry_in_of}
use Rattle.call_land_table.specs.Winners.{winner_of}
use lib.ListN.{length, get_or}
use mathlib.Core.Path.{◌≡◌}
use Rattle.call_land_table.proofs.winners.Given as goal

abbrev pub invariant-loop-k : goal.invariant-loop-k
invariant-loop-k l =
    (l.n ≡ filled_in_of (alone l.row) 0) × (l.k ≤ l.n) × (length l.out ≡ 8)
    × ((h : ℕ) → h < l.k → (entry_in_of (alone l.row) 0 h).address < l.drives.p.L
    → get_or l.out h 0 ≡ winner_of l.drives.p (viewed l.drives) l.addresses
    (landed_cands l.drives.p (viewed l.drives) l.segment (alone l.row) 0) (entry_in_of (alone l.row) 0 h).address)
