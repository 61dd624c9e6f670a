-- `winner`: the best of b and positions k on is the best of the table's and all; a turn lets position k compete (`winner_turn`). Assumes nothing.
use Rattle.disk_drives.specs.Viewed.{viewed}
use Prim.Native.Nat.{◌-◌, ◌≤◌}
use Rattle.spec.specs.Landing.{held, landed_cand, landed_cands}
use Rattle.spec.specs.Lists.{up_from}
use Rattle.spec.specs.Memory.{filled_in_of}
use Rattle.spec.specs.Rank.{best, cands_of}
use Rattle.disk_rank.specs.Ranked.{ranked_best}
use Rattle.call_land_chunk.specs.Alone.{alone}
use mathlib.Core.List.{map}
use mathlib.Core.Path.{◌≡◌}
use Rattle.call_land_table.proofs.winner.Given as goal

abbrev pub invariant-loop-k : goal.invariant-loop-k
invariant-loop-k l =
    (l.n ≡ filled_in_of (alone l.row) 0) × (l.k ≤ l.n)
    × (best (ranked_best l.b) (cands_of l.address.0 (map (landed_cand l.drives.p (viewed l.drives) l.segment (alone l.row) 0) (up_from l.k (l.n - l.k))))
    ≡ best (held l.drives.p (viewed l.drives) l.addresses l.address.0)
    (cands_of l.address.0 (landed_cands l.drives.p (viewed l.drives) l.segment (alone l.row) 0)))
