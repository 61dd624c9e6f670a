-- `entries_fault`: the lowest of worst and the faults of entries k on is the answer; a turn takes entry k's if it is lower (`faults_lower`). Assumes nothing.
use Rattle.disk_drives.specs.Viewed.{viewed}
use Rattle.spec.specs.Landing.{entry_faults}
use Rattle.spec.specs.Lists.{below, least, flat}
use Rattle.spec.specs.Memory.{filled_in_of, entry_in_of}
use Rattle.call_land_faults.specs.Lowest.{faults_from}
use Rattle.call_land_chunk.specs.Alone.{alone}
use mathlib.Core.Path.{◌≡◌}
use Rattle.call_land_faults.proofs.entries_fault.Given as goal

abbrev pub invariant-loop-k : goal.invariant-loop-k
invariant-loop-k l =
    (l.n ≡ filled_in_of (alone l.row) 0)
    × (least l.worst (faults_from (λ x. entry_faults l.drives.p (viewed l.drives) l.addresses (entry_in_of (alone l.row) 0 x)) l.k l.n)
    ≡ least l.zone (flat (λ x. entry_faults l.drives.p (viewed l.drives) l.addresses (entry_in_of (alone l.row) 0 x)) (below l.n)))
