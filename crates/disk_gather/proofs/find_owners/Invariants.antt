-- `find_owners`: below g each zone has the last kept row that has it; a turn puts row g (`owner_more`). Assumes nothing.
use Prim.Native.Nat.{ℕ, ◌+◌, ◌*◌, ◌≤◌, ◌<◌}
use Rattle.disk_gather.specs.Owners.{owner_of}
use lib.ListN.{length, get_or}
use mathlib.Core.Path.{◌≡◌}
use Rattle.disk_gather.proofs.find_owners.Given as goal

abbrev pub invariant-loop-g : goal.invariant-loop-g
invariant-loop-g l =
    (l.g ≤ l.p.Z) × (length l.owners ≡ length l.initial.owners) × ((d z : ℕ) → d < l.p.N → z < l.p.Z → get_or l.owners (d * l.p.Z + z) 0 ≡ owner_of l.rows l.kept d z l.g)
