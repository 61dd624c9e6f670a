-- `own_zones`: drive by drive the segment's row stands at its zone (`own_more`), and nothing else changes. Assumes nothing.
use Prim.Native.Nat.{ℕ, ◌+◌, ◌*◌, ◌≤◌, ◌<◌}
use Rattle.spec.specs.Drives.{zone_on}
use lib.Dec.{ltb, eqb}
use lib.ListN.{length, get_or}
use mathlib.Core.Bool.{cond, ◌&&◌}
use mathlib.Core.Path.{◌≡◌}
use Rattle.disk_gather.proofs.own_zones.Given as goal

abbrev pub invariant-loop-d : goal.invariant-loop-d
invariant-loop-d l =
    (l.d ≤ l.p.N) × (length l.owners ≡ length l.initial.owners)
    × ((e z : ℕ) → e < l.p.N → z < l.p.Z → get_or l.owners (e * l.p.Z + z) 0 ≡ cond (ltb e l.d && eqb z (zone_on l.segment e)) l.g (get_or l.initial.owners (e * l.p.Z + z) 0))
