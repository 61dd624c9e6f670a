-- `entries`: the first o entries of the row are those of the zone's records, and base is a multiple of G at or below o; one turn sets entry o. Assumes nothing.
use mathlib.Core.Path.{◌≡◌}
use mathlib.Core.List.{List, map}
use Prim.Native.Nat.{ℕ, ◌%◌, ◌≤◌}
use lib.ListN.{length}
use Rattle.spec.specs.Bytes.{splice}
use Rattle.spec.specs.Drives.{view_of, zone_at}
use Rattle.spec.specs.Lists.{below}
use Rattle.spec.specs.Params.{pointers_len}
use Rattle.recover_compact.specs.Compacts.{entry_said}
use Rattle.recover_compact.proofs.entries.Given as goal

abbrev pub invariant-loop-o : goal.invariant-loop-o
invariant-loop-o l =
    (l.o ≤ l.n) × (l.base ≤ l.o) × (l.base % l.p.G ≡ 0) × (length l.compact ≡ length l.initial.compact)
    × ((off ps : List ℕ) → length ps ≡ pointers_len l.p
    → l.compact ≡ splice l.initial.compact l.row (map (entry_said l.p l.full (zone_at (view_of l.p off l.image ps) l.drive l.zone)) (below l.o)))
