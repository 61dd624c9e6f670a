-- `name_counts`: the names of the first z flagged zones are counted; after Z zones these are those of the remaining segments. Assumes nothing.
use mathlib.Core.Path.{◌≡◌}
use mathlib.Core.List.{List}
use Prim.Native.Nat.{ℕ, ◌≤◌}
use lib.ListN.{length}
use Rattle.spec.specs.Drives.{view_of}
use Rattle.spec.specs.Params.{pointers_len}
use Rattle.disk_gather.specs.Flags.{Keeps}
use Rattle.recover_headers.specs.Names.{CountedBy}
use Rattle.recover_headers.proofs.name_counts.Given as goal

abbrev pub invariant-loop-z : goal.invariant-loop-z
invariant-loop-z l =
    (l.z ≤ l.p.Z) × (length l.counts ≡ length l.initial.counts)
    × ((off ps : List ℕ) → length ps ≡ pointers_len l.p → Keeps l.p (view_of l.p off l.image ps) l.gone l.kept → CountedBy l.p (view_of l.p off l.image ps) l.gone l.z l.counts)
