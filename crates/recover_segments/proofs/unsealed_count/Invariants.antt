-- `unsealed_count`: n and the number of unsealed segments from z on are that of all; an unsealed one adds 1 to n, and n is at most z. Assumes nothing.
use mathlib.Core.Path.{◌≡◌}
use mathlib.Core.List.{List}
use Prim.Native.Nat.{ℕ, ◌+◌, ◌-◌, ◌≤◌}
use lib.ListN.{length}
use Rattle.spec.specs.Drives.{view_of}
use Rattle.spec.specs.Lists.{up_from, below, keep}
use Rattle.spec.specs.Params.{image_len}
use Rattle.disk_gather.specs.Flags.{Keeps, FlagsRows}
use Rattle.recover_segments.specs.Kept.{unsealed_at}
use Rattle.recover_segments.proofs.unsealed_count.Given as goal

abbrev pub invariant-loop-z : goal.invariant-loop-z
invariant-loop-z l =
    (l.z ≤ l.p.Z)
    × (l.n ≤ l.z)
    × ((off im : List ℕ) → length im ≡ image_len l.p → Keeps l.p (view_of l.p off im l.pointers) l.gone l.kept → FlagsRows l.p (view_of l.p off im l.pointers) l.gone l.rows
    → l.n + length (keep (unsealed_at l.p (view_of l.p off im l.pointers) l.gone) (up_from l.z (l.p.Z - l.z))) ≡ length
    (keep (unsealed_at l.p (view_of l.p off im l.pointers) l.gone) (below l.p.Z)))
