-- `read_serials`: zone by zone the array has the serials (`set_more`), and keeps its length. The header's byte goes along. Assumes nothing.
use mathlib.Core.Path.{◌≡◌}
use mathlib.Core.List.{List}
use Prim.Native.Nat.{ℕ, ◌≤◌, ◌<◌}
use lib.ListN.{length, get_or}
use Rattle.spec.specs.Drives.{view_of}
use Rattle.spec.specs.Params.{pointers_len, place_of, place_byte}
use Rattle.spec.specs.Segments.{low_drive, serial_in}
use Rattle.disk_gather.proofs.read_serials.Given as goal

abbrev pub invariant-loop-z : goal.invariant-loop-z
invariant-loop-z l =
    (l.z ≤ l.p.Z) × (length l.out ≡ length l.initial.out) × (l.at ≡ place_byte l.p (place_of l.p l.low l.z 0))
    × ((off ps : List ℕ) → length ps ≡ pointers_len l.p → (j : ℕ) → j < l.z → get_or l.out j 0 ≡ serial_in l.p (view_of l.p off l.image ps) (low_drive l.p l.gone) j)
