-- `flag_repeats`: zone by zone the array has the flags (`set_more`), and keeps its length. The header's byte goes along. Assumes nothing.
use mathlib.Core.Path.{◌≡◌}
use mathlib.Core.Bool.{false}
use mathlib.Core.List.{List}
use Prim.Native.Nat.{ℕ, ◌<◌}
use lib.Dec.{leb}
use lib.ListN.{length, get_or}
use Rattle.spec.specs.Drives.{view_of}
use Rattle.spec.specs.Lists.{any}
use Rattle.spec.specs.Params.{pointers_len, place_of, place_byte, present}
use Rattle.spec.specs.Segments.{low_drive, serial_in, bearing}
use Rattle.disk_gather.specs.Values.{IndexOf}
use Rattle.disk_gather.proofs.flag_repeats.Given as goal

abbrev pub invariant-loop-z : goal.invariant-loop-z
invariant-loop-z l =
    let i = l.index in
    let p = i.p in
    (length l.out ≡ length l.initial.out) × (l.at ≡ place_byte p (place_of p i.low l.z 0))
    × ((off ps : List ℕ) → length ps ≡ pointers_len p → IndexOf (view_of p off l.image ps) i → (j : ℕ) → j < l.z
    → get_or l.out j false ≡ any (λ d. leb 2 (length (bearing p (view_of p off l.image ps) d (serial_in p (view_of p off l.image ps) (low_drive p i.gone) j)))) (present p i.gone))
