-- `gather_left`: zone by zone the rows (`rows_more`) and the flags (`set_more`) are as asked, and keep their lengths. Assumes nothing.
use mathlib.Core.Path.{◌≡◌}
use mathlib.Core.Bool.{true, false}
use mathlib.Core.List.{List}
use Prim.Native.Nat.{ℕ, ◌*◌, ◌<◌}
use lib.ListN.{length, get_or}
use Rattle.spec.specs.Bytes.{part}
use Rattle.spec.specs.Drives.{view_of}
use Rattle.spec.specs.Params.{pointers_len}
use Rattle.spec.specs.Segments.{low_drive, leads}
use Rattle.law_drives.specs.Tables.{seg_at}
use Rattle.disk_gather.specs.Flags.{left_at, Serials}
use Rattle.disk_gather.specs.Values.{IndexOf}
use Rattle.disk_gather.proofs.gather_left.Given as goal

abbrev pub invariant-loop-z : goal.invariant-loop-z
invariant-loop-z l =
    let i = l.index in
    let p = i.p in
    (length l.rows ≡ length l.initial.rows) × (length l.left ≡ length l.initial.left)
    × ((off ps : List ℕ) → length ps ≡ pointers_len p → IndexOf (view_of p off l.image ps) i → Serials p (view_of p off l.image ps) i.gone l.serials
    → (j : ℕ) → j < l.z → leads p (view_of p off l.image ps) (low_drive p i.gone) j ≡ true → part (8 * j) 8 l.rows ≡ (seg_at p (view_of p off l.image ps) i.gone j).zones)
    × ((off ps : List ℕ) → length ps ≡ pointers_len p → IndexOf (view_of p off l.image ps) i → Serials p (view_of p off l.image ps) i.gone l.serials
    → (j : ℕ) → j < l.z → get_or l.left j false ≡ left_at p (view_of p off l.image ps) i.gone j)
