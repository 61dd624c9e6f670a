-- `keep_flags`: zone by zone the array says where one remains (`set_more`), and keeps its length. Assumes nothing.
use mathlib.Core.Path.{◌≡◌}
use mathlib.Core.List.{List}
use mathlib.Core.Bool.{false}
use Prim.Native.Nat.{ℕ, ◌<◌}
use lib.ListN.{length, get_or}
use Rattle.spec.specs.Drives.{view_of}
use Rattle.spec.specs.Params.{pointers_len}
use Rattle.law_drives.specs.Segs.{Here}
use Rattle.law_drives.specs.Tables.{remains_at}
use Rattle.disk_gather.specs.Flags.{LeftFlags}
use Rattle.disk_gather.specs.Values.{IndexOf}
use Rattle.disk_gather.proofs.keep_flags.Given as goal

abbrev pub invariant-loop-z : goal.invariant-loop-z
invariant-loop-z l =
    let i = l.index in
    let p = i.p in
    (length l.out ≡ length l.initial.out)
    × ((off ps : List ℕ) → length ps ≡ pointers_len p → Here p i.gone → IndexOf (view_of p off l.image ps) i → LeftFlags p (view_of p off l.image ps) i.gone l.flags
    → (j : ℕ) → j < l.z → get_or l.out j false ≡ remains_at p (view_of p off l.image ps) i.gone j)
