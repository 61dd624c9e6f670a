-- `missing_footers`: what is owed are the footers of the drives from d on, whose zones are as found; a turn pays those of d, or is cut. Assumes nothing.
use Prim.Native.Nat.{ℕ}
use Rattle.spec.specs.Drives.{mk_disk}
use Rattle.recover_footers.specs.Feet.{FeetUpto}
use lib.ListN.{length}
use mathlib.Core.List.{List}
use mathlib.Core.Path.{◌≡◌}
use Rattle.recover_footers.proofs.missing_footers.Given as goal

abbrev pub invariant-loop-d : goal.invariant-loop-d
invariant-loop-d l =
    (length l.image ≡ length l.initial.image) × (length l.pointers ≡ length l.initial.pointers)
    × ((off : List ℕ) → FeetUpto l.p off l.count l.segment (mk_disk l.initial.image l.initial.pointers) l.d l.left (mk_disk l.image l.pointers))
