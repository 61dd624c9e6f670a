-- `index_of`: the first d drives have their index, and from d on nothing is entered. Assumes nothing.
use Rattle.disk_drives.specs.Viewed.{viewed}
use mathlib.Core.Path.{◌≡◌}
use Prim.Native.Nat.{◌≤◌}
use lib.ListN.{length}
use Rattle.disk_gather.specs.Index.{ChainedTo, Blank}
use Rattle.disk_gather.proofs.index_of.Given as goal

abbrev pub invariant-loop-d : goal.invariant-loop-d
invariant-loop-d l =
    (l.d ≤ l.drives.p.N) × (length l.heads ≡ length l.initial.heads) × (length l.links ≡ length l.initial.links) × Blank l.drives.p l.mask l.d l.links
    × ChainedTo l.drives.p (viewed l.drives) l.gone l.mask l.d l.heads l.links
