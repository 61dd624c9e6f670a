-- `reset_stores`: d zones are reset and left + d = count: the rest under left comes to what all come to under count, whatever the image.
-- One turn resets the zone on drive d. left 0 is the cut end, d = N the end of all. Assumes nothing.
use mathlib.Core.Path.{◌≡◌}
use mathlib.Core.List.{List}
use Prim.Native.Nat.{ℕ}
use lib.ListN.{length}
use Rattle.spec.specs.Drives.{mk_disk}
use Rattle.disk_zones.specs.Made.{StoresLeft, reset_store}
use Rattle.disk_zones.proofs.reset_stores.Given as goal

abbrev pub invariant-loop-d : goal.invariant-loop-d
invariant-loop-d l =
    (length l.pointers ≡ length l.initial.pointers) × ((im : List ℕ) → StoresLeft l.p (reset_store l.segment) l.p.N l.count (mk_disk im l.initial.pointers) l.d l.left (mk_disk im l.pointers))
