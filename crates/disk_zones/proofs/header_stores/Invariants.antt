-- `header_stores`: d headers are stored and left + d = count: the rest under left comes to what all come to under count; drives from d on have room.
-- One turn stores header d, which leaves the pointers of the other drives. left 0 is the cut end, d = N the end of all. Assumes nothing.
use mathlib.Core.Path.{◌≡◌}
use Prim.Native.Nat.{ℕ, ◌≤◌, ◌<◌}
use lib.ListN.{length}
use Rattle.spec.specs.Drives.{mk_disk, pointer_of, zone_on}
use Rattle.spec.specs.Params.{capacity}
use Rattle.disk_zones.specs.Made.{StoresLeft, header_store}
use Rattle.disk_zones.proofs.header_stores.Given as goal

abbrev pub invariant-loop-d : goal.invariant-loop-d
invariant-loop-d l =
    (length l.image ≡ length l.initial.image)
    × (length l.pointers ≡ length l.initial.pointers)
    × ((e : ℕ) → l.d ≤ e → e < l.p.N → pointer_of l.p l.pointers e (zone_on l.segment e) < capacity l.p)
    × StoresLeft l.p (header_store l.p l.segment l.serial.0 l.copied.0) l.p.N l.count (mk_disk l.initial.image l.initial.pointers) l.d l.left (mk_disk l.image l.pointers)
