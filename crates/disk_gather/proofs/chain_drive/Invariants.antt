-- `chain_drive`: from z on the drive has its index; at Z there is none to have, and each turn adds one zone below. The header's byte goes along. Assumes nothing.
use Rattle.disk_drives.specs.Viewed.{viewed}
use mathlib.Core.Path.{◌≡◌}
use Prim.Native.Nat.{◌≤◌}
use lib.ListN.{length}
use Rattle.spec.specs.Params.{place_of, place_byte}
use Rattle.disk_gather.specs.Index.{Chained}
use Rattle.disk_gather.proofs.chain_drive.Given as goal

abbrev pub invariant-loop-z : goal.invariant-loop-z
invariant-loop-z l =
    (l.z ≤ l.drives.p.Z) × (length l.heads ≡ length l.initial.heads) × (length l.links ≡ length l.initial.links) × (l.at ≡ place_byte l.drives.p (place_of l.drives.p l.drive l.z 0))
    × Chained l.drives.p (viewed l.drives) l.mask l.drive l.z l.heads l.links
