-- `lowest_bearing`: the first from z on is the first of all; such a zone z is it, another passes on; at Z there is none. The header's byte goes along. Assumes nothing.
use Rattle.disk_drives.specs.Viewed.{viewed}
use mathlib.Core.Path.{◌≡◌}
use Prim.Native.Nat.{◌-◌, ◌≤◌}
use Rattle.spec.specs.Lists.{below, up_from, keep, first_or}
use Rattle.spec.specs.Params.{place_of, place_byte}
use Rattle.disk_gather.specs.Index.{bears_at}
use Rattle.disk_gather.proofs.lowest_bearing.Given as goal

abbrev pub invariant-loop-z : goal.invariant-loop-z
invariant-loop-z l =
    (l.z ≤ l.drives.p.Z) × (l.at ≡ place_byte l.drives.p (place_of l.drives.p l.drive l.z 0))
    × (first_or l.drives.p.Z (keep (bears_at l.drives.p (viewed l.drives) l.drive l.serial.0) (up_from l.z (l.drives.p.Z - l.z)))
    ≡ first_or l.drives.p.Z (keep (bears_at l.drives.p (viewed l.drives) l.drive l.serial.0) (below l.drives.p.Z)))
