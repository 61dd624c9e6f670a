-- `exam_segments`: e is what was seen of the zones below z, none at fault; the first at fault ends it by its number, and at Z all are seen. Assumes nothing.
use Rattle.disk_drives.specs.Viewed.{viewed}
use mathlib.Core.Path.{◌≡◌}
use Prim.Native.Nat.{◌-◌, ◌≤◌}
use lib.ListN.{length}
use Rattle.spec.specs.Lists.{up_from, below, keep, first_or}
use Rattle.recover_check.specs.Faults.{faulty, ExamSays}
use Rattle.recover_check.proofs.exam_segments.Given as goal

abbrev pub invariant-loop-z : goal.invariant-loop-z
invariant-loop-z l =
    (l.z ≤ l.drives.p.Z) × (length l.at ≡ length l.initial.at) × ExamSays l.drives.p (viewed l.drives) l.gone l.z l.e
    × (first_or l.drives.p.Z (keep (faulty l.drives.p (viewed l.drives) l.gone) (up_from l.z (l.drives.p.Z - l.z)))
    ≡ first_or l.drives.p.Z (keep (faulty l.drives.p (viewed l.drives) l.gone) (below l.drives.p.Z)))
