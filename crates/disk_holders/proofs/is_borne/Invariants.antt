-- `is_borne`: all drives are missing or bear the serial just if those from d on do; one that does not ends it. Assumes nothing.
use Rattle.disk_drives.specs.Viewed.{viewed}
use mathlib.Core.Path.{◌≡◌}
use Rattle.disk_holders.specs.Borne.{borne_by_all, borne_from}
use Rattle.disk_holders.proofs.is_borne.Given as goal

abbrev pub invariant-loop-d : goal.invariant-loop-d
invariant-loop-d l =
    borne_from l.drives.p (viewed l.drives) l.gone l.serial.0 l.d ≡ borne_by_all l.drives.p (viewed l.drives) l.gone l.serial.0
