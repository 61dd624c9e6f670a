-- `lowest_untaken`: among the zones below i, best has the lowest serial. Assumes nothing.
use Rattle.disk_drives.specs.Viewed.{viewed}
use Rattle.recover_drop.specs.Dropped.{serial_no, untaken_no}
use Rattle.recover_drop.specs.Rising.{LeastSo}
use Rattle.recover_drop.proofs.lowest_untaken.Given as goal

abbrev pub invariant-loop-i : goal.invariant-loop-i
invariant-loop-i l =
    LeastSo (untaken_no l.drives.p (viewed l.drives) l.taken) (serial_no l.drives.p (viewed l.drives)) l.n l.i l.best
