-- `write_zones`: what remains to be written makes at each turn what all zones make of the buffer at the start (`ZonesLeft`). Assumes nothing.
use Rattle.spec.specs.Drives.{seg}
use Rattle.disk_records.specs.Header.{ZonesLeft}
use Rattle.disk_records.proofs.write_zones.Given as goal

abbrev pub invariant-loop-d : goal.invariant-loop-d
invariant-loop-d l = ZonesLeft l.fn.p (seg l.zones) l.initial.dst l.dst l.d
