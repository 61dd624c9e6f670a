-- `write_with`: after i turns laying the other n - i footers gives what laying all n at the start gives, and the zone's spares are as they came;
-- one turn makes footer first + i from them and writes it at block at + i. Assumes nothing.
use mathlib.Core.Path.{◌≡◌}
use lib.ListN.{length}
use Rattle.disk_footers.specs.Laid.{Writing}
use Rattle.disk_footers.proofs.write_with.Given as goal

abbrev pub invariant-loop-i : goal.invariant-loop-i
invariant-loop-i l = (length l.block ≡ length l.initial.block) × Writing l.p l.drive l.zone l.at l.first l.n l.initial.image l.i l.image
