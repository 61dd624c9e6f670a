-- `greatest_serial`: after z turns it is the greatest serial of the kept among the first z; at Z that is the greatest of the segments. Assumes nothing.
use mathlib.Core.Path.{◌≡◌}
use Prim.Native.Nat.{◌≤◌}
use Rattle.recover_segments.specs.Kept.{greatest_in}
use Rattle.recover_segments.proofs.greatest_serial.Given as goal

abbrev pub invariant-loop-z : goal.invariant-loop-z
invariant-loop-z l = (l.z ≤ l.fn.p.Z) × (l.most.0 ≡ greatest_in l.z l.kept l.serials)
