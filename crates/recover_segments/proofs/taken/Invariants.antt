-- `taken`: the table says which zones the first z flagged rows have; after Z rows that is what the remaining segments have. Assumes nothing.
use mathlib.Core.Path.{◌≡◌}
use Prim.Native.Nat.{◌≤◌}
use lib.ListN.{length}
use Rattle.recover_segments.specs.Taken.{MarkedBy}
use Rattle.recover_segments.proofs.taken.Given as goal

abbrev pub invariant-loop-z : goal.invariant-loop-z
invariant-loop-z l = (l.z ≤ l.p.Z) × (length l.marks ≡ length l.initial.marks) × MarkedBy l.p l.kept l.rows l.z l.marks
