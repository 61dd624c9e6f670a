-- `mark_segment`: the zones of the drives below d are marked. Assumes nothing.
use mathlib.Core.Path.{◌≡◌}
use Prim.Native.Nat.{◌≤◌}
use lib.ListN.{length}
use Rattle.recover_segments.specs.Taken.{MarkedOn}
use Rattle.recover_segments.proofs.mark_segment.Given as goal

abbrev pub invariant-loop-d : goal.invariant-loop-d
invariant-loop-d l = (l.d ≤ l.p.N) × (length l.marks ≡ length l.initial.marks) × MarkedOn l.p l.segment l.d l.initial.marks l.marks
