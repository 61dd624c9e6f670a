-- `count_few`: n plus those marked from k on is all that are marked from lo on; a marked k moves to n in its turn. Assumes nothing.
use Prim.Native.Nat.{◌+◌, ◌-◌, ◌≤◌}
use Rattle.spec.specs.Lists.{up_from, keep}
use Rattle.mem_marks.specs.Marks.{is_marked}
use lib.ListN.{length}
use mathlib.Core.Path.{◌≡◌}
use Rattle.mem_marks.proofs.count_few.Given as goal

abbrev pub invariant-loop-k : goal.invariant-loop-k
invariant-loop-k l = (l.n + length (keep (is_marked l.marks) (up_from l.k (l.hi - l.k))) ≡ length (keep (is_marked l.marks) (up_from l.lo (l.hi - l.lo)))) × (l.n ≤ l.k - l.lo)
