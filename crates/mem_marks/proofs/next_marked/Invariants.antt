-- `next_marked`: no number from k to i - 1 is marked; a marked i is the answer, else `step_over` passes unmarked ones; at end there is none. Assumes nothing.
use Prim.Native.Nat.{ℕ, ◌-◌, ◌≤◌, ◌<◌}
use Rattle.mem_marks.specs.Marks.{is_marked}
use mathlib.Core.Bool.{false}
use mathlib.Core.Path.{◌≡◌}
use Rattle.mem_marks.proofs.next_marked.Given as goal

abbrev pub invariant-loop-i : goal.invariant-loop-i
invariant-loop-i l = (l.k ≤ l.i) × (l.i ≤ l.end) × ((j : ℕ) → l.k ≤ j → j < l.i → is_marked l.marks j ≡ false)

abbrev pub decreases-loop-i : goal.decreases-loop-i
decreases-loop-i l = l.end - l.i
