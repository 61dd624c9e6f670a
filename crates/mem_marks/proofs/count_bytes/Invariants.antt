-- `count_bytes`: n is how many numbers of the bytes a to i - 1 are marked; one turn adds the ones of byte i (`byte_more`). Assumes nothing.
use Prim.Native.Nat.{◌-◌, ◌*◌, ◌≤◌}
use Rattle.spec.specs.Lists.{up_from, keep}
use Rattle.mem_marks.specs.Marks.{is_marked}
use lib.ListN.{length}
use mathlib.Core.Path.{◌≡◌}
use Rattle.mem_marks.proofs.count_bytes.Given as goal

abbrev pub invariant-loop-i : goal.invariant-loop-i
invariant-loop-i l = (l.n ≡ length (keep (is_marked l.marks) (up_from (8 * l.a) (8 * l.i - 8 * l.a)))) × (l.n ≤ 8 * l.i - 8 * l.a)
