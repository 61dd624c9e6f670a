-- `clear_row`: the first k numbers of the drive's row are 0, those below the row as before; one turn sets number k to 0. Assumes nothing.
use mathlib.Core.Path.{◌≡◌}
use Prim.Native.Nat.{ℕ, ◌+◌, ◌*◌, ◌≤◌, ◌<◌}
use lib.ListN.{length, get_or}
use Rattle.recover_groups.specs.Groups.{SameBelow}
use Rattle.recover_groups.proofs.clear_row.Given as goal

abbrev pub invariant-loop-k : goal.invariant-loop-k
invariant-loop-k l = (l.k ≤ l.fn.p.G) × (length l.at ≡ 2048) × ((i : ℕ) → i < l.k → get_or l.at (256 * l.drive + i) 0 ≡ 0) × SameBelow l.drive l.initial.at l.at
