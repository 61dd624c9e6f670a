-- `fold_parts`: the block is the exclusive or of the first k parts, at first zeros; a turn adds the next (`blocks_more`). Assumes nothing.
use mathlib.Core.Path.{◌≡◌}
use Prim.Native.Nat.{◌≤◌}
use lib.ListN.{length}
use Rattle.spec.specs.Bytes.{parity}
use Rattle.disk_code.specs.Folds.{kept, parts_of}
use Rattle.disk_code.proofs.fold_parts.Given as goal

abbrev pub invariant-loop-k : goal.invariant-loop-k
invariant-loop-k l = (l.k ≤ l.n) × (length l.block ≡ l.b) × (l.block ≡ parity l.b (parts_of l.src l.at l.b (kept l.out l.k)))
