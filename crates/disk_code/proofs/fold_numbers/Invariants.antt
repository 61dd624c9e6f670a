-- `fold_numbers`: the sum is the exclusive or of the first k; a turn adds the next (`numbers_more`). Assumes nothing.
use mathlib.Core.Path.{◌≡◌}
use mathlib.Core.List.{map}
use Prim.Native.Nat.{◌≤◌}
use lib.ListN.{get_or}
use Rattle.spec.specs.Bytes.{xor_all}
use Rattle.disk_code.specs.Folds.{kept}
use Rattle.disk_code.proofs.fold_numbers.Given as goal

abbrev pub invariant-loop-k : goal.invariant-loop-k
invariant-loop-k l = (l.k ≤ l.n) × (l.sum ≡ xor_all (map (λ i. get_or l.numbers i 0) (kept l.out l.k)))
