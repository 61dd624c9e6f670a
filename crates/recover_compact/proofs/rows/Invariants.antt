-- `rows`: the rows of the drives below d are said (`RowsSaid`); one turn puts the row of drive d in its place. Assumes nothing.
use mathlib.Core.Path.{◌≡◌}
use mathlib.Core.List.{List}
use Prim.Native.Nat.{ℕ, ◌≤◌}
use lib.ListN.{length}
use Rattle.spec.specs.Drives.{view_of}
use Rattle.recover_compact.specs.Compacts.{RowsSaid}
use Rattle.recover_compact.proofs.rows.Given as goal

abbrev pub invariant-loop-d : goal.invariant-loop-d
invariant-loop-d l =
    (l.d ≤ l.p.N) × (length l.compact ≡ length l.initial.compact) × ((off : List ℕ) → RowsSaid l.p (view_of l.p off l.image l.pointers) l.gone l.segment l.d l.initial.compact l.compact)
