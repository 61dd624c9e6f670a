-- `mark_places`: after a turns a place within is marked iff it was or one of the first a addresses has it; one turn adds that of address a. Assumes nothing.
use Prim.Native.Nat.{ℕ, ◌-◌, ◌≤◌, ◌<◌}
use Rattle.mem_marks.specs.Marks.{is_marked, is_pointed}
use Rattle.mem_tables.specs.Tables.{count_places}
use mathlib.Core.Bool.{◌||◌}
use mathlib.Core.Path.{◌≡◌}
use Rattle.mem_marks.proofs.mark_places.Given as goal

abbrev pub invariant-loop-a : goal.invariant-loop-a
invariant-loop-a l =
    ((q : ℕ) → l.first ≤ q → q < l.end → is_marked l.marks (q - l.first) ≡ (is_pointed l.addresses l.a q || is_marked l.initial.marks (q - l.first)))
    × (l.k ≡ count_places l.addresses l.a l.end 4294967295) × (l.k ≤ l.a)
