-- `count_places`: k is how many of the first a addresses lie from lo up to hi, at most a; one turn adds `is_near` of the place of address a. Assumes nothing.
use Rattle.std.proofs.Common.{◌≡◌, ◌≤◌}
use Rattle.mem_tables.specs.Tables.{count_places}
use Rattle.mem_tables.proofs.count_places.Given as goal

abbrev pub invariant-loop-a : goal.invariant-loop-a
invariant-loop-a l = (l.k ≡ count_places l.table l.a l.first l.end) × (l.k ≤ l.a)
