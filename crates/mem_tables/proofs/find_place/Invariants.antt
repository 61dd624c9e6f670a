-- `find_place`: the search from a on finds what the search of all finds; a hit is the lowest, a miss passes on, at n there is none. Assumes nothing.
use Rattle.std.proofs.Common.{◌≡◌}
use Rattle.mem_tables.specs.Tables.{find_place, find_from}
use Rattle.mem_tables.proofs.find_place.Given as goal

abbrev pub invariant-loop-a : goal.invariant-loop-a
invariant-loop-a l = find_from l.table l.n l.wanted l.a ≡ find_place l.table l.n l.wanted
