-- `numbers_past`: bad is how many of the first i numbers are out of range, at most i; one turn adds number i. Assumes nothing.
use Rattle.std.proofs.Common.{◌≡◌, ◌≤◌}
use Rattle.mem_bounds.specs.Bounds.{past_in}
use Rattle.mem_bounds.proofs.numbers_past.Given as goal

abbrev pub invariant-loop-i : goal.invariant-loop-i
invariant-loop-i g l = (l.bad ≡ past_in g.T.Number.WIDTH l.i l.at l.limit l.bytes) × (l.bad ≤ l.i)
