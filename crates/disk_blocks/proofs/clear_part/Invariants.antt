-- `clear_part`: after i turns the first i bytes from at are zero and the rest is as it came; one turn appends one zero. Assumes nothing.
use Rattle.std.proofs.Common.{◌≡◌, replicate}
use Rattle.spec.specs.Bytes.{splice}
use Rattle.disk_blocks.proofs.clear_part.Given as goal

abbrev pub invariant-loop-i : goal.invariant-loop-i
invariant-loop-i l = l.dst ≡ splice l.initial.dst l.at (replicate l.i 0)
