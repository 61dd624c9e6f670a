-- `run_width`: after i turns the bytes of the first i numbers stand in front; one turn appends the 8 bytes of first + i, by `write_be`. Assumes nothing.
use mathlib.Core.Path.{◌≡◌}
use lib.ListN.{take}
use Rattle.spec.specs.Bytes.{to_be, splice}
use Rattle.spec.specs.Lists.{up_from, flat}
use Rattle.bench_leaves.proofs.run_width.Given as goal

abbrev pub invariant-loop-i : goal.invariant-loop-i
invariant-loop-i l = l.dst ≡ splice l.initial.dst 0 (flat (to_be 8) (take l.i (up_from l.first l.n)))
