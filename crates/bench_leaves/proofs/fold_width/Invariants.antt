-- `fold_width`: x is the exclusive or of the first i numbers; one turn adds number i, as `read_be` reads it with width 8. Assumes nothing.
use mathlib.Core.Path.{◌≡◌}
use Rattle.spec.specs.Bytes.{xor_all}
use Rattle.bench_leaves.specs.Bench.{longs_in}
use Rattle.bench_leaves.proofs.fold_width.Given as goal

abbrev pub invariant-loop-i : goal.invariant-loop-i
invariant-loop-i l = l.x ≡ xor_all (longs_in l.i l.src)
