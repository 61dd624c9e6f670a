-- `fold_longs`: x is the exclusive or of the first i numbers; one turn adds number i, as `read_be64` reads it. Assumes nothing.
use mathlib.Core.Path.{◌≡◌}
use Rattle.spec.specs.Bytes.{xor_all}
use Rattle.bench_leaves.specs.Bench.{longs_in}
use Rattle.bench_leaves.proofs.fold_longs.Given as goal

abbrev pub invariant-loop-i : goal.invariant-loop-i
invariant-loop-i l = l.x ≡ xor_all (longs_in l.i l.src)
