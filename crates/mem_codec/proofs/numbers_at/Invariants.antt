-- `numbers_at`: out is the first i numbers, then what it held at first; one turn puts number i. Assumes nothing.
use Rattle.std.proofs.Common.{◌≡◌, ◌++◌, map, length, drop}
use Rattle.spec.specs.Memory.{numbers_at}
use Rattle.mem_codec.proofs.numbers_at.Given as goal

abbrev pub invariant-loop-i : goal.invariant-loop-i
invariant-loop-i g l =
    let value = g.T.Number.value in
    (length l.out ≡ g.row.N) × (map value l.out ≡ numbers_at g.T.Number.WIDTH l.i l.at l.src ++ drop l.i (map value l.initial.out))
