-- `put_numbers`: after i turns the bytes of the first i numbers stand from at on; one turn appends those of number i. Assumes nothing.
use Rattle.std.proofs.Common.{◌≡◌, map, take}
use Rattle.spec.specs.Bytes.{to_le, splice}
use Rattle.spec.specs.Lists.{flat}
use Rattle.mem_codec.proofs.put_numbers.Given as goal

abbrev pub invariant-loop-i : goal.invariant-loop-i
invariant-loop-i g l = l.dst ≡ splice l.initial.dst l.at (flat (to_le g.T.Number.WIDTH) (take l.i (map g.T.Number.value l.ns)))
