-- `xor_bytes`: after i turns the first i bytes from at are those of dst and src exclusive-ored; byte at + i is still as it came. Assumes nothing.
use mathlib.Core.Path.{◌≡◌}
use lib.ListN.{take}
use Rattle.spec.specs.Bytes.{part, splice, xors}
use Rattle.disk_blocks.proofs.xor_bytes.Given as goal

abbrev pub invariant-loop-i : goal.invariant-loop-i
invariant-loop-i l = l.dst ≡ splice l.initial.dst l.at (xors (part l.at l.i l.initial.dst) (take l.i l.src))
