-- `xor_part`: the first i bytes from at are exclusive-ored and those ahead are as they came; a piece adds 64 bytes, the last call the rest. Assumes nothing.
use mathlib.Core.Path.{◌≡◌}
use Prim.Native.Nat.{◌-◌, ◌≤◌}
use lib.ListN.{length}
use Rattle.spec.specs.Bytes.{part, splice, xors}
use Rattle.disk_blocks.proofs.xor_part.Given as goal

abbrev pub invariant-loop-i : goal.invariant-loop-i
invariant-loop-i l = (l.i ≤ length l.src) × (l.dst ≡ splice l.initial.dst l.at (xors (part l.at l.i l.initial.dst) (part 0 l.i l.src)))

abbrev pub decreases-loop-i : goal.decreases-loop-i
decreases-loop-i l = length l.src - l.i
