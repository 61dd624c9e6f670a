-- `xor_piece`: the array holds i exclusive-ored bytes; at the end it holds 64, which replace those in dst. Assumes nothing.
use mathlib.Core.Path.{◌≡◌}
use lib.ListN.{length, take}
use Rattle.spec.specs.Bytes.{part, xors}
use Rattle.disk_blocks.proofs.xor_piece.Given as goal

abbrev pub invariant-loop-i : goal.invariant-loop-i
invariant-loop-i l = (length l.held ≡ 64) × (take l.i l.held ≡ xors (part l.at l.i l.dst) (part l.from l.i l.src))
