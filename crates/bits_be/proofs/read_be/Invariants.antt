-- `read_be`: n is the number of the i bytes passed, and below 256 ^ i. Assumes nothing.
use mathlib.Core.Path.{◌≡◌}
use Prim.Native.Nat.{◌^◌, ◌<◌}
use Rattle.spec.specs.Bytes.{be_of, part}
use Rattle.bits_be.proofs.read_be.Given as goal

abbrev pub invariant-loop-i : goal.invariant-loop-i
invariant-loop-i l = (l.n ≡ be_of (part l.at l.i l.src)) × (l.n < 256 ^ l.i)
