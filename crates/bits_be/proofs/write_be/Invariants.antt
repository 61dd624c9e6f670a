-- `write_be`: the bytes from at + i on are the lowest width - i of n, and rest is what stands above them. Assumes nothing.
use mathlib.Core.Path.{◌≡◌}
use Prim.Native.Nat.{◌+◌, ◌-◌, ◌/◌, ◌^◌}
use Rattle.spec.specs.Bytes.{to_be, splice}
use Rattle.bits_be.proofs.write_be.Given as goal

abbrev pub invariant-loop-i : goal.invariant-loop-i
invariant-loop-i l = (l.rest ≡ l.n / 256 ^ (l.width - l.i))
    × (l.dst ≡ splice l.initial.dst (l.at + l.i) (to_be (l.width - l.i) l.n))
