-- `holds`: what the eighths from i on hold is what any holds; one that does ends it with true, another passes on, none left is false. Assumes nothing.
use Prim.Native.Nat.{◌-◌, ◌*◌}
use Rattle.spec.specs.Lists.{up_from, any}
use Rattle.spec.specs.Memory.{holds_at, holds, state_of}
use mathlib.Core.Path.{◌≡◌}
use Rattle.mem_state.proofs.holds.Given as goal

abbrev pub invariant-loop-i : goal.invariant-loop-i
invariant-loop-i l =
    any (holds_at (state_of l.bytes) l.address.0 l.stamp.0) (up_from (8 * l.i) (64 - 8 * l.i)) ≡ holds (state_of l.bytes) l.address.0 l.stamp.0
