-- `is_held`: what the cells from k on hold is what the eighth holds; from the first position not filled on they hold nothing. Assumes nothing.
use Prim.Native.Nat.{◌+◌, ◌-◌, ◌*◌}
use Rattle.mem_state.specs.Flights.{held_in_of}
use Rattle.spec.specs.Lists.{up_from, any}
use Rattle.spec.specs.Memory.{holds_at, state_of}
use mathlib.Core.Path.{◌≡◌}
use Rattle.mem_state.proofs.is_held.Given as goal

abbrev pub invariant-loop-k : goal.invariant-loop-k
invariant-loop-k l =
    any (holds_at (state_of l.bytes) l.address.0 l.stamp.0) (up_from (8 * l.i + l.k) (8 * l.i + 8 - (8 * l.i + l.k))) ≡ held_in_of (state_of l.bytes) l.address.0 l.stamp.0 l.i
