-- `slot_of`: i plus the index of the first hit from i on is the answer; a hit at i is it, a miss passes on, at 8 there is none: 8. Assumes nothing.
use Prim.Native.Nat.{◌+◌, ◌-◌}
use Rattle.spec.specs.Landing.{slot_of}
use Rattle.spec.specs.Lists.{up_from, index_of}
use Rattle.spec.specs.Memory.{stripe_in, is_free}
use lib.Dec.{eqb}
use mathlib.Core.Bool.{not, ◌&&◌}
use mathlib.Core.Path.{◌≡◌}
use Rattle.mem_state.proofs.slot_of.Given as goal

abbrev pub invariant-loop-i : goal.invariant-loop-i
invariant-loop-i l = l.i + index_of (λ k. not (is_free l.state k) && eqb (stripe_in l.state k) l.stripe) (up_from l.i (8 - l.i)) ≡ slot_of l.state l.stripe
