-- `free_slot`: i plus the index of the first free eighth from i on is the answer; a hit has index 0, a miss goes one on, 8 ends it. Assumes nothing.
use Rattle.mem_rows.specs.Rows.{behind}
use Prim.Native.Nat.{◌+◌, ◌-◌}
use Rattle.spec.specs.Lists.{up_from, index_of}
use Rattle.spec.specs.Memory.{is_free, free_slot}
use mathlib.Core.Path.{◌≡◌}
use Rattle.call_filling.proofs.free_slot.Given as goal

abbrev pub invariant-loop-i : goal.invariant-loop-i
invariant-loop-i l = l.i + index_of (is_free (behind l.f)) (up_from l.i (8 - l.i)) ≡ free_slot (behind l.f)
