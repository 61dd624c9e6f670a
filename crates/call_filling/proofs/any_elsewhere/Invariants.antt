-- `any_elsewhere`: some eighth from i on is in flight elsewhere just when any stripe in flight is; a found one ends it, one passed drops off. Assumes nothing.
use Rattle.mem_rows.specs.Rows.{behind}
use Prim.Native.Nat.{◌-◌}
use Rattle.spec.specs.Lists.{up_from, any}
use Rattle.spec.specs.Memory.{is_free, in_flight}
use Rattle.spec.specs.Write.{other_group}
use mathlib.Core.Bool.{not, ◌&&◌}
use mathlib.Core.Path.{◌≡◌}
use Rattle.call_filling.proofs.any_elsewhere.Given as goal

abbrev pub invariant-loop-i : goal.invariant-loop-i
invariant-loop-i l = any (λ k. not (is_free (behind l.f) k) && other_group l.p (behind l.f) k) (up_from l.i (8 - l.i)) ≡ any (other_group l.p (behind l.f)) (in_flight (behind l.f))
