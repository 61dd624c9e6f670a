-- `is_all_entered`: each present drive below d is entered; one that is not refutes it and ends it, and at N all are. Assumes nothing.
use mathlib.Core.Path.{◌≡◌}
use mathlib.Core.Bool.{false}
use Prim.Native.Nat.{ℕ, ◌≤◌, ◌<◌}
use Rattle.spec.specs.Lists.{is_in}
use Rattle.recover_groups.specs.Groups.{Entered}
use Rattle.recover_survey.proofs.is_all_entered.Given as goal

abbrev pub invariant-loop-d : goal.invariant-loop-d
invariant-loop-d l = (l.d ≤ l.p.N) × ((e : ℕ) → e < l.d → is_in l.w.gone e ≡ false → Entered l.p l.w.base l.at e l.k)
