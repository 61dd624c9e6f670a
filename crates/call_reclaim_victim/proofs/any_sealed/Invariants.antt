-- `any_sealed`: some segment from g on is sealed just when any is; a found one ends it, one passed drops off. Assumes nothing.
-- a segment from g on is sealed just if any is
use Prim.Native.Nat.{◌-◌, ◌≤◌}
use Rattle.spec.specs.Lists.{up_from, below, any}
use lib.ListN.{get_or}
use mathlib.Core.Bool.{false}
use mathlib.Core.Path.{◌≡◌}
use Rattle.call_reclaim_victim.proofs.any_sealed.Given as goal

abbrev pub invariant-loop-g : goal.invariant-loop-g
invariant-loop-g l = (l.g ≤ l.fn.p.Z) × (any (λ k. get_or l.sealed k false) (up_from l.g (l.fn.p.Z - l.g)) ≡ any (λ k. get_or l.sealed k false) (below l.fn.p.Z))
