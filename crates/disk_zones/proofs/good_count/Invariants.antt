-- `good_count`: the fewest so far and those of the drives from d on come to the fewest of all, at most most. Assumes nothing.
use mathlib.Core.Path.{◌≡◌}
use mathlib.Core.List.{map}
use Prim.Native.Nat.{◌-◌, min, ◌≤◌}
use Rattle.spec.specs.Drives.{is_good, good_count}
use Rattle.spec.specs.Lists.{up_from, below, tally, least}
use Rattle.disk_zones.proofs.good_count.Given as goal

abbrev pub invariant-loop-d : goal.invariant-loop-d
invariant-loop-d l =
    (l.d ≤ l.p.N) × (l.n ≤ l.most) × (least l.n (map (λ e. tally (is_good l.p l.offline e) (below l.p.Z)) (up_from l.d (l.p.N - l.d))) ≡ min l.most (good_count l.p l.offline))
