-- `empty_zones`: the fewest so far and those of the drives from d on come to the fewest of all and of most. Assumes nothing.
use mathlib.Core.Path.{◌≡◌}
use mathlib.Core.List.{map}
use Prim.Native.Nat.{◌-◌, ◌≤◌, min}
use Rattle.spec.specs.Lists.{up_from, below, tally, least}
use Rattle.disk_zones.specs.Empty.{free_by}
use Rattle.disk_zones.proofs.empty_zones.Given as goal

abbrev pub invariant-loop-d : goal.invariant-loop-d
invariant-loop-d l = (l.d ≤ l.p.N)
    × (least l.n (map (λ e. tally (free_by l.p l.pointers l.offline e) (below l.p.Z)) (up_from l.d (l.p.N - l.d)))
    ≡ least (min l.most l.p.Z) (map (λ e. tally (free_by l.p l.pointers l.offline e) (below l.p.Z)) (below l.p.N)))
