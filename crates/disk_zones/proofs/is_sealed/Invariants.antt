-- `is_sealed`: all drives are missing or full iff those from d on are; one that is not ends it; `sealed-list` says this of the view. Assumes nothing.
use mathlib.Core.Path.{◌≡◌}
use mathlib.Core.Bool.{◌||◌}
use Prim.Native.Nat.{◌-◌, ◌≤◌}
use lib.Dec.{eqb}
use Rattle.spec.specs.Drives.{pointer_of, zone_on}
use Rattle.spec.specs.Lists.{up_from, below, all, is_in}
use Rattle.spec.specs.Params.{capacity}
use Rattle.disk_zones.proofs.is_sealed.Given as goal

abbrev pub invariant-loop-d : goal.invariant-loop-d
invariant-loop-d l =
    (l.d ≤ l.p.N)
    × (all (λ e. is_in l.gone e || eqb (pointer_of l.p l.pointers e (zone_on l.segment e)) (capacity l.p)) (up_from l.d (l.p.N - l.d))
    ≡ all (λ e. is_in l.gone e || eqb (pointer_of l.p l.pointers e (zone_on l.segment e)) (capacity l.p)) (below l.p.N))
