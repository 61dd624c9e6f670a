-- `overfull`: the lowest of worst and the zones from drive e on is the answer; a turn takes drive e's zone if it is lower (`faults_lower`). Assumes nothing.
use Prim.Native.Nat.{◌≤◌}
use Rattle.spec.specs.Drives.{zone_on}
use Rattle.spec.specs.Lists.{least, flat, cons_if, below}
use Rattle.call_land_faults.specs.Lowest.{over_by, faults_from}
use mathlib.Core.List.{[]}
use mathlib.Core.Path.{◌≡◌}
use Rattle.call_land_faults.proofs.overfull.Given as goal

abbrev pub invariant-loop-e : goal.invariant-loop-e
invariant-loop-e l =
    (l.worst ≤ l.p.Z)
    × (least l.worst (faults_from (λ x. cons_if (over_by l.p l.pointers l.d l.segment x) (zone_on l.segment x) []) l.e l.p.N)
    ≡ least l.zone (flat (λ x. cons_if (over_by l.p l.pointers l.d l.segment x) (zone_on l.segment x) []) (below l.p.N)))
