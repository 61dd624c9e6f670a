-- `index_group`: the drives below d have their rows and none is bad; row d leaves those below it, a bad drive ends it, at N all rows stand. Assumes nothing.
use mathlib.Core.Path.{◌≡◌}
use mathlib.Core.List.{List}
use Prim.Native.Nat.{ℕ, ◌-◌, ◌≤◌, ◌<◌}
use lib.ListN.{length}
use Rattle.spec.specs.Drives.{view_of, sealed_in}
use Rattle.spec.specs.Lists.{up_from, below, any}
use Rattle.spec.specs.Segments.{recs_on}
use Rattle.recover_groups.specs.Entering.{drive_bad}
use Rattle.recover_groups.specs.Groups.{group_recs, segment_in, Row}
use Rattle.recover_groups.proofs.index_group.Given as goal

abbrev pub invariant-loop-d : goal.invariant-loop-d
invariant-loop-d l =
    (l.d ≤ l.p.N)
    × (length l.at ≡ 2048)
    × ((off : List ℕ) → l.w.full ≡ sealed_in l.p (view_of l.p off l.image l.pointers) l.w.gone l.w.seg
    → (e : ℕ) → e < l.d → Row l.p l.w.base (group_recs l.p l.w.base (recs_on (segment_in l.p off l.image l.pointers l.w) e)) e l.at)
    × ((off : List ℕ) → l.w.full ≡ sealed_in l.p (view_of l.p off l.image l.pointers) l.w.gone l.w.seg
    → any (drive_bad l.p l.w.gone (segment_in l.p off l.image l.pointers l.w) l.w.base) (up_from l.d (l.p.N - l.d))
    ≡ any (drive_bad l.p l.w.gone (segment_in l.p off l.image l.pointers l.w) l.w.base) (below l.p.N))
