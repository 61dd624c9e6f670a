-- `survey`: the tally is of the stripes below base and, unless bad, no group there has a fault; one turn adds a group, the last one the rest. Assumes nothing.
use mathlib.Core.Path.{◌≡◌}
use mathlib.Core.List.{List}
use mathlib.Core.Bool.{false}
use Prim.Native.Nat.{ℕ, ◌%◌, ◌≤◌, ◌<◌}
use lib.ListN.{length}
use Rattle.spec.specs.Drives.{view_of, sealed_in}
use Rattle.spec.specs.Lists.{any}
use Rattle.spec.specs.Segments.{segment_of}
use Rattle.recover_groups.specs.Groups.{group_fault, recs_fault, bases_from}
use Rattle.recover_survey.specs.Stripes.{Tallied}
use Rattle.recover_survey.proofs.survey.Given as goal

abbrev pub invariant-loop-base : goal.invariant-loop-base
invariant-loop-base l =
    (length l.at ≡ 2048) × (l.base < l.p.S) × (l.base % l.p.G ≡ 0) × (l.t.counted ≤ l.base) × (l.t.loose ≤ l.base)
    × ((off : List ℕ) → l.full ≡ sealed_in l.p (view_of l.p off l.image l.pointers) l.gone l.seg → l.t.bad ≡ false
    → any (group_fault l.p l.gone (segment_of l.p (view_of l.p off l.image l.pointers) l.gone l.seg)) (bases_from l.p l.base) ≡ recs_fault l.p l.gone
    (segment_of l.p (view_of l.p off l.image l.pointers) l.gone l.seg))
    × ((off : List ℕ) → l.full ≡ sealed_in l.p (view_of l.p off l.image l.pointers) l.gone l.seg
    → Tallied l.p l.gone (segment_of l.p (view_of l.p off l.image l.pointers) l.gone l.seg) l.base l.t)
