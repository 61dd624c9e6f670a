-- `load_segments`: the segments below z are toured, and next is the open one's count where it is below z and remains; one turn tours z. Assumes nothing.
use mathlib.Core.Path.{◌≡◌}
use mathlib.Core.Bool.{true}
use Prim.Native.Nat.{◌≤◌, ◌<◌}
use lib.ListN.{length}
use Rattle.spec.specs.Drives.{view_of}
use Rattle.spec.specs.Segments.{segment_of, counted}
use Rattle.law_drives.specs.Tables.{seg_at, remains_at}
use Rattle.recover_tables.specs.Walk.{Toured}
use Rattle.recover_tables.proofs.load_segments.Given as goal

abbrev pub invariant-loop-z : goal.invariant-loop-z
invariant-loop-z l =
    (l.z ≤ l.p.Z) × (length l.addresses ≡ length l.initial.addresses) × (length l.compact ≡ length l.initial.compact) × (length l.at ≡ length l.initial.at)
    × Toured l.p (view_of l.p l.offline l.image l.pointers) l.gone l.z l.compact l.addresses l.h.stamp.0 × (l.h.next ≤ l.p.S)
    × (l.opened < l.z → remains_at l.p (view_of l.p l.offline l.image l.pointers) l.gone l.opened ≡ true
    → l.h.next ≡ length (counted l.p l.gone (segment_of l.p (view_of l.p l.offline l.image l.pointers) l.gone (seg_at l.p (view_of l.p l.offline l.image l.pointers) l.gone l.opened))))
