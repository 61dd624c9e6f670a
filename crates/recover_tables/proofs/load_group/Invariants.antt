-- Stripe by stripe, by the law walked-turn; the index is that of the group, which the ground of the tables gives (index_group).
use mathlib.Core.Path.{◌≡◌}
use Prim.Native.Nat.{◌≤◌}
use lib.ListN.{length}
use Rattle.spec.specs.Drives.{view_of}
use Rattle.spec.specs.Lists.{up_from}
use Rattle.recover_tables.specs.Walk.{Walked}
use Rattle.recover_tables.proofs.load_group.Given as goal

abbrev pub invariant-loop-k : goal.invariant-loop-k
invariant-loop-k l =
    (l.k ≤ l.len) × (length l.addresses ≡ length l.initial.addresses)
    × Walked l.p (view_of l.p l.offline l.image l.pointers) l.w.gone l.compact l.w.seg (up_from l.w.base l.k) l.initial.addresses l.addresses l.initial.next.stamp.0
    l.next.stamp.0 l.initial.next.counted l.next.counted
