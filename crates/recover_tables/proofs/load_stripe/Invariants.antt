-- `load_stripe`: the first i data records are told to the table, and most is the greatest of stamp and theirs; one turn offers record i. Assumes nothing.
use mathlib.Core.Path.{◌≡◌}
use Prim.Native.Nat.{◌+◌, max, ◌≤◌}
use lib.ListN.{length}
use Rattle.spec.specs.Drives.{view_of}
use Rattle.spec.specs.Segments.{greatest_stamp}
use Rattle.recover_groups.specs.Groups.{segment_in}
use Rattle.recover_addresses.specs.Told.{Tells}
use Rattle.recover_tables.specs.Walk.{first_cands}
use Rattle.recover_tables.proofs.load_stripe.Given as goal

abbrev pub invariant-loop-i : goal.invariant-loop-i
invariant-loop-i l =
    (l.i ≤ l.n) × (length l.addresses ≡ length l.initial.addresses)
    × Tells l.p (view_of l.p l.offline l.image l.pointers) l.w.gone l.compact l.initial.addresses l.addresses
    (first_cands l.p l.w.gone (segment_in l.p l.offline l.image l.pointers l.w) (l.w.base + l.k) l.i)
    × (l.most.0 ≡ max l.initial.most.0 (greatest_stamp (first_cands l.p l.w.gone (segment_in l.p l.offline l.image l.pointers l.w) (l.w.base + l.k) l.i)))
