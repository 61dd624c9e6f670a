-- `count_entries`: used holds the entries of the first a addresses by number; a turn adds that of address a (`entered-more`), at most a for each. Assumes nothing.
use Prim.Native.Nat.{◌≤◌}
use Rattle.call_reclaim_entries.specs.Entries.{TakenCounted}
use Rattle.mem_tables.specs.Tables.{count_places}
use lib.ListN.{length}
use mathlib.Core.Path.{◌≡◌}
use Rattle.call_reclaim_entries.proofs.count_entries.Given as goal

abbrev pub invariant-loop-a : goal.invariant-loop-a
invariant-loop-a l =
    (l.a ≤ l.fn.p.L) × (length l.used ≡ length l.initial.used) × TakenCounted l.fn.p l.segments l.addresses l.a l.used × (l.k ≡ count_places l.addresses l.a l.all 4294967295) × (l.k ≤ l.a)
