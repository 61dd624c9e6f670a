-- `load_groups`: walking the stripes from base on ends as walking all does; one turn walks a group, and at S nothing is left to walk. Assumes nothing.
use mathlib.Core.Path.{◌≡◌}
use mathlib.Core.List.{List}
use Prim.Native.Nat.{ℕ, ◌-◌, ◌%◌, ◌≤◌, ◌<◌}
use lib.ListN.{length}
use Rattle.spec.specs.Drives.{view_of}
use Rattle.spec.specs.Lists.{up_from, below}
use Rattle.recover_addresses.specs.Told.{Known}
use Rattle.recover_tables.specs.Walk.{Walked}
use Rattle.recover_tables.proofs.load_groups.Given as goal

abbrev pub invariant-loop-base : goal.invariant-loop-base
invariant-loop-base l =
    (length l.addresses ≡ length l.initial.addresses) × (length l.at ≡ length l.initial.at) × (l.base % l.p.G ≡ 0) × (l.base < l.p.S) × (l.t.counted ≤ l.base)
    × Known l.p (view_of l.p l.offline l.image l.pointers) l.gone l.compact l.addresses
    × ((tb : List ℕ) (m n : ℕ) → Walked l.p (view_of l.p l.offline l.image l.pointers) l.gone l.compact l.seg (up_from l.base (l.p.S - l.base)) l.addresses tb l.t.stamp.0 m l.t.counted n
    → Walked l.p (view_of l.p l.offline l.image l.pointers) l.gone l.compact l.seg (below l.p.S) l.initial.addresses tb l.initial.t.stamp.0 m l.initial.t.counted n)
