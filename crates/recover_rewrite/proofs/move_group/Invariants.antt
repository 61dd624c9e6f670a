-- `move_group`: what is left to move are the counted stripes from base + k on; seg stays, and with it the index; a turn moves k or is cut. Assumes nothing.
use Prim.Native.Nat.{ℕ, ◌+◌, ◌-◌, ◌≤◌}
use Rattle.spec.specs.Drives.{mk_disk}
use Rattle.recover_groups.specs.Groups.{group_len, segment_in}
use Rattle.recover_rewrite.specs.Due.{counted_from, MovedUpto}
use lib.ListN.{length}
use mathlib.Core.List.{List}
use mathlib.Core.Path.{◌≡◌}
use Rattle.recover_rewrite.proofs.move_group.Given as goal

abbrev pub invariant-loop-k : goal.invariant-loop-k
invariant-loop-k l =
    (l.k ≤ l.len)
    × (length l.image ≡ length l.initial.image)
    × (length l.pointers ≡ length l.initial.pointers)
    × (l.next.next ≤ l.w.base + l.k)
    × ((off : List ℕ)
    → MovedUpto l.p off (segment_in l.p off l.initial.image l.initial.pointers l.w) l.to l.w.seg l.initial.next (mk_disk l.initial.image l.initial.pointers)
    (counted_from l.p (segment_in l.p off l.initial.image l.initial.pointers l.w) l.w.base (group_len l.p l.w.base))
    (counted_from l.p (segment_in l.p off l.initial.image l.initial.pointers l.w) (l.w.base + l.k) (group_len l.p l.w.base - l.k)) l.next (mk_disk l.image l.pointers))
