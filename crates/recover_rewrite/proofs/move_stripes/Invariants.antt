-- `move_stripes`: what is left to move are the counted stripes from base on, and next is at most base; one turn moves a group, or is cut. Assumes nothing.
use Prim.Native.Nat.{ℕ, ◌-◌, ◌%◌, ◌≤◌, ◌<◌}
use Rattle.spec.specs.Drives.{view_of, mk_disk}
use Rattle.spec.specs.Segments.{segment_of, counted}
use Rattle.recover_rewrite.specs.Due.{counted_from, MovedUpto}
use Rattle.recover_rewrite.specs.Due.{unmoved}
use lib.ListN.{length}
use mathlib.Core.List.{List}
use mathlib.Core.Path.{◌≡◌}
use Rattle.recover_rewrite.proofs.move_stripes.Given as goal

abbrev pub invariant-loop-base : goal.invariant-loop-base
invariant-loop-base l =
    (l.base % l.p.G ≡ 0)
    × (length l.at ≡ 2048)
    × (l.base < l.p.S)
    × (length l.image ≡ length l.initial.image)
    × (length l.pointers ≡ length l.initial.pointers)
    × (l.m.next ≤ l.base)
    × ((off : List ℕ)
    → MovedUpto l.p off (segment_of l.p (view_of l.p off l.initial.image l.initial.pointers) 0 l.seg) l.to l.seg (unmoved l.count) (mk_disk l.initial.image l.initial.pointers)
    (counted l.p 0 (segment_of l.p (view_of l.p off l.initial.image l.initial.pointers) 0 l.seg))
    (counted_from l.p (segment_of l.p (view_of l.p off l.initial.image l.initial.pointers) 0 l.seg) l.base (l.p.S - l.base)) l.m (mk_disk l.image l.pointers))
