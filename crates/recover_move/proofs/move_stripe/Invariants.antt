-- `move_stripe`: what is owed are the chunks of the drives from d on; to is not the segment, which stays as it is; one turn pays d, or is cut. Assumes nothing.
use Prim.Native.Nat.{ℕ, ◌+◌, ◌-◌}
use Rattle.spec.specs.Drives.{mk_disk}
use Rattle.spec.specs.Lists.{up_from}
use Rattle.spec.specs.Restart.{moved_stripe}
use Rattle.recover_groups.specs.Groups.{segment_in}
use Rattle.recover_move.specs.Moves.{moved_to, Moves}
use lib.ListN.{length}
use mathlib.Core.List.{List, map}
use mathlib.Core.Path.{◌≡◌}
use Rattle.recover_move.proofs.move_stripe.Given as goal

abbrev pub invariant-loop-d : goal.invariant-loop-d
invariant-loop-d l =
    (length l.image ≡ length l.initial.image)
    × (length l.pointers ≡ length l.initial.pointers)
    × ((off : List ℕ)
    → Moves l.p off l.count (moved_stripe l.p (segment_in l.p off l.initial.image l.initial.pointers l.w) l.to (l.w.base + l.k) l.s) (mk_disk l.initial.image l.initial.pointers) l.w.seg
    (map (moved_to l.p (segment_in l.p off l.initial.image l.initial.pointers l.w) l.to (l.w.base + l.k) l.s) (up_from l.d (l.p.N - l.d))) l.left (mk_disk l.image l.pointers))
