-- `lost_stamp`: t is the exclusive or of the stamps of the present drives below d; one turn adds that of d, and at N they are all. Assumes nothing.
use mathlib.Core.Path.{◌≡◌}
use mathlib.Core.Bool.{not}
use mathlib.Core.List.{map}
use Prim.Native.Nat.{◌≤◌}
use Rattle.spec.specs.Bytes.{xor_all}
use Rattle.spec.specs.Drives.{view_of}
use Rattle.spec.specs.Lists.{below, keep, is_in}
use Rattle.spec.specs.Segments.{segment_of, stored_rec}
use Rattle.recover_addresses.proofs.lost_stamp.Given as goal

abbrev pub invariant-loop-d : goal.invariant-loop-d
invariant-loop-d l =
    (l.d ≤ l.p.N) × (l.t.0 ≡ xor_all (map (λ e. (stored_rec (segment_of l.p (view_of l.p l.offline l.image l.pointers) l.gone l.segment) l.s e).stamp)
    (keep (λ e. not (is_in l.gone e)) (below l.d))))
