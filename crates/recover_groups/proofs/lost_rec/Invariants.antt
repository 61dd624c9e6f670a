-- `lost_rec`: the first d entries are the addresses and stamps of present drives; from all of them `decode_record` decodes. Assumes nothing.
use mathlib.Core.Path.{◌≡◌}
use mathlib.Core.Bool.{false}
use mathlib.Core.List.{List}
use Prim.Native.Nat.{ℕ, ◌+◌, ◌≤◌, ◌<◌}
use lib.ListN.{length, get_or}
use Rattle.spec.specs.Lists.{is_in}
use Rattle.spec.specs.Segments.{stored_rec}
use Rattle.recover_groups.specs.Groups.{segment_in, GroupReads}
use Rattle.recover_groups.proofs.lost_rec.Given as goal

abbrev pub invariant-loop-d : goal.invariant-loop-d
invariant-loop-d l =
    (l.d ≤ l.p.N)
    × (length l.addresses ≡ 8)
    × (length l.stamps ≡ 8)
    × ((e : ℕ) → e < l.d → is_in l.w.gone e ≡ false → (off ps : List ℕ) → GroupReads l.p off l.image ps l.w l.at
    → (stored_rec (segment_in l.p off l.image ps l.w) (l.w.base + l.k) e).address ≡ get_or l.addresses e 0)
    × ((e : ℕ) → e < l.d → is_in l.w.gone e ≡ false → (off ps : List ℕ) → GroupReads l.p off l.image ps l.w l.at
    → (stored_rec (segment_in l.p off l.image ps l.w) (l.w.base + l.k) e).stamp ≡ get_or l.stamps e 0)
