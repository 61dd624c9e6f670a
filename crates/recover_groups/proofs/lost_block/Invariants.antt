-- `lost_block`: the first d entries are the offsets of the blocks of present drives; from all of them `decode_block` decodes. Assumes nothing.
use mathlib.Core.Path.{◌≡◌}
use mathlib.Core.Bool.{false}
use mathlib.Core.List.{List}
use Prim.Native.Nat.{ℕ, ◌+◌, ◌≤◌, ◌<◌}
use lib.ListN.{length, get_or}
use Rattle.spec.specs.Bytes.{part}
use Rattle.spec.specs.Lists.{is_in}
use Rattle.spec.specs.Params.{image_len}
use Rattle.spec.specs.Segments.{stored_piece}
use Rattle.recover_groups.specs.Groups.{segment_in, GroupReads}
use Rattle.recover_groups.proofs.lost_block.Given as goal

abbrev pub invariant-loop-d : goal.invariant-loop-d
invariant-loop-d l =
    (l.d ≤ l.p.N)
    × (length l.from ≡ 8)
    × ((e : ℕ) → e < l.d → is_in l.w.gone e ≡ false → (get_or l.from e 0 + l.p.B ≤ image_len l.p) × ((off ps : List ℕ) → GroupReads l.p off l.image ps l.w l.at
    → (stored_piece (segment_in l.p off l.image ps l.w) (l.w.base + l.k) e).block ≡ part (get_or l.from e 0) l.p.B l.image))
