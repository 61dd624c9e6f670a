-- `find_sealed`: below g each flag says whether its row is kept and sealed; a turn sets one more (`set_more`). Assumes nothing.
use Prim.Native.Nat.{ℕ, ◌≤◌, ◌<◌}
use Rattle.call_reclaim_live.specs.Owners.{sealed_at}
use Rattle.spec.specs.Drives.{view_of}
use Rattle.spec.specs.Params.{image_len}
use lib.ListN.{length, get_or}
use mathlib.Core.Bool.{false}
use mathlib.Core.List.{List}
use mathlib.Core.Path.{◌≡◌}
use Rattle.call_reclaim_live.proofs.find_sealed.Given as goal

abbrev pub invariant-loop-g : goal.invariant-loop-g
invariant-loop-g l =
    (l.g ≤ l.p.Z) × (length l.sealed ≡ length l.initial.sealed)
    × ((off im : List ℕ) → length im ≡ image_len l.p → (k : ℕ) → k < l.g → get_or l.sealed k false ≡ sealed_at l.p (view_of l.p off im l.pointers) l.rows l.kept k)
