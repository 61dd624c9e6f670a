-- `shown_offsets`: the first d entries say where the drives show the stripe; each turn sets the next. Assumes nothing.
use mathlib.Core.Path.{◌≡◌}
use Prim.Native.Nat.{ℕ, ◌<◌}
use mathlib.Core.List.{List}
use Rattle.std.specs.Prelude.{Some}
use lib.ListN.{length, get_or}
use Rattle.spec.specs.Drives.{view_of}
use Rattle.spec.specs.Params.{image_len}
use Rattle.call_read.specs.Decode.{ShownOn}
use Rattle.call_read.proofs.shown_offsets.Given as goal

abbrev pub invariant-loop-d : goal.invariant-loop-d
invariant-loop-d l =
    (length l.at ≡ 8)
    × ((e : ℕ) → e < l.d → (off im : List ℕ) → length im ≡ image_len l.p
    → ShownOn l.p (view_of l.p off im l.pointers) l.gone l.compact l.segment l.s e (Some (get_or l.at e 0)))
