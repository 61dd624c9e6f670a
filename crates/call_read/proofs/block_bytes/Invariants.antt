-- `block_bytes`: the first d entries are the bytes at which the present drives' blocks begin; each turn sets the next. Assumes nothing.
use mathlib.Core.Path.{◌≡◌}
use mathlib.Core.Bool.{false}
use mathlib.Core.List.{List}
use Prim.Native.Nat.{ℕ, ◌≤◌, ◌<◌}
use lib.ListN.{length, get_or}
use Rattle.spec.specs.Lists.{is_in}
use Rattle.spec.specs.Params.{image_len}
use Rattle.call_read.specs.Decode.{BlockAt}
use Rattle.call_read.proofs.block_bytes.Given as goal

abbrev pub invariant-loop-d : goal.invariant-loop-d
invariant-loop-d l =
    (l.d ≤ l.p.N)
    × (length l.bytes ≡ length l.initial.bytes)
    × ((e : ℕ) → e < l.d → (im : List ℕ) → length im ≡ image_len l.p → is_in l.gone e ≡ false → BlockAt l.p im l.segment e (get_or l.at e 0) (get_or l.bytes e 0))
