-- `show_chunk`: index and value are `compact_at` and `compact_entry`, and the index is within the table; the write is `set`. Assumes nothing.
use Rattle.spec.specs.Layout.{compact_entry}
use Rattle.spec.specs.Memory.{compact_at}
use lib.ListN.{set, length-set}
use mathlib.Core.Path.{◌≡◌}
use native.Mathlib.Omega.{arith}
use Rattle.call_land.proofs.show_chunk.Goals as goal

pub compact_at-c-requires : goal.compact_at-c-requires
compact_at-c-requires c =
    let q = c.requires in record { p_value = q.p_value; drive_lt_n = (q.compact_len.1, q.compact_len.2, q.compact_len.3) }

pub bounds-compact-c : goal.bounds-compact-c
bounds-compact-c c = omega (arith, c.compact_at-c.ensures.1, c.requires.compact_len.0)

pub shape_of-compact : goal.shape_of-compact
shape_of-compact c = simp length-set

pub returns : goal.returns
returns c =
    let a = c.args in
    let x : c.compact_at-c.result ≡ compact_at a.p a.drive a.zone a.offset = c.compact_at-c.ensures.0 in
    let y : c.compact_entry-b.result ≡ compact_entry a.p a.stripe = c.compact_entry-b.ensures in
    λ j. set a.compact.now (x j) (y j)
