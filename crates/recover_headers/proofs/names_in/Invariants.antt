-- `names_in`: after d turns the first d zones are those named for the first d drives, the others 0; after N it is the segment. Assumes nothing.
use mathlib.Core.Path.{◌≡◌}
use mathlib.Core.List.{List}
use Prim.Native.Nat.{ℕ, ◌≤◌}
use lib.ListN.{length}
use Rattle.spec.specs.Drives.{view_of, chunk_at}
use Rattle.spec.specs.Layout.{header_zone}
use Rattle.spec.specs.Params.{pointers_len}
use Rattle.law_basic.specs.Segs.{filled_to}
use Rattle.recover_headers.proofs.names_in.Given as goal

abbrev pub invariant-loop-d : goal.invariant-loop-d
invariant-loop-d l =
    (l.d ≤ l.p.N) × ((off ps : List ℕ) → length ps ≡ pointers_len l.p → l.zones ≡ filled_to (header_zone l.p (chunk_at (view_of l.p off l.image ps) l.drive l.zone 0).block) l.d)
