-- `seg_by`: after d turns the first d zones are the segment's and the others 0; after N it is the segment. Assumes nothing.
use mathlib.Core.Path.{◌≡◌}
use mathlib.Core.List.{List}
use mathlib.Core.Bool.{false}
use Prim.Native.Nat.{ℕ, ◌≤◌, ◌<◌}
use lib.ListN.{length}
use Rattle.spec.specs.Drives.{view_of}
use Rattle.spec.specs.Params.{pointers_len}
use Rattle.spec.specs.Segments.{lowest_bearing, zone_for}
use Rattle.spec.specs.Lists.{is_in}
use Rattle.law_basic.specs.Segs.{filled_to}
use Rattle.disk_gather.proofs.seg_by.Given as goal

abbrev pub invariant-loop-d : goal.invariant-loop-d
invariant-loop-d g l =
    (l.d ≤ l.p.N)
    × ((off ps : List ℕ) (s : ℕ) → length ps ≡ pointers_len l.p → l.first ≡ lowest_bearing l.p (view_of l.p off l.image ps) l.low s
    → ((d n : ℕ) → d < l.p.N → is_in l.gone d ≡ false → goal.F-post g l.lowest d n → n ≡ lowest_bearing l.p (view_of l.p off l.image ps) d s)
    → l.zones ≡ filled_to (zone_for l.p (view_of l.p off l.image ps) l.gone s) l.d)
