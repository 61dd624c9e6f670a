-- `vouched`: c is at most the live blocks of the segment on drives below d, and at most 65535 * d; a turn adds drive d's (`drive_more`). Assumes nothing.
use Prim.Native.Nat.{◌*◌, ◌≤◌}
use Rattle.call_reclaim_live.specs.Live.{in_seg, live_below}
use Rattle.spec.specs.Params.{place_of}
use lib.ListN.{length}
use Rattle.call_reclaim_records.proofs.vouched.Given as goal

abbrev pub invariant-loop-d : goal.invariant-loop-d
invariant-loop-d l = (l.d ≤ l.p.N) × (l.c ≤ length (live_below l.p l.addresses (in_seg l.p l.segment) (place_of l.p l.d 0 0))) × (l.c ≤ 65535 * l.d)
