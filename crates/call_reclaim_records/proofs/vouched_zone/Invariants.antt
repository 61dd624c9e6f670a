-- `vouched_zone`: c is at most those pointed at of the first o data blocks, and footer block f begins at byte at; a turn adds its run. Assumes nothing.
-- the o data blocks whose records lie in footer blocks before f, which begins at byte at
use Prim.Native.Nat.{◌+◌, ◌≤◌}
use Rattle.spec.specs.Params.{place_of, place_byte}
use Rattle.call_reclaim_records.specs.Vouch.{pointed_from}
use lib.ListN.{length}
use mathlib.Core.Path.{◌≡◌}
use Rattle.call_reclaim_records.proofs.vouched_zone.Given as goal

abbrev pub invariant-loop-f : goal.invariant-loop-f
invariant-loop-f l =
    (l.f ≤ l.feet) × (l.o ≤ l.p.S) × (l.c ≤ length (pointed_from l.addresses l.p.L l.first l.o)) × (l.at ≡ place_byte l.p (place_of l.p l.drive l.zone (1 + l.p.S + l.f)))
