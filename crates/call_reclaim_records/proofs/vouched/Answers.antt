-- `vouched`: c is at most the live blocks of the segment on drives below d, and at most 65535 * d; a turn adds drive d's (`drive_more`). Assumes nothing.
use Prim.Native.Nat.{ℕ, ◌+◌, ◌*◌, ◌≤◌, ◌<◌}
use Rattle.spec.specs.Drives.{zone_on}
use Rattle.spec.specs.Params.{place_of}
use Rattle.law_basic.specs.Geometry.{ranged}
use Rattle.law_basic.specs.Segs.{low_here}
use Rattle.call_reclaim_records.specs.Vouch.{pointed_from, live_below_drive, drive_more}
use lib.ListN.{length}
use mathlib.Core.Path.{sym, subst}
use native.Mathlib.Omega.{arith}
use Rattle.call_reclaim_records.proofs.vouched.Goals as goal
use Rattle.call_reclaim_records.proofs.vouched.Goals.{After-vouched_zone-c, After-zone_on-zone}

pub loop-d-init : goal.loop-d-init
loop-d-init c = (omega arith, omega arith, omega arith)

pub returns-then-most-c : goal.returns-then-most-c
returns-then-most-c c =
    let a = c.args in
    let l = c.loop-d in
    omega (arith, l.invariant.1, live_below_drive a.p a.addresses.now a.segment l.d l.invariant.0)

pub zone_on-zone-requires : goal.zone_on-zone-requires
zone_on-zone-requires c = record { p_value = c.requires.p_value; drive_lt_n = c.loop-d-test.true }

pub overflow_sub-most : goal.overflow_sub-most
overflow_sub-most c = omega (arith, c.if-most-c.false)

-- its zone on the drive
its_zone : (c : After-zone_on-zone) → let a = c.args in
    zone_on a.segment c.loop-d.d < a.p.Z
its_zone c =
    low_here c.args.p c.args.segment c.loop-d.d c.requires.image_len.2 c.loop-d-test.true

pub vouched_zone-c-requires : goal.vouched_zone-c-requires
vouched_zone-c-requires c =
    let h = c.requires.image_len in record {
      p_value = c.requires.p_value;
      image_len =
          (h.0, h.1, c.loop-d-test.true, subst (λ (x : ℕ). x < c.args.p.Z) (sym c.zone_on-zone.ensures) (its_zone (goal.at.vouched_zone-c-requires c).After-zone_on-zone));
    }

-- a drive more
more : (c : After-vouched_zone-c) → let l = c.loop-d in
    l.c + c.vouched_zone-c.result ≤ 65535 * (l.d + 1)
more c =
    omega (arith, c.loop-d.invariant.2, c.vouched_zone-c.ensures.1)

pub overflow_add-c : goal.overflow_add-c
overflow_add-c c =
    omega (arith, more (goal.at.overflow_add-c c).After-vouched_zone-c, c.loop-d-test.true, (ranged c.args.p c.requires.p_value).drives_high)

pub loop-d-preserved : goal.loop-d-preserved
loop-d-preserved c =
    let a = c.args in
    let l = c.loop-d in
    let r = ranged a.p c.requires.p_value in
    let n : c.vouched_zone-c.result ≤ length (pointed_from a.addresses.now a.p.L (place_of a.p l.d (zone_on a.segment l.d) 1) a.p.S) =
    subst (λ (x : ℕ). c.vouched_zone-c.result ≤ length (pointed_from a.addresses.now a.p.L (place_of a.p l.d x 1) a.p.S)) c.zone_on-zone.ensures c.vouched_zone-c.ensures.0 in
    let w = drive_more a.p a.addresses.now a.segment r l.d (its_zone (goal.at.loop-d-preserved c).After-zone_on-zone) l.c c.vouched_zone-c.result l.invariant.1 n in
    (omega (arith, c.loop-d-test.true), w, more (goal.at.loop-d-preserved c).After-vouched_zone-c)

pub returns : goal.returns
returns c =
    let a = c.args in
    let l = c.loop-d in
    omega (arith, l.invariant.1, live_below_drive a.p a.addresses.now a.segment l.d l.invariant.0)
