-- `is_enough`: best itself and a segment that is not sealed ask nothing; of another as many as needed are vouched for, and these are live. Assumes nothing.
use Rattle.call_reclaim_live.specs.Live.{in_seg, live_below}
use Rattle.law_basic.specs.Geometry.{ranged}
use Rattle.law_basic.specs.Ranges.{not_both}
use Rattle.law_basic.specs.Segs.{ZonesLow}
use Rattle.spec.specs.Params.{capacity}
use Rattle.spec.specs.declared.Seg.{Seg}
use Prim.Native.Nat.{◌*◌, ◌≤◌}
use borrow.Author.Tests.{leb-true, not-true, not-false}
use lib.ListN.{length, get_or}
use mathlib.Core.Bool.{false}
use mathlib.Core.Path.{sym, subst}
use native.Mathlib.Omega.{arith}
use Rattle.call_reclaim_records.proofs.is_enough.Goals as goal

pub returns-then-not-sealed-g : goal.returns-then-not-sealed-g
returns-then-not-sealed-g c =
    let a = c.args in
    λ _ s. absurd (not_both (get_or a.sealed.now a.g false) s (not-true (get_or a.sealed.now a.g false) c.if-not-sealed-g.true-raw))

pub row-segment-requires : goal.row-segment-requires
row-segment-requires c =
    (omega (arith, c.requires), omega (arith, c.requires, (ranged c.args.p c.requires.p_value).zones_high))

pub vouched-requires : goal.vouched-requires
vouched-requires c =
    let a = c.args in record {
      p_value = c.requires.p_value;
      image_len = (
        c.requires.image_len.0,
        c.requires.image_len.1,
        subst (λ (s : Seg). ZonesLow a.p 0 s) (sym c.row-segment.ensures)
            (c.requires.z_in_bounds.2 a.g c.requires.image_len.2 (not-false (get_or a.sealed.now a.g false) c.if-not-sealed-g.false-raw)),
      );
    }

pub returns : goal.returns
returns c =
    let a = c.args in
    let p = a.p in
    let row = c.row-segment in
    let e = subst (λ (s : Seg). c.vouched.result ≤ length (live_below p a.addresses.now (in_seg p s) (p.N * p.Z * capacity p))) row.ensures c.vouched.ensures in
    let n = c.needed-need.ensures in
    λ t s. let w = leb-true c.needed-need.result c.vouched.result t in ((λ h. omega (arith, w, e, n.1 h)), λ h. omega (arith, w, e, n.0))
