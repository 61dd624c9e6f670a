-- `load_segments`: the segments below z are toured, and next is the open one's count where it is below z and remains; one turn tours z. Assumes nothing.
use mathlib.Core.Path.{◌≡◌, refl, sym, ap, ◌∙◌, subst}
use mathlib.Core.Bool.{Bool, false}
use Prim.Native.Nat.{ℕ, ◌<◌}
use native.Mathlib.Omega.{arith}
use lib.ListN.{length, get_or}
use Rattle.spec.specs.Drives.{View, view_of}
use Rattle.spec.specs.Segments.{segment_of, counted}
use Rattle.law_basic.specs.Geometry.{ranged}
use Rattle.law_drives.specs.Rebuilding.{counted-low}
use Rattle.law_drives.specs.Tables.{seg_at, remains_at}
use Rattle.recover_tables.specs.Ready.{next_turn, next_now}
use Rattle.recover_tables.specs.Walk.{Toured, toured_none}
use Rattle.recover_tables.proofs.load_segments.Goals as goal

pub loop-z-init : goal.loop-z-init
loop-z-init c =
    let a = c.args in
    let q = c.requires in
    let e = q.addresses_value in (
      omega arith,
      refl,
      refl,
      refl,
      toured_none a.p (view_of a.p a.offline.now a.image.now a.pointers.now) a.gone q.ground.here a.compact.now a.addresses.now e.1 e.0,
      omega arith,
      λ l. absurd (let bad : ⊥ = omega arith in bad),
    )

pub bounds-kept-z : goal.bounds-kept-z
bounds-kept-z c =
    let a = c.args in
    let q = c.requires in
    omega (arith, c.loop-z-test.true, q.keeps.0, (ranged a.p q.ground.in_range_holds).zones_high)

pub load_segment-h-requires : goal.load_segment-h-requires
load_segment-h-requires c =
    let a = c.args in
    let q = c.requires in
    let l = c.loop-z in
    let i = c.loop-z-test.true in record {
      ground = record {
        in_range_holds = q.ground.in_range_holds;
        whole = q.ground.whole;
        here = q.ground.here;
        apart = q.ground.apart;
        clean = q.ground.clean;
        compact_long = l.invariant.2 ∙ q.ground.compact_long;
      };
      gathered = q.gathered;
      z_lt_z = (i, q.keeps.1 l.z i);
      toured = (l.invariant.4, l.invariant.3 ∙ q.addresses_value.2);
    }

pub loop-z-preserved : goal.loop-z-preserved
loop-z-preserved c =
    let a = c.args in
    let q = c.requires in
    let l = c.loop-z in
    let x = c.load_segment-h in
    let i = c.loop-z-test.true in
    let v : View = view_of a.p a.offline.now a.image.now a.pointers.now in
    let b : Bool = get_or a.kept.now l.z false in
    let eb : b ≡ remains_at a.p v a.gone l.z = q.keeps.1 l.z i in
    let f : ℕ → ℕ = λ n. length (counted a.p a.gone (segment_of a.p v a.gone (seg_at a.p v a.gone n))) in
    let r = x.result in
    let e = x.ensures in (
      omega (arith, i),
      x.auto.addresses ∙ l.invariant.1,
      x.auto.compact ∙ l.invariant.2,
      x.auto.at ∙ l.invariant.3,
      e.toured_2,
      next_turn a.p.S a.opened l.z (f l.z) l.h.next r.next b e.next_value l.invariant.5 (counted-low a.p a.gone (segment_of a.p v a.gone (seg_at a.p v a.gone l.z))),
      λ u y. next_now a.opened l.z l.h.next r.next f b e.next_value (λ w. l.invariant.6 w y) (λ w. eb ∙ ap (remains_at a.p v a.gone) w ∙ y) u,
    )

pub shape_of-addresses : goal.shape_of-addresses
shape_of-addresses c =
    let loop = c.loop-z in
    loop.invariant.1

pub shape_of-compact : goal.shape_of-compact
shape_of-compact c =
    let loop = c.loop-z in
    loop.invariant.2

pub shape_of-at : goal.shape_of-at
shape_of-at c =
    let loop = c.loop-z in
    loop.invariant.3

pub returns : goal.returns
returns c =
    let a = c.args in
    let l = c.loop-z in
    let v : View = view_of a.p a.offline.now a.image.now a.pointers.now in
    let e : l.z ≡ a.p.Z = omega (arith, c.loop-z-test.false, l.invariant.0) in
    record {
      toured = subst (λ (n : ℕ). Toured a.p v a.gone n l.compact l.addresses l.h.stamp.0) e l.invariant.4;
      next_le_s =
          (l.invariant.5, λ x y. l.invariant.6 (subst (λ (n : ℕ). a.opened < n) (sym e) x) y);
    }
