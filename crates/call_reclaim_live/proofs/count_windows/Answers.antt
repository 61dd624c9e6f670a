-- `count_windows`: live counts each segment's live blocks below first; a turn marks and counts a window. One window of all leaves its marks. Assumes nothing.
use Prim.Native.Nat.{ℕ, ◌*◌, ◌<◌}
use Rattle.call_reclaim_live.specs.Live.{numbered, live_below, counted-le, only_window, left_marks, window_nearer}
use Rattle.spec.specs.Params.{addresses_len}
use Rattle.law_basic.specs.Geometry.{ranged, capacity-low, place_lt}
use Rattle.mem_tables.specs.Tables.{count_places}
use lib.ListN.{length}
use mathlib.Core.Path.{◌≡◌, refl, ap, ◌∙◌}
use native.Mathlib.Omega.{arith}
use Rattle.call_reclaim_live.proofs.count_windows.Goals as goal

pub places-all-requires : goal.places-all-requires
places-all-requires c = c.requires.p_value

pub overflow_mul-step : goal.overflow_mul-step
overflow_mul-step c = omega arith

pub loop-first-init : goal.loop-first-init
loop-first-init c = (omega arith, refl, refl, c.requires.owners_low.1, (λ h. absurd (let q : ⊥ = omega arith in q)), λ h. absurd (let q : ⊥ = omega arith in q))

pub overflow_add-first : goal.overflow_add-first
overflow_add-first c = omega arith

pub min-end-requires : goal.min-end-requires
min-end-requires c = omega arith

pub mark_window-outside-requires : goal.mark_window-outside-requires
unfolding addresses_len
mark_window-outside-requires c =
    let e = c.min-end.ensures in
    let l = c.loop-first in
    (omega (arith, c.requires.addresses_len.0), omega (arith, e, l.invariant.0), omega (arith, e, l.invariant.1))

pub count_zones-requires : goal.count_zones-requires
count_zones-requires c =
    let a = c.args in
    let l = c.loop-first in
    let pre' = c.requires in
    let i = l.invariant in
    let pre = pre'.addresses_len in
    let e = c.min-end.ensures in
    let k = c.mark_window-outside.auto.marks in
    let s = c.places-all.ensures in record {
      p_value = pre'.p_value;
      first_le_end =
          (omega (arith, e, i.0), omega (arith, e, s.0), omega (arith, e, k, i.1), omega (arith, i.2, pre.3), pre'.owners_low.0);
      by_index = counted-le a.p a.segments.now
          a.addresses.now l.live l.first i.3;
    }

pub loop-first-smaller : goal.loop-first-smaller
loop-first-smaller c =
    window_nearer c.loop-first.first c.min-end.result c.places-all.result (8 * length c.args.marks.now) c.loop-first-test.true (omega (arith, c.requires.addresses_len.1)) c.min-end.ensures

pub loop-first-preserved : goal.loop-first-preserved
loop-first-preserved c =
    let a = c.args in
    let w = c.mark_window-outside in
    let z = c.count_zones in
    let l = c.loop-first in
    let i = l.invariant in
    let tb = a.addresses.now in
    let e = c.min-end.ensures in
    let all! = c.places-all.result in
    let told = w.ensures.marks in
    let t = c.loop-first-test.true in (
      omega (arith, e),
      w.auto.marks ∙ i.1,
      z.auto.live ∙ i.2,
      z.ensures tb told i.3,
      (λ h m. only_window tb w.new.marks a.p.L l.first c.min-end.result all! (8 * length a.marks.now) told (λ y. (i.4 y m).0) t e m),
      λ _. w.ensures.value,
    )

pub shape_of-marks : goal.shape_of-marks
shape_of-marks c = c.loop-first.invariant.1

pub shape_of-live : goal.shape_of-live
shape_of-live c = c.loop-first.invariant.2

pub returns : goal.returns
returns c =
    let places = c.places-all in
    let a = c.args in
    let tb = a.addresses.now in
    let l = c.loop-first in
    let i = l.invariant in
    let all! = places.result in
    let s = places.ensures.0 in
    let f : l.first ≡ all! = omega (arith, i.0, c.loop-first-test.false) in
    let r = ranged a.p c.requires.p_value in
    let low = place_lt a.p 0 0 0 (omega (arith, r.drives_low)) (omega (arith, r.zones_low)) (omega (arith, capacity-low a.p r)) in
    let some : 0 < l.first = omega (arith, f, s, low) in
    record {
      live_counted = (λ g h. i.3 g h ∙ ap (λ (x : ℕ). length (live_below a.p tb (numbered a.p a.segments.now g) x)) (f ∙ s));
      marks =
          (λ h q x y. left_marks tb l.marks a.p.L l.first all! (8 * length a.marks.now) i.4 f (omega (arith, h, s)) q x (omega (arith, y, s)));
      value = i.5 some
          ∙ ap (λ (x : ℕ). count_places tb a.p.L x 4294967295) (f ∙ s);
    }
