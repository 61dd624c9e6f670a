-- `count_zones`: at is the first place of zone t, and live counts the live blocks below from; a turn adds the marks of that zone to its segment's count. Assumes nothing.
use Prim.Native.Nat.{ℕ, ◌+◌, ◌-◌, ◌*◌, ◌/◌, ◌≤◌, ◌<◌}
use Rattle.call_reclaim_live.specs.Live.{numbered, live_below, bounded_more, sum_fits, nearer, live_zone_at, live_zone_begins, zone_within, places_high, counted-more}
use Rattle.spec.specs.Params.{capacity}
use Rattle.law_basic.specs.Geometry.{ranged, zones_all}
use lib.ListN.{length, get_or, length-set}
use mathlib.Core.Path.{◌≡◌, refl, sym, ap, ◌∙◌}
use native.Mathlib.Nat.{zero-mul}
use native.Mathlib.Omega.{arith}
use Rattle.call_reclaim_live.proofs.count_zones.Goals as goal
use Rattle.call_reclaim_live.proofs.count_zones.Lts
use Rattle.call_reclaim_live.proofs.count_zones.Reads
use Rattle.call_reclaim_live.proofs.count_zones.Tie

abbrev After-capacity : Type 0
After-capacity = Lts.After-capacity Tie.the-claims Reads.Pre Reads.Post goal.the-invariant-loop-at goal.the-decreases-loop-at Tie.handed_clauses

abbrev After-count_marks : Type 0
After-count_marks = Lts.After-count_marks Tie.the-claims Reads.Pre Reads.Post goal.the-invariant-loop-at goal.the-decreases-loop-at Tie.handed_clauses

abbrev After-from : Type 0
After-from = Lts.After-from Tie.the-claims Reads.Pre Reads.Post goal.the-invariant-loop-at goal.the-decreases-loop-at Tie.handed_clauses

pub capacity-cap-requires : goal.capacity-cap-requires
capacity-cap-requires c = c.requires.p_value

pub loop-at-init : goal.loop-at-init
loop-at-init c =
    let pre = c.requires in
    (omega arith, sym (zero-mul c.capacity-cap.result), refl, pre.by_index, (λ p e tb t s. s), omega arith)

-- the window ends with the places
end_low : (c : After-capacity) → c.before.before.before.before.args.end ≤ 715825152
end_low c =
    let start = c.before.before.before.before in
    omega (arith, start.requires.first_le_end.1, places_high start.args.p (ranged start.args.p start.requires.p_value))

pub overflow_add-at : goal.overflow_add-at
overflow_add-at c =
    let at_capacity = c.before.before.before in
    omega (arith, c.capacity-cap.ensures.2, end_low at_capacity)

pub clamp-to-requires : goal.clamp-to-requires
clamp-to-requires c = omega arith

pub overflow_sub-from : goal.overflow_sub-from
overflow_sub-from c = omega arith

pub overflow_sub-to : goal.overflow_sub-to
overflow_sub-to c = omega arith

pub count_marks-n-requires : goal.count_marks-n-requires
count_marks-n-requires c =
    let at_capacity = c.before.before.before.before in
    omega (arith, c.clamp-to.ensures, c.loop-at.invariant.0, c.requires.first_le_end, end_low at_capacity)

-- zone t is one of the zones, and has a number
zone_in : (c : After-count_marks) → let a = c.before.before.before.before.before.before.before.before.args in
    let t = c.before.before.before.loop-at.t in (t < a.p.N * a.p.Z) × (get_or a.segments.now t 0 ≤ 1024)
zone_in c =
    let at_loop_at = c.before.before.before in
    let at_capacity_cap = at_loop_at.before in
    let start = at_capacity_cap.before.before.before.before in
    let a = start.args in
    let l = at_loop_at.loop-at in
    let pre = start.requires in
    let e : l.at ≡ l.t * capacity a.p = l.invariant.1 ∙ ap (λ (x : ℕ). l.t * x) at_capacity_cap.capacity-cap.ensures.0 in
    let h : l.t < a.p.N * a.p.Z = zone_within a.p (ranged a.p pre.p_value) l.t (omega (arith, e, c.before.before.loop-at-test.true, pre.first_le_end.1)) in
    (h, pre.first_le_end.4.1 l.t h)

pub offset_bounds-segments-t : goal.offset_bounds-segments-t
offset_bounds-segments-t c =
    omega (arith, (zone_in c.before).0, zones_all c.args.p (ranged c.args.p c.requires.p_value))

pub bounds-segments-t : goal.bounds-segments-t
bounds-segments-t c = omega (arith, (zone_in c.before.before).0, c.requires.first_le_end.4.0)

-- the number of its segment
number_low : (c : After-from) → c.from-g.result ≤ 1024
number_low c = omega (arith, c.from-g.ensures, (zone_in c.before.before).1)

pub offset_bounds-live-g : goal.offset_bounds-live-g
offset_bounds-live-g c = omega (arith, number_low c.before)

pub bounds-live-g : goal.bounds-live-g
bounds-live-g c =
    omega (arith, number_low c.before.before, c.loop-at.invariant.2, c.requires.first_le_end.3)

pub overflow_add-live : goal.overflow_add-live
overflow_add-live c =
    let at_capacity = c.before.before.before.before.before.before.before.before in
    let a = c.args in
    let l = c.loop-at in
    let clip = c.clamp-to in
    let i = l.invariant in
    let g = c.from-g.result in
    let h : l.from ≤ a.end = omega (arith, i.0) in
    let k : clip.result - a.first ≤ a.end = omega (arith, clip.ensures) in
    let m : c.count_marks-n.result ≤ clip.result - a.first = omega (arith, c.count_marks-n.ensures.1) in
    record { fits = sum_fits (get_or l.live g 0) c.count_marks-n.result l.from (clip.result - a.first) a.end (i.3 g (number_low c.before.before)) h m k (end_low at_capacity) }

pub offset_bounds-live-g-in-loop-at : goal.offset_bounds-live-g-in-loop-at
offset_bounds-live-g-in-loop-at c = omega (arith, number_low c.before.before)

pub bounds-live-g-in-loop-at : goal.bounds-live-g-in-loop-at
bounds-live-g-in-loop-at c =
    omega (arith, number_low c.before.before, c.loop-at.invariant.2, c.requires.first_le_end.3)

pub overflow_add-at-in-loop-at : goal.overflow_add-at-in-loop-at
overflow_add-at-in-loop-at c =
    let at_capacity = c.before.before.before.before.before.before.before.before in
    omega (arith, c.capacity-cap.ensures.2, c.loop-at.invariant.5, end_low at_capacity)

pub overflow_add-t : goal.overflow_add-t
overflow_add-t c =
    let at_count_marks = c.before.before.before.before in
    omega (arith, (zone_in at_count_marks).0, zones_all c.args.p (ranged c.args.p c.requires.p_value))

pub loop-at-smaller : goal.loop-at-smaller
loop-at-smaller c =
    nearer c.loop-at.at c.args.end c.capacity-cap.result c.loop-at-test.true (omega (arith, c.capacity-cap.ensures.1))

pub loop-at-preserved : goal.loop-at-preserved
loop-at-preserved c =
    let a = c.args in
    let pre = c.requires.first_le_end in
    let l = c.loop-at in
    let i = l.invariant in
    let cap! = c.capacity-cap in
    let r = ranged a.p c.requires.p_value in
    let g = c.from-g.result in
    let to = c.clamp-to.result in
    let et = c.clamp-to.ensures in
    let n = c.count_marks-n.result in
    let en = c.count_marks-n.ensures in
    let ec = cap!.ensures.0 in
    let at : l.at ≡ l.t * capacity a.p = i.1 ∙ ap (λ (x : ℕ). l.t * x) ec in
    let fits : g < length l.live = omega (arith, number_low c.before.before, i.2, pre.3) in
    let low : a.first ≤ l.from = omega (arith, i.0, pre.0) in
    let mid : l.from ≤ to = omega (arith, i.0, et, pre.0) in
    let high : to ≤ a.end = omega (arith, et) in (
      omega (arith, et, pre.0),
      ap (λ (x : ℕ). l.at + x) ec ∙ ap (λ (x : ℕ). x + capacity a.p) at ∙ sym (live_zone_begins a.p r l.t) ∙ ap (λ (x : ℕ). (l.t + 1) * x) (sym ec),
      omega (arith, length-set l.live g (get_or l.live g 0 + n), i.2),
      bounded_more 1024 l.live g (get_or l.live g 0 + n) l.from to i.3 fits (omega (arith, i.3 g (number_low c.before.before), en.1, mid, low)) mid,
      (λ p e tb told so. counted-more p a.segments.now tb a.marks.now a.first a.end told l.live g l.from to n low mid high fits
          (λ q x y.
          let w : q / capacity p ≡ l.t = ap (λ (k : ℕ). q / k) (sym e ∙ ec)
          ∙ live_zone_at a.p r l.t q (omega (arith, i.0, et, pre.0, at, x, y)) (omega (arith, i.0, et, pre.0, at, ec, x, y)) in
          ap (λ (k : ℕ). get_or a.segments.now k 0) w ∙ sym c.from-g.ensures) en.0 (i.4 p e tb told so)),
      omega (arith, cap!.ensures.2, c.loop-at-test.true),
    )

pub shape_of-live : goal.shape_of-live
shape_of-live c = c.loop-at.invariant.2

pub returns : goal.returns
returns c =
    let a = c.args in
    let l = c.loop-at in
    let e : l.from ≡ a.end = omega (arith, l.invariant.0, c.loop-at-test.false, c.requires.first_le_end) in
    λ tb told so g h. l.invariant.4 a.p c.capacity-cap.ensures.0 tb told so g h ∙ ap (λ (x : ℕ). length (live_below a.p tb (numbered a.p a.segments.now g) x)) e
