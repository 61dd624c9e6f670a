-- `idle_zones`: at is the first place of zone t, and found is right below from; a turn goes over zone t, whose places are all of one segment or none. Assumes nothing.
use Rattle.spec.specs.Memory.{state_of}
use Prim.Native.Nat.{ℕ, ◌+◌, ◌*◌, ◌/◌, ◌≤◌, ◌<◌}
use Rattle.call_reclaim_live.specs.Live.{numbered, nearer, places_high, live_zone_at, live_zone_begins, zone_within, owned_places}
use Rattle.spec.specs.Drives.{View, view_of}
use Rattle.spec.specs.Params.{capacity}
use Rattle.law_basic.specs.Geometry.{ranged, zones_all}
use Rattle.call_reclaim_victim.specs.Waiting.{waiting-at}
use lib.Dec.{eqb}
use lib.ListN.{get_or}
use mathlib.Core.List.{List}
use mathlib.Core.Path.{◌≡◌, sym, ap, ◌∙◌}
use native.Mathlib.Nat.{zero-mul}
use native.Mathlib.Omega.{arith}
use Rattle.call_reclaim_victim.proofs.idle_zones.Goals as goal
use Rattle.call_reclaim_victim.proofs.idle_zones.Goals.{After-capacity-cap, After-clamp-to}

pub capacity-cap-requires : goal.capacity-cap-requires
capacity-cap-requires c = c.requires.p_value

pub loop-at-init : goal.loop-at-init
loop-at-init c = (omega (arith, c.requires.first_le_end.0), sym (zero-mul c.capacity-cap.result), (λ off tb told w. w), omega arith)

-- the window ends with the places
end_low : (c : After-capacity-cap) → c.args.end ≤ 715825152
end_low c =
    omega (arith, c.requires.first_le_end.2, places_high c.args.p (ranged c.args.p c.requires.p_value))

pub overflow_add-at : goal.overflow_add-at
overflow_add-at c = omega (arith, c.capacity-cap.ensures.2, end_low (goal.at.overflow_add-at c).After-capacity-cap)

pub clamp-to-requires : goal.clamp-to-requires
clamp-to-requires c = omega arith

-- zone t is one of the zones
zone_in : (c : After-clamp-to) → let a = c.args in c.loop-at.t < a.p.N * a.p.Z
zone_in c =
    let a = c.args in
    let l = c.loop-at in
    let e : l.at ≡ l.t * capacity a.p = l.invariant.1 ∙ ap (λ (x : ℕ). l.t * x) c.capacity-cap.ensures.0 in
    zone_within a.p (ranged a.p c.requires.p_value) l.t (omega (arith, e, c.loop-at-test.true, c.requires.first_le_end.2))

pub offset_bounds-segments-t : goal.offset_bounds-segments-t
offset_bounds-segments-t c =
    omega (arith, zone_in (goal.at.offset_bounds-segments-t c).After-clamp-to, zones_all c.args.p (ranged c.args.p c.requires.p_value))

pub bounds-segments-t : goal.bounds-segments-t
bounds-segments-t c = omega (arith, zone_in (goal.at.bounds-segments-t c).After-clamp-to, c.requires.whole.2)

pub idle_run-found-requires : goal.idle_run-found-requires
idle_run-found-requires c =
    let pre = c.requires in
    let h = pre.first_le_end in
    let i = c.loop-at.invariant in
    let e = c.clamp-to.ensures in record {
      p_value = pre.p_value;
      whole = (pre.whole.0, pre.whole.1);
      first_le_lo =
          (omega (arith, i.0, h.0), omega (arith, i.0, e, h.0), omega (arith, e, h.1), omega (arith, e, h.2), h.3);
    }

pub overflow_add-at-in-loop-at : goal.overflow_add-at-in-loop-at
overflow_add-at-in-loop-at c =
    omega (arith, c.capacity-cap.ensures.2, c.loop-at.invariant.3, end_low (goal.at.overflow_add-at-in-loop-at c).After-capacity-cap)

pub overflow_add-t : goal.overflow_add-t
overflow_add-t c =
    omega (arith, zone_in (goal.at.overflow_add-t c).After-clamp-to, zones_all c.args.p (ranged c.args.p c.requires.p_value))

pub loop-at-smaller : goal.loop-at-smaller
loop-at-smaller c =
    nearer c.loop-at.at c.args.end c.capacity-cap.result c.loop-at-test.true (omega (arith, c.capacity-cap.ensures.1))

pub loop-at-preserved : goal.loop-at-preserved
unfolding numbered
loop-at-preserved c =
    let a = c.args in
    let pre = c.requires in
    let l = c.loop-at in
    let p = a.p in
    let i = l.invariant in
    let r = ranged p pre.p_value in
    let h = pre.first_le_end in
    let ec = c.capacity-cap.ensures.0 in
    let et = c.clamp-to.ensures in
    let at : l.at ≡ l.t * capacity p = i.1 ∙ ap (λ (x : ℕ). l.t * x) ec in (
      omega (arith, et, h.0),
      ap (λ (x : ℕ). l.at + x) ec ∙ ap (λ (x : ℕ). x + capacity p) at ∙ sym (live_zone_begins p r l.t) ∙ ap (λ (x : ℕ). (l.t + 1) * x) (sym ec),
      (λ off tb told w. c.idle_run-found.ensures off tb (λ q x y. told q x (omega (arith, y, et)))
          (λ q x y.
          let z : q / capacity p ≡ l.t = live_zone_at p r l.t q (omega (arith, i.0, et, h.0, at, x, y)) (omega (arith, i.0, et, h.0, at, ec, x, y)) in
          sym (owned_places p r a.segments.now a.g a.segment pre.whole.3 q (omega (arith, y, et, h.2)))
          ∙ ap (λ (k : ℕ). eqb k a.g) (ap (λ (k : ℕ). get_or a.segments.now k 0) z ∙ sym c.from-owner.ensures)) (i.2 off tb told w)),
      omega (arith, c.capacity-cap.ensures.2, c.loop-at-test.true),
    )

pub returns : goal.returns
returns c =
    let a = c.args in
    let v : List ℕ → View = λ off. view_of a.p off a.image.now a.pointers.now in
    let l = c.loop-at in
    let e : l.from ≡ a.end = omega (arith, l.invariant.0, c.loop-at-test.false, c.requires.first_le_end.0) in
    λ off tb told w. waiting-at a.p (v off) (state_of a.bytes.now) a.segment tb l.from a.end l.found e (l.invariant.2 off tb told w)
