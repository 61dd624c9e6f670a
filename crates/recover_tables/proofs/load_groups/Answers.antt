-- `load_groups`: walking the stripes from base on ends as walking all does; one turn walks a group, and at S nothing is left to walk. Assumes nothing.
use mathlib.Core.Path.{refl, sym, ◌∙◌, subst}
use mathlib.Core.List.{List}
use Prim.Native.Nat.{ℕ, ◌+◌, ◌-◌}
use native.Mathlib.Omega.{arith}
use native.Mathlib.Nat.{zero-mod}
use Rattle.spec.specs.Drives.{View, view_of}
use Rattle.spec.specs.Lists.{up_from, below}
use Rattle.spec.specs.Segments.{segment_of}
use Rattle.recover_groups.specs.Bases.{stripes_step, group_len_le}
use Rattle.recover_groups.specs.Groups.{group_len}
use Rattle.law_basic.specs.Geometry.{ranged, base_next}
use Rattle.law_basic.specs.Ranges.{length_up_from, up_from_end, below-start}
use Rattle.law_drives.specs.Segs.{remaining-low}
use Rattle.recover_tables.specs.Walk.{Walked, walk_cands, walked_none, walked_join, walked_low, tells_known}
use Rattle.recover_tables.proofs.load_groups.Goals as goal
use Rattle.recover_tables.proofs.load_groups.Goals.{After-load_group-t}

pub is_sealed-full-requires : goal.is_sealed-full-requires
is_sealed-full-requires c =
    let args = c.args in
    let pre = c.requires in
    let v : View = view_of args.p args.offline.now args.image.now args.pointers.now in
    record { p_value = pre.ground.in_range_holds; pointers_len = (pre.ground.whole.pointers_long, remaining-low args.p v args.gone pre.ground.here args.seg pre.fact.0) }

pub nonzero_div-base-step : goal.nonzero_div-base-step
nonzero_div-base-step c = omega (arith, (ranged c.args.p c.requires.ground.in_range_holds).group-low)

pub loop-base-init : goal.loop-base-init
loop-base-init c =
    let args = c.args in
    let pre = c.requires in
    let v : View = view_of args.p args.offline.now args.image.now args.pointers.now in (
      refl,
      refl,
      zero-mod args.p.G,
      omega (arith, (ranged args.p pre.ground.in_range_holds).stripes_low),
      omega arith,
      pre.known.0,
      λ tb m n w. subst (λ (x : List ℕ). Walked args.p v args.gone args.compact.now args.seg x args.addresses.now tb args.stamp.0 m 0 n) (sym (below-start args.p.S)) w,
    )

-- a group is walked, then the stripes behind it
turn : (c : After-load_group-t) (tb : List ℕ) (m n : ℕ)
    → Walked c.args.p (view_of c.args.p c.args.offline.now c.args.image.now c.args.pointers.now) c.args.gone c.args.compact.now c.args.seg
    (up_from (c.loop-base.base + c.args.p.G) (c.args.p.S - (c.loop-base.base + c.args.p.G))) c.load_group-t.new.addresses tb c.load_group-t.result.stamp.0 m c.load_group-t.result.counted n
    → Walked c.args.p (view_of c.args.p c.args.offline.now c.args.image.now c.args.pointers.now) c.args.gone c.args.compact.now c.args.seg (below c.args.p.S) c.args.addresses.now tb
    c.args.stamp.0 m 0 n
turn c tb m n y =
    let args = c.args in
    let loop = c.loop-base in
    let g = c.load_group-t in
    let v : View = view_of args.p args.offline.now args.image.now args.pointers.now in
    loop.invariant.6 tb m n (subst (λ (z : List ℕ). Walked args.p v args.gone args.compact.now args.seg z loop.addresses tb loop.t.stamp.0 m loop.t.counted n)
    (sym (stripes_step args.p loop.base loop.invariant.3))
    (walked_join args.p v args.gone args.compact.now args.seg (up_from loop.base (group_len args.p loop.base))
    (up_from (loop.base + args.p.G) (args.p.S - (loop.base + args.p.G))) loop.addresses g.new.addresses tb
    loop.t.stamp.0 g.result.stamp.0 m loop.t.counted g.result.counted n g.ensures y))

pub loop-base-smaller : goal.loop-base-smaller
loop-base-smaller c = omega (arith, (ranged c.args.p c.requires.ground.in_range_holds).group-low)

pub loop-base-preserved : goal.loop-base-preserved
loop-base-preserved c =
    let args = c.args in
    let loop = c.loop-base in
    let g = c.load_group-t in
    let v : View = view_of args.p args.offline.now args.image.now args.pointers.now in
    let gs : List ℕ = up_from loop.base (group_len args.p loop.base) in
    let n = walked_low args.p v args.gone args.compact.now args.seg gs loop.addresses g.new.addresses loop.t.stamp.0 g.result.stamp.0 loop.t.counted g.result.counted g.ensures in (
      g.auto.addresses ∙ loop.invariant.0,
      g.auto.at ∙ loop.invariant.1,
      base_next loop.base args.p.G loop.invariant.2,
      omega arith,
      omega (arith, n, length_up_from loop.base (group_len args.p loop.base), group_len_le args.p loop.base, loop.invariant.4),
      tells_known args.p v args.gone args.compact.now loop.addresses g.new.addresses (walk_cands args.p args.gone (segment_of args.p v args.gone args.seg) gs) g.ensures.tells
          loop.invariant.5,
      turn (goal.at.loop-base-preserved c).After-load_group-t,
    )

pub returns-2 : goal.returns-2
returns-2 c =
    let args = c.args in
    let g = c.load_group-t in
    let base = c.loop-base.base + args.p.G in
    let v : View = view_of args.p args.offline.now args.image.now args.pointers.now in
    turn (goal.at.returns-2 c).After-load_group-t g.new.addresses g.result.stamp.0 g.result.counted
    (subst (λ (y : List ℕ). Walked args.p v args.gone args.compact.now args.seg y g.new.addresses g.new.addresses g.result.stamp.0 g.result.stamp.0 g.result.counted g.result.counted)
    (sym (up_from_end base args.p.S (omega arith))) (walked_none args.p v args.gone args.compact.now args.seg g.new.addresses g.result.stamp.0 g.result.counted))
