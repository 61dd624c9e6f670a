-- `survey`: the tally is of the stripes below base and, unless bad, no group there has a fault; one turn adds a group, the last one the rest. Assumes nothing.
use mathlib.Core.Path.{◌≡◌, ◌∙◌, subst}
use mathlib.Core.List.{List}
use Prim.Native.Nat.{ℕ, ◌+◌, min, ◌≤◌}
use native.Mathlib.Omega.{arith}
use Rattle.spec.specs.Drives.{View, view_of}
use Rattle.spec.specs.Segments.{Segment, segment_of}
use Rattle.law_basic.specs.Geometry.{ranged, base_next}
use Rattle.recover_groups.specs.Groups.{group_len}
use Rattle.recover_survey.specs.Stripes.{Tallied, tallied_none, surveyed, group_next, groups_left_lem, faults_start, groups_ended}
use native.Mathlib.Nat.{zero-mod}
use Rattle.recover_survey.proofs.survey.Goals as goal

pub nonzero_div-base-step : goal.nonzero_div-base-step
nonzero_div-base-step c = omega (arith, (ranged c.args.p c.requires.p_value).group-low)

pub loop-base-init : goal.loop-base-init
loop-base-init c =
    let a = c.args in
    let p = a.p in
    let v : List ℕ → View = λ off. view_of p off a.image.now a.pointers.now in
    let h = c.requires in
    let r = ranged p h.p_value in (
      h.at_len.0,
      omega (arith, r.stripes_low),
      zero-mod p.G,
      omega arith,
      omega arith,
      (λ off full _. faults_start p (v off) a.gone a.seg r.group-low),
      (λ off full. tallied_none p a.gone (segment_of p (v off) a.gone a.seg)),
    )

pub survey_group-t-requires : goal.survey_group-t-requires
survey_group-t-requires c =
    let h = c.requires in
    let l = c.loop-base.invariant in record {
      p_value = h.p_value;
      whole = h.whole;
      at_len = (l.0, h.at_len.1, l.1, l.2);
      counted_le_base = (l.3, l.4);
    }

pub loop-base-smaller : goal.loop-base-smaller
loop-base-smaller c =
    omega (arith, (ranged c.args.p c.requires.p_value).group-low)

pub loop-base-preserved : goal.loop-base-preserved
loop-base-preserved c =
    let a = c.args in
    let y = c.survey_group-t in
    let l = c.loop-base in
    let h = c.requires in
    let p = a.p in
    let g : List ℕ → Segment = λ off. segment_of p (view_of p off a.image.now a.pointers.now) a.gone a.seg in
    let e : l.base + group_len p l.base ≡ l.base + p.G = group_next p l.base l.invariant.1 ∙ (let m : min (l.base + p.G) p.S ≡ l.base + p.G = omega arith in m) in (
      y.auto.at ∙ l.invariant.0,
      omega arith,
      base_next l.base p.G l.invariant.2,
      subst (λ (x : ℕ). y.result.counted ≤ x) e y.ensures.counted_bound.0,
      subst (λ (x : ℕ). y.result.loose ≤ x) e y.ensures.counted_bound.1,
      (λ off full q. let w = y.ensures.by_index off full q in
          groups_left_lem p a.gone (g off) l.base (ranged p h.p_value).group-low l.invariant.1 w.1 ∙ l.invariant.5 off full w.0),
      (λ off full. subst (λ (x : ℕ). Tallied p a.gone (g off) x y.result) e (y.ensures.by_index_2 off full (l.invariant.6 off full))),
    )

pub returns : goal.returns
returns c = absurd (let z : ⊥ = omega (arith, c.loop-base.invariant.1, c.loop-base-test.false) in z)

pub returns-2 : goal.returns-2
returns-2 c =
    let a = c.args in
    let y = c.survey_group-t in
    let l = c.loop-base in
    let p = a.p in
    let g : List ℕ → Segment = λ off. segment_of p (view_of p off a.image.now a.pointers.now) a.gone a.seg in
    let r = ranged p c.requires.p_value in
    let e : l.base + group_len p l.base ≡ p.S = group_next p l.base l.invariant.1 ∙ (let m : min (l.base + p.G) p.S ≡ p.S = omega arith in m) in
    λ off full. surveyed p a.gone (g off) y.result (subst (λ (x : ℕ). Tallied p a.gone (g off) x y.result) e (y.ensures.by_index_2 off full (l.invariant.6 off full)))
    (groups_ended p a.gone (g off) (l.base + p.G) y.result.bad r.group-low (omega arith)
    (λ q. let w = y.ensures.by_index off full q in groups_left_lem p a.gone (g off) l.base r.group-low l.invariant.1 w.1 ∙ l.invariant.5 off full w.0))
