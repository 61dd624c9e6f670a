-- `seg_by`: after d turns the first d zones are the segment's and the others 0; after N it is the segment. Assumes nothing.
use mathlib.Core.Path.{◌≡◌, ap, ◌∙◌}
use mathlib.Core.List.{List}
use Prim.Native.Nat.{ℕ, ◌<◌}
use native.Mathlib.Omega.{arith}
use lib.ListN.{set}
use Rattle.spec.specs.Drives.{view_of, seg}
use Rattle.spec.specs.Segments.{zone_for, seg_for}
use Rattle.law_basic.specs.Geometry.{ranged}
use Rattle.law_basic.specs.Segs.{filled_to, filled_none, filled_more, filled_with}
use Rattle.disk_gather.proofs.seg_by.Goals as goal

pub loop-d-init : goal.loop-d-init
loop-d-init g c =
    let a = c.args in
    (omega arith, λ off ps s h q t. filled_none (zone_for a.p (view_of a.p off a.image.now ps) a.gone s))

pub zone_by-requires-clause-callable : goal.zone_by-requires-clause-callable
zone_by-requires-clause-callable g c = c.requires.callable c.loop-d.d c.loop-d-test.true

pub offset_bounds-zones-d : goal.offset_bounds-zones-d
offset_bounds-zones-d g c =
    omega (arith, (ranged c.args.p c.requires.p_value).drives_high, c.loop-d-test.true)

pub bounds-zones-d : goal.bounds-zones-d
bounds-zones-d g c =
    omega (arith, (ranged c.args.p c.requires.p_value).drives_high)

pub loop-d-preserved : goal.loop-d-preserved
loop-d-preserved g c =
    let a = c.args in
    let l = c.loop-d in
    let m = c.loop-d-test.true in
    let n : l.d < 8 = omega (arith, (ranged a.p c.requires.p_value).drives_high, m) in (
      omega arith,
      λ off ps s h q t.
          let f : ℕ → ℕ = zone_for a.p (view_of a.p off a.image.now ps) a.gone s in
          ap (λ (x : List ℕ). set x l.d c.zone_by.result) (l.invariant.1 off ps s h q t)
          ∙ ap (set (filled_to f l.d) l.d) (c.zone_by.ensures off ps s h q (λ k. t l.d k m)) ∙ filled_more f l.d n,
    )

pub returns : goal.returns
unfolding seg_for
returns g c =
    let a = c.args in
    let l = c.loop-d in
    let n : l.d ≡ a.p.N = omega (arith, l.invariant.0, c.loop-d-test.false) in
    λ off ps s h q t.
    let f : ℕ → ℕ = zone_for a.p (view_of a.p off a.image.now ps) a.gone s in
    ap (λ (x : List ℕ). seg x) (l.invariant.1 off ps s h q t ∙ ap (filled_to f) n) ∙ filled_with a.p f
