-- `free_segment`: after d turns the first d zones are the drives' lowest free ones and the others 0; after N it is the segment. Assumes nothing.
use mathlib.Core.Path.{◌≡◌, sym, ap, ◌∙◌}
use mathlib.Core.List.{List}
use Prim.Native.Nat.{ℕ, ◌<◌}
use native.Mathlib.Omega.{arith}
use lib.ListN.{set}
use Rattle.spec.specs.Drives.{seg}
use Rattle.spec.specs.Lists.{below, keep, first_or}
use Rattle.law_basic.specs.Geometry.{ranged}
use Rattle.recover_segments.specs.Taken.{free_in, free_seg_by, first_low}
use Rattle.law_basic.specs.Segs.{filled_to, filled_none, filled_more, filled_with, with_low}
use Rattle.recover_segments.proofs.free_segment.Goals as goal

pub loop-d-init : goal.loop-d-init
loop-d-init c =
    let a = c.args in
    (omega arith, filled_none (λ e. first_or 0 (keep (free_in a.p a.offline.now a.marks.now e) (below a.p.Z))))

pub free_zone-requires : goal.free_zone-requires
free_zone-requires c = record { p_value = c.requires.p_value; offline_len = (c.requires.offline_len.0, c.requires.offline_len.1, c.loop-d-test.true) }

pub overflow_cast-zones : goal.overflow_cast-zones
overflow_cast-zones c = omega (arith, (ranged c.args.p c.requires.p_value).zones_high, c.free_zone.ensures.1)

pub offset_bounds-zones-d : goal.offset_bounds-zones-d
offset_bounds-zones-d c = omega (arith, (ranged c.args.p c.requires.p_value).drives_high)

pub bounds-zones-d : goal.bounds-zones-d
bounds-zones-d c = omega (arith, (ranged c.args.p c.requires.p_value).drives_high)

pub loop-d-preserved : goal.loop-d-preserved
loop-d-preserved c =
    let a = c.args in
    let l = c.loop-d in
    let f : ℕ → ℕ = λ c. first_or 0 (keep (free_in a.p a.offline.now a.marks.now c) (below a.p.Z)) in
    let t : l.d < 8 = omega (arith, (ranged a.p c.requires.p_value).drives_high, c.loop-d-test.true) in (
      omega arith,
      ap (λ (x : List ℕ). set x l.d c.free_zone.result) l.invariant.1 ∙ ap (set (filled_to f l.d) l.d) c.free_zone.ensures.0 ∙ filled_more f l.d t,
    )

pub returns : goal.returns
returns c =
    let a = c.args in
    let p = a.p in
    let l = c.loop-d in
    let f : ℕ → ℕ = λ c. first_or 0 (keep (free_in p a.offline.now a.marks.now c) (below p.Z)) in
    let n : l.d ≡ p.N = omega (arith, l.invariant.0, c.loop-d-test.false) in
    let s = ap (λ (x : List ℕ). seg x) (l.invariant.1 ∙ ap (filled_to f) n)
    ∙ filled_with p f in record {
      by_index = (λ im ps gone t. s ∙ sym (free_seg_by p a.offline.now im ps gone a.marks.now t));
      zones_low = with_low p f 0
          (seg l.zones) s (λ d hd q. first_low (free_in p a.offline.now a.marks.now d) p.Z (omega (arith, (ranged p c.requires.p_value).zones_low)));
    }
