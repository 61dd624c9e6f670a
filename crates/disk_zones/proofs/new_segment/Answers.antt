-- `new_segment`: after d turns the first d zones are the drives' lowest empty good ones and the others 0; after N it is the segment. Assumes nothing.
-- one more is a zone
use mathlib.Core.Path.{◌≡◌, sym, ap, ◌∙◌, subst}
use mathlib.Core.List.{List}
use Prim.Native.Nat.{ℕ, ◌+◌, ◌<◌}
use native.Mathlib.Decide.{dec_lt}
use native.Mathlib.Omega.{arith}
use lib.ListN.{set}
use Rattle.spec.specs.Drives.{seg}
use Rattle.spec.specs.Lists.{below, keep, first_or}
use Rattle.law_basic.specs.Geometry.{ranged}
use Rattle.disk_zones.specs.Empty.{free_by, new_seg_holds}
use Rattle.law_basic.specs.Segs.{filled_to, filled_none, filled_more, filled_with, with_low}
use Rattle.disk_zones.proofs.new_segment.Goals as goal

one_more : (f : ℕ → ℕ) (n d z : ℕ) → ((e : ℕ) → e < d → f e < n) → z ≡ f d → z < n → (e : ℕ) → e < d + 1 → f e < n
one_more f n d z h q l e k = go (dec_lt e d)
  where
    go : Dec (e < d) → f e < n
    go (yes x) = h e x
    go (no x) = let i : d ≡ e = omega arith in subst (λ (m : ℕ). f m < n) i (subst (λ (m : ℕ). m < n) q l)

pub loop-d-init : goal.loop-d-init
loop-d-init c =
    let a = c.args in
    let f : ℕ → ℕ = λ e. first_or 0 (keep (free_by a.p a.pointers.now a.offline.now e) (below a.p.Z)) in
    (omega arith, filled_none f, λ e h. absurd (let q : ⊥ = omega arith in q))

pub lowest_free-requires : goal.lowest_free-requires
lowest_free-requires c = record { p_value = c.requires.p_value; pointers_len = c.requires.pointers_len; drive_lt_n = c.loop-d-test.true }

pub overflow_cast-zones : goal.overflow_cast-zones
overflow_cast-zones c =
    omega (arith, (ranged c.args.p c.requires.p_value).zones_high, c.lowest_free.ensures.1)

pub offset_bounds-zones-d : goal.offset_bounds-zones-d
offset_bounds-zones-d c =
    omega (arith, (ranged c.args.p c.requires.p_value).drives_high)

pub bounds-zones-d : goal.bounds-zones-d
bounds-zones-d c =
    omega (arith, (ranged c.args.p c.requires.p_value).drives_high)

pub loop-d-preserved : goal.loop-d-preserved
loop-d-preserved c =
    let a = c.args in
    let l = c.loop-d in
    let f : ℕ → ℕ = λ c. first_or 0 (keep (free_by a.p a.pointers.now a.offline.now c) (below a.p.Z)) in
    let r = c.lowest_free.ensures in
    let t : l.d < 8 = omega (arith, (ranged a.p c.requires.p_value).drives_high, c.loop-d-test.true) in (
      omega arith,
      ap (λ (x : List ℕ). set x l.d c.lowest_free.result) l.invariant.1 ∙ ap (set (filled_to f l.d) l.d) r.0 ∙ filled_more f l.d t,
      one_more f a.p.Z l.d c.lowest_free.result l.invariant.2 r.0 r.1,
    )

pub returns : goal.returns
returns c =
    let a = c.args in
    let l = c.loop-d in
    let f : ℕ → ℕ = λ c. first_or 0 (keep (free_by a.p a.pointers.now a.offline.now c) (below a.p.Z)) in
    let n : l.d ≡ a.p.N = omega (arith, l.invariant.0, c.loop-d-test.false) in
    let s = ap (λ (x : List ℕ). seg x) (l.invariant.1 ∙ ap (filled_to f) n)
    ∙ filled_with a.p f in record {
      by_index = (λ im h. s ∙ sym (new_seg_holds a.p a.offline.now im a.pointers.now h c.requires.pointers_len.0));
      zones_low =
          with_low a.p f 0 (seg l.zones) s (λ x hx q. l.invariant.2 x (subst (λ (m : ℕ). x < m) (sym n) hx));
    }
