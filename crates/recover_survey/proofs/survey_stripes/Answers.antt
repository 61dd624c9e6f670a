-- `survey_stripes`: the tally is of the stripes below base + k; one turn adds stripe k, and counted and loose are at most base + k. Assumes nothing.
use mathlib.Core.Path.{◌≡◌, sym, subst}
use Prim.Native.Nat.{ℕ, ◌+◌, ◌≤◌, ◌<◌}
use native.Mathlib.Omega.{arith}
use Rattle.recover_groups.specs.Groups.{group_len, segment_in}
use Rattle.recover_survey.specs.Stripes.{Tallied}
use native.Mathlib.Nat.{add-zero, add_assoc}
use Rattle.recover_survey.proofs.survey_stripes.Goals as goal

pub group_len-len-requires : goal.group_len-len-requires
group_len-len-requires c =
    let a = c.args in
    let p = a.p in
    let w = a.w in
    let h = c.requires in record { p_value = h.p_value; base_lt_s = h.image_len.3 }

pub loop-k-init : goal.loop-k-init
loop-k-init c =
    let a = c.args in
    let p = a.p in
    let w = a.w in
    let h = c.requires in (
      omega arith,
      omega (arith, h.counted_le_base.0),
      omega (arith, h.counted_le_base.1),
      (λ q. q),
      λ off ps sh T. subst (λ (x : ℕ). Tallied p w.gone (segment_in p off a.image.now ps w) x a.t) (sym (add-zero w.base)) T,
    )

pub survey_stripe-next-requires : goal.survey_stripe-next-requires
survey_stripe-next-requires c =
    let a = c.args in
    let h = c.requires in
    let p = a.p in
    let w = a.w in
    let l = c.loop-k in
    let e : l.k < group_len p w.base = subst (λ (x : ℕ). l.k < x) c.group_len-len.ensures.0 c.loop-k-test.true in
    record { p_value = h.p_value; image_len = (h.image_len.0, h.image_len.1, h.image_len.2, h.image_len.3, e); counted_bound = (l.invariant.1, l.invariant.2) }

pub loop-k-preserved : goal.loop-k-preserved
loop-k-preserved c =
    let a = c.args in
    let h = c.requires in
    let p = a.p in
    let w = a.w in
    let l = c.loop-k in
    let y = c.survey_stripe-next in
    let e : w.base + l.k + 1 ≡ w.base + (l.k + 1) = add_assoc w.base l.k 1 in (
      omega (arith, c.loop-k-test.true),
      omega (arith, y.ensures.counted_bound_2.0),
      omega (arith, y.ensures.counted_bound_2.1),
      (λ q. l.invariant.3 (y.ensures.counted_bound_2.2 q)),
      λ off ps sh T. subst (λ (x : ℕ). Tallied p w.gone (segment_in p off a.image.now ps w) x y.result) e (y.ensures.by_index off ps sh (l.invariant.4 off ps sh T)),
    )

pub returns : goal.returns
returns c =
    let a = c.args in
    let group-len = c.group_len-len in
    let h = c.requires in
    let p = a.p in
    let w = a.w in
    let l = c.loop-k in
    let e : l.k ≡ group_len p w.base = let f : l.k ≤ group-len.result = l.invariant.0 in omega (arith, f, c.loop-k-test.false, group-len.ensures.0) in
    record {
      counted_bound = (
        subst (λ (x : ℕ). l.next.counted ≤ w.base + x) e l.invariant.1,
        subst (λ (x : ℕ). l.next.loose ≤ w.base + x) e l.invariant.2,
        l.invariant.3,
      );
      by_index = λ off ps sh T. subst (λ (x : ℕ). Tallied p w.gone (segment_in p off a.image.now ps w) (w.base + x) l.next) e (l.invariant.4 off ps sh T);
    }
