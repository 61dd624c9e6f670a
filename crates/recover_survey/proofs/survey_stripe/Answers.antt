-- `survey_stripe`: one that counts is bad or adds 1 to counted, one without a chunk adds nothing, any other 1 to loose; each at most s + 1. Assumes nothing.
use mathlib.Core.Path.{◌≡◌, refl, sym, ◌∙◌, subst}
use mathlib.Core.Bool.{true, false}
use mathlib.Core.List.{List}
use Prim.Native.Nat.{ℕ, ◌+◌, ◌≤◌}
use native.Mathlib.Omega.{arith}
use lib.ListN.{length}
use Rattle.spec.specs.Drives.{view_of}
use Rattle.spec.specs.Params.{present}
use Rattle.spec.specs.Segments.{counts}
use Rattle.law_basic.specs.Geometry.{ranged}
use Rattle.law_basic.specs.Ranges.{not_both}
use Rattle.recover_survey.specs.declared.Tally.{Tally}
use Rattle.recover_groups.specs.Groups.{segment_in}
use Rattle.recover_groups.specs.Bases.{group_len_le}
use Rattle.recover_survey.specs.Stripes.{Shown, Tallied, passes_none, passes_loose, passes_counted, passes_bad, loose_none, loose_counts}
use Rattle.recover_survey.proofs.survey_stripe.Goals as goal

pub counts-requires : goal.counts-requires
counts-requires c =
    let a = c.args in
    let p = a.p in
    let w = a.w in
    let t = a.t in
    let h = c.requires in record { p_value = h.p_value; at_len = (h.image_len.1, omega (arith, group_len_le p w.base, h.image_len.4, (ranged p h.p_value).group_high)) }

pub lost_bad-requires : goal.lost_bad-requires
lost_bad-requires c =
    let a = c.args in
    let h = c.requires in
    let p = a.p in
    let w = a.w in
    let t = a.t in record { p_value = h.p_value; image_len = h.image_len }

pub returns-then-lost_bad : goal.returns-then-lost_bad
returns-then-lost_bad c =
    let a = c.args in
    let z = c.lost_bad in
    let if1 = c.if-counts in
    let counts' = c.counts in
    let h = c.requires in
    let p = a.p in
    let w = a.w in
    let t = a.t in
    let s = w.base + a.k in record {
      counted_bound_2 = (subst (λ (r : Tally). ((r.counted ≤ s + 1) × (r.loose ≤ s + 1) × (r.bad ≡ false → t.bad ≡ false))
          × ((off ps : List ℕ) → Shown p off a.image.now ps w a.at.now → Tallied p w.gone (segment_in p off a.image.now ps w) s t
          → Tallied p w.gone (segment_in p off a.image.now ps w) (s + 1) r))
          (sym c.bad_tally.ensures) (
            (omega (arith, h.counted_bound.0), omega (arith, h.counted_bound.1), λ q. absurd (not_both true refl q)),
            λ off ps sh T. passes_bad p w.gone (segment_in p off a.image.now ps w) s t T (λ rf.
                let ct : counts p w.gone (segment_in p off a.image.now ps w) s ≡ true =
                sym (counts'.ensures (segment_in p off a.image.now ps w) w.base (sh.2 rf) h.image_len.4) ∙ if1.true in
                (ct, sym (z.ensures off ps sh rf ct) ∙ c.if-lost_bad.true)),
          )).0;
      by_index = (subst (λ (r : Tally). ((r.counted ≤ s + 1) × (r.loose ≤ s + 1) × (r.bad ≡ false → t.bad ≡ false))
          × ((off ps : List ℕ) → Shown p off a.image.now ps w a.at.now → Tallied p w.gone (segment_in p off a.image.now ps w) s t
          → Tallied p w.gone (segment_in p off a.image.now ps w) (s + 1) r))
          (sym c.bad_tally.ensures) (
            (omega (arith, h.counted_bound.0), omega (arith, h.counted_bound.1), λ q. absurd (not_both true refl q)),
            λ off ps sh T. passes_bad p w.gone (segment_in p off a.image.now ps w) s t T (λ rf.
                let ct : counts p w.gone (segment_in p off a.image.now ps w) s ≡ true =
                sym (counts'.ensures (segment_in p off a.image.now ps w) w.base (sh.2 rf) h.image_len.4) ∙ if1.true in
                (ct, sym (z.ensures off ps sh rf ct) ∙ c.if-lost_bad.true)),
          )).1;
    }

pub overflow_add-result : goal.overflow_add-result
overflow_add-result c =
    let a = c.args in
    let h = c.requires in
    let p = a.p in
    let w = a.w in
    let t = a.t in
    let r = ranged p h.p_value in
    omega (arith, r.stripes_high, r.group_high, group_len_le p w.base, h.image_len.3, h.image_len.4, h.counted_bound.0, h.counted_bound.1)

pub overflow_add-result-then-counts : goal.overflow_add-result-then-counts
overflow_add-result-then-counts c =
    let a = c.args in
    let h = c.requires in
    let p = a.p in
    let w = a.w in
    let t = a.t in
    let r = ranged p h.p_value in
    omega (arith, r.stripes_high, r.group_high, group_len_le p w.base, h.image_len.3, h.image_len.4, h.counted_bound.0, h.counted_bound.1)

pub overflow_add-result-then-counts-2 : goal.overflow_add-result-then-counts-2
overflow_add-result-then-counts-2 c =
    let a = c.args in
    let h = c.requires in
    let p = a.p in
    let w = a.w in
    let t = a.t in
    let r = ranged p h.p_value in
    omega (arith, r.stripes_high, r.group_high, group_len_le p w.base, h.image_len.3, h.image_len.4, h.counted_bound.0, h.counted_bound.1)

pub returns-then-counts : goal.returns-then-counts
returns-then-counts c =
    let a = c.args in
    let if2 = c.if-lost_bad in
    let lost-bad = c.lost_bad in
    let if1 = c.if-counts in
    let counts' = c.counts in
    let h = c.requires in
    let p = a.p in
    let w = a.w in
    let t = a.t in
    let s = w.base + a.k in
    let z = lost-bad in record {
      counted_bound_2 = (omega (arith, h.counted_bound.0), omega (arith, h.counted_bound.1), λ q. q);
      by_index = λ off ps sh T. passes_counted p w.gone (segment_in p off a.image.now ps w) s t T (λ rf.
          let ct : counts p w.gone (segment_in p off a.image.now ps w) s ≡ true =
          sym (counts'.ensures (segment_in p off a.image.now ps w) w.base (sh.2 rf) h.image_len.4) ∙ if1.true in
          (ct, sym (z.ensures off ps sh rf ct) ∙ if2.false));
    }

pub chunks-requires : goal.chunks-requires
chunks-requires c =
    let a = c.args in
    let h = c.requires in
    let p = a.p in
    let w = a.w in
    let t = a.t in record { p_value = h.p_value; at_len = (h.image_len.1, omega (arith, group_len_le p w.base, h.image_len.4, (ranged p h.p_value).group_high)) }

pub returns-then-chunks-eq0 : goal.returns-then-chunks-eq0
returns-then-chunks-eq0 c =
    let a = c.args in
    let if1 = c.if-counts in
    let counts' = c.counts in
    let h = c.requires in
    let p = a.p in
    let w = a.w in
    let t = a.t in
    let s = w.base + a.k in
    let x = c.chunks in record {
      counted_bound_2 = (omega (arith, h.counted_bound.0), omega (arith, h.counted_bound.1), λ q. q);
      by_index = λ off ps sh T. passes_none p w.gone (segment_in p off a.image.now ps w) s t T (λ rf.
          let ct : counts p w.gone (segment_in p off a.image.now ps w) s ≡ false =
          sym (counts'.ensures (segment_in p off a.image.now ps w) w.base (sh.2 rf) h.image_len.4) ∙ if1.false in (
            ct,
            loose_none p (view_of p off a.image.now ps) w.gone w.seg s x.result (length (present p w.gone))
                (x.ensures.value (segment_in p off a.image.now ps w) w.base (sh.2 rf) h.image_len.4) refl c.if-chunks-eq0.true,
          ));
    }

pub overflow_add-result-2 : goal.overflow_add-result-2
overflow_add-result-2 c =
    let a = c.args in
    let h = c.requires in
    let p = a.p in
    let w = a.w in
    let t = a.t in
    let r = ranged p h.p_value in
    omega (arith, r.stripes_high, r.group_high, group_len_le p w.base, h.image_len.3, h.image_len.4, h.counted_bound.0, h.counted_bound.1)

pub returns : goal.returns
returns c =
    let a = c.args in
    let chunks = c.chunks in
    let if1 = c.if-counts in
    let counts' = c.counts in
    let h = c.requires in
    let p = a.p in
    let w = a.w in
    let t = a.t in
    let s = w.base + a.k in
    let x = chunks in record {
      counted_bound_2 = (omega (arith, h.counted_bound.0), omega (arith, h.counted_bound.1), λ q. q);
      by_index = λ off ps sh T. passes_loose p w.gone (segment_in p off a.image.now ps w) s t T (λ rf.
          let ct : counts p w.gone (segment_in p off a.image.now ps w) s ≡ false =
          sym (counts'.ensures (segment_in p off a.image.now ps w) w.base (sh.2 rf) h.image_len.4) ∙ if1.false in (
            ct,
            loose_counts p (view_of p off a.image.now ps) w.gone w.seg s x.result (length (present p w.gone))
                (x.ensures.value (segment_in p off a.image.now ps w) w.base (sh.2 rf) h.image_len.4) refl ct c.if-chunks-eq0.false,
          ));
    }
