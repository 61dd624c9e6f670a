-- `survey_group`: a group whose index fails makes the segment bad, as its fault says; else the tally of its stripes holds. Assumes nothing.
use mathlib.Core.Path.{◌≡◌, refl, sym, ◌∙◌, subst}
use mathlib.Core.List.{List}
use mathlib.Core.Bool.{true, false}
use Prim.Native.Nat.{ℕ, ◌+◌, ◌≤◌}
use native.Mathlib.Omega.{arith}
use borrow.Author.Tests.{not-true, not-false}
use Rattle.spec.specs.Drives.{view_of, sealed_in}
use Rattle.spec.specs.Segments.{Segment}
use Rattle.law_basic.specs.Ranges.{not_both}
use Rattle.recover_survey.specs.declared.Tally.{Tally}
use Rattle.recover_groups.specs.Groups.{group_len, group_fault, segment_in}
use Rattle.recover_survey.specs.Stripes.{Tallied, worse, bad_says, group_fault_lem}
use Rattle.recover_survey.proofs.survey_group.Goals as goal

pub returns-then-not-index_group : goal.returns-then-not-index_group
returns-then-not-index_group c =
    let a = c.args in
    let i = c.index_group in
    let h = c.requires in
    let p = a.p in
    let w = a.w in
    let t = a.t in
    let g : List ℕ → Segment = λ off. segment_in p off a.image.now a.pointers.now w in
    let Full : List ℕ → Type 0 = λ off. w.full ≡ sealed_in p (view_of p off a.image.now a.pointers.now) w.gone w.seg in
    let n = w.base + group_len p w.base in
    let f : (off : List ℕ) → Full off → group_fault p w.gone (g off) w.base ≡ true = λ off full.
    not-false (group_fault p w.gone (g off) w.base) (sym (i.ensures.by_index off full) ∙ not-true i.result c.if-not-index_group.true-raw) in record {
      counted_bound = (subst (λ (r : Tally). ((r.counted ≤ n) × (r.loose ≤ n))
          × (((off : List ℕ) → Full off → r.bad ≡ false → (t.bad ≡ false) × (group_fault p w.gone (g off) w.base ≡ false))
          × ((off : List ℕ) → Full off → Tallied p w.gone (g off) w.base t → Tallied p w.gone (g off) n r)))
          (sym c.bad_tally.ensures) (
            (omega (arith, h.counted_le_base.0), omega (arith, h.counted_le_base.1)),
            (
              (λ off full q. absurd (not_both true refl q)),
              (λ off full T. bad_says p w.gone (g off) n (worse t) (group_fault_lem p w.gone (g off) w.base (f off full))),
            ),
          )).0;
      by_index = (subst (λ (r : Tally). ((r.counted ≤ n) × (r.loose ≤ n))
          × (((off : List ℕ) → Full off → r.bad ≡ false → (t.bad ≡ false) × (group_fault p w.gone (g off) w.base ≡ false))
          × ((off : List ℕ) → Full off → Tallied p w.gone (g off) w.base t → Tallied p w.gone (g off) n r)))
          (sym c.bad_tally.ensures) (
            (omega (arith, h.counted_le_base.0), omega (arith, h.counted_le_base.1)),
            (
              (λ off full q. absurd (not_both true refl q)),
              (λ off full T. bad_says p w.gone (g off) n (worse t) (group_fault_lem p w.gone (g off) w.base (f off full))),
            ),
          )).1.0;
      by_index_2 = (subst (λ (r : Tally). ((r.counted ≤ n) × (r.loose ≤ n))
          × (((off : List ℕ) → Full off → r.bad ≡ false → (t.bad ≡ false) × (group_fault p w.gone (g off) w.base ≡ false))
          × ((off : List ℕ) → Full off → Tallied p w.gone (g off) w.base t → Tallied p w.gone (g off) n r)))
          (sym c.bad_tally.ensures) (
            (omega (arith, h.counted_le_base.0), omega (arith, h.counted_le_base.1)),
            (
              (λ off full q. absurd (not_both true refl q)),
              (λ off full T. bad_says p w.gone (g off) n (worse t) (group_fault_lem p w.gone (g off) w.base (f off full))),
            ),
          )).1.1;
    }

pub survey_stripes-requires : goal.survey_stripes-requires
survey_stripes-requires c =
    let a = c.args in
    let i = c.index_group in
    let h = c.requires in
    let p = a.p in
    let w = a.w in
    let t = a.t in record { p_value = h.p_value; image_len = (h.whole.image_long, i.auto.at ∙ h.at_len.0, h.at_len.1, h.at_len.2); counted_le_base = h.counted_le_base }

pub returns : goal.returns
returns c =
    let a = c.args in
    let if1 = c.if-not-index_group in
    let i = c.index_group in
    let h = c.requires in
    let p = a.p in
    let w = a.w in
    let t = a.t in
    let g : List ℕ → Segment = λ off. segment_in p off a.image.now a.pointers.now w in
    let Full : List ℕ → Type 0 = λ off. w.full ≡ sealed_in p (view_of p off a.image.now a.pointers.now) w.gone w.seg in
    let n = w.base + group_len p w.base in
    let y = c.survey_stripes in
    let f : (off : List ℕ) → Full off → group_fault p w.gone (g off) w.base ≡ false = λ off full.
    not-true (group_fault p w.gone (g off) w.base) (sym (i.ensures.by_index off full) ∙ not-false i.result if1.false-raw) in
    record {
      counted_bound = (y.ensures.counted_bound.0, y.ensures.counted_bound.1);
      by_index = (λ off full q. (y.ensures.counted_bound.2 q, f off full));
      by_index_2 = (λ off full T. y.ensures.by_index off a.pointers.now (h.whole.pointers_long, full, i.ensures.by_index_2 off full) T);
    }
