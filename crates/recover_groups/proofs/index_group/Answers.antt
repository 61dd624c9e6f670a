-- `index_group`: the drives below d have their rows and none is bad; row d leaves those below it, a bad drive ends it, at N all rows stand. Assumes nothing.
use mathlib.Core.Path.{◌≡◌, sym, ap, ◌∙◌}
use mathlib.Core.List.{List}
use mathlib.Core.Bool.{Bool, true, false, not}
use Prim.Native.Nat.{ℕ}
use borrow.Author.Tests.{not-false}
use native.Mathlib.Omega.{arith}
use Rattle.spec.specs.Drives.{view_of, sealed_in}
use Rattle.spec.specs.Lists.{is_in}
use Rattle.spec.specs.Segments.{Segment, recs_on}
use Rattle.law_basic.specs.Geometry.{ranged}
use Rattle.law_basic.specs.Ranges.{not_both}
use Rattle.law_scans.specs.Scans.{any_found, any_passed, any-ended, any-start}
use Rattle.recover_groups.specs.Bases.{group_len_le}
use Rattle.recover_groups.specs.Chunks.{indexed_of}
use Rattle.recover_groups.specs.Entering.{drive_bad, fault_list, bad_or, rows_next}
use Rattle.recover_groups.specs.Faulty.{no_group_fault}
use Rattle.recover_groups.specs.Groups.{group_recs, recs_bad, group_fault, segment_in}
use Rattle.recover_groups.proofs.index_group.Goals as goal

pub loop-d-init : goal.loop-d-init
loop-d-init c =
    let a = c.args in
    let p = a.p in
    let w = a.w in
    let im = a.image.now in
    let ps = a.pointers.now in
    let q = c.requires.at_len in
    let g : List ℕ → Segment = λ off. segment_in p off im ps w in
    let F : List ℕ → ℕ → Bool = λ off. drive_bad p w.gone (g off) w.base in
    (omega arith, q.0, (λ off full e h. absurd (let z : ⊥ = omega (arith, h) in z)), λ off full. any-start (F off) p.N)

pub index_any-requires : goal.index_any-requires
index_any-requires c =
    let loop = c.loop-d in
    let pre = c.requires in record { p_value = pre.p_value; whole = pre.whole; at_len = (loop.invariant.1, c.loop-d-test.true, pre.at_len.1, pre.at_len.2, pre.at_len.3) }

pub shape_of-at-then-not-index_any : goal.shape_of-at-then-not-index_any
shape_of-at-then-not-index_any c =
    let loop = c.loop-d in
    let pre = c.requires in
    c.index_any.auto.at ∙ loop.invariant.1 ∙ sym pre.at_len.0

pub returns-then-not-index_any : goal.returns-then-not-index_any
returns-then-not-index_any c =
    let a = c.args in
    let index-any = c.index_any in
    let if1 = c.loop-d-test in
    let loop = c.loop-d in
    let pre = c.requires in
    let p = a.p in
    let w = a.w in
    let im = a.image.now in
    let ps = a.pointers.now in
    let q = pre.at_len in
    let g : List ℕ → Segment = λ off. segment_in p off im ps w in
    let F : List ℕ → ℕ → Bool = λ off. drive_bad p w.gone (g off) w.base in
    let b : (off : List ℕ) → w.full ≡ sealed_in p (view_of p off im ps) w.gone w.seg → group_fault p w.gone (g off) w.base ≡ true =
    λ off full. fault_list p w.gone (g off) w.base
    ∙ sym (loop.invariant.3 off full)
    ∙ any_found (F off) loop.d p.N if1.true
    (bad_or (is_in w.gone loop.d) (recs_bad p loop.d w.base (group_recs p w.base (recs_on (g off) loop.d)))
    ∙ ap not (sym (index-any.ensures.by_index off full))
    ∙ c.if-not-index_any.true-raw) in record {
      by_index = (λ off full. sym (ap not (b off full)));
      by_index_2 = λ off full h. absurd
          (not_both (group_fault p w.gone (g off) w.base) (b off full) (no_group_fault p w.gone (g off) w.base h));
    }

pub loop-d-preserved : goal.loop-d-preserved
loop-d-preserved c =
    let a = c.args in
    let index-any = c.index_any in
    let if1 = c.loop-d-test in
    let loop = c.loop-d in
    let pre = c.requires in
    let p = a.p in
    let w = a.w in
    let im = a.image.now in
    let ps = a.pointers.now in
    let q = pre.at_len in
    let g : List ℕ → Segment = λ off. segment_in p off im ps w in
    let F : List ℕ → ℕ → Bool = λ off. drive_bad p w.gone (g off) w.base in
    let f = group_len_le p w.base in (
      omega (arith, if1.true),
      index-any.auto.at ∙ loop.invariant.1,
      (λ off full. rows_next p w.base loop.d (λ e. group_recs p w.base (recs_on (g off) e)) loop.at index-any.new.at
          (omega (arith, f, (ranged a.p pre.p_value).group_high)) (loop.invariant.2 off full) index-any.ensures.same_below
          (index-any.ensures.by_index_2 off full (not-false index-any.result c.if-not-index_any.false-raw))),
      (λ off full. sym (any_passed (F off) loop.d p.N if1.true
          (bad_or (is_in w.gone loop.d) (recs_bad p loop.d w.base (group_recs p w.base (recs_on (g off) loop.d)))
          ∙ ap not (sym (index-any.ensures.by_index off full))
          ∙ c.if-not-index_any.false-raw))
          ∙ loop.invariant.3 off full),
    )

pub shape_of-at : goal.shape_of-at
shape_of-at c =
    let pre = c.requires in
    c.loop-d.invariant.1 ∙ sym pre.at_len.0

pub returns : goal.returns
returns c =
    let a = c.args in
    let loop = c.loop-d in
    let pre = c.requires in
    let p = a.p in
    let w = a.w in
    let im = a.image.now in
    let ps = a.pointers.now in
    let q = pre.at_len in
    let g : List ℕ → Segment = λ off. segment_in p off im ps w in
    let F : List ℕ → ℕ → Bool = λ off. drive_bad p w.gone (g off) w.base in
    let b : (off : List ℕ) → w.full ≡ sealed_in p (view_of p off im ps) w.gone w.seg → group_fault p w.gone (g off) w.base ≡ false =
    λ off full. fault_list p w.gone (g off) w.base ∙ sym (loop.invariant.3 off full) ∙ any-ended (F off) loop.d p.N (omega (arith, c.loop-d-test.false)) in record {
      by_index = (λ off full. sym (ap not (b off full)));
      by_index_2 = λ off full h. indexed_of p (view_of p off im ps) w.gone w.seg w.base loop.at (omega (arith, (ranged a.p pre.p_value).group-low)) q.2 q.3 h
          (λ e he. loop.invariant.2 off full e (omega (arith, he, c.loop-d-test.false)));
    }
