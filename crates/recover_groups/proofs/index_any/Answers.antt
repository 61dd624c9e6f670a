-- `index_any`: the row is clear; that is the row of a missing drive, which has no chunks, and a present drive's row is made from its records. Assumes nothing.
use mathlib.Core.Path.{sym, ap, ◌∙◌}
use mathlib.Core.List.{List}
use mathlib.Core.Bool.{Bool, not, ◌||◌}
use Prim.Native.Nat.{ℕ, ◌+◌}
use native.Mathlib.Omega.{arith}
use Rattle.spec.specs.Drives.{view_of}
use Rattle.spec.specs.Segments.{recs_on}
use Rattle.recover_groups.specs.Bases.{group_len_le}
use Rattle.recover_groups.specs.Chunks.{missing_entry}
use Rattle.recover_groups.specs.Groups.{group_recs, recs_bad, segment_in}
use Rattle.recover_groups.proofs.index_any.Goals as goal

pub clear_row-requires : goal.clear_row-requires
clear_row-requires c =
    let pre = c.requires in record { p_value = pre.p_value; at_len = (pre.at_len.0, pre.at_len.1) }

pub shape_of-at-then-has_drive : goal.shape_of-at-then-has_drive
shape_of-at-then-has_drive c =
    let clear-row = c.clear_row in
    clear-row.auto.at

pub returns-then-has_drive : goal.returns-then-has_drive
returns-then-has_drive c =
    let a = c.args in
    let clear-row = c.clear_row in
    let pre = c.requires in
    let p = a.p in
    let w = a.w in
    let im = a.image.now in
    let ps = a.pointers.now in
    let d = a.drive in
    let q = pre.at_len in
    let bad : List ℕ → Bool = λ off. recs_bad p d w.base (group_recs p w.base (recs_on (segment_in p off im ps w) d)) in
    let f = group_len_le p w.base in record {
      by_index = (λ off full. sym (ap (λ (b : Bool). b || not (bad off)) (sym c.has_drive.ensures ∙ c.if-has_drive.true)));
      same_below = clear-row.ensures.same_below;
      by_index_2 = λ off full t k hk. clear-row.ensures.by_index k (omega (arith, f, hk))
          ∙ sym (missing_entry p (view_of p off im ps) w.gone w.seg w.base d (w.base + k) q.1 (sym c.has_drive.ensures ∙ c.if-has_drive.true));
    }

pub index_drive-requires : goal.index_drive-requires
index_drive-requires c =
    let has-drive = c.has_drive in
    let clear-row = c.clear_row in
    let args = c.args in
    let pre = c.requires in
    let f = group_len_le args.p args.w.base in record {
      p_value = pre.p_value;
      whole = pre.whole;
      at_len = (
        clear-row.auto.at
            ∙ pre.at_len.0,
        pre.at_len.1,
        pre.at_len.2,
        pre.at_len.3,
        pre.at_len.4,
        sym has-drive.ensures
            ∙ c.if-has_drive.false,
      );
      by_index = (λ k hk. clear-row.ensures.by_index k (omega (arith, f, hk)));
    }

pub shape_of-at : goal.shape_of-at
shape_of-at c =
    let clear-row = c.clear_row in
    c.index_drive.auto.at ∙ clear-row.auto.at

pub returns : goal.returns
returns c =
    let a = c.args in
    let index-drive' = c.index_drive in
    let if1 = c.if-has_drive in
    let has-drive = c.has_drive in
    let clear-row = c.clear_row in
    let pre = c.requires in
    let p = a.p in
    let w = a.w in
    let im = a.image.now in
    let ps = a.pointers.now in
    let d = a.drive in
    let q = pre.at_len in
    let bad : List ℕ → Bool = λ off. recs_bad p d w.base (group_recs p w.base (recs_on (segment_in p off im ps w) d)) in
    let f = group_len_le p w.base in record {
      by_index = (λ off full. index-drive'.ensures.by_index_2 off full
          ∙ sym (ap (λ (b : Bool). b || not (bad off)) (sym has-drive.ensures ∙ if1.false)));
      same_below = (λ j h. index-drive'.ensures.same_below j h ∙ clear-row.ensures.same_below j h);
      by_index_2 = index-drive'.ensures.by_index_3;
    }
