-- `lost_bad`: with no lost data nothing is bad; a counted stripe is entered on every present drive, so true comes only of the lost record. Assumes nothing.
use mathlib.Core.Path.{sym, ◌∙◌}
use Prim.Native.Nat.{◌+◌}
use native.Mathlib.Omega.{arith}
use borrow.Author.Tests.{not-true, not-false}
use Rattle.law_basic.specs.Geometry.{ranged}
use Rattle.law_basic.specs.Ranges.{not_both}
use Rattle.disk_records.specs.Record.{rec_val}
use Rattle.recover_groups.specs.Groups.{segment_in}
use Rattle.recover_groups.specs.Bases.{group_len_le}
use Rattle.recover_groups.specs.Chunks.{counts-entered}
use Rattle.recover_survey.specs.Stripes.{no_lost_bad, lost_some}
use Rattle.recover_survey.proofs.lost_bad.Goals as goal

pub overflow_add-w : goal.overflow_add-w
overflow_add-w c =
    let a = c.args in
    let p = a.p in
    let w = a.w in
    let h = c.requires in
    let r = ranged p h.p_value in
    omega (arith, r.stripes_high, r.group_high, group_len_le p w.base, h.image_len.3, h.image_len.4)

pub returns-then-not-any_lost_data : goal.returns-then-not-any_lost_data
returns-then-not-any_lost_data c =
    let a = c.args in
    let h = c.requires in
    let p = a.p in
    let w = a.w in
    λ off ps sh rf ct. no_lost_bad p w.gone (segment_in p off a.image.now ps w) (w.base + a.k)
    (sym c.any_lost_data.ensures ∙ not-true c.any_lost_data.result c.if-not-any_lost_data.true-raw)

pub is_all_entered-requires : goal.is_all_entered-requires
is_all_entered-requires c =
    let a = c.args in
    let h = c.requires in
    let p = a.p in
    let w = a.w in record { p_value = h.p_value; at_len = (h.image_len.1, h.image_len.3, omega (arith, group_len_le p w.base, h.image_len.4, (ranged p h.p_value).group_high)) }

pub returns-then-not-is_all_entered : goal.returns-then-not-is_all_entered
returns-then-not-is_all_entered c =
    let a = c.args in
    let h = c.requires in
    let p = a.p in
    let w = a.w in
    let i = c.is_all_entered in
    λ off ps sh rf ct. absurd (not_both i.result
    (i.ensures.value (counts-entered p w.gone (segment_in p off a.image.now ps w) w.base a.at.now a.k (sh.2 rf) h.image_len.4 ct))
    (not-true i.result c.if-not-is_all_entered.true-raw))

pub lost_rec-requires : goal.lost_rec-requires
lost_rec-requires c =
    let a = c.args in
    let h = c.requires in
    let p = a.p in
    let w = a.w in
    let i = c.is_all_entered in
    let d = (ranged p h.p_value).drives_low in
    record {
      p_value = h.p_value;
      image_len = (h.image_len.0, h.image_len.1, h.image_len.2, h.image_len.3, omega (arith, d), h.image_len.4);
      all_entered =
          i.ensures.all_entered (not-false i.result c.if-not-is_all_entered.false-raw);
    }

pub returns : goal.returns
returns c =
    let a = c.args in
    let if1 = c.if-not-any_lost_data in
    let y = c.any_lost_data in
    let h = c.requires in
    let p = a.p in
    let w = a.w in
    λ off ps sh rf ct.
    let g = segment_in p off a.image.now ps w in
    c.bad_rec.ensures ∙ lost_some p w.gone g (w.base + a.k) (rec_val c.lost_rec.result) (sym y.ensures ∙ not-false y.result if1.false-raw)
    (c.lost_rec.ensures off ps (record { long = sh.0; full_right = sh.1; indexed = sh.2 rf }))
