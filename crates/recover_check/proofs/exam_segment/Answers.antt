-- `exam_segment`: where none remains there is no fault and nothing to add; a fault in front or in the survey names z; else the tally is added, and fits. Assumes nothing.
use Rattle.disk_drives.specs.Viewed.{viewed}
use mathlib.Core.Path.{◌≡◌, sym, ap, ◌∙◌, subst}
use mathlib.Core.Bool.{Bool, true, false, ◌||◌}
use Prim.Native.Nat.{◌+◌}
use native.Mathlib.Omega.{arith}
use borrow.Author.Tests.{not-true, not-false}
use lib.ListN.{get_or}
use Rattle.spec.specs.Drives.{view_of, sealed_in}
use Rattle.spec.specs.Faults.{stripe_fault, address_fault}
use Rattle.spec.specs.Segments.{segment_of}
use Rattle.spec.specs.declared.Seg.{Seg}
use Rattle.law_basic.specs.Geometry.{ranged}
use Rattle.law_basic.specs.Ranges.{not_both}
use Rattle.law_basic.specs.Segs.{ZonesLow}
use Rattle.law_drives.specs.Rebuilding.{counted-low}
use Rattle.law_drives.specs.Segs.{remaining-low}
use Rattle.recover_survey.specs.Tops.{Surveyed}
use Rattle.recover_check.specs.Faults.{faulty, ExamSays, faulty-kept, faulty_gone, seen_gone, seen_fits, seen-added, loose_sum_fits, uncounted_most, top_most}
use Rattle.recover_check.specs.Faults.{flag_remains, row_is_seg, row_there, flag_serial, flag_repeat}
use Rattle.recover_check.proofs.exam_segment.Goals as goal
use Rattle.recover_check.proofs.exam_segment.Goals.{After-row-segment, After-segment_fault, After-survey-t}

pub returns-then-not-kept-z : goal.returns-then-not-kept-z
returns-then-not-kept-z c =
    let a = c.args in
    let p = a.drives.now.p in
    let m = c.requires.z_lt_z in
    let v = view_of p a.drives.now.offline.now a.drives.now.image.now a.drives.now.pointers.now in
    let f = sym (c.requires.arrays.keeps.1 a.z m.0)
    ∙ not-true (get_or a.kept.now a.z false) c.if-not-kept-z.true-raw in
    record { zone_value = (λ q. absurd (not_both (faulty p v a.gone a.z) q (faulty_gone p v a.gone a.z f))); exam_says = λ _. seen_gone p v a.gone a.z a.e m.2 f }

pub row-segment-requires : goal.row-segment-requires
row-segment-requires c =
    let h = c.requires.z_lt_z.0 in
    (omega (arith, c.requires.arrays.zones.0, h), omega (arith, h, (ranged c.args.drives.now.p c.args.drives.now.sound).zones_high))

pub bounds-serials-z : goal.bounds-serials-z
bounds-serials-z c =
    omega (arith, c.requires.arrays.serials.0, c.requires.z_lt_z.0)

-- its zones are zones
low : (c : After-row-segment) → (let a = c.args in ZonesLow a.drives.now.p a.gone c.row-segment.result)
low c =
    let a = c.args in
    let v = viewed a.drives.now in
    let q = c.requires.arrays in
    let k = not-false (get_or a.kept.now a.z false) c.if-not-kept-z.false-raw in
    remaining-low a.drives.now.p v a.gone q.here c.row-segment.result
    (row_there a.drives.now.p v a.gone a.kept.now a.serials.now a.rows.now a.repeats.now a.counts.now q a.z c.requires.z_lt_z.0 k c.row-segment.result c.row-segment.ensures)

pub is_sealed-full-requires : goal.is_sealed-full-requires
is_sealed-full-requires c = record { p_value = c.args.drives.now.sound; pointers_len = (c.args.drives.now.whole.pointers_long, low (goal.at.is_sealed-full-requires c).After-row-segment) }

pub bounds-repeats-z : goal.bounds-repeats-z
bounds-repeats-z c =
    omega (arith, c.requires.arrays.repeated_long, c.requires.z_lt_z.0)

pub segment_fault-requires : goal.segment_fault-requires
segment_fault-requires c =
    let a = c.args in
    let p = a.drives.now.p in
    let v = view_of p a.drives.now.offline.now a.drives.now.image.now a.drives.now.pointers.now in
    let q = c.requires.arrays in
    let m = c.requires.z_lt_z in
    let g = c.row-segment.result in
    let i = c.row-segment.ensures in
    let k = not-false (get_or a.kept.now a.z false) c.if-not-kept-z.false-raw in
    let s = c.is_sealed-full.ensures a.drives.now.offline.now a.drives.now.image.now c.args.drives.now.whole.image_long in record {
      here = q.here;
      name_counts = (
        q.named,
        row_there p v a.gone a.kept.now a.serials.now a.rows.now a.repeats.now a.counts.now q a.z m.0 k g i,
        flag_serial p v a.gone a.kept.now a.serials.now a.rows.now a.repeats.now a.counts.now q a.z m.0 k g i,
        flag_repeat p v a.gone a.kept.now a.serials.now a.rows.now a.repeats.now a.counts.now q a.z m.0 k g i,
      );
      full_value = (s, m.1);
    }

-- whether it is faulty
fault : (c : After-segment_fault)
    → (let a = c.args in
    let v = viewed a.drives.now in
    let x = segment_of a.drives.now.p v a.gone c.row-segment.result in
    faulty a.drives.now.p v a.gone a.z ≡ (c.segment_fault.result || (stripe_fault a.drives.now.p a.gone x || address_fault a.drives.now.p a.gone x)))
fault c =
    let a = c.args in
    let p = a.drives.now.p in
    let v = view_of p a.drives.now.offline.now a.drives.now.image.now a.drives.now.pointers.now in
    let q = c.requires.arrays in
    let m = c.requires.z_lt_z in
    let g = c.row-segment.result in
    let k = not-false (get_or a.kept.now a.z false) c.if-not-kept-z.false-raw in
    let x = segment_of p v a.gone g in
    faulty-kept p v a.gone a.z g (flag_remains p v a.gone a.kept.now a.serials.now a.rows.now a.repeats.now a.counts.now q a.z m.0 k)
    (row_is_seg p v a.gone a.kept.now a.serials.now a.rows.now a.repeats.now a.counts.now q a.z m.0 k g c.row-segment.ensures)
    ∙ ap (λ (o : Bool). o || (stripe_fault p a.gone x || address_fault p a.gone x)) (sym c.segment_fault.ensures)

pub returns-then-segment_fault : goal.returns-then-segment_fault
returns-then-segment_fault c =
    let a = c.args in
    let v = viewed a.drives.now in
    let x = segment_of a.drives.now.p v a.gone c.row-segment.result in
    let z : faulty a.drives.now.p v a.gone a.z ≡ true =
    fault (goal.at.returns-then-segment_fault c).After-segment_fault
    ∙ ap (λ (o : Bool). o || (stripe_fault a.drives.now.p a.gone x || address_fault a.drives.now.p a.gone x)) c.if-segment_fault.true in
    record { zone_value = (λ _. c.exam_bad.ensures); exam_says = λ q. absurd (not_both (faulty a.drives.now.p v a.gone a.z) z q) }

pub survey-t-requires : goal.survey-t-requires
survey-t-requires c = record { p_value = c.args.drives.now.sound; whole = c.args.drives.now.whole; at_len = (c.requires.z_lt_z.3, low (goal.at.survey-t-requires c).After-row-segment) }

-- what the survey says of it
surveyed : (c : After-survey-t)
    → (let a = c.args in
    let v = viewed a.drives.now in
    Surveyed a.drives.now.p a.gone (segment_of a.drives.now.p v a.gone c.row-segment.result) c.survey-t.result)
surveyed c =
    let a = c.args in
    c.survey-t.ensures a.drives.now.offline.now (c.is_sealed-full.ensures a.drives.now.offline.now a.drives.now.image.now c.args.drives.now.whole.image_long)

pub shape_of-at-then-t : goal.shape_of-at-then-t
shape_of-at-then-t c = c.survey-t.auto.at

pub returns-then-t : goal.returns-then-t
returns-then-t c =
    let row = c.row-segment in
    let if2 = c.if-segment_fault in
    let a = c.args in
    let v = viewed a.drives.now in
    let x = segment_of a.drives.now.p v a.gone row.result in
    let u = surveyed (goal.at.returns-then-t c).After-survey-t in
    let z : faulty a.drives.now.p v a.gone a.z ≡ true =
    fault (goal.at.returns-then-t c).After-segment_fault
    ∙ ap (λ (o : Bool). o || (stripe_fault a.drives.now.p a.gone x || address_fault a.drives.now.p a.gone x)) if2.false ∙ sym u.bad_is
    ∙ c.if-t.true in record { zone_value = (λ _. c.exam_bad-then-t.ensures); exam_says = λ q. absurd (not_both (faulty a.drives.now.p v a.gone a.z) z q) }

pub exam_good-requires : goal.exam_good-requires
exam_good-requires c =
    let a = c.args in
    let p = a.drives.now.p in
    let v = view_of p a.drives.now.offline.now a.drives.now.image.now a.drives.now.pointers.now in
    let m = c.requires.z_lt_z in
    let x = segment_of p v a.gone c.row-segment.result in
    let u = surveyed (goal.at.exam_good-requires c).After-survey-t in
    let d = c.if-t.false in
    let w = seen_fits p v a.gone a.z a.e m.2 in
    let r = (ranged p c.args.drives.now.sound).stripes_high in record {
      loose_bound = (
        loose_sum_fits p a.z a.e.loose c.args.drives.now.sound m.0 w.0,
        loose_sum_fits p a.z a.e.counted c.args.drives.now.sound m.0 w.1,
        loose_sum_fits p a.z a.e.top c.args.drives.now.sound m.0 w.2,
        loose_sum_fits p a.z a.e.part c.args.drives.now.sound m.0 w.3,
      );
      loose_bound_2 = (
        omega (arith, u.loose_is d, uncounted_most p a.gone x, r),
        omega (arith, u.counted_is d, counted-low p a.gone x, r),
        omega (arith, u.top_is d, top_most p a.gone x, r),
      );
    }

pub shape_of-at : goal.shape_of-at
shape_of-at c = c.survey-t.auto.at

pub returns : goal.returns
returns c =
    let row = c.row-segment in
    let if1 = c.if-not-kept-z in
    let is-sealed = c.is_sealed-full in
    let if2 = c.if-segment_fault in
    let survey = c.survey-t in
    let a = c.args in
    let p = a.drives.now.p in
    let gone = a.gone in
    let v = view_of p a.drives.now.offline.now a.drives.now.image.now a.drives.now.pointers.now in
    let q = c.requires.arrays in
    let m = c.requires.z_lt_z in
    let g = row.result in
    let x = segment_of p v gone g in
    let u = surveyed (goal.at.returns c).After-survey-t in
    let d = c.if-t.false in
    let k = not-false (get_or a.kept.now a.z false) if1.false-raw in
    let r = flag_remains p v gone a.kept.now a.serials.now a.rows.now a.repeats.now a.counts.now q a.z m.0 k in
    let i = row_is_seg p v gone a.kept.now a.serials.now a.rows.now a.repeats.now a.counts.now q a.z m.0 k g row.ensures in
    let s = is-sealed.ensures a.drives.now.offline.now a.drives.now.image.now c.args.drives.now.whole.image_long ∙ ap (sealed_in p v gone) i in
    let z : faulty p v gone a.z ≡ false =
    fault (goal.at.returns c).After-segment_fault ∙ ap (λ (o : Bool). o || (stripe_fault p gone x || address_fault p gone x)) if2.false ∙ sym u.bad_is ∙ d in record {
      zone_value = (λ y. absurd (not_both (faulty p v gone a.z) y z));
      exam_says = (λ _. subst (ExamSays p v gone (a.z + 1)) (sym c.exam_good.ensures)
          (seen-added p v gone a.z a.e m.2 is-sealed.result survey.result (subst (λ (y : Seg). Surveyed p gone (segment_of p v gone y) survey.result) i u) d r s));
    }
