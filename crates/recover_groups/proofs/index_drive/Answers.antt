-- `index_drive`: the first i records are entered and none is bad; a bad address or number ends it, else record i is entered as i + 1. Assumes nothing.
use mathlib.Core.Path.{◌≡◌, refl, sym, ap, ◌∙◌, subst}
use mathlib.Core.List.{List}
use mathlib.Core.Bool.{true, false, not}
use Prim.Native.Nat.{ℕ, ◌+◌, ◌-◌, ◌*◌, ◌≤◌, ◌<◌}
use borrow.Author.Tests.{not-true, not-false}
use native.Mathlib.Omega.{arith}
use lib.ListN.{length, get_or, set}
use Rattle.spec.specs.Drives.{zone_at, view_of, record_in, sealed_in}
use Rattle.spec.specs.Layout.{Rec, mk_rec}
use Rattle.spec.specs.Segments.{recs_on}
use Rattle.law_basic.specs.Geometry.{ranged}
use Rattle.law_basic.specs.Ranges.{not_both}
use Rattle.law_drives.specs.Tests.{cond_true, cond_false}
use Rattle.recover_groups.specs.Bases.{group_len_le, group_len_fits}
use Rattle.recover_groups.specs.Chunks.{group_record}
use Rattle.recover_groups.specs.Entering.{Entering, entering_start, entering_end, entering_bad_data, entering_bad, entering_next, below_set}
use Rattle.recover_groups.specs.Groups.{group_len, group_recs, recs_bad, segment_in, Row, SameBelow}
use Rattle.disk_records.specs.Record.{rec_val}
use Rattle.law_basic.specs.Segs.{low_zone}
use Rattle.recover_groups.proofs.index_drive.Goals as goal

pub group_stored-n-requires : goal.group_stored-n-requires
group_stored-n-requires c =
    let args = c.args in
    let pre = c.requires in
    let q = pre.at_len in record { p_value = pre.p_value; pointers_len = (pre.whole.pointers_long, q.1, low_zone args.p args.w.gone args.w.seg args.drive q.2 q.1 q.5, q.3) }

pub zone_on-zone-requires : goal.zone_on-zone-requires
zone_on-zone-requires c =
    let pre = c.requires in record { p_value = pre.p_value; drive_lt_n = pre.at_len.1 }

pub loop-i-init : goal.loop-i-init
loop-i-init c =
    let a = c.args in
    let pre = c.requires in
    let p = a.p in
    let w = a.w in
    let im = a.image.now in
    let ps = a.pointers.now in
    let d = a.drive in
    let q = pre.at_len in
    (omega arith, q.0, (λ j k. refl), λ off full. entering_start p d w.base (group_recs p w.base (recs_on (segment_in p off im ps w) d)) a.at.now q.0 pre.by_index)

pub overflow_add-base : goal.overflow_add-base
overflow_add-base c =
    let group-stored = c.group_stored-n in
    let args = c.args in
    let pre = c.requires in
    let f = group_len_fits args.p args.w.base (omega (arith, pre.at_len.3)) in
    omega (arith, f, pre.at_len.3, group-stored.ensures.upper_bound, c.loop-i-test.true, (ranged args.p pre.p_value).stripes_high, (ranged args.p pre.p_value).group_high)

pub record_of-r-requires : goal.record_of-r-requires
record_of-r-requires c =
    let zone_on_holds = c.zone_on-zone in
    let group-stored = c.group_stored-n in
    let args = c.args in
    let pre = c.requires in record {
      p_value = pre.p_value;
      image_len = (
        pre.whole.image_long,
        pre.at_len.1,
        rw zone_on_holds.ensures (low_zone args.p args.w.gone args.w.seg args.drive pre.at_len.2 pre.at_len.1 pre.at_len.5),
        (let f = group_len_fits args.p args.w.base (omega (arith, pre.at_len.3)) in omega (
          arith,
          f,
          pre.at_len.3,
          group-stored.ensures.upper_bound,
          c.loop-i-test.true,
          (ranged args.p pre.p_value).stripes_high,
          (ranged args.p pre.p_value).group_high,
        )),
      );
    }

pub stored_bad-requires : goal.stored_bad-requires
stored_bad-requires c =
    let pre = c.requires in
    pre.p_value

pub shape_of-at-then-stored_bad : goal.shape_of-at-then-stored_bad
shape_of-at-then-stored_bad c =
    let loop = c.loop-i in
    let pre = c.requires in
    loop.invariant.1 ∙ sym pre.at_len.0

pub returns-then-stored_bad : goal.returns-then-stored_bad
returns-then-stored_bad c =
    let a = c.args in
    let record_of = c.record_of-r in
    let loop-test = c.loop-i-test in
    let loop = c.loop-i in
    let zone_on_holds = c.zone_on-zone in
    let group-stored = c.group_stored-n in
    let pre = c.requires in
    let p = a.p in
    let w = a.w in
    let im = a.image.now in
    let ps = a.pointers.now in
    let d = a.drive in
    let q = pre.at_len in
    let i = loop.i in
    let r = rec_val record_of.result in
    let g : 0 < p.G = omega (arith, (ranged a.p pre.p_value).group-low) in record {
      by_index_2 = (λ off full. let rs = group_recs p w.base (recs_on (segment_in p off im ps w) d) in
          let n : group-stored.result ≡ length rs = group-stored.ensures.by_index off im pre.whole.image_long q.5 in
          let h : i < length rs = omega (arith, n, loop-test.true) in
          let l : length rs ≤ group_len p w.base = omega (arith, n, group-stored.ensures.upper_bound) in
          let e : r ≡ get_or rs i (mk_rec 0 0 0) = record_of.ensures off ps pre.whole.pointers_long
          ∙ (λ j. record_in p (full j) (zone_at (view_of p off im ps) d (zone_on_holds.ensures j)) (w.base + i))
          ∙ group_record p (view_of p off im ps) w.gone w.seg w.base d i q.1 q.5 h in
          sym (ap not
          (entering_bad_data p d w.base rs a.at.now loop.at i (loop.invariant.3 off full) h g q.3 q.4 l r e (sym c.stored_bad.ensures ∙ c.if-stored_bad.true))));
      same_below = loop.invariant.2;
      by_index_3 = λ off full t. absurd (not_both false t refl);
    }

pub overflow_add-i : goal.overflow_add-i
overflow_add-i c =
    let loop-test = c.loop-i-test in
    let group-stored = c.group_stored-n in
    let args = c.args in
    let pre = c.requires in
    let f = group_len_le args.p args.w.base in omega (arith, f, group-stored.ensures.upper_bound, loop-test.true, (ranged args.p pre.p_value).group_high)

pub enter-requires : goal.enter-requires
enter-requires c =
    let loop-test = c.loop-i-test in
    let loop = c.loop-i in
    let group-stored = c.group_stored-n in
    let args = c.args in
    let pre = c.requires in
    let f = group_len_le args.p args.w.base in
    record {
      p_value = pre.p_value;
      at_len = (
        loop.invariant.1,
        pre.at_len.1,
        pre.at_len.3,
        omega
            (arith, f, group-stored.ensures.upper_bound, loop-test.true, (ranged args.p pre.p_value).group_high),
      );
    }

pub shape_of-at-then-not-enter : goal.shape_of-at-then-not-enter
shape_of-at-then-not-enter c =
    let loop = c.loop-i in
    let pre = c.requires in
    c.enter.auto.at ∙ loop.invariant.1 ∙ sym pre.at_len.0

pub returns-then-not-enter : goal.returns-then-not-enter
returns-then-not-enter c =
    let a = c.args in
    let enter = c.enter in
    let record_of = c.record_of-r in
    let loop-test = c.loop-i-test in
    let loop = c.loop-i in
    let zone_on_holds = c.zone_on-zone in
    let group-stored = c.group_stored-n in
    let pre = c.requires in
    let p = a.p in
    let w = a.w in
    let im = a.image.now in
    let ps = a.pointers.now in
    let d = a.drive in
    let q = pre.at_len in
    let i = loop.i in
    let r = rec_val record_of.result in
    let g : 0 < p.G = omega (arith, (ranged a.p pre.p_value).group-low) in
    let t : enter.result ≡ false = not-true enter.result c.if-not-enter.true-raw in
    let z : enter.new.at ≡ loop.at = enter.ensures.at_after ∙ cond_false enter.result (set loop.at (256 * d + (record_of.result.stripe - w.base)) (i + 1)) loop.at t in record {
      by_index_2 = (λ off full. let rs = group_recs p w.base (recs_on (segment_in p off im ps w) d) in
          let n : group-stored.result ≡ length rs = group-stored.ensures.by_index off im pre.whole.image_long q.5 in
          let h : i < length rs = omega (arith, n, loop-test.true) in
          let l : length rs ≤ group_len p w.base = omega (arith, n, group-stored.ensures.upper_bound) in
          let e : r ≡ get_or rs i (mk_rec 0 0 0) = record_of.ensures off ps pre.whole.pointers_long
          ∙ (λ j. record_in p (full j) (zone_at (view_of p off im ps) d (zone_on_holds.ensures j)) (w.base + i))
          ∙ group_record p (view_of p off im ps) w.gone w.seg w.base d i q.1 q.5 h in
          sym (ap not (entering_bad p d w.base rs a.at.now loop.at i (loop.invariant.3 off full) h g q.3 q.4 l r e (sym enter.ensures.value ∙ t))));
      same_below = (λ j k. ap (λ (x : List ℕ). get_or x j 0) z ∙ loop.invariant.2 j k);
      by_index_3 = λ off full t. absurd (not_both false t refl);
    }

pub loop-i-preserved : goal.loop-i-preserved
loop-i-preserved c =
    let a = c.args in
    let enter = c.enter in
    let if1 = c.if-stored_bad in
    let stored-bad = c.stored_bad in
    let record_of = c.record_of-r in
    let loop-test = c.loop-i-test in
    let loop = c.loop-i in
    let zone_on_holds = c.zone_on-zone in
    let group-stored = c.group_stored-n in
    let pre = c.requires in
    let p = a.p in
    let w = a.w in
    let im = a.image.now in
    let ps = a.pointers.now in
    let d = a.drive in
    let q = pre.at_len in
    let i = loop.i in
    let r = rec_val record_of.result in
    let g : 0 < p.G = omega (arith, (ranged a.p pre.p_value).group-low) in
    let t : enter.result ≡ true = not-false enter.result c.if-not-enter.false-raw in
    let f = group_len_le p w.base in
    let z : enter.new.at ≡ set loop.at (256 * d + (record_of.result.stripe - w.base)) (i + 1) =
    enter.ensures.at_after ∙ cond_true enter.result (set loop.at (256 * d + (record_of.result.stripe - w.base)) (i + 1)) loop.at t in (
      omega (arith, loop-test.true),
      enter.auto.at ∙ loop.invariant.1,
      subst (SameBelow d a.at.now) (sym z) (below_set d a.at.now loop.at (256 * d + (record_of.result.stripe - w.base)) (i + 1) loop.invariant.2 (omega arith)),
      λ off full. let rs = group_recs p w.base (recs_on (segment_in p off im ps w) d) in
          let n : group-stored.result ≡ length rs = group-stored.ensures.by_index off im pre.whole.image_long q.5 in
          let h : i < length rs = omega (arith, n, loop-test.true) in
          let l : length rs ≤ group_len p w.base = omega (arith, n, group-stored.ensures.upper_bound) in
          let e : r ≡ get_or rs i (mk_rec 0 0 0) = record_of.ensures off ps pre.whole.pointers_long
          ∙ (λ j. record_in p (full j) (zone_at (view_of p off im ps) d (zone_on_holds.ensures j)) (w.base + i))
          ∙ group_record p (view_of p off im ps) w.gone w.seg w.base d i q.1 q.5 h in
          subst (λ (x : List ℕ). Entering p d w.base rs a.at.now x (i + 1)) (sym z)
          (entering_next p d w.base rs a.at.now loop.at i (loop.invariant.3 off full) h g q.3 q.4 l r e
          (omega (arith, q.1, (ranged a.p pre.p_value).drives_high)) (omega (arith, f, (ranged a.p pre.p_value).group_high))
          (sym stored-bad.ensures ∙ if1.false) (sym enter.ensures.value ∙ t)),
    )

pub shape_of-at : goal.shape_of-at
shape_of-at c =
    let pre = c.requires in
    c.loop-i.invariant.1 ∙ sym pre.at_len.0

pub returns : goal.returns
returns c =
    let a = c.args in
    let group-stored = c.group_stored-n in
    let pre = c.requires in
    let p = a.p in
    let w = a.w in
    let im = a.image.now in
    let ps = a.pointers.now in
    let d = a.drive in
    let q = pre.at_len in
    let rs : List ℕ → List Rec = λ off. group_recs p w.base (recs_on (segment_in p off im ps w) d) in
    let y : (off : List ℕ) → w.full ≡ sealed_in p (view_of p off im ps) w.gone w.seg → (recs_bad p d w.base (rs off) ≡ false) × Row p w.base (rs off) d c.loop-i.at =
    λ off full. let n : group-stored.result ≡ length (rs off) = group-stored.ensures.by_index off im pre.whole.image_long q.5 in
    entering_end p d w.base (rs off) a.at.now c.loop-i.at c.loop-i.i (c.loop-i.invariant.3 off full) (omega (arith, n, c.loop-i-test.false)) in
    record { by_index_2 = (λ off full. sym (ap not (y off full).0)); same_below = c.loop-i.invariant.2; by_index_3 = λ off full t. (y off full).1 }
