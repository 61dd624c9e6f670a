-- `healthy_stores`: the resets are cut or made, and leave the kept segments; then none is unsealed, or one: whole (footers), plain (nothing)
-- or ragged: rewritten into each drive's lowest free zone, empty by then, under the greatest serial + 1, which is not the last. Assumes nothing.
use Prim.Native.Nat.{suc, ◌+◌, ◌*◌, ◌<◌}
use Rattle.spec.specs.Bytes.{part}
use Rattle.spec.specs.Counts.{last_count}
use Rattle.spec.specs.Drives.{mk_disk, seg}
use Rattle.spec.specs.Segments.{segment_of}
use Rattle.law_basic.specs.Geometry.{ranged}
use Rattle.law_drives.specs.Settled.{zero_here}
use Rattle.recover_drop.specs.Dropped.{taken_drops}
use Rattle.recover_segments.specs.Kept.{kept-rows-low}
use Rattle.recover_stores.specs.Refit.{none_open, row_open, row_serial, refit_cut, refit_whole, refit_none, unsealed-low, refit_plain, feet_fit, feet_pointers, refit_feet}
use Rattle.recover_stores.specs.Refit.{serial_left, to_apart, to_empty, still_open, still_good, old_serial, moves_fit, refit-rewrite}
use Rattle.law_views.specs.Views.{seen}
use borrow.Author.Tests.{not-true, not-false}
use lib.Arith.{lt_of_le-ne}
use lib.ListN.{get_or}
use mathlib.Core.Path.{sym, ap, ◌∙◌}
use native.Mathlib.Numerals.{add-one}
use native.Mathlib.Omega.{arith}
use Rattle.disk_zones.specs.Made.{storing_exit}
use Rattle.disk_gather.specs.Ranges.{opt_first_low}
use Rattle.recover_segments.specs.Kept.{unsealed_at}
use Rattle.recover_stores.proofs.healthy_stores.Goals as goal
use Rattle.recover_stores.proofs.healthy_stores.Goals.{In-Some}

pub first_unsealed-first-requires : goal.first_unsealed-first-requires
first_unsealed-first-requires c =
    let a = c.args in
    let q = c.requires in
    let v = seen a.p a.offline.now (mk_disk a.image.now a.pointers.now) in
    record { p_value = q.p_value; pointers_len = (q.whole.0.pointers_long, kept-rows-low a.p v 0 a.rows.now a.kept.now q.keeps.1 q.keeps.0 (zero_here a.p (ranged a.p q.p_value))) }

pub drop_stores-requires : goal.drop_stores-requires
drop_stores-requires c =
    let a = c.args in
    let q = c.requires in
    let v = seen a.p a.offline.now (mk_disk a.image.now a.pointers.now) in
    record { p_value = q.p_value; whole = q.whole; drops = taken_drops a.p (ranged a.p q.p_value) v q.refit_ready.accepted a.taken.now q.serials.1.0 q.serials.1.1 }

pub returns-in_err-left : goal.returns-in_err-left
returns-in_err-left c =
    let a = c.args in
    let q = c.requires in
    let p = a.p in
    let drop = c.drop_stores in
    let r = ranged p q.p_value in
    let w = q.whole.0 in
    let sn = q.refit_ready in
    let k = mk_disk a.image.now a.pointers.now in
    let k₁ = mk_disk a.image.now drop.new.pointers in
    storing_exit c.from_residual.result c.from_residual.ensures.0 (refit_cut p r a.offline.now a.count k w sn k₁ c.in_err-left.ensures)

pub returns-in_default : goal.returns-in_default
returns-in_default c =
    let a = c.args in
    let q = c.requires in
    let p = a.p in
    let drop = c.drop_stores in
    let r = ranged p q.p_value in
    let w = q.whole.0 in
    let sn = q.refit_ready in
    let k = mk_disk a.image.now a.pointers.now in
    let k₁ = mk_disk a.image.now drop.new.pointers in
    let v = seen p a.offline.now k in
    refit_none p r a.offline.now a.count k w sn c.in_ok-left.left k₁ c.in_ok-left.ensures
    (none_open p r v a.rows.now a.kept.now q.keeps.1 q.keeps.0
    (sym (c.in_default.ensures.first a.offline.now a.image.now w.image_long q.keeps.0 q.keeps.1)))

-- the zone that is found
low : (c : In-Some) → c.in-Some.z < c.args.p.Z
low c =
    let a = c.args in
    let q = c.requires in
    opt_first_low (unsealed_at a.p (seen a.p a.offline.now (mk_disk a.image.now a.pointers.now)) 0) a.p.Z c.in-Some.z
    (sym (c.in-Some.ensures.first a.offline.now a.image.now q.whole.0.image_long q.keeps.0 q.keeps.1))

pub row-segment-requires : goal.row-segment-requires
row-segment-requires c =
    let z = (ranged c.args.p c.requires.p_value).zones_high in
    let h = low (goal.at.row-segment-requires c).In-Some in
    (omega (arith, c.requires.keeps.1.0), omega arith)

pub missing_footers-requires : goal.missing_footers-requires
missing_footers-requires c =
    let a = c.args in
    let q = c.requires in
    let p = a.p in
    let drop = c.drop_stores in
    let r = ranged p q.p_value in
    let w = q.whole.0 in
    let sn = q.refit_ready in
    let k = mk_disk a.image.now a.pointers.now in
    let k₁ = mk_disk a.image.now drop.new.pointers in
    let v = seen p a.offline.now k in
    let z = c.in-Some.z in
    let sg = seg (part (8 * z) 8 a.rows.now) in
    let found = sym (c.in-Some.ensures.first a.offline.now a.image.now w.image_long q.keeps.0 q.keeps.1) in
    let o = row_open p r v a.rows.now a.kept.now q.keeps.1 q.keeps.0 z found sn.shaped sn.accepted in
    let said = q.mend_marks (segment_of p v 0 sg) o.open_is in
    let wh = sym said.0 ∙ c.if-whole.true in rw c.row-segment.ensures (record {
      p_value = q.p_value;
      whole = refit_whole p r a.offline.now a.count k w sn c.in_ok-left.left k₁ c.in_ok-left.ensures;
      zones_low = (
        unsealed-low p r a.offline.now a.count k w sn c.in_ok-left.left k₁ c.in_ok-left.ensures sg o,
        feet_pointers p r a.offline.now a.count k w sn c.in_ok-left.left k₁ c.in_ok-left.ensures sg o wh,
      );
      by_index = feet_fit p r a.offline.now a.count k w sn c.in_ok-left.left k₁ c.in_ok-left.ensures sg o wh;
    })

pub returns-then-whole : goal.returns-then-whole
returns-then-whole c =
    let a = c.args in
    let q = c.requires in
    let p = a.p in
    let drop = c.drop_stores in
    let r = ranged p q.p_value in
    let w = q.whole.0 in
    let sn = q.refit_ready in
    let k = mk_disk a.image.now a.pointers.now in
    let k₁ = mk_disk a.image.now drop.new.pointers in
    let v = seen p a.offline.now k in
    let z = c.in-Some.z in
    let sg = seg (part (8 * z) 8 a.rows.now) in
    let found = sym (c.in-Some.ensures.first a.offline.now a.image.now w.image_long q.keeps.0 q.keeps.1) in
    let o = row_open p r v a.rows.now a.kept.now q.keeps.1 q.keeps.0 z found sn.shaped sn.accepted in
    let said = q.mend_marks (segment_of p v 0 sg) o.open_is in
    let wh = sym said.0 ∙ c.if-whole.true in
    let feet = c.missing_footers in
    refit_feet p r a.offline.now a.count k w sn c.in_ok-left.left k₁ c.in_ok-left.ensures sg o wh feet.result (mk_disk feet.new.image feet.new.pointers)
    (rw c.row-segment.ensures at (feet.ensures a.offline.now))

pub returns-then-not-ragged : goal.returns-then-not-ragged
returns-then-not-ragged c =
    let a = c.args in
    let q = c.requires in
    let p = a.p in
    let drop = c.drop_stores in
    let r = ranged p q.p_value in
    let w = q.whole.0 in
    let sn = q.refit_ready in
    let k = mk_disk a.image.now a.pointers.now in
    let k₁ = mk_disk a.image.now drop.new.pointers in
    let v = seen p a.offline.now k in
    let z = c.in-Some.z in
    let sg = seg (part (8 * z) 8 a.rows.now) in
    let found = sym (c.in-Some.ensures.first a.offline.now a.image.now w.image_long q.keeps.0 q.keeps.1) in
    let o = row_open p r v a.rows.now a.kept.now q.keeps.1 q.keeps.0 z found sn.shaped sn.accepted in
    let said = q.mend_marks (segment_of p v 0 sg) o.open_is in
    refit_plain p r a.offline.now a.count k w sn c.in_ok-left.left k₁ c.in_ok-left.ensures sg o (sym said.0 ∙ c.if-whole.false) (sym said.1 ∙ not-true a.ragged c.if-not-ragged.true-raw)

pub free_segment-to-requires : goal.free_segment-to-requires
free_segment-to-requires c =
    let q = c.requires in record { p_value = q.p_value; offline_len = (q.whole.1, q.serials.1.0) }

pub greatest_serial-most-requires : goal.greatest_serial-most-requires
greatest_serial-most-requires c =
    let q = c.requires in
    (q.keeps.0.0, q.serials.0.0)

pub overflow_add-serial : goal.overflow_add-serial
overflow_add-serial c =
    let a = c.args in
    let q = c.requires in
    let p = a.p in
    let drop = c.drop_stores in
    let r = ranged p q.p_value in
    let w = q.whole.0 in
    let sn = q.refit_ready in
    let k = mk_disk a.image.now a.pointers.now in
    let k₁ = mk_disk a.image.now drop.new.pointers in
    let v = seen p a.offline.now k in
    let z = c.in-Some.z in
    let sg = seg (part (8 * z) 8 a.rows.now) in
    let found = sym (c.in-Some.ensures.first a.offline.now a.image.now w.image_long q.keeps.0 q.keeps.1) in
    let o = row_open p r v a.rows.now a.kept.now q.keeps.1 q.keeps.0 z found sn.shaped sn.accepted in
    let said = q.mend_marks (segment_of p v 0 sg) o.open_is in
    let nw = sym said.0 ∙ c.if-whole.false in
    let rg = sym said.1 ∙ not-false a.ragged c.if-not-ragged.false-raw in
    let most = c.greatest_serial-most in
    let h : most.result.0 < last_count = lt_of_le-ne (omega (arith, c.struct_known-1.given))
    (λ x. serial_left p r a.offline.now a.count k w sn c.in_ok-left.left k₁ c.in_ok-left.ensures sg o nw rg
    (sym (most.ensures v 0 (zero_here p r) q.keeps.0 q.serials.0) ∙ x)) in
    omega arith

pub offset_bounds-serials-z : goal.offset_bounds-serials-z
offset_bounds-serials-z c =
    let h = low (goal.at.offset_bounds-serials-z c).In-Some in omega (arith, (ranged c.args.p c.requires.p_value).zones_high)

pub bounds-serials-z : goal.bounds-serials-z
bounds-serials-z c =
    let h = low (goal.at.bounds-serials-z c).In-Some in omega (arith, c.requires.serials.0.0)

pub rewrite-requires : goal.rewrite-requires
rewrite-requires c =
    let a = c.args in
    let q = c.requires in
    let p = a.p in
    let drop = c.drop_stores in
    let r = ranged p q.p_value in
    let w = q.whole.0 in
    let sn = q.refit_ready in
    let k = mk_disk a.image.now a.pointers.now in
    let k₁ = mk_disk a.image.now drop.new.pointers in
    let v = seen p a.offline.now k in
    let z = c.in-Some.z in
    let sg = seg (part (8 * z) 8 a.rows.now) in
    let found = sym (c.in-Some.ensures.first a.offline.now a.image.now w.image_long q.keeps.0 q.keeps.1) in
    let o = row_open p r v a.rows.now a.kept.now q.keeps.1 q.keeps.0 z found sn.shaped sn.accepted in
    let said = q.mend_marks (segment_of p v 0 sg) o.open_is in
    let nw = sym said.0 ∙ c.if-whole.false in
    let rg = sym said.1 ∙ not-false a.ragged c.if-not-ragged.false-raw in
    let free = c.free_segment-to in
    let to = free.result in
    let et = free.ensures.by_index a.image.now a.pointers.now 0 q.serials.1 in
    let most = c.greatest_serial-most in
    let serial = most.result.0 + 1 in
    let es = add-one most.result.0 ∙ ap suc (most.ensures v 0 (zero_here p r) q.keeps.0 q.serials.0) in
    let old = row_serial p r v a.rows.now a.kept.now q.keeps.1 q.keeps.0 z found a.serials.now q.serials.0 in rw c.row-segment.ensures (record {
      p_value = q.p_value;
      whole = refit_whole p r a.offline.now a.count k w sn c.in_ok-left.left k₁ c.in_ok-left.ensures;
      zones_low = (
        unsealed-low p r a.offline.now a.count k w sn c.in_ok-left.left k₁ c.in_ok-left.ensures sg o,
        free.ensures.zones_low,
        to_apart p r a.offline.now a.count k w sn c.in_ok-left.left k₁ c.in_ok-left.ensures sg o nw rg to et,
      );
      by_index = λ list. (
        still_open p r a.offline.now a.count k w sn c.in_ok-left.left k₁ c.in_ok-left.ensures sg o nw rg to et list,
        still_good p r a.offline.now a.count k w sn
            c.in_ok-left.left k₁ c.in_ok-left.ensures sg o nw rg to et list,
      );
      by_index_2 = (
        old_serial p r a.offline.now a.count k w sn c.in_ok-left.left k₁ c.in_ok-left.ensures sg o nw rg to et (get_or a.serials.now z 0) old,
        to_empty p r
            a.offline.now a.count k w sn c.in_ok-left.left k₁ c.in_ok-left.ensures sg o nw rg to et,
      );
      by_index_3 = moves_fit p r a.offline.now a.count k w sn c.in_ok-left.left k₁ c.in_ok-left.ensures sg o nw rg to et serial es;
    })

pub returns : goal.returns
returns c =
    let a = c.args in
    let q = c.requires in
    let p = a.p in
    let drop = c.drop_stores in
    let r = ranged p q.p_value in
    let w = q.whole.0 in
    let sn = q.refit_ready in
    let k = mk_disk a.image.now a.pointers.now in
    let k₁ = mk_disk a.image.now drop.new.pointers in
    let v = seen p a.offline.now k in
    let z = c.in-Some.z in
    let sg = seg (part (8 * z) 8 a.rows.now) in
    let found = sym (c.in-Some.ensures.first a.offline.now a.image.now w.image_long q.keeps.0 q.keeps.1) in
    let o = row_open p r v a.rows.now a.kept.now q.keeps.1 q.keeps.0 z found sn.shaped sn.accepted in
    let said = q.mend_marks (segment_of p v 0 sg) o.open_is in
    let nw = sym said.0 ∙ c.if-whole.false in
    let rg = sym said.1 ∙ not-false a.ragged c.if-not-ragged.false-raw in
    let free = c.free_segment-to in
    let to = free.result in
    let et = free.ensures.by_index a.image.now a.pointers.now 0 q.serials.1 in
    let most = c.greatest_serial-most in
    let serial = most.result.0 + 1 in
    let es = add-one most.result.0 ∙ ap suc (most.ensures v 0 (zero_here p r) q.keeps.0 q.serials.0) in
    let moved = c.rewrite in
    refit-rewrite p r a.offline.now a.count k w sn c.in_ok-left.left k₁ c.in_ok-left.ensures sg o nw rg to et serial es moved.result (mk_disk moved.new.image moved.new.pointers)
    (rw c.row-segment.ensures at (moved.ensures a.offline.now))
