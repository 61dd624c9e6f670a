-- `load_segment`: one not kept tells nothing, by `toured_miss`; the rows of one that is kept are said, so what is told below is found again (`row_told`), and it is
-- walked whole, by `row_toured`; the open one's count is next. Assumes nothing.
use mathlib.Core.Path.{◌≡◌, sym, ◌∙◌}
use mathlib.Core.Bool.{true, false, ◌&&◌}
use native.Mathlib.Omega.{arith}
use borrow.Author.Tests.{eq-eqb, ne_eqb, not-true, not-false}
use lib.Dec.{eqb}
use lib.ListN.{length}
use Rattle.spec.specs.Drives.{View, view_of}
use Rattle.spec.specs.Segments.{segment_of, counted}
use Rattle.law_basic.specs.Geometry.{ranged}
use Rattle.law_basic.specs.Ranges.{and_both}
use Rattle.law_drives.specs.Tables.{seg_at, remains_at}
use Rattle.law_drives.specs.Tests.{and_false_left, and_false_right, cond_true, cond_false}
use Rattle.recover_tables.specs.Head.{row_remains, head_row_low, head_row_serial, row_told, row_toured}
use Rattle.recover_tables.specs.Walk.{toured_miss}
use Rattle.recover_tables.proofs.load_segment.Goals as goal

pub returns-then-not-kept : goal.returns-then-not-kept
returns-then-not-kept c =
    let a = c.args in
    let q = c.requires in
    let v : View = view_of a.p a.offline.now a.image.now a.pointers.now in
    let e : a.kept ≡ false = not-true a.kept c.if-not-kept.true-raw in record {
      toured_2 = toured_miss a.p v a.gone q.ground.here a.z a.compact.now a.addresses.now a.h.stamp.0 q.toured.0 (sym q.z_lt_z.1 ∙ e);
      next_value = sym (cond_false (a.kept && eqb a.z a.opened) (length (counted a.p a.gone (segment_of a.p v a.gone (seg_at a.p v a.gone a.z)))) a.h.next
          (and_false_left a.kept (eqb a.z a.opened) e));
    }

pub row-segment-requires : goal.row-segment-requires
row-segment-requires c =
    let a = c.args in
    let q = c.requires in
    let r = ranged a.p q.ground.in_range_holds in
    (omega (arith, q.gathered.rows_are.0, q.z_lt_z.0), omega (arith, q.z_lt_z.0, r.zones_high))

pub rows-requires : goal.rows-requires
rows-requires c =
    let a = c.args in
    let q = c.requires in
    let v : View = view_of a.p a.offline.now a.image.now a.pointers.now in
    let e : remains_at a.p v a.gone a.z ≡ true = sym q.z_lt_z.1 ∙ not-false a.kept c.if-not-kept.false-raw in
    let w = c.row-segment in record {
      p_value = q.ground.in_range_holds;
      whole = q.ground.whole;
      compact_len = (
        q.ground.compact_long,
        head_row_low a.p v a.gone q.ground.here a.rows.now a.serials.now a.owners.now q.gathered a.z q.z_lt_z.0 e w.result w.ensures,
      );
    }

pub offset_bounds-serials-z : goal.offset_bounds-serials-z
offset_bounds-serials-z c =
    let a = c.args in
    let q = c.requires in
    omega (arith, q.z_lt_z.0, (ranged a.p q.ground.in_range_holds).zones_high)

pub bounds-serials-z : goal.bounds-serials-z
bounds-serials-z c =
    let a = c.args in
    let q = c.requires in
    omega (arith, q.z_lt_z.0, q.gathered.serials_are.0, (ranged a.p q.ground.in_range_holds).zones_high)

pub load_groups-t-requires : goal.load_groups-t-requires
load_groups-t-requires c =
    let a = c.args in
    let q = c.requires in
    let v : View = view_of a.p a.offline.now a.image.now a.pointers.now in
    let x = c.rows in
    let w = c.row-segment in
    let g = w.result in
    let e : remains_at a.p v a.gone a.z ≡ true = sym q.z_lt_z.1 ∙ not-false a.kept c.if-not-kept.false-raw in
    let co = x.new.compact in
    let sh = x.ensures.by_index a.offline.now in record {
      ground = record {
        in_range_holds = q.ground.in_range_holds;
        whole = q.ground.whole;
        here = q.ground.here;
        apart = q.ground.apart;
        clean = q.ground.clean;
        compact_long = x.auto.compact ∙ q.ground.compact_long;
      };
      gathered = (q.gathered, head_row_serial a.p v a.gone q.ground.here a.rows.now a.serials.now a.owners.now q.gathered a.z q.z_lt_z.0 e g w.ensures);
      fact = (row_remains a.p v a.gone q.ground.here a.rows.now a.serials.now a.owners.now q.gathered a.z q.z_lt_z.0 e g w.ensures, sh);
      known = (
        row_told a.p v a.gone q.ground.here a.rows.now a.serials.now a.owners.now q.gathered a.z q.z_lt_z.0 e g w.ensures a.compact.now co
            a.addresses.now a.h.stamp.0 q.toured.0 sh x.ensures.fact,
        q.toured.1,
      );
    }

pub shape_of-addresses-then-z-opened : goal.shape_of-addresses-then-z-opened
shape_of-addresses-then-z-opened c = c.load_groups-t.auto.addresses

pub shape_of-compact-then-z-opened : goal.shape_of-compact-then-z-opened
shape_of-compact-then-z-opened c = c.rows.auto.compact

pub shape_of-at-then-z-opened : goal.shape_of-at-then-z-opened
shape_of-at-then-z-opened c = c.load_groups-t.auto.at

pub returns-then-z-opened : goal.returns-then-z-opened
returns-then-z-opened c =
    let a = c.args in
    let q = c.requires in
    let v : View = view_of a.p a.offline.now a.image.now a.pointers.now in
    let x = c.rows in
    let w = c.row-segment in
    let r = c.load_groups-t in
    let k : a.kept ≡ true = not-false a.kept c.if-not-kept.false-raw in
    let n = length (counted a.p a.gone (segment_of a.p v a.gone (seg_at a.p v a.gone a.z))) in
    let t = row_toured a.p v a.gone q.ground.here a.rows.now a.serials.now a.owners.now q.gathered a.z q.z_lt_z.0 (sym q.z_lt_z.1 ∙ k) w.result w.ensures
    a.compact.now x.new.compact a.addresses.now a.h.stamp.0 q.toured.0 (x.ensures.by_index a.offline.now) x.ensures.fact x.auto.compact
    r.new.addresses r.result.stamp.0 r.result.counted r.ensures in
    record { toured_2 = t.0; next_value = t.1 ∙ sym (cond_true (a.kept && eqb a.z a.opened) n a.h.next (and_both a.kept (eqb a.z a.opened) k (eq-eqb a.z a.opened c.if-z-opened.true))) }

pub shape_of-addresses : goal.shape_of-addresses
shape_of-addresses c = c.load_groups-t.auto.addresses

pub shape_of-compact : goal.shape_of-compact
shape_of-compact c = c.rows.auto.compact

pub shape_of-at : goal.shape_of-at
shape_of-at c = c.load_groups-t.auto.at

pub returns : goal.returns
returns c =
    let a = c.args in
    let q = c.requires in
    let v : View = view_of a.p a.offline.now a.image.now a.pointers.now in
    let x = c.rows in
    let w = c.row-segment in
    let r = c.load_groups-t in
    let k : a.kept ≡ true = not-false a.kept c.if-not-kept.false-raw in
    let n = length (counted a.p a.gone (segment_of a.p v a.gone (seg_at a.p v a.gone a.z))) in
    let t = row_toured a.p v a.gone q.ground.here a.rows.now a.serials.now a.owners.now q.gathered a.z q.z_lt_z.0 (sym q.z_lt_z.1 ∙ k) w.result w.ensures
    a.compact.now x.new.compact a.addresses.now a.h.stamp.0 q.toured.0 (x.ensures.by_index a.offline.now) x.ensures.fact x.auto.compact
    r.new.addresses r.result.stamp.0 r.result.counted r.ensures in
    record { toured_2 = t.0; next_value = sym (cond_false (a.kept && eqb a.z a.opened) n a.h.next (and_false_right a.kept (eqb a.z a.opened) (ne_eqb a.z a.opened c.if-z-opened.false))) }
