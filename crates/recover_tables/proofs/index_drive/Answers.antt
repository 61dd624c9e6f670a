-- Entry by entry: each offset below the pointer is entered where the table says; the law entered has that step, all-entered the end.
use mathlib.Core.Path.{◌≡◌, sym, ◌∙◌, subst}
use Prim.Native.Nat.{ℕ, ◌+◌, ◌*◌}
use native.Mathlib.Omega.{arith}
use lib.ListN.{length, set, length-set}
use Rattle.spec.specs.Segments.{recs_on}
use Rattle.recover_groups.specs.Bases.{group_len_le}
use Rattle.recover_groups.specs.Entering.{Entering, entering_start}
use Rattle.recover_groups.specs.Groups.{group_recs, segment_in}
use Rattle.law_basic.specs.Geometry.{ranged}
use Rattle.recover_tables.specs.Index.{index_entered, all-entered}
use Rattle.law_basic.specs.Segs.{low_zone}
use Rattle.recover_tables.proofs.index_drive.Goals as goal

pub group_stored-n-requires : goal.group_stored-n-requires
group_stored-n-requires c =
    let a = c.args in
    let q = c.requires in
    let h = q.drive_lt_n in record { p_value = q.p_value; pointers_len = (q.pointers_len.0, h.0, low_zone a.p a.w.gone a.w.seg a.drive h.1 h.0 h.4, h.2) }

pub loop-i-init : goal.loop-i-init
loop-i-init c =
    let a = c.args in
    let q = c.requires in
    let p = a.p in
    let w = a.w in
    let ps = a.pointers.now in (
      omega arith,
      q.pointers_len.2,
      λ off im G m sh. entering_start p a.drive w.base (group_recs p w.base (recs_on (segment_in p off im ps w) a.drive)) a.at.now q.pointers_len.2 q.by_index,
    )

pub overflow_mul-j : goal.overflow_mul-j
overflow_mul-j c =
    omega (arith, (ranged c.args.p c.requires.p_value).drives_high, c.requires.drive_lt_n.0)

pub entry_at-requires : goal.entry_at-requires
entry_at-requires c =
    let a = c.args in
    let q = c.requires in
    let h = q.drive_lt_n in
    let z = low_zone a.p a.w.gone a.w.seg a.drive h.1 h.0 h.4 in
    record { p_value = q.p_value; compact_len = (q.pointers_len.1, h.0, z, h.2, omega (arith, c.loop-i-test.true, c.group_stored-n.ensures.upper_bound)) }

pub overflow_add-j : goal.overflow_add-j
overflow_add-j c =
    omega (arith, (ranged c.args.p c.requires.p_value).drives_high, c.requires.drive_lt_n.0, c.entry_at.ensures.1)

pub overflow_add-at : goal.overflow_add-at
overflow_add-at c =
    let r = ranged c.args.p c.requires.p_value in
    omega (arith, c.loop-i-test.true, c.group_stored-n.ensures.upper_bound, group_len_le c.args.p c.args.w.base, r.group_high)

pub overflow_cast-at : goal.overflow_cast-at
overflow_cast-at c =
    let r = ranged c.args.p c.requires.p_value in
    omega (arith, c.loop-i-test.true, c.group_stored-n.ensures.upper_bound, group_len_le c.args.p c.args.w.base, r.group_high)

pub offset_bounds-at-j : goal.offset_bounds-at-j
offset_bounds-at-j c =
    omega (arith, (ranged c.args.p c.requires.p_value).drives_high, c.requires.drive_lt_n.0, c.entry_at.ensures.1)

pub bounds-at-j : goal.bounds-at-j
bounds-at-j c =
    omega (arith, (ranged c.args.p c.requires.p_value).drives_high, c.requires.drive_lt_n.0, c.entry_at.ensures.1, c.loop-i.invariant.1)

pub loop-i-preserved : goal.loop-i-preserved
loop-i-preserved c =
    let l = c.loop-i in
    let group-stored = c.group_stored-n in
    let a = c.args in
    let q = c.requires in
    let h = q.drive_lt_n in
    let p = a.p in
    let w = a.w in
    let ps = a.pointers.now in
    let r = ranged p q.p_value in (
      omega (arith, c.loop-i-test.true),
      length-set l.at (256 * a.drive + c.entry_at.result) (l.i + 1) ∙ l.invariant.1,
      λ off im G m sh.
          let rs = group_recs p w.base (recs_on (segment_in p off im ps w) a.drive) in
          let n : group-stored.result ≡ length rs = group-stored.ensures.by_index off im G.whole.image_long h.4 in
          subst (λ (x : ℕ). Entering p a.drive w.base rs a.at.now (set l.at (256 * a.drive + x) (l.i + 1)) (l.i + 1)) (sym c.entry_at.ensures.0)
          (index_entered p r off im ps w.gone a.compact.now G w.seg w.base a.drive m sh h.0 h.4 h.2 h.3 a.at.now l.at l.i (l.invariant.2 off im G m sh)
          (omega (arith, n, c.loop-i-test.true))),
    )

pub shape_of-at : goal.shape_of-at
shape_of-at c =
    let pre = c.requires in
    c.loop-i.invariant.1 ∙ sym pre.pointers_len.2

pub returns : goal.returns
returns c =
    let group-stored = c.group_stored-n in
    let a = c.args in
    let q = c.requires in
    let h = q.drive_lt_n in
    let l = c.loop-i in
    let p = a.p in
    let w = a.w in
    let ps = a.pointers.now in
    let r = ranged p q.p_value in
    λ off im G m sh.
    let rs = group_recs p w.base (recs_on (segment_in p off im ps w) a.drive) in
    let n : group-stored.result ≡ length rs = group-stored.ensures.by_index off im G.whole.image_long h.4 in
    all-entered p r off im ps w.gone a.compact.now G w.seg w.base a.drive m sh h.0 h.4 h.2 h.3 a.at.now l.at l.i (l.invariant.2 off im G m sh)
    (omega (arith, n, c.loop-i-test.false))
