-- Drive by drive: the rows of the drives below d are right; with all of them the group is indexed, since no record is at fault (seg-clean).
use mathlib.Core.Path.{sym, ◌∙◌}
use native.Mathlib.Omega.{arith}
use Rattle.spec.specs.Drives.{view_of}
use Rattle.spec.specs.Segments.{recs_on}
use Rattle.recover_groups.specs.Bases.{group_len_le}
use Rattle.recover_groups.specs.Chunks.{indexed_of}
use Rattle.recover_groups.specs.Entering.{rows_next}
use Rattle.recover_groups.specs.Groups.{group_recs, segment_in}
use Rattle.law_basic.specs.Geometry.{ranged}
use Rattle.recover_addresses.specs.Lies.{seg_clean}
use Rattle.recover_tables.proofs.index_group.Goals as goal

pub loop-d-init : goal.loop-d-init
loop-d-init c = (omega arith, c.requires.pointers_len.2, λ off im G m sh e h. absurd (let z : ⊥ = omega (arith, h) in z))

pub index_any-requires : goal.index_any-requires
index_any-requires c =
    let q = c.requires in record {
      p_value = q.p_value;
      pointers_len = (q.pointers_len.0, q.pointers_len.1, c.loop-d.invariant.1);
      drive_lt_n =
          (c.loop-d-test.true, q.zones_low.0, q.zones_low.1, q.zones_low.2);
    }

pub loop-d-preserved : goal.loop-d-preserved
loop-d-preserved c =
    let a = c.args in
    let q = c.requires in
    let l = c.loop-d in
    let index-any = c.index_any in
    let if1 = c.loop-d-test in
    let p = a.p in
    let w = a.w in (
      omega (arith, if1.true),
      index-any.auto.at ∙ l.invariant.1,
      λ off im G m sh.
          let z = index-any.ensures off im G m sh in
          rows_next p w.base l.d (λ e. group_recs p w.base (recs_on (segment_in p off im a.pointers.now w) e)) l.at index-any.new.at
          (omega (arith, group_len_le p w.base, (ranged p q.p_value).group_high)) (l.invariant.2 off im G m sh) z.0 z.1,
    )

pub shape_of-at : goal.shape_of-at
shape_of-at c =
    let pre = c.requires in
    c.loop-d.invariant.1 ∙ sym pre.pointers_len.2

pub returns : goal.returns
returns c =
    let a = c.args in
    let q = c.requires in
    let l = c.loop-d in
    let p = a.p in
    let w = a.w in
    λ off im G m sh.
    let v = view_of p off im a.pointers.now in
    indexed_of p v w.gone w.seg w.base l.at (omega (arith, (ranged p q.p_value).group-low)) q.zones_low.1 q.zones_low.2
    (seg_clean p v w.gone w.seg G.clean m)
    (λ e he. l.invariant.2 off im G m sh e (omega (arith, he, c.loop-d-test.false)))
