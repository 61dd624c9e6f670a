-- `is_sealed_at`: a row that is not kept is not sealed; else its segment is asked. Assumes nothing.
use Rattle.disk_gather.specs.Owners.{row_seg}
use Rattle.law_basic.specs.Geometry.{ranged}
use Rattle.law_basic.specs.Segs.{ZonesLow}
use Rattle.spec.specs.Drives.{view_of, sealed_in}
use Rattle.spec.specs.declared.Seg.{Seg}
use borrow.Author.Tests.{not-true, not-false}
use lib.ListN.{get_or}
use mathlib.Core.Bool.{Bool, false, ◌&&◌}
use mathlib.Core.Path.{sym, ap, ap₂, ◌∙◌, subst}
use native.Mathlib.Omega.{arith}
use Rattle.call_reclaim_live.proofs.is_sealed_at.Goals as goal

pub bounds-kept-g : goal.bounds-kept-g
bounds-kept-g c = omega (arith, c.requires.pointers_len)

pub returns-then-not-kept-g : goal.returns-then-not-kept-g
returns-then-not-kept-g c =
    let a = c.args in
    λ off im h. sym (ap (λ (b : Bool). b && sealed_in a.p (view_of a.p off im a.pointers.now) 0 (row_seg a.rows.now a.g)) (not-true (get_or a.kept.now a.g false) c.if-not-kept-g.true-raw))

pub row-segment-requires : goal.row-segment-requires
row-segment-requires c =
    (omega (arith, c.requires.pointers_len), omega (arith, c.requires.pointers_len, (ranged c.args.p c.requires.p_value).zones_high))

pub is_sealed-requires : goal.is_sealed-requires
is_sealed-requires c = record {
  p_value = c.requires.p_value;
  pointers_len = (
    c.requires.pointers_len.0,
    subst (λ (s : Seg). ZonesLow c.args.p 0 s) (sym c.row-segment.ensures)
        (c.requires.pointers_len.3 c.args.g c.requires.pointers_len.4 (not-false (get_or c.args.kept.now c.args.g false) c.if-not-kept-g.false-raw)),
  );
}

pub returns : goal.returns
returns c =
    let a = c.args in
    λ off im h. c.is_sealed.ensures off im h
    ∙ ap₂ (λ (b : Bool) (s : Seg). b && sealed_in a.p (view_of a.p off im a.pointers.now) 0 s) (sym (not-false (get_or a.kept.now a.g false) c.if-not-kept-g.false-raw)) c.row-segment.ensures
