-- `rows`: the rows of the drives below d are said (`RowsSaid`); one turn puts the row of drive d in its place. Assumes nothing.
use mathlib.Core.Path.{refl, ap, ◌∙◌}
use mathlib.Core.List.{[]}
use mathlib.Core.Bool.{Bool, cond}
use native.Mathlib.Omega.{arith}
use Rattle.spec.specs.Bytes.{splice}
use Rattle.spec.specs.Drives.{view_of, zone_at, zone_on}
use Rattle.spec.specs.Lists.{is_in}
use Rattle.spec.specs.Memory.{compact_at}
use Rattle.spec.specs.Segments.{records_in, compact_row}
use Rattle.recover_compact.specs.Compacts.{rows_start, rows_turn}
use Rattle.recover_compact.proofs.rows.Goals as goal

pub is_sealed-full-requires : goal.is_sealed-full-requires
is_sealed-full-requires c = record { p_value = c.requires.p_value; pointers_len = (c.requires.whole.pointers_long, c.requires.compact_len.1) }

pub loop-d-init : goal.loop-d-init
loop-d-init c =
    let a = c.args in
    (omega arith, refl, λ off. rows_start a.p (view_of a.p off a.image.now a.pointers.now) a.gone a.segment a.compact.now)

pub row_any-requires : goal.row_any-requires
row_any-requires c =
    let loop = c.loop-d in record {
      p_value = c.requires.p_value;
      whole = c.requires.whole;
      compact_len =
          (loop.invariant.1 ∙ c.requires.compact_len.0, c.loop-d-test.true, c.requires.compact_len.1);
    }

pub loop-d-preserved : goal.loop-d-preserved
loop-d-preserved c =
    let x = c.row_any in
    let l = c.loop-d in
    let is-sealed = c.is_sealed-full in
    let if1 = c.loop-d-test in
    let a = c.args in
    let p = a.p in
    let s = is-sealed.ensures in (
      omega (arith, if1.true),
      x.auto.compact ∙ l.invariant.1,
      λ off. let v = view_of p off a.image.now a.pointers.now in
          rows_turn p v a.gone a.segment l.d a.compact.now l.compact x.new.compact if1.true c.requires.compact_len.1 (l.invariant.1 ∙ c.requires.compact_len.0) (l.invariant.2 off)
          (x.ensures off
          ∙ ap (λ (w : Bool). cond (is_in a.gone l.d) l.compact
          (splice l.compact (compact_at p l.d (zone_on a.segment l.d) 0) (compact_row p (records_in p w (zone_at v l.d (zone_on a.segment l.d))))))
          (s off a.image.now c.requires.whole.image_long)),
    )

pub shape_of-compact : goal.shape_of-compact
shape_of-compact c = c.loop-d.invariant.1

pub returns : goal.returns
returns c =
    let l = c.loop-d in record { by_index = (λ off d o hd hp ho. (l.invariant.2 off).said d o (omega (arith, hd, c.loop-d-test.false)) hd hp ho); fact = (l.invariant.2 []).others }
