-- `block_on`: of a missing drive nothing is asked; else the block begins where `block_byte` says (`block_begins`). Assumes nothing.
use mathlib.Core.Path.{◌≡◌, sym, ◌∙◌}
use mathlib.Core.Bool.{true, false}
use native.Mathlib.Omega.{arith}
use Rattle.spec.specs.Lists.{is_in}
use Rattle.law_basic.specs.Geometry.{ranged, data_below}
use Rattle.law_basic.specs.Ranges.{not_both}
use Rattle.law_basic.specs.Segs.{low_zone}
use Rattle.call_read.specs.Decode.{block_begins}
use Rattle.call_read.proofs.block_on.Goals as goal

pub returns-then-has_drive : goal.returns-then-has_drive
returns-then-has_drive c =
    let a = c.args in
    let t : is_in a.gone a.drive ≡ true = sym c.has_drive.ensures ∙ c.if-has_drive.true in
    λ im h e. absurd (not_both (is_in a.gone a.drive) t e)

pub overflow_add-o : goal.overflow_add-o
overflow_add-o c =
    omega (arith, c.requires.drive_lt_n.2, (ranged c.args.p c.requires.p_value).stripes_high)

pub block_byte-requires : goal.block_byte-requires
block_byte-requires c =
    let a = c.args in
    let q = c.requires in
    let n : is_in a.gone a.drive ≡ false = sym c.has_drive.ensures ∙ c.if-has_drive.false in record {
      p_value = q.p_value;
      drive_lt_n = (
        q.drive_lt_n.0,
        rw c.zone_on-zone.ensures (low_zone a.p a.gone a.segment a.drive q.drive_lt_n.1 q.drive_lt_n.0 n),
        data_below a.p (ranged a.p q.p_value) _ (omega (arith, q.drive_lt_n.2)),
      );
    }

pub returns : goal.returns
returns c =
    let a = c.args in
    let q = c.requires in
    let zone = c.zone_on-zone in
    λ im h n. block_begins a.p im a.segment a.drive a.o c.block_byte.result q.p_value h q.drive_lt_n.0
    (low_zone a.p a.gone a.segment a.drive q.drive_lt_n.1 q.drive_lt_n.0 n) q.drive_lt_n.2 zone.result zone.ensures c.block_byte.ensures.0 c.block_byte.ensures.1
