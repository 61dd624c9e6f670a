-- `is_fewest`: all segments below g have enough; a turn adds g (`below_more`), and false promises nothing. Assumes nothing.
use Rattle.law_basic.specs.Ranges.{not_both}
use Rattle.call_reclaim_records.specs.Vouch.{Enough, below_more}
use borrow.Author.Tests.{not-false}
use mathlib.Core.Bool.{false}
use mathlib.Core.Path.{refl}
use native.Mathlib.Omega.{arith}
use Rattle.call_reclaim_records.proofs.is_fewest.Goals as goal

pub loop-g-init : goal.loop-g-init
loop-g-init c = (omega arith, λ k h. absurd (let q : ⊥ = omega arith in q))

pub is_enough-requires : goal.is_enough-requires
is_enough-requires c = record {
  p_value = c.requires.p_value;
  image_len = (c.requires.image_len.0, c.requires.image_len.1, c.loop-g-test.true, c.requires.image_len.2);
  z_in_bounds = c.requires.z_in_bounds;
}

pub returns-then-not-is_enough : goal.returns-then-not-is_enough
returns-then-not-is_enough c = λ t. absurd (not_both false t refl)

pub loop-g-preserved : goal.loop-g-preserved
loop-g-preserved c =
    let a = c.args in
    let l = c.loop-g in
    let this = c.is_enough.ensures (not-false c.is_enough.result c.if-not-is_enough.false-raw) in
    (omega (arith, c.loop-g-test.true), below_more (Enough a.p a.rows.now a.sealed.now a.addresses.now a.best a.n) l.g l.invariant.1 this)

pub returns : goal.returns
returns c =
    let l = c.loop-g in
    λ _ k h. l.invariant.1 k (omega (arith, c.loop-g-test.false, h))
