-- `is_ragged`: counted equal to S, or another top, settles `ragged_by`; else what is left is whether part is not 0 (`ragged_last`). Assumes nothing.
use Rattle.recover_check.specs.Faults.{ragged_by}
use Rattle.call_restart.specs.Order.{ragged_last}
use borrow.Author.Tests.{eq-eqb, ne_eqb}
use Rattle.call_restart.proofs.is_ragged.Goals as goal

pub returns-then-e-p : goal.returns-then-e-p
unfolding ragged_by
returns-then-e-p c = simp (eq-eqb _ _ c.if-e-p.true)

pub returns-then-e : goal.returns-then-e
unfolding ragged_by
returns-then-e c = simp (ne_eqb _ _ c.if-e-p.false, ne_eqb _ _ c.if-e.true)

pub returns : goal.returns
returns c =
    let args = c.args in
    ragged_last args.p args.e c.if-e-p.false c.if-e.false
