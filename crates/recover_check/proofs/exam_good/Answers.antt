-- `exam_good`: each sum of two numbers below 2 ^ 32 fits; sealed or not picks which of them `added` takes. Assumes nothing.
use mathlib.Core.Path.{sym}
use Rattle.recover_check.specs.Faults.{added_full, added_open}
use Rattle.recover_check.proofs.exam_good.Goals as goal

pub returns-then-full : goal.returns-then-full
returns-then-full c =
    sym (added_full _ _ _ c.if-full.true)

pub returns : goal.returns
returns c =
    let if1 = c.if-full in
    sym (added_open _ _ _ if1.false)
