-- `missing_in`: fewer than two bytes decode to 0 (`missing_short`); else the mask is byte 1 (`missing_long`). Assumes nothing.
use Rattle.api_answers.specs.Numbers.{missing_short, missing_long}
use native.Mathlib.Omega.{arith}
use Rattle.api_answers.proofs.missing_in.Goals as goal

pub returns-then-state-lt2 : goal.returns-then-state-lt2
returns-then-state-lt2 c = missing_short c.args.state.now c.if-state-lt2.true

pub returns : goal.returns
returns c = missing_long c.args.state.now (omega (arith, c.if-state-lt2.false))
