-- `settles`: `settled`: the resets of the dropped segments fit, then the mending of the one unsealed, if any; behind them each segment
-- is as found, or is that one with its footers, or its copy. Assumes nothing.
use Rattle.law_basic.specs.Geometry.{ranged}
use Rattle.law_restart.specs.Settled.{settled}
use Rattle.law_restart.proofs.settles.Goals as goal

pub returns : goal.returns
returns c = λ p v ok. settled p (ranged p ok) v
