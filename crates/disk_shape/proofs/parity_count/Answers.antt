-- `parity_count`: the number of parities is 1. Assumes nothing.
use mathlib.Core.Path.{refl}
use native.Mathlib.Omega.{arith}
use Rattle.spec.specs.Params.{parity_count}
use Rattle.disk_shape.proofs.parity_count.Goals as goal

pub returns : goal.returns
unfolding parity_count
returns c = (refl, omega arith, omega arith)
