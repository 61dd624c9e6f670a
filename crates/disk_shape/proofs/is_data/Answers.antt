-- `is_data`: `parity_drive` is the parity's drive, and the definition compares with it. Assumes nothing.
use mathlib.Core.Path.{ap}
use mathlib.Core.Bool.{not}
use Prim.Native.Nat.{ℕ}
use lib.Dec.{eqb}
use Rattle.spec.specs.Layout.{is_data}
use Rattle.disk_shape.proofs.is_data.Goals as goal

pub returns : goal.returns
unfolding is_data
returns c = ap (λ (x : ℕ). not (eqb c.args.drive x)) c.parity_drive.ensures.0
