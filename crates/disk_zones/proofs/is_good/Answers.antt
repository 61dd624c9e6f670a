-- `is_good`: the byte stands at the zone's index in the list. Assumes nothing.
use mathlib.Core.Path.{ap}
use Prim.Native.Nat.{ℕ}
use lib.Dec.{eqb}
use lib.ListN.{get_or}
use Rattle.spec.specs.Drives.{is_good}
use Rattle.disk_zones.proofs.is_good.Goals as goal

pub returns : goal.returns
unfolding is_good
returns c = ap (λ (i : ℕ). eqb (get_or c.args.offline.now i 0) 0) c.offline_at.ensures.0
