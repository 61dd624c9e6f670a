-- `fewest`: best is the lowest of the sealed segments below g with the least count; a turn weighs g (`least_turn`). Assumes nothing.
use Rattle.std.specs.Prelude.{◌<◌, unwrap_or, IfSome}
use Rattle.call_reclaim_live.specs.Least.{Least}
use Rattle.call_reclaim_live.proofs.fewest.Given as goal

abbrev pub invariant-loop-g : goal.invariant-loop-g
invariant-loop-g l = Least l.p l.sealed l.live l.g (unwrap_or l.best l.p.Z) × IfSome l.best (λ b. b < l.p.Z)
