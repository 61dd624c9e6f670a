-- `is_quick`: it promises nothing, only sums must fit: t is at most 245561556524880 * g, and twice the passes times L at most 320370993180. Assumes nothing.
use Prim.Native.Nat.{◌*◌, ◌≤◌}
use Rattle.call_reclaim_records.proofs.is_quick.Given as goal

abbrev pub invariant-loop-g : goal.invariant-loop-g
invariant-loop-g l = (l.g ≤ l.p.Z) × (l.t ≤ 245561556524880 * l.g)
