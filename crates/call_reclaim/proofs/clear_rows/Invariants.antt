-- `clear_rows`: clearing the rows of drives d on in the table so far gives what clearing all gives; a turn clears drive d's (`cleared_turn`). Assumes nothing.
use Prim.Native.Nat.{◌-◌}
use Rattle.spec.specs.Lists.{up_from}
use Rattle.spec.specs.Params.{drives_of}
use Rattle.spec.specs.Reclaim.{cleared}
use mathlib.Core.Path.{◌≡◌}
use Rattle.call_reclaim.proofs.clear_rows.Given as goal

abbrev pub invariant-loop-d : goal.invariant-loop-d
invariant-loop-d l =
    cleared l.p l.segment (up_from l.d (l.p.N - l.d)) l.compact ≡ cleared l.p l.segment (drives_of l.p) l.initial.compact
