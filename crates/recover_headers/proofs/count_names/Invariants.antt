-- `count_names`: the names of the drives below d are counted. Assumes nothing.
use mathlib.Core.Path.{◌≡◌}
use Prim.Native.Nat.{◌≤◌}
use lib.ListN.{length}
use Rattle.recover_headers.specs.Names.{CountedOn}
use Rattle.recover_headers.proofs.count_names.Given as goal

abbrev pub invariant-loop-d : goal.invariant-loop-d
invariant-loop-d l = (l.d ≤ l.p.N) × (length l.counts ≡ length l.initial.counts) × CountedOn l.p l.names l.d l.initial.counts l.counts
