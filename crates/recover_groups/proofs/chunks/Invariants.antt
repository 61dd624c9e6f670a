-- `chunks`: n and the number of drives with the chunk from d on are that of all; a drive that has it adds 1 to n, and n is at most d. Assumes nothing.
use mathlib.Core.Path.{◌≡◌}
use Prim.Native.Nat.{ℕ, ◌+◌, ◌-◌, ◌≤◌, ◌<◌}
use lib.ListN.{length}
use Rattle.spec.specs.Lists.{up_from, below, keep}
use Rattle.spec.specs.Segments.{Segment, has_chunk}
use Rattle.recover_groups.specs.Groups.{group_len, Indexed}
use Rattle.recover_groups.proofs.chunks.Given as goal

abbrev pub invariant-loop-d : goal.invariant-loop-d
invariant-loop-d l =
    (l.d ≤ l.fn.p.N)
    × (l.n ≤ l.d)
    × ((g : Segment) (base : ℕ)
    → Indexed l.fn.p g base l.at
    → l.k < group_len l.fn.p base
    → l.n + length (keep (has_chunk g (base + l.k)) (up_from l.d (l.fn.p.N - l.d))) ≡ length (keep (has_chunk g (base + l.k)) (below l.fn.p.N)))
