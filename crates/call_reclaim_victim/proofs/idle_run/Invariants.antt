-- `idle_run`: found is right below q; a turn skips to the next mark (`run_skip`) and takes it (`idle-step`); `run_other` if not mine. Assumes nothing.
use Rattle.spec.specs.Memory.{state_of}
use Prim.Native.Nat.{ℕ, ◌-◌, ◌≤◌, ◌<◌}
use Rattle.call_reclaim_live.specs.Live.{in_seg}
use Rattle.spec.specs.Drives.{view_of}
use Rattle.mem_marks.specs.Marks.{Marks}
use Rattle.call_reclaim_victim.specs.Waiting.{IdleBelow}
use mathlib.Core.List.{List}
use mathlib.Core.Path.{◌≡◌}
use Rattle.call_reclaim_victim.proofs.idle_run.Given as goal

abbrev pub invariant-loop-q : goal.invariant-loop-q
invariant-loop-q l =
    (l.lo ≤ l.q)
    × (l.q ≤ l.hi)
    × ((off tb : List ℕ)
    → Marks tb l.p.L l.marks l.first l.hi
    → ((x : ℕ) → l.lo ≤ x → x < l.hi → in_seg l.p l.segment x ≡ l.mine)
    → IdleBelow l.p (view_of l.p off l.image l.pointers) (state_of l.bytes) l.segment tb l.lo l.initial.found
    → IdleBelow l.p (view_of l.p off l.image l.pointers) (state_of l.bytes) l.segment tb l.q l.found)

abbrev pub decreases-loop-q : goal.decreases-loop-q
decreases-loop-q l = l.hi - l.q
