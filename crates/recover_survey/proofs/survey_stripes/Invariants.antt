-- `survey_stripes`: the tally is of the stripes below base + k; one turn adds stripe k, and counted and loose are at most base + k. Assumes nothing.
use mathlib.Core.Path.{◌≡◌}
use mathlib.Core.Bool.{false}
use mathlib.Core.List.{List}
use Prim.Native.Nat.{ℕ, ◌+◌, ◌≤◌}
use Rattle.recover_groups.specs.Groups.{segment_in}
use Rattle.recover_survey.specs.Stripes.{Shown, Tallied}
use Rattle.recover_survey.proofs.survey_stripes.Given as goal

abbrev pub invariant-loop-k : goal.invariant-loop-k
invariant-loop-k l =
    (l.k ≤ l.len) × (l.next.counted ≤ l.w.base + l.k) × (l.next.loose ≤ l.w.base + l.k) × (l.next.bad ≡ false → l.initial.next.bad ≡ false)
    × ((off ps : List ℕ) → Shown l.p off l.image ps l.w l.at → Tallied l.p l.w.gone (segment_in l.p off l.image ps l.w) l.w.base l.initial.next
    → Tallied l.p l.w.gone (segment_in l.p off l.image ps l.w) (l.w.base + l.k) l.next)
