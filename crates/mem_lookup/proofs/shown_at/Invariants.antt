-- `shown_at`: the offsets from o on at which the table shows the stripe are all of them: a hit at o is the lowest, a miss passes on;
-- from `group_end` on no offset of the group shows it, and there is none. Assumes nothing.
-- the offsets from o on at which the table shows the stripe are all of them
use Prim.Native.Nat.{◌+◌, ◌-◌}
use Rattle.spec.specs.Lists.{up_from, keep}
use Rattle.mem_lookup.specs.Shown.{shows}
use mathlib.Core.Path.{◌≡◌}
use Rattle.mem_lookup.proofs.shown_at.Given as goal

abbrev pub invariant-loop-o : goal.invariant-loop-o
invariant-loop-o l =
    keep (shows l.fn.p l.pointer l.compact l.drive l.zone l.s) (up_from l.o (l.first + l.fn.p.G - l.o)) ≡ keep (shows l.fn.p l.pointer l.compact l.drive l.zone l.s)
    (up_from l.first (l.first + l.fn.p.G - l.first))
