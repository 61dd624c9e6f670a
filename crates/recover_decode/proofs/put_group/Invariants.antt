-- `put_group`: what is owed are the lost chunks of the stripes from base + k on; the present drives stay, and with them the index. Assumes nothing.
use mathlib.Core.List.{List}
use Prim.Native.Nat.{ℕ}
use Rattle.spec.specs.Drives.{mk_disk}
use Rattle.recover_decode.specs.Group.{Stripes}
use Rattle.recover_decode.proofs.put_group.Given as goal

abbrev pub invariant-loop-k : goal.invariant-loop-k
invariant-loop-k l =
    (off : List ℕ) → Stripes l.p off l.w l.drive l.count (mk_disk l.initial.image l.initial.pointers) l.k l.left (mk_disk l.image l.pointers)
