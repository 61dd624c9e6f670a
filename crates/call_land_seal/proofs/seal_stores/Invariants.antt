-- `seal_stores`: after d drives their footers are stored and left is the count less these; the next zone is untouched, so its room is there. Assumes nothing.
use mathlib.Core.List.{List}
use Prim.Native.Nat.{ℕ}
use Rattle.spec.specs.Drives.{mk_disk}
use Rattle.spec.specs.Params.{footers}
use Rattle.call_land_seal.specs.Feet.{Sealing}
use mathlib.Core.Path.{◌≡◌}
use Rattle.call_land_seal.proofs.seal_stores.Given as goal

abbrev pub invariant-loop-d : goal.invariant-loop-d
invariant-loop-d l =
    (l.n ≡ footers l.p) × ((off : List ℕ) → Sealing l.p off (mk_disk l.initial.image l.initial.pointers) l.segment l.count l.d l.left (mk_disk l.image l.pointers))
