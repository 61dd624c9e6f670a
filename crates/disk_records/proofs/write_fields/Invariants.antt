-- `write_fields`: what remains to be written makes at each turn what all fields make of the buffer at the start (`FieldsLeft`). Assumes nothing.
use mathlib.Core.Path.{◌≡◌}
use Prim.Native.Nat.{◌+◌}
use lib.ListN.{take}
use Rattle.spec.specs.Lists.{total}
use Rattle.disk_records.specs.Header.{FieldsLeft}
use Rattle.disk_records.proofs.write_fields.Given as goal

abbrev pub invariant-loop-i : goal.invariant-loop-i
invariant-loop-i l = (l.at ≡ l.from + total (take l.i l.widths)) × FieldsLeft l.widths l.values l.from l.initial.dst l.dst l.at l.i
