-- `bears_serial`: a zone that bears it is one of those looked for (`lowest_under`). Assumes nothing.
use Rattle.disk_drives.specs.Viewed.{viewed}
use mathlib.Core.Path.{sym, ap, ◌∙◌}
use Prim.Native.Nat.{ℕ}
use lib.Dec.{ltb}
use Rattle.disk_holders.specs.Borne.{guess_borne}
use Rattle.disk_holders.proofs.bears_serial.Goals as goal

pub bears_at-requires : goal.bears_at-requires
bears_at-requires c = record { drive_lt_n = c.requires.drive_lt_n }

pub returns-then-bears_at : goal.returns-then-bears_at
returns-then-bears_at c =
    let a = c.args in
    let v = viewed a.drives.now in
    sym (guess_borne a.drives.now.p v a.drive a.serial.0 a.guess (sym c.bears_at.ensures ∙ c.if-bears_at.true))

pub lowest_bearing-requires : goal.lowest_bearing-requires
lowest_bearing-requires c = record { drive_lt_n = c.requires.drive_lt_n }

pub returns : goal.returns
returns c =
    let a = c.args in
    ap (λ (n : ℕ). ltb n a.drives.now.p.Z) c.lowest_bearing.ensures.0
