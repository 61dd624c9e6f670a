-- `is_left`: the lowest present drive first; where it bears the serial, its header there is looked at for the rest. Assumes nothing.
use Rattle.disk_drives.specs.Viewed.{viewed}
use mathlib.Core.Path.{sym, subst}
use Prim.Native.Nat.{ℕ, ◌≤◌}
use Rattle.disk_holders.specs.Borne.{not_borne}
use Rattle.disk_holders.proofs.is_left.Goals as goal

pub lowest_bearing-first-requires : goal.lowest_bearing-first-requires
lowest_bearing-first-requires c = record { drive_lt_n = c.requires.low_lt_n.0 }

pub returns-then-drives-first : goal.returns-then-drives-first
returns-then-drives-first c =
    let a = c.args in
    let v = viewed a.drives.now in
    sym (not_borne a.drives.now.p v a.gone a.serial.0 a.low c.requires.low_lt_n.0 c.requires.low_lt_n.1
    (subst (λ (n : ℕ). a.drives.now.p.Z ≤ n) c.lowest_bearing-first.ensures.0 c.if-drives-first.true))

pub is_borne-requires : goal.is_borne-requires
is_borne-requires c = record { low_lt_n = (c.requires.low_lt_n.0, c.if-drives-first.false) }

pub returns : goal.returns
returns c = c.is_borne.ensures
