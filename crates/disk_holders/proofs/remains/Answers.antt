-- `remains`: a serial that the lowest present drive does not bear is dropped; of another `remains_from` says it. Assumes nothing.
use Rattle.disk_drives.specs.Viewed.{viewed}
use mathlib.Core.Path.{◌≡◌, sym, subst}
use mathlib.Core.Bool.{false}
use Prim.Native.Nat.{ℕ, ◌≤◌}
use Rattle.spec.specs.Lists.{is_in}
use Rattle.disk_holders.specs.Borne.{not_borne, unborne_dropped}
use Rattle.disk_holders.proofs.remains.Goals as goal

pub low_drive-low-requires : goal.low_drive-low-requires
low_drive-low-requires c = c.args.drives.now.sound

pub lowest_bearing-first-requires : goal.lowest_bearing-first-requires
lowest_bearing-first-requires c = record { drive_lt_n = c.low_drive-low.ensures.1 }

pub returns-then-drives-first : goal.returns-then-drives-first
returns-then-drives-first c =
    let a = c.args in
    let v = viewed a.drives.now in
    let here = c.requires.here in
    sym (unborne_dropped a.drives.now.p v a.gone a.serial.0
    (not_borne a.drives.now.p v a.gone a.serial.0 c.low_drive-low.result
    c.low_drive-low.ensures.1 (subst (λ (d : ℕ). is_in a.gone d ≡ false) (sym c.low_drive-low.ensures.0) here.1)
    (subst (λ (n : ℕ). a.drives.now.p.Z ≤ n) c.lowest_bearing-first.ensures.0 c.if-drives-first.true)))

pub remains_from-requires : goal.remains_from-requires
remains_from-requires c = record { here = c.requires.here; low_value = (c.low_drive-low.ensures.0, c.if-drives-first.false, c.lowest_bearing-first.ensures.0) }

pub returns : goal.returns
returns c = c.remains_from.ensures
