-- `is_borne_on`: a missing drive passes; of another the answer is that of `bears_serial`, whatever the guess. Assumes nothing.
use Rattle.disk_drives.specs.Viewed.{viewed}
use mathlib.Core.Path.{sym, ap, ◌∙◌}
use mathlib.Core.Bool.{Bool, ◌||◌}
use lib.Dec.{ltb}
use Rattle.spec.specs.Segments.{lowest_bearing}
use Rattle.disk_holders.proofs.is_borne_on.Goals as goal

pub returns-then-has_drive : goal.returns-then-has_drive
returns-then-has_drive c =
    let a = c.args in
    let v = viewed a.drives.now in
    sym (ap (λ (b : Bool). b || ltb (lowest_bearing a.drives.now.p v a.drive a.serial.0) a.drives.now.p.Z) (sym c.has_drive.ensures ∙ c.if-has_drive.true))

pub bears_serial-requires : goal.bears_serial-requires
bears_serial-requires c = record { drive_lt_n = c.requires.low_lt_n.2 }

pub returns-then-drive-low : goal.returns-then-drive-low
returns-then-drive-low c =
    let a = c.args in
    let v = viewed a.drives.now in
    let has = c.has_drive in
    c.bears_serial.ensures
    ∙ sym (ap (λ (b : Bool). b || ltb (lowest_bearing a.drives.now.p v a.drive a.serial.0) a.drives.now.p.Z) (sym has.ensures ∙ c.if-has_drive.false))

pub zone_named-guess-requires : goal.zone_named-guess-requires
zone_named-guess-requires c = record { p_value = c.args.drives.now.sound; image_len = (c.args.drives.now.whole.image_long, c.requires.low_lt_n.0, c.requires.low_lt_n.1, c.requires.low_lt_n.2) }

pub bears_serial-requires-2 : goal.bears_serial-requires-2
bears_serial-requires-2 c = record { drive_lt_n = c.requires.low_lt_n.2 }

pub returns : goal.returns
returns c =
    let a = c.args in
    let v = viewed a.drives.now in
    let has = c.has_drive in
    c.bears_serial-2.ensures
    ∙ sym (ap (λ (b : Bool). b || ltb (lowest_bearing a.drives.now.p v a.drive a.serial.0) a.drives.now.p.Z) (sym has.ensures ∙ c.if-has_drive.false))
