-- `next_named`: the next one from y on is the next one from the start on; one found is it, at Z there is none. Assumes nothing.
use Rattle.disk_drives.specs.Viewed.{viewed}
use mathlib.Core.Path.{◌≡◌}
use Rattle.disk_holders.specs.Held.{names_zone}
use Rattle.disk_holders.specs.Next.{next_one}
use Rattle.disk_holders.proofs.next_named.Given as goal

abbrev pub invariant-loop-y : goal.invariant-loop-y
invariant-loop-y l =
    next_one (names_zone l.drives.p (viewed l.drives) l.gone l.drive l.zone) l.drives.p.Z l.y ≡ next_one
    (names_zone l.drives.p (viewed l.drives) l.gone l.drive l.zone) l.drives.p.Z l.from
