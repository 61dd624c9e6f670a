-- `open_at`: all zones of the open segment where the stripe completes (`open_whole`), else its zone on the drive, Z where none has the serial. Assumes nothing.
use Rattle.disk_drives.specs.Viewed.{viewed}
use Rattle.disk_holders.specs.Opened.{OpenedOn}
use Rattle.law_drives.specs.Tests.{clash}
use borrow.Author.Tests.{ne_eqb}
use lib.Arith.{lt_of_le-ne}
use mathlib.Core.Path.{refl, ◌∙◌}
use Rattle.call_land.proofs.open_at.Goals as goal

pub open_whole-requires : goal.open_whole-requires
open_whole-requires c = c.requires

pub returns-then-done : goal.returns-then-done
returns-then-done c =
    let w = c.open_whole in record {
      st_value = w.ensures.st_value;
      target_at = λ st e x. let t = w.ensures.target_at st e x in
          record { some = t.some; zone = t.zone; whole = λ b. t.whole refl };
      zone_le_z = w.ensures.zone_le_z;
    }

pub open_zone-zone-requires : goal.open_zone-zone-requires
open_zone-zone-requires c = c.requires

pub returns : goal.returns
returns c =
    let a = c.args in
    let y = c.open_zone-zone.ensures in
    let z : OpenedOn a.drives.now.p (viewed a.drives.now) a.drive a.opened c.open_zone-zone.result = (y.st_value, y.value, y.upper_bound) in record {
      st_value = z.0;
      target_at = λ st e x. record {
        some = z.0 st e ∙ ne_eqb c.open_zone-zone.result a.drives.now.p.Z x;
        zone = z.1 st e (lt_of_le-ne z.2 x);
        whole = λ b. clash b c.if-done.false;
      };
      zone_le_z = z.2;
    }
