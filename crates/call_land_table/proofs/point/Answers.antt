-- `point`: the winners are worked out on the table as it came, then put; that is `pointed` (`winners_are`). Assumes nothing.
use Rattle.disk_drives.specs.Viewed.{viewed}
use Rattle.spec.specs.Drives.{View}
use Rattle.law_basic.specs.Geometry.{ranged}
use Rattle.law_basic.specs.Segs.{low_here}
use Rattle.call_land_table.specs.Winners.{winners_are}
use Rattle.call_land_chunk.specs.Alone.{alone}
use mathlib.Core.Path.{◌∙◌}
use native.Mathlib.Omega.{arith}
use Rattle.call_land_table.proofs.point.Goals as goal

pub serial_at-serial-requires : goal.serial_at-serial-requires
serial_at-serial-requires c =
    let a = c.args in
    let q = c.requires in record {
      p_value = c.args.drives.now.sound;
      image_len =
          (c.args.drives.now.whole.image_long, low_here a.drives.now.p a.segment 0 q.zones_low.0 (omega (arith, (ranged a.drives.now.p c.args.drives.now.sound).drives_low)));
    }

pub winners-places-requires : goal.winners-places-requires
winners-places-requires c =
    let q = c.requires in
    let args = c.args in record {
      addresses_len = q.addresses_len;
      zones_low = q.zones_low;
      serial_value = c.serial_at-serial.ensures args.drives.now.offline.now
          args.drives.now.pointers.now c.args.drives.now.whole.pointers_long;
    }

pub returns : goal.returns
returns c =
    let a = c.args in
    let put-places = c.put_places in
    let winners = c.winners-places in
    let v : View = viewed a.drives.now in
    put-places.ensures ∙ winners_are a.drives.now.p (alone a.row) 0 winners.result v a.addresses.now a.segment winners.ensures
