-- `held_cand`: field by field: the record at the place gives the stamp, the header of its own zone the serial (`place_serial_at`). Assumes nothing.
use Prim.Native.Nat.{◌-◌}
use Rattle.spec.specs.Drives.{view_of}
use Rattle.spec.specs.Landing.{held_cand}
use Rattle.spec.specs.Layout.{Rec}
use Rattle.spec.specs.Params.{place_drive}
use Rattle.spec.specs.Segments.{place_segment, serial_in, serial_at}
use Rattle.law_basic.specs.Geometry.{ranged}
use Rattle.law_basic.specs.Mask.{is_in_empty}
use Rattle.law_drives.specs.Settled.{zero_here}
use Rattle.disk_holders.specs.Held.{place_serial_at}
use mathlib.Core.Path.{◌≡◌, ap, ap₂, ◌∙◌, sym}
use native.Mathlib.Omega.{arith}
use Rattle.call_land_table.proofs.held_cand.Goals as goal

pub held_record-r-requires : goal.held_record-r-requires
held_record-r-requires c =
    let a = c.args in
    let q = c.requires in record {
      here = zero_here a.drives.now.p (ranged a.drives.now.p c.args.drives.now.sound);
      data_place =
          (q.data_place.0, is_in_empty (place_drive a.drives.now.p a.place.0), q.data_place.1);
    }

pub serial_in-serial-requires : goal.serial_in-serial-requires
serial_in-serial-requires c =
    let q = c.requires in record {
      p_value = c.args.drives.now.sound;
      image_len =
          (c.args.drives.now.whole.image_long, omega (arith, c.place_drive-drive.ensures.0, q.data_place.0.drive_low), c.place_zone-zone.ensures.1);
    }

pub returns : goal.returns
unfolding held_cand
returns c =
    let a = c.args in
    let p = a.drives.now.p in
    let q = a.place.0 in
    let v = view_of p a.drives.now.offline.now a.drives.now.image.now a.drives.now.pointers.now in
    let d = c.place_drive-drive.ensures.0 in
    let z = c.place_zone-zone.ensures.0 in
    let s = ap (λ (r : Rec). r.stamp) c.held_record-r.ensures in
    let t : c.serial_in-serial.result.0 ≡ serial_at p v (place_segment p v 0 q) =
    c.serial_in-serial.ensures a.drives.now.offline.now a.drives.now.pointers.now c.args.drives.now.whole.pointers_long ∙ ap₂ (serial_in p v) d z
    ∙ sym (place_serial_at p (ranged p c.args.drives.now.sound) v q c.requires.data_place.1) in
    λ j. record { address = a.address.0; stamp = s j; serial = t j; drive = d j; offset = c.place_block-offset.ensures.0 j - 1; place = q }
