-- `is_sealed_at`: the serial that remains gives the segment, whose zones on present drives are zones. Assumes nothing.
use Rattle.disk_drives.specs.Viewed.{viewed}
use mathlib.Core.Path.{sym, ap, ◌∙◌, subst}
use Rattle.spec.specs.Drives.{sealed_in}
use Rattle.spec.specs.Segments.{seg_for}
use Rattle.law_basic.specs.Segs.{ZonesLow}
use Rattle.law_drives.specs.Segs.{remaining-low}
use Rattle.disk_holders.specs.Borne.{serial_remains, remains_low, remains_in}
use Rattle.disk_holders.proofs.is_sealed_at.Goals as goal

pub serial_in-serial-requires : goal.serial_in-serial-requires
serial_in-serial-requires c = record { p_value = c.args.drives.now.sound; image_len = (c.args.drives.now.whole.image_long, c.requires.drive_lt_n.0, c.requires.drive_lt_n.1) }

pub seg_for-segment-requires : goal.seg_for-segment-requires
seg_for-segment-requires c =
    let a = c.args in
    let v = viewed a.drives.now in
    let s = c.serial_in-serial.ensures a.drives.now.offline.now a.drives.now.pointers.now c.args.drives.now.whole.pointers_long in
    record {
      serial_bound = remains_low a.drives.now.p v a.gone c.requires.here
          c.serial_in-serial.result.0 (ap (serial_remains a.drives.now.p v a.gone) s ∙ c.requires.drive_lt_n.2);
    }

pub is_sealed-requires : goal.is_sealed-requires
is_sealed-requires c =
    let a = c.args in
    let v = viewed a.drives.now in
    let here = c.requires.here in
    let r = c.serial_in-serial.result.0 in
    let s = c.serial_in-serial.ensures a.drives.now.offline.now a.drives.now.pointers.now c.args.drives.now.whole.pointers_long in
    let m = remains_in a.drives.now.p v a.gone here r (ap (serial_remains a.drives.now.p v a.gone) s ∙ c.requires.drive_lt_n.2) in
    record {
      p_value = c.args.drives.now.sound;
      pointers_len = (
        c.args.drives.now.whole.pointers_long,
        subst (ZonesLow a.drives.now.p a.gone) (sym c.seg_for-segment.ensures)
            (remaining-low a.drives.now.p v a.gone here (seg_for a.drives.now.p v a.gone r) m),
      );
    }

pub returns : goal.returns
returns c =
    let a = c.args in
    let v = viewed a.drives.now in
    let s = c.serial_in-serial.ensures a.drives.now.offline.now a.drives.now.pointers.now c.args.drives.now.whole.pointers_long in
    c.is_sealed.ensures a.drives.now.offline.now a.drives.now.image.now c.args.drives.now.whole.image_long
    ∙ ap (sealed_in a.drives.now.p v a.gone) (c.seg_for-segment.ensures ∙ ap (seg_for a.drives.now.p v a.gone) s)
