-- `held_here`: a zone that leads is held just if its serial remains. Assumes nothing.
use Rattle.disk_drives.specs.Viewed.{viewed}
use mathlib.Core.Path.{◌≡◌, sym, ap, ◌∙◌}
use Prim.Native.Nat.{ℕ}
use borrow.Author.Tests.{not-true, not-false}
use Rattle.spec.specs.Segments.{serial_in, lowest_bearing}
use Rattle.disk_gather.specs.Found.{lead_lowest}
use Rattle.disk_holders.specs.Held.{held_not, held_by}
use Rattle.disk_holders.proofs.held_here.Goals as goal

pub leads-requires : goal.leads-requires
leads-requires c = record { drive_lt_n = c.requires.drive_lt_n }

pub returns-then-not-leads : goal.returns-then-not-leads
returns-then-not-leads c =
    let a = c.args in
    let v = viewed a.drives.now in
    let l = c.leads in
    sym (held_not a.drives.now.p v a.gone a.drive a.zone (sym l.ensures ∙ not-true l.result c.if-not-leads.true-raw))

pub serial_in-serial-requires : goal.serial_in-serial-requires
serial_in-serial-requires c = record { p_value = c.args.drives.now.sound; image_len = (c.args.drives.now.whole.image_long, c.requires.drive_lt_n.0, c.requires.drive_lt_n.1) }

pub low_drive-low-requires : goal.low_drive-low-requires
low_drive-low-requires c = c.args.drives.now.sound

pub remains_from-requires : goal.remains_from-requires
remains_from-requires c =
    let a = c.args in
    let v = viewed a.drives.now in
    let l = c.leads in
    let low = c.low_drive-low in
    let s = c.serial_in-serial.ensures a.drives.now.offline.now a.drives.now.pointers.now c.args.drives.now.whole.pointers_long in
    let t : lowest_bearing a.drives.now.p v a.drive (serial_in a.drives.now.p v a.drive a.zone) ≡ a.zone =
    lead_lowest a.drives.now.p v a.drive a.zone (sym l.ensures ∙ not-false l.result c.if-not-leads.false-raw) in record {
      here = c.requires.here;
      low_value = (
        low.ensures.0,
        c.requires.drive_lt_n.1,
        sym (ap (λ (d : ℕ). lowest_bearing a.drives.now.p v d c.serial_in-serial.result.0) (sym c.if-drive-low.true) ∙ ap (lowest_bearing a.drives.now.p v a.drive) s ∙ t),
      );
    }

pub returns-then-drive-low : goal.returns-then-drive-low
returns-then-drive-low c =
    let a = c.args in
    let v = viewed a.drives.now in
    let l = c.leads in
    let s = c.serial_in-serial in
    c.remains_from.ensures
    ∙ held_by a.drives.now.p v a.gone a.drive a.zone s.result.0 (s.ensures a.drives.now.offline.now a.drives.now.pointers.now c.args.drives.now.whole.pointers_long)
    (sym l.ensures ∙ not-false l.result c.if-not-leads.false-raw)

pub remains-requires : goal.remains-requires
remains-requires c = record { here = c.requires.here }

pub returns : goal.returns
returns c =
    let a = c.args in
    let v = viewed a.drives.now in
    let l = c.leads in
    let s = c.serial_in-serial in
    c.remains.ensures
    ∙ held_by a.drives.now.p v a.gone a.drive a.zone s.result.0 (s.ensures a.drives.now.offline.now a.drives.now.pointers.now c.args.drives.now.whole.pointers_long)
    (sym l.ensures ∙ not-false l.result c.if-not-leads.false-raw)
