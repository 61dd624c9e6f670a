-- `open_segment`: the segment of a serial that remains is the open one (`open_by_serial`). Assumes nothing.
use Rattle.disk_drives.specs.Viewed.{viewed}
use mathlib.Core.Path.{sym, ap, ◌∙◌}
use native.Mathlib.Omega.{arith}
use Rattle.spec.specs.Segments.{seg_for}
use Rattle.law_basic.specs.Geometry.{ranged}
use Rattle.law_drives.specs.Settled.{low_first}
use Rattle.disk_holders.specs.Borne.{serial_remains}
use Rattle.disk_holders.specs.Opened.{open_by_serial}
use Rattle.disk_holders.proofs.open_segment.Goals as goal

pub seg_from-requires : goal.seg_from-requires
seg_from-requires c =
    let r = ranged c.args.drives.now.p c.args.drives.now.sound in
    record { low_lt_n = (omega (arith, r.drives_low), sym (low_first c.args.drives.now.p r), c.requires.serial_value.1, c.requires.serial_value.2) }

pub returns : goal.returns
returns c =
    let a = c.args in
    let v = viewed a.drives.now in
    λ st q. c.seg_from.ensures
    ∙ ap (seg_for a.drives.now.p v 0) (sym q)
    ∙ sym (open_by_serial a.drives.now.p (ranged a.drives.now.p c.args.drives.now.sound) v st (ap (serial_remains a.drives.now.p v 0) q ∙ c.requires.serial_value.0))
