-- `serial_on`: the header's serial at the segment's zone on the drive. Assumes nothing.
use mathlib.Core.Path.{ap, ◌∙◌}
use Rattle.spec.specs.Drives.{view_of}
use Rattle.spec.specs.Segments.{header_at, serial_in}
use Rattle.recover_segments.proofs.serial_on.Goals as goal

pub returns : goal.returns
unfolding header_at serial_in
returns c =
    let a = c.args in
    λ off ps h. c.serial_in.ensures off ps h ∙ ap (serial_in a.p (view_of a.p off a.image.now ps) a.drive) c.zone_on-zone.ensures
