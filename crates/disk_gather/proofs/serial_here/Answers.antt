-- `serial_here`: the block lies within the image, and the serial read there is the header's. Assumes nothing.
use mathlib.Core.Path.{ap, ◌∙◌}
use native.Mathlib.Omega.{arith}
use Rattle.spec.specs.Layout.{header_serial}
use Rattle.law_basic.specs.Fields.{header_fits}
use Rattle.law_basic.specs.Geometry.{ranged}
use Rattle.law_basic.specs.Splice.{length_part, part_lent}
use Rattle.disk_gather.specs.Found.{block_in_unit}
use Rattle.disk_gather.proofs.serial_here.Goals as goal

pub overflow_add-e : goal.overflow_add-e
overflow_add-e c =
    omega (arith, c.requires.p_in_bounds.1, (ranged c.args.p c.requires.p_value).block_high)

pub slice_bounds-header_serial-end : goal.slice_bounds-header_serial-end
slice_bounds-header_serial-end c =
    omega (arith, c.requires.p_in_bounds.0, block_in_unit c.args.p)

pub header_serial-requires : goal.header_serial-requires
header_serial-requires c =
    let a = c.args in
    let l = length_part a.at a.p.B a.image.now (omega (arith, c.requires.p_in_bounds.0, block_in_unit a.p)) in
    rw (part_lent a.at a.p.B a.image.now) (omega (arith, l, header_fits a.p (ranged a.p c.requires.p_value)))

pub returns : goal.returns
returns c =
    let a = c.args in
    c.header_serial.ensures ∙ ap (header_serial a.p) (part_lent a.at a.p.B a.image.now)
