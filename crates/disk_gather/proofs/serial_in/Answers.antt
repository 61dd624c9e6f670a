-- `serial_in`: the serial read there is the header's. Assumes nothing.
use mathlib.Core.Path.{ap, ◌∙◌}
use native.Mathlib.Omega.{arith}
use Rattle.spec.specs.Layout.{header_serial}
use Rattle.spec.specs.Segments.{serial_in}
use Rattle.law_basic.specs.Fields.{header_fits}
use Rattle.law_basic.specs.Geometry.{ranged}
use Rattle.disk_gather.proofs.serial_in.Goals as goal

pub header_serial-requires : goal.header_serial-requires
header_serial-requires c = omega (arith, c.header_of.ensures.long, header_fits c.args.p (ranged c.args.p c.requires.p_value))

pub returns : goal.returns
unfolding serial_in
returns c = λ off ps h. c.header_serial.ensures ∙ ap (header_serial c.args.p) (c.header_of.ensures.block off ps h)
