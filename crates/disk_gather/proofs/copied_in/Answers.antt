-- `copied_in`: the copied serial read there is the header's. Assumes nothing.
use mathlib.Core.Path.{ap, ◌∙◌}
use native.Mathlib.Omega.{arith}
use Rattle.spec.specs.Layout.{header_copied}
use Rattle.law_basic.specs.Fields.{header_fits}
use Rattle.law_basic.specs.Geometry.{ranged}
use Rattle.disk_gather.proofs.copied_in.Goals as goal

pub header_copied-requires : goal.header_copied-requires
header_copied-requires c = omega (arith, c.header_of.ensures.long, header_fits c.args.p (ranged c.args.p c.requires.p_value))

pub returns : goal.returns
returns c = λ off ps h. c.header_copied.ensures ∙ ap (header_copied c.args.p) (c.header_of.ensures.block off ps h)
