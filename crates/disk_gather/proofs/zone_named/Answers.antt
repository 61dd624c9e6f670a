-- `zone_named`: the zone read there is the header's. Assumes nothing.
use mathlib.Core.Path.{ap, ◌∙◌}
use mathlib.Core.List.{List}
use Prim.Native.Nat.{ℕ}
use native.Mathlib.Omega.{arith}
use Rattle.spec.specs.Layout.{header_zone}
use Rattle.law_basic.specs.Fields.{header_fits}
use Rattle.law_basic.specs.Geometry.{ranged}
use Rattle.disk_gather.proofs.zone_named.Goals as goal

pub header_zone-requires : goal.header_zone-requires
header_zone-requires c = (omega (arith, c.header_of.ensures.long, header_fits c.args.p (ranged c.args.p c.requires.p_value)), c.requires.image_len.3)

pub returns : goal.returns
returns c = λ off ps h. c.header_zone.ensures ∙ ap (λ (b : List ℕ). header_zone c.args.p b c.args.other) (c.header_of.ensures.block off ps h)
