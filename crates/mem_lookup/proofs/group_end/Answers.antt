-- `group_end`: the sum of first and G fits; what lies below the least of three ends lies below each. Assumes nothing.
use Rattle.law_basic.specs.Geometry.{ranged}
use native.Mathlib.Omega.{arith}
use Rattle.mem_lookup.proofs.group_end.Goals as goal

pub overflow_add-first : goal.overflow_add-first
overflow_add-first c =
    let r = ranged c.args.p c.requires.p_value in
    omega (arith, r.group_high, r.stripes_high)
