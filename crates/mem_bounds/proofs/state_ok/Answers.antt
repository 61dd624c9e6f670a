-- `state_ok`: the sum of the three counts is 0 iff each number is in its range (`state_in_holds`). Assumes nothing.
use mathlib.Core.Path.{◌∙◌}
use native.Mathlib.Omega.{arith}
use Prim.Native.Nat.{◌+◌}
use lib.Dec.{eqb}
use Rattle.law_basic.specs.Geometry.{ranged}
use Rattle.mem_bounds.specs.Bounds.{state_in_holds}
use Rattle.mem_bounds.proofs.state_ok.Goals as goal

pub overflow_cast-p : goal.overflow_cast-p
overflow_cast-p c = omega (arith, (ranged c.args.p c.requires.p_value).stripes_high)

pub returns : goal.returns
returns c =
    let p = c.args.p in
    let bs = c.args.bytes.now in
    let e0 = c.front_past-front.ensures.0 in
    let e1 = c.slots_past-slots.ensures.0 in
    let e2 = c.numbers_past-offsets.ensures.0 in
    (λ j. eqb (e0 j + e1 j + e2 j) 0) ∙ state_in_holds p bs c.requires.p_value
