-- `slots_past`: the four sections at 30, 62, 70 and 78, each with its limit, are the four terms; `power` is the limit of the masks. Assumes nothing.
use mathlib.Core.Path.{◌≡◌, refl, ap, ◌∙◌}
use native.Mathlib.Omega.{arith}
use Prim.Native.Nat.{ℕ, ◌+◌, ◌-◌, ◌^◌}
use Rattle.spec.specs.Params.{data_count}
use Rattle.law_basic.specs.Geometry.{ranged}
use Rattle.mem_bounds.specs.Bounds.{past_in, slots_past}
use Rattle.mem_bounds.proofs.slots_past.Goals as goal

pub overflow_cast-p : goal.overflow_cast-p
overflow_cast-p c = omega (arith, (ranged c.args.p c.requires.p_value).stripes_high)

pub overflow_cast-p-2 : goal.overflow_cast-p-2
overflow_cast-p-2 c = omega (arith, (ranged c.args.p c.requires.p_value).drives_high)

pub overflow_sub-p : goal.overflow_sub-p
overflow_sub-p c = omega (arith, (ranged c.args.p c.requires.p_value).drives_low)

pub power-requires : goal.power-requires
power-requires c = omega (arith, (ranged c.args.p c.requires.p_value).drives_high)

pub power-requires-2 : goal.power-requires-2
power-requires-2 c = omega (arith, (ranged c.args.p c.requires.p_value).drives_high)

pub returns : goal.returns
unfolding slots_past data_count
returns c =
    let p = c.args.p in
    let bs = c.args.bytes.now in
    let d : p.N - 1 ≡ data_count p = refl in
    let f0 = c.numbers_past-numbers.ensures.0 in
    let f1 = c.numbers_past-filled.ensures.0 in
    let f2 = c.numbers_past-writes.ensures.0 ∙ ap (λ (x : ℕ). past_in 1 8 70 x bs) (c.power.ensures ∙ ap (λ (x : ℕ). 2 ^ x) d) in
    let f3 = c.numbers_past-landed.ensures.0 ∙ ap (λ (x : ℕ). past_in 1 8 78 x bs) c.power-2.ensures in (
      λ j. f0 j + f1 j + f2 j + f3 j,
      omega (arith, c.numbers_past-numbers.ensures.1, c.numbers_past-filled.ensures.1, c.numbers_past-writes.ensures.1, c.numbers_past-landed.ensures.1),
    )
