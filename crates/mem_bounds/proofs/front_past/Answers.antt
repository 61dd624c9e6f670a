-- `front_past`: the bytes 0 and 1 are their own numbers, the numbers at 10, 18 and 26 as read; the five tests are the five terms of the definition. Assumes nothing.
use mathlib.Core.Path.{◌≡◌, ap, ap₂, ◌∙◌}
use native.Mathlib.Omega.{arith}
use Prim.Native.Nat.{◌+◌, ◌<◌}
use lib.Count.{ones}
use lib.ListN.{length, get_or}
use Rattle.mem_codec.specs.Codec.{state_len_lem}
use Rattle.spec.specs.Bytes.{le_of, part}
use Rattle.law_basic.specs.Geometry.{ranged}
use Rattle.law_basic.specs.Le.{le_of_part-one}
use Rattle.mem_bounds.specs.Bounds.{other, past, bounds_above, front_past}
use Rattle.mem_bounds.proofs.front_past.Goals as goal

pub power-requires : goal.power-requires
power-requires c = omega (arith, (ranged c.args.p c.requires.p_value).drives_high)

pub overflow_cast-p : goal.overflow_cast-p
overflow_cast-p c = omega (arith, (ranged c.args.p c.requires.p_value).stripes_high)

pub overflow_add-p : goal.overflow_add-p
overflow_add-p c = omega (arith, (ranged c.args.p c.requires.p_value).stripes_high)

pub returns : goal.returns
unfolding front_past
returns c =
    let p = c.args.p in
    let bs = c.args.bytes.now in
    let h : 1 < length bs = omega (arith, state_len_lem, c.requires.bytes_len) in
    let e0 : get_or bs 0 0 ≡ le_of (part 0 1 bs) = le_of_part-one 0 bs (omega arith) in
    let e1 : get_or bs 1 0 ≡ le_of (part 1 1 bs) = le_of_part-one 1 bs h in
    let f0 = c.other-live.ensures.0 ∙ ap other e0 in
    let f1 = c.past-gone.ensures.0 ∙ ap₂ past c.power.ensures (c.from.ensures ∙ e1) in
    let f2 = c.past-lost.ensures.0 ∙ ap (past 2) (c.count.ensures.0 ∙ ap ones e1) in
    let f3 = c.above-opened.ensures.0 ∙ ap₂ bounds_above c.read_le64-serial.ensures c.read_le64.ensures in
    let f4 = c.past-next.ensures.0 ∙ ap (past (p.S + 1)) c.read_le32.ensures in (
      λ j. f0 j + f1 j + f2 j + f3 j + f4 j,
      omega (arith, c.other-live.ensures.1, c.past-gone.ensures.1, c.past-lost.ensures.1, c.above-opened.ensures.1, c.past-next.ensures.1),
    )
