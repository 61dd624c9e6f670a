-- `clear_row`: the first k numbers of the drive's row are 0, those below the row as before; one turn sets number k to 0. Assumes nothing.
use mathlib.Core.Path.{refl, sym, ◌∙◌}
use Prim.Native.Nat.{◌+◌, ◌*◌}
use native.Mathlib.Omega.{arith}
use lib.ListN.{length-set}
use Rattle.law_basic.specs.Geometry.{ranged}
use Rattle.recover_groups.specs.Entering.{below_set, clear_next}
use Rattle.recover_groups.proofs.clear_row.Goals as goal

pub loop-k-init : goal.loop-k-init
loop-k-init c = (omega arith, c.requires.at_len.0, (λ i h. absurd (let q : ⊥ = omega (arith, h) in q)), λ j h. refl)

pub overflow_mul-j : goal.overflow_mul-j
overflow_mul-j c =
    let loop = c.loop-k in
    let args = c.args in
    let pre = c.requires in
    omega (arith, (ranged args.p pre.p_value).drives_high, (ranged args.p pre.p_value).group_high, pre.at_len.1, c.loop-k-test.true, loop.invariant.1)

pub overflow_add-j : goal.overflow_add-j
overflow_add-j c =
    let loop = c.loop-k in
    let args = c.args in
    let pre = c.requires in
    omega (arith, (ranged args.p pre.p_value).drives_high, (ranged args.p pre.p_value).group_high, pre.at_len.1, c.loop-k-test.true, loop.invariant.1)

pub offset_bounds-at-j : goal.offset_bounds-at-j
offset_bounds-at-j c =
    let loop = c.loop-k in
    let args = c.args in
    let pre = c.requires in
    omega (arith, (ranged args.p pre.p_value).drives_high, (ranged args.p pre.p_value).group_high, pre.at_len.1, c.loop-k-test.true, loop.invariant.1)

pub bounds-at-j : goal.bounds-at-j
bounds-at-j c =
    let loop = c.loop-k in
    let args = c.args in
    let pre = c.requires in
    omega (arith, (ranged args.p pre.p_value).drives_high, (ranged args.p pre.p_value).group_high, pre.at_len.1, c.loop-k-test.true, loop.invariant.1)

pub loop-k-preserved : goal.loop-k-preserved
loop-k-preserved c =
    let loop = c.loop-k in
    let args = c.args in
    let pre = c.requires in (
      omega (arith, c.loop-k-test.true),
      length-set loop.at (256 * args.drive + loop.k) 0 ∙ loop.invariant.1,
      clear_next args.drive loop.k loop.at
          (omega (arith, (ranged args.p pre.p_value).drives_high, (ranged args.p pre.p_value).group_high, pre.at_len.1, c.loop-k-test.true, loop.invariant.1))
          loop.invariant.2,
      below_set args.drive args.at.now loop.at (256 * args.drive + loop.k) 0 loop.invariant.3 (omega arith),
    )

pub shape_of-at : goal.shape_of-at
shape_of-at c = c.loop-k.invariant.1 ∙ sym c.requires.at_len.0

pub returns : goal.returns
returns c =
    let loop = c.loop-k in record { by_index = (λ k h. loop.invariant.2 k (omega (arith, h, c.loop-k-test.false))); same_below = loop.invariant.3 }
