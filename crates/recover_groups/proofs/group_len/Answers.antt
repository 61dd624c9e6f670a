-- `group_len`: G or what is left from base on, whichever is less; base below S and G at least 1 give the lower bound, G at most 256 the upper. Assumes nothing.
use native.Mathlib.Omega.{arith}
use Rattle.law_basic.specs.Geometry.{ranged}
use Rattle.recover_groups.specs.Groups.{group_len}
use Rattle.recover_groups.proofs.group_len.Goals as goal

pub returns-then-p-base : goal.returns-then-p-base
unfolding group_len
returns-then-p-base c =
    let args = c.args in
    let pre = c.requires in
    (omega (arith, c.if-p-base.true), omega (arith, pre.base_lt_s), omega (arith, c.if-p-base.true, (ranged args.p pre.p_value).group_high), omega (arith, pre.base_lt_s))

pub returns : goal.returns
unfolding group_len
returns c =
    let args = c.args in
    let pre = c.requires in (
      omega (arith, c.if-p-base.false),
      omega (arith, (ranged args.p pre.p_value).group-low),
      omega (arith, (ranged args.p pre.p_value).group_high),
      omega (arith, c.if-p-base.false, pre.base_lt_s, (ranged args.p pre.p_value).group-low),
    )
