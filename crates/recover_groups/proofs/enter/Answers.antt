-- `enter`: each of the three tests is a part of `is_new`, and the first false one returns at once; all true, the number of s is set to v. Assumes nothing.
use mathlib.Core.Path.{refl, sym}
use mathlib.Core.Bool.{◌&&◌}
use Prim.Native.Nat.{◌+◌, ◌-◌, ◌*◌}
use borrow.Author.Tests.{le-leb, lt-leb, lt-ltb, le-ltb, eq-eqb, ne_eqb}
use native.Mathlib.Omega.{arith}
use lib.Dec.{ltb, eqb}
use lib.ListN.{get_or}
use Rattle.law_basic.specs.Geometry.{ranged}
use Rattle.recover_groups.specs.Groups.{group_len}
use Rattle.recover_groups.proofs.enter.Goals as goal

pub returns-then-s-base : goal.returns-then-s-base
returns-then-s-base c =
    let args = c.args in record {
      value = (λ j. sym (lt-leb args.base args.s c.if-s-base.true) j
          && ltb (args.s - args.base) (group_len args.p args.base)
          && eqb (get_or args.at.now (256 * args.drive + (args.s - args.base)) 0) 0);
      at_after = refl;
    }

pub returns-then-group_len-k : goal.returns-then-group_len-k
returns-then-group_len-k c =
    let if1 = c.if-s-base in
    let args = c.args in record {
      value = (λ j. sym (le-leb args.base args.s (omega (arith, if1.false))) j
          && sym (le-ltb (args.s - args.base) (group_len args.p args.base) (omega (arith, c.if-group_len-k.true, c.group_len.ensures.0)))
          j
          && eqb (get_or args.at.now (256 * args.drive + (args.s - args.base)) 0) 0);
      at_after = refl;
    }

pub overflow_mul-j : goal.overflow_mul-j
overflow_mul-j c =
    let args = c.args in
    let pre = c.requires in
    omega (arith, (ranged args.p pre.p_value).drives_high, pre.at_len.1, pre.at_len.0, c.group_len.ensures.2, c.if-group_len-k.false)

pub overflow_add-j : goal.overflow_add-j
overflow_add-j c =
    let args = c.args in
    let pre = c.requires in
    omega (arith, (ranged args.p pre.p_value).drives_high, pre.at_len.1, pre.at_len.0, c.group_len.ensures.2, c.if-group_len-k.false)

pub offset_bounds-at-j : goal.offset_bounds-at-j
offset_bounds-at-j c =
    let args = c.args in
    let pre = c.requires in
    omega (arith, (ranged args.p pre.p_value).drives_high, pre.at_len.1, pre.at_len.0, c.group_len.ensures.2, c.if-group_len-k.false)

pub bounds-at-j : goal.bounds-at-j
bounds-at-j c =
    let group-len = c.group_len in
    let args = c.args in
    let pre = c.requires in
    omega (arith, (ranged args.p pre.p_value).drives_high, pre.at_len.1, pre.at_len.0, group-len.ensures.2, c.if-group_len-k.false)

pub returns-then-at-j-ne0 : goal.returns-then-at-j-ne0
returns-then-at-j-ne0 c =
    let if2 = c.if-group_len-k in
    let group-len = c.group_len in
    let if1 = c.if-s-base in
    let args = c.args in record {
      value = (λ j. sym (le-leb args.base args.s (omega (arith, if1.false))) j
          && sym (lt-ltb (args.s - args.base) (group_len args.p args.base) (omega (arith, if2.false, group-len.ensures.0))) j
          && sym (ne_eqb (get_or args.at.now (256 * args.drive + (args.s - args.base)) 0) 0 c.if-at-j-ne0.true) j);
      at_after = refl;
    }

pub offset_bounds-at-j-2 : goal.offset_bounds-at-j-2
offset_bounds-at-j-2 c =
    let if2 = c.if-group_len-k in
    let group-len = c.group_len in
    let args = c.args in
    let pre = c.requires in
    omega (arith, (ranged args.p pre.p_value).drives_high, pre.at_len.1, pre.at_len.0, group-len.ensures.2, if2.false)

pub bounds-at-j-2 : goal.bounds-at-j-2
bounds-at-j-2 c =
    let if2 = c.if-group_len-k in
    let group-len = c.group_len in
    let args = c.args in
    let pre = c.requires in
    omega (arith, (ranged args.p pre.p_value).drives_high, pre.at_len.1, pre.at_len.0, group-len.ensures.2, if2.false)

pub returns : goal.returns
returns c =
    let if2 = c.if-group_len-k in
    let group-len = c.group_len in
    let if1 = c.if-s-base in
    let args = c.args in record {
      value = (λ j. sym (le-leb args.base args.s (omega (arith, if1.false))) j
          && sym (lt-ltb (args.s - args.base) (group_len args.p args.base) (omega (arith, if2.false, group-len.ensures.0))) j
          && sym (eq-eqb (get_or args.at.now (256 * args.drive + (args.s - args.base)) 0) 0 c.if-at-j-ne0.false) j);
      at_after = refl;
    }
