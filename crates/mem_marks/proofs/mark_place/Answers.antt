-- `mark_place`: below first or from end on q is not within and the marks stay; else `add_mark`; end - first numbers have their bytes. Assumes nothing.
use Prim.Native.Nat.{◌-◌, ◌<◌}
use Rattle.mem_marks.specs.Marks.{with_mark, within_above}
use Rattle.mem_tables.specs.Tables.{is_within}
use borrow.Author.Tests.{le-leb, lt-leb, lt-ltb}
use lib.Dec.{ltb}
use mathlib.Core.Bool.{Bool, true, cond, ◌&&◌}
use mathlib.Core.Path.{◌≡◌, sym, ap, ◌∙◌}
use mir.Val.{bool_byte}
use native.Mathlib.Omega.{arith}
use Rattle.mem_marks.proofs.mark_place.Goals as goal

pub returns-then-q-first : goal.returns-then-q-first
returns-then-q-first c =
    let a = c.args in
    let h : a.q < a.end = omega (arith, c.if-q-first.true, c.requires.0) in
    record {
      marks_after = ap (λ (x : Bool). cond (x && ltb a.q a.end) (with_mark a.marks.now (a.q - a.first)) a.marks.now)
          (sym (lt-leb a.first a.q c.if-q-first.true));
      value = ap (λ (x : Bool). bool_byte (x && ltb a.q 4294967295)) (sym (lt-leb a.end a.q h));
    }

pub returns-then-end-q : goal.returns-then-end-q
returns-then-end-q c =
    let a = c.args in record {
      marks_after = ap (λ (x : Bool). cond x (with_mark a.marks.now (a.q - a.first)) a.marks.now)
          (sym (within_above a.first a.end a.q c.if-end-q.true));
      value = ap (λ (x : Bool). bool_byte (x && ltb a.q 4294967295)) (sym (le-leb a.end a.q c.if-end-q.true));
    }

pub add_mark-requires : goal.add_mark-requires
add_mark-requires c =
    let pre = c.requires in
    omega (arith, pre.1, c.if-end-q.false, c.if-q-first.false)

pub returns : goal.returns
returns c =
    let add-mark = c.add_mark in
    let if2 = c.if-end-q in
    let if1 = c.if-q-first in
    let a = c.args in
    let i1 = if1.false in
    let i2 = if2.false in
    let h : a.q < a.end = omega (arith, i2) in
    let e : is_within a.first a.end a.q ≡ true = simp (le-leb a.first a.q (omega (arith, i1)), lt-ltb a.q a.end h) in
    record {
      marks_after = add-mark.ensures ∙ ap (λ (x : Bool). cond x (with_mark a.marks.now (a.q - a.first)) a.marks.now) (sym e);
      value = ap
          (λ (x : Bool). bool_byte (x && ltb a.q 4294967295)) (sym (lt-leb a.end a.q h));
    }
