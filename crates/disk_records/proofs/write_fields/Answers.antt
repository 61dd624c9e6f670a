-- `write_fields`: what remains to be written makes at each turn what all fields make of the buffer at the start (`FieldsLeft`). Assumes nothing.
use mathlib.Core.Path.{◌≡◌, sym, ap, ◌∙◌, subst}
use Prim.Native.Nat.{ℕ, suc, ◌+◌, ◌≤◌, ◌<◌}
use native.Mathlib.Nat.{add-zero, add_assoc}
use native.Mathlib.Omega.{arith}
use lib.ListN.{length, get_or, take}
use Rattle.spec.specs.Lists.{total}
use borrow.Author.Rules.{rules}
use Rattle.disk_records.specs.Header.{FieldsLeft, rest_none, rest_more, rest_all, total-more, total_within}
use Rattle.disk_records.proofs.write_fields.Goals as goal

pub loop-i-init : goal.loop-i-init
unfolding total
loop-i-init c =
    let a = c.args in
    (sym (add-zero a.from), rest_none a.widths.now a.values.now a.from a.dst.now c.requires.0)

pub bounds-values-i : goal.bounds-values-i
bounds-values-i c =
    omega (arith, c.requires.0)

pub write_be-requires : goal.write_be-requires
write_be-requires c =
    let l = c.loop-i in
    let ws = c.args.widths.now in
    let t : l.i < length ws = omega arith in
    omega (arith, total-more ws l.i t, total_within ws (suc l.i), l.auto.dst, l.invariant.0, c.requires.1)

pub overflow_add-at : goal.overflow_add-at
overflow_add-at c =
    let l = c.loop-i in
    let ws = c.args.widths.now in
    let t : l.i < length ws = omega arith in
    let m : l.at + get_or ws l.i 0 ≤ length c.args.dst.now = omega (arith, total-more ws l.i t, total_within ws (suc l.i), l.invariant.0, c.requires.1) in
    search rules

pub loop-i-preserved : goal.loop-i-preserved
loop-i-preserved c =
    let l = c.loop-i in
    let w = c.write_be in
    let ws = c.args.widths.now in
    let t : l.i < length ws = omega arith in
    let s : l.i + 1 ≡ suc l.i = omega arith in (
      ap (λ (n : ℕ). n + get_or ws l.i 0) l.invariant.0 ∙ add_assoc c.args.from (total (take l.i ws)) (get_or ws l.i 0)
          ∙ ap (λ (n : ℕ). c.args.from + n) (sym (total-more ws l.i t) ∙ ap (λ (n : ℕ). total (take n ws)) (sym s)),
      subst (FieldsLeft ws c.args.values.now c.args.from c.args.dst.now w.new.dst (l.at + get_or ws l.i 0)) (sym s)
          (rest_more ws c.args.values.now c.args.from c.args.dst.now c.requires.0 l.dst w.new.dst l.at l.i t l.invariant.1 w.ensures),
    )

pub returns : goal.returns
returns c =
    let l = c.loop-i in
    let ws = c.args.widths.now in
    let d : l.i ≡ length ws = omega arith in
    rest_all ws c.args.values.now c.args.from c.args.dst.now c.requires.0 l.dst l.at l.i d c.requires.1 l.invariant.1
