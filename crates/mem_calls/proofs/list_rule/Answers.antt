-- `list_rule`: the two tests, on a count of good zones that stops where they are enough, are the definition's (`few_by`, `narrow_by`), in its order. Assumes nothing.
use Prim.Native.Nat.{ℕ}
use Rattle.mem_calls.specs.Listed.{few_by, narrow_by, list_few, list_narrow, list_fits}
use borrow.Author.Tests.{lt-ltb, le-ltb}
use lib.Dec.{ltb}
use mathlib.Core.Path.{sym, ap, ◌∙◌}
use Rattle.mem_calls.proofs.list_rule.Goals as goal

pub returns-then-n-lt4 : goal.returns-then-n-lt4
returns-then-n-lt4 c =
    let a = c.args in
    let n = c.good_count-n in
    let m = c.enough in
    sym (list_few a.p a.offline.now (sym (few_by a.p a.offline.now m.result n.result m.ensures.0 m.ensures.2 n.ensures.0) ∙ lt-ltb n.result 4 c.if-n-lt4.true))

pub returns-then-most_with-p : goal.returns-then-most_with-p
returns-then-most_with-p c =
    let a = c.args in
    let n = c.good_count-n in
    let m = c.enough in
    let f = few_by a.p a.offline.now m.result n.result m.ensures.0 m.ensures.2 n.ensures.0 in
    let w = narrow_by a.p a.offline.now m.result n.result m.ensures.0 m.ensures.2 n.ensures.0 in
    let b = ap (λ (x : ℕ). ltb x a.p.L) (sym c.most_with.ensures.0) in
    sym (list_narrow a.p a.offline.now (sym f ∙ le-ltb n.result 4 c.if-n-lt4.false) (sym w ∙ b ∙ lt-ltb c.most_with.result a.p.L c.if-most_with-p.true))

pub returns : goal.returns
returns c =
    let a = c.args in
    let n = c.good_count-n in
    let m = c.enough in
    let f = few_by a.p a.offline.now m.result n.result m.ensures.0 m.ensures.2 n.ensures.0 in
    let w = narrow_by a.p a.offline.now m.result n.result m.ensures.0 m.ensures.2 n.ensures.0 in
    let b = ap (λ (x : ℕ). ltb x a.p.L) (sym c.most_with.ensures.0) in
    sym (list_fits a.p a.offline.now (sym f ∙ le-ltb n.result 4 c.if-n-lt4.false) (sym w ∙ b ∙ le-ltb c.most_with.result a.p.L c.if-most_with-p.false))
