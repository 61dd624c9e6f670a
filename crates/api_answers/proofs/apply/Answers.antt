-- `apply`: kinds 0 and 1 are refusals (`applied_refused`), 2 a cut, which clears (`applied_cut`), others change the bytes (`applied_done`). Assumes nothing.
use Rattle.api_answers.specs.Applied.{applied_refused, applied_cut, applied_done}
use Rattle.spec.specs.declared.Told.{Told}
use Rattle.spec.specs.Answers.{kind}
use mathlib.Core.Path.{◌≡◌, sym, ap, ◌∙◌}
use native.Mathlib.Omega.{arith}
use Rattle.api_answers.proofs.apply.Goals as goal

pub returns-then-r-le1 : goal.returns-then-r-le1
returns-then-r-le1 c =
    let a = c.args in
    let t = c.told_of-r in
    let k : t.result.kind ≡ kind a.change.answer = ap (λ (x : Told). x.kind) t.ensures in
    (t.ensures, applied_refused a.state.now a.change (omega (arith, c.if-r-le1.true, k)))

pub returns-then-r-eq2 : goal.returns-then-r-eq2
returns-then-r-eq2 c =
    let clear = c.clear in
    let if2 = c.if-r-eq2 in
    let if1 = c.if-r-le1 in
    let t = c.told_of-r in
    let a = c.args in
    let k : t.result.kind ≡ kind a.change.answer = ap (λ (x : Told). x.kind) t.ensures in
    (t.ensures, applied_cut a.state.now a.change (omega (arith, if1.false, k)) clear.new.dst (sym k ∙ if2.true) c.requires clear.ensures)

pub put_change-requires : goal.put_change-requires
put_change-requires c =
    let pre = c.requires in
    pre

pub returns : goal.returns
returns c =
    let put-change = c.put_change in
    let if2 = c.if-r-eq2 in
    let if1 = c.if-r-le1 in
    let t = c.told_of-r in
    let a = c.args in
    let k : t.result.kind ≡ kind a.change.answer = ap (λ (x : Told). x.kind) t.ensures in
    (t.ensures, applied_done a.state.now a.change (omega (arith, if1.false, k)) put-change.new.dst (λ e. if2.false (k ∙ e)) put-change.ensures)
