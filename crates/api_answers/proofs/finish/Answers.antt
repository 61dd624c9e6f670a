-- `finish`: kinds 0 and 1 are the refusals and leave the bytes; above them the state is encoded. Assumes nothing.
use Rattle.spec.specs.declared.Told.{Told}
use Rattle.spec.specs.Answers.{kind, is_refused}
use Rattle.spec.specs.Memory.{state_bytes}
use borrow.Author.Tests.{le-leb, lt-leb}
use mathlib.Core.Bool.{Bool, true, false, cond}
use mathlib.Core.Path.{◌≡◌, sym, ap, ◌∙◌}
use native.Mathlib.Omega.{arith}
use Rattle.api_answers.proofs.finish.Goals as goal

pub returns-then-r-le1 : goal.returns-then-r-le1
unfolding is_refused
returns-then-r-le1 c =
    let a = c.args in
    let told_of = c.told_of-r in
    let k : told_of.result.kind ≡ kind a.done.answer = ap (λ (x : Told). x.kind) told_of.ensures in
    let e : is_refused a.done.answer ≡ true = le-leb (kind a.done.answer) 1 (omega (arith, c.if-r-le1.true, k)) in
    (told_of.ensures, ap (λ (x : Bool). cond x a.state.now (state_bytes a.done.state)) (sym e))

pub encode-requires : goal.encode-requires
encode-requires c =
    let pre = c.requires in
    pre

pub shape_of-state : goal.shape_of-state
shape_of-state c = c.encode.auto.dst

pub returns : goal.returns
unfolding is_refused
returns c =
    let a = c.args in
    let encode = c.encode in
    let if1 = c.if-r-le1 in
    let told_of = c.told_of-r in
    let k : told_of.result.kind ≡ kind a.done.answer = ap (λ (x : Told). x.kind) told_of.ensures in
    let e : is_refused a.done.answer ≡ false = lt-leb (kind a.done.answer) 1 (omega (arith, if1.false, k)) in
    (told_of.ensures, encode.ensures ∙ ap (λ (x : Bool). cond x a.state.now (state_bytes a.done.state)) (sym e))
