-- `good_rebuild`: `out_of_reach` for parameters out of range, `names_beyond` for a drive not below N; else masks are compared (`names_it`). Assumes nothing.
use Rattle.api_answers.specs.Numbers.{out_of_reach, names_beyond, names_it}
use Rattle.spec.specs.Memory.{state_of}
use Rattle.spec.specs.Params.{in_range}
use borrow.Author.Tests.{not-true, not-false}
use lib.Dec.{eqb}
use mathlib.Core.Bool.{true, false}
use mathlib.Core.Path.{◌≡◌, refl, sym, ◌∙◌}
use native.Mathlib.Omega.{arith}
use Rattle.api_answers.proofs.good_rebuild.Goals as goal

pub returns-then-not-in_range : goal.returns-then-not-in_range
returns-then-not-in_range c =
    let a = c.args in
    let e : in_range a.p ≡ false = sym c.in_range.ensures ∙ not-true c.in_range.result c.if-not-in_range.true-raw in
    out_of_reach a.p (state_of a.state.now) a.drive e

pub returns-then-p-drive : goal.returns-then-p-drive
returns-then-p-drive c =
    let a = c.args in
    let if1 = c.if-not-in_range in
    let in_range_holds = c.in_range in
    let e : in_range a.p ≡ true = sym in_range_holds.ensures ∙ not-false in_range_holds.result if1.false-raw in
    names_beyond a.p (state_of a.state.now) a.drive e c.if-p-drive.true

pub returns : goal.returns
returns c =
    let a = c.args in
    let if2 = c.if-p-drive in
    let if1 = c.if-not-in_range in
    let in_range_holds = c.in_range in
    let e : in_range a.p ≡ true = sym in_range_holds.ensures ∙ not-false in_range_holds.result if1.false-raw in
    names_it a.p (state_of a.state.now) a.drive e (omega (arith, if2.false)) c.missing_in.result c.only_drive.result
    (eqb c.missing_in.result c.only_drive.result) c.missing_in.ensures c.only_drive.ensures refl
