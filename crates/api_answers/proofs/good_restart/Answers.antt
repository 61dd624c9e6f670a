-- `good_restart`: `out_of_range` for the parameters, `names_one` for a drive below N; else only 255 is good (`names_none`). Assumes nothing.
use Rattle.api_answers.specs.Numbers.{out_of_range, names_one, names_none}
use Rattle.spec.specs.Params.{in_range}
use borrow.Author.Tests.{not-true, not-false}
use lib.Dec.{eqb}
use mathlib.Core.Bool.{true, false}
use mathlib.Core.Path.{◌≡◌, refl, sym, ◌∙◌}
use native.Mathlib.Omega.{arith}
use Rattle.api_answers.proofs.good_restart.Goals as goal

pub returns-then-not-in_range : goal.returns-then-not-in_range
returns-then-not-in_range c =
    let a = c.args in
    let e : in_range a.p ≡ false = sym c.in_range.ensures ∙ not-true c.in_range.result c.if-not-in_range.true-raw in
    out_of_range a.p a.missing e

pub returns-then-missing-p : goal.returns-then-missing-p
returns-then-missing-p c =
    let a = c.args in
    let if1 = c.if-not-in_range in
    let in_range_holds = c.in_range in
    let e : in_range a.p ≡ true = sym in_range_holds.ensures ∙ not-false in_range_holds.result if1.false-raw in
    names_one a.p a.missing e c.if-missing-p.true

pub returns : goal.returns
returns c =
    let a = c.args in
    let if1 = c.if-not-in_range in
    let in_range_holds = c.in_range in
    let e : in_range a.p ≡ true = sym in_range_holds.ensures ∙ not-false in_range_holds.result if1.false-raw in
    names_none a.p a.missing e (omega (arith, c.if-missing-p.false)) (eqb a.missing 255) refl
