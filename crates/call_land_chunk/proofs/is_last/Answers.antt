-- `is_last`: each test that fails makes its part of the and false; once both hold, what is left is the test of flying against 1. Assumes nothing.
use borrow.Author.Tests.{eq-eqb, ne_eqb, not-true, not-false}
use lib.Dec.{eqb}
use mathlib.Core.Bool.{Bool, true, false, ◌&&◌}
use mathlib.Core.Path.{◌≡◌, sym, ap}
use Rattle.call_land_chunk.proofs.is_last.Goals as goal

pub returns-then-not-done : goal.returns-then-not-done
returns-then-not-done c = ap (λ (x : Bool). x && eqb c.args.next c.args.p.S && eqb c.args.flying 1) (sym (not-true c.args.done c.if-not-done.true-raw))

pub returns-then-next-p : goal.returns-then-next-p
returns-then-next-p c =
    let a = c.args in
    let e : a.done ≡ true = not-false a.done c.if-not-done.false-raw in
    let f : eqb a.next a.p.S ≡ false = ne_eqb a.next a.p.S c.if-next-p.true in
    λ j. sym e j && sym f j && eqb a.flying 1

pub returns : goal.returns
returns c =
    let a = c.args in
    let e : a.done ≡ true = not-false a.done c.if-not-done.false-raw in
    let f : eqb a.next a.p.S ≡ true = eq-eqb a.next a.p.S c.if-next-p.false in
    λ j. sym e j && sym f j && eqb a.flying 1
