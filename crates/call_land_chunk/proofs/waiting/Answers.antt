-- `waiting`: d at N or above makes the first part of the and false, slot at 8 or above the second; else `ready` is what is left. Assumes nothing.
use Rattle.spec.specs.Landing.{ready}
use Rattle.spec.specs.Memory.{slot_count}
use Rattle.call_land_chunk.specs.Alone.{alone}
use borrow.Author.Tests.{lt-ltb, le-ltb}
use lib.Dec.{ltb}
use mathlib.Core.Bool.{Bool, true, false, ◌&&◌}
use mathlib.Core.Path.{◌≡◌, sym, ap, ◌∙◌}
use native.Mathlib.Omega.{arith}
use Rattle.call_land_chunk.proofs.waiting.Goals as goal

pub returns-then-p-d : goal.returns-then-p-d
returns-then-p-d c =
    let a = c.args in
    ap (λ (x : Bool). x && ltb a.slot slot_count && ready a.p (alone a.row) 0 a.d) (sym (le-ltb a.d a.p.N c.if-p-d.true))

pub returns-then-slot-ge8 : goal.returns-then-slot-ge8
unfolding slot_count
returns-then-slot-ge8 c =
    let a = c.args in
    let e : true ≡ ltb a.d a.p.N = sym (lt-ltb a.d a.p.N (omega (arith, c.if-p-d.false))) in
    let f : false ≡ ltb a.slot 8 = sym (le-ltb a.slot 8 (omega (arith, c.if-slot-ge8.true))) in
    λ j. e j && f j && ready a.p (alone a.row) 0 a.d

pub returns : goal.returns
unfolding slot_count
returns c =
    let a = c.args in
    let e : true ≡ ltb a.d a.p.N = sym (lt-ltb a.d a.p.N (omega (arith, c.if-p-d.false))) in
    let f : true ≡ ltb a.slot 8 = sym (lt-ltb a.slot 8 (omega (arith, c.if-slot-ge8.false))) in
    c.ready.ensures ∙ (λ j. e j && f j && ready a.p (alone a.row) 0 a.d)
