-- `next_marked`: no number from k to i - 1 is marked; a marked i is the answer, else `step_over` passes unmarked ones; at end there is none. Assumes nothing.
use Prim.Native.Nat.{ℕ, ◌+◌, ◌≤◌, ◌<◌}
use Rattle.mem_marks.specs.Marks.{is_marked}
use mathlib.Core.Bool.{false}
use mathlib.Core.List.{List}
use mathlib.Core.Path.{◌≡◌, sym, ◌∙◌}
use native.Mathlib.Decide.{dec_lt}
use native.Mathlib.Omega.{arith}
use Rattle.mem_marks.proofs.next_marked.Goals as goal

go : (ms : List ℕ) (k i r j : ℕ) → ((j : ℕ) → k ≤ j → j < i → is_marked ms j ≡ false) → ((j : ℕ) → i ≤ j → j < i + r → is_marked ms j ≡ false) → k ≤ j
    → j < i + r → Dec (j < i) → is_marked ms j ≡ false
go ms k i r j f g x y (yes h) = f j x h
go ms k i r j f g x y (no h) = g j (omega arith) y

pub loop-i-init : goal.loop-i-init
loop-i-init c = (omega arith, omega arith, λ j x y. absurd (let q : ⊥ = omega arith in q))

pub returns-then-is_marked : goal.returns-then-is_marked
returns-then-is_marked c =
    let l = c.loop-i in
    (l.invariant.0, l.invariant.1, l.invariant.2, λ _. sym c.is_marked.ensures ∙ c.if-is_marked.true)

pub step_over-i-requires : goal.step_over-i-requires
step_over-i-requires c =
    let l = c.loop-i in
    (c.loop-i-test.true, omega arith, omega arith, sym c.is_marked.ensures ∙ c.if-is_marked.false)

pub loop-i-preserved : goal.loop-i-preserved
loop-i-preserved c =
    let l = c.loop-i in
    let args = c.args in
    let s = c.step_over-i.ensures in
    (omega (arith, s.0), s.1, λ j x y. go args.marks.now args.k l.i c.step_over-i.result j l.invariant.2 s.2 x y (dec_lt j l.i))

pub returns : goal.returns
returns c =
    let a = c.args in
    let l = c.loop-i in
    let e : l.i ≡ a.end = omega arith in
    (omega arith, omega arith, (λ j x y. l.invariant.2 j x (omega arith)), λ h. absurd (let q : ⊥ = omega arith in q))
