-- `misplaced`: a pointer of 0 is `misplaced-low`, above S `misplaced_high`; between them the groups are compared (`misplaced_else`). Assumes nothing.
use Prim.Native.Nat.{ℕ, ◌-◌}
use Rattle.spec.specs.Drives.{pointer_of}
use Rattle.spec.specs.Layout.{group}
use Rattle.call_land_faults.specs.Lowest.{misplaced-low, misplaced_high, misplaced_else}
use lib.Dec.{eqb}
use mathlib.Core.Bool.{not}
use mathlib.Core.Path.{◌≡◌, ap, ◌∙◌}
use native.Mathlib.Omega.{arith}
use Rattle.call_land_faults.proofs.misplaced.Goals as goal

pub returns-then-n-lt1 : goal.returns-then-n-lt1
returns-then-n-lt1 c off im h =
    let a = c.args in
    let q = c.requires.pointers_len in
    misplaced-low a.p off im a.pointers.now h q.0 a.d a.zone a.stripe q.1 q.2 (omega (arith, c.if-n-lt1.true, c.pointer-n.ensures))

pub returns-then-p-n : goal.returns-then-p-n
returns-then-p-n c off im h =
    let a = c.args in
    let if1 = c.if-n-lt1 in
    let pointer = c.pointer-n in
    let pre = c.requires in
    let q = pre.pointers_len in
    misplaced_high a.p off im a.pointers.now h q.0 a.d a.zone a.stripe q.1 q.2 (omega (arith, if1.false, pointer.ensures)) (omega (arith, c.if-p-n.true, pointer.ensures))

pub returns : goal.returns
returns c off im h =
    let a = c.args in
    let if2 = c.if-p-n in
    let if1 = c.if-n-lt1 in
    let pointer = c.pointer-n in
    let pre = c.requires in
    let q = pre.pointers_len in
    let n = pointer_of a.p a.pointers.now a.d a.zone in
    let e : pointer.result ≡ n = pointer.ensures in
    let x : c.group.result ≡ group a.p (n - 1) = c.group.ensures.0 ∙ ap (λ (k : ℕ). group a.p (k - 1)) e in
    let y : c.group-2.result ≡ group a.p a.stripe = c.group-2.ensures.0 in
    (λ j. not (eqb (x j) (y j)))
    ∙ misplaced_else a.p off im a.pointers.now h q.0 a.d a.zone a.stripe q.1 q.2 (omega (arith, if1.false, e)) (omega (arith, if2.false, e))
