-- `step_over`: a step of 1 passes only k, which is not marked; a step of 8 passes a byte that is 0, so that it has no marks. Assumes nothing.
use Rattle.mem_marks.specs.Marks.{byte_empty, unmarked_one}
use native.Mathlib.Omega.{arith}
use Rattle.mem_marks.proofs.step_over.Goals as goal

pub returns-then-k-ne0 : goal.returns-then-k-ne0
returns-then-k-ne0 c =
    let a = c.args in
    let h = c.requires in
    (omega arith, omega arith, λ j. unmarked_one a.marks.now a.k j h.3)

pub returns-then-end-k : goal.returns-then-end-k
returns-then-end-k c =
    let a = c.args in
    let h = c.requires in
    (omega arith, omega arith, λ j. unmarked_one a.marks.now a.k j h.3)

pub returns-then-marks-k-ne0 : goal.returns-then-marks-k-ne0
returns-then-marks-k-ne0 c =
    let a = c.args in
    let h = c.requires in
    (omega arith, omega arith, λ j. unmarked_one a.marks.now a.k j h.3)

pub returns : goal.returns
returns c =
    let a = c.args in
    (omega arith, omega arith, λ j x y. byte_empty a.marks.now a.k j c.if-k-ne0.false x y c.if-marks-k-ne0.false)
