-- `count_few`: n plus those marked from k on is all that are marked from lo on; a marked k moves to n in its turn. Assumes nothing.
use Prim.Native.Nat.{ℕ, ◌-◌}
use Rattle.spec.specs.Lists.{up_from, keep}
use Rattle.mem_marks.specs.Marks.{is_marked}
use Rattle.law_scans.specs.Scans.{kept-one, kept_none, kept-ended}
use lib.ListN.{length}
use mathlib.Core.Bool.{Bool}
use mathlib.Core.Path.{sym, ◌∙◌}
use native.Mathlib.Nat.{zero-add}
use native.Mathlib.Omega.{arith}
use Rattle.mem_marks.proofs.count_few.Goals as goal
use Rattle.mem_marks.proofs.count_few.Goals.{then-is_marked, else-is_marked}

pub loop-k-init : goal.loop-k-init
loop-k-init c =
    let a = c.args in
    (zero-add (length (keep (is_marked a.marks.now) (up_from a.lo (a.hi - a.lo)))), omega arith)

pub loop-k-preserved : goal.loop-k-preserved
loop-k-preserved c =
    let a = c.args in
    let l = c.loop-k in
    let t = c.loop-k-test.true in
    let f : ℕ → Bool = is_marked a.marks.now in
    let e = c.is_marked.ensures in
    elim c.if-is_marked.branch [
      | then-is_marked w ↦ (omega (arith, kept-one f l.k a.hi l.n t (sym e ∙ w.if-is_marked.true), l.invariant.0), omega arith)
      | else-is_marked w ↦ (omega (arith, kept_none f l.k a.hi l.n t (sym e ∙ w.if-is_marked.false), l.invariant.0), omega arith)
    ]

pub returns : goal.returns
returns c =
    let a = c.args in
    let l = c.loop-k in
    (sym (kept-ended (is_marked a.marks.now) l.k a.hi l.n (omega arith)) ∙ l.invariant.0, omega arith)
