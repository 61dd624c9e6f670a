-- `in_flight`: n plus the taken eighths from i on is all of them; a taken eighth i moves to n in its turn. Assumes nothing.
use Prim.Native.Nat.{ℕ, ◌+◌, ◌-◌, ◌≤◌}
use Rattle.spec.specs.Lists.{up_from, keep}
use lib.Dec.{eqb}
use Rattle.law_scans.specs.Scans.{kept-one, kept_none, kept-ended, kept-start}
use lib.ListN.{length, get_or}
use mathlib.Core.Bool.{Bool, not}
use mathlib.Core.Path.{◌≡◌, sym, ap, ◌∙◌}
use native.Mathlib.Omega.{arith}
use Rattle.mem_rows.proofs.in_flight.Goals as goal
use Rattle.mem_rows.proofs.in_flight.Goals.{else-not-is_free, then-not-is_free}

pub loop-i-init : goal.loop-i-init
loop-i-init c = (omega arith, kept-start (λ k. not (eqb (get_or c.args.filled k 0) 0)) 8)

pub loop-i-preserved : goal.loop-i-preserved
loop-i-preserved c =
    let l = c.loop-i in
    let f : ℕ → Bool = λ k. not (eqb (get_or c.args.filled k 0) 0) in
    let r : c.if-not-is_free.n + length (keep f (up_from (l.i + 1) (8 - (l.i + 1)))) ≡ l.n + length (keep f (up_from l.i (8 - l.i))) =
    elim c.if-not-is_free.branch [
      | then-not-is_free w ↦ ap (λ (x : ℕ). x + length (keep f (up_from (l.i + 1) (8 - (l.i + 1))))) w.n-is
          ∙ sym (kept-one f l.i 8 l.n (omega arith) (ap not (sym c.is_free.ensures) ∙ w.if-not-is_free.true-raw))
      | else-not-is_free w ↦ ap (λ (x : ℕ). x + length (keep f (up_from (l.i + 1) (8 - (l.i + 1))))) w.n-is
          ∙ sym (kept_none f l.i 8 l.n (omega arith) (ap not (sym c.is_free.ensures) ∙ w.if-not-is_free.false-raw))
    ] in
    let b : c.if-not-is_free.n ≤ l.i + 1 = elim c.if-not-is_free.branch [ then-not-is_free w ↦ omega (arith, w.n-is) | else-not-is_free w ↦ omega (arith, w.n-is) ] in
    (b, r ∙ l.invariant.1)

pub returns : goal.returns
returns c =
    let l = c.loop-i in
    sym (kept-ended (λ k. not (eqb (get_or c.args.filled k 0) 0)) l.i 8 l.n (omega arith)) ∙ l.invariant.1
