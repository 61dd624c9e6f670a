-- `writes_in`: n plus the writes among positions k on is the number of all; n is at most k, and a turn counts position k or passes it. Assumes nothing.
use Prim.Native.Nat.{ℕ, ◌+◌, ◌-◌, ◌≤◌}
use Rattle.spec.specs.Landing.{writes_in}
use Rattle.spec.specs.Lists.{up_from, keep, tally}
use Rattle.spec.specs.Memory.{filled_in_of, is_write}
use Rattle.law_scans.specs.Scans.{kept-one, kept_none, kept-ended, kept-start}
use Rattle.call_land_chunk.specs.Alone.{alone}
use lib.ListN.{length}
use mathlib.Core.Bool.{Bool}
use mathlib.Core.List.{List}
use mathlib.Core.Path.{◌≡◌, sym, ap, ◌∙◌}
use native.Mathlib.Omega.{arith}
use Rattle.call_land_chunk.proofs.writes_in.Goals as goal
use Rattle.call_land_chunk.proofs.writes_in.Goals.{else-has_drive, then-has_drive}

pub loop-k-init : goal.loop-k-init
unfolding writes_in tally
loop-k-init c =
    let r = c.args.row in
    let e = c.filled_in-f.ensures in
    (e, omega arith, omega arith, ap (λ (x : ℕ). 0 + length (keep (is_write (alone r) 0) (up_from 0 (x - 0)))) e ∙ kept-start (is_write (alone r) 0) (filled_in_of (alone r) 0))

pub loop-k-preserved : goal.loop-k-preserved
unfolding is_write alone
loop-k-preserved c =
    let filled_in = c.filled_in-f in
    let args = c.args in
    let r = args.row in
    let l = c.loop-k in
    let m = filled_in.result in
    let f : ℕ → Bool = is_write (alone r) 0 in
    let t : List ℕ = up_from (l.k + 1) (m - (l.k + 1)) in
    let b : c.if-has_drive.n + length (keep f t) ≡ l.n + length (keep f (up_from l.k (m - l.k))) =
    elim c.if-has_drive.branch [
      | then-has_drive w ↦ ap (λ (x : ℕ). x + length (keep f t)) w.n-is
          ∙ sym (kept-one f l.k m l.n (omega arith) (sym c.has_drive.ensures ∙ w.if-has_drive.true))
      | else-has_drive w ↦ ap (λ (x : ℕ). x + length (keep f t))
          w.n-is ∙ sym (kept_none f l.k m l.n (omega arith) (sym c.has_drive.ensures ∙ w.if-has_drive.false))
    ] in
    let h : c.if-has_drive.n ≤ l.k + 1 = elim c.if-has_drive.branch [ then-has_drive w ↦ omega (arith, w.n-is) | else-has_drive w ↦ omega (arith, w.n-is) ] in
    (l.invariant.0, omega arith, h, b ∙ l.invariant.3)

pub returns : goal.returns
returns c =
    let r = c.args.row in
    let l = c.loop-k in
    sym (kept-ended (is_write (alone r) 0) l.k c.filled_in-f.result l.n (omega arith)) ∙ l.invariant.3
