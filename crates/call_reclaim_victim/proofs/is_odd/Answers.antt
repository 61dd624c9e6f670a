-- `is_odd`: block 0 is a header (`odd_low`); from 1 on the place is odd just when its block is above S (`odd_high`). Assumes nothing.
use Prim.Native.Nat.{ℕ}
use Rattle.call_reclaim_victim.specs.Waiting.{odd_low, odd_high}
use lib.Dec.{ltb}
use mathlib.Core.Path.{sym, ap, ◌∙◌}
use native.Mathlib.Omega.{arith}
use Rattle.call_reclaim_victim.proofs.is_odd.Goals as goal

pub returns-then-block-lt1 : goal.returns-then-block-lt1
returns-then-block-lt1 c =
    let args = c.args in
    sym (odd_low args.p args.place.0 (omega (arith, c.if-block-lt1.true, c.place_block-block.ensures.0)))

pub returns : goal.returns
returns c =
    let a = c.args in
    let e = c.place_block-block.ensures.0 in
    ap (λ (x : ℕ). ltb a.p.S x) e ∙ sym (odd_high a.p a.place.0 (omega (arith, c.if-block-lt1.false, e)))
