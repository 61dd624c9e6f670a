-- `slot_of`: i plus the index of the first hit from i on is the answer; a hit at i is it, a miss passes on, at 8 there is none: 8. Assumes nothing.
use Rattle.spec.specs.Landing.{slot_of}
use Rattle.spec.specs.Memory.{slot_count, slots, stripe_in, is_free}
use Rattle.law_basic.specs.Ranges.{found_hit, found_miss, found_end, found-start}
use lib.Dec.{eqb}
use mathlib.Core.Bool.{not, ◌&&◌}
use mathlib.Core.Path.{◌≡◌, sym, ◌∙◌}
use native.Mathlib.Omega.{arith}
use Rattle.mem_state.proofs.slot_of.Goals as goal

pub loop-i-init : goal.loop-i-init
unfolding slot_of slots slot_count
loop-i-init c = let a = c.args in found-start (λ k. not (is_free a.state k) && eqb (stripe_in a.state k) a.stripe) 8

pub returns-then-is_stripe : goal.returns-then-is_stripe
returns-then-is_stripe c =
    let a = c.args in
    let l = c.loop-i in
    sym (found_hit (λ k. not (is_free a.state k) && eqb (stripe_in a.state k) a.stripe) l.i 8 (omega arith) (sym c.is_stripe.ensures ∙ c.if-is_stripe.true)) ∙ l.invariant

pub loop-i-preserved : goal.loop-i-preserved
loop-i-preserved c =
    let a = c.args in
    let l = c.loop-i in
    sym (found_miss (λ k. not (is_free a.state k) && eqb (stripe_in a.state k) a.stripe) l.i 8 (omega arith) (sym c.is_stripe.ensures ∙ c.if-is_stripe.false))
    ∙ l.invariant

pub returns : goal.returns
returns c =
    let a = c.args in
    let l = c.loop-i in
    let e : l.i ≡ 8 = omega arith in
    sym e ∙ sym (found_end (λ k. not (is_free a.state k) && eqb (stripe_in a.state k) a.stripe) l.i 8 (omega arith)) ∙ l.invariant
