-- `fold_numbers`: the sum is the exclusive or of the first k; a turn adds the next (`numbers_more`). Assumes nothing.
use mathlib.Core.Path.{◌≡◌, sym, ap, ◌∙◌}
use mathlib.Core.Bool.{cond}
use mathlib.Core.List.{map}
use Prim.Native.Nat.{ℕ}
use native.Mathlib.Omega.{arith}
use lib.Bits.{bit_xor}
use lib.ListN.{get_or}
use Rattle.spec.specs.Bytes.{xor_all}
use Rattle.spec.specs.Lists.{is_in}
use Rattle.disk_code.specs.Folds.{kept, numbers_none, numbers_more}
use Rattle.disk_code.proofs.fold_numbers.Goals as goal

pub loop-k-init : goal.loop-k-init
loop-k-init c = (omega arith, sym (numbers_none (λ i. get_or c.args.numbers.now i 0) c.args.out))

pub loop-k-preserved : goal.loop-k-preserved
loop-k-preserved c =
    let a = c.args in
    let l = c.loop-k in
    let f : ℕ → ℕ = λ i. get_or a.numbers.now i 0 in (
      omega (arith, c.loop-k-test.true),
      c.add_number-sum.ensures ∙ ap (λ (x : ℕ). cond (is_in a.out l.k) x (bit_xor x (f l.k))) l.invariant.1 ∙ sym (numbers_more f a.out l.k),
    )

pub returns : goal.returns
returns c =
    let a = c.args in
    let l = c.loop-k in
    let e : l.k ≡ a.n = omega (arith, c.loop-k-test.false, l.invariant.0) in
    l.invariant.1 ∙ ap (λ (x : ℕ). xor_all (map (λ i. get_or a.numbers.now i 0) (kept a.out x))) e
