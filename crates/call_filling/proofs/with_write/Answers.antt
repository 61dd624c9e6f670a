-- `with_write`: a write adds the bit of k, which is once that bit; without one zero times the bit is added, which changes nothing. Assumes nothing.
use Prim.Native.Nat.{◌*◌}
use Rattle.spec.specs.Lists.{only}
use lib.Bits.{bit_or, or_zero_r}
use mathlib.Core.Bool.{Bool, cond}
use mathlib.Core.Path.{sym, ap, ◌∙◌}
use native.Mathlib.Nat.{zero-mul, one-mul}
use Rattle.call_filling.proofs.with_write.Goals as goal

pub returns-then-write : goal.returns-then-write
returns-then-write c =
    let a = c.args in
    c.with_drive.ensures ∙ ap (bit_or a.writes) (sym (one-mul (only a.k))) ∙ ap (λ (x : Bool). bit_or a.writes (cond x 1 0 * only a.k)) (sym c.if-write.true)

pub returns : goal.returns
returns c =
    let a = c.args in
    sym (or_zero_r a.writes) ∙ ap (bit_or a.writes) (sym (zero-mul (only a.k))) ∙ ap (λ (x : Bool). bit_or a.writes (cond x 1 0 * only a.k)) (sym c.if-write.false)
