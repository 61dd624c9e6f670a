-- `add_number`: a number that is left out adds nothing. Assumes nothing.
use mathlib.Core.Path.{sym, ap, ◌∙◌}
use mathlib.Core.Bool.{Bool, cond}
use lib.Bits.{bit_xor}
use lib.ListN.{get_or}
use Rattle.disk_code.proofs.add_number.Goals as goal

pub returns-then-has_drive : goal.returns-then-has_drive
returns-then-has_drive c =
    let a = c.args in
    sym (ap (λ (y : Bool). cond y a.sum (bit_xor a.sum (get_or a.numbers.now a.k 0))) (sym c.has_drive.ensures ∙ c.if-has_drive.true))

pub returns : goal.returns
returns c =
    let a = c.args in
    sym (ap (λ (y : Bool). cond y a.sum (bit_xor a.sum (get_or a.numbers.now a.k 0))) (sym c.has_drive.ensures ∙ c.if-has_drive.false))
