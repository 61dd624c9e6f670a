-- `bad_numbers`: parameters out of range are `numbers_bad`; else what is left is whether the drive is the one named missing (`numbers_named`). Assumes nothing.
use mathlib.Core.Path.{sym, ap, ◌∙◌}
use mathlib.Core.Bool.{not}
use Rattle.call_rebuild.specs.Order.{numbers_bad, numbers_named}
use Rattle.call_rebuild.proofs.bad_numbers.Goals as goal

pub returns-then-not-in_range : goal.returns-then-not-in_range
returns-then-not-in_range c =
    let a = c.args in
    sym (numbers_bad a.p a.missing a.drive (sym c.in_range.ensures ∙ c.if-not-in_range.true))

pub returns : goal.returns
returns c =
    let a = c.args in
    ap not c.names_missing.ensures ∙ sym (numbers_named a.p a.missing a.drive (sym c.in_range.ensures ∙ c.if-not-in_range.false))
