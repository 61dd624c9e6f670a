-- `short_of`: both ways through the if give what `short_answer` refuses with, 2 or 1. Assumes nothing.
use Rattle.spec.specs.Host.{told_of}
use Rattle.spec.specs.declared.Answer.TheVariants.{Refused}
use mathlib.Core.Bool.{Bool, cond}
use mathlib.Core.Path.{sym, ap, ◌∙◌}
use Rattle.api_answers.proofs.short_of.Goals as goal

pub returns-then-good : goal.returns-then-good
returns-then-good c = c.told_of.ensures ∙ ap (λ (x : Bool). told_of (Refused (cond x 2 1))) (sym c.if-good.true)

pub returns : goal.returns
returns c = c.told_of-2.ensures ∙ ap (λ (x : Bool). told_of (Refused (cond x 2 1))) (sym c.if-good.false)
