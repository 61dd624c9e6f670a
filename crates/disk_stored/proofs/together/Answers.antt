-- `together`: full: the records of a footer block, at least 3; else 1. Assumes nothing.
use mathlib.Core.Path.{sym, ap, ◌∙◌}
use mathlib.Core.Bool.{Bool}
use native.Mathlib.Omega.{arith}
use Rattle.disk_stored.specs.Stored.{together}
use Rattle.disk_stored.proofs.together.Goals as goal

pub returns-then-full : goal.returns-then-full
unfolding together
returns-then-full c =
    (c.per_footer.ensures.0 ∙ ap (λ (x : Bool). together c.args.p x) (sym c.if-full.true), omega (arith, c.per_footer.ensures.1))

pub returns : goal.returns
unfolding together
returns c = (sym (ap (λ (x : Bool). together c.args.p x) c.if-full.false), omega arith)
