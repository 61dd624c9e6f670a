-- `change_to`: both ways through the if give `change_to` unfolded at that value of closes. Assumes nothing.
use Rattle.call_land.specs.Marked.{change_to}
use mathlib.Core.Path.{sym, ap}
use Rattle.call_land.proofs.change_to.Goals as goal

pub returns-then-closes : goal.returns-then-closes
unfolding change_to
returns-then-closes c =
    let a = c.args in
    ap (change_to a.answer a.front a.i a.row) (sym c.if-closes.true)

pub returns-else-closes : goal.returns-else-closes
unfolding change_to
returns-else-closes c =
    let a = c.args in
    ap (change_to a.answer a.front a.i a.row) (sym c.if-closes.false)
