-- `is_elsewhere`: a free eighth gives false; in another the two groups are those of its stripe and of the next one, as in `other_group`. Assumes nothing.
use Rattle.spec.specs.Memory.{stripe_in, is_free, filled_in_of}
use Rattle.spec.specs.Write.{other_group}
use Rattle.mem_rows.specs.Rows.{behind}
use lib.Dec.{eqb}
use mathlib.Core.Bool.{Bool, not, ◌&&◌}
use mathlib.Core.Path.{sym, ap, ◌∙◌}
use Rattle.call_filling.proofs.is_elsewhere.Goals as goal

pub returns-then-is_free : goal.returns-then-is_free
unfolding is_free filled_in_of
returns-then-is_free c =
    let a = c.args in
    ap (λ (x : Bool). not x && other_group a.p (behind a.f) a.i) (sym c.if-is_free.true ∙ c.is_free.ensures)

pub returns : goal.returns
unfolding other_group stripe_in is_free filled_in_of
returns c =
    let a = c.args in
    λ j. not ((sym c.if-is_free.false ∙ c.is_free.ensures) j) && not (eqb (c.group.ensures.0 j) (c.group-2.ensures.0 j))
