-- `any_lost_data`: no drive missing, none has data; else some drive is missing and has data just if some missing one has. Assumes nothing.
use mathlib.Core.Path.{refl, sym, ap, ◌∙◌}
use mathlib.Core.Bool.{Bool, ◌&&◌}
use Prim.Native.Nat.{ℕ}
use native.Mathlib.Omega.{arith}
use borrow.Author.Rules.{rules}
use Rattle.std.specs.List.{range_with_len}
use Rattle.std.proofs.lemmas.Iterator.{YieldsList-from_range}
use Rattle.std.proofs.lemmas.Iterator.Search.{any_from_yields_List}
use Rattle.spec.specs.Layout.{is_data}
use Rattle.spec.specs.Lists.{any, is_in}
use Rattle.disk_gather.specs.Ranges.{range_below, list_any_is}
use Rattle.recover_survey.specs.Stripes.{absent-any, absent_none}
use Rattle.recover_survey.proofs.any_lost_data.Goals as goal

pub returns-then-gone-eq0 : goal.returns-then-gone-eq0
returns-then-gone-eq0 c =
    let a = c.args in
    absent_none a.p a.gone (is_data a.p a.s) c.if-gone-eq0.true

pub returns : goal.returns
returns c =
    let a = c.args in
    let n = a.p.N in
    let f : ℕ → Bool = λ e. is_in a.gone e && is_data a.p a.s e in
    any_from_yields_List f _ _ c.any.result c.any.ensures.ran (YieldsList-from_range 0 n n refl (omega arith)) (λ x b q k. search rules)
    ∙ list_any_is f (range_with_len 0 n) ∙ ap (any f) (range_below n)
    ∙ sym (absent-any a.p a.gone (is_data a.p a.s))
