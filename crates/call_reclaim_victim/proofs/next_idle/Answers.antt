-- `next_idle`: one found stays (`number_kept`); else the place, or none where it is in flight (`number_other`). Assumes nothing.
use Rattle.call_reclaim_victim.specs.Waiting.{number_kept, number_other}
use Rattle.std.specs.Prelude.{Some, None}
use mathlib.Core.Bool.{Bool, cond}
use mathlib.Core.Path.{sym, ap, ◌∙◌}
use Rattle.call_reclaim_victim.proofs.next_idle.Goals as goal

pub is_flying-requires : goal.is_flying-requires
is_flying-requires c = record { p_value = c.requires.p_value; whole = c.requires.whole; place_bound = c.requires.place_bound }

pub returns-then-is_some : goal.returns-then-is_some
returns-then-is_some c = λ off. number_kept c.args.first _ (sym c.is_some.ensures ∙ c.if-is_some.true)

pub returns-then-is_flying : goal.returns-then-is_flying
returns-then-is_flying c =
    let a = c.args in
    let e = sym c.is_some.ensures ∙ c.if-is_some.false in
    λ off. sym (number_other a.first _ e ∙ ap (λ (x : Bool). cond x None (Some a.place.0)) (sym (c.is_flying.ensures off) ∙ c.if-is_flying.true))

pub returns : goal.returns
returns c =
    let a = c.args in
    let e = sym c.is_some.ensures ∙ c.if-is_some.false in
    λ off. sym (number_other a.first _ e ∙ ap (λ (x : Bool). cond x None (Some a.place.0)) (sym (c.is_flying.ensures off) ∙ c.if-is_flying.false))
