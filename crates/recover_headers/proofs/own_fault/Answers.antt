-- `own_fault`: some drive is present and has another zone just if some present one has. Assumes nothing.
use mathlib.Core.Path.{refl, sym, ap, ◌∙◌}
use mathlib.Core.Bool.{Bool, not, ◌&&◌}
use Prim.Native.Nat.{ℕ}
use native.Mathlib.Omega.{arith}
use borrow.Author.Rules.{rules}
use Rattle.std.specs.List.{range_with_len}
use Rattle.std.proofs.lemmas.Iterator.{YieldsList-from_range}
use Rattle.std.proofs.lemmas.Iterator.Search.{any_from_yields_List}
use Rattle.spec.specs.Lists.{any, is_in}
use Rattle.disk_gather.specs.Ranges.{range_below, list_any_is}
use lib.Dec.{eqb}
use Rattle.spec.specs.Drives.{zone_on}
use Rattle.recover_headers.specs.Fronts.{any-present}
use Rattle.recover_headers.proofs.own_fault.Goals as goal

pub returns : goal.returns
returns c =
    let a = c.args in
    let n = a.p.N in
    let own : ℕ → Bool = λ e. not (eqb (zone_on a.names e) (zone_on a.segment e)) in
    let f : ℕ → Bool = λ e. not (is_in a.gone e) && own e in
    any_from_yields_List f _ _ c.any.result c.any.ensures.ran (YieldsList-from_range 0 n n refl (omega arith)) (λ x b q k. search rules)
    ∙ list_any_is f (range_with_len 0 n) ∙ ap (any f) (range_below n)
    ∙ sym (any-present a.p a.gone own own (λ d hd q. refl))
