-- `on_all`: all drives are missing or have a zone. Assumes nothing.
use mathlib.Core.Path.{refl, sym, ap, ◌∙◌}
use mathlib.Core.Bool.{Bool, ◌||◌}
use Prim.Native.Nat.{ℕ}
use native.Mathlib.Omega.{arith}
use borrow.Author.Rules.{rules}
use lib.Dec.{ltb}
use Rattle.std.specs.List.{range_with_len}
use Rattle.std.proofs.lemmas.Iterator.{YieldsList-from_range}
use Rattle.std.proofs.lemmas.Iterator.Search.{all_from_yields_List}
use Rattle.spec.specs.Drives.{zone_on}
use Rattle.spec.specs.Lists.{all, below, is_in}
use Rattle.spec.specs.Params.{drives_of, present}
use Rattle.law_basic.specs.Ranges.{all_keep}
use Rattle.disk_gather.specs.Ranges.{range_below, list_all_is}
use Rattle.disk_gather.proofs.on_all.Goals as goal

pub returns : goal.returns
unfolding present drives_of
returns c =
    let a = c.args in
    let n = a.p.N in
    let f : ℕ → Bool = λ e. is_in a.gone e || ltb (zone_on a.segment e) a.p.Z in
    all_from_yields_List f _ _ c.all.result c.all.ensures.ran (YieldsList-from_range 0 n n refl (omega arith)) (λ x b q k. search rules)
    ∙ list_all_is f (range_with_len 0 n) ∙ ap (all f) (range_below n)
    ∙ sym (all_keep (λ d. ltb (zone_on a.segment d) a.p.Z) (is_in a.gone) (below n))
