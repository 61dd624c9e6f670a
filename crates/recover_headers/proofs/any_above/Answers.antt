-- `any_above`: some drive is present and above just if some present one is. Assumes nothing.
use mathlib.Core.Path.{refl, sym, ap, ◌∙◌}
use mathlib.Core.Bool.{Bool, not, ◌&&◌}
use Prim.Native.Nat.{ℕ}
use native.Mathlib.Omega.{arith}
use borrow.Author.Rules.{rules}
use Rattle.std.specs.List.{range_with_len}
use Rattle.std.proofs.lemmas.Iterator.{YieldsList-from_range}
use Rattle.std.proofs.lemmas.Iterator.Search.{any_from_yields_List}
use Rattle.spec.specs.Lists.{any, is_in}
use Rattle.disk_gather.specs.Ranges.{range_below, list_any_is}
use lib.Dec.{ltb}
use Rattle.spec.specs.Drives.{pointer_of, is_good}
use Rattle.spec.specs.Params.{capacity}
use Rattle.recover_headers.specs.Fronts.{above_any}
use Rattle.recover_headers.proofs.any_above.Goals as goal

pub returns : goal.returns
returns c =
    let a = c.args in
    let n = a.p.N in
    let f : ℕ → Bool = λ e. not (is_in a.gone e) && (is_good a.p a.offline.now e a.zone && ltb (capacity a.p) (pointer_of a.p a.pointers.now e a.zone)) in
    any_from_yields_List f _ _ c.any.result c.any.ensures.ran (YieldsList-from_range 0 n n refl (omega arith)) (λ x b q k. search rules)
    ∙ list_any_is f (range_with_len 0 n) ∙ ap (any f) (range_below n)
    ∙ sym (above_any a.p a.pointers.now a.offline.now a.gone a.zone)
