-- `name_fault`: some drive's name is bad. Assumes nothing.
use mathlib.Core.Path.{refl, ap, ◌∙◌}
use mathlib.Core.Bool.{Bool}
use Prim.Native.Nat.{ℕ}
use native.Mathlib.Omega.{arith}
use borrow.Author.Rules.{rules}
use Rattle.std.specs.List.{range_with_len}
use Rattle.std.proofs.lemmas.Iterator.{YieldsList-from_range}
use Rattle.std.proofs.lemmas.Iterator.Search.{any_from_yields_List}
use Rattle.spec.specs.Lists.{any}
use Rattle.disk_gather.specs.Ranges.{range_below, list_any_is}
use Rattle.spec.specs.Drives.{zone_on}
use Rattle.recover_headers.specs.Names.{name_bad}
use Rattle.recover_headers.proofs.name_fault.Goals as goal

pub returns : goal.returns
returns c =
    let a = c.args in
    let n = a.p.N in
    let f : ℕ → Bool = λ e. name_bad a.p a.offline.now a.counts.now e (zone_on a.names e) in
    any_from_yields_List f _ _ c.any.result c.any.ensures.ran (YieldsList-from_range 0 n n refl (omega arith)) (λ x b q k. search rules)
    ∙ list_any_is f (range_with_len 0 n) ∙ ap (any f) (range_below n)
