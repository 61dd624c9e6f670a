-- `lowest_free`: the first zone that passes the test. Assumes nothing.
use mathlib.Core.Path.{refl, sym, ap, ◌∙◌}
use mathlib.Core.Bool.{Bool}
use mathlib.Core.List.{List}
use Prim.Native.Nat.{ℕ}
use native.Mathlib.Omega.{arith}
use borrow.Author.Rules.{rules}
use Rattle.std.specs.List.{range_with_len}
use Rattle.std.proofs.lemmas.Iterator.{YieldsList-from_range}
use Rattle.std.proofs.lemmas.Iterator.Adapters.{option_map_id}
use Rattle.std.proofs.lemmas.Iterator.Search.{find_from_yields_List}
use Rattle.spec.specs.Lists.{keep}
use Rattle.disk_gather.specs.Ranges.{range_below, opt_first, find_opt_first}
use Rattle.recover_segments.specs.Taken.{free_in}
use Rattle.recover_segments.proofs.lowest_free.Goals as goal

pub returns : goal.returns
returns c =
    let a = c.args in
    let n = a.p.Z in
    let f : ℕ → Bool = free_in a.p a.offline.now a.marks.now a.drive in
    sym (option_map_id c.find.result)
    ∙ find_from_yields_List f _ _ c.find.result c.find.ensures.ran (YieldsList-from_range 0 n n refl (omega arith)) (λ x b q k. search rules)
    ∙ find_opt_first f (range_with_len 0 n) ∙ ap (λ (l : List ℕ). opt_first (keep f l)) (range_below n)
