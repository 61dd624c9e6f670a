-- `pointer_fault`: the lowest zone with a pointer above. Assumes nothing.
use mathlib.Core.Path.{refl, sym, ap, ◌∙◌}
use mathlib.Core.Bool.{Bool}
use mathlib.Core.List.{List}
use Prim.Native.Nat.{ℕ}
use native.Mathlib.Omega.{arith}
use borrow.Author.Rules.{rules}
use Rattle.std.specs.List.{range_with_len}
use Rattle.std.proofs.lemmas.Iterator.{YieldsList-from_range}
use Rattle.std.proofs.lemmas.Iterator.Adapters.{option_map_id}
use Rattle.std.proofs.lemmas.Iterator.Search.{find_from_yields_List}
use Rattle.spec.specs.Lists.{keep}
use Rattle.disk_gather.specs.Ranges.{range_below, opt_first, find_opt_first}
use Rattle.recover_headers.specs.Fronts.{above_by, pointer_list}
use Rattle.recover_headers.proofs.pointer_fault.Goals as goal

pub returns-clause-first : goal.returns-clause-first
returns-clause-first c =
    let a = c.args in
    let n = a.p.Z in
    let f : ℕ → Bool = above_by a.p a.pointers.now a.offline.now a.gone in
    λ im h. sym (option_map_id c.find.result)
    ∙ find_from_yields_List f _ _ c.find.result c.find.ensures.ran (YieldsList-from_range 0 n n refl (omega arith)) (λ x b q k. search rules)
    ∙ find_opt_first f (range_with_len 0 n) ∙ ap (λ (l : List ℕ). opt_first (keep f l)) (range_below n)
    ∙ ap opt_first (sym (pointer_list a.p a.offline.now im a.pointers.now h c.requires.pointers_len.0 a.gone))
