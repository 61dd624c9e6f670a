-- `low_drive`: the first present drive; where there is none it is 0. Assumes nothing.
use mathlib.Core.Path.{◌≡◌, refl, sym, subst, ap, ◌∙◌}
use mathlib.Core.Bool.{Bool, not}
use mathlib.Core.List.{List}
use Prim.Native.Nat.{ℕ, ◌<◌}
use native.Mathlib.Omega.{arith}
use borrow.Author.Rules.{rules}
use Rattle.std.specs.List.{range_with_len}
use Rattle.std.specs.Option.{unwrap_or}
use Rattle.std.specs.Prelude.{Option}
use Rattle.std.proofs.lemmas.Iterator.{YieldsList-from_range}
use Rattle.std.proofs.lemmas.Iterator.Adapters.{option_map_id}
use Rattle.std.proofs.lemmas.Iterator.Search.{find_from_yields_List}
use Rattle.spec.specs.Lists.{keep, first_or, below, is_in}
use Rattle.spec.specs.Params.{drives_of, present}
use Rattle.spec.specs.Segments.{low_drive}
use Rattle.law_basic.specs.Geometry.{ranged}
use Rattle.disk_gather.specs.Ranges.{range_below, find_first, first_within}
use Rattle.disk_gather.proofs.low_drive.Goals as goal

pub returns : goal.returns
unfolding low_drive present drives_of below
returns c =
    let n = c.args.p.N in
    let f : ℕ → Bool = λ d. not (is_in c.args.gone d) in
    let found = find_from_yields_List f _ _ c.find.result c.find.ensures.ran (YieldsList-from_range 0 n n refl (omega arith)) (λ x b q k. search rules) in
    let e : c.unwrap_or.result ≡ first_or 0 (keep f (below n)) =
    c.unwrap_or.ensures ∙ ap (λ (o : Option ℕ). unwrap_or o 0) (sym (option_map_id c.find.result) ∙ found)
    ∙ find_first f (range_with_len 0 n) ∙ ap (λ (l : List ℕ). first_or 0 (keep f l)) (range_below n) in
    (e, subst (λ (k : ℕ). k < n) (sym e) (first_within f n (omega (arith, (ranged c.args.p c.requires).drives_low)) 0 n (omega arith)))
