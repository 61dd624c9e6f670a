-- `first_unsealed`: the first zone that passes the test. Assumes nothing.
use mathlib.Core.Path.{refl, sym, ap, ◌∙◌}
use mathlib.Core.Bool.{Bool, false, not, ◌&&◌}
use mathlib.Core.List.{List}
use Prim.Native.Nat.{ℕ, ◌*◌}
use native.Mathlib.Omega.{arith}
use lib.ListN.{get_or}
use borrow.Author.Rules.{rules}
use Rattle.std.specs.List.{range_with_len}
use Rattle.std.proofs.lemmas.Iterator.{YieldsList-from_range}
use Rattle.std.proofs.lemmas.Iterator.Adapters.{option_map_id}
use Rattle.std.proofs.lemmas.Iterator.Search.{find_from_yields_List}
use Rattle.spec.specs.Bytes.{part}
use Rattle.spec.specs.Drives.{view_of, sealed_in, seg}
use Rattle.spec.specs.Lists.{keep}
use Rattle.law_basic.specs.Ranges.{keep-below_same}
use Rattle.disk_gather.specs.Ranges.{range_below, opt_first, find_opt_first}
use Rattle.recover_segments.specs.Kept.{unsealed_at, unsealed_is}
use Rattle.recover_segments.proofs.first_unsealed.Goals as goal

pub returns-clause-first : goal.returns-clause-first
returns-clause-first c = λ off im h k r.
    let a = c.args in
    let p = a.p in
    let n = p.Z in
    let v = view_of p off im a.pointers.now in
    let f : ℕ → Bool = λ z. get_or a.kept.now z false && not (sealed_in p v a.gone (seg (part (8 * z) 8 a.rows.now))) in
    sym (option_map_id c.find.result)
    ∙ find_from_yields_List f _ _ c.find.result c.find.ensures.ran (YieldsList-from_range 0 n n refl (omega arith)) (λ x b q m. search rules)
    ∙ find_opt_first f (range_with_len 0 n) ∙ ap (λ (l : List ℕ). opt_first (keep f l)) (range_below n)
    ∙ ap opt_first (keep-below_same f (unsealed_at p v a.gone) n (unsealed_is p v a.gone a.rows.now a.kept.now r k))
