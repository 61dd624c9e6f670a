-- `counts`: all drives are missing or have an entry, which is the chunk, and `all_keep` leaves the present ones. Assumes nothing.
use mathlib.Core.Path.{refl, sym, ap, ◌∙◌}
use mathlib.Core.Bool.{Bool, not, ◌||◌}
use Prim.Native.Nat.{ℕ, ◌+◌, ◌*◌}
use native.Mathlib.Omega.{arith}
use borrow.Author.Rules.{rules}
use lib.Dec.{eqb}
use lib.ListN.{get_or}
use Rattle.std.specs.List.{range_with_len}
use Rattle.std.proofs.lemmas.Iterator.{YieldsList-from_range}
use Rattle.std.proofs.lemmas.Iterator.Search.{all_from_yields_List}
use Rattle.spec.specs.Lists.{all, below, is_in}
use Rattle.spec.specs.Params.{drives_of, present}
use Rattle.spec.specs.Segments.{has_chunk, counts}
use Rattle.law_basic.specs.Ranges.{all_keep, all-below_same}
use Rattle.disk_gather.specs.Ranges.{range_below, list_all_is}
use Rattle.recover_groups.specs.Chunks.{entry_has_chunk}
use Rattle.recover_groups.proofs.counts.Goals as goal

pub returns : goal.returns
unfolding counts present drives_of
returns c =
    let a = c.args in
    let n = a.p.N in
    let f : ℕ → Bool = λ e. is_in a.gone e || not (eqb (get_or a.at.now (256 * e + a.k) 0) 0) in
    λ g base x hk. all_from_yields_List f _ _ c.all.result c.all.ensures.ran (YieldsList-from_range 0 n n refl (omega arith)) (λ x b q k. search rules)
    ∙ list_all_is f (range_with_len 0 n) ∙ ap (all f) (range_below n)
    ∙ all-below_same f (λ e. is_in a.gone e || has_chunk g (base + a.k) e) n (λ e h. ap (λ (b : Bool). is_in a.gone e || b) (entry_has_chunk a.p g base a.at.now x e a.k h hk))
    ∙ sym (all_keep (has_chunk g (base + a.k)) (is_in a.gone) (below n))
