-- `none_free`: some drive has no lowest free zone. Assumes nothing.
use mathlib.Core.Path.{refl, sym, ap, ◌∙◌}
use mathlib.Core.Bool.{Bool}
use Prim.Native.Nat.{ℕ}
use native.Mathlib.Omega.{arith}
use borrow.Author.Rules.{rules}
use Rattle.std.specs.List.{range_with_len}
use Rattle.std.specs.Option.{is_none}
use Rattle.std.proofs.lemmas.Iterator.{YieldsList-from_range}
use Rattle.std.proofs.lemmas.Iterator.Search.{any_from_yields_List}
use Rattle.spec.specs.Lists.{below, any, keep, is_nil}
use Rattle.disk_gather.specs.Ranges.{range_below, list_any_is, opt_first, opt_first_none}
use Rattle.law_drives.specs.Members.{any_cong}
use Rattle.recover_segments.specs.Taken.{free_in, none_free}
use Rattle.recover_segments.proofs.none_free.Goals as goal

pub returns : goal.returns
returns c =
    let a = c.args in
    let p = a.p in
    let n = p.N in
    let g : ℕ → ℕ → Bool = free_in p a.offline.now a.marks.now in
    let f : ℕ → Bool = λ d. is_none (opt_first (keep (g d) (below p.Z))) in
    λ im ps gone t. any_from_yields_List f _ _ c.any.result c.any.ensures.ran (YieldsList-from_range 0 n n refl (omega arith)) (λ x b q k. search rules)
    ∙ list_any_is f (range_with_len 0 n) ∙ ap (any f) (range_below n)
    ∙ any_cong f (λ d. is_nil (keep (g d) (below p.Z))) (below n) (λ d m. opt_first_none (keep (g d) (below p.Z)))
    ∙ sym (none_free p a.offline.now im ps gone a.marks.now t)
