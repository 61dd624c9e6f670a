-- `is_repeated`: some drive is present and bears the serial twice just if some present one bears it twice. Assumes nothing.
use mathlib.Core.Path.{refl, sym, ap, ◌∙◌}
use mathlib.Core.Bool.{Bool, not, ◌&&◌}
use Prim.Native.Nat.{ℕ}
use native.Mathlib.Omega.{arith}
use borrow.Author.Rules.{rules}
use lib.Dec.{leb}
use lib.ListN.{length}
use Rattle.std.specs.List.{range_with_len}
use Rattle.std.proofs.lemmas.Iterator.{YieldsList-from_range}
use Rattle.std.proofs.lemmas.Iterator.Search.{any_from_yields_List}
use Rattle.spec.specs.Lists.{any, below, is_in}
use Rattle.spec.specs.Params.{drives_of, present}
use Rattle.spec.specs.Segments.{bearing}
use Rattle.law_scans.specs.Scans.{any-keep}
use Rattle.disk_gather.specs.Ranges.{range_below, list_any_is}
use Rattle.disk_gather.proofs.is_repeated.Goals as goal

pub returns : goal.returns
unfolding present drives_of
returns c =
    let i = c.args.index.now in
    let n = i.p.N in
    λ v x.
    let f : ℕ → Bool = λ e. not (is_in i.gone e) && leb 2 (length (bearing i.p v e c.args.serial.0)) in
    any_from_yields_List f _ _ c.any.result c.any.ensures.ran (YieldsList-from_range 0 n n refl (omega arith)) (λ y b q k. search rules)
    ∙ list_any_is f (range_with_len 0 n) ∙ ap (any f) (range_below n)
    ∙ sym (any-keep (λ e. not (is_in i.gone e)) (λ e. leb 2 (length (bearing i.p v e c.args.serial.0))) (below n))
