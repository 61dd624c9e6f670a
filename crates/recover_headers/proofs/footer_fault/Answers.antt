-- `footer_fault`: some drive is present and its zone has a footer fault; `footer_list` names the zones. Assumes nothing.
use mathlib.Core.Path.{refl, sym, ap, ◌∙◌}
use mathlib.Core.Bool.{Bool, not, ◌&&◌}
use Prim.Native.Nat.{ℕ}
use native.Mathlib.Omega.{arith}
use borrow.Author.Rules.{rules}
use Rattle.std.specs.List.{range_with_len}
use Rattle.std.proofs.lemmas.Iterator.{YieldsList-from_range}
use Rattle.std.proofs.lemmas.Iterator.Search.{any_from_yields_List}
use Rattle.spec.specs.Drives.{view_of, zone_at, zone_on}
use Rattle.spec.specs.Faults.{footer_fault_in}
use Rattle.spec.specs.Lists.{any, is_in}
use Rattle.disk_gather.specs.Ranges.{range_below, list_any_is}
use Rattle.recover_headers.specs.Fronts.{footer_list}
use Rattle.recover_headers.proofs.footer_fault.Goals as goal

pub returns : goal.returns
returns c = λ off.
    let a = c.args in
    let n = a.p.N in
    let w = c.requires.whole in
    let f : ℕ → Bool = λ e. not (is_in a.gone e) && footer_fault_in a.p (zone_at (view_of a.p off a.image.now a.pointers.now) e (zone_on a.segment e)) in
    any_from_yields_List f _ _ c.any.result c.any.ensures.ran (YieldsList-from_range 0 n n refl (omega arith)) (λ x b q k. search rules)
    ∙ list_any_is f (range_with_len 0 n) ∙ ap (any f) (range_below n)
    ∙ sym (footer_list a.p off a.image.now a.pointers.now w.image_long w.pointers_long a.gone a.segment)
