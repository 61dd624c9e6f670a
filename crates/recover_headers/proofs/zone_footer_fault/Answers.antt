-- `zone_footer_fault`: some of the stored footers is unlike; `footer_any` makes it the fault. Assumes nothing.
use mathlib.Core.Path.{refl, sym, ap, ◌∙◌}
use mathlib.Core.Bool.{Bool}
use Prim.Native.Nat.{ℕ}
use native.Mathlib.Omega.{arith}
use borrow.Author.Rules.{rules}
use Rattle.std.specs.List.{range_with_len}
use Rattle.std.proofs.lemmas.Iterator.{YieldsList-from_range}
use Rattle.std.proofs.lemmas.Iterator.Search.{any_from_yields_List}
use Rattle.spec.specs.Drives.{Zone, view_of, mk_disk, zone_at}
use Rattle.spec.specs.Lists.{below, any}
use Rattle.law_views.specs.Views.{blocks_long}
use Rattle.disk_gather.specs.Ranges.{range_below, list_any_is}
use Rattle.recover_headers.specs.Fronts.{footer_off, footer_any}
use Rattle.recover_headers.proofs.zone_footer_fault.Goals as goal

pub footers_stored-n-requires : goal.footers_stored-n-requires
footers_stored-n-requires c =
    let h = c.requires in record { p_value = h.p_value; pointers_len = (h.whole.pointers_long, h.drive_lt_n.0, h.drive_lt_n.1) }

pub returns : goal.returns
returns c = λ off.
    let a = c.args in
    let h = c.requires in
    let stored = c.footers_stored-n in
    let n = stored.result in
    let z : Zone = zone_at (view_of a.p off a.image.now a.pointers.now) a.drive a.zone in
    let f : ℕ → Bool = footer_off a.p z in
    any_from_yields_List f _ _ c.any.result c.any.ensures.ran (YieldsList-from_range 0 n n refl (omega arith)) (λ x b q k. search rules)
    ∙ list_any_is f (range_with_len 0 n) ∙ ap (any f) (range_below n)
    ∙ ap (λ (x : ℕ). any f (below x)) (stored.ensures.by_index off a.image.now h.whole.image_long)
    ∙ sym (footer_any a.p z (blocks_long a.p off (mk_disk a.image.now a.pointers.now) a.drive a.zone h.drive_lt_n.0 h.drive_lt_n.1 h.whole))
