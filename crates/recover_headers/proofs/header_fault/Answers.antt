-- `header_fault`: some drive is present and its header differs just if the definition finds one. Assumes nothing.
use mathlib.Core.Path.{refl, sym, ap, ◌∙◌}
use mathlib.Core.Bool.{Bool, not, ◌&&◌}
use Prim.Native.Nat.{ℕ}
use native.Mathlib.Omega.{arith}
use borrow.Author.Rules.{rules}
use Rattle.std.specs.List.{range_with_len}
use Rattle.std.proofs.lemmas.Iterator.{YieldsList-from_range}
use Rattle.std.proofs.lemmas.Iterator.Search.{any_from_yields_List}
use Rattle.spec.specs.Lists.{any, is_in}
use Rattle.disk_gather.specs.Ranges.{range_below, list_any_is}
use Rattle.recover_headers.specs.Fronts.{header_off, header_list}
use Rattle.recover_headers.proofs.header_fault.Goals as goal

pub returns : goal.returns
returns c =
    let a = c.args in
    let n = a.p.N in
    let pre = c.requires in
    let f : ℕ → Bool = λ e. not (is_in a.gone e) && header_off a.p a.image.now a.segment a.names a.serial.0 a.copied.0 e in
    λ off ps long en es ec.
    any_from_yields_List f _ _ c.any.result c.any.ensures.ran (YieldsList-from_range 0 n n refl (omega arith)) (λ x b q k. search rules)
    ∙ list_any_is f (range_with_len 0 n) ∙ ap (any f) (range_below n)
    ∙ sym (header_list a.p off a.image.now ps pre.image_len.0 long a.gone a.segment a.names a.serial.0 a.copied.0 pre.p_value pre.image_len.1 en es ec)
