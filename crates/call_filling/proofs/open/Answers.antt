-- `open`: none to open: `opening_none`. Else the new segment's zones have room (`new_room`), and the header stores give `opening_made`. Assumes nothing.
use Prim.Native.Nat.{◌+◌, ◌<◌}
use Rattle.spec.specs.Drives.{view_of, mk_disk, pointer_of, zone_on, new_seg}
use Rattle.spec.specs.Params.{capacity}
use Rattle.call_filling.specs.Left.{opening_none, opening_cut, opening_made, new_room}
use Rattle.mem_rows.specs.Rows.{behind}
use Rattle.law_views.specs.Views.{seen}
use borrow.Author.Tests.{not-true, not-false}
use mathlib.Core.Bool.{true}
use mathlib.Core.Path.{◌≡◌, sym, ◌∙◌, subst}
use native.Mathlib.Numerals.{add-one}
use native.Mathlib.Omega.{arith}
use Rattle.spec.specs.declared.Seg.{Seg}
use Rattle.disk_zones.specs.Made.{only_cut}
use Rattle.call_filling.proofs.open.Goals as goal

pub returns-then-not-a : goal.returns-then-not-a
returns-then-not-a c =
    let a = c.args in
    opening_none a.p a.offline.now (behind a.f) a.count (mk_disk a.image.now a.pointers.now) (sym c.requires.opens_value ∙ not-true a.a.opens c.if-not-a.true)

pub new_segment-g-requires : goal.new_segment-g-requires
new_segment-g-requires c = record { p_value = c.requires.p_value; pointers_len = (c.requires.whole.0.pointers_long, c.requires.whole.1) }

pub overflow_add-serial : goal.overflow_add-serial
overflow_add-serial c =
    omega (arith, c.requires.serial_lt_last_count (not-false c.args.a.opens c.if-not-a.false))

pub header_stores-requires : goal.header_stores-requires
header_stores-requires c =
    let if1 = c.if-not-a in
    let a = c.args in
    let e : a.a.opens ≡ true = not-false a.a.opens if1.false in
    let w = c.requires.whole.0 in
    let l = c.new_segment-g in
    let g : l.result ≡ new_seg a.p (view_of a.p a.offline.now a.image.now a.pointers.now) = l.ensures.by_index a.image.now w.image_long in record {
      p_value = c.requires.p_value;
      whole = w;
      zones_low = (
        l.ensures.zones_low,
        λ d h.
            subst (λ (x : Seg). pointer_of a.p a.pointers.now d (zone_on x d) < capacity a.p) (sym g)
            (new_room a.p a.offline.now a.image.now a.pointers.now c.requires.p_value w.image_long w.pointers_long (c.requires.nonzero e) d h),
      );
    }

pub returns-in_err-header_stores : goal.returns-in_err-header_stores
returns-in_err-header_stores c =
    let m = c.header_stores in
    let l = c.new_segment-g in
    let a = c.args in
    let k = mk_disk a.image.now a.pointers.now in
    let g : l.result ≡ new_seg a.p (seen a.p a.offline.now k) = l.ensures.by_index a.image.now c.requires.whole.0.image_long in
    rw (only_cut c.from_residual.result c.from_residual.ensures.0)
    (opening_cut a.p a.offline.now (behind a.f) a.count k (sym c.requires.opens_value ∙ not-false a.a.opens c.if-not-a.false) l.result (a.f.serial.0 + 1) g (add-one a.f.serial.0)
    (mk_disk m.new.image m.new.pointers) c.in_err-header_stores.ensures)

pub returns : goal.returns
returns c =
    let m = c.header_stores in
    let l = c.new_segment-g in
    let a = c.args in
    let k = mk_disk a.image.now a.pointers.now in
    let g : l.result ≡ new_seg a.p (seen a.p a.offline.now k) = l.ensures.by_index a.image.now c.requires.whole.0.image_long in
    opening_made a.p a.offline.now (behind a.f) a.count k (sym c.requires.opens_value ∙ not-false a.a.opens c.if-not-a.false) l.result (a.f.serial.0 + 1) g (add-one a.f.serial.0)
    c.in_ok-header_stores.field-0 (mk_disk m.new.image m.new.pointers) c.in_ok-header_stores.ensures
