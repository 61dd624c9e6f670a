-- `footer_unlike`: scratch holds the footer block made from the spares, and the image's part there is the stored block; the two are compared. Assumes nothing.
use mathlib.Core.Path.{◌≡◌, sym, ap, ap₂, ◌∙◌}
use mathlib.Core.Bool.{not}
use mathlib.Core.List.{◌++◌}
use Prim.Native.Nat.{ℕ, ◌+◌, ◌-◌}
use native.Mathlib.Omega.{arith}
use lib.ListN.{length, take, drop}
use lib.Seq.{length-take-le, take_at}
use Rattle.spec.specs.Bytes.{part}
use Rattle.spec.specs.Drives.{chunk_at, view_of, mk_disk}
use Rattle.spec.specs.Lists.{same_list}
use Rattle.spec.specs.Params.{capacity, unit_len}
use Rattle.law_basic.specs.Geometry.{ranged, footers_high}
use Rattle.law_basic.specs.Splice.{part_lent}
use Rattle.law_views.specs.Views.{block_view}
use Rattle.recover_headers.specs.Fronts.{footer_off}
use Rattle.recover_headers.proofs.footer_unlike.Goals as goal

pub slice_bounds-make_footer-end-2 : goal.slice_bounds-make_footer-end-2
slice_bounds-make_footer-end-2 c =
    let a = c.args in
    let p = a.p in
    let s = a.scratch.now in
    let h = c.requires in
    let t : length (take p.B s) ≡ p.B = length-take-le p.B s h.image_len.1 in
    sym t

pub make_footer-requires : goal.make_footer-requires
make_footer-requires c =
    let a = c.args in
    let p = a.p in
    let s = a.scratch.now in
    let h = c.requires in
    let t : length (take p.B s) ≡ p.B = length-take-le p.B s h.image_len.1 in record { p_value = h.p_value; image_len = (h.image_len.0, h.image_len.2, h.image_len.3, h.image_len.4, t) }

pub overflow_add-p : goal.overflow_add-p
overflow_add-p c =
    let args = c.args in
    let pre = c.requires in
    omega (arith, (ranged args.p pre.p_value).stripes_high)

pub overflow_add-p-2 : goal.overflow_add-p-2
overflow_add-p-2 c =
    let args = c.args in
    let pre = c.requires in
    let r = ranged args.p pre.p_value in
    omega (arith, r.stripes_high, footers_high args.p r, pre.image_len.4)

pub block_byte-a-requires : goal.block_byte-a-requires
unfolding capacity
block_byte-a-requires c =
    let h = c.requires in record { p_value = h.p_value; drive_lt_n = (h.image_len.2, h.image_len.3, omega (arith, h.image_len.4)) }

pub slice_bounds-same-end : goal.slice_bounds-same-end
unfolding unit_len
slice_bounds-same-end c =
    let h = c.requires in
    omega (arith, c.block_byte-a.ensures.1, h.image_len.0)

pub slice_bounds-same-end-3 : goal.slice_bounds-same-end-3
slice_bounds-same-end-3 c =
    let a = c.args in
    let make-footer = c.make_footer in
    let h = c.requires in
    let p = a.p in
    let s = a.scratch.now in
    let t : length (take p.B s) ≡ p.B = length-take-le p.B s h.image_len.1 in
    let w = make-footer.new.block in
    let k : length w ≡ p.B = make-footer.auto.block ∙ t in
    let e : take p.B (w ++ drop p.B s) ≡ w = take_at w (drop p.B s) p.B k in
    sym (ap length e ∙ k)

pub returns : goal.returns
unfolding footer_off chunk_at capacity
returns c =
    let a = c.args in
    let y = c.block_byte-a in
    let make-footer = c.make_footer in
    let h = c.requires in
    let p = a.p in
    let s = a.scratch.now in
    let t : length (take p.B s) ≡ p.B = length-take-le p.B s h.image_len.1 in
    let w = make-footer.new.block in
    let k : length w ≡ p.B = make-footer.auto.block ∙ t in
    let e : take p.B (w ++ drop p.B s) ≡ w = take_at w (drop p.B s) p.B k in
    let im = a.image.now in
    λ off ps long.
    let x = 1 + p.S + a.i in
    let f : take (y.result + p.B - y.result) (drop y.result im) ≡ (chunk_at (view_of p off im ps) a.drive a.zone x).block =
    part_lent y.result p.B im ∙ ap (λ (o : ℕ). part o p.B im) y.ensures.0
    ∙ sym (block_view p off (mk_disk im ps) a.drive a.zone h.image_len.2 h.image_len.3 (record { image_long = h.image_len.0; pointers_long = long }) x (omega (arith, h.image_len.4))) in
    ap not (c.same.ensures ∙ ap₂ same_list f (e ∙ make-footer.ensures off ps long))
