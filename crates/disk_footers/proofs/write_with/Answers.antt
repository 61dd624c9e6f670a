-- `write_with`: after i turns laying the other n - i footers gives what laying all n at the start gives, and the zone's spares are as they came;
-- one turn makes footer first + i from them and writes it at block at + i. Assumes nothing.
use mathlib.Core.Path.{◌≡◌, refl, sym, ap, ◌∙◌}
use Prim.Native.Nat.{ℕ, ◌+◌}
use native.Mathlib.Omega.{arith}
use lib.ListN.{length}
use Rattle.spec.specs.Bytes.{splice}
use Rattle.spec.specs.Layout.{footer_block}
use Rattle.spec.specs.Params.{unit_len}
use Rattle.law_basic.specs.Geometry.{ranged, footers_high, capacity_high}
use Rattle.disk_footers.specs.Feet.{spares_by, footer_by}
use Rattle.disk_footers.specs.Laid.{writing_start, writing_turn, writing_done}
use Rattle.disk_footers.proofs.write_with.Goals as goal

pub loop-i-init : goal.loop-i-init
loop-i-init c =
    let a = c.args in
    (refl, writing_start a.p a.drive a.zone a.at a.first a.n a.image.now c.requires.image_len.0)

pub overflow_add-first : goal.overflow_add-first
overflow_add-first c =
    let a = c.args in
    let l = c.loop-i in
    let pre = c.requires in
    let p = a.p in
    let r = ranged p pre.p_value in
    let h = pre.image_len in
    let t = c.loop-i-test.true in
    omega (arith, h.4, t, footers_high p r)

pub make_footer-requires : goal.make_footer-requires
make_footer-requires c =
    let a = c.args in
    let loop-test = c.loop-i-test in
    let l = c.loop-i in
    let pre = c.requires in
    let p = a.p in
    let r = ranged p pre.p_value in
    let h = pre.image_len in
    let t = loop-test.true in record { p_value = pre.p_value; image_len = (l.invariant.1.long, h.2, h.3, omega (arith, h.4, t), l.invariant.0 ∙ h.1) }

pub overflow_add-at : goal.overflow_add-at
overflow_add-at c =
    let a = c.args in
    let loop-test = c.loop-i-test in
    let l = c.loop-i in
    let pre = c.requires in
    let p = a.p in
    let r = ranged p pre.p_value in
    let h = pre.image_len in
    let t = loop-test.true in
    omega (arith, h.5, t, capacity_high p r)

pub block_byte-byte-requires : goal.block_byte-byte-requires
block_byte-byte-requires c =
    let a = c.args in
    let loop-test = c.loop-i-test in
    let l = c.loop-i in
    let pre = c.requires in
    let p = a.p in
    let r = ranged p pre.p_value in
    let h = pre.image_len in
    let t = loop-test.true in record { p_value = pre.p_value; drive_lt_n = (h.2, h.3, omega (arith, h.5, t)) }

pub copy_part-requires : goal.copy_part-requires
unfolding unit_len
copy_part-requires c =
    let a = c.args in
    let block_byte = c.block_byte-byte in
    let make-footer = c.make_footer in
    let loop-test = c.loop-i-test in
    let l = c.loop-i in
    let pre = c.requires in
    let p = a.p in
    let r = ranged p pre.p_value in
    let h = pre.image_len in
    let t = loop-test.true in
    omega (arith, block_byte.ensures.1, l.invariant.1.long, make-footer.auto.block, l.invariant.0, h.1)

pub loop-i-preserved : goal.loop-i-preserved
loop-i-preserved c =
    let a = c.args in
    let copy-part = c.copy_part in
    let block_byte = c.block_byte-byte in
    let make-footer = c.make_footer in
    let loop-test = c.loop-i-test in
    let l = c.loop-i in
    let pre = c.requires in
    let p = a.p in
    let r = ranged p pre.p_value in
    let h = pre.image_len in
    let t = loop-test.true in
    let s = make-footer.new.block in
    let ls : length s ≡ p.B = make-footer.auto.block ∙ l.invariant.0 ∙ h.1 in
    let q : s ≡ footer_block p (spares_by p l.image a.drive a.zone) (a.first + l.i) =
    footer_by p r a.drive a.zone h.2 h.3 l.image l.invariant.1.long s (a.first + l.i) make-footer.ensures in (
      make-footer.auto.block ∙ l.invariant.0,
      writing_turn p a.drive a.zone a.at a.first a.n a.image.now l.i l.image copy-part.new.dst s r h.2 h.3 h.5 t ls q
          (copy-part.ensures ∙ ap (λ (x : ℕ). splice l.image x s) block_byte.ensures.0) l.invariant.1,
    )

pub shape_of-image : goal.shape_of-image
shape_of-image c =
    let a = c.args in
    let pre = c.requires in
    let p = a.p in
    let r = ranged p pre.p_value in
    let h = pre.image_len in
    let l = c.loop-i in
    l.invariant.1.long ∙ sym h.0

pub shape_of-block : goal.shape_of-block
shape_of-block c =
    let a = c.args in
    let pre = c.requires in
    let p = a.p in
    let r = ranged p pre.p_value in
    let h = pre.image_len in
    let l = c.loop-i in
    l.invariant.0

pub returns : goal.returns
returns c =
    let a = c.args in
    let pre = c.requires in
    let p = a.p in
    let r = ranged p pre.p_value in
    let h = pre.image_len in
    let l = c.loop-i in
    writing_done p a.drive a.zone a.at a.first a.n a.image.now l.i l.image (omega (arith, c.loop-i-test.false)) l.invariant.1
