-- `clear_spares`: after i turns zeroing the spares of the other n - i blocks gives what zeroing all n at the start gives;
-- one turn zeroes that of block at + i; then none is left. Assumes nothing.
use mathlib.Core.Path.{sym, ap₂, ◌∙◌}
use Prim.Native.Nat.{ℕ}
use native.Mathlib.Omega.{arith}
use lib.ListN.{replicate}
use Rattle.spec.specs.Bytes.{splice}
use Rattle.spec.specs.Drives.{zero_spare}
use Rattle.law_basic.specs.Geometry.{ranged, spare_len_lem, capacity_high}
use Rattle.disk_footers.specs.Laid.{clearing_start, clearing_turn, clearing_done}
use Rattle.disk_footers.proofs.clear_spares.Goals as goal

pub loop-i-init : goal.loop-i-init
loop-i-init c =
    let a = c.args in
    clearing_start a.p a.drive a.zone a.at a.n a.image.now c.requires.image_len.0

pub overflow_add-at : goal.overflow_add-at
overflow_add-at c =
    let a = c.args in
    let pre = c.requires in
    let p = a.p in
    let r = ranged p pre.p_value in
    let h = pre.image_len in
    let l = c.loop-i in
    let t = c.loop-i-test.true in
    omega (arith, h.3, t, capacity_high p r)

pub spare_byte-byte-requires : goal.spare_byte-byte-requires
spare_byte-byte-requires c =
    let a = c.args in
    let pre = c.requires in
    let p = a.p in
    let r = ranged p pre.p_value in
    let h = pre.image_len in
    let l = c.loop-i in
    let t = c.loop-i-test.true in record { p_value = pre.p_value; drive_lt_n = (h.1, h.2, omega (arith, h.3, t)) }

pub clear_part-requires : goal.clear_part-requires
clear_part-requires c =
    let a = c.args in
    let loop-test = c.loop-i-test in
    let l = c.loop-i in
    let pre = c.requires in
    let p = a.p in
    let r = ranged p pre.p_value in
    let h = pre.image_len in
    let t = loop-test.true in
    omega (arith, c.spare_byte-byte.ensures.1, l.invariant.long, spare_len_lem)

pub loop-i-preserved : goal.loop-i-preserved
unfolding zero_spare
loop-i-preserved c =
    let a = c.args in
    let clear-part = c.clear_part in
    let spare-byte = c.spare_byte-byte in
    let loop-test = c.loop-i-test in
    let l = c.loop-i in
    let pre = c.requires in
    let p = a.p in
    let r = ranged p pre.p_value in
    let h = pre.image_len in
    let t = loop-test.true in
    clearing_turn p a.drive a.zone a.at a.n a.image.now l.i l.image clear-part.new.dst h.1 h.2 h.3 t
    (clear-part.ensures ∙ ap₂ (λ (x y : ℕ). splice l.image x (replicate y 0)) spare-byte.ensures.0 (sym spare_len_lem)) l.invariant

pub shape_of-image : goal.shape_of-image
shape_of-image c =
    let a = c.args in
    let pre = c.requires in
    let p = a.p in
    let r = ranged p pre.p_value in
    let h = pre.image_len in
    let l = c.loop-i in
    l.invariant.long ∙ sym h.0

pub returns : goal.returns
returns c =
    let a = c.args in
    let pre = c.requires in
    let p = a.p in
    let r = ranged p pre.p_value in
    let h = pre.image_len in
    let l = c.loop-i in
    clearing_done p a.drive a.zone a.at a.n a.image.now l.i l.image (omega (arith, c.loop-i-test.false)) l.invariant
