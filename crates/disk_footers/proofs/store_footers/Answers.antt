-- `store_footers`: blocks laid, then spares laid as zeros, then the pointer raised by n: as n stores one after the other (`feet_stored`). Assumes nothing.
use mathlib.Core.Path.{◌≡◌, ap, ap₂, ◌∙◌}
use mathlib.Core.List.{map}
use Prim.Native.Nat.{ℕ, ◌+◌}
use native.Mathlib.Omega.{arith}
use Rattle.spec.specs.Bytes.{to_be, splice}
use Rattle.spec.specs.Drives.{pointer_of, set_pointer}
use Rattle.spec.specs.Layout.{footer_block}
use Rattle.spec.specs.Lists.{up_from}
use Rattle.law_basic.specs.Geometry.{ranged, capacity_high}
use Rattle.disk_footers.specs.Feet.{spares_by}
use Rattle.disk_footers.specs.Laid.{laid, zero_spares, feet_stored}
use Rattle.disk_footers.proofs.store_footers.Goals as goal

pub pointer-at-requires : goal.pointer-at-requires
pointer-at-requires c =
    let a = c.args in
    let pre = c.requires in
    let p = a.p in
    let r = ranged p pre.p_value in
    let w = pre.whole in
    let h = pre.drive_lt_n in record { p_value = pre.p_value; pointers_len = (w.pointers_long, h.0, h.1) }

pub write_footers-requires : goal.write_footers-requires
write_footers-requires c =
    let a = c.args in
    let pre = c.requires in
    let p = a.p in
    let r = ranged p pre.p_value in
    let w = pre.whole in
    let h = pre.drive_lt_n in
    let n : c.pointer-at.result ≡ pointer_of p a.pointers.now a.drive a.zone = c.pointer-at.ensures in
    record { p_value = pre.p_value; image_len = (w.image_long, h.0, h.1, h.3, omega (arith, n, h.4)) }

pub clear_spares-requires : goal.clear_spares-requires
clear_spares-requires c =
    let a = c.args in
    let write-footers = c.write_footers in
    let pointer = c.pointer-at in
    let pre = c.requires in
    let p = a.p in
    let r = ranged p pre.p_value in
    let w = pre.whole in
    let h = pre.drive_lt_n in
    let n : pointer.result ≡ pointer_of p a.pointers.now a.drive a.zone = pointer.ensures in
    record { p_value = pre.p_value; image_len = (write-footers.auto.image ∙ w.image_long, h.0, h.1, omega (arith, n, h.4)) }

pub pointer_byte-byte-requires : goal.pointer_byte-byte-requires
pointer_byte-byte-requires c =
    let a = c.args in
    let pre = c.requires in
    let p = a.p in
    let r = ranged p pre.p_value in
    let w = pre.whole in
    let h = pre.drive_lt_n in record { p_value = pre.p_value; drive_lt_n = (h.0, h.1) }

pub overflow_add-at : goal.overflow_add-at
overflow_add-at c =
    let a = c.args in
    let pointer = c.pointer-at in
    let pre = c.requires in
    let p = a.p in
    let r = ranged p pre.p_value in
    let w = pre.whole in
    let h = pre.drive_lt_n in
    let n : pointer.result ≡ pointer_of p a.pointers.now a.drive a.zone = pointer.ensures in
    omega (arith, n, h.4, capacity_high p r)

pub overflow_cast-at-2 : goal.overflow_cast-at-2
overflow_cast-at-2 c =
    let a = c.args in
    let pointer = c.pointer-at in
    let pre = c.requires in
    let p = a.p in
    let r = ranged p pre.p_value in
    let w = pre.whole in
    let h = pre.drive_lt_n in
    let n : pointer.result ≡ pointer_of p a.pointers.now a.drive a.zone = pointer.ensures in
    omega (arith, n, h.4, capacity_high p r)

pub write_be32-requires : goal.write_be32-requires
write_be32-requires c =
    let a = c.args in
    let pre = c.requires in
    let p = a.p in
    let r = ranged p pre.p_value in
    let w = pre.whole in
    let h = pre.drive_lt_n in
    omega (arith, c.pointer_byte-byte.ensures.1, w.pointers_long)

pub returns : goal.returns
unfolding set_pointer
returns c =
    let a = c.args in
    let write-be32 = c.write_be32 in
    let pointer_byte_holds = c.pointer_byte-byte in
    let clear-spares = c.clear_spares in
    let write-footers = c.write_footers in
    let pointer = c.pointer-at in
    let pre = c.requires in
    let p = a.p in
    let r = ranged p pre.p_value in
    let w = pre.whole in
    let h = pre.drive_lt_n in
    let n : pointer.result ≡ pointer_of p a.pointers.now a.drive a.zone = pointer.ensures in
    let ps = a.pointers.now in
    let k = pointer_of p ps a.drive a.zone in
    let im₁ = write-footers.new.image in
    let im₂ = clear-spares.new.image in
    let ps₁ = write-be32.new.dst in
    feet_stored p r a.drive a.zone a.first a.n h.0 h.1 a.image.now ps im₁ im₂ ps₁ w h.2 h.3 h.4
    (write-footers.ensures ∙ ap (λ (x : ℕ). laid p a.drive a.zone 0 x (map (footer_block p (spares_by p a.image.now a.drive a.zone)) (up_from a.first a.n)) a.image.now) n)
    (clear-spares.ensures ∙ ap (λ (x : ℕ). laid p a.drive a.zone p.B x (zero_spares a.n) im₁) n)
    (write-be32.ensures ∙ ap₂ (λ (x y : ℕ). splice ps x (to_be 4 (y + a.n))) pointer_byte_holds.ensures.0 n)
