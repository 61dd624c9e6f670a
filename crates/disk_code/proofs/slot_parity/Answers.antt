-- `slot_parity`: the first data block, copied to the parity's place, is the parity of one data position, as `add_data` asks;
-- what stood in that place before does not count, since no data block lies there. Assumes nothing.
use mathlib.Core.Path.{◌≡◌, sym, ap, ap₂, ◌∙◌}
use mathlib.Core.List.{List}
use Prim.Native.Nat.{ℕ, ◌<◌}
use native.Mathlib.Omega.{arith}
use lib.ListN.{length}
use Rattle.disk_code.specs.Slots.{slots_differ, parity_again, parity-copied}
use Rattle.spec.specs.Bytes.{part, splice}
use Rattle.spec.specs.Layout.{parity_drive, data_drive}
use Rattle.spec.specs.Memory.{slot_byte, set_slot_parity}
use Rattle.spec.specs.Params.{data_count}
use Rattle.law_basic.specs.Geometry.{ranged, data_count-low, data_not_parity}
use Rattle.law_basic.specs.Splice.{length_part}
use Rattle.disk_code.proofs.slot_parity.Goals as goal

pub data_byte-first-requires : goal.data_byte-first-requires
data_byte-first-requires c =
    let a = c.args in
    let pre = c.requires in
    let p = a.p in
    let fl = a.inflight.now in
    let r = ranged p pre.p_value in
    let h = pre.slot_bound in record { p_value = pre.p_value; slot_bound = (h.0, omega (arith, data_count-low p r)) }

pub copy_within-requires : goal.copy_within-requires
copy_within-requires c =
    let a = c.args in
    let slot-byte = c.slot_byte-at in
    let parity-drive = c.parity_drive in
    let pre = c.requires in
    let p = a.p in
    let fl = a.inflight.now in
    let r = ranged p pre.p_value in
    let h = pre.slot_bound in
    let at : slot-byte.result ≡ slot_byte p a.slot (parity_drive p a.stripe) = slot-byte.ensures.0 ∙ ap (slot_byte p a.slot) parity-drive.ensures.0 in
    let f = c.data_byte-first.ensures.0 in
    let k : 0 < data_count p = omega (arith, data_count-low p r) in (
      omega (arith, slot-byte.ensures.1, h.1),
      omega (arith, c.data_byte-first.ensures.1, h.1),
      rw (at, f) (slots_differ p a.slot (parity_drive p a.stripe) (data_drive p a.stripe 0) (λ q. data_not_parity p a.stripe 0 (sym q))),
    )

pub add_data-requires : goal.add_data-requires
add_data-requires c =
    let a = c.args in
    let copy_within = c.copy_within in
    let data-byte = c.data_byte-first in
    let slot-byte = c.slot_byte-at in
    let parity-drive = c.parity_drive in
    let pre = c.requires in
    let p = a.p in
    let fl = a.inflight.now in
    let r = ranged p pre.p_value in
    let h = pre.slot_bound in
    let at : slot-byte.result ≡ slot_byte p a.slot (parity_drive p a.stripe) = slot-byte.ensures.0 ∙ ap (slot_byte p a.slot) parity-drive.ensures.0 in
    let f = data-byte.ensures.0 in
    let k : 0 < data_count p = omega (arith, data_count-low p r) in
    let fl' : copy_within.new.buf ≡ splice fl (slot_byte p a.slot (parity_drive p a.stripe)) (part (slot_byte p a.slot (data_drive p a.stripe 0)) p.B fl) =
    copy_within.ensures ∙ ap₂ (λ (x y : ℕ). splice fl x (part y p.B fl)) at f in
    record { p_value = pre.p_value; slot_bound = (h.0, copy_within.auto.buf ∙ h.1, parity-copied p fl a.slot a.stripe (omega (arith, r.drives_low)) h.0 h.1 k copy_within.new.buf fl') }

pub returns : goal.returns
returns c =
    let a = c.args in
    let add-data = c.add_data in
    let copy_within = c.copy_within in
    let data-byte = c.data_byte-first in
    let slot-byte = c.slot_byte-at in
    let parity-drive = c.parity_drive in
    let pre = c.requires in
    let p = a.p in
    let fl = a.inflight.now in
    let r = ranged p pre.p_value in
    let h = pre.slot_bound in
    let at : slot-byte.result ≡ slot_byte p a.slot (parity_drive p a.stripe) = slot-byte.ensures.0 ∙ ap (slot_byte p a.slot) parity-drive.ensures.0 in
    let f = data-byte.ensures.0 in
    let k : 0 < data_count p = omega (arith, data_count-low p r) in
    let fl' : copy_within.new.buf ≡ splice fl (slot_byte p a.slot (parity_drive p a.stripe)) (part (slot_byte p a.slot (data_drive p a.stripe 0)) p.B fl) =
    copy_within.ensures ∙ ap₂ (λ (x y : ℕ). splice fl x (part y p.B fl)) at f in
    let n : length (part (slot_byte p a.slot (data_drive p a.stripe 0)) p.B fl) ≡ p.B =
    length_part (slot_byte p a.slot (data_drive p a.stripe 0)) p.B fl (omega (arith, f, data-byte.ensures.1, h.1)) in
    add-data.ensures ∙ ap (λ (x : List ℕ). set_slot_parity p x a.slot a.stripe) fl'
    ∙ parity_again p fl a.slot a.stripe (omega (arith, r.drives_low)) h.0 h.1 (part (slot_byte p a.slot (data_drive p a.stripe 0)) p.B fl) n
