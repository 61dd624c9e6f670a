-- `add_data`: after the turns up to k the parity's place holds the exclusive or of data blocks 0 to k - 1 as they came, all else stays;
-- one turn adds data block k, which lies apart from that place. At k = data count it is the parity. Assumes nothing.
use mathlib.Core.Path.{◌≡◌, refl, sym, ap, ap₂, ◌∙◌}
use Prim.Native.Nat.{ℕ, ◌<◌}
use native.Mathlib.Omega.{arith}
use Rattle.disk_code.specs.Slots.{slots_differ, data_parity, parity-start, parity_turn, parity_done}
use Rattle.spec.specs.Bytes.{part, splice, xors}
use Rattle.spec.specs.Layout.{parity_drive, data_drive}
use Rattle.spec.specs.Memory.{slot_byte}
use Rattle.spec.specs.Params.{data_count}
use Rattle.law_basic.specs.Geometry.{ranged, data_not_parity}
use Rattle.disk_code.proofs.add_data.Goals as goal

pub data_count-n-requires : goal.data_count-n-requires
data_count-n-requires c = c.requires.p_value

pub parity_drive-requires : goal.parity_drive-requires
parity_drive-requires c = c.requires.p_value

pub slot_byte-at-requires : goal.slot_byte-at-requires
slot_byte-at-requires c =
    let pre = c.requires in record { p_value = pre.p_value; slot_bound = (pre.slot_bound.0, c.parity_drive.ensures.1) }

pub loop-k-init : goal.loop-k-init
loop-k-init c =
    let a = c.args in
    let data-count = c.data_count-n in
    let pre = c.requires in
    let p = a.p in
    let fl = a.inflight.now in
    let r = ranged p pre.p_value in
    let h = pre.slot_bound in
    (omega arith, omega (arith, data-count.ensures.1), refl, parity-start p fl a.slot a.stripe (omega (arith, r.drives_low)) h.0 h.1 h.2)

pub data_byte-next-requires : goal.data_byte-next-requires
data_byte-next-requires c =
    let a = c.args in
    let data-count = c.data_count-n in
    let pre = c.requires in
    let p = a.p in
    let fl = a.inflight.now in
    let r = ranged p pre.p_value in
    let h = pre.slot_bound in
    let l = c.loop-k in
    let k : l.k < data_count p = omega (arith, c.loop-k-test.true, data-count.ensures.0) in record { p_value = pre.p_value; slot_bound = (h.0, k) }

pub xor_within-requires : goal.xor_within-requires
xor_within-requires c =
    let a = c.args in
    let loop-test = c.loop-k-test in
    let l = c.loop-k in
    let slot-byte = c.slot_byte-at in
    let parity-drive = c.parity_drive in
    let data-count = c.data_count-n in
    let pre = c.requires in
    let p = a.p in
    let fl = a.inflight.now in
    let r = ranged p pre.p_value in
    let h = pre.slot_bound in
    let at : slot-byte.result ≡ slot_byte p a.slot (parity_drive p a.stripe) = slot-byte.ensures.0 ∙ ap (slot_byte p a.slot) parity-drive.ensures.0 in
    let k : l.k < data_count p = omega (arith, loop-test.true, data-count.ensures.0) in
    let f = c.data_byte-next.ensures.0 in (
      omega (arith, slot-byte.ensures.1, l.invariant.2, h.1),
      omega (arith, c.data_byte-next.ensures.1, l.invariant.2, h.1),
      rw (at, f)
          (slots_differ p a.slot (parity_drive p a.stripe) (data_drive p a.stripe l.k) (λ q. data_not_parity p a.stripe l.k (sym q))),
    )

pub loop-k-preserved : goal.loop-k-preserved
loop-k-preserved c =
    let a = c.args in
    let xor-within = c.xor_within in
    let data-byte = c.data_byte-next in
    let loop-test = c.loop-k-test in
    let l = c.loop-k in
    let slot-byte = c.slot_byte-at in
    let parity-drive = c.parity_drive in
    let data-count = c.data_count-n in
    let pre = c.requires in
    let p = a.p in
    let fl = a.inflight.now in
    let r = ranged p pre.p_value in
    let h = pre.slot_bound in
    let at : slot-byte.result ≡ slot_byte p a.slot (parity_drive p a.stripe) = slot-byte.ensures.0 ∙ ap (slot_byte p a.slot) parity-drive.ensures.0 in
    let k : l.k < data_count p = omega (arith, loop-test.true, data-count.ensures.0) in
    let f = data-byte.ensures.0 in (
      omega arith,
      omega (arith, loop-test.true),
      xor-within.auto.buf ∙ l.invariant.2,
      xor-within.ensures ∙ ap₂ (λ (x y : ℕ). splice l.inflight x (xors (part x p.B l.inflight) (part y p.B l.inflight))) at f
          ∙ parity_turn p fl a.slot a.stripe (omega (arith, r.drives_low)) h.0 h.1 l.k l.inflight k l.invariant.3,
    )

pub shape_of-inflight : goal.shape_of-inflight
shape_of-inflight c = c.loop-k.invariant.2

pub returns : goal.returns
returns c =
    let a = c.args in
    let data-count = c.data_count-n in
    let pre = c.requires in
    let p = a.p in
    let fl = a.inflight.now in
    let r = ranged p pre.p_value in
    let h = pre.slot_bound in
    let l = c.loop-k in
    let e : l.k ≡ data_count p = omega (arith, c.loop-k-test.false, data-count.ensures.0) in
    l.invariant.3 ∙ ap (λ (x : ℕ). splice fl (slot_byte p a.slot (parity_drive p a.stripe)) (data_parity p fl a.slot a.stripe x)) e
    ∙ parity_done p fl a.slot a.stripe (omega (arith, r.drives_low)) h.0 h.1
