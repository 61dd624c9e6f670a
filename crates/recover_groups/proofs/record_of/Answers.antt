-- `record_of`: the bytes are those of the record at that offset, from the footers where sealed, else from the spare. Assumes nothing.
use mathlib.Core.Path.{sym, ap, ap₂, ◌∙◌}
use Prim.Native.Nat.{ℕ}
use native.Mathlib.Omega.{arith}
use Rattle.spec.specs.Bytes.{part}
use Rattle.spec.specs.Layout.{record_of_of}
use Rattle.law_basic.specs.Geometry.{ranged, spare_len_lem}
use Rattle.law_basic.specs.Splice.{part_lent}
use Rattle.disk_stored.specs.Stored.{record_by}
use Rattle.recover_groups.proofs.record_of.Goals as goal

pub slice_bounds-read_record-end : goal.slice_bounds-read_record-end
slice_bounds-read_record-end c = omega (arith, spare_len_lem)

pub read_record-requires : goal.read_record-requires
read_record-requires c = omega (arith, spare_len_lem)

pub returns : goal.returns
returns c =
    let record-byte = c.record_byte-at in
    let a = c.args in
    let pre = c.requires in
    λ off ps hp.
    let p = a.p in
    let r = ranged p pre.p_value in
    let h = pre.image_len in
    let im = a.image.now in
    c.read_record.ensures
    ∙ ap record_of_of (part_lent record-byte.result _ im ∙ ap₂ (λ (x y : ℕ). part x y im) record-byte.ensures.0 (sym spare_len_lem))
    ∙ record_by p r off im ps h.0 hp a.drive a.zone h.1 h.2 a.full a.offset h.3
