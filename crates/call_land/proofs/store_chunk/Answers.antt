-- `store_chunk`: the pointer is 1 to S, so the offset below it is below S and the zone has room; store, table entry and mark follow in turn. Assumes nothing.
use Prim.Native.Nat.{ℕ, ◌-◌, ◌<◌}
use Rattle.spec.specs.Drives.{pointer_of}
use Rattle.spec.specs.Layout.{compact_entry}
use Rattle.spec.specs.Memory.{compact_at}
use Rattle.spec.specs.Params.{capacity}
use Rattle.law_basic.specs.Geometry.{ranged, data_below}
use Rattle.call_land_chunk.specs.Alone.{mark_row}
use lib.ListN.{set}
use mathlib.Core.Path.{ap, ◌∙◌}
use native.Mathlib.Omega.{arith}
use Rattle.call_land.proofs.store_chunk.Goals as goal

pub pointer-requires : goal.pointer-requires
pointer-requires c =
    let q = c.requires in record { p_value = q.p_value; pointers_len = (q.whole.pointers_long, q.drive_lt_n.0, q.drive_lt_n.1) }

pub overflow_sub-offset : goal.overflow_sub-offset
overflow_sub-offset c =
    let pre = c.requires in
    omega (arith, c.pointer.ensures, pre.drive_lt_n.2)

pub put_chunk-requires : goal.put_chunk-requires
put_chunk-requires c =
    let a = c.args in
    let q = c.requires in
    let h = q.drive_lt_n in
    let n : pointer_of a.p a.pointers.now a.drive a.zone < capacity a.p = data_below a.p (ranged a.p q.p_value) (pointer_of a.p a.pointers.now a.drive a.zone) h.3 in
    record { p_value = q.p_value; whole = q.whole; inflight_len = (q.compact_len.1, q.compact_len.2, q.compact_len.3); drive_lt_n = (h.0, h.1, n) }

pub show_chunk-requires : goal.show_chunk-requires
show_chunk-requires c =
    let q = c.requires in
    let pointer = c.pointer in
    let h = q.drive_lt_n in record { p_value = q.p_value; compact_len = (q.compact_len.0, h.0, h.1, omega (arith, pointer.ensures, h.2, h.3)) }

pub mark_landed-requires : goal.mark_landed-requires
mark_landed-requires c =
    let q = c.requires in
    let pointer = c.pointer in
    let args = c.args in
    let h = q.drive_lt_n in
    let r = ranged args.p q.p_value in
    (omega (arith, h.0, r.drives_high), omega (arith, pointer.ensures, h.3, r.stripes_high))

pub returns : goal.returns
returns c =
    let a = c.args in
    let show-chunk = c.show_chunk in
    let put-chunk = c.put_chunk in
    let n = c.pointer.ensures in
    let p = a.p in
    let d = a.drive in record {
      pointers_after = put-chunk.ensures;
      compact_after = (
        show-chunk.ensures ∙ ap (λ (x : ℕ). set a.compact.now (compact_at p d a.zone (x - 1)) (compact_entry p a.stripe)) n,
        c.mark_landed.ensures ∙ ap (λ (x : ℕ). mark_row a.row d (x - 1)) n,
      );
    }
