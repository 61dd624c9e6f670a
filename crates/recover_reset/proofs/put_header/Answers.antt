-- `put_header`: there is room for the longest block with its spare, and the zeros are as many as a spare has. Assumes nothing.
use mathlib.Core.Path.{sym, ap, ◌∙◌, subst}
use mathlib.Core.List.{[], ◌∷◌}
use Prim.Native.Nat.{ℕ, ◌+◌, ◌≤◌}
use native.Mathlib.Omega.{arith}
use lib.ListN.{replicate}
use lib.Seq.{length-take-le}
use Rattle.spec.specs.Drives.Store.{put}
use Rattle.spec.specs.Drives.{mk_disk, zero_spare, zones_in}
use Rattle.spec.specs.Layout.{header_block}
use Rattle.spec.specs.Params.{spare_len}
use Rattle.law_basic.specs.Geometry.{ranged, spare_len_lem, unit_high}
use Rattle.disk_zones.specs.Made.{Storing}
use Rattle.recover_reset.proofs.put_header.Goals as goal

pub zone_on-zone-requires : goal.zone_on-zone-requires
zone_on-zone-requires c =
    let q = c.requires in record { p_value = q.p_value; drive_lt_n = q.drive_lt_n.0 }

pub slice_bounds-unit-end : goal.slice_bounds-unit-end
slice_bounds-unit-end c = omega (arith, spare_len_lem)

pub slice_bounds-put_header_with-end : goal.slice_bounds-put_header_with-end
slice_bounds-put_header_with-end c =
    let unit-len = c.unit_len-n in
    let args = c.args in
    let pre = c.requires in
    let p = args.p in
    sym (length-take-le unit-len.result _ (omega (arith, unit-len.ensures.0, unit_high p (ranged p pre.p_value), spare_len_lem)))

pub put_header_with-requires : goal.put_header_with-requires
unfolding zero_spare
put_header_with-requires c =
    let unit-len = c.unit_len-n in
    let args = c.args in
    let q = c.requires in
    let p = args.p in
    let z = c.zone_on-zone.ensures in
    let f : unit-len.result ≤ 4096 + spare_len = omega (arith, unit-len.ensures.0, unit_high p (ranged p q.p_value)) in record {
      p_value = q.p_value;
      whole = q.whole;
      drive_lt_n = (
        q.drive_lt_n.0,
        rw z q.drive_lt_n.1,
        rw z q.drive_lt_n.2,
        length-take-le unit-len.result _ (omega (arith, f, spare_len_lem))
            ∙ unit-len.ensures.0,
        ap (λ (n : ℕ). replicate n 0) (sym spare_len_lem),
      );
    }

pub returns : goal.returns
returns c =
    let a = c.args in
    let m = c.put_header_with in
    let b = header_block a.p a.drive (zones_in a.p a.segment) a.serial.0 a.copied.0 in
    let k = mk_disk a.image.now a.pointers.now in
    let k' = mk_disk m.new.image m.new.pointers in
    let z = c.zone_on-zone.ensures in
    subst (λ (x : ℕ). Storing a.p a.count (put a.drive x b zero_spare ∷ []) k m.result k') z m.ensures
