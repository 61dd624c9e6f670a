-- `held_record`: by spare, by either, or as the whole segment is sealed or not (`spare_is`, `both_is`, `seal_is`). Assumes nothing.
use Rattle.disk_drives.specs.Viewed.{viewed}
use mathlib.Core.Path.{◌≡◌, sym, ap, ◌∙◌, subst}
use mathlib.Core.Bool.{true, false}
use Prim.Native.Nat.{ℕ, ◌-◌, ◌<◌}
use native.Mathlib.Omega.{arith}
use Rattle.spec.specs.Drives.{mk_disk, pointer_at}
use Rattle.spec.specs.Segments.{serial_in}
use Rattle.law_views.specs.Views.{pointer_view}
use Rattle.disk_records.specs.Record.{rec_val}
use Rattle.disk_holders.specs.Borne.{serial_remains}
use Rattle.disk_holders.specs.Held.{place_held-one}
use Rattle.disk_holders.specs.Records.{same_record, spare_is, both_is, seal_is}
use Rattle.disk_holders.proofs.held_record.Goals as goal
use Rattle.disk_holders.proofs.held_record.Goals.{After-place_block-offset}

pub place_drive-drive-requires : goal.place_drive-drive-requires
place_drive-drive-requires c = c.args.drives.now.sound

pub place_zone-zone-requires : goal.place_zone-zone-requires
place_zone-zone-requires c = c.args.drives.now.sound

pub place_block-offset-requires : goal.place_block-offset-requires
place_block-offset-requires c = c.args.drives.now.sound

pub overflow_sub-offset : goal.overflow_sub-offset
overflow_sub-offset c = omega (arith, c.place_block-offset.ensures.0, c.requires.data_place.0.block_low)

-- the drive and offset of the place
drive_low : (c : After-place_block-offset) → c.place_drive-drive.result < c.args.drives.now.p.N
drive_low c = subst (λ (n : ℕ). n < c.args.drives.now.p.N) (sym c.place_drive-drive.ensures.0) c.requires.data_place.0.drive_low

pub record_in-spare-requires : goal.record_in-spare-requires
record_in-spare-requires c =
    let k = c.requires.data_place.0 in record {
      p_value = c.args.drives.now.sound;
      image_len = (
        c.args.drives.now.whole.image_long,
        drive_low (goal.at.record_in-spare-requires c).After-place_block-offset,
        c.place_zone-zone.ensures.1,
        omega
            (arith, c.place_block-offset.ensures.0, k.block_low, k.block_high),
      );
    }

pub pointer-pointer-requires : goal.pointer-pointer-requires
pointer-pointer-requires c = record {
  p_value = c.args.drives.now.sound;
  pointers_len =
      (c.args.drives.now.whole.pointers_long, drive_low (goal.at.pointer-pointer-requires c).After-place_block-offset, c.place_zone-zone.ensures.1);
}

pub capacity-requires : goal.capacity-requires
capacity-requires c = c.args.drives.now.sound

pub returns-then-pointer-capacity : goal.returns-then-pointer-capacity
returns-then-pointer-capacity c =
    let a = c.args in
    let v = viewed a.drives.now in
    let d = c.place_drive-drive in
    let z = c.place_zone-zone in
    let b = c.place_block-offset in
    let w = c.record_in-spare in
    let t : pointer_at v d.result z.result ≡ c.pointer-pointer.result =
    pointer_view a.drives.now.p a.drives.now.offline.now (mk_disk a.drives.now.image.now a.drives.now.pointers.now) d.result z.result
    (drive_low (goal.at.returns-then-pointer-capacity c).After-place_block-offset) z.ensures.1 c.args.drives.now.whole
    ∙ sym c.pointer-pointer.ensures in
    spare_is a.drives.now.p v a.gone c.requires.here a.place.0 c.requires.data_place.2 c.requires.data_place.1 d.result z.result (b.result - 1)
    d.ensures.0 z.ensures.0 (ap (λ (n : ℕ). n - 1) b.ensures.0) (rec_val w.result)
    (w.ensures a.drives.now.offline.now a.drives.now.pointers.now c.args.drives.now.whole.pointers_long) (λ q. c.if-pointer-capacity.true (sym t ∙ q ∙ sym c.capacity.ensures.0))

pub record_in-footer-requires : goal.record_in-footer-requires
record_in-footer-requires c =
    let k = c.requires.data_place.0 in record {
      p_value = c.args.drives.now.sound;
      image_len = (
        c.args.drives.now.whole.image_long,
        drive_low (goal.at.record_in-footer-requires c).After-place_block-offset,
        c.place_zone-zone.ensures.1,
        omega (arith, c.place_block-offset.ensures.0, k.block_low, k.block_high),
      );
    }

pub returns-then-is_same : goal.returns-then-is_same
returns-then-is_same c =
    let a = c.args in
    let v = viewed a.drives.now in
    let d = c.place_drive-drive in
    let z = c.place_zone-zone in
    let b = c.place_block-offset in
    let w = c.record_in-spare in
    let y = c.record_in-footer in
    let h = c.args.drives.now.whole.pointers_long in
    both_is a.drives.now.p v a.gone c.requires.here a.place.0 c.requires.data_place.2 c.requires.data_place.1 d.result z.result (b.result - 1)
    d.ensures.0 z.ensures.0 (ap (λ (n : ℕ). n - 1) b.ensures.0) (rec_val w.result) (rec_val y.result)
    (w.ensures a.drives.now.offline.now a.drives.now.pointers.now h) (y.ensures a.drives.now.offline.now a.drives.now.pointers.now h)
    (same_record w.result y.result (sym c.is_same.ensures ∙ c.if-is_same.true))

pub is_sealed_at-requires : goal.is_sealed_at-requires
is_sealed_at-requires c =
    let a = c.args in
    let v = viewed a.drives.now in
    let d = c.place_drive-drive in
    let z = c.place_zone-zone in
    let k = (place_held-one a.drives.now.p v a.gone a.place.0 c.requires.data_place.2 c.requires.here c.requires.data_place.1).it_remains in record {
      here = c.requires.here;
      drive_lt_n = (
        drive_low (goal.at.is_sealed_at-requires c).After-place_block-offset,
        z.ensures.1,
        (λ j. serial_remains a.drives.now.p v a.gone (serial_in a.drives.now.p v (d.ensures.0 j) (z.ensures.0 j))) ∙ k,
      );
    }

pub returns-then-is_sealed_at : goal.returns-then-is_sealed_at
returns-then-is_sealed_at c =
    let a = c.args in
    let v = viewed a.drives.now in
    let d = c.place_drive-drive in
    let z = c.place_zone-zone in
    let b = c.place_block-offset in
    let y = c.record_in-footer in
    seal_is a.drives.now.p v a.gone c.requires.here a.place.0 c.requires.data_place.2 c.requires.data_place.1 d.result z.result (b.result - 1)
    d.ensures.0 z.ensures.0 (ap (λ (n : ℕ). n - 1) b.ensures.0) true (rec_val y.result)
    (y.ensures a.drives.now.offline.now a.drives.now.pointers.now c.args.drives.now.whole.pointers_long) (sym c.is_sealed_at.ensures ∙ c.if-is_sealed_at.true)

pub returns : goal.returns
returns c =
    let a = c.args in
    let v = viewed a.drives.now in
    let d = c.place_drive-drive in
    let z = c.place_zone-zone in
    let b = c.place_block-offset in
    let w = c.record_in-spare in
    seal_is a.drives.now.p v a.gone c.requires.here a.place.0 c.requires.data_place.2 c.requires.data_place.1 d.result z.result (b.result - 1)
    d.ensures.0 z.ensures.0 (ap (λ (n : ℕ). n - 1) b.ensures.0) false (rec_val w.result)
    (w.ensures a.drives.now.offline.now a.drives.now.pointers.now c.args.drives.now.whole.pointers_long) (sym c.is_sealed_at.ensures ∙ c.if-is_sealed_at.false)
