-- `stamp_at`: on a missing drive offset is the stripe, and the stamp the exclusive or of the others; on a present one its record lies there. Assumes nothing.
use mathlib.Core.Path.{◌≡◌, sym, ap, ◌∙◌, subst}
use mathlib.Core.Bool.{false}
use Prim.Native.Nat.{ℕ, ◌<◌}
use Rattle.spec.specs.Drives.{View, view_of, zone_at, record_in, zone_on}
use Rattle.spec.specs.Lists.{is_in}
use Rattle.law_basic.specs.Geometry.{Ranged, ranged}
use Rattle.disk_records.specs.Record.{rec_val}
use Rattle.recover_addresses.specs.Lies.{counted_segment_low, counted_zone_low, offset_low, record_there, lies_here, stamp_away, stamp_here, away_counted}
use Rattle.recover_addresses.proofs.stamp_at.Goals as goal

pub is_sealed-full-requires : goal.is_sealed-full-requires
is_sealed-full-requires c =
    let a = c.args in
    let q = c.requires in
    let v : View = view_of a.p a.offline.now a.image.now a.pointers.now in
    record {
      p_value = q.ground.in_range_holds;
      pointers_len =
          (q.ground.whole.pointers_long, counted_segment_low a.p v a.gone q.ground.here a.compact.now a.segment q.somewhere.0 q.somewhere.1.counted);
    }

pub lost_stamp-requires : goal.lost_stamp-requires
lost_stamp-requires c =
    let a = c.args in
    let q = c.requires in
    let r : Ranged a.p = ranged a.p q.ground.in_range_holds in
    let v : View = view_of a.p a.offline.now a.image.now a.pointers.now in record {
      ground = q.ground;
      stripe_counts = (
        away_counted a.p r v a.gone a.compact.now a.drive a.segment a.offset q.somewhere.0 q.somewhere.1
            (sym c.has_drive.ensures ∙ c.if-has_drive.true),
        c.is_sealed-full.ensures a.offline.now a.image.now q.ground.whole.image_long,
      );
    }

pub returns-then-has_drive : goal.returns-then-has_drive
returns-then-has_drive c =
    let a = c.args in
    let q = c.requires in
    let r : Ranged a.p = ranged a.p q.ground.in_range_holds in
    let v : View = view_of a.p a.offline.now a.image.now a.pointers.now in
    λ s k. stamp_away a.p r v a.gone a.compact.now a.drive a.segment a.offset s k
    (sym c.has_drive.ensures ∙ c.if-has_drive.true) c.lost_stamp.result.0 c.lost_stamp.ensures

pub zone_on-zone-requires : goal.zone_on-zone-requires
zone_on-zone-requires c =
    let q = c.requires in record { p_value = q.ground.in_range_holds; drive_lt_n = q.somewhere.1.drive_low }

pub record_in-r-requires : goal.record_in-r-requires
record_in-r-requires c =
    let a = c.args in
    let q = c.requires in
    let r : Ranged a.p = ranged a.p q.ground.in_range_holds in
    let v : View = view_of a.p a.offline.now a.image.now a.pointers.now in
    let k = q.somewhere.1 in
    let pr : is_in a.gone a.drive ≡ false = sym c.has_drive.ensures ∙ c.if-has_drive.false in
    let hz : c.zone_on-zone.result < a.p.Z =
    subst (λ (x : ℕ). x < a.p.Z) (sym c.zone_on-zone.ensures)
    (counted_zone_low a.p r v a.gone q.ground.here a.compact.now a.segment q.somewhere.0 q.ground.clean k.counted a.drive k.drive_low pr) in
    let ho : a.offset < a.p.S = subst (λ (x : ℕ). x < a.p.S) (sym (lies_here a.p r v a.gone a.compact.now a.drive a.segment a.offset q.somewhere.0 k pr))
    (offset_low a.p r v a.gone q.ground.here a.compact.now a.segment q.somewhere.0 q.ground.clean k.counted a.drive k.drive_low pr) in
    record { p_value = q.ground.in_range_holds; image_len = (q.ground.whole.image_long, k.drive_low, hz, ho) }

pub returns : goal.returns
returns c =
    let a = c.args in
    let q = c.requires in
    let zone_on_holds = c.zone_on-zone in
    let if1 = c.if-has_drive in
    let has-drive = c.has_drive in
    let is-sealed = c.is_sealed-full in
    let r : Ranged a.p = ranged a.p q.ground.in_range_holds in
    let v : View = view_of a.p a.offline.now a.image.now a.pointers.now in
    let pr : is_in a.gone a.drive ≡ false = sym has-drive.ensures ∙ if1.false in
    let ez : zone_on_holds.result ≡ zone_on a.segment a.drive = zone_on_holds.ensures in
    λ s k. stamp_here a.p r v a.gone a.compact.now a.drive a.segment a.offset s k pr (rec_val c.record_in-r.result)
    (record_there a.p r v a.gone q.ground.here a.compact.now a.segment s q.ground.clean k.counted a.drive k.drive_low pr
    is-sealed.result a.offset (rec_val c.record_in-r.result)
    (is-sealed.ensures a.offline.now a.image.now q.ground.whole.image_long) (lies_here a.p r v a.gone a.compact.now a.drive a.segment a.offset s k pr)
    (c.record_in-r.ensures a.offline.now a.pointers.now q.ground.whole.pointers_long ∙ ap (λ (z : ℕ). record_in a.p is-sealed.result (zone_at v a.drive z) a.offset) ez))
