-- `add_stamp`: a missing drive leaves t; on a present one the compact table shows the stripe's offset, and the record there is the stored one. Assumes nothing.
use mathlib.Core.Path.{◌≡◌, sym, ap, ◌∙◌, subst}
use mathlib.Core.Bool.{false}
use Prim.Native.Nat.{ℕ, ◌<◌}
use Rattle.spec.specs.Drives.{View, view_of, zone_at, record_in}
use Rattle.spec.specs.Layout.{Rec}
use Rattle.spec.specs.Lists.{first_or, is_in}
use Rattle.spec.specs.Memory.{shown_at}
use Rattle.spec.specs.Segments.{segment_of, offset_on, stored_rec}
use Rattle.law_basic.specs.Geometry.{ranged}
use Rattle.disk_records.specs.Record.{rec_val}
use Rattle.recover_addresses.specs.Lies.{counted_zone_low, shown_there, offset_low, record_there, add_away, add_here}
use Rattle.std.specs.Prelude.{Option, Some, None, IsSome, unwrap_or}
use mathlib.Core.Path.{refl}
use native.Mathlib.Omega.{arith}
use Rattle.recover_addresses.proofs.add_stamp.Goals as goal
use Rattle.recover_addresses.proofs.add_stamp.Goals.{After-zone_on-zone, After-shown_at}

pub returns-then-has_drive : goal.returns-then-has_drive
returns-then-has_drive c = add_away _ _ _ (sym c.has_drive.ensures ∙ c.if-has_drive.true)

pub zone_on-zone-requires : goal.zone_on-zone-requires
zone_on-zone-requires c =
    let q = c.requires in record { p_value = q.ground.in_range_holds; drive_lt_n = q.drive_lt_n.0 }

-- its zone on a present drive is one
zone_low : (c : After-zone_on-zone) → c.zone_on-zone.result < c.args.p.Z
zone_low c =
    let a = c.args in
    let q = c.requires in
    let v : View = view_of a.p a.offline.now a.image.now a.pointers.now in
    subst (λ (x : ℕ). x < a.p.Z) (sym c.zone_on-zone.ensures)
    (counted_zone_low a.p (ranged a.p q.ground.in_range_holds) v a.gone q.ground.here a.compact.now a.segment a.s q.ground.clean q.drive_lt_n.1 a.drive q.drive_lt_n.0
    (sym c.has_drive.ensures ∙ c.if-has_drive.false))

pub shown_at-requires : goal.shown_at-requires
shown_at-requires c =
    let q = c.requires in
    record {
      p_value = q.ground.in_range_holds;
      pointers_len = (q.ground.whole.pointers_long, q.ground.compact_long);
      drive_lt_n = (q.drive_lt_n.0, zone_low (goal.at.shown_at-requires c).After-zone_on-zone, q.drive_lt_n.1.stripe_low);
    }

-- the table shows the stripe at the offset where the segment has it
shown : (c : After-shown_at) →
    let a = c.args in
    let v = view_of a.p a.offline.now a.image.now a.pointers.now in
    unwrap_or c.shown_at.result a.p.S ≡ offset_on (segment_of a.p v a.gone a.segment) a.drive a.s
shown c =
    let a = c.args in
    let q = c.requires in
    let v : View = view_of a.p a.offline.now a.image.now a.pointers.now in
    shown_there a.p (ranged a.p q.ground.in_range_holds) v a.gone q.ground.here a.compact.now a.segment a.s q.ground.clean q.drive_lt_n.1 a.drive q.drive_lt_n.0
    (sym c.has_drive.ensures ∙ c.if-has_drive.false) (unwrap_or c.shown_at.result a.p.S)
    (c.shown_at.ensures.by_index a.offline.now a.image.now q.ground.whole.image_long ∙ ap (λ (z : ℕ). first_or a.p.S (shown_at a.p v a.compact.now a.drive z a.s)) c.zone_on-zone.ensures)

-- which lies below S
shown_low : (c : After-shown_at) → unwrap_or c.shown_at.result c.args.p.S < c.args.p.S
shown_low c =
    let a = c.args in
    let q = c.requires in
    let v : View = view_of a.p a.offline.now a.image.now a.pointers.now in
    subst (λ (x : ℕ). x < a.p.S) (sym (shown c))
    (offset_low a.p (ranged a.p q.ground.in_range_holds) v a.gone q.ground.here a.compact.now a.segment a.s q.ground.clean q.drive_lt_n.1 a.drive q.drive_lt_n.0
    (sym c.has_drive.ensures ∙ c.if-has_drive.false))

below_some : (o : Option ℕ) (n : ℕ) → unwrap_or o n < n → IsSome o
below_some None n h = absurd (let w : ⊥ = omega arith in w)
below_some (Some x) n h = refl

pub unwrap-o-requires : goal.unwrap-o-requires
unwrap-o-requires c = below_some c.shown_at.result c.args.p.S (shown_low (goal.at.unwrap-o-requires c).After-shown_at)

pub record_in-r-requires : goal.record_in-r-requires
record_in-r-requires c =
    let q = c.requires in
    let there = (goal.at.record_in-r-requires c).After-shown_at in
    record {
      p_value = q.ground.in_range_holds;
      image_len =
          (q.ground.whole.image_long, q.drive_lt_n.0, zone_low (goal.at.record_in-r-requires c).After-zone_on-zone, rw c.unwrap-o.ensures at (shown_low there));
    }

pub returns : goal.returns
returns c =
    let a = c.args in
    let q = c.requires in
    let o = c.unwrap-o.result in
    let there = (goal.at.returns c).After-shown_at in
    let v : View = view_of a.p a.offline.now a.image.now a.pointers.now in
    let pr : is_in a.gone a.drive ≡ false = sym c.has_drive.ensures ∙ c.if-has_drive.false in
    let eo : o ≡ offset_on (segment_of a.p v a.gone a.segment) a.drive a.s =
    ap (λ (x : Option ℕ). unwrap_or x a.p.S) (sym c.unwrap-o.ensures) ∙ shown there in
    let er : rec_val c.record_in-r.result ≡ stored_rec (segment_of a.p v a.gone a.segment) a.s a.drive =
    record_there a.p (ranged a.p q.ground.in_range_holds) v a.gone q.ground.here a.compact.now a.segment a.s q.ground.clean q.drive_lt_n.1 a.drive q.drive_lt_n.0 pr
    a.full o (rec_val c.record_in-r.result) q.drive_lt_n.2 eo
    (c.record_in-r.ensures a.offline.now a.pointers.now q.ground.whole.pointers_long ∙ ap (λ (z : ℕ). record_in a.p a.full (zone_at v a.drive z) o) c.zone_on-zone.ensures) in
    add_here (is_in a.gone a.drive) a.t.0 (stored_rec (segment_of a.p v a.gone a.segment) a.s a.drive).stamp c.record_in-r.result.stamp.0 pr
    (ap (λ (x : Rec). x.stamp) er)
