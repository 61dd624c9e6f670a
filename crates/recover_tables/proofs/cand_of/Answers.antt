-- `cand_of`: a counted stripe is entered where the drive is present; record, offset below S and place are then those of `cand_of`. Assumes nothing.
use mathlib.Core.Path.{sym, ap, ◌∙◌, subst}
use Prim.Native.Nat.{ℕ, ◌+◌, ◌<◌}
use native.Mathlib.Omega.{arith}
use Rattle.spec.specs.Drives.{view_of}
use Rattle.spec.specs.Params.{place_of}
use Rattle.recover_groups.specs.Groups.{segment_in}
use Rattle.law_basic.specs.Geometry.{Ranged, ranged, data_below}
use Rattle.disk_records.specs.Record.{rec_val}
use Rattle.recover_tables.specs.Ready.{stripe_byte, reading_entered, offset_fits, cand_is}
use Rattle.recover_tables.proofs.cand_of.Goals as goal

pub rec_of-r-requires : goal.rec_of-r-requires
rec_of-r-requires c =
    let a = c.args in
    let q = c.requires in
    let (off, ps, rd, cn) = q.reads_stripe in
    let h = q.image_len in record { p_value = q.p_value; image_len = (h.0, h.1, h.2, h.3, h.4, h.5); all_entered = reading_entered a.p off a.image.now ps a.w a.at.now a.k rd q.image_len.5 cn }

pub offset_of-offset-requires : goal.offset_of-offset-requires
offset_of-offset-requires c =
    let a = c.args in
    let q = c.requires in
    let r : Ranged a.p = ranged a.p q.p_value in
    let (off, ps, rd, cn) = q.reads_stripe in
    record {
      at_len = (
        q.image_len.1,
        omega (arith, q.image_len.4, r.drives_high),
        stripe_byte a.p off a.image.now ps a.w a.at.now a.k r q.image_len.5,
        omega
            (arith, q.image_len.3, r.stripes_high),
      );
      bound = λ e. (reading_entered a.p off a.image.now ps a.w a.at.now a.k rd q.image_len.5 cn a.drive q.image_len.4 e).0;
    }

pub zone_on-zone-requires : goal.zone_on-zone-requires
zone_on-zone-requires c =
    let q = c.requires in record { p_value = q.p_value; drive_lt_n = q.image_len.4 }

pub overflow_add-offset : goal.overflow_add-offset
overflow_add-offset c =
    let a = c.args in
    let q = c.requires in
    let r : Ranged a.p = ranged a.p q.p_value in
    let (off, ps, rd, cn) = q.reads_stripe in
    let e = c.offset_of-offset.ensures a.p (segment_in a.p off a.image.now ps a.w) rd.indexed q.image_len.4 q.image_len.5 in
    let l : c.offset_of-offset.result < a.p.S =
    subst (λ (x : ℕ). x < a.p.S) (sym e)
    (offset_fits a.p off a.image.now ps a.w a.at.now a.k a.drive q.image_len.3 q.image_len.5 q.image_len.4 rd cn) in
    omega (arith, l, r.stripes_high)

pub place_of-place-requires : goal.place_of-place-requires
place_of-place-requires c =
    let a = c.args in
    let q = c.requires in
    let r : Ranged a.p = ranged a.p q.p_value in
    let (off, ps, rd, cn) = q.reads_stripe in
    let e = c.offset_of-offset.ensures a.p (segment_in a.p off a.image.now ps a.w) rd.indexed q.image_len.4 q.image_len.5 in
    let l : c.offset_of-offset.result < a.p.S =
    subst (λ (x : ℕ). x < a.p.S) (sym e)
    (offset_fits a.p off a.image.now ps a.w a.at.now a.k a.drive q.image_len.3 q.image_len.5 q.image_len.4 rd cn) in
    let hz : c.zone_on-zone.result < a.p.Z = subst (λ (x : ℕ). x < a.p.Z) (sym c.zone_on-zone.ensures) q.image_len.6 in
    record { p_value = q.p_value; drive_lt_n = (q.image_len.4, hz, data_below a.p r (1 + c.offset_of-offset.result) (omega (arith, l))) }

pub returns : goal.returns
returns c =
    let a = c.args in
    let q = c.requires in
    let place_of_call = c.place_of-place in
    let zone_on_holds = c.zone_on-zone in
    let offset-of = c.offset_of-offset in
    let rec_of_holds = c.rec_of-r in
    let p = a.p in
    let o = offset-of.result in
    λ off ps rd es. cand_is p (view_of p off a.image.now ps) a.w.gone a.w.seg (a.w.base + a.k) a.drive (rec_val rec_of_holds.result) a.serial.0 o place_of_call.result.0
    (rec_of_holds.ensures off ps rd) (offset-of.ensures p (segment_in p off a.image.now ps a.w) rd.indexed q.image_len.4 q.image_len.5) es
    (place_of_call.ensures.0 ∙ ap (λ (z : ℕ). place_of p a.drive z (1 + o)) zone_on_holds.ensures)
