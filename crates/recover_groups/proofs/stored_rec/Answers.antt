-- `stored_rec`: an entered chunk's offset lies in the group, below S, and the record read at it is the stripe's, by `record_read`. Assumes nothing.
use mathlib.Core.Path.{◌∙◌}
use native.Mathlib.Omega.{arith}
use Rattle.spec.specs.Drives.{zone_at, view_of, record_in}
use Rattle.law_basic.specs.Geometry.{ranged}
use Rattle.recover_groups.specs.Bases.{group_len_le, group_len_fits}
use Rattle.recover_groups.specs.Pieces.{record_read}
use Rattle.recover_groups.proofs.stored_rec.Goals as goal

pub zone_on-zone-requires : goal.zone_on-zone-requires
zone_on-zone-requires c =
    let pre = c.requires in record { p_value = pre.p_value; drive_lt_n = pre.image_len.4 }

pub offset_on-requires : goal.offset_on-requires
offset_on-requires c =
    let args = c.args in
    let pre = c.requires in
    (let g = group_len_le args.p args.w.base in (
      pre.image_len.1,
      omega (arith, pre.image_len.4, (ranged args.p pre.p_value).drives_high),
      omega (arith, pre.image_len.5, g, (ranged args.p pre.p_value).group_high),
      omega (arith, pre.image_len.3, (ranged args.p pre.p_value).stripes_high),
      pre.entered.0,
    ))

pub record_in-requires : goal.record_in-requires
record_in-requires c =
    let args = c.args in
    let pre = c.requires in
    let f = group_len_fits args.p args.w.base (omega (arith, pre.image_len.3)) in record {
      p_value = pre.p_value;
      image_len = (
        pre.image_len.0,
        pre.image_len.4,
        rw c.zone_on-zone.ensures pre.image_len.2,
        omega (arith, f, c.offset_on.ensures.value, pre.entered.0, pre.entered.1),
      );
    }

pub returns : goal.returns
returns c =
    let a = c.args in
    let zone_on_holds = c.zone_on-zone in
    let pre = c.requires in
    let p = a.p in
    let w = a.w in
    let im = a.image.now in
    λ off ps x. c.record_in.ensures off ps x.long
    ∙ (λ j. record_in p w.full (zone_at (view_of p off im ps) a.drive (zone_on_holds.ensures j)) (c.offset_on.ensures.value j))
    ∙ record_read p off im ps w a.at.now (ranged a.p pre.p_value) pre.image_len.0 x pre.image_len.3 a.k pre.image_len.5 a.drive pre.image_len.4 pre.entered.0
