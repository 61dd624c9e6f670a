-- `block_at`: an entered chunk's block lies below capacity, within the image, and is the stripe's, by `block_read`. Assumes nothing.
use mathlib.Core.Path.{sym, ap, ◌∙◌}
use Prim.Native.Nat.{ℕ, ◌+◌}
use native.Mathlib.Omega.{arith}
use Rattle.spec.specs.Bytes.{part}
use Rattle.spec.specs.Params.{unit_len, place_of, place_byte}
use Rattle.law_basic.specs.Geometry.{ranged, data_below}
use Rattle.recover_groups.specs.Bases.{group_len_le, group_len_fits}
use Rattle.recover_groups.specs.Pieces.{block_read}
use Rattle.recover_groups.proofs.block_at.Goals as goal

pub zone_on-zone-requires : goal.zone_on-zone-requires
zone_on-zone-requires c =
    let pre = c.requires in record { p_value = pre.p_value; drive_lt_n = pre.at_len.3 }

pub offset_on-requires : goal.offset_on-requires
offset_on-requires c =
    let args = c.args in
    let pre = c.requires in
    let g = group_len_le args.p args.w.base in (
      pre.at_len.0,
      omega (arith, pre.at_len.3, (ranged args.p pre.p_value).drives_high),
      omega (arith, pre.at_len.4, g, (ranged args.p pre.p_value).group_high),
      omega (arith, pre.at_len.2, (ranged args.p pre.p_value).stripes_high),
      pre.entered.0,
    )

pub overflow_add-offset_on : goal.overflow_add-offset_on
overflow_add-offset_on c =
    let args = c.args in
    let pre = c.requires in
    let f = group_len_fits args.p args.w.base (omega (arith, pre.at_len.2)) in
    omega (arith, f, c.offset_on.ensures.value, pre.entered.0, pre.entered.1, (ranged args.p pre.p_value).stripes_high)

pub block_byte-requires : goal.block_byte-requires
block_byte-requires c =
    let args = c.args in
    let pre = c.requires in
    let f = group_len_fits args.p args.w.base (omega (arith, pre.at_len.2)) in record {
      p_value = pre.p_value;
      drive_lt_n = (
        pre.at_len.3,
        rw c.zone_on-zone.ensures pre.at_len.1,
        data_below args.p (ranged args.p pre.p_value) (1 + c.offset_on.result) (omega (arith, f, c.offset_on.ensures.value, pre.entered.0, pre.entered.1)),
      );
    }

pub returns : goal.returns
unfolding unit_len
returns c =
    let a = c.args in
    let pre = c.requires in
    let zone_on_holds = c.zone_on-zone in
    let offset_on_holds = c.offset_on in
    let p = a.p in record {
      b_bound = omega (arith, c.block_byte.ensures.1);
      by_index = λ off im ps h x.
          block_read p off im ps a.w a.at.now (ranged p pre.p_value) h x pre.at_len.2 a.k pre.at_len.4 a.drive pre.at_len.3 pre.at_len.1 pre.entered.0
          ∙ sym (ap (λ (t : ℕ). part t p.B im) (c.block_byte.ensures.0 ∙ (λ j. place_byte p (place_of p a.drive (zone_on_holds.ensures j) (1 + offset_on_holds.ensures.value j)))));
    }
