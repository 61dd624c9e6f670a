-- `landed_cand`: field by field: entry k, its data drive, and the offset there, which is below S and so a place of the segment. Assumes nothing.
use Prim.Native.Nat.{ℕ, ◌+◌, ◌<◌}
use Rattle.spec.specs.Drives.{zone_on}
use Rattle.spec.specs.Landing.{landed_cand}
use Rattle.spec.specs.Layout.{Rec, data_drive}
use Rattle.spec.specs.Memory.{stripe_in, entry_in_of, offset_in}
use Rattle.spec.specs.Params.{place_of}
use Rattle.law_basic.specs.Geometry.{ranged, data_count_high, data_below}
use Rattle.law_basic.specs.Segs.{low_here}
use Rattle.call_land_chunk.specs.Alone.{alone}
use mathlib.Core.Path.{◌≡◌, ap, ◌∙◌, subst, sym}
use native.Mathlib.Omega.{arith}
use Rattle.call_land_table.proofs.landed_cand.Goals as goal
use Rattle.call_land_table.proofs.landed_cand.Goals.{After-zone_on-zone}

pub entry-e-requires : goal.entry-e-requires
entry-e-requires c = let q = c.requires in omega (arith, q.zones_low.1, data_count_high c.args.p (ranged c.args.p q.p_value))

pub offset_in-offset-requires : goal.offset_in-offset-requires
offset_in-offset-requires c =
    let q = c.requires in
    let args = c.args in
    omega (arith, c.data_drive-drive.ensures.1, (ranged args.p q.p_value).drives_high)

pub zone_on-zone-requires : goal.zone_on-zone-requires
zone_on-zone-requires c = record { p_value = c.requires.p_value; drive_lt_n = c.data_drive-drive.ensures.1 }

-- the offset is one of a data block
low : (c : After-zone_on-zone) → c.offset_in-offset.result < c.args.p.S
low c =
    let data-drive = c.data_drive-drive in
    let args = c.args in
    let pre = c.requires in
    subst (λ (x : ℕ). x < args.p.S) (sym c.offset_in-offset.ensures) (pre.zones_low.2 data-drive.result data-drive.ensures.1)

pub overflow_add-offset : goal.overflow_add-offset
overflow_add-offset c =
    let args = c.args in
    let pre = c.requires in
    omega (arith, low (goal.at.overflow_add-offset c).After-zone_on-zone, (ranged args.p pre.p_value).stripes_high)

pub place_of-place-requires : goal.place_of-place-requires
place_of-place-requires c =
    let q = c.requires in
    let data-drive = c.data_drive-drive in
    let args = c.args in
    let p = args.p in
    let z = low_here p args.segment data-drive.result q.zones_low.0 data-drive.ensures.1 in
    record {
      p_value = q.p_value;
      drive_lt_n = (
        data-drive.ensures.1,
        omega (arith, c.zone_on-zone.ensures, z),
        data_below p (ranged p q.p_value) (1 + c.offset_in-offset.result)
            (omega (arith, low (goal.at.place_of-place-requires c).After-zone_on-zone)),
      );
    }

pub returns : goal.returns
unfolding landed_cand entry_in_of
returns c v h =
    let a = c.args in
    let offset-in = c.offset_in-offset in
    let data-drive = c.data_drive-drive in
    let entry = c.entry-e in
    let p = a.p in
    let st = alone a.row in
    let i : ℕ = 0 in
    let s = stripe_in st i in
    let e = entry.ensures in
    let n = entry.result.stripe in
    let f : n ≡ s = ap (λ (r : Rec). r.stripe) e in
    let d : data-drive.result ≡ data_drive p s a.k = data-drive.ensures.0 ∙ ap (λ (x : ℕ). data_drive p x a.k) f in
    let o : offset-in.result ≡ offset_in st i (data_drive p s a.k) = offset-in.ensures ∙ ap (offset_in st i) d in
    let z : c.zone_on-zone.result ≡ zone_on a.segment (data_drive p s a.k) = c.zone_on-zone.ensures ∙ ap (zone_on a.segment) d in
    let w : c.place_of-place.result.0 ≡ place_of p (data_drive p s a.k) (zone_on a.segment (data_drive p s a.k)) (1 + offset_in st i (data_drive p s a.k)) =
    c.place_of-place.ensures.0 ∙ (λ j. place_of p (d j) (z j) (1 + o j)) in
    λ j. record { address = (e j).address; stamp = (e j).stamp; serial = h j; drive = d j; offset = o j; place = w j }
