-- `cand_at`: the place's drive and zone say the row of its segment; its offset, stamp and the segment's serial make it the counted record that was found. Assumes nothing.
use mathlib.Core.Path.{◌≡◌, sym, ap, ap₂, ◌∙◌, subst}
use Prim.Native.Nat.{ℕ, ◌+◌, ◌*◌, ◌-◌, ◌≤◌, ◌<◌}
use native.Mathlib.Omega.{arith}
use lib.ListN.{get_or}
use Rattle.spec.specs.declared.Seg.{Seg}
use Rattle.spec.specs.Drives.{View, view_of}
use Rattle.spec.specs.Params.{place_block, place_zone, place_drive}
use Rattle.spec.specs.Segments.{segment_of, rec_of}
use Rattle.law_basic.specs.Geometry.{Ranged, ranged}
use Rattle.recover_addresses.specs.Lies.{LiesIn, block_low, lies_place_drive_low, place_lies, owner_row, it_is_found, lies_same}
use Rattle.recover_addresses.proofs.cand_at.Goals as goal
use Rattle.recover_addresses.proofs.cand_at.Lts
use Rattle.recover_addresses.proofs.cand_at.Reads
use Rattle.recover_addresses.proofs.cand_at.Tie

abbrev After-shared_slice_known8 : Type 0
After-shared_slice_known8 = Lts.After-shared_slice_known8 Tie.the-claims Reads.Pre Reads.Post Tie.handed_clauses

pub place_drive-drive-requires : goal.place_drive-drive-requires
place_drive-drive-requires c = c.requires.ground.in_range_holds

pub place_zone-zone-requires : goal.place_zone-zone-requires
place_zone-zone-requires c = c.requires.ground.in_range_holds

pub place_block-offset-requires : goal.place_block-offset-requires
place_block-offset-requires c = c.requires.ground.in_range_holds

pub overflow_sub-offset : goal.overflow_sub-offset
overflow_sub-offset c =
    let a = c.args in
    let q = c.requires in
    let v : View = view_of a.p a.offline.now a.image.now a.pointers.now in
    let (h, k, e, x) = q.has_cand in
    let l : 1 ≤ place_block a.p a.place.0 =
    subst (λ (y : ℕ). 1 ≤ place_block a.p y) e (block_low a.p (ranged a.p q.ground.in_range_holds) v a.gone q.ground.here q.ground.apart h k.0) in
    omega (arith, c.place_block-offset.ensures.0, l)

pub offline_at-requires : goal.offline_at-requires
offline_at-requires c =
    let a = c.args in
    let q = c.requires in
    let v : View = view_of a.p a.offline.now a.image.now a.pointers.now in
    let (h, k, e, x) = q.has_cand in
    let l : place_drive a.p a.place.0 < a.p.N =
    subst (λ (y : ℕ). place_drive a.p y < a.p.N) e (lies_place_drive_low a.p (ranged a.p q.ground.in_range_holds) v a.gone q.ground.here q.ground.apart h k.0) in
    record { p_value = q.ground.in_range_holds; drive_lt_n = (subst (λ (y : ℕ). y < a.p.N) (sym c.place_drive-drive.ensures.0) l, c.place_zone-zone.ensures.1) }

-- the index is that of the place's zone
index :
    (c : After-shared_slice_known8)
    → c.before.offline_at.result
    ≡ place_drive c.before.before.before.before.before.before.before.before.before.before.before.before.args.p
    c.before.before.before.before.before.before.before.before.before.before.before.before.args.place.0
    * c.before.before.before.before.before.before.before.before.before.before.before.before.args.p.Z
    + place_zone c.before.before.before.before.before.before.before.before.before.before.before.before.args.p
    c.before.before.before.before.before.before.before.before.before.before.before.before.args.place.0
index c =
    let at_place_zone_zone = c.before.before.before in
    let at_place_drive_drive = at_place_zone_zone.before in
    let start = at_place_drive_drive.before.before.before.before.before.before.before.before in
    let a = start.args in
    c.before.offline_at.ensures.0
    ∙ ap₂ (λ (d z : ℕ). d * a.p.Z + z) at_place_drive_drive.place_drive-drive.ensures.0 at_place_zone_zone.place_zone-zone.ensures.0

-- the row is one
low :
    (c : After-shared_slice_known8)
    → get_or c.before.before.before.before.before.before.before.before.before.before.before.before.args.owners.now c.before.offline_at.result 0
    < c.before.before.before.before.before.before.before.before.before.before.before.before.args.p.Z
low c =
    let start = c.before.before.before.before.before.before.before.before.before.before.before.before in
    let a = start.args in
    let q = start.requires in
    let v : View = view_of a.p a.offline.now a.image.now a.pointers.now in
    let (h, k, e, x) = q.has_cand in
    (owner_row a.p (ranged a.p q.ground.in_range_holds) v a.gone q.ground.here q.ground.apart h k.0 a.owners.now q.gathered.owners_are a.place.0
    (get_or a.owners.now c.before.offline_at.result 0) e (ap (λ (i : ℕ). get_or a.owners.now i 0) (index c))).row_low

pub offset_bounds-owners-offline_at : goal.offset_bounds-owners-offline_at
offset_bounds-owners-offline_at c = omega (arith, c.offline_at.ensures)

pub bounds-owners-offline_at : goal.bounds-owners-offline_at
bounds-owners-offline_at c =
    let q = c.requires in
    omega (arith, c.offline_at.ensures.1, q.gathered.owners_are.0)

pub overflow_cast-z : goal.overflow_cast-z
overflow_cast-z c =
    let a = c.args in
    let q = c.requires in
    omega (arith, low c.before, (ranged a.p q.ground.in_range_holds).zones_high)

pub row-segment-requires : goal.row-segment-requires
row-segment-requires c =
    let a = c.args in
    let q = c.requires in
    let l = low c.before in
    (omega (arith, l, q.gathered.rows_are.0), omega (arith, l, (ranged a.p q.ground.in_range_holds).zones_high))

pub stamp_at-stamp-requires : goal.stamp_at-stamp-requires
stamp_at-stamp-requires c =
    let a = c.args in
    let q = c.requires in
    let row = c.row-segment in
    let v : View = view_of a.p a.offline.now a.image.now a.pointers.now in
    let r : Ranged a.p = ranged a.p q.ground.in_range_holds in
    let (h, k, e, x) = q.has_cand in
    let o = owner_row a.p r v a.gone q.ground.here q.ground.apart h k.0 a.owners.now q.gathered.owners_are a.place.0
    (get_or a.owners.now c.offline_at.result 0) e (ap (λ (i : ℕ). get_or a.owners.now i 0) (index c.before.before)) in record {
      ground = q.ground;
      somewhere = (
        k.0.stripe,
        lies_same a.p v a.gone a.compact.now (place_drive a.p a.place.0) k.0.of (place_block a.p a.place.0 - 1) k.0.stripe
            c.place_drive-drive.result row.result (c.place_block-offset.result - 1)
            c.place_drive-drive.ensures.0
            (row.ensures ∙ o.row_is a.rows.now q.gathered.rows_are)
            (ap (λ (y : ℕ). y - 1) c.place_block-offset.ensures.0)
            (place_lies a.p r v a.gone q.ground.here q.ground.apart h k.0 a.compact.now k.1 a.place.0 e),
      );
    }

pub offset_bounds-serials-z : goal.offset_bounds-serials-z
offset_bounds-serials-z c =
    let at_shared_slice_known = c.before.before.before in
    let a = c.args in
    let q = c.requires in
    omega (arith, low at_shared_slice_known, (ranged a.p q.ground.in_range_holds).zones_high)

pub bounds-serials-z : goal.bounds-serials-z
bounds-serials-z c =
    let at_shared_slice_known = c.before.before.before.before in
    let q = c.requires in
    omega (arith, low at_shared_slice_known, q.gathered.serials_are.0)

pub returns : goal.returns
returns c =
    let at_shared_slice_known = c.before.before.before.before in
    let a = c.args in
    let q = c.requires in
    let stamp-at = c.stamp_at-stamp in
    let row = c.row-segment in
    let place_block_lem = c.place_block-offset in
    let place_drive_lem = c.place_drive-drive in
    let v : View = view_of a.p a.offline.now a.image.now a.pointers.now in
    let r : Ranged a.p = ranged a.p q.ground.in_range_holds in
    let z = get_or a.owners.now c.offline_at.result 0 in
    let ed = place_drive_lem.ensures.0 in
    let eo : place_block_lem.result - 1 ≡ place_block a.p a.place.0 - 1 = ap (λ (y : ℕ). y - 1) place_block_lem.ensures.0 in
    λ h k e x.
    let o = owner_row a.p r v a.gone q.ground.here q.ground.apart h k.0 a.owners.now q.gathered.owners_are a.place.0 z e (ap (λ (i : ℕ). get_or a.owners.now i 0) (index at_shared_slice_known)) in
    let es : row.result ≡ k.0.of = row.ensures ∙ o.row_is a.rows.now q.gathered.rows_are in
    let l : LiesIn a.p v a.gone a.compact.now place_drive_lem.result row.result (place_block_lem.result - 1) k.0.stripe =
    lies_same a.p v a.gone a.compact.now (place_drive a.p a.place.0) k.0.of (place_block a.p a.place.0 - 1) k.0.stripe
    place_drive_lem.result row.result (place_block_lem.result - 1) ed es eo (place_lies a.p r v a.gone q.ground.here q.ground.apart h k.0 a.compact.now k.1 a.place.0 e) in
    it_is_found a.p r v a.gone q.ground.here q.ground.apart h k.0 a.place.0 a.address.0 stamp-at.result.0 (get_or a.serials.now z 0)
    place_drive_lem.result (place_block_lem.result - 1) e x ed eo
    (stamp-at.ensures k.0.stripe l ∙ ap₂ (λ (y : Seg) (n : ℕ). (rec_of a.p a.gone (segment_of a.p v a.gone y) k.0.stripe n).stamp) es ed)
    (o.serial_there a.serials.now q.gathered.serials_are)
