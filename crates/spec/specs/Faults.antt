-- Refusal 9 of restart and rebuild: what is wrong on the drives (01, Refusals). Assumes nothing.
use Rattle.std.specs.Prelude.{List, [], ◌∷◌, map, Bool, true, false, cond, not, ◌&&◌, ◌||◌, ℕ, suc, ◌+◌, ◌-◌, min, leb, ltb, eqb, length, get_or, take, drop}
use Rattle.spec.specs.declared.Params.{Params}
use Rattle.spec.specs.Calls.{Check}
use Rattle.spec.specs.Calls.Check.{zones}
use Rattle.spec.specs.Counts.{padding_address}
use Rattle.spec.specs.Drives.{Chunk, no_chunk, Zone, no_zone, View, pointer_at, is_good, zone_on, blocks_of, footers_of, zero_spare, same_seg}
use Rattle.spec.specs.Layout.{is_data, in_group_of, header_block, Rec}
use Rattle.spec.specs.Lists.{below, any, keep, is_nil, same_list}
use Rattle.spec.specs.Params.{footers, capacity, drives_of, present, absent}
use Rattle.spec.specs.Segments.{Segment, recs_on, counted, rec_of, unsealed, low_drive, bearing}

-- 01, Refusals, 9: a present drive's write pointer above capacity; 02, item 4: of good zones
unfoldable pub pointer_faults : Params → View → ℕ → List ℕ
pointer_faults p v gone = keep (λ z. any (λ d. is_good p v.offline d z && ltb (capacity p) (pointer_at v d z)) (present p gone)) (below p.Z)

-- equal block and spare
unfoldable pub same_chunk : Chunk → List ℕ → List ℕ → Bool
same_chunk c b s = same_list c.block b && same_list c.spare s

-- 01, Refusals, 9: a header not as above or, drive byte apart, unequal between drives
unfoldable pub header_fault : Params → ℕ → Segment → Bool
header_fault p gone g = any (λ d.
    not (same_chunk (get_or (get_or g.zones_by_holds d no_zone).blocks 0 no_chunk) (header_block p d g.names g.serial g.copied) zero_spare)) (present p gone)

-- 02, item 4: a header that names for its own drive another zone than its own
unfoldable pub own_fault : Params → ℕ → Segment → Bool
own_fault p gone g = any (λ d. not (eqb (get_or g.names d 0) (zone_on g.seg d))) (present p gone)

-- 02, item 4: or an offline zone or one not below Z
unfoldable pub bad_name : Params → View → Segment → Bool
bad_name p v g = any (λ d. not (ltb (get_or g.names d 0) p.Z && is_good p v.offline d (get_or g.names d 0))) (drives_of p)

-- 02, item 4: or for any drive a zone that another segment names
unfoldable pub name_clash : Params → List Segment → Segment → Bool
name_clash p gs g =
    any (λ (h : Segment). not (same_seg h.seg g.seg) && any (λ d. eqb (get_or h.names d 0) (get_or g.names d 0)) (drives_of p)) gs

-- 02, item 4: or a serial twice on a present drive
unfoldable pub serial_twice : Params → View → ℕ → Segment → Bool
serial_twice p v gone g = any (λ d. leb 2 (length (bearing p v d g.serial))) (present p gone)

-- 01, Refusals, 9: a serial at or below its copied one
unfoldable pub serial_fault : Segment → Bool
serial_fault g = leb g.serial g.copied

-- 01, Refusals, 9: a stripe number outside its group
unfoldable pub outside : Params → ℕ → List Rec → Bool
outside p o [] = false
outside p o (r ∷ rs) = not (in_group_of p o r.stripe) || outside p (suc o) rs

-- 01, Refusals, 9: or twice in a zone
unfoldable pub twice : List Rec → Bool
twice [] = false
twice (r ∷ rs) = any (λ (q : Rec). eqb q.stripe r.stripe) rs || twice rs

-- 01, Refusals, 9: a stripe number outside its group or twice in a zone
unfoldable pub stripe_fault : Params → ℕ → Segment → Bool
stripe_fault p gone g = any (λ d. outside p 0 (recs_on g d) || twice (recs_on g d)) (present p gone)

-- 01, Refusals, 9: a data address at or above L, not padding, or below L with stamp 0
unfoldable pub bad_rec : Params → Rec → Bool
bad_rec p r = (leb p.L r.address && not (eqb r.address padding_address)) || (ltb r.address p.L && eqb r.stamp 0)

-- 01, Refusals, 9: such a data address, stored
unfoldable pub stored_bad : Params → ℕ → Rec → Bool
stored_bad p d r = is_data p r.stripe d && bad_rec p r

-- 01, Refusals, 9: or decoded
unfoldable pub decoded_bad : Params → ℕ → Segment → ℕ → ℕ → Bool
decoded_bad p gone g d s =
    let b = bad_rec p (rec_of p gone g s d) in
    is_data p s d && b

-- 01, Refusals, 9: such an address in the segment
unfoldable pub address_fault : Params → ℕ → Segment → Bool
address_fault p gone g =
    any (λ d. any (stored_bad p d) (recs_on g d)) (present p gone) || any (λ d. any (decoded_bad p gone g d) (counted p gone g)) (absent p gone)

-- footer blocks below a zone's pointer
unfoldable pub footers_stored : Params → Zone → ℕ
footers_stored p q = min (q.pointer - 1 - p.S) (footers p)

-- equal lists of blocks
unfoldable pub same_blocks_of : List (List ℕ) → List (List ℕ) → Bool
same_blocks_of [] [] = true
same_blocks_of [] (b ∷ t) = false
same_blocks_of (a ∷ s) [] = false
same_blocks_of (a ∷ s) (b ∷ t) = same_list a b && same_blocks_of s t

-- 01, Refusals, 9: an unsealed zone's footer block not made from its spares
unfoldable pub footer_fault_in : Params → Zone → Bool
footer_fault_in p q =
    let n = footers_stored p q in
    not (same_blocks_of (blocks_of (take n (drop (1 + p.S) q.blocks))) (footers_of p q 0 n))

-- 01, Refusals, 9: such a footer block in an unsealed segment
unfoldable pub footer_fault : Params → ℕ → Segment → Bool
footer_fault p gone g = not g.full && any (λ d. footer_fault_in p (get_or g.zones_by_holds d no_zone)) (present p gone)

-- 01, Refusals, 9: two unsealed segments
unfoldable pub clashes : List Segment → Segment → Bool
clashes gs g = not g.full && leb 2 (length (unsealed gs))

-- 01, Refusals, 9: anything wrong with a remaining segment
unfoldable pub segment_fault : Params → View → ℕ → List Segment → Segment → Bool
segment_fault p v gone gs g =
    header_fault p gone g || own_fault p gone g || bad_name p v g || name_clash p gs g || serial_twice p v gone g || serial_fault g
    || stripe_fault p gone g || address_fault p gone g || footer_fault p gone g || clashes gs g

-- 01, Refusals, 9: the remaining segments with a fault; 02, item 4: every 9 names the segment's zone on the lowest present drive
unfoldable pub segment_faults : Params → View → ℕ → List Segment → List ℕ
segment_faults p v gone gs = map (λ (g : Segment). zone_on g.seg (low_drive p gone)) (keep (segment_fault p v gone gs) gs)

-- 01, Refusals, 9: pointers first, then remaining segments
unfoldable pub image_checks : Params → View → ℕ → List Segment → List Check
image_checks p v gone gs =
    let ps = pointer_faults p v gone in
    let ss = segment_faults p v gone gs in
    zones ps ∷ zones (cond (is_nil ps) ss []) ∷ []
