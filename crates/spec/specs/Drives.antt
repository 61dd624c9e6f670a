-- The drives: bytes, the view over them, and the two stores (01, The array). Assumes nothing.
use Rattle.std.specs.Prelude.{List, [], ◌∷◌, ◌++◌, map, Bool, true, false, not, ◌&&◌, ℕ, suc, ◌+◌, ◌-◌, ◌*◌, min, eqb, ltb, length, get_or, take, drop, set, replicate}
use Rattle.spec.specs.declared.Params.{Params}
use Rattle.spec.specs.declared.Seg.{Seg}
use Rattle.spec.specs.Bytes.{be_of, to_be, part, splice}
use Rattle.spec.specs.Layout.{header_block, Rec, record_of_of, footer_block, footer_record}
use Rattle.spec.specs.Lists.{up_from, below, all, keep, least, first_or, same_list, pad_to, pieces, zipped}
use Rattle.spec.specs.Params.{spare_len, capacity, unit_len, zone_len, drive_len, place_of, place_byte, most_with, drives_of, present}

-- a block with its spare
pub record Chunk : Type 0 where
  pub block : List ℕ
  pub spare : List ℕ

abbrev pub mk_chunk : List ℕ → List ℕ → Chunk
mk_chunk b s = record { block = b; spare = s }

-- what is read outside the image
unfoldable pub no_chunk : Chunk
no_chunk = mk_chunk [] []

-- a zone: its write pointer, and its blocks, stored or not
pub record Zone : Type 0 where
  pub pointer : ℕ
  pub blocks : List Chunk

abbrev pub mk_zone : ℕ → List Chunk → Zone
mk_zone n bs = record { pointer = n; blocks = bs }

-- what is read outside the drives
unfoldable pub no_zone : Zone
no_zone = mk_zone 0 []

-- what lies below the pointer
unfoldable pub stored : Zone → List Chunk
stored q = take q.pointer q.blocks

-- the zones by drive, then zone; 02, item 4: and the lent list of offline ones
pub record View : Type 0 where
  pub zones : List (List Zone)
  pub offline : List ℕ

abbrev pub mk_view : List (List Zone) → List ℕ → View
mk_view qs off = record { zones = qs; offline = off }

-- 01, The array: a zone of a drive
unfoldable pub zone_at : View → ℕ → ℕ → Zone
zone_at v d z = get_or (get_or v.zones d []) z no_zone

-- 01, The array: its write pointer
unfoldable pub pointer_at : View → ℕ → ℕ → ℕ
pointer_at v d z = (zone_at v d z).pointer

-- 01, The array: a block of a zone with its spare
unfoldable pub chunk_at : View → ℕ → ℕ → ℕ → Chunk
chunk_at v d z b = get_or (zone_at v d z).blocks b no_chunk

-- ---- the view of the bytes

-- 01, The array: each block followed by its spare
unfoldable pub chunk_of : Params → List ℕ → Chunk
chunk_of p bs = mk_chunk (take p.B bs) (drop p.B bs)

-- a zone's bytes and its pointer's bytes
unfoldable pub zone_of : Params → List ℕ → List ℕ → Zone
zone_of p im ptr = mk_zone (be_of ptr) (map (chunk_of p) (pieces (unit_len p) (capacity p) im))

-- a drive's bytes and its pointers' bytes
unfoldable pub drive_of : Params → List ℕ → List ℕ → List Zone
drive_of p im ptrs = zipped (zone_of p) (pieces (zone_len p) p.Z im) (pieces 4 p.Z ptrs)

-- 01, The array: image and pointers, by drive, zone and block
unfoldable pub zones_of : Params → List ℕ → List ℕ → List (List Zone)
zones_of p im ptrs = zipped (drive_of p) (pieces (drive_len p) p.N im) (pieces (4 * p.Z) p.N ptrs)

-- 01, The array; 02, item 4: the drives as lent, off the list of offline zones
unfoldable pub view_of : Params → List ℕ → List ℕ → List ℕ → View
view_of p off im ptrs = mk_view (zones_of p im ptrs) off

-- ---- stores

-- 01, The array: a store
pub data Store : Type 0 where
  put : ℕ → ℕ → List ℕ → List ℕ → Store
  reset : ℕ → ℕ → Store

-- 01, The array: one block with its spare at the zone's pointer, which is raised by 1
unfoldable pub put_zone : List ℕ → List ℕ → Zone → Zone
put_zone b s q = mk_zone (suc q.pointer) (set q.blocks q.pointer (mk_chunk b s))

-- 01, The array: pointer 0, bytes kept
unfoldable pub reset_zone : Zone → Zone
reset_zone q = mk_zone 0 q.blocks

-- one zone replaced
unfoldable pub set_zone : View → ℕ → ℕ → Zone → View
set_zone v d z q = mk_view (set v.zones d (set (get_or v.zones d []) z q)) v.offline

-- a store's effect on the view
unfoldable pub store_view_of : Store → View → View
store_view_of (put d z b s) v = set_zone v d z (put_zone b s (zone_at v d z))
store_view_of (reset d z) v = set_zone v d z (reset_zone (zone_at v d z))

-- image and pointers
pub record Disk : Type 0 where
  pub image : List ℕ
  pub pointers : List ℕ

abbrev pub mk_disk : List ℕ → List ℕ → Disk
mk_disk im ptrs = record { image = im; pointers = ptrs }

-- 01, The array: where a pointer lies
unfoldable pub pointer_byte : Params → ℕ → ℕ → ℕ
pointer_byte p d z = 4 * (d * p.Z + z)

-- 01, The array: a pointer, 4 big-endian bytes
unfoldable pub pointer_of : Params → List ℕ → ℕ → ℕ → ℕ
pointer_of p ptrs d z = be_of (part (pointer_byte p d z) 4 ptrs)

-- 01, The array: a pointer replaced
unfoldable pub set_pointer : Params → List ℕ → ℕ → ℕ → ℕ → List ℕ
set_pointer p ptrs d z n = splice ptrs (pointer_byte p d z) (to_be 4 n)

-- a store's effect on the bytes
unfoldable pub store_disk : Params → Store → Disk → Disk
store_disk p (put d z b s) k = mk_disk
    (splice k.image (place_byte p (place_of p d z (pointer_of p k.pointers d z))) (b ++ s))
    (set_pointer p k.pointers d z (suc (pointer_of p k.pointers d z)))
store_disk p (reset d z) k = mk_disk k.image (set_pointer p k.pointers d z 0)

-- stores one at a time, on either
unfoldable pub store_all : {D : Type 0} → (Store → D → D) → List Store → D → D
store_all f [] d = d
store_all f (s ∷ ss) d = store_all f ss (f s d)

-- ---- good zones and empty ones (02, item 4)

-- 02, item 4: one byte for each drive and zone, drive after drive; any byte but 0 marks an offline zone
unfoldable pub is_good : Params → List ℕ → ℕ → ℕ → Bool
is_good p off d z = eqb (get_or off (d * p.Z + z) 0) 0

-- 02, item 4: the good zones of a drive
unfoldable pub good_zones : Params → List ℕ → ℕ → List ℕ
good_zones p off d = keep (is_good p off d) (below p.Z)

-- 02, item 4: the fewest good zones on any drive
unfoldable pub good_count : Params → List ℕ → ℕ
good_count p off = least p.Z (map (λ d. length (good_zones p off d)) (drives_of p))

-- 02, item 4: refusal 10: fewer than four good zones on some drive
unfoldable pub few_good : Params → List ℕ → Bool
few_good p off = ltb (good_count p off) 4

-- 02, item 4: L above only the narrower bound
unfoldable pub above_narrow : Params → List ℕ → Bool
above_narrow p off = ltb (most_with p (good_count p off)) p.L

-- 02, item 4: a list that no call refuses
unfoldable pub list_ok : Params → List ℕ → Bool
list_ok p off = not (few_good p off) && not (above_narrow p off)

-- 02, item 4: the empty good zones of a drive, rising
unfoldable pub empty_zones : Params → View → ℕ → List ℕ
empty_zones p v d = keep (λ z. eqb (pointer_at v d z) 0) (good_zones p v.offline d)

-- 02, item 4: empty zones are the fewest empty good ones on any drive
unfoldable pub empty_count : Params → View → ℕ
empty_count p v = least p.Z (map (λ d. length (empty_zones p v d)) (drives_of p))

-- ---- segments (02, item 4)

-- 02, item 4: a segment, by its zones on the drives
abbrev pub seg : List ℕ → Seg
seg zs = record { zones = zs }

-- no segment
unfoldable pub no_seg : Seg
no_seg = seg (replicate 8 0)

-- 02, item 4: the segment whose zone on each drive is f's
unfoldable pub seg_with : Params → (ℕ → ℕ) → Seg
seg_with p f = seg (pad_to 8 (map f (drives_of p)))

-- one segment
unfoldable pub same_seg : Seg → Seg → Bool
same_seg g h = same_list g.zones h.zones

-- 02, item 4: the zone of segment g on drive d
unfoldable pub zone_on : Seg → ℕ → ℕ
zone_on g d = get_or g.zones d 0

-- 02, item 4: a segment takes each drive's lowest empty good zone
unfoldable pub new_seg : Params → View → Seg
new_seg p v = seg_with p (λ d. first_or 0 (empty_zones p v d))

-- its zones, by drive
unfoldable pub zones_in : Params → Seg → List ℕ
zones_in p g = map (zone_on g) (drives_of p)

-- 01, Restart, 3: all present zones full
unfoldable pub sealed_in : Params → View → ℕ → Seg → Bool
sealed_in p v gone g = all (λ d. eqb (pointer_at v d (zone_on g d)) (capacity p)) (present p gone)

-- ---- records of a zone

-- data blocks below the pointer
unfoldable pub data_stored : Params → Zone → ℕ
data_stored p q = min (q.pointer - 1) p.S

-- the blocks of chunks
unfoldable pub blocks_of : List Chunk → List (List ℕ)
blocks_of cs = map (λ (c : Chunk). c.block) cs

-- the spares of chunks
unfoldable pub spares_of : List Chunk → List (List ℕ)
spares_of cs = map (λ (c : Chunk). c.spare) cs

-- 01, Restart, 3: sealed segments are read by footer, others by spare
unfoldable pub record_in : Params → Bool → Zone → ℕ → Rec
record_in p true q o = footer_record p (blocks_of (drop (1 + p.S) q.blocks)) o
record_in p false q o = record_of_of (get_or q.blocks (1 + o) no_chunk).spare

-- record at a data offset of drive d, segment g
unfoldable pub record_at : Params → View → ℕ → ℕ → Seg → ℕ → Rec
record_at p v gone d g o = record_in p (sealed_in p v gone g) (zone_at v d (zone_on g d)) o

-- 01, What a zone holds: the zone's footer blocks from number i on, n of them, made from its spares
unfoldable pub footers_of : Params → Zone → ℕ → ℕ → List (List ℕ)
footers_of p q i n = map (footer_block p (spares_of (take p.S (drop 1 q.blocks)))) (up_from i n)

-- spare of a header or footer block
unfoldable pub zero_spare : List ℕ
zero_spare = replicate spare_len 0

-- the stores of headers, by drive
unfoldable pub header_stores : Params → Seg → ℕ → ℕ → List Store
header_stores p g serial copied = map (λ d. put d (zone_on g d) (header_block p d (zones_in p g) serial copied) zero_spare) (drives_of p)

-- the stores of footer blocks i, i + 1, ..: n of them
unfoldable pub footer_stores : Params → ℕ → ℕ → Zone → ℕ → ℕ → List Store
footer_stores p d z q i n = map (λ (b : List ℕ). put d z b zero_spare) (footers_of p q i n)

-- the resets of a segment, by drive
unfoldable pub reset_stores : Params → Seg → List Store
reset_stores p g = map (λ d. reset d (zone_on g d)) (drives_of p)
