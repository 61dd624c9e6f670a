-- Where things lie: stripes and groups, header, record and footer bytes (01, What a zone holds). Assumes nothing.
use Rattle.std.specs.Prelude.{List, [], ◌∷◌, ◌++◌, map, Bool, cond, not, ◌&&◌, ℕ, suc, ◌+◌, ◌-◌, ◌*◌, ◌/◌, ◌%◌, ltb, eqb, get_or, take, drop, replicate}
use Rattle.spec.specs.declared.Params.{Params}
use Rattle.spec.specs.Bytes.{part, Field, field, bytes_of, widths_of, read_field}
use Rattle.spec.specs.Lists.{up_from, below, keep, flat, total, pad_to}
use Rattle.spec.specs.Params.{data_count, record_table, address_field, stamp_field, stripe_field, record_widths, spare_len, per_footer}

-- 01, What a zone holds: the drive of stripe s's parity
unfoldable pub parity_drive : Params → ℕ → ℕ
parity_drive p s = p.N - 1 - s % p.N

-- 01, What a zone holds: data go to the other drives, lowest first: the drive of position i, and back
unfoldable pub data_drive : Params → ℕ → ℕ → ℕ
data_drive p s i = cond (ltb i (parity_drive p s)) i (suc i)

-- 01, What a zone holds: the data position of a drive
unfoldable pub data_position : Params → ℕ → ℕ → ℕ
data_position p s d = cond (ltb d (parity_drive p s)) d (d - 1)

-- 01, What a zone holds: the drive holds data of the stripe, not its parity
unfoldable pub is_data : Params → ℕ → ℕ → Bool
is_data p s d = not (eqb d (parity_drive p s))

-- 01, What a zone holds: which of the stripe's parities a drive without data holds; today the first (02, item 5)
unfoldable pub parity_position : Params → ℕ → ℕ → ℕ
parity_position p s d = 0

-- the drives of the data positions in order
unfoldable pub data_drives : Params → ℕ → List ℕ
data_drives p s = map (data_drive p s) (below (data_count p))

-- 01, What a zone holds: group of a stripe; it is also the group of a data offset
unfoldable pub group : Params → ℕ → ℕ
group p s = s / p.G

-- 01, What a zone holds: stripe s, at an offset of its group (the last group may be short)
unfoldable pub in_group_of : Params → ℕ → ℕ → Bool
in_group_of p o s = ltb s p.S && eqb (group p s) (group p o)

-- 01, What a zone holds: offsets of a stripe's group, rising
unfoldable pub group_offsets : Params → ℕ → List ℕ
group_offsets p s = keep (λ o. ltb o p.S) (up_from (group p s * p.G) p.G)

-- 01, What a zone holds: what the compact table holds of stripe s
unfoldable pub compact_entry : Params → ℕ → ℕ
compact_entry p s = s % p.G

-- 02, item 4: version 2
unfoldable pub header_version : ℕ
header_version = 2

-- 01, What a zone holds: the table of a header: width and number of each field, the first its own length
-- 02, item 4: the zone field is N numbers, by drive
unfoldable pub header_table : ℕ → Params → ℕ → List ℕ → ℕ → ℕ → List Field
header_table long p d zs serial copied =
    field 2 long ∷ field 1 header_version ∷ field 1 p.N ∷ field 1 d ∷ field 2 p.B ∷ field 2 p.G ∷ field 4 p.S ∷ map (field 4) zs
    ++ (field 8 p.L ∷ field 8 serial ∷ field 8 copied ∷ [])

-- the fields that are read back, by name: their index in the table
abbrev pub zone_field : ℕ → ℕ
zone_field d = 7 + d

abbrev pub serial_field : Params → ℕ
serial_field p = 8 + p.N

abbrev pub copied_field : Params → ℕ
copied_field p = 9 + p.N

-- 01, What a zone holds: the widths, whatever the numbers are
unfoldable pub header_widths : Params → List ℕ
header_widths p = widths_of (header_table 0 p 0 (replicate p.N 0) 0 0)

-- 01, What a zone holds: the header in bytes; 02, item 4: 37 + 4 × N
unfoldable pub header_len : Params → ℕ
header_len p = total (header_widths p)

-- 01, What a zone holds: the header's fields
unfoldable pub header_fields : Params → ℕ → List ℕ → ℕ → ℕ → List Field
header_fields p d zs serial copied = header_table (header_len p) p d zs serial copied

-- 01, What a zone holds: the header block on drive d of the segment with these zones
unfoldable pub header_block : Params → ℕ → List ℕ → ℕ → ℕ → List ℕ
header_block p d zs serial copied = pad_to p.B (bytes_of (header_fields p d zs serial copied))

-- 01, What a zone holds: the serial in a header
unfoldable pub header_serial : Params → List ℕ → ℕ
header_serial p b = read_field (header_widths p) (serial_field p) b

-- 01, What a zone holds: the copied serial in a header
unfoldable pub header_copied : Params → List ℕ → ℕ
header_copied p b = read_field (header_widths p) (copied_field p) b

-- 02, item 4: the zone that a header names for drive d
unfoldable pub header_zone : Params → List ℕ → ℕ → ℕ
header_zone p b d = read_field (header_widths p) (zone_field d) b

-- 02, item 4: the zones that it names, by drive
unfoldable pub header_zones : Params → List ℕ → List ℕ
header_zones p b = map (header_zone p b) (below p.N)

-- 01, What a zone holds: the record of a data block
pub record Rec : Type 0 where
  pub address : ℕ
  pub stamp : ℕ
  pub stripe : ℕ

abbrev pub mk_rec : ℕ → ℕ → ℕ → Rec
mk_rec a t s = record { address = a; stamp = t; stripe = s }

-- 01, What a zone holds: a record's fields
unfoldable pub record_fields : Rec → List Field
record_fields r = record_table r.address r.stamp r.stripe

-- 01, What a zone holds: a record in a spare
unfoldable pub record_bytes : Rec → List ℕ
record_bytes r = bytes_of (record_fields r)

-- 01, What a zone holds: and back
unfoldable pub record_of_of : List ℕ → Rec
record_of_of bs = mk_rec (read_field record_widths address_field bs) (read_field record_widths stamp_field bs) (read_field record_widths stripe_field bs)

-- 01, What a zone holds: footer block i of a zone whose S spares are these
unfoldable pub footer_block : Params → List (List ℕ) → ℕ → List ℕ
footer_block p spares i = pad_to p.B (flat (λ (b : List ℕ). b) (take (per_footer p) (drop (i * per_footer p) spares)))

-- 01, What a zone holds: record of data offset o, in the zone's footer blocks
unfoldable pub footer_record : Params → List (List ℕ) → ℕ → Rec
footer_record p blocks o = record_of_of (part (spare_len * (o % per_footer p)) spare_len (get_or blocks (o / per_footer p) []))
