-- The array's parameters, their ranges, lengths of the lent buffers, places (01, The array). Assumes nothing.
use Rattle.std.specs.Prelude.{List, [], ◌∷◌, Bool, not, ◌&&◌, ℕ, ◌+◌, ◌-◌, ◌*◌, ◌/◌, ◌%◌, leb}
use Rattle.spec.specs.declared.Params.{Params}
use Rattle.spec.specs.Bytes.{Field, field, widths_of}
use Rattle.spec.specs.Lists.{below, is_member_of, keep, total, only, is_in}

-- 01, The array: the six parameters
abbrev pub mk_params : ℕ → ℕ → ℕ → ℕ → ℕ → ℕ → Params
mk_params n b z s g l = record { N = n; B = b; Z = z; S = s; G = g; L = l }

-- from lo to hi
unfoldable pub between : ℕ → ℕ → ℕ → Bool
between lo hi n = leb lo n && leb n hi

-- 02, item 4: a power of two from 128 to 4,096
unfoldable pub block_sizes : List ℕ
block_sizes = 128 ∷ 256 ∷ 512 ∷ 1024 ∷ 2048 ∷ 4096 ∷ []

-- 01, What a zone holds: how many parities a stripe has, and so how many drives may be missing; today one (02, item 5)
unfoldable pub parity_count : Params → ℕ
parity_count p = 1

-- 01, What a zone holds: how many data positions a stripe has
unfoldable pub data_count : Params → ℕ
unfolding parity_count
data_count p = p.N - parity_count p

-- 01, The array: the greatest L of drives with n zones
unfoldable pub most_with : Params → ℕ → ℕ
most_with p n = (n - 3) * p.S * data_count p

-- 01, The array: the greatest L of any drives with Z zones; 02, item 4: offline ones make it less
unfoldable pub most_addresses : Params → ℕ
most_addresses p = most_with p p.Z

-- 01, The array: the ranges (refusal 1)
unfoldable pub in_range : Params → Bool
in_range p =
    between 3 8 p.N && is_member_of p.B block_sizes && between 4 1024 p.Z && between 1 65535 p.S && between 1 256 p.G
    && between 1 (most_addresses p) p.L

-- 01, What a zone holds: the table of a record: width and number of each field
unfoldable pub record_table : ℕ → ℕ → ℕ → List Field
record_table address stamp stripe = field 8 address ∷ field 8 stamp ∷ field 4 stripe ∷ []

-- its fields by name: their index in the table
abbrev pub address_field : ℕ
address_field = 0

abbrev pub stamp_field : ℕ
stamp_field = 1

abbrev pub stripe_field : ℕ
stripe_field = 2

-- 01, What a zone holds: their widths, whatever the numbers are
unfoldable pub record_widths : List ℕ
record_widths = widths_of (record_table 0 0 0)

-- 01, What a zone holds: the record in bytes, and so a spare
unfoldable pub spare_len : ℕ
spare_len = total record_widths

-- 01, What a zone holds: records a footer block
unfoldable pub per_footer : Params → ℕ
per_footer p = p.B / spare_len

-- 01, What a zone holds: F
unfoldable pub footers : Params → ℕ
footers p = (p.S + per_footer p - 1) / per_footer p

-- 01, What a zone holds: header, data and footer blocks
unfoldable pub capacity : Params → ℕ
capacity p = 1 + p.S + footers p

-- 01, The array: a block followed by its spare, in bytes; then a zone, a drive
unfoldable pub unit_len : Params → ℕ
unit_len p = p.B + spare_len

-- 01, The array: a zone in bytes
unfoldable pub zone_len : Params → ℕ
zone_len p = capacity p * unit_len p

-- 01, The array: a drive in bytes
unfoldable pub drive_len : Params → ℕ
drive_len p = p.Z * zone_len p

-- 01, The array: lengths of the lent buffers (refusal 2)
unfoldable pub image_len : Params → ℕ
image_len p = p.N * drive_len p

-- 01, The array: 4 bytes a zone
unfoldable pub pointers_len : Params → ℕ
pointers_len p = 4 * (p.N * p.Z)

-- 02, item 4: one byte for each drive and zone
unfoldable pub offline_len : Params → ℕ
offline_len p = p.N * p.Z

-- 01, The array: 4 bytes an address
unfoldable pub addresses_len : Params → ℕ
addresses_len p = 4 * p.L

-- 01, What a zone holds: one byte for each drive, zone and offset
unfoldable pub compact_len : Params → ℕ
compact_len p = p.N * p.Z * p.S

-- 01, The array: 8 × N × B bytes
unfoldable pub inflight_len : Params → ℕ
inflight_len p = 8 * p.N * p.B

-- 01, The array: the place of a block
unfoldable pub place_of : Params → ℕ → ℕ → ℕ → ℕ
place_of p d z b = (d * p.Z + z) * capacity p + b

-- and back
unfoldable pub place_block : Params → ℕ → ℕ
place_block p q = q % capacity p

-- 01, The array: the zone of a place
unfoldable pub place_zone : Params → ℕ → ℕ
place_zone p q = q / capacity p % p.Z

-- 01, The array: the drive of a place
unfoldable pub place_drive : Params → ℕ → ℕ
place_drive p q = q / capacity p / p.Z

-- 01, The array: byte offset of the block at a place
unfoldable pub place_byte : Params → ℕ → ℕ
place_byte p q = q * unit_len p

-- 01, Restart: the number that names no drive
unfoldable pub no_drive : ℕ
no_drive = 255

-- 01, Restart: the missing drives that a number names, as a mask; today at most one (02, item 5)
unfoldable pub named : ℕ → ℕ
named d = only d

-- the drives of the array, and those present
unfoldable pub drives_of : Params → List ℕ
drives_of p = below p.N

-- 01, Restart: the drives that are present
unfoldable pub present : Params → ℕ → List ℕ
present p gone = keep (λ d. not (is_in gone d)) (drives_of p)

-- 01, Restart: the drives that are missing
unfoldable pub absent : Params → ℕ → List ℕ
absent p gone = keep (is_in gone) (drives_of p)
