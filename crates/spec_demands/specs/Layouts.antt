-- "The drives hold the published layout" as a statement (demand 2; 01, What a zone holds): what stands in the zones of remaining segments. Assumes nothing.
use Rattle.std.specs.Prelude.{◌≡◌, List, map, Bool, true, false, ◌&&◌, ℕ, ◌+◌, ◌≤◌, ◌<◌, eqb, take, drop}
use Rattle.spec.specs.declared.Params.{Params}
use Rattle.spec.specs.Drives.{mk_chunk, View, zone_at, pointer_at, chunk_at, zone_on, data_stored, spares_of, record_at, zero_spare, same_seg, zones_in, is_good}
use Rattle.spec.specs.Faults.{footers_stored}
use Rattle.spec.specs.Layout.{parity_drive, data_drives, in_group_of, header_block, footer_block}
use Rattle.spec.specs.Lists.{any, is_in}
use Rattle.spec.specs.Params.{capacity}
use Rattle.spec.specs.Parity.{encode_piece}
use Rattle.spec.specs.Segments.{remaining, Segment, segment_of, counts, stored_piece}
use Rattle.spec.specs.declared.Seg.{Seg}

-- a drive that is present
abbrev pub Present : Params → ℕ → ℕ → Type 0
Present p gone d = (d < p.N) × (is_in gone d ≡ false)

-- 01, Restart, 1 and 2: a segment that remains
abbrev pub Remains : Params → View → ℕ → Seg → Type 0
Remains p v gone g = any (same_seg g) (remaining p v gone) ≡ true

-- a restart found a sealed segment of this serial: its footers came with the image, and may say anything
unfoldable pub found_sealed : List Segment → ℕ → Bool
found_sealed old serial = any (λ (g : Segment). eqb g.serial serial && g.full) old

-- a restart found this stripe counted: its parity came with the image, and may be false
unfoldable pub found_counted : Params → ℕ → List Segment → ℕ → ℕ → Bool
found_counted p gone old serial s = any (λ (g : Segment). eqb g.serial serial && counts p gone g s) old

-- 01, What a zone holds: "parity block, parity address and parity stamp are the exclusive or of the data's", in every counted stripe that the engine wrote
abbrev pub ParityMade : Params → View → ℕ → List Segment → Type 0
ParityMade p v gone old = (g : Seg) (s : ℕ) → Remains p v gone g → s < p.S → counts p gone (segment_of p v gone g) s ≡ true
    → found_counted p gone old (segment_of p v gone g).serial s ≡ false
    → stored_piece (segment_of p v gone g) s (parity_drive p s) ≡ encode_piece p 0 s (map (stored_piece (segment_of p v gone g) s) (data_drives p s))

-- 01, What a zone holds: on the drives that are present, where the restart of this run found the segments old
pub record Layout (p : Params) (v : View) (gone : ℕ) (old : List Segment) : Type 0 where
  -- 01, The array: a write pointer is at most the capacity
  pub pointer_low : (d z : ℕ) → Present p gone d → z < p.Z → is_good p v.offline d z ≡ true → pointer_at v d z ≤ capacity p
  -- 02, item 4: a segment has a good zone on each drive, and no two have one
  pub zone_good : (g : Seg) (d : ℕ) → Remains p v gone g → d < p.N → (zone_on g d < p.Z) × (is_good p v.offline d (zone_on g d) ≡ true)
  pub zone_once : (g h : Seg) (d : ℕ) → Remains p v gone g → Remains p v gone h → d < p.N → zone_on g d ≡ zone_on h d → g ≡ h
  -- 01, What a zone holds: the header, byte by byte, its spare all zero, with the same serials on every drive
  pub header_stands : (g : Seg) (d : ℕ) → Remains p v gone g → Present p gone d
      → chunk_at v d (zone_on g d) 0 ≡ mk_chunk (header_block p d (zones_in p g) (segment_of p v gone g).serial (segment_of p v gone g).copied) zero_spare
  -- 01, What a zone holds: serials rise above the copied ones, and none is used twice
  pub serial_above : (g : Seg) → Remains p v gone g → (segment_of p v gone g).copied < (segment_of p v gone g).serial
  pub serial_once : (g h : Seg) → Remains p v gone g → Remains p v gone h → (segment_of p v gone g).serial ≡ (segment_of p v gone h).serial → g ≡ h
  -- 01, What a zone holds: "every chunk of a group sits at data offsets of that group", no stripe twice in a zone
  pub in_group : (g : Seg) (d o : ℕ) → Remains p v gone g → Present p gone d → o < data_stored p (zone_at v d (zone_on g d))
      → in_group_of p o (record_at p v gone d g o).stripe ≡ true
  pub number_once : (g : Seg) (d o i : ℕ) → Remains p v gone g → Present p gone d → o < data_stored p (zone_at v d (zone_on g d)) → i < data_stored p (zone_at v d (zone_on g d))
      → (record_at p v gone d g o).stripe ≡ (record_at p v gone d g i).stripe → o ≡ i
  -- 01, What a zone holds: "the footer repeats the zone's records in order, zeros after the last of each block"
  pub footer_made : (g : Seg) (d i : ℕ) → Remains p v gone g → Present p gone d → found_sealed old (segment_of p v gone g).serial ≡ false
      → i < footers_stored p (zone_at v d (zone_on g d))
      → (chunk_at v d (zone_on g d) (1 + p.S + i)).block ≡ footer_block p (spares_of (take p.S (drop 1 (zone_at v d (zone_on g d)).blocks))) i
  pub parity-made : ParityMade p v gone old
