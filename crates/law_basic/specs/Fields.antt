-- Laws of tables of fields: how long, where a field begins, what is read back; of the header and the record (01, What a zone holds). Assumes nothing.
use Rattle.std.specs.Prelude.{◌≡◌, ℕ, zero, suc, ◌+◌, ◌-◌, ◌*◌, ◌^◌, ◌≤◌, ◌<◌, take}
use Rattle.std.proofs.Math.Path.{refl, sym, ap, ap₂, subst}
use Rattle.std.proofs.Common.{◌∙◌, zero-mul, suc-mul, length-append, get_or-append-add}
use mathlib.Core.List.{List, [], ◌∷◌, ◌++◌, map, append_assoc}
use native.Mathlib.Omega.{arith}
use Rattle.std.proofs.Math.ListN.{length, get_or, replicate, length-map, get_or-append}
use Rattle.std.proofs.lemmas.List.{length-replicate, get_or-replicate}
use Rattle.std.proofs.Math.Seq.{take-append-add, ext_get_or}
use Rattle.spec.specs.declared.Params.{Params}
use Rattle.spec.specs.Bytes.{be_of, to_be, part, splice, Field, field, bytes_of, widths_of, field_at, read_field}
use Rattle.spec.specs.Drives.{zero_spare}
use Rattle.spec.specs.Layout.{header_version, header_table, zone_field, serial_field, copied_field, header_widths, header_len, header_fields, header_block}
use Rattle.spec.specs.Layout.{header_serial, header_copied, header_zone, header_zones, Rec, record_fields, record_bytes}
use Rattle.spec.specs.Lists.{below, total, pad_to}
use Rattle.spec.specs.Params.{record_table, record_widths, spare_len}
use Rattle.law_basic.specs.Be.{length-to_be, be_of-to_be}
use Rattle.law_basic.specs.Geometry.{Ranged}
use Rattle.law_basic.specs.Ranges.{length-below, map-append, get_d_map, get_d_map-below, total-append, length-pad_to}
use Rattle.law_basic.specs.Splice.{length-splice, part-all, part-append_left, part-append_right, splice-nil, splice_next}

-- the field where there is none
abbrev pub no_field : Field
no_field = field 0 0

-- the fields written one at a time, from index at + k
unfoldable pub written : List ℕ → ℕ → ℕ → List Field → List ℕ
written l at k [] = l
written l at k (f ∷ fs) = written (splice l (at + k) (to_be f.width f.value)) at (k + f.width) fs

-- how many bytes they take
pub length_bytes_of : (fs : List Field) → length (bytes_of fs) ≡ total (widths_of fs)
unfolding bytes_of widths_of total
length_bytes_of [] = refl
length_bytes_of (f ∷ fs) = length-append (to_be f.width f.value) (bytes_of fs) ∙ ap₂ ◌+◌ (length-to_be f.width f.value) (length_bytes_of fs)

-- all of them at once
pub written_is : (l : List ℕ) (at k : ℕ) (fs : List Field) → at + k + total (widths_of fs) ≤ length l → written l at k fs ≡ splice l (at + k) (bytes_of fs)
unfolding written widths_of total bytes_of
written_is l at k [] h = sym (splice-nil l (at + k))
written_is l at k (f ∷ fs) h =
    let b : List ℕ = to_be f.width f.value in
    let n : length b ≡ f.width = length-to_be f.width f.value in
    let m : length (bytes_of fs) ≡ total (widths_of fs) = length_bytes_of fs in
    let e : length (splice l (at + k) b) ≡ length l = length-splice l (at + k) b (omega arith) in
    let i : at + (k + f.width) ≡ at + k + length b = omega arith in
    written_is (splice l (at + k) b) at (k + f.width) fs (omega arith)
    ∙ ap (λ (x : ℕ). splice (splice l (at + k) b) x (bytes_of fs)) i
    ∙ splice_next l (at + k) b (bytes_of fs) (omega arith)

-- one field more, and none
pub one_more : (l l' : List ℕ) (at k w n : ℕ) (fs : List Field) → l' ≡ splice l (at + k) (to_be w n) → written l' at (k + w) fs ≡ written l at k (field w n ∷ fs)
unfolding written
one_more l l' at k w n fs e = ap (λ (x : List ℕ). written x at (k + w) fs) e

pub nothing_more : (l : List ℕ) (at k : ℕ) → written l at k [] ≡ l
unfolding written
nothing_more l at k = refl

-- field i of the fields, and what follows them
pub field-part : (fs : List Field) (i : ℕ) (rest : List ℕ) → i < length fs
    → part (field_at (widths_of fs) i) (get_or (widths_of fs) i 0) (bytes_of fs ++ rest) ≡ to_be (get_or fs i no_field).width (get_or fs i no_field).value
unfolding widths_of field_at bytes_of total
field-part [] i rest h = absurd (let q : ⊥ = omega arith in q)
field-part (f ∷ fs) zero rest h =
    let b = to_be f.width f.value in
    let n : length b ≡ f.width = length-to_be f.width f.value in
    ap (part 0 f.width) (append_assoc b (bytes_of fs) rest)
    ∙ part-append_left 0 f.width b (bytes_of fs ++ rest) (omega arith) ∙ part-all f.width b (omega arith)
field-part (f ∷ fs) (suc i) rest h =
    let b = to_be f.width f.value in
    let t = field_at (widths_of fs) i in
    let w = get_or (widths_of fs) i 0 in
    ap (part (f.width + t) w) (append_assoc b (bytes_of fs) rest)
    ∙ ap (λ (x : ℕ). part (x + t) w (b ++ (bytes_of fs ++ rest))) (sym (length-to_be f.width f.value))
    ∙ part-append_right t w b (bytes_of fs ++ rest) ∙ field-part fs i rest (omega arith)

-- it is read back where it fits
pub read_field_bytes_of : (fs : List Field) (i : ℕ) (rest : List ℕ) → i < length fs → (get_or fs i no_field).value < 256 ^ (get_or fs i no_field).width
    → read_field (widths_of fs) i (bytes_of fs ++ rest) ≡ (get_or fs i no_field).value
unfolding read_field
read_field_bytes_of fs i rest h g = ap be_of (field-part fs i rest h) ∙ be_of-to_be (get_or fs i no_field).width (get_or fs i no_field).value g

-- ---- the record, the zero spare, the header

pub length_record : (r : Rec) → length (record_bytes r) ≡ spare_len
unfolding record_bytes record_fields record_table spare_len record_widths widths_of
length_record r = length_bytes_of (record_fields r)

pub length-zero_spare : length zero_spare ≡ spare_len
unfolding zero_spare
length-zero_spare = length-replicate spare_len 0

-- ---- the header's table: seven fields, the zones, three fields (02, item 4)

abbrev pub head_fields : ℕ → Params → ℕ → List Field
head_fields long p d = field 2 long ∷ field 1 header_version ∷ field 1 p.N ∷ field 1 d ∷ field 2 p.B ∷ field 2 p.G ∷ field 4 p.S ∷ []

abbrev pub tail_fields : Params → ℕ → ℕ → List Field
tail_fields p r c = field 8 p.L ∷ field 8 r ∷ field 8 c ∷ []

abbrev head_widths : List ℕ
head_widths = 2 ∷ 1 ∷ 1 ∷ 1 ∷ 2 ∷ 2 ∷ 4 ∷ []

abbrev tail_widths : List ℕ
tail_widths = 8 ∷ 8 ∷ 8 ∷ []

table_split : (long : ℕ) (p : Params) (d : ℕ) (zs : List ℕ) (r c : ℕ) → header_table long p d zs r c ≡ head_fields long p d ++ (map (field 4) zs ++ tail_fields p r c)
unfolding header_table
table_split long p d zs r c = refl

pub header_fields_are : (p : Params) (d : ℕ) (zs : List ℕ) (r c : ℕ) → header_fields p d zs r c ≡ head_fields (header_len p) p d ++ (map (field 4) zs ++ tail_fields p r c)
unfolding header_fields
header_fields_are p d zs r c = table_split (header_len p) p d zs r c

-- each zone has four bytes
zone_widths : (zs : List ℕ) → widths_of (map (field 4) zs) ≡ replicate (length zs) 4
unfolding widths_of
zone_widths [] = refl
zone_widths (z ∷ zs) = ap (λ (l : List ℕ). 4 ∷ l) (zone_widths zs)

table_widths : (long : ℕ) (p : Params) (d : ℕ) (zs : List ℕ) (r c : ℕ) → widths_of (header_table long p d zs r c) ≡ head_widths ++ (replicate (length zs) 4 ++ tail_widths)
unfolding widths_of
table_widths long p d zs r c =
    ap (map (λ (f : Field). f.width)) (table_split long p d zs r c)
    ∙ ap (λ (l : List ℕ). head_widths ++ l)
    (map-append (λ (f : Field). f.width) (map (field 4) zs) (tail_fields p r c) ∙ ap (λ (l : List ℕ). l ++ tail_widths) (zone_widths zs))

-- the widths as a list
pub header_widths_lem : (p : Params) → header_widths p ≡ 2 ∷ 1 ∷ 1 ∷ 1 ∷ 2 ∷ 2 ∷ 4 ∷ replicate p.N 4 ++ (8 ∷ 8 ∷ 8 ∷ [])
unfolding header_widths
header_widths_lem p = table_widths 0 p 0 (replicate p.N 0) 0 0 ∙ ap (λ (n : ℕ). head_widths ++ (replicate n 4 ++ tail_widths)) (length-replicate p.N 0)

-- they are those of every header with N zones
pub header_widths_same : (p : Params) (d : ℕ) (zs : List ℕ) (r c : ℕ) → length zs ≡ p.N → widths_of (header_fields p d zs r c) ≡ header_widths p
unfolding header_fields
header_widths_same p d zs r c h = table_widths (header_len p) p d zs r c ∙ ap (λ (n : ℕ). head_widths ++ (replicate n 4 ++ tail_widths)) h ∙ sym (header_widths_lem p)

pub total-replicate : (n k : ℕ) → total (replicate n k) ≡ n * k
unfolding total
total-replicate zero k = sym (zero-mul k)
total-replicate (suc n) k = let e : total (replicate n k) ≡ n * k = total-replicate n k in omega (arith, e, suc-mul n k)

-- 02, item 4: the header in bytes
pub header_length : (p : Params) → header_len p ≡ 37 + 4 * p.N
unfolding header_len total
header_length p =
    let e : total (replicate p.N 4 ++ tail_widths) ≡ p.N * 4 + 24 = total-append (replicate p.N 4) tail_widths ∙ ap (λ (n : ℕ). n + 24) (total-replicate p.N 4) in
    ap total (header_widths_lem p) ∙ omega (arith, e)

pub header_long : (p : Params) (d : ℕ) (zs : List ℕ) (r c : ℕ) → length zs ≡ p.N → length (bytes_of (header_fields p d zs r c)) ≡ header_len p
unfolding header_len
header_long p d zs r c h = length_bytes_of (header_fields p d zs r c) ∙ ap total (header_widths_same p d zs r c h)

-- a block has room for it
pub header_fits : (p : Params) → Ranged p → header_len p ≤ p.B
header_fits p r = omega (arith, header_length p, r.block_low, r.drives_high)

pub header_block_long : (p : Params) → Ranged p → (d : ℕ) (zs : List ℕ) (r c : ℕ) → length zs ≡ p.N → length (header_block p d zs r c) ≡ p.B
unfolding header_block
header_block_long p h d zs r c n = length-pad_to p.B (bytes_of (header_fields p d zs r c)) (omega (arith, header_long p d zs r c n, header_fits p h))

-- ---- where its fields begin, and how wide they are

-- behind some widths
field_at_behind : (xs ys : List ℕ) (i : ℕ) → field_at (xs ++ ys) (length xs + i) ≡ total xs + field_at ys i
unfolding field_at
field_at_behind xs ys i = ap total (take-append-add xs ys i) ∙ total-append xs (take i ys)

-- among equal ones
field_at_among : (n k : ℕ) (ys : List ℕ) (i : ℕ) → i ≤ n → field_at (replicate n k ++ ys) i ≡ i * k
unfolding field_at total
field_at_among n k ys zero h = sym (zero-mul k)
field_at_among zero k ys (suc i) h = absurd (let q : ⊥ = omega arith in q)
field_at_among (suc n) k ys (suc i) h = ap (λ (x : ℕ). k + x) (field_at_among n k ys i (omega arith)) ∙ omega (arith, suc-mul i k)

-- the zones and what follows them
abbrev zones_on : ℕ → List ℕ
zones_on n = replicate n 4 ++ tail_widths

module _ (p : Params) where
  from_zones : (i : ℕ) → field_at (header_widths p) (7 + i) ≡ 13 + field_at (zones_on p.N) i
  unfolding total
  from_zones i = ap (λ (l : List ℕ). field_at l (7 + i)) (header_widths_lem p) ∙ field_at_behind head_widths (zones_on p.N) i

  from_tail : (i : ℕ) → field_at (zones_on p.N) (p.N + i) ≡ p.N * 4 + field_at tail_widths i
  from_tail i =
      ap (λ (n : ℕ). field_at (zones_on p.N) (n + i)) (sym (length-replicate p.N 4))
      ∙ field_at_behind (replicate p.N 4) tail_widths i ∙ ap (λ (n : ℕ). n + field_at tail_widths i) (total-replicate p.N 4)

  pub zone_begins : (d : ℕ) → d ≤ p.N → field_at (header_widths p) (zone_field d) ≡ 13 + 4 * d
  zone_begins d h = from_zones d ∙ ap (λ (n : ℕ). 13 + n) (field_at_among p.N 4 tail_widths d h) ∙ omega arith

  pub serial_begins : field_at (header_widths p) (serial_field p) ≡ 21 + 4 * p.N
  serial_begins =
      let i : 8 + p.N ≡ 7 + (p.N + 1) = omega arith in
      let e : field_at tail_widths 1 ≡ 8 = unfold field_at total in refl in
      ap (field_at (header_widths p)) i ∙ from_zones (p.N + 1) ∙ omega (arith, from_tail 1, e)

  pub copied_begins : field_at (header_widths p) (copied_field p) ≡ 29 + 4 * p.N
  copied_begins =
      let i : 9 + p.N ≡ 7 + (p.N + 2) = omega arith in
      let e : field_at tail_widths 2 ≡ 16 = unfold field_at total in refl in
      ap (field_at (header_widths p)) i ∙ from_zones (p.N + 2) ∙ omega (arith, from_tail 2, e)

  width_behind : (i : ℕ) → get_or (header_widths p) (7 + i) 0 ≡ get_or (zones_on p.N) i 0
  width_behind i = ap (λ (l : List ℕ). get_or l (7 + i) 0) (header_widths_lem p) ∙ get_or-append-add head_widths (zones_on p.N) i 0

  width_tail : (i : ℕ) → get_or (header_widths p) (7 + (p.N + i)) 0 ≡ get_or tail_widths i 0
  width_tail i =
      width_behind (p.N + i)
      ∙ ap (λ (n : ℕ). get_or (zones_on p.N) (n + i) 0) (sym (length-replicate p.N 4)) ∙ get_or-append-add (replicate p.N 4) tail_widths i 0

  pub zone_wide : (d : ℕ) → d < p.N → get_or (header_widths p) (zone_field d) 0 ≡ 4
  zone_wide d h =
      width_behind d
      ∙ get_or-append (replicate p.N 4) tail_widths 0 d (subst (λ (n : ℕ). d < n) (sym (length-replicate p.N 4)) h) ∙ get_or-replicate p.N d 4 0 h

  pub serial_wide : get_or (header_widths p) (serial_field p) 0 ≡ 8
  serial_wide = let i : 8 + p.N ≡ 7 + (p.N + 1) = omega arith in ap (λ (n : ℕ). get_or (header_widths p) n 0) i ∙ width_tail 1

  pub copied-wide : get_or (header_widths p) (copied_field p) 0 ≡ 8
  copied-wide = let i : 9 + p.N ≡ 7 + (p.N + 2) = omega arith in ap (λ (n : ℕ). get_or (header_widths p) n 0) i ∙ width_tail 2

  -- so they are read from these bytes
  pub zone_read : (b : List ℕ) (d : ℕ) → d < p.N → header_zone p b d ≡ be_of (part (13 + 4 * d) 4 b)
  unfolding header_zone read_field
  zone_read b d h = ap₂ (λ (x y : ℕ). be_of (part x y b)) (zone_begins d (omega arith)) (zone_wide d h)

  pub serial_read : (b : List ℕ) → header_serial p b ≡ be_of (part (21 + 4 * p.N) 8 b)
  unfolding header_serial read_field
  serial_read b = ap₂ (λ (x y : ℕ). be_of (part x y b)) serial_begins serial_wide

  pub copied_read : (b : List ℕ) → header_copied p b ≡ be_of (part (29 + 4 * p.N) 8 b)
  unfolding header_copied read_field
  copied_read b = ap₂ (λ (x y : ℕ). be_of (part x y b)) copied_begins copied-wide

-- ---- what a header block holds is read back

module _ (p : Params) (d : ℕ) (zs : List ℕ) (r c : ℕ) (many : length zs ≡ p.N) where
  abbrev fs : List Field
  fs = header_fields p d zs r c

  named_long : length (map (field 4) zs) ≡ p.N
  named_long = length-map zs (field 4) ∙ many

  fields_long : length fs ≡ 10 + p.N
  fields_long = ap (λ (l : List Field). length l) (header_fields_are p d zs r c) ∙ omega (arith, length-append (map (field 4) zs) (tail_fields p r c), named_long)

  -- field i behind the first seven
  field-behind : (i : ℕ) → get_or fs (7 + i) no_field ≡ get_or (map (field 4) zs ++ tail_fields p r c) i no_field
  field-behind i = ap (λ (l : List Field). get_or l (7 + i) no_field) (header_fields_are p d zs r c)
      ∙ get_or-append-add (head_fields (header_len p) p d) (map (field 4) zs ++ tail_fields p r c) i no_field

  field_tail : (i : ℕ) → get_or fs (7 + (p.N + i)) no_field ≡ get_or (tail_fields p r c) i no_field
  field_tail i =
      field-behind (p.N + i)
      ∙ ap (λ (n : ℕ). get_or (map (field 4) zs ++ tail_fields p r c) (n + i) no_field) (sym named_long) ∙ get_or-append-add (map (field 4) zs) (tail_fields p r c) i no_field

  field_zone : (e : ℕ) → e < p.N → get_or fs (7 + e) no_field ≡ field 4 (get_or zs e 0)
  field_zone e h =
      field-behind e
      ∙ get_or-append (map (field 4) zs) (tail_fields p r c) no_field e (subst (λ (n : ℕ). e < n) (sym named_long) h)
      ∙ get_d_map (field 4) zs e no_field 0 (subst (λ (n : ℕ). e < n) (sym many) h)

  -- the number of a field that fits
  read_back : (i w n : ℕ) → i < 10 + p.N → get_or fs i no_field ≡ field w n → n < 256 ^ w → read_field (header_widths p) i (header_block p d zs r c) ≡ n
  unfolding header_block pad_to
  read_back i w n h e k =
      let fit : (get_or fs i no_field).value < 256 ^ (get_or fs i no_field).width = subst (λ (f : Field). f.value < 256 ^ f.width) (sym e) k in
      ap (λ (ws : List ℕ). read_field ws i (bytes_of fs ++ replicate (p.B - length (bytes_of fs)) 0)) (sym (header_widths_same p d zs r c many))
      ∙ read_field_bytes_of fs i (replicate (p.B - length (bytes_of fs)) 0) (omega (arith, fields_long)) fit ∙ ap (λ (f : Field). f.value) e

  pub header_serial_holds : r < 256 ^ 8 → header_serial p (header_block p d zs r c) ≡ r
  unfolding header_serial
  header_serial_holds k =
      let i : 8 + p.N ≡ 7 + (p.N + 1) = omega arith in
      read_back (serial_field p) 8 r (omega arith) (ap (λ (n : ℕ). get_or fs n no_field) i ∙ field_tail 1) k

  pub header_copied_holds : c < 256 ^ 8 → header_copied p (header_block p d zs r c) ≡ c
  unfolding header_copied
  header_copied_holds k =
      let i : 9 + p.N ≡ 7 + (p.N + 2) = omega arith in
      read_back (copied_field p) 8 c (omega arith) (ap (λ (n : ℕ). get_or fs n no_field) i ∙ field_tail 2) k

  pub header_zone_named : (e : ℕ) → e < p.N → get_or zs e 0 < 256 ^ 4 → header_zone p (header_block p d zs r c) e ≡ get_or zs e 0
  unfolding header_zone
  header_zone_named e h k = read_back (zone_field e) 4 (get_or zs e 0) (omega arith) (field_zone e h) k

  pub header_zones_named : ((e : ℕ) → e < p.N → get_or zs e 0 < 256 ^ 4) → header_zones p (header_block p d zs r c) ≡ zs
  unfolding header_zones
  header_zones_named low =
      let b = header_block p d zs r c in
      let n : length (map (header_zone p b) (below p.N)) ≡ p.N = length-map (below p.N) (header_zone p b) ∙ length-below p.N in
      ext_get_or 0 (map (header_zone p b) (below p.N)) zs (n ∙ sym many)
      (λ e h. let k : e < p.N = omega arith in get_d_map-below (header_zone p b) p.N e 0 k ∙ header_zone_named e k (low e k))
