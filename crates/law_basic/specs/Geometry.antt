-- Laws of ranges, places and offsets (01, The array; What a zone holds). Assumes nothing.
use Rattle.std.specs.Prelude.{◌≡◌, refl, Bool, not, ◌&&◌, ℕ, suc, ◌+◌, ◌-◌, ◌*◌, ◌/◌, ◌%◌, ◌≤◌, ◌<◌, leb}
use Rattle.std.proofs.Common.{sym, ap, ◌∙◌, suc-mul, mul_assoc, le_of_eq, le_trans, sub-le, mul-le-mul_right, mul-le-mul, div-add-mod', le-div_iff_mul-le, div-lt_iff_lt-mul, mod-lt}
use Rattle.std.proofs.Math.Path.{subst}
use Rattle.std.proofs.Math.Bool.{true, false}
use native.Mathlib.Omega.{arith}
use Rattle.std.proofs.Math.Decide.{dec_lt}
use Rattle.std.proofs.Math.Arith.{digits_lt, digits_div, digits_mod, lt_of_le-ne}
use Rattle.std.proofs.Math.Dec.{ltb, eqb}
use Rattle.std.proofs.Math.Nat.{div-mul-le_self, lt-div-mul-add, add-mod_right}
use borrow.Author.Tests.{leb-true, eqb-false, not-true, lt-ltb, le-ltb, le-leb, eq-eqb, ne_eqb}
use Rattle.spec.specs.Bytes.{widths_of}
use Rattle.spec.specs.Drives.{pointer_byte}
use Rattle.spec.specs.Layout.{parity_drive, data_drive, data_position, is_data}
use Rattle.spec.specs.Lists.{all, is_member_of, total}
use Rattle.spec.specs.Memory.{compact_at, slot_byte}
use Rattle.spec.specs.Params.{between, block_sizes, parity_count, data_count, most_with, most_addresses, in_range, record_table, record_widths, spare_len, per_footer, footers, capacity, unit_len}
use Rattle.spec.specs.Params.{zone_len, drive_len, image_len, pointers_len, offline_len, compact_len, inflight_len, place_of, place_block, place_zone, place_drive, place_byte}
use Rattle.spec.specs.declared.Params.{Params}
use Rattle.law_basic.specs.Ranges.{and_left, and_right, and_both, not_both, member_all}

-- a bound on a product from bounds on its factors
pub prod_le : (a b x y m : ℕ) → a ≤ x → b ≤ y → x * y ≤ m → a * b ≤ m
prod_le a b x y m h k l = le_trans (mul-le-mul h k) l

-- item i of n items of s bytes lies within them
pub item_fits : (i n s : ℕ) → i < n → i * s + s ≤ n * s
item_fits i n s h = le_trans (le_of_eq (sym (suc-mul i s))) (mul-le-mul_right s h)

-- ---- the ranges

pub between-low : (lo hi n : ℕ) → between lo hi n ≡ true → lo ≤ n
unfolding between
between-low lo hi n h = leb-true lo n (and_left (leb lo n) (leb n hi) h)

pub between_high : (lo hi n : ℕ) → between lo hi n ≡ true → n ≤ hi
unfolding between
between_high lo hi n h = leb-true n hi (and_right (leb lo n) (leb n hi) h)

pub between_of : (lo hi n : ℕ) → lo ≤ n → n ≤ hi → between lo hi n ≡ true
unfolding between
between_of lo hi n h k = and_both (leb lo n) (leb n hi) (le-leb lo n h) (le-leb n hi k)

-- 01, The array: the ranges as facts
pub record Ranged (p : Params) : Type 0 where
  pub drives_low : 3 ≤ p.N
  pub drives_high : p.N ≤ 8
  pub block_low : 128 ≤ p.B
  pub block_high : p.B ≤ 4096
  pub block_size : is_member_of p.B block_sizes ≡ true
  pub zones_low : 4 ≤ p.Z
  pub zones_high : p.Z ≤ 1024
  pub stripes_low : 1 ≤ p.S
  pub stripes_high : p.S ≤ 65535
  pub group-low : 1 ≤ p.G
  pub group_high : p.G ≤ 256
  pub addresses_low : 1 ≤ p.L
  pub addresses_high : p.L ≤ most_addresses p

pub ranged : (p : Params) → in_range p ≡ true → Ranged p
unfolding in_range block_sizes between all
ranged p h =
    let a = between 3 8 p.N in
    let b = is_member_of p.B block_sizes in
    let c = between 4 1024 p.Z in
    let d = between 1 65535 p.S in
    let e = between 1 256 p.G in
    let f = between 1 (most_addresses p) p.L in
    let h₄ = and_left (a && b && c && d && e) f h in
    let h₃ = and_left (a && b && c && d) e h₄ in
    let h₂ = and_left (a && b && c) d h₃ in
    let h₁ = and_left (a && b) c h₂ in
    let hb = and_right a b h₁ in
    let m : between 128 4096 p.B ≡ true = member_all (between 128 4096) p.B block_sizes hb refl in
    record {
      drives_low = between-low 3 8 p.N (and_left a b h₁);
      drives_high = between_high 3 8 p.N (and_left a b h₁);
      block_low = between-low 128 4096 p.B m;
      block_high = between_high 128 4096 p.B m;
      block_size = hb;
      zones_low = between-low 4 1024 p.Z (and_right (a && b) c h₂);
      zones_high = between_high 4 1024 p.Z (and_right (a && b) c h₂);
      stripes_low = between-low 1 65535 p.S (and_right (a && b && c) d h₃);
      stripes_high = between_high 1 65535 p.S (and_right (a && b && c) d h₃);
      group-low = between-low 1 256 p.G (and_right (a && b && c && d) e h₄);
      group_high = between_high 1 256 p.G (and_right (a && b && c && d) e h₄);
      addresses_low = between-low 1 (most_addresses p) p.L (and_right (a && b && c && d && e) f h);
      addresses_high = between_high 1 (most_addresses p) p.L (and_right (a && b && c && d && e) f h);
    }

-- ---- sizes

-- the one place of the number
pub spare_len_lem : spare_len ≡ 20
unfolding spare_len total record_widths record_table widths_of
spare_len_lem = refl

module _ (p : Params) (r : Ranged p) where
  pub per_footer_low : 3 ≤ per_footer p
  unfolding per_footer
  per_footer_low = subst (λ (n : ℕ). 3 ≤ p.B / n) (sym spare_len_lem) (omega (arith, r.block_low))

  pub per_footer_high : per_footer p ≤ 204
  unfolding per_footer
  per_footer_high = subst (λ (n : ℕ). p.B / n ≤ 204) (sym spare_len_lem) (omega (arith, r.block_high))

  -- the records of a footer block fit in it
  pub per_footer_fits : per_footer p * spare_len ≤ p.B
  unfolding per_footer
  per_footer_fits = div-mul-le_self p.B spare_len

  pub footers-low : 1 ≤ footers p
  unfolding footers
  footers-low =
      let k = per_footer p in
      let h : 3 ≤ k = per_footer_low in
      (le-div_iff_mul-le {k = k} {x = 1} {y = p.S + k - 1} (omega arith)).1 (omega (arith, r.stripes_low))

  pub footers_high : footers p ≤ 21845
  unfolding footers
  footers_high =
      let k = per_footer p in
      let h : 3 ≤ k = per_footer_low in
      let q : (p.S + k - 1) / k < 21846 = (div-lt_iff_lt-mul {k = k} {x = p.S + k - 1} {y = 21846} (omega arith)).1 (omega (arith, r.stripes_high)) in
      omega arith

  -- every data block has its record in a footer block
  pub footers_cover : p.S ≤ footers p * per_footer p
  unfolding footers
  footers_cover =
      let k = per_footer p in
      let n = p.S + k - 1 in
      let h : 3 ≤ k = per_footer_low in
      let q : n < n / k * k + k = lt-div-mul-add {a = n} {b = k} (omega arith) in
      omega arith

  pub capacity-low : 3 ≤ capacity p
  unfolding capacity
  capacity-low = omega (arith, footers-low, r.stripes_low)

  pub capacity_high : capacity p ≤ 87381
  unfolding capacity
  capacity_high = omega (arith, footers_high, r.stripes_high)

  -- a data block and its header lie below the capacity
  pub data_below : (b : ℕ) → b ≤ p.S → b < capacity p
  unfolding capacity
  data_below b h = omega arith

  pub unit_high : unit_len p ≤ 4096 + spare_len
  unfolding unit_len
  unit_high = omega (arith, r.block_high)

  pub zone_high : zone_len p ≤ 359660196
  unfolding zone_len
  zone_high = prod_le (capacity p) (unit_len p) 87381 (4096 + spare_len) 359660196 capacity_high unit_high (omega (arith, spare_len_lem))

  pub drive_high : drive_len p ≤ 368292040704
  unfolding drive_len
  drive_high = prod_le p.Z (zone_len p) 1024 359660196 368292040704 r.zones_high zone_high (omega arith)

  pub image_high : image_len p ≤ 2946336325632
  unfolding image_len
  image_high = prod_le p.N (drive_len p) 8 368292040704 2946336325632 r.drives_high drive_high (omega arith)

  pub zones_all : p.N * p.Z ≤ 8192
  zones_all = prod_le p.N p.Z 8 1024 8192 r.drives_high r.zones_high (omega arith)

  pub pointers_high : pointers_len p ≤ 32768
  unfolding pointers_len
  pointers_high = omega (arith, zones_all)

  -- 02, item 4: the list of offline zones
  pub offline_high : offline_len p ≤ 8192
  unfolding offline_len
  offline_high = zones_all

  pub compact_high : compact_len p ≤ 536862720
  unfolding compact_len
  compact_high = prod_le (p.N * p.Z) p.S 8192 65535 536862720 zones_all r.stripes_high (omega arith)

  pub inflight_high : inflight_len p ≤ 262144
  unfolding inflight_len
  inflight_high =
      let h : 8 * p.N ≤ 64 = omega (arith, r.drives_high) in
      prod_le (8 * p.N) p.B 64 4096 262144 h r.block_high (omega arith)

  pub data_count-low : 2 ≤ data_count p
  unfolding data_count parity_count
  data_count-low = omega (arith, r.drives_low)

  pub data_count_high : data_count p ≤ 7
  unfolding data_count parity_count
  data_count_high = omega (arith, r.drives_high)

  pub most_addresses_high : most_addresses p ≤ 468378645
  unfolding most_addresses most_with
  most_addresses_high =
      let h : p.Z - 3 ≤ 1021 = omega (arith, r.zones_high) in
      let k : (p.Z - 3) * p.S ≤ 66911235 = prod_le (p.Z - 3) p.S 1021 65535 66911235 h r.stripes_high (omega arith) in
      prod_le ((p.Z - 3) * p.S) (data_count p) 66911235 7 468378645 k data_count_high (omega arith)

  pub addresses_all : p.L ≤ 468378645
  addresses_all = le_trans r.addresses_high most_addresses_high

-- 01, What a zone holds: a stripe has a parity, and two at the most (02, item 5)
pub parity-count-low : (p : Params) → 1 ≤ parity_count p
unfolding parity_count
parity-count-low p = omega arith

-- ---- places: they tell the drive, the zone and the block

pub place_block_lem : (p : Params) (d z b : ℕ) → b < capacity p → place_block p (place_of p d z b) ≡ b
unfolding place_block place_of
place_block_lem p d z b h = digits_mod (d * p.Z + z) h

pub place_zone_lem : (p : Params) (d z b : ℕ) → z < p.Z → b < capacity p → place_zone p (place_of p d z b) ≡ z
unfolding place_zone place_of
place_zone_lem p d z b k h = ap (λ (x : ℕ). x % p.Z) (digits_div (d * p.Z + z) h) ∙ digits_mod d k

pub place_drive_lem : (p : Params) (d z b : ℕ) → z < p.Z → b < capacity p → place_drive p (place_of p d z b) ≡ d
unfolding place_drive place_of
place_drive_lem p d z b k h = ap (λ (x : ℕ). x / p.Z) (digits_div (d * p.Z + z) h) ∙ digits_div d k

-- and back
pub place_again : (p : Params) (q : ℕ) → place_of p (place_drive p q) (place_zone p q) (place_block p q) ≡ q
unfolding place_of place_drive place_zone place_block
place_again p q = ap (λ (x : ℕ). x * capacity p + q % capacity p) (div-add-mod' (q / capacity p) p.Z) ∙ div-add-mod' q (capacity p)

pub place_lt : (p : Params) (d z b : ℕ) → d < p.N → z < p.Z → b < capacity p → place_of p d z b < p.N * p.Z * capacity p
unfolding place_of
place_lt p d z b hd hz hb = digits_lt (digits_lt hd hz) hb

pub zone_index_lt : (p : Params) (d z : ℕ) → d < p.N → z < p.Z → d * p.Z + z < p.N * p.Z
zone_index_lt p d z hd hz = digits_lt hd hz

-- ---- parts of the lent buffers lie within them

pub places_image : (p : Params) → p.N * p.Z * capacity p * unit_len p ≡ image_len p
unfolding image_len drive_len zone_len
places_image p =
    ap (λ (x : ℕ). x * unit_len p) (mul_assoc p.N p.Z (capacity p)) ∙ mul_assoc p.N (p.Z * capacity p) (unit_len p)
    ∙ ap (λ (x : ℕ). p.N * x) (mul_assoc p.Z (capacity p) (unit_len p))

pub place_within : (p : Params) (q : ℕ) → q < p.N * p.Z * capacity p → place_byte p q + unit_len p ≤ image_len p
unfolding place_byte
place_within p q h = le_trans (item_fits q (p.N * p.Z * capacity p) (unit_len p) h) (le_of_eq (places_image p))

pub block_within : (p : Params) (d z b : ℕ) → d < p.N → z < p.Z → b < capacity p → place_byte p (place_of p d z b) + unit_len p ≤ image_len p
block_within p d z b hd hz hb = place_within p (place_of p d z b) (place_lt p d z b hd hz hb)

pub pointer_within : (p : Params) (d z : ℕ) → d < p.N → z < p.Z → pointer_byte p d z + 4 ≤ pointers_len p
unfolding pointer_byte pointers_len
pointer_within p d z hd hz = omega (arith, zone_index_lt p d z hd hz)

-- 02, item 4: the byte of a drive and zone
pub offline_within : (p : Params) (d z : ℕ) → d < p.N → z < p.Z → d * p.Z + z < offline_len p
unfolding offline_len
offline_within p d z hd hz = zone_index_lt p d z hd hz

pub compact_within : (p : Params) (d z o : ℕ) → d < p.N → z < p.Z → o < p.S → compact_at p d z o < compact_len p
unfolding compact_at compact_len
compact_within p d z o hd hz ho = digits_lt (digits_lt hd hz) ho

pub slot_within : (p : Params) (i d : ℕ) → i < 8 → d < p.N → slot_byte p i d + p.B ≤ inflight_len p
unfolding slot_byte inflight_len
slot_within p i d hi hd = item_fits (i * p.N + d) (8 * p.N) p.B (digits_lt hi hd)

-- blocks of one eighth on two drives do not meet
pub slots_apart : (p : Params) (i d e : ℕ) → d < e → slot_byte p i d + p.B ≤ slot_byte p i e
unfolding slot_byte
slots_apart p i d e h = item_fits (i * p.N + d) (i * p.N + e) p.B (omega arith)

-- ---- data positions

pub parity_drive_lt : (p : Params) (s : ℕ) → 0 < p.N → parity_drive p s < p.N
unfolding parity_drive
parity_drive_lt p s h = omega arith

module _ (p : Params) (s i : ℕ) where
  pub position_drive : data_position p s (data_drive p s i) ≡ i
  unfolding data_position data_drive
  position_drive = go (dec_lt i (parity_drive p s))
    where
      go : Dec (i < parity_drive p s) → data_position p s (data_drive p s i) ≡ i
      go (yes h) = let e : ltb i (parity_drive p s) ≡ true = lt-ltb i (parity_drive p s) h in simp e
      go (no h) =
          let e : ltb i (parity_drive p s) ≡ false = le-ltb i (parity_drive p s) (omega arith) in
          let f : ltb (suc i) (parity_drive p s) ≡ false = le-ltb (suc i) (parity_drive p s) (omega arith) in
          simp (e, f) (omega arith)

  pub drive_is_data : is_data p s (data_drive p s i) ≡ true
  unfolding is_data data_drive
  drive_is_data = go (dec_lt i (parity_drive p s))
    where
      go : Dec (i < parity_drive p s) → is_data p s (data_drive p s i) ≡ true
      go (yes h) =
          let e : ltb i (parity_drive p s) ≡ true = lt-ltb i (parity_drive p s) h in
          let f : eqb i (parity_drive p s) ≡ false = ne_eqb i (parity_drive p s) (omega arith) in
          simp (e, f)
      go (no h) =
          let e : ltb i (parity_drive p s) ≡ false = le-ltb i (parity_drive p s) (omega arith) in
          let f : eqb (suc i) (parity_drive p s) ≡ false = ne_eqb (suc i) (parity_drive p s) (omega arith) in
          simp (e, f)

  pub data_drive_lt : i < data_count p → data_drive p s i < p.N
  unfolding data_drive data_count parity_count
  data_drive_lt k = go (dec_lt i (parity_drive p s))
    where
      go : Dec (i < parity_drive p s) → data_drive p s i < p.N
      go (yes h) = let e : ltb i (parity_drive p s) ≡ true = lt-ltb i (parity_drive p s) h in rw e (omega arith)
      go (no h) = let e : ltb i (parity_drive p s) ≡ false = le-ltb i (parity_drive p s) (omega arith) in rw e (omega arith)

pub data_not_parity : (p : Params) (s i : ℕ) → data_drive p s i ≡ parity_drive p s → ⊥
unfolding is_data
data_not_parity p s i e =
    not_both (is_data p s (data_drive p s i)) (drive_is_data p s i) (ap (λ (x : Bool). not x) (eq-eqb (data_drive p s i) (parity_drive p s) e))

-- 01, What a zone holds: the parity drive is the one without data
pub parity_no_data : (p : Params) (s : ℕ) → is_data p s (parity_drive p s) ≡ false
unfolding is_data
parity_no_data p s = ap (λ (x : Bool). not x) (eq-eqb (parity_drive p s) (parity_drive p s) refl)

pub drive_position : (p : Params) (s d : ℕ) → is_data p s d ≡ true → data_drive p s (data_position p s d) ≡ d
unfolding is_data data_position data_drive
drive_position p s d k = go (dec_lt d (parity_drive p s))
  where
    other : d ≡ parity_drive p s → ⊥
    other e = eqb-false d (parity_drive p s) (not-true (eqb d (parity_drive p s)) k) e

    go : Dec (d < parity_drive p s) → data_drive p s (data_position p s d) ≡ d
    go (yes h) = let e : ltb d (parity_drive p s) ≡ true = lt-ltb d (parity_drive p s) h in simp e
    go (no h) =
        let n : parity_drive p s < d = lt_of_le-ne (omega arith) (λ q. other (sym q)) in
        let e : ltb d (parity_drive p s) ≡ false = le-ltb d (parity_drive p s) (omega arith) in
        let f : ltb (d - 1) (parity_drive p s) ≡ false = le-ltb (d - 1) (parity_drive p s) (omega arith) in
        simp (e, f) (omega arith)

pub position_lt : (p : Params) (s d : ℕ) → is_data p s d ≡ true → d < p.N → data_position p s d < data_count p
unfolding is_data data_position data_count parity_count parity_drive
position_lt p s d k hd = go (dec_lt d (parity_drive p s))
  where
    other : d ≡ parity_drive p s → ⊥
    other e = eqb-false d (parity_drive p s) (not-true (eqb d (parity_drive p s)) k) e

    top : parity_drive p s ≤ p.N - 1
    top = sub-le (p.N - 1) (s % p.N)

    go : Dec (d < parity_drive p s) → data_position p s d < data_count p
    go (yes h) = let e : ltb d (parity_drive p s) ≡ true = lt-ltb d (parity_drive p s) h in rw e (omega (arith, top))
    go (no h) =
        let n : parity_drive p s < d = lt_of_le-ne (omega arith) (λ q. other (sym q)) in
        let e : ltb d (parity_drive p s) ≡ false = le-ltb d (parity_drive p s) (omega arith) in
        rw e (omega arith)

-- 01, What a zone holds: the footer block of a data offset
pub footer_of : (p : Params) → Ranged p → (o : ℕ) → o < p.S → o / per_footer p < footers p
unfolding footers
footer_of p r o l =
    let m : 0 < per_footer p = omega (arith, per_footer_low p r) in
    let x : ℕ = p.S + per_footer p - 1 in
    let e : x / per_footer p * per_footer p + x % per_footer p ≡ x = div-add-mod' x (per_footer p) in
    let q : x % per_footer p < per_footer p = mod-lt x m in
    (div-lt_iff_lt-mul m).1 (omega (arith, e, q, l))

pub row_fits : (p : Params) (d z : ℕ) → d < p.N → z < p.Z → compact_at p d z 0 + p.S ≤ compact_len p
unfolding compact_at compact_len
row_fits p d z hd hz = let e : (d * p.Z + z) * p.S + p.S ≤ p.N * p.Z * p.S = item_fits (d * p.Z + z) (p.N * p.Z) p.S (digits_lt hd hz) in omega arith

-- the next group's first stripe
pub base_next : (base n : ℕ) → base % n ≡ 0 → (base + n) % n ≡ 0
base_next base n e = add-mod_right base n ∙ e

-- a place's zone is one of a drive's
pub zone_low : (p : Params) → Ranged p → (q : ℕ) → place_zone p q < p.Z
unfolding place_zone
zone_low p r q = mod-lt (q / capacity p) (omega (arith, r.zones_low))
