-- What a zone holds, by bytes (01, What a zone holds; Restart, 3). Assumes nothing.
use Rattle.std.specs.Prelude.{◌≡◌, Bool, get_or, drop}
use Rattle.std.proofs.Math.Path.{sym, ap}
use Rattle.std.proofs.Common.{ap₂, ◌∙◌, add_assoc, div-le_self, mod-lt, mul_comm, get_or-drop}
use mathlib.Core.List.{List, []}
use Rattle.std.proofs.Math.Bool.{true, false}
use Prim.Native.Nat.{ℕ, ◌+◌, ◌-◌, ◌*◌, ◌/◌, ◌%◌, min, ◌≤◌, ◌<◌}
use native.Mathlib.Omega.{arith}
use Rattle.std.proofs.Math.Nat.{add-mul, div-one, mod-one, mod-le, mul-zero}
use Rattle.std.proofs.Math.ListN.{length, length-drop}
use Rattle.spec.specs.Bytes.{part}
use Rattle.spec.specs.Drives.{Chunk, no_chunk, view_of, zone_at, pointer_at, chunk_at, mk_disk, pointer_of, data_stored, blocks_of, record_in}
use Rattle.spec.specs.Faults.{footers_stored}
use Rattle.spec.specs.Layout.{record_of_of, footer_record}
use Rattle.spec.specs.Params.{spare_len, per_footer, footers, capacity, unit_len, image_len, pointers_len, place_of, place_byte}
use Rattle.spec.specs.declared.Params.{Params}
use Rattle.law_basic.specs.Geometry.{Ranged, prod_le, per_footer_low, per_footer_high, per_footer_fits, footers-low, footers_high, capacity_high}
use Rattle.law_basic.specs.Geometry.{image_high, zones_all, data_below, item_fits, block_within, zone_index_lt, footer_of}
use Rattle.law_basic.specs.Ranges.{get_d_map}
use Rattle.law_basic.specs.Splice.{part-part}
use Rattle.law_views.specs.Views.{Whole, pointer_view, blocks_long, block_view, spare_view}

-- the byte of the record at a data offset: in the footer of a sealed segment, else in the block's spare
unfoldable pub record_byte : Params → Bool → ℕ → ℕ → ℕ → ℕ
record_byte p true d z o = place_byte p (place_of p d z (1 + p.S + o / per_footer p)) + spare_len * (o % per_footer p)
record_byte p false d z o = place_byte p (place_of p d z (1 + o)) + p.B

-- the byte of the record at data offset 0
unfoldable pub first_byte : Params → Bool → ℕ → ℕ → ℕ
first_byte p true d z = place_byte p (place_of p d z (1 + p.S))
first_byte p false d z = place_byte p (place_of p d z 1) + p.B

-- how many records lie side by side before the next block: those of a footer block, or the one in a spare
unfoldable pub together : Params → Bool → ℕ
together p true = per_footer p
together p false = 1

-- ---- the byte at which block b begins, from the records k of a footer block and the bytes n of a spare: the numbers on the way, and their bounds

pub record Begun (p : Params) (k n d z b : ℕ) : Type 0 where
  pub few : k ≤ 204
  pub some : 3 ≤ k
  pub zone_high : d * p.Z + z ≤ 8191
  pub feet : (p.S + k - 1) / k ≤ 21845
  pub rows : (d * p.Z + z) * (1 + p.S + (p.S + k - 1) / k) ≤ 715737771
  pub place : (d * p.Z + z) * (1 + p.S + (p.S + k - 1) / k) + b ≡ place_of p d z b
  pub byte : ((d * p.Z + z) * (1 + p.S + (p.S + k - 1) / k) + b) * (p.B + n) ≡ place_byte p (place_of p d z b)
  pub within : place_byte p (place_of p d z b) + unit_len p ≤ image_len p
  pub high : image_len p ≤ 2946336325632

pub begun_at : (p : Params) → Ranged p → (k n d z b : ℕ) → k ≡ per_footer p → n ≡ spare_len → d < p.N → z < p.Z → b < capacity p → Begun p k n d z b
unfolding footers capacity place_of place_byte unit_len
begun_at p r k n d z b e s hd hz hb =
    let y : d * p.Z + z ≤ 8191 = omega (arith, zone_index_lt p d z hd hz, zones_all p r) in
    let f : (p.S + k - 1) / k ≡ footers p = ap (λ (x : ℕ). (p.S + x - 1) / x) e in
    let c : 1 + p.S + (p.S + k - 1) / k ≤ 87381 = omega (arith, capacity_high p r) in
    let q : (d * p.Z + z) * (1 + p.S + (p.S + k - 1) / k) + b ≡ place_of p d z b = ap (λ (x : ℕ). (d * p.Z + z) * (1 + p.S + x) + b) f in
    let u : p.B + n ≡ unit_len p = ap (λ (x : ℕ). p.B + x) s in
    record {
      few = omega (arith, e, per_footer_high p r);
      some = omega (arith, e, per_footer_low p r);
      zone_high = y;
      feet = omega (arith, f, footers_high p r);
      rows = prod_le (d * p.Z + z) (1 + p.S + (p.S + k - 1) / k) 8191 87381 715737771 y c (omega arith);
      place = q;
      byte = ap₂ (λ (x y : ℕ). x * y) q u;
      within = block_within p d z b hd hz hb;
      high = image_high p r;
    }

module _ (p : Params) (r : Ranged p) where
  pub footer_block_below : (o : ℕ) → o < p.S → 1 + p.S + o / per_footer p < capacity p
  unfolding capacity
  footer_block_below o l = omega (arith, footer_of p r o l)

  pub first_foot_below : 1 + p.S < capacity p
  unfolding capacity
  first_foot_below = omega (arith, footers-low p r)

  pub record_fits : (o : ℕ) → spare_len * (o % per_footer p) + spare_len ≤ p.B
  record_fits o =
      let q : o % per_footer p < per_footer p = mod-lt o (omega (arith, per_footer_low p r)) in
      let e : spare_len * (o % per_footer p) ≡ o % per_footer p * spare_len = mul_comm spare_len (o % per_footer p) in
      omega (arith, e, item_fits (o % per_footer p) (per_footer p) spare_len q, per_footer_fits p r)

  -- a record's bytes lie within the image
  pub record_within : (f : Bool) (d z o : ℕ) → d < p.N → z < p.Z → o < p.S → record_byte p f d z o + spare_len ≤ image_len p
  unfolding record_byte unit_len
  record_within true d z o hd hz ho =
      omega (arith, block_within p d z (1 + p.S + o / per_footer p) hd hz (footer_block_below o ho), record_fits o)
  record_within false d z o hd hz ho =
      let b : 1 + o < capacity p = data_below p r (1 + o) (omega arith) in
      omega (arith, block_within p d z (1 + o) hd hz b)

  -- the same from the first record's, by quotient and remainder
  farther : (d z b k : ℕ) → place_byte p (place_of p d z (b + k)) ≡ place_byte p (place_of p d z b) + k * (p.B + spare_len)
  unfolding place_byte place_of unit_len
  farther d z b k =
      ap (λ (x : ℕ). x * (p.B + spare_len)) (sym (add_assoc ((d * p.Z + z) * capacity p) b k))
      ∙ add-mul ((d * p.Z + z) * capacity p + b) k (p.B + spare_len)

  pub together_some : (f : Bool) → 1 ≤ together p f
  unfolding together
  together_some true = omega (arith, per_footer_low p r)
  together_some false = omega arith

  pub record_from : (f : Bool) (d z o : ℕ) → first_byte p f d z + o / together p f * (p.B + spare_len) + spare_len * (o % together p f) ≡ record_byte p f d z o
  unfolding record_byte first_byte together
  record_from true d z o = ap (λ (x : ℕ). x + spare_len * (o % per_footer p)) (sym (farther d z (1 + p.S) (o / per_footer p)))
  record_from false d z o =
      let a : o / 1 ≡ o = div-one o in
      let b : spare_len * (o % 1) ≡ 0 = ap (λ (x : ℕ). spare_len * x) (mod-one o) ∙ mul-zero spare_len in
      let c : o / 1 * (p.B + spare_len) ≡ o * (p.B + spare_len) = ap (λ (x : ℕ). x * (p.B + spare_len)) a in
      omega (arith, b, c, farther d z 1 o)

  -- its numbers on the way, and their bounds; n: the bytes of a spare
  pub record Stepping (first per n d z o : ℕ) (f : Bool) : Type 0 where
    pub some : 1 ≤ per
    pub low : o ≤ 65535
    pub quotient : o / per ≤ 65535
    pub rest : o % per ≤ 65535
    pub byte : first + o / per * (p.B + n) + n * (o % per) ≡ record_byte p f d z o
    pub within : record_byte p f d z o + spare_len ≤ image_len p
    pub high : image_len p ≤ 2946336325632

  pub stepping : (f : Bool) (first per n d z o : ℕ) → first ≡ first_byte p f d z → per ≡ together p f → n ≡ spare_len → d < p.N → z < p.Z → o < p.S
      → Stepping first per n d z o f
  stepping f first per n d z o e k s hd hz ho = record {
    some = omega (arith, k, together_some f);
    low = omega (arith, ho, r.stripes_high);
    quotient = omega (arith, div-le_self o per, ho, r.stripes_high);
    rest = omega (arith, mod-le o per, ho, r.stripes_high);
    byte =
        ap₂ (λ (x y : ℕ). x + o / y * (p.B + n) + n * (o % y)) e k
        ∙ ap (λ (m : ℕ). first_byte p f d z + o / together p f * (p.B + m) + m * (o % together p f)) s ∙ record_from f d z o;
    within = record_within f d z o hd hz ho;
    high = image_high p r;
  }

  module _ (off im ps : List ℕ) (hi : length im ≡ image_len p) (hp : length ps ≡ pointers_len p) (d z : ℕ) (hd : d < p.N) (hz : z < p.Z) where
    whole : Whole p (mk_disk im ps)
    whole = record { image_long = hi; pointers_long = hp }

    -- 01, What a zone holds: how much is stored, by the pointer's bytes
    pub data_stored_by : data_stored p (zone_at (view_of p off im ps) d z) ≡ min (pointer_of p ps d z - 1) p.S
    unfolding data_stored pointer_at
    data_stored_by = ap (λ (x : ℕ). min (x - 1) p.S) (pointer_view p off (mk_disk im ps) d z hd hz whole)

    pub footers-stored_by : footers_stored p (zone_at (view_of p off im ps) d z) ≡ min (pointer_of p ps d z - 1 - p.S) (footers p)
    unfolding footers_stored pointer_at
    footers-stored_by = ap (λ (x : ℕ). min (x - 1 - p.S) (footers p)) (pointer_view p off (mk_disk im ps) d z hd hz whole)

    -- a footer block of the view
    foot_view : (k : ℕ) → 1 + p.S + k < capacity p
        → get_or (blocks_of (drop (1 + p.S) (zone_at (view_of p off im ps) d z).blocks)) k [] ≡ part (place_byte p (place_of p d z (1 + p.S + k))) p.B im
    unfolding blocks_of chunk_at
    foot_view k h =
        let bs : List Chunk = (zone_at (view_of p off im ps) d z).blocks in
        let l : k < length (drop (1 + p.S) bs) = rw length-drop (omega (arith, blocks_long p off (mk_disk im ps) d z hd hz whole)) in
        get_d_map (λ (c : Chunk). c.block) (drop (1 + p.S) bs) k [] no_chunk l
        ∙ ap (λ (c : Chunk). c.block) (get_or-drop (1 + p.S) bs k no_chunk)
        ∙ block_view p off (mk_disk im ps) d z hd hz whole (1 + p.S + k) h

    -- 01, Restart, 3: a record, by its bytes
    pub record_by : (f : Bool) (o : ℕ) → o < p.S → record_of_of (part (record_byte p f d z o) spare_len im) ≡ record_in p f (zone_at (view_of p off im ps) d z) o
    unfolding record_byte record_in footer_record unit_len
    record_by true o ho =
        let b = place_byte p (place_of p d z (1 + p.S + o / per_footer p)) in
        let h = footer_block_below o ho in
        let w : b + p.B ≤ length im = omega (arith, block_within p d z (1 + p.S + o / per_footer p) hd hz h, hi) in
        sym (ap (λ (x : List ℕ). record_of_of (part (spare_len * (o % per_footer p)) spare_len x)) (foot_view (o / per_footer p) h)
        ∙ ap record_of_of (part-part im b p.B (spare_len * (o % per_footer p)) spare_len (record_fits o) w))
    record_by false o ho =
        let h : 1 + o < capacity p = data_below p r (1 + o) (omega arith) in
        sym (ap record_of_of (spare_of h))
      where
        spare_of : 1 + o < capacity p → (get_or (zone_at (view_of p off im ps) d z).blocks (1 + o) no_chunk).spare ≡ part (place_byte p (place_of p d z (1 + o)) + p.B) spare_len im
        spare_of h = unfold chunk_at in spare_view p off (mk_disk im ps) d z hd hz whole (1 + o) h
