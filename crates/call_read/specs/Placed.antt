-- A place with no fault is a data block of the image; its bytes (01, Read; Refusals, 9). Assumes nothing.
use Rattle.std.specs.Prelude.{◌≡◌, List, [], ◌∷◌, Bool, true, false, cond, ℕ, ◌+◌, ◌-◌, ◌/◌, ◌≤◌, ◌<◌, ltb, eqb}
use Rattle.std.proofs.Math.Path.{sym, ap, ap₂}
use Rattle.std.proofs.Common.{◌∙◌, subst, arith, lt-ltb, le-ltb}
use Rattle.std.proofs.Math.Nat.{mod-lt}
use Rattle.spec.specs.declared.Params.{Params}
use Rattle.spec.specs.Bytes.{part}
use Rattle.spec.specs.Drives.{View, chunk_at, Disk}
use Rattle.spec.specs.Counts.{never_place}
use Rattle.spec.specs.Lists.{cons_if, is_in}
use Rattle.spec.specs.Memory.{place_at_of}
use Rattle.spec.specs.Params.{in_range, capacity, unit_len, image_len, place_block, place_zone, place_drive, place_byte}
use Rattle.spec.specs.Read.{Found, lies, found_faults, stored_at, read_piece}
use Rattle.spec.specs.Segments.{is_place}
use Rattle.spec.specs.Read.Found.{nowhere, here, away}
use Rattle.disk_stored.specs.Places.{DataPlace, place_free}
use Rattle.law_basic.specs.Geometry.{data_below, ranged, place_again, block_within}
use Rattle.law_basic.specs.Ranges.{Test, test}
use Rattle.law_basic.specs.Ranges.Test.{yes!, no! }
use Rattle.law_drives.specs.Holders.{place_zone_on}
use Rattle.mem_lookup.specs.Places.{fault_free_place}
use Rattle.law_views.specs.Views.{block_view, Whole, seen}

-- 01, Refusals, 9: where an address lies is a data block of the image
abbrev pub placed_at : Params → Found → Type 0
placed_at p nowhere = Unit {0}
placed_at p (here q) = DataPlace p q
placed_at p (away q) = DataPlace p q

pub found-placed : (p : Params) (v : View) (gone : ℕ) (f : Found) → found_faults p v gone f ≡ [] → placed_at p f
unfolding found_faults
found-placed p v gone nowhere e = tt
found-placed p v gone (here q) e = place_free p v gone q e
found-placed p v gone (away q) e = place_free p v gone q e

-- and has a segment
abbrev pub held_at : Params → View → ℕ → Found → Type 0
held_at p v gone nowhere = Unit {0}
held_at p v gone (here q) = is_place p v gone q ≡ true
held_at p v gone (away q) = is_place p v gone q ≡ true

pub found-held : (p : Params) (v : View) (gone : ℕ) (f : Found) → found_faults p v gone f ≡ [] → held_at p v gone f
unfolding found_faults
found-held p v gone nowhere e = tt
found-held p v gone (here q) e = fault_free_place p v gone q e
found-held p v gone (away q) e = fault_free_place p v gone q e

-- 01, Read: where an address lies, sorted by whether its drive is present
abbrev pub Sorted : Params → ℕ → Found → Type 0
Sorted p gone nowhere = Unit {0}
Sorted p gone (here q) = is_in gone (place_drive p q) ≡ false
Sorted p gone (away q) = Unit {0}

pub lies_sorted : (p : Params) (gone : ℕ) (tb : List ℕ) (a : ℕ) → Sorted p gone (lies p gone tb a)
unfolding lies
lies_sorted p gone tb a = go (place_at_of tb a) (eqb (place_at_of tb a) never_place) (test (is_in gone (place_drive p (place_at_of tb a))))
  where
    go : (q : ℕ) (b : Bool) → Test (is_in gone (place_drive p q)) → Sorted p gone (cond b nowhere (cond (is_in gone (place_drive p q)) (away q) (here q)))
    go q true t = tt
    go q false (yes! e) = subst (λ (x : Bool). Sorted p gone (cond x (away q) (here q))) (sym e) tt
    go q false (no! e) = subst (λ (x : Bool). Sorted p gone (cond x (away q) (here q))) (sym e) e

-- one zone at fault, or none
pub zone_there : (z n : ℕ) → z < n → cons_if (ltb z n) z [] ≡ z ∷ []
unfolding cons_if
zone_there z n h = ap (λ (x : Bool). cons_if x z []) (lt-ltb z n h)

pub zone_absent : (z n : ℕ) → n ≤ z → cons_if (ltb z n) z [] ≡ []
unfolding cons_if
zone_absent z n h = ap (λ (x : Bool). cons_if x z []) (le-ltb z n h)

-- the place's bytes
module _ (p : Params) (q : ℕ) (ok : in_range p ≡ true) (h : DataPlace p q) where
  zone_low : place_zone p q < p.Z
  unfolding place_zone
  zone_low = mod-lt (q / capacity p) (omega (arith, (ranged p ok).zones_low))

  block_in : place_block p q < capacity p
  block_in = data_below p (ranged p ok) (place_block p q) h.block_high

  pub place_in_image : place_byte p q + unit_len p ≤ image_len p
  place_in_image =
      subst (λ (x : ℕ). place_byte p x + unit_len p ≤ image_len p) (place_again p q)
      (block_within p (place_drive p q) (place_zone p q) (place_block p q) h.drive_low zone_low block_in)

  -- 01, Read: the block there
  pub place_bytes : (off : List ℕ) (k : Disk) (gone : ℕ) (cs : List ℕ) → Whole p k → is_place p (seen p off k) gone q ≡ true
      → part (place_byte p q) p.B k.image ≡ (read_piece p (seen p off k) gone cs (here q)).block
  unfolding read_piece stored_at
  place_bytes off k gone cs w is =
      let d = place_drive p q in
      let z = place_zone p q in
      let t : 1 + (place_block p q - 1) ≡ place_block p q = omega (arith, h.block_low) in
      ap (λ (y : ℕ). part (place_byte p y) p.B k.image) (sym (place_again p q)) ∙ sym (block_view p off k d z h.drive_low zone_low w (place_block p q) block_in)
      ∙ ap₂ (λ (x y : ℕ). (chunk_at (seen p off k) d x y).block) (sym (place_zone_on p (seen p off k) gone q is)) (sym t)
