-- The view of whole bytes has its shape, and stores of the right kinds on bytes are those on the view. Assumes nothing.
use Rattle.std.specs.Prelude.{◌≡◌, get_or, take}
use Rattle.std.proofs.Math.Path.{ap, ap₂}
use Rattle.std.proofs.Common.{◌∙◌, arith}
use mathlib.Core.List.{List, []}
use Prim.Native.Nat.{ℕ, ◌+◌, ◌*◌, min, ◌≤◌, ◌<◌}
use Rattle.std.proofs.Math.ListN.{length}
use Rattle.spec.specs.declared.Params.{Params}
use Rattle.spec.specs.Drives.{chunk_at, zone_of, drive_of, zones_of, view_of, Store, store_view_of, Disk, store_disk, store_all}
use Rattle.spec.specs.Lists.{pieces}
use Rattle.spec.specs.Params.{spare_len, capacity, unit_len, zone_len, drive_len, place_of, place_byte}
use Rattle.law_basic.specs.Geometry.{Ranged, block_within}
use Rattle.law_basic.specs.Ranges.{length-pieces, get_d_zipped, length-zipped}
use Rattle.law_basic.specs.Splice.{length_part}
use Rattle.law_views.specs.Views.{Whole, blocks_long, block_view, spare_view, AllFit, seen, view_stores, whole_stores}
use Rattle.proof_crash_items.specs.Ranges.{capacity-many}
use Rattle.proof_crash_items.specs.Shape.{Shape, fit_take}
use Rattle.proof_crash_items.specs.Sound.{AllSound, sounds_fit}

module _ (p : Params) (off : List ℕ) (k : Disk) (w : Whole p k) where
  pub shape_seen : Shape p (seen p off k)
  unfolding chunk_at view_of
  shape_seen = record {
    drives = count;
    zones = zones;
    blocks = λ d z a b. blocks_long p off k d z a b w;
    long = λ d z j a b c. (block d z j a b c, spare d z j a b c);
  }
    where
      count : length (zones_of p k.image k.pointers) ≡ p.N
      count = unfold zones_of in (
          length-zipped (drive_of p) (pieces (drive_len p) p.N k.image) (pieces (4 * p.Z) p.N k.pointers)
          ∙ ap₂ min (length-pieces (drive_len p) p.N k.image) (length-pieces (4 * p.Z) p.N k.pointers) ∙ omega arith)

      drive_long : (im ps : List ℕ) → length (drive_of p im ps) ≡ p.Z
      drive_long im ps = unfold drive_of in (
          length-zipped (zone_of p) (pieces (zone_len p) p.Z im) (pieces 4 p.Z ps)
          ∙ ap₂ min (length-pieces (zone_len p) p.Z im) (length-pieces 4 p.Z ps) ∙ omega arith)

      zones : (d : ℕ) → d < p.N → length (get_or (zones_of p k.image k.pointers) d []) ≡ p.Z
      zones d l = unfold zones_of in (
          ap length (get_d_zipped (drive_of p) (pieces (drive_len p) p.N k.image) (pieces (4 * p.Z) p.N k.pointers) d [] [] []
          (omega (arith, length-pieces (drive_len p) p.N k.image)) (omega (arith, length-pieces (4 * p.Z) p.N k.pointers)))
          ∙ drive_long (get_or (pieces (drive_len p) p.N k.image) d []) (get_or (pieces (4 * p.Z) p.N k.pointers) d []))

      within : (d z j : ℕ) → d < p.N → z < p.Z → j < capacity p → place_byte p (place_of p d z j) + (p.B + spare_len) ≤ length k.image
      within d z j a b c = unfold unit_len in omega (arith, block_within p d z j a b c, w.image_long)

      block : (d z j : ℕ) → d < p.N → z < p.Z → j < capacity p → length (chunk_at (seen p off k) d z j).block ≡ p.B
      block d z j a b c = ap length (block_view p off k d z a b w j c) ∙ length_part (place_byte p (place_of p d z j)) p.B k.image (omega (arith, within d z j a b c))

      spare : (d z j : ℕ) → d < p.N → z < p.Z → j < capacity p → length (chunk_at (seen p off k) d z j).spare ≡ spare_len
      spare d z j a b c = ap length (spare_view p off k d z a b w j c) ∙ length_part (place_byte p (place_of p d z j) + p.B) spare_len k.image (omega (arith, within d z j a b c))

-- sound stores on the bytes, all or the first n
module _ (p : Params) (r : Ranged p) (off : List ℕ) (k : Disk) (w : Whole p k) (ss : List Store) (f : AllSound p (seen p off k) ss) where
  fits : AllFit p (seen p off k) ss
  fits = sounds_fit p r (seen p off k) ss (shape_seen p off k w) f

  pub seen_stores : seen p off (store_all (store_disk p) ss k) ≡ store_all store_view_of ss (seen p off k)
  seen_stores = view_stores p off k ss (capacity-many p r) w fits

  pub seen-cut : (n : ℕ) → seen p off (store_all (store_disk p) (take n ss) k) ≡ store_all store_view_of (take n ss) (seen p off k)
  seen-cut n = view_stores p off k (take n ss) (capacity-many p r) w (fit_take p (seen p off k) ss n fits)

  pub whole_all : Whole p (store_all (store_disk p) ss k)
  whole_all = whole_stores p off k ss (capacity-many p r) w fits

  pub whole_cut : (n : ℕ) → Whole p (store_all (store_disk p) (take n ss) k)
  whole_cut n = whole_stores p off k (take n ss) (capacity-many p r) w (fit_take p (seen p off k) ss n fits)
