-- The view of lent bytes has its shape.
use Rattle.std.specs.Prelude.{◌≡◌, List, [], ◌∷◌, true, ℕ, zero, suc, ◌+◌, ◌*◌, ◌≤◌, ◌<◌, ltb, length, get_or, take, drop}
use Rattle.std.proofs.Math.Path.{refl}
use Rattle.std.proofs.Common.{sym, ap, ◌∙◌, subst, ltb-true, arith, get_or-drop}
use Rattle.spec.specs.declared.Params.{Params}
use Rattle.spec.specs.Bytes.{part}
use Rattle.spec.specs.Demands.{are_bytes}
use Rattle.spec.specs.Drives.{no_chunk, zone_at, chunk_at, zone_of, drive_of, view_of, Disk, zones_of}
use Rattle.spec.specs.Lists.{all, pieces, zipped}
use Rattle.spec.specs.Params.{spare_len, capacity, unit_len, zone_len, drive_len, place_of, place_byte}
use Rattle.law_basic.specs.Geometry.{block_within}
use Rattle.law_basic.specs.Ranges.{and_left, and_right, length-pieces, get_d_zipped, length-zipped}
use Rattle.law_basic.specs.Splice.{length_part}
use Rattle.law_views.specs.Views.{Whole, blocks_long, block_view, spare_view, seen}
use Rattle.law_drives.specs.Zones.{Sized, Bytes, SoundChunk, Shaped}

pub bytes_take : (n : ℕ) (l : List ℕ) → Bytes l → Bytes (take n l)
bytes_take zero l h i = omega arith
bytes_take (suc n) [] h i = h i
bytes_take (suc n) (b ∷ l) h zero = h 0
bytes_take (suc n) (b ∷ l) h (suc i) = bytes_take n l (λ j. h (suc j)) i

pub bytes_drop : (n : ℕ) (l : List ℕ) → Bytes l → Bytes (drop n l)
bytes_drop n l h i = rw get_or-drop (h (n + i))

pub bytes_part : (a n : ℕ) (l : List ℕ) → Bytes l → Bytes (part a n l)
unfolding part
bytes_part a n l h = bytes_take n (drop a l) (bytes_drop a l h)

pub bytes_of_lem : (l : List ℕ) → are_bytes l ≡ true → Bytes l
unfolding are_bytes all
bytes_of_lem [] q i = omega arith
bytes_of_lem (b ∷ l) q zero = ltb-true b 256 (and_left (ltb b 256) (all (λ x. ltb x 256) l) q)
bytes_of_lem (b ∷ l) q (suc i) = bytes_of_lem l (and_right (ltb b 256) (all (λ x. ltb x 256) l) q) i

pub sized_of : (p : Params) (off : List ℕ) (k : Disk) → Whole p k → Sized p (seen p off k)
unfolding view_of zones_of drive_of
sized_of p off k w = record {
  drives_long = pair_long (drive_of p) (pieces (drive_len p) p.N k.image) (pieces (4 * p.Z) p.N k.pointers) p.N
      (length-pieces (drive_len p) p.N k.image) (length-pieces (4 * p.Z) p.N k.pointers);
  zones_long = λ d h.
      let im = get_or (pieces (drive_len p) p.N k.image) d [] in
      let ps = get_or (pieces (4 * p.Z) p.N k.pointers) d [] in
      ap length (get_d_zipped (drive_of p) (pieces (drive_len p) p.N k.image) (pieces (4 * p.Z) p.N k.pointers) d [] [] []
      (subst (λ (x : ℕ). d < x) (sym (length-pieces (drive_len p) p.N k.image)) h)
      (subst (λ (x : ℕ). d < x) (sym (length-pieces (4 * p.Z) p.N k.pointers)) h))
      ∙ pair_long (zone_of p) (pieces (zone_len p) p.Z im) (pieces 4 p.Z ps) p.Z (length-pieces (zone_len p) p.Z im) (length-pieces 4 p.Z ps);
}
  where
    pair_long : {A B C : Type 0} (f : A → B → C) (xs : List A) (ys : List B) (n : ℕ) → length xs ≡ n → length ys ≡ n → length (zipped f xs ys) ≡ n
    pair_long f xs ys n a b = length-zipped f xs ys ∙ omega arith

pub shaped_of : (p : Params) (off : List ℕ) (k : Disk) → Whole p k → Bytes k.image → Shaped p (seen p off k)
shaped_of p off k w b = record {
  sized = sized_of p off k w;
  zone_ok = λ d z hd hz. record {
    blocks_long = blocks_long p off k d z hd hz w;
    sound = λ n l. as_chunk d z n (chunk_sound d z n hd hz l);
  };
}
  where
    as_chunk : (d z n : ℕ) → SoundChunk p n (chunk_at (seen p off k) d z n) → SoundChunk p n (get_or (zone_at (seen p off k) d z).blocks n no_chunk)
    as_chunk d z n h = unfold chunk_at in h

    chunk_sound : (d z n : ℕ) → d < p.N → z < p.Z → n < capacity p → SoundChunk p n (chunk_at (seen p off k) d z n)
    chunk_sound d z n hd hz l =
        let a = place_byte p (place_of p d z n) in
        let f : a + unit_len p ≤ length k.image = subst (λ (x : ℕ). a + unit_len p ≤ x) (sym w.image_long) (block_within p d z n hd hz l) in
        let u : unit_len p ≡ p.B + spare_len = unit_is in
        let eb = block_view p off k d z hd hz w n l in
        let es = spare_view p off k d z hd hz w n l in
        record {
          block_long = ap length eb ∙ length_part a p.B k.image (omega arith);
          spare_long = ap length es ∙ length_part (a + p.B) spare_len k.image (omega arith);
          spare_bytes = subst (λ (x : List ℕ). Bytes x) (sym es) (bytes_part (a + p.B) spare_len k.image b);
          block_bytes = λ x. subst (λ (y : List ℕ). Bytes y) (sym eb) (bytes_part a p.B k.image b);
        }
      where
        unit_is : unit_len p ≡ p.B + spare_len
        unit_is = unfold unit_len in refl
