-- The view of the bytes after a store is the store applied to the view (01, The array). Assumes nothing.
use Rattle.std.specs.Prelude.{◌≡◌, refl, Bool, ◌||◌, ℕ, zero, suc, ◌+◌, ◌*◌, ◌^◌, ◌≤◌, ◌<◌, take, drop, eqb}
use Rattle.std.proofs.Math.Path.{sym, ap, ap₂, subst}
use Rattle.std.proofs.Common.{◌∙◌, length-drop, lit<, zero-add, suc-add, zero-mul, suc-mul, mul_comm}
use mathlib.Core.List.{map, List, [], ◌∷◌, ◌++◌}
use native.Mathlib.Omega.{arith}
use Rattle.std.proofs.Math.Seq.{take-append_seam, drop-append_seam, take_at, drop_at}
use Rattle.std.proofs.Math.ListN.{length, get_or, set, length-append, length-map}
use Rattle.std.proofs.Math.Nat.{add-mul, mul_assoc, le_of_eq, le_trans}
use Rattle.spec.specs.Bytes.{be_of, to_be, part, splice}
use Rattle.spec.specs.Drives.{Chunk, mk_chunk, no_chunk, Zone, mk_zone, no_zone, View, mk_view, zone_at, pointer_at, chunk_at, chunk_of, zone_of, drive_of, zones_of, view_of, Store}
use Rattle.spec.specs.Drives.{put_zone, reset_zone, set_zone, store_view_of, Disk, pointer_byte, pointer_of, set_pointer, store_disk, store_all}
use Rattle.spec.specs.Drives.{is_good, good_zones, empty_zones, zone_on, sealed_in}
use Rattle.spec.specs.Drives.Store.{put, reset}
use Rattle.spec.specs.Lists.{below, all, keep, pieces, zipped, is_in}
use Rattle.spec.specs.Params.{spare_len, capacity, unit_len, zone_len, drive_len, image_len, pointers_len, place_of, place_byte, drives_of, present}
use Rattle.spec.specs.declared.Params.{Params}
use Rattle.law_basic.specs.Be.{length-to_be, be_of-to_be}
use Rattle.law_basic.specs.Geometry.{item_fits, block_within}
use Rattle.law_basic.specs.Ranges.{Test, test, get_d_map, map_set, all-below_same, all_keep, keep-keep_same, length-pieces, get_d_pieces, zipped_set, get_d_zipped}
use Rattle.law_basic.specs.Splice.{length_part, length-splice, part-add, part-part, splice-nil, splice-zero, splice_all, splice-cons-suc}
use Rattle.law_basic.specs.Ranges.Test.{yes!, no! }
use Rattle.law_basic.specs.Segs.{ZonesLow, low_zone}
use Rattle.spec.specs.declared.Seg.{Seg}

-- ---- splices and pieces

over_take : (s l : List ℕ) (k : ℕ) → length s ≤ k → k ≤ length l → take k (s ++ drop (length s) l) ≡ s ++ drop (length s) (take k l)
over_take [] l k h g = refl
over_take (b ∷ s) l zero h g = absurd (let q : ⊥ = omega arith in q)
over_take (b ∷ s) [] (suc k) h g = absurd (let q : ⊥ = omega arith in q)
over_take (b ∷ s) (x ∷ l) (suc k) h g = ap (λ (r : List ℕ). b ∷ r) (over_take s l k (omega arith) (omega arith))

over_drop : (s l : List ℕ) (k : ℕ) → length s ≤ k → k ≤ length l → drop k (s ++ drop (length s) l) ≡ drop k l
over_drop [] l k h g = refl
over_drop (b ∷ s) l zero h g = absurd (let q : ⊥ = omega arith in q)
over_drop (b ∷ s) [] (suc k) h g = absurd (let q : ⊥ = omega arith in q)
over_drop (b ∷ s) (x ∷ l) (suc k) h g = over_drop s l k (omega arith) (omega arith)

-- a splice within the first k
take-splice_in : (l : List ℕ) (j k : ℕ) (s : List ℕ) → j + length s ≤ k → k ≤ length l → take k (splice l j s) ≡ splice (take k l) j s
take-splice_in l zero k s h g =
    ap (take k) (splice-zero l s) ∙ over_take s l k (omega (arith, zero-add (length s))) g ∙ sym (splice-zero (take k l) s)
take-splice_in l (suc j) zero s h g = absurd (let q : ⊥ = omega arith in q)
take-splice_in [] (suc j) (suc k) s h g = absurd (let q : ⊥ = omega arith in q)
take-splice_in (x ∷ l) (suc j) (suc k) s h g =
    ap (take (suc k)) (splice-cons-suc x l j s) ∙ ap (λ (r : List ℕ). x ∷ r) (take-splice_in l j k s (omega arith) (omega arith))
    ∙ sym (splice-cons-suc x (take k l) j s)

drop-splice_in : (l : List ℕ) (j k : ℕ) (s : List ℕ) → j + length s ≤ k → k ≤ length l → drop k (splice l j s) ≡ drop k l
drop-splice_in l zero k s h g = ap (drop k) (splice-zero l s) ∙ over_drop s l k (omega (arith, zero-add (length s))) g
drop-splice_in l (suc j) zero s h g = absurd (let q : ⊥ = omega arith in q)
drop-splice_in [] (suc j) (suc k) s h g = absurd (let q : ⊥ = omega arith in q)
drop-splice_in (x ∷ l) (suc j) (suc k) s h g = ap (drop (suc k)) (splice-cons-suc x l j s) ∙ drop-splice_in l j k s (omega arith) (omega arith)

-- a splice behind the first k
take-splice-behind : (l : List ℕ) (k j : ℕ) (s : List ℕ) → k ≤ length l → take k (splice l (k + j) s) ≡ take k l
take-splice-behind l zero j s g = refl
take-splice-behind [] (suc k) j s g = absurd (let q : ⊥ = omega arith in q)
take-splice-behind (x ∷ l) (suc k) j s g =
    ap (λ (a : ℕ). take (suc k) (splice (x ∷ l) a s)) (suc-add k j) ∙ ap (take (suc k)) (splice-cons-suc x l (k + j) s)
    ∙ ap (λ (r : List ℕ). x ∷ r) (take-splice-behind l k j s (omega arith))

drop-splice-behind : (l : List ℕ) (k j : ℕ) (s : List ℕ) → k ≤ length l → drop k (splice l (k + j) s) ≡ splice (drop k l) j s
drop-splice-behind l zero j s g = ap (λ (a : ℕ). splice l a s) (zero-add j)
drop-splice-behind [] (suc k) j s g = absurd (let q : ⊥ = omega arith in q)
drop-splice-behind (x ∷ l) (suc k) j s g =
    ap (λ (a : ℕ). drop (suc k) (splice (x ∷ l) a s)) (suc-add k j) ∙ ap (drop (suc k)) (splice-cons-suc x l (k + j) s)
    ∙ drop-splice-behind l k j s (omega arith)

-- a splice within piece i changes that piece alone
pub pieces-splice : (k n : ℕ) (l : List ℕ) (i j : ℕ) (s : List ℕ) → i < n → j + length s ≤ k → n * k ≤ length l
    → pieces k n (splice l (i * k + j) s) ≡ set (pieces k n l) i (splice (get_or (pieces k n l) i []) j s)
unfolding pieces
pieces-splice k zero l i j s h g f = absurd (let q : ⊥ = omega arith in q)
pieces-splice k (suc n) l zero j s h g f =
    let e : zero * k + j ≡ j = ap (λ (a : ℕ). a + j) (zero-mul k) ∙ zero-add j in
    let m : k ≤ length l = omega (arith, suc-mul n k) in
    ap (λ (a : ℕ). pieces k (suc n) (splice l a s)) e
    ∙ ap₂ (λ (x y : List ℕ). x ∷ pieces k n y) (take-splice_in l j k s g m) (drop-splice_in l j k s g m)
pieces-splice k (suc n) l (suc i) j s h g f =
    let e : suc i * k + j ≡ k + (i * k + j) = omega (arith, suc-mul i k) in
    let m : k ≤ length l = omega (arith, suc-mul n k) in
    let r : n * k ≤ length (drop k l) = rw length-drop (omega (arith, suc-mul n k)) in
    ap (λ (a : ℕ). pieces k (suc n) (splice l a s)) e
    ∙ ap₂ (λ (x y : List ℕ). x ∷ pieces k n y) (take-splice-behind l k (i * k + j) s m) (drop-splice-behind l k (i * k + j) s m)
    ∙ ap (λ (x : List (List ℕ)). take k l ∷ x) (pieces-splice k n (drop k l) i j s (omega arith) g r)

pub length_piece : (k n : ℕ) (l : List ℕ) (i : ℕ) → i < n → n * k ≤ length l → length (get_or (pieces k n l) i []) ≡ k
length_piece k n l i h g = ap length (get_d_pieces k n l i h) ∙ length_part (i * k) k l (le_trans (item_fits i n k h) g)

-- ---- a zone, a drive, the view

pub zone_put : (p : Params) (u w b s : List ℕ) → length u ≡ zone_len p → length w ≡ 4 → be_of w < capacity p → suc (be_of w) < 256 ^ 4
    → length b ≡ p.B → length s ≡ spare_len
    → zone_of p (splice u (be_of w * unit_len p + 0) (b ++ s)) (splice w 0 (to_be 4 (suc (be_of w)))) ≡ put_zone b s (zone_of p u w)
unfolding zone_of put_zone chunk_of unit_len zone_len
zone_put p u w b s hu hw hp h4 hb hs =
    let n = be_of w in
    let lb : length (b ++ s) ≡ unit_len p = length-append b s ∙ ap₂ (λ (x y : ℕ). x + y) hb hs in
    let e₁ : be_of (splice w 0 (to_be 4 (suc n))) ≡ suc n =
    ap be_of (splice_all w (to_be 4 (suc n)) (length-to_be 4 (suc n) ∙ sym hw)) ∙ be_of-to_be 4 (suc n) h4 in
    let lu : capacity p * unit_len p ≤ length u = le_of_eq (sym hu) in
    let fit : 0 + length (b ++ s) ≤ unit_len p = omega (arith, lb) in
    let e₂ : pieces (unit_len p) (capacity p) (splice u (n * unit_len p + 0) (b ++ s)) ≡ set (pieces (unit_len p) (capacity p) u) n (b ++ s) =
    pieces-splice (unit_len p) (capacity p) u n 0 (b ++ s) hp fit lu
    ∙ ap (set (pieces (unit_len p) (capacity p) u) n) (splice_all (get_or (pieces (unit_len p) (capacity p) u) n []) (b ++ s) (lb ∙ sym (length_piece (unit_len p) (capacity p) u n hp lu))) in
    let e₃ : chunk_of p (b ++ s) ≡ mk_chunk b s =
    ap (λ (k : ℕ). mk_chunk (take k (b ++ s)) (drop k (b ++ s))) (sym hb) ∙ ap₂ (λ (x y : List ℕ). mk_chunk x y) (take-append_seam b s) (drop-append_seam b s) in
    let e₄ : map (chunk_of p) (pieces (unit_len p) (capacity p) (splice u (n * unit_len p + 0) (b ++ s))) ≡ set (map (chunk_of p) (pieces (unit_len p) (capacity p) u)) n (mk_chunk b s) =
    ap (map (chunk_of p)) e₂ ∙ map_set (chunk_of p) (pieces (unit_len p) (capacity p) u) n (b ++ s)
    ∙ ap (set (map (chunk_of p) (pieces (unit_len p) (capacity p) u)) n) e₃ in
    ap₂ (λ (x : ℕ) (y : List Chunk). mk_zone x y) e₁ e₄

pub zone_reset : (p : Params) (u w : List ℕ) → length w ≡ 4 → zone_of p u (splice w 0 (to_be 4 0)) ≡ reset_zone (zone_of p u w)
unfolding zone_of reset_zone
zone_reset p u w hw =
    let e : be_of (splice w 0 (to_be 4 0)) ≡ 0 = ap be_of (splice_all w (to_be 4 0) (length-to_be 4 0 ∙ sym hw)) ∙ be_of-to_be 4 0 (lit< {m = 0} {n = 4294967296} tt) in
    ap (λ (x : ℕ). mk_zone x (map (chunk_of p) (pieces (unit_len p) (capacity p) u))) e

-- a splice within one zone of a drive
pub drive_splice : (p : Params) (im ps : List ℕ) (z j t : ℕ) (s₁ s₂ : List ℕ) → z < p.Z → j + length s₁ ≤ zone_len p → t + length s₂ ≤ 4
    → p.Z * zone_len p ≤ length im → p.Z * 4 ≤ length ps
    → drive_of p (splice im (z * zone_len p + j) s₁) (splice ps (z * 4 + t) s₂)
    ≡ set (drive_of p im ps) z (zone_of p (splice (get_or (pieces (zone_len p) p.Z im) z []) j s₁) (splice (get_or (pieces 4 p.Z ps) z []) t s₂))
unfolding drive_of
drive_splice p im ps z j t s₁ s₂ hz h₁ h₂ l₁ l₂ =
    ap₂ (zipped (zone_of p)) (pieces-splice (zone_len p) p.Z im z j s₁ hz h₁ l₁) (pieces-splice 4 p.Z ps z t s₂ hz h₂ l₂)
    ∙ zipped_set (zone_of p) (pieces (zone_len p) p.Z im) (pieces 4 p.Z ps) z
    (splice (get_or (pieces (zone_len p) p.Z im) z []) j s₁) (splice (get_or (pieces 4 p.Z ps) z []) t s₂)

-- a splice within one drive
pub zones_splice : (p : Params) (im ps : List ℕ) (d j t : ℕ) (s₁ s₂ : List ℕ) → d < p.N → j + length s₁ ≤ drive_len p → t + length s₂ ≤ 4 * p.Z
    → p.N * drive_len p ≤ length im → p.N * (4 * p.Z) ≤ length ps
    → zones_of p (splice im (d * drive_len p + j) s₁) (splice ps (d * (4 * p.Z) + t) s₂)
    ≡ set (zones_of p im ps) d (drive_of p (splice (get_or (pieces (drive_len p) p.N im) d []) j s₁) (splice (get_or (pieces (4 * p.Z) p.N ps) d []) t s₂))
unfolding zones_of
zones_splice p im ps d j t s₁ s₂ hd h₁ h₂ l₁ l₂ =
    ap₂ (zipped (drive_of p)) (pieces-splice (drive_len p) p.N im d j s₁ hd h₁ l₁) (pieces-splice (4 * p.Z) p.N ps d t s₂ hd h₂ l₂)
    ∙ zipped_set (drive_of p) (pieces (drive_len p) p.N im) (pieces (4 * p.Z) p.N ps) d
    (splice (get_or (pieces (drive_len p) p.N im) d []) j s₁) (splice (get_or (pieces (4 * p.Z) p.N ps) d []) t s₂)

-- ---- the store

-- image and pointers have their lengths
pub record Whole (p : Params) (k : Disk) : Type 0 where
  pub image_long : length k.image ≡ image_len p
  pub pointers_long : length k.pointers ≡ pointers_len p

module _ (p : Params) (off : List ℕ) (k : Disk) (d z : ℕ) (hd : d < p.N) (hz : z < p.Z) (w : Whole p k) where
  -- the drive's bytes and pointers, the zone's
  abbrev drive_im : List ℕ
  drive_im = get_or (pieces (drive_len p) p.N k.image) d []

  abbrev drive_ps : List ℕ
  drive_ps = get_or (pieces (4 * p.Z) p.N k.pointers) d []

  abbrev zone_im : List ℕ
  zone_im = get_or (pieces (zone_len p) p.Z drive_im) z []

  abbrev zone_ps : List ℕ
  zone_ps = get_or (pieces 4 p.Z drive_ps) z []

  long_im : p.N * drive_len p ≤ length k.image
  unfolding image_len
  long_im = le_of_eq (sym w.image_long)

  long_ps : p.N * (4 * p.Z) ≤ length k.pointers
  unfolding pointers_len
  long_ps =
      le_of_eq (let e : p.N * (4 * p.Z) ≡ 4 * (p.N * p.Z) = sym (mul_assoc p.N 4 p.Z)
      ∙ ap (λ (x : ℕ). x * p.Z) (mul_comm p.N 4)
      ∙ mul_assoc 4 p.N p.Z in e
      ∙ sym w.pointers_long)

  drive_long : length drive_im ≡ drive_len p
  drive_long = length_piece (drive_len p) p.N k.image d hd long_im

  drive_ps_long : length drive_ps ≡ 4 * p.Z
  drive_ps_long = length_piece (4 * p.Z) p.N k.pointers d hd long_ps

  in_drive : p.Z * zone_len p ≤ length drive_im
  unfolding drive_len
  in_drive = le_of_eq (sym drive_long)

  in_drive_ps : p.Z * 4 ≤ length drive_ps
  in_drive_ps = le_of_eq (mul_comm p.Z 4 ∙ sym drive_ps_long)

  zone_long : length zone_im ≡ zone_len p
  zone_long = length_piece (zone_len p) p.Z drive_im z hz in_drive

  zone_ps_long : length zone_ps ≡ 4
  zone_ps_long = length_piece 4 p.Z drive_ps z hz in_drive_ps

  -- the view's drive and zone
  drive_at : get_or (zones_of p k.image k.pointers) d [] ≡ drive_of p drive_im drive_ps
  unfolding zones_of
  drive_at = get_d_zipped (drive_of p) (pieces (drive_len p) p.N k.image) (pieces (4 * p.Z) p.N k.pointers) d [] [] []
      (subst (λ (x : ℕ). d < x) (sym (length-pieces (drive_len p) p.N k.image)) hd) (subst (λ (x : ℕ). d < x) (sym (length-pieces (4 * p.Z) p.N k.pointers)) hd)

  zone_at_holds : zone_at (view_of p off k.image k.pointers) d z ≡ zone_of p zone_im zone_ps
  unfolding zone_at view_of drive_of
  zone_at_holds = ap (λ (x : List Zone). get_or x z no_zone) drive_at
      ∙ get_d_zipped (zone_of p) (pieces (zone_len p) p.Z drive_im) (pieces 4 p.Z drive_ps) z [] [] no_zone
      (subst (λ (x : ℕ). z < x) (sym (length-pieces (zone_len p) p.Z drive_im)) hz) (subst (λ (x : ℕ). z < x) (sym (length-pieces 4 p.Z drive_ps)) hz)

  pointer_byte_holds : pointer_byte p d z ≡ d * (4 * p.Z) + (z * 4 + 0)
  unfolding pointer_byte
  pointer_byte_holds =
      let e : d * (4 * p.Z) ≡ 4 * (d * p.Z) = sym (mul_assoc d 4 p.Z) ∙ ap (λ (x : ℕ). x * p.Z) (mul_comm d 4) ∙ mul_assoc 4 d p.Z in
      omega (arith, e)

  pub pointer_of_holds : pointer_of p k.pointers d z ≡ be_of zone_ps
  unfolding pointer_of
  pointer_of_holds =
      let e : pointer_byte p d z ≡ d * (4 * p.Z) + z * 4 = omega (arith, pointer_byte_holds) in
      let b₁ : z * 4 + 4 ≤ 4 * p.Z = omega arith in
      let b₂ : d * (4 * p.Z) + 4 * p.Z ≤ length k.pointers = le_trans (item_fits d p.N (4 * p.Z) hd) long_ps in
      ap be_of (ap (λ (x : ℕ). part x 4 k.pointers) e ∙ sym (part-part k.pointers (d * (4 * p.Z)) (4 * p.Z) (z * 4) 4 b₁ b₂)
      ∙ ap (part (z * 4) 4) (sym (get_d_pieces (4 * p.Z) p.N k.pointers d hd)) ∙ sym (get_d_pieces 4 p.Z drive_ps z hz))

  pub pointer_at_holds : pointer_at (view_of p off k.image k.pointers) d z ≡ be_of zone_ps
  unfolding pointer_at zone_of
  pointer_at_holds = ap (λ (q : Zone). q.pointer) zone_at_holds

  -- the pointer of the view is the pointer of the bytes
  pub pointer_view : pointer_at (view_of p off k.image k.pointers) d z ≡ pointer_of p k.pointers d z
  pointer_view = pointer_at_holds ∙ sym pointer_of_holds

  zone_fits : z * zone_len p + zone_len p ≤ drive_len p
  unfolding drive_len
  zone_fits = item_fits z p.Z (zone_len p) hz

  unit_fits : (n : ℕ) → n < capacity p → n * unit_len p + unit_len p ≤ zone_len p
  unfolding zone_len
  unit_fits n h = item_fits n (capacity p) (unit_len p) h

  unit_long : (b s : List ℕ) → length b ≡ p.B → length s ≡ spare_len → length (b ++ s) ≡ unit_len p
  unfolding unit_len
  unit_long b s hb hs = length-append b s ∙ ap₂ (λ (x y : ℕ). x + y) hb hs

  -- a splice within the zone
  in_zone : (j : ℕ) (s₁ s₂ : List ℕ) → j + length s₁ ≤ zone_len p → length s₂ ≡ 4
      → view_of p off (splice k.image (d * drive_len p + (z * zone_len p + j)) s₁) (splice k.pointers (pointer_byte p d z) s₂)
      ≡ set_zone (view_of p off k.image k.pointers) d z (zone_of p (splice zone_im j s₁) (splice zone_ps 0 s₂))
  unfolding set_zone view_of
  in_zone j s₁ s₂ h e =
      let b₁ : z * zone_len p + zone_len p ≤ drive_len p = zone_fits in
      let qs = zones_of p k.image k.pointers in
      let b₂ : z * zone_len p + j + length s₁ ≤ drive_len p = omega arith in
      let b₃ : z * 4 + 0 + length s₂ ≤ 4 * p.Z = omega arith in
      ap (λ (l : List (List Zone)). mk_view l off)
      (ap (λ (x : ℕ). zones_of p (splice k.image (d * drive_len p + (z * zone_len p + j)) s₁) (splice k.pointers x s₂)) pointer_byte_holds
      ∙ zones_splice p k.image k.pointers d (z * zone_len p + j) (z * 4 + 0) s₁ s₂ hd b₂ b₃ long_im long_ps
      ∙ ap (set qs d) (drive_splice p drive_im drive_ps z j 0 s₁ s₂ hz h (omega arith) in_drive in_drive_ps
      ∙ ap (λ (x : List Zone). set x z (zone_of p (splice zone_im j s₁) (splice zone_ps 0 s₂))) (sym drive_at)))

  block_byte : (n : ℕ) → place_byte p (place_of p d z n) ≡ d * drive_len p + (z * zone_len p + (n * unit_len p + 0))
  unfolding place_byte place_of drive_len zone_len
  block_byte n =
      let c = capacity p in
      let u = unit_len p in
      let e₁ : ((d * p.Z + z) * c + n) * u ≡ (d * p.Z + z) * c * u + n * u = add-mul ((d * p.Z + z) * c) n u in
      let e₂ : (d * p.Z + z) * c * u ≡ (d * p.Z + z) * (c * u) = mul_assoc (d * p.Z + z) c u in
      let e₃ : (d * p.Z + z) * (c * u) ≡ d * p.Z * (c * u) + z * (c * u) = add-mul (d * p.Z) z (c * u) in
      let e₄ : d * p.Z * (c * u) ≡ d * (p.Z * (c * u)) = mul_assoc d p.Z (c * u) in
      omega (arith, e₁, e₂, e₃, e₄)

  -- the zone's bytes as a part of the image
  zone_part : zone_im ≡ part (d * drive_len p + z * zone_len p) (zone_len p) k.image
  zone_part =
      let b : d * drive_len p + drive_len p ≤ length k.image = le_trans (item_fits d p.N (drive_len p) hd) long_im in
      get_d_pieces (zone_len p) p.Z drive_im z hz ∙ ap (part (z * zone_len p) (zone_len p)) (get_d_pieces (drive_len p) p.N k.image d hd)
      ∙ part-part k.image (d * drive_len p) (drive_len p) (z * zone_len p) (zone_len p) zone_fits b

  unit_bytes : (b : ℕ) → b < capacity p → part (b * unit_len p) (unit_len p) zone_im ≡ part (place_byte p (place_of p d z b)) (unit_len p) k.image
  unit_bytes b hb =
      let g : d * drive_len p + z * zone_len p + zone_len p ≤ length k.image = omega (arith, zone_fits, item_fits d p.N (drive_len p) hd, long_im) in
      let e : d * drive_len p + z * zone_len p + b * unit_len p ≡ place_byte p (place_of p d z b) = omega (arith, block_byte b) in
      ap (part (b * unit_len p) (unit_len p)) zone_part
      ∙ part-part k.image (d * drive_len p + z * zone_len p) (zone_len p) (b * unit_len p) (unit_len p) (unit_fits b hb) g
      ∙ ap (λ (x : ℕ). part x (unit_len p) k.image) e

  -- a block of the view is a part of the image
  pub chunk_view : (b : ℕ) → b < capacity p
      → chunk_at (view_of p off k.image k.pointers) d z b ≡ chunk_of p (part (place_byte p (place_of p d z b)) (unit_len p) k.image)
  unfolding chunk_at zone_of
  chunk_view b hb =
      let l : b < length (pieces (unit_len p) (capacity p) zone_im) = subst (λ (x : ℕ). b < x) (sym (length-pieces (unit_len p) (capacity p) zone_im)) hb in
      ap (λ (q : Zone). get_or q.blocks b no_chunk) zone_at_holds
      ∙ get_d_map (chunk_of p) (pieces (unit_len p) (capacity p) zone_im) b no_chunk [] l
      ∙ ap (chunk_of p) (get_d_pieces (unit_len p) (capacity p) zone_im b hb ∙ unit_bytes b hb)

  pub blocks_long : length (zone_at (view_of p off k.image k.pointers) d z).blocks ≡ capacity p
  unfolding zone_of
  blocks_long =
      ap (λ (q : Zone). length q.blocks) zone_at_holds ∙ length-map (pieces (unit_len p) (capacity p) zone_im) (chunk_of p) ∙ length-pieces (unit_len p) (capacity p) zone_im

  block_room : (b : ℕ) → b < capacity p → place_byte p (place_of p d z b) + unit_len p ≤ length k.image
  block_room b hb = omega (arith, block_within p d z b hd hz hb, w.image_long)

  -- its block and its spare
  pub block_view : (b : ℕ) → b < capacity p → (chunk_at (view_of p off k.image k.pointers) d z b).block ≡ part (place_byte p (place_of p d z b)) p.B k.image
  unfolding chunk_of unit_len
  block_view b hb =
      let a = place_byte p (place_of p d z b) in
      let n : length (part a p.B k.image) ≡ p.B = length_part a p.B k.image (omega (arith, block_room b hb)) in
      ap (λ (c : Chunk). c.block) (chunk_view b hb) ∙ ap (take p.B) (part-add a p.B spare_len k.image)
      ∙ take_at (part a p.B k.image) (part (a + p.B) spare_len k.image) p.B n

  pub spare_view : (b : ℕ) → b < capacity p → (chunk_at (view_of p off k.image k.pointers) d z b).spare ≡ part (place_byte p (place_of p d z b) + p.B) spare_len k.image
  unfolding chunk_of unit_len
  spare_view b hb =
      let a = place_byte p (place_of p d z b) in
      let n : length (part a p.B k.image) ≡ p.B = length_part a p.B k.image (omega (arith, block_room b hb)) in
      ap (λ (c : Chunk). c.spare) (chunk_view b hb) ∙ ap (drop p.B) (part-add a p.B spare_len k.image)
      ∙ drop_at (part a p.B k.image) (part (a + p.B) spare_len k.image) p.B n

  -- the view of the bytes after a put into a zone that isn't full
  pub view_put : (b s : List ℕ) → pointer_at (view_of p off k.image k.pointers) d z < capacity p → capacity p < 256 ^ 4 → length b ≡ p.B → length s ≡ spare_len
      → view_of p off (store_disk p (put d z b s) k).image (store_disk p (put d z b s) k).pointers ≡ store_view_of (put d z b s) (view_of p off k.image k.pointers)
  unfolding store_disk store_view_of set_pointer
  view_put b s hp hc hb hs =
      let n = be_of zone_ps in
      let v = view_of p off k.image k.pointers in
      let hn : n < capacity p = subst (λ (x : ℕ). x < capacity p) pointer_at_holds hp in
      let lb : length (b ++ s) ≡ unit_len p = unit_long b s hb hs in
      let fit : n * unit_len p + 0 + length (b ++ s) ≤ zone_len p = omega (arith, unit_fits n hn, lb) in
      ap (λ (x : ℕ). view_of p off (splice k.image (place_byte p (place_of p d z x)) (b ++ s)) (splice k.pointers (pointer_byte p d z) (to_be 4 (suc x)))) pointer_of_holds
      ∙ ap (λ (x : ℕ). view_of p off (splice k.image x (b ++ s)) (splice k.pointers (pointer_byte p d z) (to_be 4 (suc n)))) (block_byte n)
      ∙ in_zone (n * unit_len p + 0) (b ++ s) (to_be 4 (suc n)) fit (length-to_be 4 (suc n))
      ∙ ap (set_zone v d z) (zone_put p zone_im zone_ps b s zone_long zone_ps_long hn (omega arith) hb hs ∙ ap (put_zone b s) (sym zone_at_holds))

  -- and after a reset
  pub view_reset : view_of p off (store_disk p (reset d z) k).image (store_disk p (reset d z) k).pointers ≡ store_view_of (reset d z) (view_of p off k.image k.pointers)
  unfolding store_disk store_view_of set_pointer
  view_reset =
      let v = view_of p off k.image k.pointers in
      ap (λ (x : List ℕ). view_of p off x (splice k.pointers (pointer_byte p d z) (to_be 4 0))) (sym (splice-nil k.image (d * drive_len p + (z * zone_len p + 0))))
      ∙ in_zone 0 [] (to_be 4 0) (omega arith) (length-to_be 4 0)
      ∙ ap (set_zone v d z) (ap (λ (x : List ℕ). zone_of p x (splice zone_ps 0 (to_be 4 0))) (splice-nil zone_im 0) ∙ zone_reset p zone_im zone_ps zone_ps_long
      ∙ ap reset_zone (sym zone_at_holds))

  four_fits : (n : ℕ) → pointer_byte p d z + length (to_be 4 n) ≤ length k.pointers
  four_fits n =
      let b : z * 4 + 4 ≤ 4 * p.Z = omega arith in
      omega (arith, pointer_byte_holds, length-to_be 4 n, item_fits d p.N (4 * p.Z) hd, long_ps)

  -- lengths stay
  pub whole_put : (b s : List ℕ) → pointer_at (view_of p off k.image k.pointers) d z < capacity p → length b ≡ p.B → length s ≡ spare_len → Whole p (store_disk p (put d z b s) k)
  unfolding store_disk set_pointer image_len
  whole_put b s hp hb hs =
      let n = pointer_of p k.pointers d z in
      let hn : n < capacity p = subst (λ (x : ℕ). x < capacity p) (pointer_at_holds ∙ sym pointer_of_holds) hp in
      let fit : place_byte p (place_of p d z n) + length (b ++ s) ≤ length k.image =
      omega (arith, block_byte n, unit_long b s hb hs, unit_fits n hn, zone_fits, item_fits d p.N (drive_len p) hd, long_im) in
      record {
        image_long = length-splice k.image (place_byte p (place_of p d z n)) (b ++ s) fit ∙ w.image_long;
        pointers_long = length-splice k.pointers (pointer_byte p d z) (to_be 4 (suc n)) (four_fits (suc n)) ∙ w.pointers_long;
      }

  pub whole_reset : Whole p (store_disk p (reset d z) k)
  unfolding store_disk set_pointer
  whole_reset = record {
    image_long = w.image_long;
    pointers_long = length-splice k.pointers (pointer_byte p d z) (to_be 4 0) (four_fits 0) ∙ w.pointers_long;
  }

-- ---- every list of stores that fit: bytes follow the view

-- a store that the view has room for
abbrev pub Fits : Params → View → Store → Type 0
Fits p v (put d z b s) = (d < p.N) × (z < p.Z) × (pointer_at v d z < capacity p) × (length b ≡ p.B) × (length s ≡ spare_len)
Fits p v (reset d z) = (d < p.N) × (z < p.Z)

abbrev pub AllFit : Params → View → List Store → Type 0
AllFit p v [] = Unit {0}
AllFit p v (s ∷ ss) = Fits p v s × AllFit p (store_view_of s v) ss

-- the drives as lent, off the list of offline zones
abbrev pub seen : Params → List ℕ → Disk → View
seen p off k = view_of p off k.image k.pointers

pub view_store : (p : Params) (off : List ℕ) (k : Disk) (s : Store) → capacity p < 256 ^ 4 → Whole p k → Fits p (seen p off k) s
    → seen p off (store_disk p s k) ≡ store_view_of s (seen p off k)
view_store p off k (put d z b s) c w (hd, hz, hp, hb, hs) = view_put p off k d z hd hz w b s hp c hb hs
view_store p off k (reset d z) c w (hd, hz) = view_reset p off k d z hd hz w

pub whole_store : (p : Params) (off : List ℕ) (k : Disk) (s : Store) → Whole p k → Fits p (seen p off k) s → Whole p (store_disk p s k)
whole_store p off k (put d z b s) w (hd, hz, hp, hb, hs) = whole_put p off k d z hd hz w b s hp hb hs
whole_store p off k (reset d z) w (hd, hz) = whole_reset p off k d z hd hz w

-- the view of the bytes after the stores is the stores applied to the view
pub view_stores : (p : Params) (off : List ℕ) (k : Disk) (ss : List Store) → capacity p < 256 ^ 4 → Whole p k → AllFit p (seen p off k) ss
    → seen p off (store_all (store_disk p) ss k) ≡ store_all store_view_of ss (seen p off k)
unfolding store_all
view_stores p off k [] c w f = refl
view_stores p off k (s ∷ ss) c w (h, f) =
    let e = view_store p off k s c w h in
    view_stores p off (store_disk p s k) ss c (whole_store p off k s w h) (subst (λ (v : View). AllFit p v ss) (sym e) f)
    ∙ ap (store_all store_view_of ss) e

-- lengths stay
pub whole_stores : (p : Params) (off : List ℕ) (k : Disk) (ss : List Store) → capacity p < 256 ^ 4 → Whole p k → AllFit p (seen p off k) ss → Whole p (store_all (store_disk p) ss k)
unfolding store_all
whole_stores p off k [] c w f = w
whole_stores p off k (s ∷ ss) c w (h, f) =
    let e = view_store p off k s c w h in
    whole_stores p off (store_disk p s k) ss c (whole_store p off k s w h) (subst (λ (v : View). AllFit p v ss) (sym e) f)

-- ---- questions that the pointers alone answer

pub sealed_view : (p : Params) (off : List ℕ) (k : Disk) (gone : ℕ) (g : Seg) → ZonesLow p gone g → Whole p k
    → sealed_in p (seen p off k) gone g ≡ all (λ d. eqb (pointer_of p k.pointers d (zone_on g d)) (capacity p)) (present p gone)
unfolding sealed_in present drives_of
sealed_view p off k gone g hg w =
    all_keep f (is_in gone) (below p.N)
    ∙ all-below_same (λ d. is_in gone d || f d) (λ d. is_in gone d || h d) p.N (λ d hd. go d hd (test (is_in gone d)))
    ∙ sym (all_keep h (is_in gone) (below p.N))
  where
    f : ℕ → Bool
    f d = eqb (pointer_at (seen p off k) d (zone_on g d)) (capacity p)

    h : ℕ → Bool
    h d = eqb (pointer_of p k.pointers d (zone_on g d)) (capacity p)

    go : (d : ℕ) → d < p.N → Test (is_in gone d) → (is_in gone d || f d) ≡ (is_in gone d || h d)
    go d hd (yes! q) = rw q refl
    go d hd (no! q) = ap (λ (x : ℕ). is_in gone d || eqb x (capacity p)) (pointer_view p off k d (zone_on g d) hd (low_zone p gone g d hg hd q) w)

-- 02, item 4: the empty good zones of a drive, by the pointers' bytes and the list
pub empty_zones_view : (p : Params) (off : List ℕ) (k : Disk) (d : ℕ) → d < p.N → Whole p k
    → empty_zones p (seen p off k) d ≡ keep (λ z. eqb (pointer_of p k.pointers d z) 0) (good_zones p off d)
unfolding empty_zones good_zones view_of below
empty_zones_view p off k d hd w =
    keep-keep_same (is_good p off d) (λ z. eqb (pointer_at (seen p off k) d z) 0) (λ z. eqb (pointer_of p k.pointers d z) 0) 0 p.Z
    (λ z h₀ hz. ap (λ (x : ℕ). eqb x 0) (pointer_view p off k d z hd (omega arith) w))
