-- Fields written one after the other, and the whole header (01, What a zone holds). Assumes nothing.
use Rattle.std.specs.Prelude.{◌≡◌, Bool, ◌&&◌, ℕ, zero, suc, ◌+◌, ◌-◌, ◌*◌, ◌≤◌, ◌<◌, length, get_or, take, replicate, eqb}
use Rattle.std.proofs.Math.Path.{refl, sym, ap}
use Rattle.std.proofs.Common.{ap₂, ◌∙◌, zero-add, add_assoc, length-take-le, drop_at, take-append-drop, length-append}
use mathlib.Core.List.{List, [], ◌∷◌, ◌++◌, map, append_assoc}
use Rattle.std.proofs.Math.Bool.{and_assoc}
use native.Mathlib.Omega.{arith}
use Rattle.std.proofs.Math.ListN.{drop}
use Rattle.std.proofs.lemmas.List.{length-replicate, replicate-append-replicate}
use Rattle.spec.specs.Bytes.{to_be, splice, Field, field, bytes_of, widths_of}
use Rattle.spec.specs.Drives.{chunk_of, zone_on, zones_in, zero_spare}
use Rattle.spec.specs.Faults.{same_chunk}
use Rattle.spec.specs.Layout.{header_len, header_fields, header_block}
use Rattle.spec.specs.Lists.{up_from, total, same_list, pad_to, zipped}
use Rattle.spec.specs.Params.{spare_len, unit_len}
use Rattle.spec.specs.declared.Params.{Params}
use Rattle.spec.specs.declared.Seg.{Seg}
use Rattle.law_basic.specs.Be.{length-to_be}
use Rattle.law_basic.specs.Fields.{written, written_is, one_more, nothing_more, length_bytes_of, head_fields, tail_fields, header_fields_are, header_length, header_long, header_fits}
use Rattle.law_basic.specs.Geometry.{Ranged}
use Rattle.law_basic.specs.Splice.{length-splice, splice-zero, splice_next}
use Rattle.law_basic.specs.Segs.{zones_in_is, zones_in_long}
use Rattle.law_basic.specs.Ranges.{up_from_step, up_from_end, below-start}

-- ---- numbers and their widths, written in turn

-- the bytes before field i, and with it
pub total-more : (ws : List ℕ) (i : ℕ) → i < length ws → total (take (suc i) ws) ≡ total (take i ws) + get_or ws i 0
unfolding total
total-more [] i h = absurd (let q : ⊥ = omega arith in q)
total-more (w ∷ ws) zero h = omega arith
total-more (w ∷ ws) (suc i) h = ap (λ (n : ℕ). w + n) (total-more ws i (omega arith)) ∙ sym (add_assoc w (total (take i ws)) (get_or ws i 0))

pub total_within : (ws : List ℕ) (i : ℕ) → total (take i ws) ≤ total ws
unfolding total
total_within [] zero = omega arith
total_within [] (suc i) = omega arith
total_within (w ∷ ws) zero = omega arith
total_within (w ∷ ws) (suc i) = let q = total_within ws i in omega arith

drop-field : (ws vs : List ℕ) (i : ℕ) → i < length ws → length vs ≡ length ws
    → drop i (zipped field ws vs) ≡ field (get_or ws i 0) (get_or vs i 0) ∷ drop (suc i) (zipped field ws vs)
unfolding zipped
drop-field [] vs i h e = absurd (let q : ⊥ = omega arith in q)
drop-field (w ∷ ws) [] i h e = absurd (let q : ⊥ = omega arith in q)
drop-field (w ∷ ws) (v ∷ vs) zero h e = refl
drop-field (w ∷ ws) (v ∷ vs) (suc i) h e = drop-field ws vs i (omega arith) (omega arith)

drop_all : (ws vs : List ℕ) → length vs ≡ length ws → drop (length ws) (zipped field ws vs) ≡ []
unfolding zipped
drop_all [] vs e = refl
drop_all (w ∷ ws) [] e = refl
drop_all (w ∷ ws) (v ∷ vs) e = drop_all ws vs (omega arith)

widths_zipped : (ws vs : List ℕ) → length vs ≡ length ws → widths_of (zipped field ws vs) ≡ ws
unfolding zipped widths_of
widths_zipped [] vs e = refl
widths_zipped (w ∷ ws) [] e = absurd (let q : ⊥ = omega arith in q)
widths_zipped (w ∷ ws) (v ∷ vs) e = ap (λ (l : List ℕ). w ∷ l) (widths_zipped ws vs (omega arith))

-- what remains to be written from l on, field i first, makes what all fields make of l₀ from index o
pub FieldsLeft : List ℕ → List ℕ → ℕ → List ℕ → List ℕ → ℕ → ℕ → Type 0
FieldsLeft ws vs o l₀ l at i = written l 0 at (drop i (zipped field ws vs)) ≡ written l₀ 0 o (zipped field ws vs)

module _ (ws vs : List ℕ) (o : ℕ) (l₀ : List ℕ) (e : length vs ≡ length ws) where
  pub rest_none : FieldsLeft ws vs o l₀ l₀ o 0
  unfolding FieldsLeft
  rest_none = refl

  pub rest_more : (l l' : List ℕ) (at i : ℕ) → i < length ws → FieldsLeft ws vs o l₀ l at i → l' ≡ splice l at (to_be (get_or ws i 0) (get_or vs i 0))
      → FieldsLeft ws vs o l₀ l' (at + get_or ws i 0) (suc i)
  unfolding FieldsLeft
  rest_more l l' at i h r q =
      one_more l l' 0 at (get_or ws i 0) (get_or vs i 0) (drop (suc i) (zipped field ws vs))
      (q ∙ ap (λ (n : ℕ). splice l n (to_be (get_or ws i 0) (get_or vs i 0))) (sym (zero-add at)))
      ∙ ap (written l 0 at) (sym (drop-field ws vs i h e)) ∙ r

  pub rest_all : (l : List ℕ) (at i : ℕ) → i ≡ length ws → o + total ws ≤ length l₀ → FieldsLeft ws vs o l₀ l at i → l ≡ splice l₀ o (bytes_of (zipped field ws vs))
  unfolding FieldsLeft
  rest_all l at i d h r =
      let fs : List Field = zipped field ws vs in
      let n : total (widths_of fs) ≡ total ws = ap total (widths_zipped ws vs e) in
      sym (nothing_more l 0 at) ∙ ap (written l 0 at) (sym (ap (λ (k : ℕ). drop k fs) d ∙ drop_all ws vs e)) ∙ r ∙ written_is l₀ 0 o fs (omega (arith, n))
      ∙ ap (λ (k : ℕ). splice l₀ k (bytes_of fs)) (zero-add o)

-- ---- the zones of a segment, written in turn (02, item 4)

-- four bytes a zone
pub zones_bytes : (zs : List ℕ) → length (bytes_of (map (field 4) zs)) ≡ 4 * length zs
unfolding bytes_of
zones_bytes [] = refl
zones_bytes (z ∷ zs) =
    length-append (to_be 4 z) (bytes_of (map (field 4) zs)) ∙ ap₂ ◌+◌ (length-to_be 4 z) (zones_bytes zs) ∙ omega arith

-- the fields of the zones from drive d on
zones_from : Params → Seg → ℕ → List Field
zones_from p g d = map (field 4) (map (zone_on g) (up_from d (p.N - d)))

zones_step : (p : Params) (g : Seg) (d : ℕ) → d < p.N → zones_from p g d ≡ field 4 (zone_on g d) ∷ zones_from p g (d + 1)
unfolding zones_from
zones_step p g d h = ap (λ (l : List ℕ). map (field 4) (map (zone_on g) l)) (up_from_step d p.N h)

zones_end : (p : Params) (g : Seg) (d : ℕ) → p.N ≤ d → zones_from p g d ≡ []
unfolding zones_from
zones_end p g d h = ap (λ (l : List ℕ). map (field 4) (map (zone_on g) l)) (up_from_end d p.N h)

-- what remains to be written from l on, drive d first, makes what all zones make of l₀
pub ZonesLeft : Params → Seg → List ℕ → List ℕ → ℕ → Type 0
ZonesLeft p g l₀ l d = written l 0 (13 + 4 * d) (zones_from p g d) ≡ written l₀ 0 13 (map (field 4) (zones_in p g))

module _ (p : Params) (g : Seg) (l₀ : List ℕ) where
  pub zones_none : ZonesLeft p g l₀ l₀ 0
  unfolding ZonesLeft zones_from
  zones_none = ap (λ (l : List ℕ). written l₀ 0 13 (map (field 4) (map (zone_on g) l))) (sym (below-start p.N))
      ∙ ap (λ (l : List ℕ). written l₀ 0 13 (map (field 4) l)) (sym (zones_in_is p g))

  pub zones_more : (l l' : List ℕ) (d : ℕ) → d < p.N → ZonesLeft p g l₀ l d → l' ≡ splice l (13 + 4 * d) (to_be 4 (zone_on g d)) → ZonesLeft p g l₀ l' (d + 1)
  unfolding ZonesLeft
  zones_more l l' d h r q =
      let k : 13 + 4 * (d + 1) ≡ 13 + 4 * d + 4 = omega arith in
      ap (λ (n : ℕ). written l' 0 n (zones_from p g (d + 1))) k
      ∙ one_more l l' 0 (13 + 4 * d) 4 (zone_on g d) (zones_from p g (d + 1)) (q ∙ ap (λ (n : ℕ). splice l n (to_be 4 (zone_on g d))) (sym (zero-add (13 + 4 * d))))
      ∙ ap (written l 0 (13 + 4 * d)) (sym (zones_step p g d h)) ∙ r

  pub header_zones_all : (l : List ℕ) (d : ℕ) → p.N ≤ d → header_len p ≤ length l₀ → ZonesLeft p g l₀ l d → l ≡ splice l₀ 13 (bytes_of (map (field 4) (zones_in p g)))
  unfolding ZonesLeft
  header_zones_all l d h long r =
      let fs : List Field = map (field 4) (zones_in p g) in
      let n : total (widths_of fs) ≡ 4 * p.N = sym (length_bytes_of fs) ∙ zones_bytes (zones_in p g) ∙ ap (λ (k : ℕ). 4 * k) (zones_in_long p g) in
      sym (nothing_more l 0 (13 + 4 * d)) ∙ ap (written l 0 (13 + 4 * d)) (sym (zones_end p g d h)) ∙ r
      ∙ written_is l₀ 0 13 fs (omega (arith, n, header_length p, long))

-- ---- head, zones and tail are the header

header_bytes_append : (fs gs : List Field) → bytes_of (fs ++ gs) ≡ bytes_of fs ++ bytes_of gs
unfolding bytes_of
header_bytes_append [] gs = refl
header_bytes_append (f ∷ fs) gs = ap (λ (l : List ℕ). to_be f.width f.value ++ l) (header_bytes_append fs gs) ∙ sym (append_assoc (to_be f.width f.value) (bytes_of fs) (bytes_of gs))

module _ (p : Params) (d : ℕ) (zs : List ℕ) (r c : ℕ) (many : length zs ≡ p.N) where
  abbrev H : List ℕ
  H = bytes_of (head_fields (header_len p) p d)

  abbrev M : List ℕ
  M = bytes_of (map (field 4) zs)

  abbrev T : List ℕ
  T = bytes_of (tail_fields p r c)

  head_long : length H ≡ 13
  unfolding widths_of total
  head_long = length_bytes_of (head_fields (header_len p) p d)

  tail_long : length T ≡ 24
  unfolding widths_of total
  tail_long = length_bytes_of (tail_fields p r c)

  middle_long : length M ≡ 4 * p.N
  middle_long = zones_bytes zs ∙ ap (λ (k : ℕ). 4 * k) many

  parts_are : bytes_of (header_fields p d zs r c) ≡ H ++ (M ++ T)
  parts_are =
      ap bytes_of (header_fields_are p d zs r c) ∙ header_bytes_append (head_fields (header_len p) p d) (map (field 4) zs ++ tail_fields p r c)
      ∙ ap (λ (l : List ℕ). H ++ l) (header_bytes_append (map (field 4) zs) (tail_fields p r c))

  pub three_written : (l l₁ l₂ l₃ : List ℕ) → header_len p ≤ length l → l₁ ≡ splice l 0 H → l₂ ≡ splice l₁ 13 M → l₃ ≡ splice l₂ (13 + 4 * p.N) T
      → l₃ ≡ splice l 0 (bytes_of (header_fields p d zs r c))
  three_written l l₁ l₂ l₃ long e₁ e₂ e₃ =
      let n₁ : length l₁ ≡ length l = ap length e₁ ∙ length-splice l 0 H (omega (arith, head_long, header_length p)) in
      let q : l₃ ≡ splice l₁ 13 (M ++ T) =
      e₃ ∙ ap (λ (x : List ℕ). splice x (13 + 4 * p.N) T) e₂ ∙ ap (λ (k : ℕ). splice (splice l₁ 13 M) k T) (ap (λ (k : ℕ). 13 + k) (sym middle_long))
      ∙ splice_next l₁ 13 M T (omega (arith, n₁, middle_long, tail_long, header_length p)) in
      q ∙ ap (λ (x : List ℕ). splice x 13 (M ++ T)) e₁ ∙ ap (λ (k : ℕ). splice (splice l 0 H) k (M ++ T)) (sym (zero-add (length H) ∙ head_long))
      ∙ splice_next l 0 H (M ++ T) (omega (arith, head_long, middle_long, tail_long, length-append M T, header_length p))
      ∙ ap (splice l 0) (sym parts_are)

-- ---- the header on zeros

pub header_written : (p : Params) → Ranged p → (d : ℕ) (zs : List ℕ) (r c : ℕ) (l : List ℕ) → length zs ≡ p.N
    → l ≡ splice (replicate (unit_len p) 0) 0 (bytes_of (header_fields p d zs r c)) → l ≡ header_block p d zs r c ++ zero_spare
unfolding header_block pad_to zero_spare unit_len
header_written p h d zs r c l many e =
    let n = p.B + spare_len in
    let bs = bytes_of (header_fields p d zs r c) in
    let k = length bs in
    let q : n ≡ k + (p.B - k + spare_len) = omega (arith, header_long p d zs r c many, header_fits p h) in
    let z₁ : drop {A = ℕ} k (replicate n 0) ≡ replicate (p.B - k + spare_len) 0 = ap (λ (i : ℕ). drop k (replicate i 0)) q ∙ drop-replicate k (p.B - k + spare_len) in
    e ∙ splice-zero (replicate n 0) bs ∙ ap (λ (x : List ℕ). bs ++ x) (z₁ ∙ sym (replicate-append-replicate (p.B - k) spare_len 0))
    ∙ sym (append_assoc bs (replicate (p.B - k) 0) (replicate spare_len 0))
  where
    drop-replicate : (i j : ℕ) → ◌≡◌ {A = List ℕ} (drop i (replicate (i + j) 0)) (replicate j 0)
    drop-replicate i j =
        ap (drop i) (sym (replicate-append-replicate i j 0)) ∙ drop_at (replicate i 0) (replicate j 0) i (length-replicate i 0)

-- a block with its spare is the header, in one comparison
pub same_list_append : (a b s t : List ℕ) → length a ≡ length b → same_list (a ++ s) (b ++ t) ≡ (same_list a b && same_list s t)
unfolding same_list
same_list_append [] [] s t h = refl
same_list_append [] (y ∷ b) s t h = absurd (let q : ⊥ = omega arith in q)
same_list_append (x ∷ a) [] s t h = absurd (let q : ⊥ = omega arith in q)
same_list_append (x ∷ a) (y ∷ b) s t h =
    ap (λ (q : Bool). eqb x y && q) (same_list_append a b s t (omega arith)) ∙ sym (and_assoc (eqb x y) (same_list a b) (same_list s t))

pub same_unit : (p : Params) (l b s : List ℕ) → length l ≡ unit_len p → length b ≡ p.B → same_list l (b ++ s) ≡ same_chunk (chunk_of p l) b s
unfolding same_chunk chunk_of unit_len
same_unit p l b s n m =
    let k : length (take p.B l) ≡ length b = length-take-le p.B l (omega arith) ∙ sym m in
    ap (λ (x : List ℕ). same_list x (b ++ s)) (sym (take-append-drop p.B l)) ∙ same_list_append (take p.B l) b (drop p.B l) s k
