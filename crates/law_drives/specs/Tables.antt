-- The tables that the drives say, entry by entry.
use Rattle.std.specs.Prelude.{◌≡◌, Bool, true, not, ◌&&◌, ℕ, zero, suc, ◌+◌, ◌-◌, ◌*◌, ◌/◌, ◌%◌, ◌^◌, ◌≤◌, ◌<◌, length, replicate}
use Rattle.std.proofs.Math.Path.{refl, sym, ap}
use Rattle.std.proofs.Common.{ap₂, ◌∙◌, subst, inl, inr, div-lt_iff_lt-mul, zero-add, mul_comm, suc-mul, zero-mul, mul-le-mul_right, le_trans, le_of_eq, lit<}
use Rattle.std.proofs.Common.{length-append, get_or-append-add, ext_get_or}
use mathlib.Core.List.{List, [], ◌∷◌, ◌++◌, map, append-nil}
use Rattle.std.proofs.Math.Bool.{false, cond}
use Rattle.std.proofs.Math.Nat.{div-add-mod', mul-le-mul, mod-lt, mul_assoc, add-mul}
use Rattle.std.proofs.Math.Decide.{ℕ_discrete}
use borrow.Author.Tests.{eq-eqb, ne_eqb, eqb-true}
use native.Mathlib.Omega.{arith}
use Rattle.std.proofs.Math.Dec.{eqb, ltb}
use Rattle.std.proofs.Math.ListN.{get_or, get_or-append}
use Rattle.std.proofs.lemmas.List.{length-replicate, length-map}
use Rattle.std.proofs.Math.Arith.{digits_lt}
use Rattle.spec.specs.declared.Params.{Params}
use Rattle.spec.specs.Bytes.{be_of, to_be, part}
use Rattle.spec.specs.Drives.{View, zone_at, zone_on, sealed_in, data_stored}
use Rattle.spec.specs.Layout.{compact_entry, Rec, mk_rec}
use Rattle.spec.specs.Lists.{Opt, up_from, below, all, any, cons_if, keep, flat, pad_to, is_in}
use Rattle.spec.specs.Lists.Opt.{none}
use Rattle.spec.specs.Memory.{place_at_of, compact_at}
use Rattle.spec.specs.Params.{addresses_len, compact_len, drives_of, present}
use Rattle.spec.specs.Rank.{Cand, best, place_or, cands_of}
use Rattle.spec.specs.Segments.{low_drive, is_used, serial_in, lowest_bearing, seg_for, leads, gathered, left_by1, is_copy, remaining, Segment, segment_of, segments, recs_on, address_table}
use Rattle.spec.specs.Segments.{compact_row, row_of, compact_table}
use Rattle.law_basic.specs.Be.{length-to_be, be_of-to_be}
use Rattle.law_basic.specs.Ranges.{Test, test, and_left, and_right, length-below, get_d_map, keep-map}
use Rattle.law_basic.specs.Ranges.Test.{yes!, no! }
use Rattle.law_basic.specs.Splice.{length_part, get_d_part}
use Rattle.law_drives.specs.Members.{In, in_map, map_in, in_keep, keep_in, any_in, none_in, flat_cong, flat_nothing, keep-keep, flat_map, from_in, in_below, below_in}
use Rattle.law_drives.specs.Gather.{for_here}
use Rattle.law_drives.specs.Segs.{Here, remaining_once, length_records, recs_here, recs_gone, seg_is}
use Rattle.law_drives.specs.Tests.{clash, cond_true, cond_false, cond_same}
use Rattle.spec.specs.declared.Seg.{Seg}
use Rattle.spec.specs.Segments.{holders}

-- ---- rows of equal length

pub length-flat_in : {A : Type 0} (f : A → List ℕ) (k : ℕ) (l : List A) → ((a : A) → In a l → length (f a) ≡ k) → length (flat f l) ≡ length l * k
unfolding flat
length-flat_in f k [] h = sym (zero-mul k)
length-flat_in f k (a ∷ l) h =
    length-append (f a) (flat f l) ∙ ap₂ ◌+◌ (h a (inl refl)) (length-flat_in f k l (λ b m. h b (inr m)))
    ∙ (let e : suc (length l) * k ≡ length l * k + k = suc-mul (length l) k in omega arith)

get_d_rows : (f : ℕ → List ℕ) (k b n : ℕ) → ((i : ℕ) → b ≤ i → i < b + n → length (f i) ≡ k) → (i j : ℕ) → i < n → j < k
    → get_or (flat f (up_from b n)) (i * k + j) 0 ≡ get_or (f (b + i)) j 0
unfolding flat up_from
get_d_rows f k b zero h i j x y = absurd (let q : ⊥ = omega arith in q)
get_d_rows f k b (suc n) h zero j x y =
    let e : 0 * k + j ≡ j = ap (λ (a : ℕ). a + j) (zero-mul k) ∙ zero-add j in
    let l : length (f b) ≡ k = h b (omega arith) (omega arith) in
    ap (λ (a : ℕ). get_or (f b ++ flat f (up_from (suc b) n)) a 0) e
    ∙ get_or-append (f b) (flat f (up_from (suc b) n)) 0 j (omega arith)
    ∙ ap (λ (a : ℕ). get_or (f a) j 0) (let z : b ≡ b + 0 = omega arith in z)
get_d_rows f k b (suc n) h (suc i) j x y =
    let l : length (f b) ≡ k = h b (omega arith) (omega arith) in
    let e : suc i * k + j ≡ length (f b) + (i * k + j) = omega (arith, suc-mul i k) in
    ap (λ (a : ℕ). get_or (f b ++ flat f (up_from (suc b) n)) a 0) e
    ∙ get_or-append-add (f b) (flat f (up_from (suc b) n)) (i * k + j) 0
    ∙ get_d_rows f k (suc b) n (λ a u w. h a (omega arith) (omega arith)) i j (omega arith) y
    ∙ ap (λ (a : ℕ). get_or (f a) j 0) (let z : suc b + i ≡ b + suc i = omega arith in z)

module _ (f : ℕ → List ℕ) (k n : ℕ) (h : (i : ℕ) → i < n → length (f i) ≡ k) where
  pub get_d_flat : (i j : ℕ) → i < n → j < k → get_or (flat f (below n)) (i * k + j) 0 ≡ get_or (f i) j 0
  unfolding below
  get_d_flat i j x y = get_d_rows f k 0 n (λ a u w. h a (omega arith)) i j x y ∙ ap (λ (a : ℕ). get_or (f a) j 0) (zero-add i)

  pub long_flat : length (flat f (below n)) ≡ n * k
  long_flat = length-flat_in f k (below n) (λ a m. h a (below_in n a m)) ∙ ap (λ (x : ℕ). x * k) (length-below n)

  -- a list of rows, by its elements
  pub flat_ext : (t : List ℕ) → length t ≡ n * k → 0 < k → ((i j : ℕ) → i < n → j < k → get_or t (i * k + j) 0 ≡ get_or (f i) j 0) → t ≡ flat f (below n)
  flat_ext t l z g = ext_get_or 0 t (flat f (below n)) (l ∙ sym long_flat)
      (λ x y.
      let e : x / k * k + x % k ≡ x = div-add-mod' x k in
      let b : x % k < k = mod-lt x z in
      let a : x / k < n = (div-lt_iff_lt-mul z).1 (subst (λ (u : ℕ). x < u) l y) in
      ap (λ (u : ℕ). get_or t u 0) (sym e) ∙ g (x / k) (x % k) a b ∙ sym (get_d_flat (x / k) (x % k) a b) ∙ ap (λ (u : ℕ). get_or (flat f (below n)) u 0) e)

  -- a row
  pub part-flat : (i : ℕ) → i < n → part (i * k) k (flat f (below n)) ≡ f i
  part-flat i x =
      let b : i * k + k ≤ n * k = le_trans (le_of_eq (sym (suc-mul i k))) (mul-le-mul_right k x) in
      let l : length (part (i * k) k (flat f (below n))) ≡ k = length_part (i * k) k (flat f (below n)) (omega (arith, long_flat)) in
      ext_get_or 0 (part (i * k) k (flat f (below n))) (f i) (l ∙ sym (h i x))
      (λ j y. let u : j < k = omega arith in get_d_part (i * k) k (flat f (below n)) j u ∙ get_d_flat i j x u)

-- ---- the address table

pub length_addresses : (p : Params) (cs : List Cand) → length (address_table p cs) ≡ addresses_len p
unfolding address_table addresses_len
length_addresses p cs = long_flat (λ a. to_be 4 (place_or (best none (cands_of a cs)))) 4 p.L (λ i x. length-to_be 4 (place_or (best none (cands_of i cs)))) ∙ mul_comm p.L 4

pub place_at : (p : Params) (cs : List Cand) (a : ℕ) → a < p.L → place_or (best none (cands_of a cs)) < 256 ^ 4
    → place_at_of (address_table p cs) a ≡ place_or (best none (cands_of a cs))
unfolding place_at_of address_table
place_at p cs a h l =
    ap (λ (x : ℕ). be_of (part x 4 (flat (λ a. to_be 4 (place_or (best none (cands_of a cs)))) (below p.L)))) (mul_comm 4 a)
    ∙ ap be_of (part-flat (λ a. to_be 4 (place_or (best none (cands_of a cs)))) 4 p.L (λ i x. length-to_be 4 (place_or (best none (cands_of i cs)))) a h)
    ∙ be_of-to_be 4 (place_or (best none (cands_of a cs))) l

pub addresses_cong : (p : Params) (xs ys : List Cand) → ((a : ℕ) → a < p.L → best none (cands_of a xs) ≡ best none (cands_of a ys)) → address_table p xs ≡ address_table p ys
unfolding address_table
addresses_cong p xs ys h =
    flat_cong (λ a. to_be 4 (place_or (best none (cands_of a xs)))) (λ a. to_be 4 (place_or (best none (cands_of a ys)))) (below p.L)
    (λ a m. ap (λ (o : Opt Cand). to_be 4 (place_or o)) (h a (below_in p.L a m)))

-- a table that holds the right places is the address table
pub addresses_ext : (p : Params) (t : List ℕ) (cs : List Cand) → length t ≡ addresses_len p
    → ((a : ℕ) → a < p.L → part (4 * a) 4 t ≡ to_be 4 (place_or (best none (cands_of a cs)))) → t ≡ address_table p cs
unfolding address_table addresses_len
addresses_ext p t cs l h =
    flat_ext (λ a. to_be 4 (place_or (best none (cands_of a cs)))) 4 p.L (λ i x. length-to_be 4 (place_or (best none (cands_of i cs)))) t (l ∙ mul_comm 4 p.L) (lit< tt)
    (λ i j x y. ap (λ (u : ℕ). get_or t (u + j) 0) (mul_comm i 4) ∙ sym (get_d_part (4 * i) 4 t j y) ∙ ap (λ (u : List ℕ). get_or u j 0) (h i x))

-- ---- the compact table

pub row_long : (p : Params) (rs : List Rec) → length rs ≤ p.S → length (compact_row p rs) ≡ p.S
unfolding compact_row pad_to
row_long p rs h =
    let e = length-map rs (λ (r : Rec). compact_entry p r.stripe) in
    length-append (map (λ (r : Rec). compact_entry p r.stripe) rs) (replicate (p.S - length (map (λ (r : Rec). compact_entry p r.stripe) rs)) 0)
    ∙ ap (λ (x : ℕ). length (map (λ (r : Rec). compact_entry p r.stripe) rs) + x) (length-replicate (p.S - length (map (λ (r : Rec). compact_entry p r.stripe) rs)) 0)
    ∙ omega (arith, e)

pub row_at : (p : Params) (rs : List Rec) (o : ℕ) → o < length rs → get_or (compact_row p rs) o 0 ≡ compact_entry p (get_or rs o (mk_rec 0 0 0)).stripe
unfolding compact_row pad_to
row_at p rs o h =
    let f : Rec → ℕ = λ (r : Rec). compact_entry p r.stripe in
    get_or-append (map f rs) (replicate (p.S - length (map f rs)) 0) 0 o (subst (λ (x : ℕ). o < x) (sym (length-map rs f)) h)
    ∙ get_d_map f rs o 0 (mk_rec 0 0 0) h

pub zero-at : (n i : ℕ) → ◌≡◌ {A = ℕ} (get_or (replicate n 0) i 0) 0
zero-at zero i = refl
zero-at (suc n) zero = refl
zero-at (suc n) (suc i) = zero-at n i

pub row_past : (p : Params) (rs : List Rec) (o : ℕ) → length rs ≤ o → get_or (compact_row p rs) o 0 ≡ 0
unfolding compact_row pad_to
row_past p rs o h =
    let f : Rec → ℕ = λ (r : Rec). compact_entry p r.stripe in
    let l : length (map f rs) ≡ length rs = length-map rs f in
    let e : o ≡ length (map f rs) + (o - length rs) = omega arith in
    ap (λ (x : ℕ). get_or (map f rs ++ replicate (p.S - length (map f rs)) 0) x 0) e
    ∙ get_or-append-add (map f rs) (replicate (p.S - length (map f rs)) 0) (o - length rs) 0
    ∙ zero-at (p.S - length (map f rs)) (o - length rs)

-- a table by drive, zone and offset
unfoldable pub grid_of : Params → (ℕ → ℕ → List ℕ) → List ℕ
grid_of p f = flat (λ d. flat (λ z. f d z) (below p.Z)) (below p.N)

module _ (p : Params) (f : ℕ → ℕ → List ℕ) (h : (d z : ℕ) → d < p.N → z < p.Z → length (f d z) ≡ p.S) where
  drive_row : (d : ℕ) → d < p.N → length (flat (λ z. f d z) (below p.Z)) ≡ p.Z * p.S
  drive_row d x = long_flat (λ z. f d z) p.S p.Z (λ z y. h d z x y)

  pub grid_long : length (grid_of p f) ≡ compact_len p
  unfolding grid_of compact_len
  grid_long = long_flat (λ d. flat (λ z. f d z) (below p.Z)) (p.Z * p.S) p.N drive_row ∙ sym (mul_assoc p.N p.Z p.S)

  cell_is : (d z o : ℕ) → compact_at p d z o ≡ d * (p.Z * p.S) + (z * p.S + o)
  unfolding compact_at
  cell_is d z o =
      let e : (d * p.Z + z) * p.S ≡ d * p.Z * p.S + z * p.S = add-mul (d * p.Z) z p.S in
      let g : d * p.Z * p.S ≡ d * (p.Z * p.S) = mul_assoc d p.Z p.S in
      omega arith

  row_cell-low : (z o : ℕ) → z < p.Z → o < p.S → z * p.S + o < p.Z * p.S
  row_cell-low z o x y = digits_lt x y

  pub grid_at : (d z o : ℕ) → d < p.N → z < p.Z → o < p.S → get_or (grid_of p f) (compact_at p d z o) 0 ≡ get_or (f d z) o 0
  unfolding grid_of
  grid_at d z o hd hz ho =
      ap (λ (x : ℕ). get_or (flat (λ d. flat (λ z. f d z) (below p.Z)) (below p.N)) x 0) (cell_is d z o)
      ∙ get_d_flat (λ d. flat (λ z. f d z) (below p.Z)) (p.Z * p.S) p.N drive_row d (z * p.S + o) hd (row_cell-low z o hz ho)
      ∙ get_d_flat (λ z. f d z) p.S p.Z (λ z y. h d z hd y) z o hz ho

  pub grid_ext : (t : List ℕ) → length t ≡ compact_len p → 0 < p.S → 0 < p.Z
      → ((d z o : ℕ) → d < p.N → z < p.Z → o < p.S → get_or t (compact_at p d z o) 0 ≡ get_or (f d z) o 0) → t ≡ grid_of p f
  unfolding grid_of compact_len
  grid_ext t l hs hz g =
      flat_ext (λ d. flat (λ z. f d z) (below p.Z)) (p.Z * p.S) p.N drive_row t (l ∙ mul_assoc p.N p.Z p.S) (let w : 1 * 1 ≤ p.Z * p.S = mul-le-mul hz hs in w)
      (λ d j x y.
      let e : j / p.S * p.S + j % p.S ≡ j = div-add-mod' j p.S in
      let b : j % p.S < p.S = mod-lt j hs in
      let a : j / p.S < p.Z = (div-lt_iff_lt-mul hs).1 y in
      ap (λ (u : ℕ). get_or t (d * (p.Z * p.S) + u) 0) (sym e) ∙ ap (λ (u : ℕ). get_or t u 0) (sym (cell_is d (j / p.S) (j % p.S)))
      ∙ g d (j / p.S) (j % p.S) x a b
      ∙ sym (get_d_flat (λ z. f d z) p.S p.Z (λ z w. h d z x w) (j / p.S) (j % p.S) a b)
      ∙ ap (λ (u : ℕ). get_or (flat (λ z. f d z) (below p.Z)) u 0) e)

-- ---- which segments remain, by their zones on the lowest present drive

-- the segment of a zone of that drive
unfoldable pub seg_at : Params → View → ℕ → ℕ → Seg
seg_at p v gone z = seg_for p v gone (serial_in p v (low_drive p gone) z)

unfoldable pub remains_at : Params → View → ℕ → ℕ → Bool
remains_at p v gone z =
    (leads p v (low_drive p gone) z && all (λ d. ltb (zone_on (seg_at p v gone z) d) p.Z) (present p gone)) && not (is_copy p v (low_drive p gone) (left_by1 p v gone) (seg_at p v gone z))

pub remaining_is : (p : Params) (v : View) (gone : ℕ) → remaining p v gone ≡ map (seg_at p v gone) (keep (remains_at p v gone) (below p.Z))
unfolding remaining left_by1 gathered remains_at seg_at
remaining_is p v gone =
    let low = low_drive p gone in
    let s : ℕ → Seg = λ z. seg_for p v gone (serial_in p v low z) in
    let l : Seg → Bool = λ g. all (λ d. ltb (zone_on g d) p.Z) (present p gone) in
    let c : Seg → Bool = λ g. not (is_copy p v low (keep l (map s (keep (leads p v low) (below p.Z)))) g) in
    ap (keep c) (keep-map l s (keep (leads p v low) (below p.Z)))
    ∙ keep-map c s (keep (λ z. l (s z)) (keep (leads p v low) (below p.Z)))
    ∙ ap (λ (x : List ℕ). map s (keep (λ z. c (s z)) x)) (keep-keep (λ z. l (s z)) (leads p v low) (below p.Z))
    ∙ ap (map s) (keep-keep (λ z. c (s z)) (λ z. leads p v low z && l (s z)) (below p.Z))

module _ (p : Params) (v : View) (gone : ℕ) (here : Here p gone) where
  abbrev low : ℕ
  low = low_drive p gone

  -- its zone there
  pub seg-at_zone : (z : ℕ) → leads p v low z ≡ true → zone_on (seg_at p v gone z) low ≡ z
  unfolding seg_at leads
  seg-at_zone z t =
      for_here p v gone (serial_in p v low z) low here.0 here.1
      ∙ eqb-true (lowest_bearing p v low (serial_in p v low z)) z (and_right (is_used p v low z) (eqb (lowest_bearing p v low (serial_in p v low z)) z) t)

  -- a zone at which a segment remains
  pub record At (g : Seg) : Type 0 where
    pub zone : ℕ
    pub zone_low : zone < p.Z
    pub it_remains : remains_at p v gone zone ≡ true
    pub it_leads : leads p v low zone ≡ true
    pub it_is : g ≡ seg_at p v gone zone

  leads_of : (z : ℕ) → remains_at p v gone z ≡ true → leads p v low z ≡ true
  unfolding remains_at
  leads_of z q =
      let l = all (λ d. ltb (zone_on (seg_at p v gone z) d) p.Z) (present p gone) in
      and_left (leads p v low z) l (and_left (leads p v low z && l) (not (is_copy p v low (left_by1 p v gone) (seg_at p v gone z))) q)

  pub remaining-at : (g : Seg) → In g (remaining p v gone) → At g
  remaining-at g m =
      let (z, i, e) = map_in (seg_at p v gone) (keep (remains_at p v gone) (below p.Z)) g (subst (λ (l : List Seg). In g l) (remaining_is p v gone) m) in
      let (j, q) = keep_in (remains_at p v gone) (below p.Z) z i in
      record { zone = z; zone_low = below_in p.Z z j; it_remains = q; it_leads = leads_of z q; it_is = e }

  pub at-remaining : (z : ℕ) → z < p.Z → remains_at p v gone z ≡ true → In (seg_at p v gone z) (remaining p v gone)
  at-remaining z l q = subst (λ (x : List Seg). In (seg_at p v gone z) x) (sym (remaining_is p v gone))
      (in_map (seg_at p v gone) (keep (remains_at p v gone) (below p.Z)) z (in_keep (remains_at p v gone) (below p.Z) z (in_below p.Z z l) q))

-- ---- the row of a zone

one_row : {B : Type 0} (h : ℕ → Bool) (f : ℕ → List B) (z i n : ℕ) → z < i → flat (λ g. cond (eqb g z) (f g) []) (keep h (up_from i n)) ≡ []
one_row h f z i n l = flat_nothing (λ g. cond (eqb g z) (f g) []) (keep h (up_from i n))
    (λ g m.
    let (k, q) = keep_in h (up_from i n) g m in
    let (a, b) = from_in i n g k in
    cond_false (eqb g z) (f g) [] (ne_eqb g z (λ e. let x : ⊥ = omega arith in x)))

pub the_row : {B : Type 0} (h : ℕ → Bool) (f : ℕ → List B) (z i n : ℕ) → i ≤ z → z < i + n → flat (λ g. cond (eqb g z) (f g) []) (keep h (up_from i n)) ≡ cond (h z) (f z) []
unfolding keep cons_if up_from flat
the_row h f z i zero a b = absurd (let q : ⊥ = omega arith in q)
the_row {B} h f z i (suc n) a b = go (ℕ_discrete i z) (test (h i)) (the_row h f z (suc i) n)
  where
    go : Dec (i ≡ z) → Test (h i) → (suc i ≤ z → z < suc i + n → flat (λ g. cond (eqb g z) (f g) []) (keep h (up_from (suc i) n)) ≡ cond (h z) (f z) [])
        → flat (λ g. cond (eqb g z) (f g) []) (cons_if (h i) i (keep h (up_from (suc i) n))) ≡ cond (h z) (f z) []
    go (yes e) (yes! q) ih =
        let t : h z ≡ true = ap h (sym e) ∙ q in
        rw (q, t) (ap₂ ◌++◌ (cond_true (eqb i z) (f i) [] (eq-eqb i z e) ∙ ap f e) (one_row h f z (suc i) n (omega arith)) ∙ append-nil (f z))
    go (yes e) (no! q) ih =
        let t : h z ≡ false = ap h (sym e) ∙ q in
        rw (q, t) (one_row h f z (suc i) n (omega arith))
    go (no e) (yes! q) ih =
        rw q (ap (λ (x : List B). x ++ flat (λ g. cond (eqb g z) (f g) []) (keep h (up_from (suc i) n))) (cond_false (eqb i z) (f i) [] (ne_eqb i z e)) ∙ ih (omega arith) (omega arith))
    go (no e) (no! q) ih = rw q (ih (omega arith) (omega arith))

pub length_recs : (p : Params) (v : View) (gone : ℕ) (g : Seg) (d : ℕ) → d < p.N → length (recs_on (segment_of p v gone g) d) ≤ p.S
unfolding data_stored
length_recs p v gone g d h = go (test (is_in gone d))
  where
    go : Test (is_in gone d) → length (recs_on (segment_of p v gone g) d) ≤ p.S
    go (yes! q) = le_trans (le_of_eq (ap length (recs_gone p v gone g d h q))) (omega arith)
    go (no! q) = le_trans (le_of_eq (ap length (recs_here p v gone g d h q) ∙ length_records p (sealed_in p v gone g) (zone_at v d (zone_on g d)))) (omega arith)

-- those that pass, as a list for each
keep-flat-one : {A : Type 0} (k : A → Bool) (l : List A) → keep k l ≡ flat (λ (x : A). cond (k x) (x ∷ []) []) l
unfolding keep flat
keep-flat-one k [] = refl
keep-flat-one {A} k (a ∷ l) = go (k a) (keep-flat-one k l)
  where
    go : (b : Bool) → keep k l ≡ flat (λ (x : A). cond (k x) (x ∷ []) []) l → cons_if b a (keep k l) ≡ cond b (a ∷ []) [] ++ flat (λ (x : A). cond (k x) (x ∷ []) []) l
    go true e = unfold cons_if in ap (λ (x : List A). a ∷ x) e
    go false e = unfold cons_if in e

-- of a list for each segment that remains, that of the one with a given zone on a present drive
module _ (p : Params) (v : View) (gone : ℕ) (here : Here p gone) where
  pub seg_row : {B : Type 0} (f : Seg → List B) (d : ℕ) (g : Seg) → In g (remaining p v gone) → ((h : Seg) → In h (remaining p v gone) → zone_on h d ≡ zone_on g d → h ≡ g)
      → flat (λ (x : Seg). cond (eqb (zone_on x d) (zone_on g d)) (f x) []) (remaining p v gone) ≡ f g
  seg_row {B} f d g m once =
      let a = remaining-at p v gone here g m in
      let z = a.zone in
      let row : Seg → List B = λ (x : Seg). cond (eqb (zone_on x d) (zone_on g d)) (f x) [] in
      let ks = keep (remains_at p v gone) (below p.Z) in
      let one : flat (λ i. cond (eqb i z) (f (seg_at p v gone i)) []) ks ≡ cond (remains_at p v gone z) (f (seg_at p v gone z)) [] =
      unfold below in the_row (remains_at p v gone) (λ i. f (seg_at p v gone i)) z 0 p.Z (omega arith) (let l = a.zone_low in omega arith) in
      ap (flat row) (remaining_is p v gone)
      ∙ flat_map row (seg_at p v gone) ks
      ∙ flat_cong (λ i. row (seg_at p v gone i)) (λ i. cond (eqb i z) (f (seg_at p v gone i)) []) ks (λ i n. ap (λ (b : Bool). cond b (f (seg_at p v gone i)) []) (same a i n))
      ∙ one
      ∙ cond_true (remains_at p v gone z) (f (seg_at p v gone z)) [] a.it_remains
      ∙ ap f (sym a.it_is)
    where
      same : (a : At p v gone here g) (i : ℕ) → In i (keep (remains_at p v gone) (below p.Z)) → eqb (zone_on (seg_at p v gone i) d) (zone_on g d) ≡ eqb i a.zone
      same a i n = go (ℕ_discrete i a.zone)
        where
          in! : (i < p.Z) × (remains_at p v gone i ≡ true)
          in! = let (j, q) = keep_in (remains_at p v gone) (below p.Z) i n in (below_in p.Z i j, q)

          go : Dec (i ≡ a.zone) → eqb (zone_on (seg_at p v gone i) d) (zone_on g d) ≡ eqb i a.zone
          go (yes e) = eq-eqb (zone_on (seg_at p v gone i) d) (zone_on g d) (ap (λ (x : Seg). zone_on x d) (ap (seg_at p v gone) e ∙ sym a.it_is)) ∙ sym (eq-eqb i a.zone e)
          go (no x) = ne_eqb (zone_on (seg_at p v gone i) d) (zone_on g d)
              (λ e. x (sym (seg-at_zone p v gone here i (leads! i in!.1))
              ∙ ap (λ (y : Seg). zone_on y (low_drive p gone)) (once (seg_at p v gone i) (at-remaining p v gone here i in!.0 in!.1) e ∙ a.it_is)
              ∙ seg-at_zone p v gone here a.zone a.it_leads))
              ∙ sym (ne_eqb i a.zone x)
            where
              leads! : (i : ℕ) → remains_at p v gone i ≡ true → leads p v (low_drive p gone) i ≡ true
              leads! i q = leads_of p v gone here i q

  abbrev rows : ℕ → ℕ → List Rec
  rows d z = row_of p (segments p v gone) d z

  by_segs : (d z : ℕ) → rows d z ≡ flat (λ x. cond (eqb (zone_on x d) z) (recs_on (segment_of p v gone x) d) []) (remaining p v gone)
  unfolding row_of segments
  by_segs d z =
      flat_map (λ (x : Segment). cond (eqb (zone_on x.seg d) z) (recs_on x d) []) (segment_of p v gone) (remaining p v gone)
      ∙ flat_cong (λ x. cond (eqb (zone_on (segment_of p v gone x).seg d) z) (recs_on (segment_of p v gone x) d) [])
      (λ x. cond (eqb (zone_on x d) z) (recs_on (segment_of p v gone x) d) []) (remaining p v gone)
      (λ x m. ap (λ (y : Seg). cond (eqb (zone_on y d) z) (recs_on (segment_of p v gone x) d) []) (seg_is p v gone x))

  -- the records of a segment's zone on a present drive
  pub row_seg_holds : (d : ℕ) (g : Seg) → d < p.N → is_in gone d ≡ false → In g (remaining p v gone) → row_of p (segments p v gone) d (zone_on g d) ≡ recs_on (segment_of p v gone g) d
  row_seg_holds d g k pr m = by_segs d (zone_on g d) ∙ seg_row (λ x. recs_on (segment_of p v gone x) d) d g m (λ h n e. remaining_once p v gone here h g d n m k pr e)

  -- the one segment with its zone on a drive
  pub one_holder : (d : ℕ) (g : Seg) → In g (remaining p v gone) → ((h : Seg) → In h (remaining p v gone) → zone_on h d ≡ zone_on g d → h ≡ g)
      → holders p v gone d (zone_on g d) ≡ g ∷ []
  unfolding holders
  one_holder d g m once = keep-flat-one (λ x. eqb (zone_on x d) (zone_on g d)) (remaining p v gone) ∙ seg_row (λ x. x ∷ []) d g m once

  -- a zone that no remaining segment has
  pub row_none : (d z : ℕ) → ((g : Seg) → In g (remaining p v gone) → zone_on g d ≡ z → ⊥) → row_of p (segments p v gone) d z ≡ []
  row_none d z n = by_segs d z ∙ flat_nothing (λ x. cond (eqb (zone_on x d) z) (recs_on (segment_of p v gone x) d) []) (remaining p v gone)
      (λ x m. cond_false (eqb (zone_on x d) z) (recs_on (segment_of p v gone x) d) [] (ne_eqb (zone_on x d) z (n x m)))

  -- a missing drive's rows are empty
  pub row_gone : (d z : ℕ) → d < p.N → is_in gone d ≡ true → row_of p (segments p v gone) d z ≡ []
  row_gone d z h q = by_segs d z ∙ flat_nothing (λ x. cond (eqb (zone_on x d) z) (recs_on (segment_of p v gone x) d) []) (remaining p v gone)
      (λ x m. ap (λ (l : List Rec). cond (eqb (zone_on x d) z) l []) (recs_gone p v gone x d h q) ∙ cond_same (eqb (zone_on x d) z) [])

  -- its records are of stored blocks
  pub row_low : (d z : ℕ) → d < p.N → length (row_of p (segments p v gone) d z) ≤ p.S
  row_low d z h = go (test (is_in gone d)) (test (any (λ g. eqb (zone_on g d) z) (remaining p v gone)))
    where
      go : Test (is_in gone d) → Test (any (λ g. eqb (zone_on g d) z) (remaining p v gone)) → length (row_of p (segments p v gone) d z) ≤ p.S
      go (yes! q) e = subst (λ (l : List Rec). length l ≤ p.S) (sym (row_gone d z h q)) (omega arith)
      go (no! q) (yes! e) =
          let (g, m, s) = any_in (λ g. eqb (zone_on g d) z) (remaining p v gone) e in
          subst (λ (n : ℕ). length (row_of p (segments p v gone) d n) ≤ p.S) (eqb-true (zone_on g d) z s)
          (subst (λ (l : List Rec). length l ≤ p.S) (sym (row_seg_holds d g h q m)) (length_recs p v gone g d h))
      go (no! q) (no! e) =
          subst (λ (l : List Rec). length l ≤ p.S) (sym (row_none d z (λ g m s. clash (eq-eqb (zone_on g d) z s) (none_in (λ g. eqb (zone_on g d) z) (remaining p v gone) e g m)))) (omega arith)

  -- ---- the compact table, by rows

  pub compact_is : compact_table p (segments p v gone) ≡ grid_of p (λ d z. compact_row p (row_of p (segments p v gone) d z))
  unfolding compact_table drives_of grid_of
  compact_is = refl

  pub compact_row_long : (d z : ℕ) → d < p.N → z < p.Z → length (compact_row p (row_of p (segments p v gone) d z)) ≡ p.S
  compact_row_long d z hd hz = row_long p (row_of p (segments p v gone) d z) (row_low d z hd)

  pub length_compact : length (compact_table p (segments p v gone)) ≡ compact_len p
  length_compact = ap length compact_is ∙ grid_long p (λ d z. compact_row p (row_of p (segments p v gone) d z)) compact_row_long

  pub compact_at_holds : (d z o : ℕ) → d < p.N → z < p.Z → o < p.S
      → get_or (compact_table p (segments p v gone)) (compact_at p d z o) 0 ≡ get_or (compact_row p (row_of p (segments p v gone) d z)) o 0
  compact_at_holds d z o hd hz ho =
      ap (λ (x : List ℕ). get_or x (compact_at p d z o) 0) compact_is ∙ grid_at p (λ d z. compact_row p (row_of p (segments p v gone) d z)) compact_row_long d z o hd hz ho

-- the compact table is the same where the rows are
pub compact_rows : (p : Params) (v u : View) (gone : ℕ) → ((d z : ℕ) → d < p.N → z < p.Z → row_of p (segments p v gone) d z ≡ row_of p (segments p u gone) d z)
    → compact_table p (segments p v gone) ≡ compact_table p (segments p u gone)
unfolding compact_table drives_of
compact_rows p v u gone f = grid! (λ d z hd hz. ap (compact_row p) (f d z hd hz))
  where
    grid! : ((d z : ℕ) → d < p.N → z < p.Z → compact_row p (row_of p (segments p v gone) d z) ≡ compact_row p (row_of p (segments p u gone) d z))
        → flat (λ d. flat (λ z. compact_row p (row_of p (segments p v gone) d z)) (below p.Z)) (below p.N)
        ≡ flat (λ d. flat (λ z. compact_row p (row_of p (segments p u gone) d z)) (below p.Z)) (below p.N)
    grid! h = flat_cong (λ d. flat (λ z. compact_row p (row_of p (segments p v gone) d z)) (below p.Z))
        (λ d. flat (λ z. compact_row p (row_of p (segments p u gone) d z)) (below p.Z)) (below p.N)
        (λ d m. flat_cong (λ z. compact_row p (row_of p (segments p v gone) d z)) (λ z. compact_row p (row_of p (segments p u gone) d z)) (below p.Z)
        (λ z n. h d z (below_in p.N d m) (below_in p.Z z n)))
