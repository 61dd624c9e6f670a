-- What the bytes say of headers and zones, and what flags and serials say of the segments that remain (01, Restart, 1 and 2; 02, item 4). Assumes nothing.
use Rattle.std.specs.Prelude.{◌≡◌, List, ◌++◌, map, Bool, cond, ◌&&◌, length, set, replicate}
use Rattle.std.proofs.Math.Path.{sym, ap}
use Rattle.std.proofs.Common.{subst, ◌∙◌, append-nil, suc-mul, add-mul, add-one, arith, get_or-set_same, get_or-set_other, ext_get_or}
use Rattle.std.proofs.Math.Bool.{true, false, not}
use Prim.Native.Nat.{ℕ, ◌+◌, ◌-◌, ◌*◌, ◌≤◌, ◌<◌}
use Rattle.std.proofs.Math.Decide.{ℕ_discrete, dec_lt}
use Rattle.std.proofs.Math.Arith.{lt_of_le-ne}
use borrow.Author.Tests.{eq-eqb, ne_eqb, eqb-true, lt-ltb, le-ltb, ltb-true}
use Rattle.std.proofs.Math.Dec.{eqb, ltb}
use Rattle.std.proofs.Math.ListN.{get_or}
use Rattle.std.proofs.lemmas.List.{length-map}
use Rattle.spec.specs.declared.Params.{Params}
use Rattle.spec.specs.declared.Seg.{Seg}
use Rattle.spec.specs.Bytes.{part, splice}
use Rattle.spec.specs.Drives.{View, view_of, mk_disk, chunk_at, pointer_of, is_good, zone_on, same_seg, seg}
use Rattle.spec.specs.Layout.{header_serial, header_copied}
use Rattle.spec.specs.Lists.{up_from, below, all, any, keep, first_or, pad_to}
use Rattle.spec.specs.Params.{capacity, unit_len, zone_len, image_len, pointers_len, place_of, place_byte, present}
use Rattle.spec.specs.Segments.{low_drive, is_used, serial_in, lowest_bearing, zone_for, seg_for, leads, gathered, header_at, left_by1, is_copy, remaining}
use Rattle.law_basic.specs.Geometry.{Ranged, capacity-low, image_high, block_within}
use Rattle.law_basic.specs.Ranges.{Test, test, keep-below_same, and_left, and_right, and_both, up_from_step, up_from_end, below-start}
use Rattle.law_basic.specs.Ranges.{keep_hit, keep_miss, keep_none, keep-map, length-below, get_d_map-below, any-map}
use Rattle.law_basic.specs.Ranges.Test.{yes!, no! }
use Rattle.law_basic.specs.Segs.{seg_same, seg-other, filled_to, with_zones_long}
use Rattle.law_basic.specs.Splice.{length_part, get_d_part, part-splice, part-splice-below, part-splice_above}
use Rattle.law_views.specs.Views.{pointer_view, block_view}
use Rattle.law_scans.specs.Scans.{any-keep}
use Rattle.law_drives.specs.Gather.{borne}
use Rattle.law_drives.specs.Members.{In, keep_in, map_cong, any_in, in_any, any_cong, keep-keep, in_below, below_in}
use Rattle.law_drives.specs.Segs.{Here}
use Rattle.law_drives.specs.Tables.{seg_at, remains_at, seg-at_zone, remaining_is}
use Rattle.law_drives.specs.Tests.{clash, and_false_left, and_false_right, same_test, cond_true, cond_false}
use Rattle.disk_gather.specs.Flags.{left_at, Serials, LeftFlags, Keeps, FlagsRows, other_left}

-- ---- lists

-- the first of those that pass, or m, from i on
module _ (f : ℕ → Bool) (m i n : ℕ) where
  pub lowest_turn : i < n → f i ≡ true → first_or m (keep f (up_from i (n - i))) ≡ i
  unfolding first_or
  lowest_turn h e = ap (first_or m) (ap (keep f) (up_from_step i n h) ∙ keep_hit f i (up_from (i + 1) (n - (i + 1))) e)

  pub lowest_pass : i < n → f i ≡ false → first_or m (keep f (up_from i (n - i))) ≡ first_or m (keep f (up_from (i + 1) (n - (i + 1))))
  lowest_pass h e = ap (first_or m) (ap (keep f) (up_from_step i n h) ∙ keep_miss f i (up_from (i + 1) (n - (i + 1))) e)

  pub lowest_end : n ≤ i → first_or m (keep f (up_from i (n - i))) ≡ m
  unfolding first_or
  lowest_end h = ap (first_or m) (ap (keep f) (up_from_end i n h) ∙ keep_none f)

pub lowest_start : (f : ℕ → Bool) (m n : ℕ) → first_or m (keep f (up_from 0 (n - 0))) ≡ first_or m (keep f (below n))
lowest_start f m n = ap (first_or m) (ap (keep f) (sym (below-start n)))

-- an array filled up to i, and one more
pub set_more : {A : Type 0} (l : List A) (i : ℕ) (x d : A) (f : ℕ → A) → i < length l → ((j : ℕ) → j < i → get_or l j d ≡ f j) → x ≡ f i
    → (j : ℕ) → j < i + 1 → get_or (set l i x) j d ≡ f j
set_more {A} l i x d f h s e j k = go (ℕ_discrete j i)
  where
    go : Dec (j ≡ i) → get_or (set l i x) j d ≡ f j
    go (yes q) = ap (λ (m : ℕ). get_or (set l i x) m d) q ∙ get_or-set_same l i x d h ∙ e ∙ ap f (sym q)
    go (no q) = get_or-set_other l i j x d q ∙ s j (omega arith)

-- ---- by the bytes

pub block_in_unit : (p : Params) → p.B ≤ unit_len p
unfolding unit_len
block_in_unit p = omega arith

module _ (p : Params) (off im ps : List ℕ) (h : length im ≡ image_len p) (k : length ps ≡ pointers_len p) (d z : ℕ) (hd : d < p.N) (hz : z < p.Z) where
  pub head_bytes : Ranged p → (chunk_at (view_of p off im ps) d z 0).block ≡ part (place_byte p (place_of p d z 0)) p.B im
  head_bytes r = block_view p off (mk_disk im ps) d z hd hz (record { image_long = h; pointers_long = k }) 0 (let x = capacity-low p r in omega (arith, x))

  pub used_bytes : is_used p (view_of p off im ps) d z ≡ (is_good p off d z && not (eqb (pointer_of p ps d z) 0))
  unfolding is_used view_of
  used_bytes = ap (λ (n : ℕ). is_good p off d z && not (eqb n 0)) (pointer_view p off (mk_disk im ps) d z hd hz (record { image_long = h; pointers_long = k }))

  pub serial_bytes : Ranged p → (at : ℕ) → at ≡ place_byte p (place_of p d z 0) → header_serial p (part at p.B im) ≡ serial_in p (view_of p off im ps) d z
  unfolding serial_in
  serial_bytes r at e = ap (header_serial p) (ap (λ (n : ℕ). part n p.B im) e ∙ sym (head_bytes r))

-- from header to header of a drive it is a zone's length
pub head_step : (p : Params) (d z : ℕ) → place_byte p (place_of p d (z + 1) 0) ≡ place_byte p (place_of p d z 0) + zone_len p
unfolding place_byte place_of zone_len
head_step p d z =
    let x = d * p.Z + z in
    let e : d * p.Z + (z + 1) ≡ x + 1 = omega arith in
    let f : (x + 1) * capacity p ≡ x * capacity p + capacity p = ap (λ (k : ℕ). k * capacity p) (add-one x) ∙ suc-mul x (capacity p) in
    let g : (d * p.Z + (z + 1)) * capacity p + 0 ≡ (x * capacity p + 0) + capacity p = ap (λ (k : ℕ). k * capacity p + 0) e ∙ omega (arith, f) in
    ap (λ (k : ℕ). k * unit_len p) g ∙ add-mul (x * capacity p + 0) (capacity p) (unit_len p)

pub head_back : (p : Params) (d z : ℕ) → 0 < z → place_byte p (place_of p d z 0) ≡ place_byte p (place_of p d (z - 1) 0) + zone_len p
head_back p d z h = let e : z ≡ z - 1 + 1 = omega arith in ap (λ (k : ℕ). place_byte p (place_of p d k 0)) e ∙ head_step p d (z - 1)

-- a header lies within the image
pub found_header_room : (p : Params) (d z at : ℕ) (im : List ℕ) → Ranged p → d < p.N → z < p.Z → at ≡ place_byte p (place_of p d z 0) → length im ≡ image_len p
    → (at + unit_len p ≤ length im) × (at ≤ 2946336325632)
found_header_room p d z at im r hd hz e l =
    let c : 0 < capacity p = let x = capacity-low p r in omega (arith, x) in
    let w = block_within p d z 0 hd hz c in
    let i = image_high p r in
    (omega (arith, w, e, l), omega (arith, w, e, i))

-- ---- the segments left by 1, by their zones on the lowest present drive

pub left_list : (p : Params) (v : View) (gone : ℕ) → left_by1 p v gone ≡ map (seg_at p v gone) (keep (left_at p v gone) (below p.Z))
unfolding left_by1 gathered left_at seg_at
left_list p v gone =
    let low = low_drive p gone in
    let s : ℕ → Seg = λ z. seg_for p v gone (serial_in p v low z) in
    let l : Seg → Bool = λ g. all (λ d. ltb (zone_on g d) p.Z) (present p gone) in
    keep-map l s (keep (leads p v low) (below p.Z)) ∙ ap (map s) (keep-keep (λ z. l (s z)) (leads p v low) (below p.Z))

pub left_leads : (p : Params) (v : View) (gone z : ℕ) → left_at p v gone z ≡ true → leads p v (low_drive p gone) z ≡ true
unfolding left_at
left_leads p v gone z e = and_left (leads p v (low_drive p gone) z) (all (λ d. ltb (zone_on (seg_at p v gone z) d) p.Z) (present p gone)) e

-- the zone at which one leads is the lowest that bears its serial
pub lead_lowest : (p : Params) (v : View) (d z : ℕ) → leads p v d z ≡ true → lowest_bearing p v d (serial_in p v d z) ≡ z
unfolding leads
lead_lowest p v d z t = eqb-true (lowest_bearing p v d (serial_in p v d z)) z (and_right (is_used p v d z) (eqb (lowest_bearing p v d (serial_in p v d z)) z) t)

module _ (p : Params) (v : View) (gone : ℕ) (here : Here p gone) where
  abbrev low : ℕ
  low = low_drive p gone

  -- two that lead are one segment just if their zones there are one
  same_lead : (h z : ℕ) → leads p v low h ≡ true → leads p v low z ≡ true → same_seg (seg_at p v gone h) (seg_at p v gone z) ≡ eqb h z
  same_lead h z a b = go (ℕ_discrete h z)
    where
      go : Dec (h ≡ z) → same_seg (seg_at p v gone h) (seg_at p v gone z) ≡ eqb h z
      go (yes q) = seg_same (seg_at p v gone h) (seg_at p v gone z) (ap (seg_at p v gone) q) ∙ sym (eq-eqb h z q)
      go (no q) = seg-other (seg_at p v gone h) (seg_at p v gone z)
          (λ e. q (sym (seg-at_zone p v gone here h a) ∙ ap (λ (g : Seg). zone_on g low) e ∙ seg-at_zone p v gone here z b)) ∙ sym (ne_eqb h z q)

  -- the header of one that leads
  lead_head : (z : ℕ) → leads p v low z ≡ true → header_at v low (seg_at p v gone z) ≡ (chunk_at v low z 0).block
  unfolding header_at
  lead_head z a = ap (λ (n : ℕ). (chunk_at v low n 0).block) (seg-at_zone p v gone here z a)

  lead_serial : (z : ℕ) → leads p v low z ≡ true → header_serial p (header_at v low (seg_at p v gone z)) ≡ serial_in p v low z
  unfolding serial_in
  lead_serial z a = ap (header_serial p) (lead_head z a)

  -- 01, Restart, 2: a segment left by 1 with serial c leads at the lowest zone that bears c
  left_lowest : (h c : ℕ) → left_at p v gone h ≡ true → serial_in p v low h ≡ c → lowest_bearing p v low c ≡ h
  left_lowest h c a e = ap (lowest_bearing p v low) (sym e) ∙ lead_lowest p v low h (left_leads p v gone h a)

  abbrev is_other : ℕ → ℕ → ℕ → Bool
  is_other z c h = left_at p v gone h && (not (eqb h z) && eqb (serial_in p v low h) c)

  other-found : (fl : List Bool) (z c : ℕ) → LeftFlags p v gone fl → any (is_other z c) (below p.Z) ≡ other_left p v low fl z c
  unfolding other_left
  other-found fl z c k = same_test (any (is_other z c) (below p.Z)) (ltb n p.Z && (not (eqb n z) && get_or fl n false)) there back
    where
      n : ℕ
      n = lowest_bearing p v low c

      there : any (is_other z c) (below p.Z) ≡ true → (ltb n p.Z && (not (eqb n z) && get_or fl n false)) ≡ true
      there t =
          let (h, i, q) = any_in (is_other z c) (below p.Z) t in
          let l = below_in p.Z h i in
          let a = and_left (left_at p v gone h) (not (eqb h z) && eqb (serial_in p v low h) c) q in
          let b = and_right (left_at p v gone h) (not (eqb h z) && eqb (serial_in p v low h) c) q in
          let e : n ≡ h = left_lowest h c a (eqb-true (serial_in p v low h) c (and_right (not (eqb h z)) (eqb (serial_in p v low h) c) b)) in
          subst (λ (m : ℕ). (ltb m p.Z && (not (eqb m z) && get_or fl m false)) ≡ true) (sym e)
          (and_both (ltb h p.Z) (not (eqb h z) && get_or fl h false) (lt-ltb h p.Z l)
          (and_both (not (eqb h z)) (get_or fl h false) (and_left (not (eqb h z)) (eqb (serial_in p v low h) c) b) (k.1 h l ∙ a)))

      back : (ltb n p.Z && (not (eqb n z) && get_or fl n false)) ≡ true → any (is_other z c) (below p.Z) ≡ true
      back t =
          let l : n < p.Z = ltb-true n p.Z (and_left (ltb n p.Z) (not (eqb n z) && get_or fl n false) t) in
          let b = and_right (ltb n p.Z) (not (eqb n z) && get_or fl n false) t in
          in_any (is_other z c) (below p.Z) n (in_below p.Z n l)
          (and_both (left_at p v gone n) (not (eqb n z) && eqb (serial_in p v low n) c) (sym (k.1 n l) ∙ and_right (not (eqb n z)) (get_or fl n false) b)
          (and_both (not (eqb n z)) (eqb (serial_in p v low n) c) (and_left (not (eqb n z)) (get_or fl n false) b) (eq-eqb (serial_in p v low n) c (borne p v low c l).serial)))

  -- 01, Restart, 2: another segment left by 1 has serial c
  other_is : (fl : List Bool) (z c : ℕ) → leads p v low z ≡ true → LeftFlags p v gone fl
      → any (λ h. not (same_seg h (seg_at p v gone z)) && eqb (header_serial p (header_at v low h)) c) (left_by1 p v gone) ≡ other_left p v low fl z c
  other_is fl z c t a =
      let f : Seg → Bool = λ h. not (same_seg h (seg_at p v gone z)) && eqb (header_serial p (header_at v low h)) c in
      ap (any f) (left_list p v gone) ∙ any-map f (seg_at p v gone) (keep (left_at p v gone) (below p.Z))
      ∙ any-keep (left_at p v gone) (λ h. f (seg_at p v gone h)) (below p.Z)
      ∙ any_cong (λ h. left_at p v gone h && f (seg_at p v gone h)) (is_other z c) (below p.Z) (λ h m. one h (test (left_at p v gone h)))
      ∙ other-found fl z c a
    where
      one : (h : ℕ) → Test (left_at p v gone h)
          → (left_at p v gone h && (not (same_seg (seg_at p v gone h) (seg_at p v gone z)) && eqb (header_serial p (header_at v low (seg_at p v gone h))) c)) ≡ is_other z c h
      one h (yes! q) =
          let u : leads p v low h ≡ true = left_leads p v gone h q in
          λ j. left_at p v gone h && (not (same_lead h z u t j) && eqb (lead_serial h u j) c)
      one h (no! q) =
          and_false_left (left_at p v gone h) (not (same_seg (seg_at p v gone h) (seg_at p v gone z)) && eqb (header_serial p (header_at v low (seg_at p v gone h))) c) q
          ∙ sym (and_false_left (left_at p v gone h) (not (eqb h z) && eqb (serial_in p v low h) c) q)

  -- 01, Restart, 1 and 2: whether one remains, by the flags
  pub remains_is : (fl : List Bool) (z c : ℕ) → z < p.Z → LeftFlags p v gone fl → get_or fl z false ≡ true → c ≡ header_copied p (chunk_at v low z 0).block
      → remains_at p v gone z ≡ not (not (eqb c 0) && other_left p v low fl z c)
  unfolding remains_at is_copy
  remains_is fl z c l a q e =
      let t : left_at p v gone z ≡ true = sym (a.1 z l) ∙ q in
      let u : leads p v low z ≡ true = left_leads p v gone z t in
      let x : header_copied p (header_at v low (seg_at p v gone z)) ≡ c = ap (header_copied p) (lead_head z u) ∙ sym e in
      λ j. left_true t j
      && not (not (eqb (x j) 0)
      && (ap (λ (n : ℕ). any (λ h. not (same_seg h (seg_at p v gone z)) && eqb (header_serial p (header_at v low h)) n) (left_by1 p v gone)) x ∙ other_is fl z c u a) j)
    where
      left_true : left_at p v gone z ≡ true → (leads p v low z && all (λ d. ltb (zone_on (seg_at p v gone z) d) p.Z) (present p gone)) ≡ true
      left_true t = unfold left_at in t

  pub remains_not : (fl : List Bool) (z : ℕ) → z < p.Z → LeftFlags p v gone fl → get_or fl z false ≡ false → remains_at p v gone z ≡ false
  unfolding remains_at
  remains_not fl z l a q =
      and_false_left (leads p v low z && all (λ d. ltb (zone_on (seg_at p v gone z) d) p.Z) (present p gone)) (not (is_copy p v low (left_by1 p v gone) (seg_at p v gone z)))
      (not_left (sym (a.1 z l) ∙ q))
    where
      not_left : left_at p v gone z ≡ false → (leads p v low z && all (λ d. ltb (zone_on (seg_at p v gone z) d) p.Z) (present p gone)) ≡ false
      not_left t = unfold left_at in t

-- another flagged zone, by the lowest that bears the serial
module _ (p : Params) (v : View) (low : ℕ) (fl : List Bool) (z c n : ℕ) (e : n ≡ lowest_bearing p v low c) where
  abbrev is_one_of : ℕ → Bool
  is_one_of h = ltb h p.Z && (not (eqb h z) && get_or fl h false)

  pub other_none : p.Z ≤ n → other_left p v low fl z c ≡ false
  unfolding other_left
  other_none h = ap is_one_of (sym e) ∙ and_false_left (ltb n p.Z) (not (eqb n z) && get_or fl n false) (le-ltb n p.Z h)

  pub other_same : n ≡ z → other_left p v low fl z c ≡ false
  unfolding other_left
  other_same q = ap is_one_of (sym e)
      ∙ and_false_right (ltb n p.Z) (not (eqb n z) && get_or fl n false) (and_false_left (not (eqb n z)) (get_or fl n false) (ap not (eq-eqb n z q)))

  pub other_flag : n < p.Z → (n ≡ z → ⊥) → other_left p v low fl z c ≡ get_or fl n false
  unfolding other_left
  other_flag h q = ap is_one_of (sym e) ∙ (λ j. lt-ltb n p.Z h j && (not (ne_eqb n z q j) && get_or fl n false))

-- ---- rows

pub seg_long : (p : Params) (v : View) (gone z : ℕ) → p.N ≤ 8 → length (seg_at p v gone z).zones ≡ 8
unfolding seg_at seg_for
seg_long p v gone z h = with_zones_long p (zone_for p v gone (serial_in p v (low_drive p gone) z)) h

-- a row put leaves those of other zones
pub row_other : (l s : List ℕ) (y z : ℕ) → 8 * z + 8 ≤ length l → 8 * y + 8 ≤ length l → length s ≡ 8 → (y ≡ z → ⊥) → part (8 * y) 8 (splice l (8 * z) s) ≡ part (8 * y) 8 l
row_other l s y z hz hy n q = go (dec_lt y z)
  where
    go : Dec (y < z) → part (8 * y) 8 (splice l (8 * z) s) ≡ part (8 * y) 8 l
    go (yes u) = part-splice-below l (8 * z) s (omega arith) (8 * y) 8 (omega arith)
    go (no u) = let w : z < y = lt_of_le-ne (omega arith) (λ e. q (sym e)) in part-splice_above l (8 * z) s (omega arith) (8 * y) 8 (omega arith) (omega arith)

pub row_same : (l s : List ℕ) (z : ℕ) → 8 * z + 8 ≤ length l → length s ≡ 8 → part (8 * z) 8 (splice l (8 * z) s) ≡ s
row_same l s z hz n = ap (λ (k : ℕ). part (8 * z) k (splice l (8 * z) s)) (sym n) ∙ part-splice l (8 * z) s (omega arith)

-- a row read entry by entry
pub row_is : (l : List ℕ) (z : ℕ) → 8 * z + 8 ≤ length l → filled_to (λ d. get_or l (8 * z + d) 0) 8 ≡ part (8 * z) 8 l
unfolding filled_to pad_to
row_is l z h =
    let f : ℕ → ℕ = λ d. get_or l (8 * z + d) 0 in
    let n : length (map f (below 8)) ≡ 8 = length-map (below 8) f ∙ length-below 8 in
    let m : length (part (8 * z) 8 l) ≡ 8 = length_part (8 * z) 8 l h in
    let t : map f (below 8) ++ replicate (8 - length (map f (below 8))) 0 ≡ map f (below 8) =
    ap (λ (k : ℕ). map f (below 8) ++ replicate (8 - k) 0) n ∙ append-nil (map f (below 8)) in
    t ∙ ext_get_or 0 (map f (below 8)) (part (8 * z) 8 l) (n ∙ sym m)
    (λ i k. let u : i < 8 = omega arith in get_d_map-below f 8 i 0 u ∙ sym (get_d_part (8 * z) 8 l i u))

-- one more row, where a segment leads
pub rows_more : (p : Params) (v : View) (gone z : ℕ) (l l' : List ℕ) → p.N ≤ 8 → 8 * p.Z ≤ length l → z < p.Z
    → l' ≡ cond (leads p v (low_drive p gone) z) (splice l (8 * z) (seg_at p v gone z).zones) l
    → ((j : ℕ) → j < z → leads p v (low_drive p gone) j ≡ true → part (8 * j) 8 l ≡ (seg_at p v gone j).zones)
    → (j : ℕ) → j < z + 1 → leads p v (low_drive p gone) j ≡ true → part (8 * j) 8 l' ≡ (seg_at p v gone j).zones
rows_more p v gone z l l' n h hz e ih j k t = go (test (leads p v low z)) (ℕ_discrete j z)
  where
    low : ℕ
    low = low_drive p gone

    s : List ℕ
    s = (seg_at p v gone z).zones

    go : Test (leads p v low z) → Dec (j ≡ z) → part (8 * j) 8 l' ≡ (seg_at p v gone j).zones
    go (yes! q) (yes i) =
        ap (part (8 * j) 8) (e ∙ cond_true (leads p v low z) (splice l (8 * z) s) l q) ∙ ap (λ (x : ℕ). part (8 * x) 8 (splice l (8 * z) s)) i
        ∙ row_same l s z (omega arith) (seg_long p v gone z n) ∙ ap (λ (x : ℕ). (seg_at p v gone x).zones) (sym i)
    go (yes! q) (no i) =
        let m : j < z = lt_of_le-ne (omega arith) i in
        ap (part (8 * j) 8) (e ∙ cond_true (leads p v low z) (splice l (8 * z) s) l q) ∙ row_other l s j z (omega arith) (omega arith) (seg_long p v gone z n) i ∙ ih j m t
    go (no! q) (yes i) = clash (ap (leads p v low) (sym i) ∙ t) q
    go (no! q) (no i) = let m : j < z = lt_of_le-ne (omega arith) i in ap (part (8 * j) 8) (e ∙ cond_false (leads p v low z) (splice l (8 * z) s) l q) ∙ ih j m t

-- ---- what the arrays say of all

pub remains_leads : (p : Params) (v : View) (gone z : ℕ) → remains_at p v gone z ≡ true → leads p v (low_drive p gone) z ≡ true
unfolding remains_at
remains_leads p v gone z q =
    let a = leads p v (low_drive p gone) z in
    let b = all (λ d. ltb (zone_on (seg_at p v gone z) d) p.Z) (present p gone) in
    and_left a b (and_left (a && b) (not (is_copy p v (low_drive p gone) (left_by1 p v gone) (seg_at p v gone z))) q)

-- the row of one that leads is its segment
pub found_row_seg : (p : Params) (v : View) (gone : ℕ) (l : List ℕ) (z : ℕ) → FlagsRows p v gone l → z < p.Z → leads p v (low_drive p gone) z ≡ true
    → seg (part (8 * z) 8 l) ≡ seg_at p v gone z
found_row_seg p v gone l z r h t = ap (λ (zs : List ℕ). seg zs) (r.1 z h t)

-- the segments that remain are the rows that are kept
pub kept-list : (p : Params) (v : View) (gone : ℕ) (l : List ℕ) (ks : List Bool) → FlagsRows p v gone l → Keeps p v gone ks
    → remaining p v gone ≡ map (λ z. seg (part (8 * z) 8 l)) (keep (λ z. get_or ks z false) (below p.Z))
kept-list p v gone l ks r k =
    remaining_is p v gone
    ∙ map_cong (seg_at p v gone) (λ z. seg (part (8 * z) 8 l)) (keep (remains_at p v gone) (below p.Z)) (λ z m. one z m)
    ∙ ap (map (λ z. seg (part (8 * z) 8 l))) (keep-below_same (remains_at p v gone) (λ z. get_or ks z false) p.Z (λ z h. sym (k.1 z h)))
  where
    one : (z : ℕ) → In z (keep (remains_at p v gone) (below p.Z)) → seg_at p v gone z ≡ seg (part (8 * z) 8 l)
    one z m =
        let (i, q) = keep_in (remains_at p v gone) (below p.Z) z m in
        sym (found_row_seg p v gone l z r (below_in p.Z z i) (remains_leads p v gone z q))

-- the serial of one that is kept
pub kept_serial : (p : Params) (v : View) (gone : ℕ) → Here p gone → (ns : List ℕ) (z : ℕ) → Serials p v gone ns → z < p.Z → leads p v (low_drive p gone) z ≡ true
    → get_or ns z 0 ≡ header_serial p (header_at v (low_drive p gone) (seg_at p v gone z))
kept_serial p v gone here ns z s h t = s.1 z h ∙ sym (lead_serial p v gone here z t)
