-- Footer blocks and the spares that they are made from, by bytes (01, What a zone holds). Assumes nothing.
use Rattle.std.specs.Prelude.{◌≡◌, get_or, take}
use Rattle.std.proofs.Math.Path.{refl, sym, ap, subst}
use Rattle.std.proofs.Common.{ap₂, ◌∙◌, zero-add, add-suc, mul_comm, zero-mul, mul-le-mul_right, le_trans, le-div_iff_mul-le, arith, length-append, length-take}
use Rattle.std.proofs.Common.{length-drop, get_or-take, get_or-drop, take-suc, take_all, add-one}
use mathlib.Core.List.{List, [], ◌++◌, map}
use Prim.Native.Nat.{ℕ, zero, suc, ◌+◌, ◌-◌, ◌*◌, min, ◌≤◌, ◌<◌}
use Rattle.std.proofs.Math.Nat.{suc-mul, sub-zero, zero-sub, suc-sub-suc}
use Rattle.std.proofs.Math.Decide.{dec_lt, dec_le}
use Rattle.std.proofs.Math.ListN.{length, drop, replicate, length-map}
use Rattle.std.proofs.lemmas.List.{length-replicate}
use Rattle.std.proofs.Math.Seq.{ext_get_or}
use Rattle.spec.specs.declared.Params.{Params}
use Rattle.spec.specs.Bytes.{part, splice}
use Rattle.spec.specs.Drives.{Chunk, no_chunk, zone_at, chunk_at, view_of, mk_disk, spares_of}
use Rattle.spec.specs.Layout.{footer_block}
use Rattle.spec.specs.Lists.{below, flat, pad_to}
use Rattle.spec.specs.Params.{spare_len, per_footer, footers, capacity, unit_len, image_len, pointers_len, place_of, place_byte}
use Rattle.law_basic.specs.Geometry.{item_fits, Ranged, block_within, per_footer_low, per_footer_fits, data_below}
use Rattle.law_basic.specs.Ranges.{length-below, map-below_same, get_d_map, get_d_map-below, flat-snoc}
use Rattle.law_basic.specs.Splice.{length_part, splice-zero, splice_next, length-splice, part-splice-below, part-splice_above}
use Rattle.law_views.specs.Views.{Whole, blocks_long, spare_view}

-- the spares of a zone's data blocks
unfoldable pub spares_by : Params → List ℕ → ℕ → ℕ → List (List ℕ)
spares_by p im d z = map (λ o. part (place_byte p (place_of p d z (1 + o)) + p.B) spare_len im) (below p.S)

-- the first j records of footer block i
unfoldable pub records_of : Params → List (List ℕ) → ℕ → ℕ → List ℕ
records_of p ss i j = flat (λ (b : List ℕ). b) (take j (drop (i * per_footer p) ss))

-- ---- blocks of a zone lie one after the other

pub byte_next : (p : Params) (d z b : ℕ) → place_byte p (place_of p d z (suc b)) ≡ place_byte p (place_of p d z b) + unit_len p
unfolding place_byte place_of
byte_next p d z b =
    ap (λ (x : ℕ). x * unit_len p) (add-suc ((d * p.Z + z) * capacity p) b) ∙ suc-mul ((d * p.Z + z) * capacity p + b) (unit_len p)

pub byte_before : (p : Params) (d z b c : ℕ) → b < c → place_byte p (place_of p d z b) + unit_len p ≤ place_byte p (place_of p d z c)
unfolding place_byte place_of
byte_before p d z b c h = item_fits ((d * p.Z + z) * capacity p + b) ((d * p.Z + z) * capacity p + c) (unit_len p) (omega arith)

pub byte_low : (p : Params) (d z b c : ℕ) → b ≤ c → place_byte p (place_of p d z b) ≤ place_byte p (place_of p d z c)
unfolding place_byte place_of
byte_low p d z b c h = mul-le-mul_right (unit_len p) (let q : (d * p.Z + z) * capacity p + b ≤ (d * p.Z + z) * capacity p + c = omega arith in q)

-- ---- the spares

module _ (p : Params) (r : Ranged p) (d z : ℕ) (hd : d < p.N) (hz : z < p.Z) where
  spare_room : (o : ℕ) → o < p.S → place_byte p (place_of p d z (1 + o)) + p.B + spare_len ≤ image_len p
  unfolding unit_len
  spare_room o h = omega (arith, block_within p d z (1 + o) hd hz (data_below p r (1 + o) (omega arith)))

  module _ (im : List ℕ) (hi : length im ≡ image_len p) where
    pub spares_by-count : length (spares_by p im d z) ≡ p.S
    unfolding spares_by
    spares_by-count = length-map (below p.S) (λ o. part (place_byte p (place_of p d z (1 + o)) + p.B) spare_len im) ∙ length-below p.S

    pub spare_of : (o : ℕ) → o < p.S → get_or (spares_by p im d z) o [] ≡ part (place_byte p (place_of p d z (1 + o)) + p.B) spare_len im
    unfolding spares_by
    spare_of o h = get_d_map-below (λ o. part (place_byte p (place_of p d z (1 + o)) + p.B) spare_len im) p.S o [] h

    pub spare_long : (o : ℕ) → o < p.S → length (get_or (spares_by p im d z) o []) ≡ spare_len
    spare_long o h =
        ap length (spare_of o h) ∙ length_part (place_byte p (place_of p d z (1 + o)) + p.B) spare_len im (omega (arith, spare_room o h, hi))

    -- they are those of the view
    pub spares_view : (off ps : List ℕ) → length ps ≡ pointers_len p → spares_of (take p.S (drop 1 (zone_at (view_of p off im ps) d z).blocks)) ≡ spares_by p im d z
    unfolding spares_of chunk_at
    spares_view off ps hp = ext_get_or [] (map (λ (c : Chunk). c.spare) row) (spares_by p im d z) (long ∙ sym spares_by-count) (λ o l. each o (omega (arith, long)))
      where
        w : Whole p (mk_disk im ps)
        w = record { image_long = hi; pointers_long = hp }

        bs : List Chunk
        bs = (zone_at (view_of p off im ps) d z).blocks

        row : List Chunk
        row = take p.S (drop 1 bs)

        row_long : length row ≡ p.S
        row_long =
            let l : length bs ≡ capacity p = blocks_long p off (mk_disk im ps) d z hd hz w in
            length-take p.S (drop 1 bs) ∙ ap (min p.S) (length-drop 1 bs) ∙ omega (arith, l, data_below p r p.S (omega arith))

        long : length (map (λ (c : Chunk). c.spare) row) ≡ p.S
        long = length-map row (λ (c : Chunk). c.spare) ∙ row_long

        each : (o : ℕ) → o < p.S → get_or (map (λ (c : Chunk). c.spare) row) o [] ≡ get_or (spares_by p im d z) o []
        each o h =
            get_d_map (λ (c : Chunk). c.spare) row o [] no_chunk (omega (arith, row_long))
            ∙ ap (λ (c : Chunk). c.spare) (get_or-take p.S (drop 1 bs) o no_chunk h ∙ get_or-drop 1 bs o no_chunk)
            ∙ spare_view p off (mk_disk im ps) d z hd hz w (1 + o) (data_below p r (1 + o) (omega arith))
            ∙ sym (spare_of o h)

    pub footer_by : (s : List ℕ) (i : ℕ)
        → ((off ps : List ℕ) → length ps ≡ pointers_len p → s ≡ footer_block p (spares_of (take p.S (drop 1 (zone_at (view_of p off im ps) d z).blocks))) i)
        → s ≡ footer_block p (spares_by p im d z) i
    footer_by s i f =
        let ps : List ℕ = replicate (pointers_len p) 0 in
        let l : length ps ≡ pointers_len p = length-replicate (pointers_len p) 0 in
        f [] ps l ∙ ap (λ (x : List (List ℕ)). footer_block p x i) (spares_view [] ps l)

    -- a block written in its place leaves the spares
    pub spares_stay : (b : ℕ) (s : List ℕ) → b < capacity p → length s ≡ p.B → spares_by p (splice im (place_byte p (place_of p d z b)) s) d z ≡ spares_by p im d z
    unfolding spares_by
    spares_stay b s hb hs =
        map-below_same (λ o. part (place_byte p (place_of p d z (1 + o)) + p.B) spare_len (splice im (place_byte p (place_of p d z b)) s))
        (λ o. part (place_byte p (place_of p d z (1 + o)) + p.B) spare_len im) p.S (λ o h. go o h (dec_lt (1 + o) b))
      where
        fits : place_byte p (place_of p d z b) + length s ≤ length im
        fits = unfold unit_len in omega (arith, block_within p d z b hd hz hb, hi, hs)

        go : (o : ℕ) → o < p.S → Dec (1 + o < b)
            → part (place_byte p (place_of p d z (1 + o)) + p.B) spare_len (splice im (place_byte p (place_of p d z b)) s) ≡ part (place_byte p (place_of p d z (1 + o)) + p.B) spare_len im
        go o h (yes q) = part-splice-below im (place_byte p (place_of p d z b)) s fits (place_byte p (place_of p d z (1 + o)) + p.B) spare_len
            (let u = byte_before p d z (1 + o) b q in unfold unit_len in omega (arith, u))
        go o h (no q) = part-splice_above im (place_byte p (place_of p d z b)) s fits (place_byte p (place_of p d z (1 + o)) + p.B) spare_len
            (omega (arith, byte_low p d z b (1 + o) (omega arith), hs)) (omega (arith, spare_room o h, hi))

-- ---- footer blocks made from spares ss

drop_zeros : (k n : ℕ) → ◌≡◌ {A = List ℕ} (drop k (replicate n 0)) (replicate (n - k) 0)
drop_zeros zero n = ap (λ (x : ℕ). replicate x 0) (sym (sub-zero n))
drop_zeros (suc k) zero = ap (λ (x : ℕ). replicate x 0) (sym (zero-sub (suc k)))
drop_zeros (suc k) (suc n) = drop_zeros k n ∙ ap (λ (x : ℕ). replicate x 0) (sym (suc-sub-suc n k))

module _ (p : Params) (r : Ranged p) where
  -- the first record of a footer block is one of the zone's
  pub footer_start : (i : ℕ) → i < footers p → i * per_footer p < p.S
  unfolding footers
  footer_start i h =
      let k = per_footer p in
      let low : 3 ≤ k = per_footer_low p r in
      let q : suc i * k ≤ p.S + k - 1 = (le-div_iff_mul-le {k = k} {x = suc i} {y = p.S + k - 1} (omega arith)).0 (omega arith) in
      omega (arith, q, suc-mul i k)

  module _ (ss : List (List ℕ)) (count : length ss ≡ p.S) (long : (o : ℕ) → o < p.S → length (get_or ss o []) ≡ spare_len) where
    records_none : (i : ℕ) → records_of p ss i 0 ≡ []
    unfolding records_of flat
    records_none i = refl

    records_more : (i j : ℕ) → i * per_footer p + j < p.S → records_of p ss i (suc j) ≡ records_of p ss i j ++ get_or ss (i * per_footer p + j) []
    unfolding records_of
    records_more i j h =
        let row : List (List ℕ) = drop (i * per_footer p) ss in
        let l : j < length row = subst (λ (x : ℕ). j < x) (sym (length-drop (i * per_footer p) ss)) (omega (arith, count)) in
        ap (flat (λ (b : List ℕ). b)) (take-suc row j [] l) ∙ flat-snoc (λ (b : List ℕ). b) (take j row) (get_or row j [])
        ∙ ap (λ (x : List ℕ). flat (λ (b : List ℕ). b) (take j row) ++ x) (get_or-drop (i * per_footer p) ss j [])

    pub records_long : (i j : ℕ) → i * per_footer p + j ≤ p.S → length (records_of p ss i j) ≡ j * spare_len
    records_long i zero h = ap length (records_none i) ∙ sym (zero-mul spare_len)
    records_long i (suc j) h =
        ap length (records_more i j (omega arith)) ∙ length-append (records_of p ss i j) (get_or ss (i * per_footer p + j) [])
        ∙ ap₂ ◌+◌ (records_long i j (omega arith)) (long (i * per_footer p + j) (omega arith)) ∙ sym (suc-mul j spare_len)

    spares_room : (j : ℕ) → j ≤ per_footer p → j * spare_len ≤ p.B
    spares_room j h = le_trans (mul-le-mul_right spare_len h) (per_footer_fits p r)

    -- a footer block holds as many records as there are, and as it has room for
    records_stop : (i n : ℕ) → n ≡ min (per_footer p) (p.S - i * per_footer p) → records_of p ss i n ≡ records_of p ss i (per_footer p)
    unfolding records_of
    records_stop i n e = go (dec_le (per_footer p) (p.S - i * per_footer p))
      where
        row : List (List ℕ)
        row = drop (i * per_footer p) ss

        row_long : length row ≡ p.S - i * per_footer p
        row_long = length-drop (i * per_footer p) ss ∙ ap (λ (x : ℕ). x - i * per_footer p) count

        go : Dec (per_footer p ≤ p.S - i * per_footer p) → flat (λ (b : List ℕ). b) (take n row) ≡ flat (λ (b : List ℕ). b) (take (per_footer p) row)
        go (yes h) = ap (λ (x : ℕ). flat (λ (b : List ℕ). b) (take x row)) (let q : n ≡ per_footer p = omega (arith, e) in q)
        go (no h) = ap (flat (λ (b : List ℕ). b)) (take_all n row (omega (arith, e, row_long)) ∙ sym (take_all (per_footer p) row (omega (arith, row_long))))

    pub footer_is : (i n : ℕ) → n ≡ min (per_footer p) (p.S - i * per_footer p) → splice (replicate p.B 0) 0 (records_of p ss i n) ≡ footer_block p ss i
    unfolding footer_block pad_to
    footer_is i n e =
        splice-zero (replicate p.B 0) (records_of p ss i n)
        ∙ ap (λ (x : List ℕ). records_of p ss i n ++ x) (drop_zeros (length (records_of p ss i n)) p.B)
        ∙ ap (λ (x : List ℕ). x ++ replicate (p.B - length x) 0) (records_stop i n e)
        ∙ plain
      where
        plain : records_of p ss i (per_footer p) ++ replicate (p.B - length (records_of p ss i (per_footer p))) 0 ≡ footer_block p ss i
        plain = unfold records_of footer_block pad_to in refl

    -- how many they are
    abbrev held : ℕ → ℕ
    held i = min (per_footer p) (p.S - i * per_footer p)

    held_long : (i : ℕ) → i < footers p → length (records_of p ss i (held i)) ≤ p.B
    held_long i h =
        let s = footer_start i h in
        let e : length (records_of p ss i (held i)) ≡ held i * spare_len = records_long i (held i) (omega arith) in
        omega (arith, e, spares_room (held i) (omega arith))

    pub footer_long : (i : ℕ) → i < footers p → length (footer_block p ss i) ≡ p.B
    footer_long i h =
        let z : List ℕ = replicate p.B 0 in
        let lz : length z ≡ p.B = length-replicate p.B 0 in
        ap length (sym (footer_is i (held i) refl)) ∙ length-splice z 0 (records_of p ss i (held i)) (omega (arith, held_long i h, lz)) ∙ lz

    -- one record more in the block under way; n: the bytes of a spare
    pub footer_turn : (l l' s : List ℕ) (n i j : ℕ) → n ≡ spare_len → l ≡ splice (replicate p.B 0) 0 (records_of p ss i j) → i * per_footer p + j < p.S → j < per_footer p
        → s ≡ get_or ss (i * per_footer p + j) [] → l' ≡ splice l (n * j) s → l' ≡ splice (replicate p.B 0) 0 (records_of p ss i (j + 1))
    footer_turn l l' s b i j eb e h k q f =
        let z : List ℕ = replicate p.B 0 in
        let lz : length z ≡ p.B = length-replicate p.B 0 in
        let t : List ℕ = records_of p ss i j in
        let n : length t ≡ j * spare_len = records_long i j (omega arith) in
        let a : b * j ≡ 0 + length t = ap (λ (x : ℕ). x * j) eb ∙ sym (zero-add (length t) ∙ n ∙ mul_comm j spare_len) in
        let ls : length s ≡ spare_len = ap length q ∙ long (i * per_footer p + j) h in
        let w : suc j * spare_len ≤ p.B = spares_room (suc j) (omega arith) in
        f ∙ ap₂ (λ (x : List ℕ) (y : ℕ). splice x y s) e a
        ∙ splice_next z 0 t s (omega (arith, n, ls, lz, w, suc-mul j spare_len))
        ∙ ap (splice z 0) (ap (λ (x : List ℕ). t ++ x) q ∙ sym (records_more i j h) ∙ ap (records_of p ss i) (sym (add-one j)))
