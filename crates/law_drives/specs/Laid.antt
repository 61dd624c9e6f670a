-- Headers, records and footers as bytes: lengths, that they are bytes, and that they are read back.
use Rattle.std.specs.Prelude.{◌≡◌, refl, List, [], ◌∷◌, ◌++◌, ℕ, zero, suc, ◌+◌, ◌-◌, ◌*◌, ◌/◌, ◌%◌, ◌^◌, ◌≤◌, ◌<◌}
use Rattle.std.specs.Prelude.{length, get_or, take, drop, replicate}
use Rattle.std.proofs.Common.{sym, ap, ◌∙◌, subst, append-nil, append_assoc, inl, inr, div-add-mod', mod-lt, mul-suc, mul-le-mul_right, arith, lit<, length-take}
use Rattle.std.proofs.Common.{length-drop, take_at, get_or-take, get_or-drop}
use Rattle.std.proofs.Math.Nat.{pow-le-pow_right}
use Rattle.spec.specs.declared.Params.{Params}
use Rattle.spec.specs.Bytes.{be_of, to_be, part, Field, bytes_of, widths_of, field_at, read_field}
use Rattle.spec.specs.Drives.{zero_spare}
use Rattle.spec.specs.Layout.{header_fields, header_block, header_serial, header_copied, Rec, record_fields}
use Rattle.spec.specs.Layout.{record_bytes, record_of_of, footer_block}
use Rattle.spec.specs.Lists.{flat, pad_to}
use Rattle.spec.specs.Params.{record_table, address_field, stamp_field, stripe_field, record_widths, spare_len, per_footer}
use Rattle.law_basic.specs.Be.{be_of-lt, to_be_byte}
use Rattle.law_basic.specs.Fields.{no_field, read_field_bytes_of, copied_read, serial_read}
use Rattle.law_basic.specs.Geometry.{Ranged, per_footer_low, per_footer_fits}
use Rattle.law_basic.specs.Ranges.{length-pad_to}
use Rattle.law_basic.specs.Splice.{part-append_right}
use Rattle.law_drives.specs.Image.{bytes_part}
use Rattle.law_drives.specs.Members.{In}
use Rattle.law_drives.specs.Tables.{length-flat_in, zero-at}
use Rattle.law_drives.specs.Zones.{Bytes}

-- ---- bytes

pub bytes_nil : Bytes []
bytes_nil i = omega arith

pub bytes_append : (s t : List ℕ) → Bytes s → Bytes t → Bytes (s ++ t)
bytes_append [] t a b i = b i
bytes_append (x ∷ s) t a b zero = a 0
bytes_append (x ∷ s) t a b (suc i) = bytes_append s t (λ j. a (suc j)) b i

pub bytes_zeros : (n : ℕ) → Bytes (replicate n 0)
bytes_zeros n i = subst (λ (x : ℕ). x < 256) (sym (zero-at n i)) (lit< tt)

pub bytes_to_be : (w n : ℕ) → Bytes (to_be w n)
bytes_to_be w n i = to_be_byte w n i

pub bytes_pad : (n : ℕ) (l : List ℕ) → Bytes l → Bytes (pad_to n l)
unfolding pad_to
bytes_pad n l h = bytes_append l (replicate (n - length l) 0) h (bytes_zeros (n - length l))

pub bytes_fields : (fs : List Field) → Bytes (bytes_of fs)
unfolding bytes_of
bytes_fields [] = bytes_nil
bytes_fields (f ∷ fs) = bytes_append (to_be f.width f.value) (bytes_of fs) (bytes_to_be f.width f.value) (bytes_fields fs)

-- what bytes say
pub be_of-low : (l : List ℕ) → Bytes l → be_of l < 256 ^ length l
be_of-low l h = be_of-lt l (λ k x. h k)

-- ---- lengths

pub bytes_header : (p : Params) (d : ℕ) (zs : List ℕ) (r c : ℕ) → Bytes (header_block p d zs r c)
unfolding header_block
bytes_header p d zs r c = bytes_pad p.B (bytes_of (header_fields p d zs r c)) (bytes_fields (header_fields p d zs r c))

pub bytes_zero_spare : Bytes zero_spare
unfolding zero_spare
bytes_zero_spare = bytes_zeros spare_len

pub bytes_record : (r : Rec) → Bytes (record_bytes r)
unfolding record_bytes
bytes_record r = bytes_fields (record_fields r)

-- spares of their length, in a row
abbrev pub Long : ℕ → List (List ℕ) → Type 0
Long n ss = (s : List ℕ) → In s ss → length s ≡ n

pub in_take : {A : Type 0} (n : ℕ) (l : List A) (a : A) → In a (take n l) → In a l
in_take zero l a m = absurd m
in_take (suc n) [] a m = absurd m
in_take (suc n) (x ∷ l) a (inl e) = inl e
in_take (suc n) (x ∷ l) a (inr m) = inr (in_take n l a m)

pub in_drop : {A : Type 0} (n : ℕ) (l : List A) (a : A) → In a (drop n l) → In a l
in_drop zero l a m = m
in_drop (suc n) [] a m = absurd m
in_drop (suc n) (x ∷ l) a m = inr (in_drop n l a m)

length-rows : (k : ℕ) (ss : List (List ℕ)) → Long k ss → length (flat (λ (b : List ℕ). b) ss) ≡ length ss * k
length-rows k ss h = length-flat_in (λ (b : List ℕ). b) k ss h

pub length_footer : (p : Params) → Ranged p → (ss : List (List ℕ)) (i : ℕ) → Long spare_len ss → length (footer_block p ss i) ≡ p.B
unfolding footer_block
length_footer p r ss i h =
    let l = take (per_footer p) (drop (i * per_footer p) ss) in
    let e : length (flat (λ (b : List ℕ). b) l) ≡ length l * spare_len = length-rows spare_len l
    (λ s m. h s (in_drop (i * per_footer p) ss s (in_take (per_footer p) (drop (i * per_footer p) ss) s m))) in
    let n : length l ≤ per_footer p = subst (λ (x : ℕ). x ≤ per_footer p) (sym (length-take (per_footer p) (drop (i * per_footer p) ss))) (omega arith) in
    let m : length l * spare_len ≤ per_footer p * spare_len = mul-le-mul_right spare_len n in
    let q : per_footer p * spare_len ≤ p.B = per_footer_fits p r in
    length-pad_to p.B (flat (λ (b : List ℕ). b) l) (omega arith)

bytes_rows : (ss : List (List ℕ)) → ((s : List ℕ) → In s ss → Bytes s) → Bytes (flat (λ (b : List ℕ). b) ss)
unfolding flat
bytes_rows [] h = bytes_nil
bytes_rows (s ∷ ss) h = bytes_append s (flat (λ (b : List ℕ). b) ss) (h s (inl refl)) (bytes_rows ss (λ t m. h t (inr m)))

pub bytes_footer : (p : Params) (ss : List (List ℕ)) (i : ℕ) → ((s : List ℕ) → In s ss → Bytes s) → Bytes (footer_block p ss i)
unfolding footer_block
bytes_footer p ss i h = bytes_pad p.B (flat (λ (b : List ℕ). b) (take (per_footer p) (drop (i * per_footer p) ss)))
    (bytes_rows (take (per_footer p) (drop (i * per_footer p) ss)) (λ s m. h s (in_drop (i * per_footer p) ss s (in_take (per_footer p) (drop (i * per_footer p) ss) s m))))

-- ---- fields are read back

record_field : (r : Rec) (i : ℕ) → i < length (record_fields r) → (get_or (record_fields r) i no_field).value < 256 ^ (get_or (record_fields r) i no_field).width
    → read_field record_widths i (record_bytes r) ≡ (get_or (record_fields r) i no_field).value
unfolding record_bytes record_fields record_widths record_table widths_of
record_field r i h b =
    let fs = record_fields r in
    ap (read_field (widths_of fs) i) (sym (append-nil (bytes_of fs))) ∙ read_field_bytes_of fs i [] h b

pub record_stripe : (r : Rec) → r.stripe < 256 ^ 4 → (record_of_of (record_bytes r)).stripe ≡ r.stripe
unfolding record_of_of record_fields record_table
record_stripe r h = record_field r stripe_field (lit< tt) h

pub record_back : (r : Rec) → r.address < 256 ^ 8 → r.stamp < 256 ^ 8 → r.stripe < 256 ^ 4 → record_of_of (record_bytes r) ≡ r
unfolding record_of_of record_fields record_table
record_back r a t s =
    λ i. record {
      address = record_field r address_field (lit< tt) a i;
      stamp = record_field r stamp_field (lit< tt) t i;
      stripe = record_field r stripe_field (lit< tt) s i;
    }

-- ---- what bytes say is small

length-part-le : (a n : ℕ) (l : List ℕ) → length (part a n l) ≤ n
unfolding part
length-part-le a n l = subst (λ (x : ℕ). x ≤ n) (sym (length-take n (drop a l))) (omega arith)

laid-part-low : (a n : ℕ) (l : List ℕ) → Bytes l → be_of (part a n l) < 256 ^ n
laid-part-low a n l h =
    let q = part a n l in
    let m : 256 ^ length q ≤ 256 ^ n = pow-le-pow_right (lit< tt) {i = length q} {j = n} (length-part-le a n l) in
    let b = be_of-low q (bytes_part a n l h) in
    omega arith

field-low : (ws : List ℕ) (i : ℕ) (l : List ℕ) → Bytes l → read_field ws i l < 256 ^ get_or ws i 0
unfolding read_field
field-low ws i l h = laid-part-low (field_at ws i) (get_or ws i 0) l h

pub serial_low : (p : Params) (l : List ℕ) → Bytes l → header_serial p l < 256 ^ 8
serial_low p l h = subst (λ (x : ℕ). x < 256 ^ 8) (sym (serial_read p l)) (laid-part-low (21 + 4 * p.N) 8 l h)

pub copied_word_low : (p : Params) (l : List ℕ) → Bytes l → header_copied p l < 256 ^ 8
copied_word_low p l h = subst (λ (x : ℕ). x < 256 ^ 8) (sym (copied_read p l)) (laid-part-low (29 + 4 * p.N) 8 l h)

pub address_low : (l : List ℕ) → Bytes l → (record_of_of l).address < 256 ^ 8
unfolding record_of_of record_widths record_table widths_of
address_low l h = field-low record_widths address_field l h

pub stamp_low : (l : List ℕ) → Bytes l → (record_of_of l).stamp < 256 ^ 8
unfolding record_of_of record_widths record_table widths_of
stamp_low l h = field-low record_widths stamp_field l h

-- ---- footers are read back

part_front : (s t : List ℕ) (n : ℕ) → length s ≡ n → part 0 n (s ++ t) ≡ s
unfolding part
part_front s t n e = take_at s t n e

row_of_lem : (k : ℕ) (t : List (List ℕ)) (j : ℕ) (u : List ℕ) → Long k t → j < length t → part (k * j) k (flat (λ (b : List ℕ). b) t ++ u) ≡ get_or t j []
unfolding flat
row_of_lem k [] j u h l = absurd (let z : ⊥ = omega arith in z)
row_of_lem k (s ∷ t) zero u h l =
    ap (λ (x : ℕ). part x k (s ++ flat (λ (b : List ℕ). b) t ++ u)) (let e : k * 0 ≡ 0 = omega arith in e)
    ∙ ap (part 0 k) (append_assoc s (flat (λ (b : List ℕ). b) t) u) ∙ part_front s (flat (λ (b : List ℕ). b) t ++ u) k (h s (inl refl))
row_of_lem k (s ∷ t) (suc j) u h l =
    ap (λ (x : ℕ). part x k (s ++ flat (λ (b : List ℕ). b) t ++ u)) (let e : k * suc j ≡ length s + k * j = mul-suc k j ∙ (let q : length s ≡ k = h s (inl refl) in omega arith) in e)
    ∙ ap (part (length s + k * j) k) (append_assoc s (flat (λ (b : List ℕ). b) t) u) ∙ part-append_right (k * j) k s (flat (λ (b : List ℕ). b) t ++ u)
    ∙ row_of_lem k t j u (λ x m. h x (inr m)) (omega arith)

pub get_d_footer : (p : Params) → Ranged p → (ss : List (List ℕ)) (o : ℕ) → Long spare_len ss → o < length ss
    → part (spare_len * (o % per_footer p)) spare_len (footer_block p ss (o / per_footer p)) ≡ get_or ss o []
unfolding footer_block pad_to
get_d_footer p r ss o h l =
    let k = per_footer p in
    let j = o % k in
    let i = o / k in
    let jk : j < k = mod-lt o (let z : 0 < k = omega (arith, per_footer_low p r) in z) in
    let e : i * k + j ≡ o = div-add-mod' o k in
    let d = drop (i * k) ss in
    let t = take k d in
    let pad : List ℕ = replicate (p.B - length (flat (λ (b : List ℕ). b) t)) 0 in
    let ld : j < length d = subst (λ (x : ℕ). j < x) (sym (length-drop (i * k) ss)) (omega arith) in
    let lt : j < length t = subst (λ (x : ℕ). j < x) (sym (length-take k d)) (omega arith) in
    row_of_lem spare_len t j pad (λ s m. h s (in_drop (i * k) ss s (in_take k d s m))) lt
    ∙ get_or-take k d j [] jk ∙ get_or-drop (i * k) ss j [] ∙ ap (λ (x : ℕ). get_or ss x []) e
