-- Little-endian numbers, over the width (01, The array: the state's bytes): by induction on the bytes, the lowest first. Assumes nothing.
use Rattle.std.specs.Prelude.{◌≡◌, refl, List, [], ◌∷◌, ◌++◌, ℕ, zero, suc, ◌+◌, ◌*◌, ◌/◌, ◌%◌, ◌^◌, ◌≤◌, ◌<◌, length, get_or}
use Rattle.std.proofs.Common.{sym, ap, ap₂, ◌∙◌, arith, add-zero, zero-add, suc-add, add_assoc, add-mul, mul-one, mul_assoc, pow-suc, mod-lt, div-one, div-add-mod', div-lt_iff_lt-mul, lit<}
use Rattle.std.proofs.Math.Nat.{pow-succ', one-le-pow, div-div-eq-div-mul}
use Rattle.std.proofs.Math.Arith.{digits_lt, digits_div, digits_mod, mod-mul}
use Rattle.spec.specs.Bytes.{le_of, to_le, part}
use Rattle.law_basic.specs.Splice.{length_part, part-zero, part-suc, part-add}

pub length-to_le : (w n : ℕ) → length (to_le w n) ≡ w
unfolding to_le
length-to_le zero n = refl
length-to_le (suc w) n = ap suc (length-to_le w (n / 256))

-- what is written is read back
pub le_of_to_le : (w n : ℕ) → n < 256 ^ w → le_of (to_le w n) ≡ n
unfolding to_le le_of
le_of_to_le zero n h = omega arith
le_of_to_le (suc w) n h =
    ap (λ (k : ℕ). k * 256 + n % 256) (le_of_to_le w (n / 256) ((div-lt_iff_lt-mul (lit< {m = 0} {n = 256} tt)).1 (rw pow-suc at h)))
    ∙ div-add-mod' n 256

-- ---- what is read from w bytes is below 256 ^ w, and is written back as they stand

pub le_of_lt : (bs : List ℕ) → ((k : ℕ) → k < length bs → get_or bs k 0 < 256) → le_of bs < 256 ^ length bs
unfolding le_of
le_of_lt [] f = lit< tt
le_of_lt (b ∷ bs) f = rw pow-suc (digits_lt (le_of_lt bs (λ k q. f (suc k) (omega arith))) (f 0 (omega arith)))

pub to_le_le_of : (bs : List ℕ) → ((k : ℕ) → k < length bs → get_or bs k 0 < 256) → to_le (length bs) (le_of bs) ≡ bs
unfolding le_of to_le
to_le_le_of [] f = refl
to_le_le_of (b ∷ bs) f =
    let h : b < 256 = f 0 (omega arith) in
    ap₂ ◌∷◌ (digits_mod (le_of bs) h) (ap (to_le (length bs)) (digits_div (le_of bs) h) ∙ to_le_le_of bs (λ k q. f (suc k) (omega arith)))

-- ---- one byte, four bytes, two numbers side by side

part-one : (at : ℕ) (l : List ℕ) → at < length l → part at 1 l ≡ get_or l at 0 ∷ []
part-one at l h =
    let z : at + 0 ≡ at = omega arith in
    part-suc at 0 l (omega arith) ∙ rw (part-zero at l, z) refl

pub le_of_part-one : (at : ℕ) (l : List ℕ) → at < length l → get_or l at 0 ≡ le_of (part at 1 l)
unfolding le_of
le_of_part-one at l h = sym (ap le_of (part-one at l h) ∙ omega arith)

part_four : (at : ℕ) (l : List ℕ) → at + 4 ≤ length l
    → part at 4 l ≡ get_or l at 0 ∷ get_or l (at + 1) 0 ∷ get_or l (at + 2) 0 ∷ get_or l (at + 3) 0 ∷ []
part_four at l h =
    let s : (i : ℕ) → i < 4 → part at (i + 1) l ≡ part at i l ++ (get_or l (at + i) 0 ∷ []) = λ i k. part-suc at i l (omega arith) in
    let z : at + 0 ≡ at = omega arith in
    s 3 (lit< tt) ∙ rw (s 2 (lit< tt), s 1 (lit< tt), s 0 (lit< tt), part-zero at l, z) refl

pub le_of_part_four : (at : ℕ) (l : List ℕ) → at + 4 ≤ length l
    → ((get_or l (at + 3) 0 * 256 + get_or l (at + 2) 0) * 256 + get_or l (at + 1) 0) * 256 + get_or l at 0 ≡ le_of (part at 4 l)
unfolding le_of
le_of_part_four at l h = sym (ap le_of (part_four at l h) ∙ omega arith)

pub le_of_append : (s t : List ℕ) → le_of (s ++ t) ≡ le_of t * 256 ^ length s + le_of s
unfolding le_of
le_of_append [] t = sym (add-zero (le_of t * 1) ∙ mul-one (le_of t))
le_of_append (b ∷ s) t =
    let k = 256 ^ length s in
    let p : 256 ^ suc (length s) ≡ k * 256 = pow-suc 256 (length s) in
    let e : (le_of t * k + le_of s) * 256 ≡ le_of t * k * 256 + le_of s * 256 = add-mul (le_of t * k) (le_of s) 256 in
    ap (λ (x : ℕ). x * 256 + b) (le_of_append s t)
    ∙ rw (p, e, ← mul_assoc (le_of t) k 256) (add_assoc (le_of t * k * 256) (le_of s * 256) b)

pub le_of_part-add : (at n m : ℕ) (l : List ℕ) → at + n ≤ length l → le_of (part at (n + m) l) ≡ le_of (part (at + n) m l) * 256 ^ n + le_of (part at n l)
le_of_part-add at n m l h =
    ap le_of (part-add at n m l) ∙ le_of_append (part at n l) (part (at + n) m l)
    ∙ ap (λ (x : ℕ). le_of (part (at + n) m l) * 256 ^ x + le_of (part at n l)) (length_part at n l h)

pub to_le-add : (w v n : ℕ) → to_le (w + v) n ≡ to_le w n ++ to_le v (n / 256 ^ w)
unfolding to_le
to_le-add zero v n = ap₂ to_le (zero-add v) (sym (div-one n))
to_le-add (suc w) v n =
    ap (λ (x : ℕ). to_le x n) (suc-add w v)
    ∙ ap (λ (x : List ℕ). n % 256 ∷ x) (to_le-add w v (n / 256)
    ∙ ap (λ (x : ℕ). to_le w (n / 256) ++ to_le v x) (div-div-eq-div-mul n 256 (256 ^ w) ∙ ap (λ (x : ℕ). n / x) (sym (pow-succ' 256 w))))

-- only the lowest bytes count
pub to_le-mod : (v n : ℕ) → to_le v (n % 256 ^ v) ≡ to_le v n
unfolding to_le
to_le-mod zero n = refl
to_le-mod (suc v) n =
    let p : 256 ^ suc v ≡ 256 ^ v * 256 = pow-suc 256 v in
    let q : 0 < 256 ^ v = one-le-pow v 256 (lit< {m = 0} {n = 256} tt) in
    let e : n % (256 ^ v * 256) ≡ (n / 256 % 256 ^ v) * 256 + n % 256 = mod-mul n q (lit< {m = 0} {n = 256} tt) in
    let h : n % 256 < 256 = mod-lt n (lit< {m = 0} {n = 256} tt) in
    rw (p, e) (ap₂ ◌∷◌ (digits_mod (n / 256 % 256 ^ v) h) (ap (to_le v) (digits_div (n / 256 % 256 ^ v) h) ∙ to_le-mod v (n / 256)))
