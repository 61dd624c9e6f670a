-- Big-endian numbers, over the width (01, The array: big-endian bytes). Assumes nothing.
use Rattle.std.specs.Prelude.{◌≡◌, refl, List, [], ◌∷◌, ◌++◌, ℕ, zero, suc, ◌+◌, ◌-◌, ◌*◌, ◌/◌, ◌%◌, ◌^◌, ◌≤◌, ◌<◌, length, get_or, set}
use Rattle.std.proofs.Common.{sym, ap, ap₂, ◌∙◌, subst, append-nil, append_assoc, arith, add-one, length-append, take-append-drop, lit<, add-zero, add-suc}
use Rattle.std.proofs.Common.{pow-suc, add_assoc, mul-one, add-mul, mul_assoc, mod-lt, div-add-mod', div-one, div-lt_iff_lt-mul}
use Rattle.std.proofs.Math.Decide.{dec_lt}
use Rattle.std.proofs.lemmas.List.{get_or_at}
use Rattle.std.proofs.Math.ListN.{get_or-eq_default, get_or-append}
use Rattle.std.proofs.Math.Arith.{digits_lt, digits_div, digits_mod, mod-mul}
use Rattle.std.proofs.Math.Nat.{pow-succ', one-le-pow, pow-le-pow_right, div-div-eq-div-mul}
use Rattle.spec.specs.Bytes.{be_from, be_of, to_be, part, splice}
use Rattle.law_basic.specs.Splice.{length_part, part-suc, part-add, splice-cons}

pub length-to_be : (w n : ℕ) → length (to_be w n) ≡ w
unfolding to_be
length-to_be zero n = refl
length-to_be (suc w) n = length-append (to_be w (n / 256)) (n % 256 ∷ []) ∙ ap (λ (k : ℕ). k + 1) (length-to_be w (n / 256)) ∙ add-one w

pub be_from-snoc : (n : ℕ) (bs : List ℕ) (b : ℕ) → be_from n (bs ++ (b ∷ [])) ≡ be_from n bs * 256 + b
unfolding be_from
be_from-snoc n [] b = refl
be_from-snoc n (a ∷ bs) b = be_from-snoc (n * 256 + a) bs b

-- what is written is read back
pub be_of-to_be : (w n : ℕ) → n < 256 ^ w → be_of (to_be w n) ≡ n
unfolding to_be be_of be_from
be_of-to_be zero n h = omega arith
be_of-to_be (suc w) n h =
    be_from-snoc 0 (to_be w (n / 256)) (n % 256)
    ∙ ap (λ (k : ℕ). k * 256 + n % 256) (be_of-to_be w (n / 256) ((div-lt_iff_lt-mul (lit< {m = 0} {n = 256} tt)).1 (rw pow-suc at h)))
    ∙ div-add-mod' n 256

-- one digit more
pub be_room : (n i b : ℕ) → n < 256 ^ i → b < 256 → n * 256 + b < 256 ^ (i + 1)
be_room n i b h k = rw (add-one, pow-suc) (digits_lt h k)

pub room64 : (n i b : ℕ) → n < 256 ^ i → b < 256 → i < 8 → n * 256 + b < 2 ^ 64
room64 n i b h k l =
    let m : 256 ^ i ≤ 256 ^ 7 = pow-le-pow_right (lit< tt) {i = i} {j = 7} (omega arith) in
    omega arith

-- the w lowest bytes of n and the next one
pub to_be-cons : (w n : ℕ) → to_be (suc w) n ≡ n / 256 ^ w % 256 ∷ to_be w n
unfolding to_be
to_be-cons zero n = ap (λ (k : ℕ). k % 256 ∷ []) (sym (div-one n))
to_be-cons (suc w) n =
    ap (λ (l : List ℕ). l ++ (n % 256 ∷ [])) (to_be-cons w (n / 256))
    ∙ ap (λ (k : ℕ). k % 256 ∷ (to_be w (n / 256) ++ (n % 256 ∷ []))) (div-div-eq-div-mul n 256 (256 ^ w) ∙ ap (λ (k : ℕ). n / k) (sym (pow-succ' 256 w)))

-- ---- the numbers of parts of a list

pub be_of-part-zero : (at : ℕ) (l : List ℕ) → 0 ≡ be_of (part at 0 l)
unfolding be_of be_from part
be_of-part-zero at l = refl

pub be_of-part-suc : (at i : ℕ) (l : List ℕ) → at + i < length l → be_of (part at i l) * 256 + get_or l (at + i) 0 ≡ be_of (part at (i + 1) l)
unfolding be_of
be_of-part-suc at i l h = sym (ap be_of (part-suc at i l h) ∙ be_from-snoc 0 (part at i l) (get_or l (at + i) 0))

-- ---- the loop that writes, from its last byte to its first

pub written-zero : (s : List ℕ) (at w n : ℕ) → (n ≡ n / 256 ^ (w - w)) × (s ≡ splice s (at + w) (to_be (w - w) n))
unfolding splice to_be
written-zero s at w n =
    let z : w - w ≡ 0 = omega arith in
    rw z (sym (div-one n), rw add-zero (sym (take-append-drop (at + w) s)))

pub written-suc : (s : List ℕ) (at w n i rest : ℕ) (s' : List ℕ) → 0 < i → i ≤ w → at + w ≤ length s
    → rest ≡ n / 256 ^ (w - i) → s' ≡ splice s (at + i) (to_be (w - i) n)
    → (rest / 256 ≡ n / 256 ^ (w - (i - 1))) × (set s' (at + (i - 1)) (rest % 256) ≡ splice s (at + (i - 1)) (to_be (w - (i - 1)) n))
written-suc s at w n i rest s' p q room e f =
    let k : w - (i - 1) ≡ suc (w - i) = omega arith in
    let a : at + i ≡ at + (i - 1) + 1 = omega arith in
    let b : at + (i - 1) + 1 + length (to_be (w - i) n) ≤ length s = omega (arith, length-to_be (w - i) n) in (
      ap (λ (x : ℕ). x / 256) e ∙ div-div-eq-div-mul n (256 ^ (w - i)) 256 ∙ ap (λ (x : ℕ). n / x) (sym (pow-suc 256 (w - i)) ∙ ap (λ (x : ℕ). 256 ^ x) (sym k)),
      ap (λ (x : List ℕ). set x (at + (i - 1)) (rest % 256)) (f ∙ ap (λ (x : ℕ). splice s x (to_be (w - i) n)) a)
          ∙ splice-cons s (at + (i - 1)) (rest % 256) (to_be (w - i) n) b
          ∙ ap (λ (x : ℕ). splice s (at + (i - 1)) (x % 256 ∷ to_be (w - i) n)) e
          ∙ ap (splice s (at + (i - 1))) (sym (to_be-cons (w - i) n) ∙ ap (λ (x : ℕ). to_be x n) (sym k)),
    )

-- ---- four bytes at once
pub be_of-part_four : (at : ℕ) (l : List ℕ) → at + 4 ≤ length l
    → ((get_or l at 0 * 256 + get_or l (at + 1) 0) * 256 + get_or l (at + 2) 0) * 256 + get_or l (at + 3) 0 ≡ be_of (part at 4 l)
be_of-part_four at l h =
    let s : (i : ℕ) → i < 4 → be_of (part at (i + 1) l) ≡ be_of (part at i l) * 256 + get_or l (at + i) 0 = λ i k. sym (be_of-part-suc at i l (omega arith)) in
    let z : at + 0 ≡ at = omega arith in
    sym (s 3 (lit< tt) ∙ rw (s 2 (lit< tt), s 1 (lit< tt), s 0 (lit< tt), ← be_of-part-zero at l, z) (omega arith))

-- two numbers side by side
pub be_from-append : (n : ℕ) (s t : List ℕ) → be_from n (s ++ t) ≡ be_from (be_from n s) t
unfolding be_from
be_from-append n [] t = refl
be_from-append n (b ∷ s) t = be_from-append (n * 256 + b) s t

pub be_from_high : (n : ℕ) (t : List ℕ) → be_from n t ≡ n * 256 ^ length t + be_from 0 t
unfolding be_from
be_from_high n [] = sym (add-zero (n * 1) ∙ mul-one n)
be_from_high n (b ∷ t) =
    let k = 256 ^ length t in
    let p : 256 ^ suc (length t) ≡ 256 * k = pow-succ' 256 (length t) in
    let e : (n * 256 + b) * k ≡ n * 256 * k + b * k = add-mul (n * 256) b k in
    let f : n * 256 * k ≡ n * (256 * k) = mul_assoc n 256 k in
    let g : be_from (0 * 256 + b) t ≡ b * k + be_from 0 t = be_from_high (0 * 256 + b) t ∙ ap (λ (x : ℕ). x * k + be_from 0 t) (let z : 0 * 256 + b ≡ b = omega arith in z) in
    be_from_high (n * 256 + b) t ∙ rw (p, g, e, f) (add_assoc (n * (256 * k)) (b * k) (be_from 0 t))

pub be_of-append : (s t : List ℕ) → be_of (s ++ t) ≡ be_of s * 256 ^ length t + be_of t
unfolding be_of
be_of-append s t = be_from-append 0 s t ∙ be_from_high (be_from 0 s) t

pub be_of-part-add : (at n m : ℕ) (l : List ℕ) → at + n + m ≤ length l → be_of (part at (n + m) l) ≡ be_of (part at n l) * 256 ^ m + be_of (part (at + n) m l)
be_of-part-add at n m l h =
    ap be_of (part-add at n m l) ∙ be_of-append (part at n l) (part (at + n) m l)
    ∙ ap (λ (x : ℕ). be_of (part at n l) * 256 ^ x + be_of (part (at + n) m l)) (length_part (at + n) m l h)

pub to_be-add : (w v n : ℕ) → to_be (w + v) n ≡ to_be w (n / 256 ^ v) ++ to_be v n
unfolding to_be
to_be-add w zero n = ap₂ (λ (x y : ℕ). to_be x y) (add-zero w) (sym (div-one n)) ∙ sym (append-nil (to_be w (n / 1)))
to_be-add w (suc v) n =
    ap (λ (x : ℕ). to_be x n) (add-suc w v)
    ∙ ap (λ (x : List ℕ). x ++ (n % 256 ∷ [])) (to_be-add w v (n / 256))
    ∙ append_assoc (to_be w (n / 256 / 256 ^ v)) (to_be v (n / 256)) (n % 256 ∷ [])
    ∙ ap (λ (x : ℕ). to_be w x ++ (to_be v (n / 256) ++ (n % 256 ∷ []))) (div-div-eq-div-mul n 256 (256 ^ v) ∙ ap (λ (x : ℕ). n / x) (sym (pow-succ' 256 v)))

-- only the lowest bytes count
pub to_be-mod : (v n : ℕ) → to_be v (n % 256 ^ v) ≡ to_be v n
unfolding to_be
to_be-mod zero n = refl
to_be-mod (suc v) n =
    let p : 256 ^ suc v ≡ 256 ^ v * 256 = pow-suc 256 v in
    let q : 0 < 256 ^ v = one-le-pow v 256 (lit< {m = 0} {n = 256} tt) in
    let e : n % (256 ^ v * 256) ≡ (n / 256 % 256 ^ v) * 256 + n % 256 = mod-mul n q (lit< {m = 0} {n = 256} tt) in
    let h : n % 256 < 256 = mod-lt n (lit< {m = 0} {n = 256} tt) in
    rw (p, e) (ap₂ (λ (x y : ℕ). to_be v x ++ (y ∷ [])) (digits_div (n / 256 % 256 ^ v) h) (digits_mod (n / 256 % 256 ^ v) h)
    ∙ ap (λ (x : List ℕ). x ++ (n % 256 ∷ [])) (to_be-mod v (n / 256)))

-- ---- what is read from w bytes is below 256 ^ w, and is written back as they stand

pub be_from-lt : (n i : ℕ) (bs : List ℕ) → n < 256 ^ i → ((k : ℕ) → k < length bs → get_or bs k 0 < 256) → be_from n bs < 256 ^ (i + length bs)
unfolding be_from
be_from-lt n i [] h f = let e : i + 0 ≡ i = omega arith in rw e h
be_from-lt n i (b ∷ bs) h f =
    let e : i + suc (length bs) ≡ i + 1 + length bs = omega arith in
    rw e (be_from-lt (n * 256 + b) (i + 1) bs (be_room n i b h (f 0 (omega arith))) (λ k q. f (suc k) (omega arith)))

pub be_of-lt : (bs : List ℕ) → ((k : ℕ) → k < length bs → get_or bs k 0 < 256) → be_of bs < 256 ^ length bs
unfolding be_of
be_of-lt bs f = let e : 0 + length bs ≡ length bs = omega arith in rw e at (be_from-lt 0 0 bs (lit< tt) f)

-- the bytes of a number are bytes
pub to_be_byte : (w n k : ℕ) → get_or (to_be w n) k 0 < 256
unfolding to_be
to_be_byte zero n k = lit< {m = 0} {n = 256} tt
to_be_byte (suc w) n k = go (dec_lt k w) (dec_lt k (suc w)) (to_be_byte w (n / 256) k)
  where
    bs : List ℕ
    bs = to_be w (n / 256)

    l : length bs ≡ w
    l = length-to_be w (n / 256)

    go : Dec (k < w) → Dec (k < suc w) → get_or bs k 0 < 256 → get_or (bs ++ (n % 256 ∷ [])) k 0 < 256
    go (yes h) g f = subst (λ (x : ℕ). x < 256) (sym (get_or-append bs (n % 256 ∷ []) 0 k (omega (arith, l)))) f
    go (no h) (yes g) f = subst (λ (x : ℕ). x < 256) (sym (get_or_at bs (n % 256) [] 0 k (omega (arith, l)))) (mod-lt n (lit< {m = 0} {n = 256} tt))
    go (no h) (no g) f =
        let e : length (bs ++ (n % 256 ∷ [])) ≤ k = rw length-append (omega (arith, l)) in
        subst (λ (x : ℕ). x < 256) (sym (get_or-eq_default (bs ++ (n % 256 ∷ [])) 0 e)) (lit< {m = 0} {n = 256} tt)
