-- Laws of exclusive or: of numbers, of blocks, of several blocks (01, What a zone holds: parity). Assumes nothing.
use Rattle.std.specs.Prelude.{◌≡◌, refl, map, List, [], ◌∷◌, ◌++◌, ℕ, zero, suc, ◌+◌, ◌*◌, ◌/◌, ◌%◌, ◌^◌, ◌≤◌, ◌<◌, length, get_or, replicate}
use Rattle.std.proofs.Common.{sym, ap, ap₂, ◌∙◌, arith, pow_pos, lit<, le_of_suc-le-suc, not-suc-le-zero, mod-lt}
use Rattle.std.proofs.lemmas.List.{length-replicate}
use Rattle.std.specs.Int.Bits.{differ, bit_xor, xor_step, xor_zero_l, xor_zero_r, xor_self}
use Rattle.std.proofs.lemmas.Nat.{xor_lt, xor_shr, xor_mod}
use Rattle.std.proofs.Math.Arith.{bin_ind}
use Rattle.spec.specs.Bytes.{part, xors, parity, xor_all}
use Rattle.spec.specs.Lists.{up_from, below}
use Rattle.law_basic.specs.Each.{Each}
use Rattle.law_basic.specs.Ranges.{map-below-snoc}
use Rattle.law_basic.specs.Splice.{length_part, part-suc}

two≤ : {n : ℕ} → suc (suc n) < 2 → ⊥
two≤ h = not-suc-le-zero (le_of_suc-le-suc (le_of_suc-le-suc h))

-- on single digits, by cases
digit_assoc : (x y z : ℕ) → x < 2 → y < 2 → z < 2 → differ (bit_xor x y) z ≡ differ x (bit_xor y z)
digit_assoc zero zero zero h k l = refl
digit_assoc zero zero (suc zero) h k l = refl
digit_assoc zero zero (suc (suc z)) h k l = absurd (two≤ l)
digit_assoc zero (suc zero) zero h k l = refl
digit_assoc zero (suc zero) (suc zero) h k l = refl
digit_assoc zero (suc zero) (suc (suc z)) h k l = absurd (two≤ l)
digit_assoc zero (suc (suc y)) z h k l = absurd (two≤ k)
digit_assoc (suc zero) zero zero h k l = refl
digit_assoc (suc zero) zero (suc zero) h k l = refl
digit_assoc (suc zero) zero (suc (suc z)) h k l = absurd (two≤ l)
digit_assoc (suc zero) (suc zero) zero h k l = refl
digit_assoc (suc zero) (suc zero) (suc zero) h k l = refl
digit_assoc (suc zero) (suc zero) (suc (suc z)) h k l = absurd (two≤ l)
digit_assoc (suc zero) (suc (suc y)) z h k l = absurd (two≤ k)
digit_assoc (suc (suc x)) y z h k l = absurd (two≤ h)

digit : (n : ℕ) → n % 2 < 2
digit n = mod-lt n (lit< tt)

pub xor_assoc : (a b c : ℕ) → bit_xor (bit_xor a b) c ≡ bit_xor a (bit_xor b c)
xor_assoc a =
    bin_ind (λ (n : ℕ). (b c : ℕ) → bit_xor (bit_xor n b) c ≡ bit_xor n (bit_xor b c)) (λ b c. refl)
    (λ n ih b c.
    xor_step (bit_xor n b) c
    ∙ ap₂ (λ (x y : ℕ). bit_xor x (c / 2) * 2 + differ y (c % 2)) (xor_shr n b 1) (xor_mod n b 1)
    ∙ ap₂ (λ (x y : ℕ). x * 2 + y) (ih (b / 2) (c / 2)) (digit_assoc (n % 2) (b % 2) (c % 2) (digit n) (digit b) (digit c))
    ∙ sym (ap₂ (λ (x y : ℕ). bit_xor (n / 2) x * 2 + differ (n % 2) y) (xor_shr b c 1) (xor_mod b c 1))
    ∙ sym (xor_step n (bit_xor b c))) a

-- what was added is taken away by adding it once more
pub xor_back : (a b : ℕ) → bit_xor (bit_xor a b) b ≡ a
xor_back a b = xor_assoc a b b ∙ ap (bit_xor a) (xor_self b) ∙ xor_zero_r a

-- ---- lists

pub length-xors : (s t : List ℕ) → length (xors s t) ≡ length s
unfolding xors
length-xors [] t = refl
length-xors (a ∷ s) [] = refl
length-xors (a ∷ s) (b ∷ t) = ap suc (length-xors s t)

pub xors_assoc : (s t u : List ℕ) → length s ≡ length t → length t ≡ length u → xors (xors s t) u ≡ xors s (xors t u)
unfolding xors
xors_assoc [] t u h k = refl
xors_assoc (a ∷ s) [] u h k = absurd (let q : ⊥ = omega arith in q)
xors_assoc (a ∷ s) (b ∷ t) [] h k = absurd (let q : ⊥ = omega arith in q)
xors_assoc (a ∷ s) (b ∷ t) (c ∷ u) h k = ap₂ ◌∷◌ (xor_assoc a b c) (xors_assoc s t u (omega arith) (omega arith))

-- ---- parity of several blocks of n bytes

abbrev pub AllLong : ℕ → List (List ℕ) → Type 0
AllLong n bs = Each (λ (b : List ℕ). length b ≡ n) bs

pub length-parity : (n : ℕ) (bs : List (List ℕ)) → AllLong n bs → length (parity n bs) ≡ n
unfolding parity
length-parity n [] h = length-replicate n 0
length-parity n (b ∷ bs) h = length-xors b (parity n bs) ∙ h.0

-- what is exclusive-ored with zeros stays
pub xors_zeros : (s : List ℕ) → xors s (replicate (length s) 0) ≡ s
unfolding xors
xors_zeros [] = refl
xors_zeros (a ∷ s) = ap₂ ◌∷◌ (xor_zero_r a) (xors_zeros s)

pub zeros_xors : (s : List ℕ) → xors (replicate (length s) 0) s ≡ s
unfolding xors
zeros_xors [] = refl
zeros_xors (a ∷ s) = ap₂ ◌∷◌ (xor_zero_l a) (zeros_xors s)

pub xors_nothing : (s : List ℕ) (n : ℕ) → length s ≡ n → xors s (replicate n 0) ≡ s
xors_nothing s n e = ap (λ (k : ℕ). xors s (replicate k 0)) (sym e) ∙ xors_zeros s

-- one element more, and one block more, at the end
pub xors-snoc : (s t : List ℕ) (a b : ℕ) → length s ≡ length t → xors (s ++ (a ∷ [])) (t ++ (b ∷ [])) ≡ xors s t ++ (bit_xor a b ∷ [])
unfolding xors
xors-snoc [] [] a b h = refl
xors-snoc [] (y ∷ t) a b h = absurd (let q : ⊥ = omega arith in q)
xors-snoc (x ∷ s) [] a b h = absurd (let q : ⊥ = omega arith in q)
xors-snoc (x ∷ s) (y ∷ t) a b h = ap (λ (l : List ℕ). bit_xor x y ∷ l) (xors-snoc s t a b (omega arith))

pub xors-part-suc : (l m : List ℕ) (a b i : ℕ) → a + i < length l → b + i < length m
    → xors (part a i l) (part b i m) ++ (bit_xor (get_or l (a + i) 0) (get_or m (b + i) 0) ∷ []) ≡ xors (part a (i + 1) l) (part b (i + 1) m)
xors-part-suc l m a b i h k =
    let e : length (part a i l) ≡ length (part b i m) = length_part a i l (omega arith) ∙ sym (length_part b i m (omega arith)) in
    sym (ap₂ xors (part-suc a i l h) (part-suc b i m k) ∙ xors-snoc (part a i l) (part b i m) (get_or l (a + i) 0) (get_or m (b + i) 0) e)

pub long_up_from : (n : ℕ) (f : ℕ → List ℕ) (i k : ℕ) → ((j : ℕ) → i ≤ j → j < i + k → length (f j) ≡ n) → AllLong n (map f (up_from i k))
unfolding up_from
long_up_from n f i zero h = tt
long_up_from n f i (suc k) h = (h i (omega arith) (omega arith), long_up_from n f (suc i) k (λ j p q. h j (omega arith) (omega arith)))

pub long_below : (n : ℕ) (f : ℕ → List ℕ) (k : ℕ) → ((j : ℕ) → j < k → length (f j) ≡ n) → AllLong n (map f (below k))
unfolding below
long_below n f k h = long_up_from n f 0 k (λ j p q. h j (omega arith))

pub parity_none : (n : ℕ) → parity n [] ≡ replicate n 0
unfolding parity
parity_none n = refl

pub parity-one : (n : ℕ) (b : List ℕ) → length b ≡ n → parity n (b ∷ []) ≡ b
unfolding parity
parity-one n b h = xors_nothing b n h

pub parity-snoc : (n : ℕ) (bs : List (List ℕ)) (b : List ℕ) → AllLong n bs → length b ≡ n → parity n (bs ++ (b ∷ [])) ≡ xors (parity n bs) b
unfolding parity
parity-snoc n [] b h k = xors_nothing b n k ∙ sym (ap (λ (j : ℕ). xors (replicate j 0) b) (sym k) ∙ zeros_xors b)
parity-snoc n (a ∷ bs) b h k =
    let e : length (parity n bs) ≡ n = length-parity n bs h.1 in
    ap (xors a) (parity-snoc n bs b h.1 k) ∙ sym (xors_assoc a (parity n bs) b (h.0 ∙ sym e) (e ∙ sym k))

-- ---- several numbers

pub xor_all-append : (l m : List ℕ) → xor_all (l ++ m) ≡ bit_xor (xor_all l) (xor_all m)
unfolding xor_all
xor_all-append [] m = sym (xor_zero_l (xor_all m))
xor_all-append (a ∷ l) m = ap (bit_xor a) (xor_all-append l m) ∙ sym (xor_assoc a (xor_all l) (xor_all m))

pub xor_all_none : xor_all [] ≡ 0
unfolding xor_all
xor_all_none = refl

pub xor_all-snoc : (l : List ℕ) (n : ℕ) → xor_all (l ++ (n ∷ [])) ≡ bit_xor (xor_all l) n
unfolding xor_all
xor_all-snoc l n = xor_all-append l (n ∷ []) ∙ ap (bit_xor (xor_all l)) (xor_zero_r n)

pub xor_all-lt : (k : ℕ) (l : List ℕ) → ((i : ℕ) → i < length l → get_or l i 0 < 2 ^ k) → xor_all l < 2 ^ k
unfolding xor_all
xor_all-lt k [] h = pow_pos k
xor_all-lt k (a ∷ l) h = xor_lt k a (xor_all l) (h 0 (omega arith)) (xor_all-lt k l (λ i p. h (suc i) (omega arith)))

pub xor_all-below-snoc : (f : ℕ → ℕ) (n : ℕ) → xor_all (map f (below (n + 1))) ≡ bit_xor (xor_all (map f (below n))) (f n)
xor_all-below-snoc f n = ap xor_all (map-below-snoc f n) ∙ xor_all-snoc (map f (below n)) (f n)
