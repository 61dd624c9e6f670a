-- The two folds, one more at a time: the exclusive or of the first n without those that a mask leaves out (01, What a zone holds). Assumes nothing.
use Rattle.std.specs.Prelude.{◌≡◌, refl, Bool, true, cond, not, ℕ, ◌+◌, ◌≤◌, ◌<◌, length, get_or, replicate}
use Rattle.std.proofs.Math.Path.{ap}
use Rattle.std.proofs.Common.{◌∙◌, arith}
use mathlib.Core.List.{List, [], ◌∷◌, ◌++◌, map, append-nil}
use Rattle.std.proofs.Math.Bool.{false}
use Rattle.std.proofs.lemmas.Bool.{not-true}
use Rattle.std.specs.Int.Bits.{bit_xor}
use Rattle.spec.specs.Bytes.{part, xors, parity, xor_all}
use Rattle.spec.specs.Lists.{up_from, below, cons_if, keep, is_in}
use Rattle.law_basic.specs.Each.{each_map, each_below, each_keep}
use Rattle.law_basic.specs.Mask.{is_in_empty}
use Rattle.law_basic.specs.Ranges.{map-append, keep-below-snoc}
use Rattle.law_basic.specs.Splice.{length_part}
use Rattle.law_basic.specs.Xor.{AllLong, parity-snoc, xor_all-snoc}

-- the first n without those that are left out
abbrev pub kept : ℕ → ℕ → List ℕ
kept out n = keep (λ k. not (is_in out k)) (below n)

-- parts of one length, by their offsets
abbrev pub parts_of : List ℕ → List ℕ → ℕ → List ℕ → List (List ℕ)
parts_of src at n l = map (λ k. part (get_or at k 0) n src) l

-- the parts that enter lie in the buffer
abbrev pub PartsWithin : ℕ → ℕ → List ℕ → ℕ → ℕ → Type 0
PartsWithin out n at b long = (k : ℕ) → k < n → is_in out k ≡ false → get_or at k 0 + b ≤ long

-- with nothing left out, all
every_kept : (l : List ℕ) → keep (λ k. not (is_in 0 k)) l ≡ l
unfolding keep cons_if
every_kept [] = refl
every_kept (k ∷ l) = rw (is_in_empty k) (ap (λ (m : List ℕ). k ∷ m) (every_kept l))

pub kept_none_out : (n : ℕ) → kept 0 n ≡ below n
kept_none_out n = every_kept (below n)

pub kept_more : (out k : ℕ) → kept out (k + 1) ≡ kept out k ++ cons_if (not (is_in out k)) k []
kept_more out k = keep-below-snoc (λ x. not (is_in out x)) k

pub numbers_none : (f : ℕ → ℕ) (out : ℕ) → xor_all (map f (kept out 0)) ≡ 0
unfolding keep below up_from xor_all
numbers_none f out = refl

pub numbers_more : (f : ℕ → ℕ) (out k : ℕ) → xor_all (map f (kept out (k + 1))) ≡ cond (is_in out k) (xor_all (map f (kept out k))) (bit_xor (xor_all (map f (kept out k))) (f k))
numbers_more f out k = ap (λ (l : List ℕ). xor_all (map f l)) (kept_more out k) ∙ go (is_in out k)
  where
    l : List ℕ
    l = kept out k

    go : (b : Bool) → xor_all (map f (l ++ cons_if (not b) k [])) ≡ cond b (xor_all (map f l)) (bit_xor (xor_all (map f l)) (f k))
    go true = unfold cons_if in ap (λ (m : List ℕ). xor_all (map f m)) (append-nil l)
    go false = unfold cons_if in (ap xor_all (map-append f l (k ∷ [])) ∙ xor_all-snoc (map f l) (f k))

pub blocks_none : (n : ℕ) (f : ℕ → List ℕ) (out : ℕ) → parity n (map f (kept out 0)) ≡ replicate n 0
unfolding keep below up_from parity
blocks_none n f out = refl

pub folded_long : (n : ℕ) (f : ℕ → List ℕ) (out k : ℕ) → ((i : ℕ) → i < k → is_in out i ≡ false → length (f i) ≡ n) → AllLong n (map f (kept out k))
folded_long n f out k h = each_map (λ (b : List ℕ). length b ≡ n) f (kept out k)
    (each_keep (λ i. length (f i) ≡ n) (λ i. not (is_in out i)) (below k) (each_below (λ i. not (is_in out i) ≡ true → length (f i) ≡ n) k (λ i l e. h i l (not-true (is_in out i) e))))

pub blocks_more : (n : ℕ) (f : ℕ → List ℕ) (out k : ℕ) → ((i : ℕ) → i < k + 1 → is_in out i ≡ false → length (f i) ≡ n)
    → parity n (map f (kept out (k + 1))) ≡ cond (is_in out k) (parity n (map f (kept out k))) (xors (parity n (map f (kept out k))) (f k))
blocks_more n f out k h = ap (λ (l : List ℕ). parity n (map f l)) (kept_more out k) ∙ go (is_in out k) (λ e. h k (omega arith) e)
  where
    l : List ℕ
    l = kept out k

    go : (b : Bool) → (b ≡ false → length (f k) ≡ n) → parity n (map f (l ++ cons_if (not b) k [])) ≡ cond b (parity n (map f l)) (xors (parity n (map f l)) (f k))
    go true e = unfold cons_if in ap (λ (m : List ℕ). parity n (map f m)) (append-nil l)
    go false e = unfold cons_if in (ap (parity n) (map-append f l (k ∷ [])) ∙ parity-snoc n (map f l) (f k) (folded_long n f out k (λ i a b. h i (omega arith) b)) (e refl))

-- parts that lie in the buffer are as long as asked
pub parts_long : (src at : List ℕ) (b out n : ℕ) → PartsWithin out n at b (length src) → (k : ℕ) → k < n → is_in out k ≡ false → length (part (get_or at k 0) b src) ≡ b
parts_long src at b out n w k l e = length_part (get_or at k 0) b src (w k l e)
