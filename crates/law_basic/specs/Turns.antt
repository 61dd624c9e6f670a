-- One turn of a loop that writes a part of a buffer: the splice grows by an element. Assumes nothing.
use Rattle.std.specs.Prelude.{◌≡◌, List, [], ◌∷◌, ◌++◌, ◌⊎◌, ℕ, ◌+◌, ◌≤◌, ◌<◌, length, get_or, take, set}
use Rattle.std.proofs.Common.{sym, ap, ap₂, ◌∙◌, inl, inr, arith, add-one, length-take-le, take-suc}
use Rattle.std.specs.Int.Bits.{bit_xor}
use Rattle.spec.specs.Bytes.{part, splice, xors}
use Rattle.law_basic.specs.Splice.{length_part, get_d_splice-below, get_d_splice-past, part-suc, wrote_one}
use Rattle.law_basic.specs.Xor.{length-xors, xors-snoc}

-- the n bytes from a and those from b do not meet
abbrev pub Apart : ℕ → ℕ → ℕ → Type 0
Apart a b n = (a + n ≤ b) ⊎ (b + n ≤ a)

module _ (l l' : List ℕ) (a i : ℕ) (s : List ℕ) (e : l' ≡ splice l a s) (n : length s ≡ i) where
  -- what is not yet written is as it was
  pub still_here : a + i < length l → get_or l' (a + i) 0 ≡ get_or l (a + i) 0
  still_here h = ap (λ (x : List ℕ). get_or x (a + i) 0) e ∙ get_d_splice-past l a s (omega arith) (a + i) (omega arith)

  pub still_apart : (b m : ℕ) → Apart a b m → i < m → a + m ≤ length l → get_or l' (b + i) 0 ≡ get_or l (b + i) 0
  still_apart b m (inl h) k f = ap (λ (x : List ℕ). get_or x (b + i) 0) e ∙ get_d_splice-past l a s (omega arith) (b + i) (omega arith)
  still_apart b m (inr h) k f = ap (λ (x : List ℕ). get_or x (b + i) 0) e ∙ get_d_splice-below l a s (omega arith) (b + i) (omega arith)

  -- a byte more
  pub turn : (v : ℕ) (t : List ℕ) → a + i < length l → s ++ (v ∷ []) ≡ t → set l' (a + i) v ≡ splice l a t
  turn v t h q = wrote_one l l' a i s v e n h ∙ ap (splice l a) q

-- ---- what the loops write

pub take_more : (m : List ℕ) (i : ℕ) → i < length m → take i m ++ (get_or m i 0 ∷ []) ≡ take (i + 1) m
take_more m i h = sym (ap (λ (k : ℕ). take k m) (add-one i) ∙ take-suc m i 0 h)

pub part-more : (m : List ℕ) (b i : ℕ) → b + i < length m → part b i m ++ (get_or m (b + i) 0 ∷ []) ≡ part b (i + 1) m
part-more m b i h = sym (part-suc b i m h)

pub xors-more : (l m : List ℕ) (a i : ℕ) → a + i < length l → i < length m
    → xors (part a i l) (take i m) ++ (bit_xor (get_or l (a + i) 0) (get_or m i 0) ∷ []) ≡ xors (part a (i + 1) l) (take (i + 1) m)
xors-more l m a i h k =
    let e : length (part a i l) ≡ length (take i m) = length_part a i l (omega arith) ∙ sym (length-take-le i m (omega arith)) in
    sym (ap₂ xors (part-suc a i l h) (sym (take_more m i k)) ∙ xors-snoc (part a i l) (take i m) (get_or l (a + i) 0) (get_or m i 0) e)

pub length-xors-part : (l m : List ℕ) (a i : ℕ) → a + i ≤ length l → length (xors (part a i l) m) ≡ i
length-xors-part l m a i h = length-xors (part a i l) m ∙ length_part a i l h
