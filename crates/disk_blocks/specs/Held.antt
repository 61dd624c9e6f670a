-- Copies and exclusive ors through a local array, and by pieces (01, What a zone holds: parity). Assumes nothing.
use Rattle.std.specs.Prelude.{◌≡◌, refl, List, [], ◌∷◌, ◌++◌, ℕ, ◌+◌, ◌-◌, ◌≤◌, ◌<◌, length, take, set}
use Rattle.std.proofs.Common.{sym, ap, ap₂, ◌∙◌, inl, inr, arith, add-one, take-suc-set}
use Rattle.std.specs.Int.Bits.{bit_xor}
use Rattle.spec.specs.Bytes.{part, splice, xors}
use Rattle.law_basic.specs.Splice.{length_part, part-add, part-splice-below, part-splice_above, splice_next}
use Rattle.law_basic.specs.Turns.{Apart, length-xors-part}

-- one byte more in the array
pub held_more : (l s t : List ℕ) (i v : ℕ) → i < length l → take i l ≡ s → s ++ (v ∷ []) ≡ t → take (i + 1) (set l i v) ≡ t
held_more l s t i v h e f = ap (λ (n : ℕ). take n (set l i v)) (add-one i) ∙ take-suc-set l i v h ∙ ap (λ (x : List ℕ). x ++ (v ∷ [])) e ∙ f

pub xors-append : (s t u v : List ℕ) → length s ≡ length t → xors (s ++ u) (t ++ v) ≡ xors s t ++ xors u v
unfolding xors
xors-append [] [] u v h = refl
xors-append [] (b ∷ t) u v h = absurd (let q : ⊥ = omega arith in q)
xors-append (a ∷ s) [] u v h = absurd (let q : ⊥ = omega arith in q)
xors-append (a ∷ s) (b ∷ t) u v h = ap (λ (l : List ℕ). bit_xor a b ∷ l) (xors-append s t u v (omega arith))

-- the first i bytes are exclusive-ored: a piece of n bytes more
module _ (l l' m : List ℕ) (a b i n : ℕ) (e : l' ≡ splice l a (xors (part a i l) (part b i m))) (h : a + i + n ≤ length l) where
  abbrev done : List ℕ
  done = xors (part a i l) (part b i m)

  length_done : length done ≡ i
  length_done = length-xors-part l (part b i m) a i (omega arith)

  -- what is still to come is as it was
  pub still_ahead : part (a + i) n l' ≡ part (a + i) n l
  still_ahead = ap (part (a + i) n) e ∙ part-splice_above l a done (omega (arith, length_done)) (a + i) n (omega (arith, length_done)) h

  pub piece_more : (p q : List ℕ) → b + i + n ≤ length m → p ≡ part (a + i) n l → q ≡ part (b + i) n m
      → splice l' (a + i) (xors p q) ≡ splice l a (xors (part a (i + n) l) (part b (i + n) m))
  piece_more p q g f k =
      let t : List ℕ = xors (part (a + i) n l) (part (b + i) n m) in
      let w : length t ≡ n = length-xors-part l (part (b + i) n m) (a + i) n h in
      let z : length (part a i l) ≡ length (part b i m) = length_part a i l (omega arith) ∙ sym (length_part b i m (omega arith)) in
      ap₂ (λ (x y : List ℕ). splice x (a + i) y) e (ap₂ xors f k) ∙ ap (λ (x : ℕ). splice (splice l a done) (a + x) t) (sym length_done)
      ∙ splice_next l a done t (omega (arith, length_done)) ∙ ap (splice l a) (sym (xors-append (part a i l) (part b i m) (part (a + i) n l) (part (b + i) n m) z)
      ∙ ap₂ xors (sym (part-add a i n l)) (sym (part-add b i n m)))

-- the same of the other bytes of one buffer
pub still_beside : (l l' : List ℕ) (a b i n k : ℕ) → l' ≡ splice l a (xors (part a i l) (part b i l)) → Apart a b k → i + n ≤ k → a + k ≤ length l → b + k ≤ length l
    → part (b + i) n l' ≡ part (b + i) n l
still_beside l l' a b i n k e (inl p) h f g =
    let s : List ℕ = xors (part a i l) (part b i l) in
    let z : length s ≡ i = length-xors-part l (part b i l) a i (omega arith) in
    ap (part (b + i) n) e ∙ part-splice_above l a s (omega arith) (b + i) n (omega arith) (omega arith)
still_beside l l' a b i n k e (inr p) h f g =
    let s : List ℕ = xors (part a i l) (part b i l) in
    let z : length s ≡ i = length-xors-part l (part b i l) a i (omega arith) in
    ap (part (b + i) n) e ∙ part-splice-below l a s (omega arith) (b + i) n (omega arith)

pub apart_rest : (a b n i : ℕ) → Apart a b n → i ≤ n → Apart (a + i) (b + i) (n - i)
apart_rest a b n i (inl p) h = inl (omega arith)
apart_rest a b n i (inr p) h = inr (omega arith)
