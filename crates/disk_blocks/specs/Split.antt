-- A list and its two parts (01, The array: a block is a part of the image): what is read and written in one part is so in the list. Assumes nothing.
use Rattle.std.specs.Prelude.{◌≡◌, List, [], ◌∷◌, ◌++◌, ℕ, suc, ◌+◌, ◌-◌, ◌≤◌, length, take, drop}
use Rattle.std.proofs.Common.{sym, ap, ap₂, ◌∙◌, append_assoc, arith, add-zero, zero-add}
use Rattle.std.proofs.lemmas.List.{take-append-le, drop-append-le}
use Rattle.spec.specs.Bytes.{part, splice, xors}
use Rattle.law_basic.specs.Splice.{part_lent, part-append_left, part-append_right, splice-cons-suc}

pub splice_left : (s t : List ℕ) (a : ℕ) (m : List ℕ) → a + length m ≤ length s → splice (s ++ t) a m ≡ splice s a m ++ t
unfolding splice
splice_left s t a m h =
    ap₂ (λ (x y : List ℕ). x ++ (m ++ y)) (take-append-le a s t (omega arith)) (drop-append-le (a + length m) s t h)
    ∙ ap (λ (x : List ℕ). take a s ++ x) (sym (append_assoc m (drop (a + length m) s) t)) ∙ sym (append_assoc (take a s) (m ++ drop (a + length m) s) t)

pub splice_right : (s t : List ℕ) (a : ℕ) (m : List ℕ) → splice (s ++ t) (length s + a) m ≡ s ++ splice t a m
splice_right [] t a m = ap (λ (x : ℕ). splice t x m) (zero-add a)
splice_right (x ∷ s) t a m =
    let e : length (x ∷ s) + a ≡ suc (length s + a) = omega arith in
    ap (λ (k : ℕ). splice (x ∷ (s ++ t)) k m) e ∙ splice-cons-suc x (s ++ t) (length s + a) m ∙ ap (λ (l : List ℕ). x ∷ l) (splice_right s t a m)

module _ (l s t : List ℕ) (e : l ≡ s ++ t) where
  pub left_written : (a : ℕ) (m : List ℕ) → a + length m ≤ length s → splice s a m ++ t ≡ splice l a m
  left_written a m h = sym (ap (λ (x : List ℕ). splice x a m) e ∙ splice_left s t a m h)

  pub right_written : (a : ℕ) (m : List ℕ) → length s ≡ a → s ++ splice t 0 m ≡ splice l a m
  right_written a m h = sym (ap₂ (λ (x : List ℕ) (k : ℕ). splice x k m) e (sym h ∙ sym (add-zero (length s))) ∙ splice_right s t 0 m)

  pub left_part : (b n : ℕ) → b + n ≤ length s → part b n s ≡ part b n l
  left_part b n h = sym (ap (part b n) e ∙ part-append_left b n s t h)

  pub right_part : (b n : ℕ) → length s ≡ b → part 0 n t ≡ part b n l
  right_part b n h = sym (ap₂ (λ (x : List ℕ) (k : ℕ). part k n x) e (sym h ∙ sym (add-zero (length s))) ∙ part-append_right 0 n s t)

  -- the same parts as they are lent
  pub left_taken : (b n : ℕ) → b + n ≤ length s → take (b + n - b) (drop b s) ≡ part b n l
  left_taken b n h = part_lent b n s ∙ left_part b n h

  pub right_taken : (b n : ℕ) → length s ≡ b → take n t ≡ part b n l
  unfolding part
  right_taken b n h = right_part b n h

  -- exclusive-ored with as many bytes
  pub left_xored : (a n : ℕ) (p q : List ℕ) → p ≡ q → length q ≡ n → a + n ≤ length s → xors (part a (length p) s) p ≡ xors (part a n l) q
  left_xored a n p q f g h = ap₂ xors (ap (λ (k : ℕ). part a k s) (ap length f ∙ g) ∙ left_part a n h) f

  pub right_xored : (a n : ℕ) (p q : List ℕ) → p ≡ q → length q ≡ n → length s ≡ a → xors (part 0 (length p) t) p ≡ xors (part a n l) q
  right_xored a n p q f g h = ap₂ xors (ap (λ (k : ℕ). part 0 k t) (ap length f ∙ g) ∙ right_part a n h) f
