-- Laws of parts and splices (01, The array: a block is a part of the image). Assumes nothing.
use Rattle.std.specs.Prelude.{◌≡◌, refl, List, [], ◌∷◌, ◌++◌, ℕ, suc, ◌+◌, ◌-◌, ◌≤◌, ◌<◌, take, set}
use Rattle.std.proofs.Common.{sym, ap₂, ◌∙◌, append-nil, append_assoc, arith, add-one, take_all, take-suc, drop-cons, take-suc-set, drop-drop, take-add}
use Rattle.std.proofs.Common.{ext_get_or, take_at, length-append, take-append-drop, length-drop, drop_of_length-le, add-zero, zero-add, suc-add, add_assoc, le_of_eq}
use Rattle.std.proofs.Math.Path.{ap}
use Rattle.std.proofs.Math.Decide.{dec_lt}
use Rattle.std.proofs.Math.Seq.{append_snoc, drop-append-add, get_or-append-add, take-set-lt, get_or-take, get_or-drop}
use Rattle.std.proofs.lemmas.List.{take-append-le, drop-append-le, set-append_left, set_at}
use Rattle.std.proofs.Math.ListN.{length, get_or, drop, length-take, get_or-append}
use Rattle.std.proofs.Math.Nat.{add-sub_cancel_left}
use Rattle.spec.specs.Bytes.{part, splice}

pub length_part : (at n : ℕ) (l : List ℕ) → at + n ≤ length l → length (part at n l) ≡ n
unfolding part
length_part at n l h = simp (length-take, length-drop) (omega arith)

pub get_d_part : (at n : ℕ) (l : List ℕ) (i : ℕ) → i < n → get_or (part at n l) i 0 ≡ get_or l (at + i) 0
unfolding part
get_d_part at n l i h = rw (get_or-take, get_or-drop)

module _ (l : List ℕ) (at : ℕ) (s : List ℕ) (fits : at + length s ≤ length l) where
  head_length : length (take at l) ≡ at
  head_length = simp length-take (omega arith)

  pub length-splice : length (splice l at s) ≡ length l
  unfolding splice
  length-splice = simp (length-append, length-take, length-drop) (omega arith)

  pub get_d_splice-below : (i : ℕ) → i < at → get_or (splice l at s) i 0 ≡ get_or l i 0
  unfolding splice
  get_d_splice-below i h =
      let k : i < length (take at l) = omega (arith, head_length) in
      get_or-append (take at l) (s ++ drop (at + length s) l) 0 i k ∙ get_or-take at l i 0 h

  pub get_d_splice_in : (i : ℕ) → i < length s → get_or (splice l at s) (at + i) 0 ≡ get_or s i 0
  unfolding splice
  get_d_splice_in i h =
      ap (λ (k : ℕ). get_or (splice l at s) (k + i) 0) (sym head_length)
      ∙ get_or-append-add (take at l) (s ++ drop (at + length s) l) i 0
      ∙ get_or-append s (drop (at + length s) l) 0 i h

  pub get_d_splice_above : (i : ℕ) → get_or (splice l at s) (at + length s + i) 0 ≡ get_or l (at + length s + i) 0
  unfolding splice
  get_d_splice_above i =
      ap (λ (k : ℕ). get_or (splice l at s) k 0) (add_assoc at (length s) i)
      ∙ ap (λ (k : ℕ). get_or (splice l at s) (k + (length s + i)) 0) (sym head_length)
      ∙ get_or-append-add (take at l) (s ++ drop (at + length s) l) (length s + i) 0
      ∙ get_or-append-add s (drop (at + length s) l) i 0
      ∙ get_or-drop (at + length s) l i 0

  -- the same, by the index itself
  pub get_d_splice-past : (i : ℕ) → at + length s ≤ i → get_or (splice l at s) i 0 ≡ get_or l i 0
  get_d_splice-past i h =
      let e : at + length s + (i - (at + length s)) ≡ i = omega arith in
      rw e at (get_d_splice_above (i - (at + length s)))

  pub get_d_splice-at : (i : ℕ) → at ≤ i → i < at + length s → get_or (splice l at s) i 0 ≡ get_or s (i - at) 0
  get_d_splice-at i h k =
      let e : at + (i - at) ≡ i = omega arith in
      ap (λ (x : ℕ). get_or (splice l at s) x 0) (sym e) ∙ get_d_splice_in (i - at) (omega arith)

  -- what was written is read
  pub part-splice : part at (length s) (splice l at s) ≡ s
  part-splice =
      let lp : at + length s ≤ length (splice l at s) = omega (arith, length-splice) in
      ext_get_or 0 (part at (length s) (splice l at s)) s (length_part at (length s) (splice l at s) lp)
      (λ i h.
      let h' : i < length s = omega (arith, length_part at (length s) (splice l at s) lp) in
      get_d_part at (length s) (splice l at s) i h' ∙ get_d_splice_in i h')

  -- and at a place that ends before it, or begins after it
  pub part-splice-below : (a n : ℕ) → a + n ≤ at → part a n (splice l at s) ≡ part a n l
  part-splice-below a n h =
      let e : length (part a n (splice l at s)) ≡ n = length_part a n (splice l at s) (omega (arith, length-splice)) in
      let e' : length (part a n l) ≡ n = length_part a n l (omega arith) in
      ext_get_or 0 (part a n (splice l at s)) (part a n l) (e ∙ sym e')
      (λ i k. get_d_part a n (splice l at s) i (omega arith) ∙ get_d_splice-below (a + i) (omega arith) ∙ sym (get_d_part a n l i (omega arith)))

  pub part-splice_above : (a n : ℕ) → at + length s ≤ a → a + n ≤ length l → part a n (splice l at s) ≡ part a n l
  part-splice_above a n h t =
      let e : length (part a n (splice l at s)) ≡ n = length_part a n (splice l at s) (omega (arith, length-splice)) in
      let e' : length (part a n l) ≡ n = length_part a n l t in
      ext_get_or 0 (part a n (splice l at s)) (part a n l) (e ∙ sym e')
      (λ i k. get_d_part a n (splice l at s) i (omega arith) ∙ get_d_splice-past (a + i) (omega arith) ∙ sym (get_d_part a n l i (omega arith)))

-- ---- parts

pub part-zero : (at : ℕ) (l : List ℕ) → part at 0 l ≡ []
unfolding part
part-zero at l = refl

pub part-suc : (at n : ℕ) (l : List ℕ) → at + n < length l → part at (n + 1) l ≡ part at n l ++ (get_or l (at + n) 0 ∷ [])
unfolding part
part-suc at n l h =
    let k : n < length (drop at l) = simp length-drop (omega arith) in
    rw (add-one, take-suc (drop at l) n 0 k, get_or-drop)

pub part-all : (n : ℕ) (l : List ℕ) → length l ≤ n → part 0 n l ≡ l
unfolding part
part-all n l h = take_all n l h

-- two parts that meet
pub part-add : (at n m : ℕ) (l : List ℕ) → part at (n + m) l ≡ part at n l ++ part (at + n) m l
unfolding part
part-add at n m l = take-add n m (drop at l) ∙ ap (λ (x : List ℕ). take n (drop at l) ++ take m x) (drop-drop n at l)

-- a part of a part
pub part-part : (l : List ℕ) (a m e n : ℕ) → e + n ≤ m → a + m ≤ length l → part e n (part a m l) ≡ part (a + e) n l
part-part l a m e n h g =
    let lm : length (part a m l) ≡ m = length_part a m l g in
    let l₁ : length (part e n (part a m l)) ≡ n = length_part e n (part a m l) (omega (arith, lm)) in
    let l₂ : length (part (a + e) n l) ≡ n = length_part (a + e) n l (omega arith) in
    ext_get_or 0 (part e n (part a m l)) (part (a + e) n l) (l₁ ∙ sym l₂)
    (λ i q.
    let r : i < n = omega (arith, l₁) in
    get_d_part e n (part a m l) i r ∙ get_d_part a m l (e + i) (omega arith) ∙ ap (λ (x : ℕ). get_or l x 0) (sym (add_assoc a e i))
    ∙ sym (get_d_part (a + e) n l i r))

-- a part of two lists joined
pub part-append_left : (a n : ℕ) (s t : List ℕ) → a + n ≤ length s → part a n (s ++ t) ≡ part a n s
unfolding part
part-append_left a n s t h =
    let k : a ≤ length s = omega arith in
    let g : n ≤ length (drop a s) = simp length-drop (omega arith) in
    ap (take n) (drop-append-le a s t k) ∙ take-append-le n (drop a s) t g

pub part-append_right : (a n : ℕ) (s t : List ℕ) → part (length s + a) n (s ++ t) ≡ part a n t
unfolding part
part-append_right a n s t = ap (take n) (drop-append-add s t a)

-- ---- splices

pub splice-nil : (l : List ℕ) (a : ℕ) → splice l a [] ≡ l
unfolding splice
splice-nil l a = ap (λ (x : ℕ). take a l ++ drop x l) (add-zero a) ∙ take-append-drop a l

pub splice-zero : (l s : List ℕ) → splice l 0 s ≡ s ++ drop (length s) l
unfolding splice
splice-zero l s = ap (λ (k : ℕ). s ++ drop k l) (zero-add (length s))

pub splice_all : (l s : List ℕ) → length s ≡ length l → splice l 0 s ≡ s
splice_all l s e = splice-zero l s ∙ ap (λ (r : List ℕ). s ++ r) (drop_of_length-le l (le_of_eq (sym e))) ∙ append-nil s

pub splice-cons-suc : (x : ℕ) (l : List ℕ) (a : ℕ) (s : List ℕ) → splice (x ∷ l) (suc a) s ≡ x ∷ splice l a s
unfolding splice
splice-cons-suc x l a s = ap (λ (k : ℕ). x ∷ (take a l ++ (s ++ drop k (x ∷ l)))) (suc-add a (length s))

-- what stands there, spliced in, changes nothing
pub splice-part : (l : List ℕ) (at n : ℕ) → at + n ≤ length l → splice l at (part at n l) ≡ l
unfolding splice part
splice-part l at n h =
    let e : length (take n (drop at l)) ≡ n = simp (length-take, length-drop) (omega arith) in
    ap (λ (k : ℕ). take at l ++ (take n (drop at l) ++ drop (at + k) l)) e
    ∙ ap (λ (x : List ℕ). take at l ++ (take n (drop at l) ++ x)) (sym (drop-drop n at l))
    ∙ ap (λ (x : List ℕ). take at l ++ x) (take-append-drop n (drop at l)) ∙ take-append-drop at l

-- a store just before a part that was spliced in
pub splice-cons : (l : List ℕ) (at : ℕ) (b : ℕ) (s : List ℕ) → at + 1 + length s ≤ length l → set (splice l (at + 1) s) at b ≡ splice l at (b ∷ s)
unfolding splice
splice-cons l at b s h =
    let k : at < length (take (at + 1) l) = simp length-take (omega arith) in
    let q : at < length l = omega arith in
    let e : at + 1 + length s ≡ at + suc (length s) = omega arith in
    set-append_left (take (at + 1) l) (s ++ drop (at + 1 + length s) l) at b k
    ∙ ap (λ (x : List ℕ). x ++ (s ++ drop (at + 1 + length s) l))
    (ap (λ (n : ℕ). set (take n l) at b) (add-one at) ∙ sym (take-set-lt (suc at) l at b (omega arith)) ∙ take-suc-set l at b q)
    ∙ append_assoc (take at l) (b ∷ []) (s ++ drop (at + 1 + length s) l)
    ∙ ap (λ (n : ℕ). take at l ++ (b ∷ (s ++ drop n l))) e

-- a store just after it
pub splice-snoc : (l : List ℕ) (a : ℕ) (s : List ℕ) (v : ℕ) → a + length s < length l → set (splice l a s) (a + length s) v ≡ splice l a (s ++ (v ∷ []))
unfolding splice
splice-snoc l a s v h =
    let e : length (take a l ++ s) ≡ a + length s = simp (length-append, length-take) (omega arith) in
    let n : length (s ++ (v ∷ [])) ≡ length s + 1 = length-append s (v ∷ []) in
    let k : a + (length s + 1) ≡ suc (a + length s) = omega arith in
    rw (n, k, drop-cons l (a + length s) 0)
    (ap (λ (x : List ℕ). set x (a + length s) v) (sym (append_assoc (take a l) s (get_or l (a + length s) 0 ∷ drop (suc (a + length s)) l)))
    ∙ set_at (take a l ++ s) (get_or l (a + length s) 0) (drop (suc (a + length s)) l) v (a + length s) e
    ∙ append_assoc (take a l) s (v ∷ drop (suc (a + length s)) l)
    ∙ ap (λ (x : List ℕ). take a l ++ x) (sym (append_snoc s v (drop (suc (a + length s)) l))))

-- one turn of a loop that writes a part
pub wrote_one : (l l' : List ℕ) (a i : ℕ) (s : List ℕ) (v : ℕ) → l' ≡ splice l a s → length s ≡ i → a + i < length l → set l' (a + i) v ≡ splice l a (s ++ (v ∷ []))
wrote_one l l' a i s v e n h =
    let k : a + length s < length l = omega arith in
    ap₂ (λ (x : List ℕ) (y : ℕ). set x (a + y) v) e (sym n) ∙ splice-snoc l a s v k

-- four stores one after the other
pub wrote_four : (l : List ℕ) (a x y z v : ℕ) → a + 4 ≤ length l → set (set (set (set l a x) (a + 1) y) (a + 2) z) (a + 3) v ≡ splice l a (x ∷ y ∷ z ∷ v ∷ [])
wrote_four l a x y z v h =
    let e : set l a x ≡ splice l a (x ∷ []) = ap (λ (i : ℕ). set l i x) (sym (add-zero a)) ∙ wrote_one l l a 0 [] x (sym (splice-nil l a)) refl (omega arith) in
    let f : set (set l a x) (a + 1) y ≡ splice l a (x ∷ y ∷ []) = wrote_one l (set l a x) a 1 (x ∷ []) y e refl (omega arith) in
    let g : set (set (set l a x) (a + 1) y) (a + 2) z ≡ splice l a (x ∷ y ∷ z ∷ []) = wrote_one l (set (set l a x) (a + 1) y) a 2 (x ∷ y ∷ []) z f refl (omega arith) in
    wrote_one l (set (set (set l a x) (a + 1) y) (a + 2) z) a 3 (x ∷ y ∷ z ∷ []) v g refl (omega arith)

-- a splice and the next one make one
pub splice_next : (l : List ℕ) (at : ℕ) (s t : List ℕ) → at + length s + length t ≤ length l → splice (splice l at s) (at + length s) t ≡ splice l at (s ++ t)
unfolding splice
splice_next l at s t h =
    let hd : List ℕ = take at l ++ s in
    let rest : List ℕ = drop (at + length s) l in
    let n : length hd ≡ at + length s = simp (length-append, length-take) (omega arith) in
    let g : take at l ++ (s ++ rest) ≡ hd ++ rest = sym (append_assoc (take at l) s rest) in
    let k : at + length s + length t ≡ length hd + length t = omega arith in
    let e : length (s ++ t) ≡ length s + length t = length-append s t in
    ap₂ (λ (x y : List ℕ). x ++ (t ++ y)) (ap (take (at + length s)) g ∙ take_at hd rest (at + length s) n)
    (ap (drop (at + length s + length t)) g ∙ ap (λ (i : ℕ). drop i (hd ++ rest)) k ∙ drop-append-add hd rest (length t) ∙ drop-drop (length t) (at + length s) l)
    ∙ append_assoc (take at l) s (t ++ drop (at + length s + length t) l)
    ∙ ap (λ (x : List ℕ). take at l ++ x) (sym (append_assoc s t (drop (at + length s + length t) l)))
    ∙ ap (λ (i : ℕ). take at l ++ (s ++ t ++ drop i l)) (add_assoc at (length s) (length t) ∙ ap (λ (i : ℕ). at + i) (sym e))

-- two lists of one length with the same elements below a place, within it and past it
module _ (l : List ℕ) (at : ℕ) (s m : List ℕ) (fits : at + length s ≤ length l) (long : length m ≡ length l)
    (low : (i : ℕ) → i < at → get_or m i 0 ≡ get_or l i 0) (mid : (i : ℕ) → i < length s → get_or m (at + i) 0 ≡ get_or s i 0)
    (top : (i : ℕ) → at + length s ≤ i → get_or m i 0 ≡ get_or l i 0) where
  is_at : (i : ℕ) → Dec (i < at) → Dec (i < at + length s) → get_or m i 0 ≡ get_or (splice l at s) i 0
  is_at i (yes h) k = low i h ∙ sym (get_d_splice-below l at s fits i h)
  is_at i (no h) (yes k) =
      let e : at + (i - at) ≡ i = omega arith in
      ap (λ (x : ℕ). get_or m x 0) (sym e) ∙ mid (i - at) (omega arith) ∙ sym (get_d_splice-at l at s fits i (omega arith) k)
  is_at i (no h) (no k) = top i (omega arith) ∙ sym (get_d_splice-past l at s fits i (omega arith))

  pub is_splice : m ≡ splice l at s
  is_splice = ext_get_or 0 m (splice l at s) (long ∙ sym (length-splice l at s fits)) (λ i q. is_at i (dec_lt i at) (dec_lt i (at + length s)))

-- a splice within what was spliced in
pub splice_inner : (l : List ℕ) (at : ℕ) (s : List ℕ) (j : ℕ) (t : List ℕ) → at + length s ≤ length l → j + length t ≤ length s
    → splice (splice l at s) (at + j) t ≡ splice l at (splice s j t)
splice_inner l at s j t h g =
    let ls : length (splice l at s) ≡ length l = length-splice l at s h in
    let lt : length (splice s j t) ≡ length s = length-splice s j t g in
    let f : at + length (splice s j t) ≤ length l = omega arith in
    let e : length (splice l at (splice s j t)) ≡ length l = length-splice l at (splice s j t) f in
    let r : at + j + length t ≤ length (splice l at s) = omega arith in
    sym (is_splice (splice l at s) (at + j) t (splice l at (splice s j t)) r (e ∙ sym ls)
    (λ i k. below i k (dec_lt i at))
    (λ i k. ap (λ (x : ℕ). get_or (splice l at (splice s j t)) x 0) (add_assoc at j i) ∙ get_d_splice_in l at (splice s j t) f (j + i) (omega arith) ∙ get_d_splice_in s j t g i k)
    (λ i k. above i k (dec_lt i (at + length s))))
  where
    f' : at + length (splice s j t) ≤ length l
    f' = omega (arith, length-splice s j t g)

    below : (i : ℕ) → i < at + j → Dec (i < at) → get_or (splice l at (splice s j t)) i 0 ≡ get_or (splice l at s) i 0
    below i k (yes q) = get_d_splice-below l at (splice s j t) f' i q ∙ sym (get_d_splice-below l at s h i q)
    below i k (no q) =
        get_d_splice-at l at (splice s j t) f' i (omega arith) (omega (arith, length-splice s j t g)) ∙ get_d_splice-below s j t g (i - at) (omega arith)
        ∙ sym (get_d_splice-at l at s h i (omega arith) (omega arith))

    above : (i : ℕ) → at + j + length t ≤ i → Dec (i < at + length s) → get_or (splice l at (splice s j t)) i 0 ≡ get_or (splice l at s) i 0
    above i k (yes q) =
        get_d_splice-at l at (splice s j t) f' i (omega arith) (omega (arith, length-splice s j t g)) ∙ get_d_splice-past s j t g (i - at) (omega arith)
        ∙ sym (get_d_splice-at l at s h i (omega arith) q)
    above i k (no q) = get_d_splice-past l at (splice s j t) f' i (omega (arith, length-splice s j t g)) ∙ sym (get_d_splice-past l at s h i (omega arith))

-- a splice over another at the same place
pub splice_again : (l : List ℕ) (at : ℕ) (s t : List ℕ) → at + length s ≤ length l → length t ≡ length s → splice (splice l at s) at t ≡ splice l at t
splice_again l at s t h e =
    ap (λ (x : ℕ). splice (splice l at s) x t) (sym (add-zero at)) ∙ splice_inner l at s 0 t h (omega arith) ∙ ap (splice l at) (splice_all s t e)

-- splices at places that do not meet
pub splice_comm : (l : List ℕ) (a : ℕ) (s : List ℕ) (b : ℕ) (t : List ℕ) → a + length s ≤ b → b + length t ≤ length l
    → splice (splice l a s) b t ≡ splice (splice l b t) a s
splice_comm l a s b t h g =
    let f : a + length s ≤ length l = omega arith in
    let la : length (splice l a s) ≡ length l = length-splice l a s f in
    let lb : length (splice l b t) ≡ length l = length-splice l b t g in
    let fa : a + length s ≤ length (splice l b t) = omega arith in
    let fb : b + length t ≤ length (splice l a s) = omega arith in
    let e : length (splice (splice l a s) b t) ≡ length (splice l b t) = length-splice (splice l a s) b t fb ∙ la ∙ sym lb in
    is_splice (splice l b t) a s (splice (splice l a s) b t) fa e
    (λ i k. get_d_splice-below (splice l a s) b t fb i (omega arith) ∙ get_d_splice-below l a s f i k ∙ sym (get_d_splice-below l b t g i (omega arith)))
    (λ i k. get_d_splice-below (splice l a s) b t fb (a + i) (omega arith) ∙ get_d_splice_in l a s f i k)
    (λ i k. past i k (dec_lt i b) (dec_lt i (b + length t)))
  where
    f' : a + length s ≤ length l
    f' = omega arith

    fb' : b + length t ≤ length (splice l a s)
    fb' = omega (arith, length-splice l a s f')

    past : (i : ℕ) → a + length s ≤ i → Dec (i < b) → Dec (i < b + length t) → get_or (splice (splice l a s) b t) i 0 ≡ get_or (splice l b t) i 0
    past i k (yes q) r = get_d_splice-below (splice l a s) b t fb' i q ∙ get_d_splice-past l a s f' i k ∙ sym (get_d_splice-below l b t g i q)
    past i k (no q) (yes r) = get_d_splice-at (splice l a s) b t fb' i (omega arith) r ∙ sym (get_d_splice-at l b t g i (omega arith) r)
    past i k (no q) (no r) = get_d_splice-past (splice l a s) b t fb' i (omega arith) ∙ get_d_splice-past l a s f' i k ∙ sym (get_d_splice-past l b t g i (omega arith))

-- ---- a part that was lent: `take k (drop a l)`, and `take a l ++ (s ++ drop k (drop a l))`, with k = a + n - a

pub part_lent : (a n : ℕ) (l : List ℕ) → take (a + n - a) (drop a l) ≡ part a n l
unfolding part
part_lent a n l = ap (λ (k : ℕ). take k (drop a l)) (add-sub_cancel_left a n)

pub splice_lent : (a n : ℕ) (l s : List ℕ) → length s ≡ n → take a l ++ (s ++ drop (a + n - a) (drop a l)) ≡ splice l a s
unfolding splice
splice_lent a n l s e =
    ap (λ (x : List ℕ). take a l ++ (s ++ x)) (drop-drop (a + n - a) a l ∙ ap (λ (k : ℕ). drop (a + k) l) (add-sub_cancel_left a n ∙ sym e))
