-- Pieces as the machine's values: exclusive or of a list of pieces, and over the drives. Assumes nothing.
use Rattle.std.specs.Prelude.{◌≡◌, refl, List, [], ◌∷◌, map, Bool, true, cond, ℕ, zero, suc, ◌+◌, length, get_or}
use Rattle.std.proofs.Math.Path.{sym, ap}
use Rattle.std.proofs.Common.{◌∙◌, inl, inr}
use Rattle.std.proofs.Math.Bool.{false}
use native.Mathlib.Omega.{arith}
use Rattle.std.specs.Int.Bits.{bit_xor, xor_zero_l}
use Rattle.spec.specs.declared.Params.{Params}
use Rattle.spec.specs.Bytes.{xors, parity, xor_all}
use Rattle.spec.specs.Layout.{Rec}
use Rattle.spec.specs.Lists.{up_from, below, cons_if, keep}
use Rattle.spec.specs.Parity.{Piece, mk_piece, parity_rec, parity_piece}
use Rattle.law_basic.specs.Xor.{AllLong, length-parity}
use Rattle.law_drives.specs.Tables.{zero-at}
use Rattle.law_drives.specs.Tests.{cond_true, cond_false}
use Rattle.proof_crash_machine.specs.Val.{Val, 𝟘, ◌⊕◌, ⊕-comm, ⊕-assoc, ⊕-zero, ⊕-swap, xor_n}
use Rattle.proof_crash_items.specs.Items.{value_of}
use Rattle.proof_crash_items.specs.Member.{Has}

unfoldable pub piece_value : Piece → Val
piece_value q = value_of q.block q.rec

pub value_same : (b : List ℕ) (r : Rec) → piece_value (mk_piece b r) ≡ value_of b r
unfolding piece_value
value_same b r = refl

-- ---- exclusive or of a list

unfoldable pub xor_l : List Val → Val
xor_l [] = 𝟘
xor_l (x ∷ l) = x ⊕ xor_l l

get_d_xors : (s t : List ℕ) (i : ℕ) → length s ≡ length t → get_or (xors s t) i 0 ≡ bit_xor (get_or s i 0) (get_or t i 0)
unfolding xors
get_d_xors [] [] i e = sym (xor_zero_l 0)
get_d_xors [] (b ∷ t) i e = absurd (let q : ⊥ = omega arith in q)
get_d_xors (a ∷ s) [] i e = absurd (let q : ⊥ = omega arith in q)
get_d_xors (a ∷ s) (b ∷ t) zero e = refl
get_d_xors (a ∷ s) (b ∷ t) (suc i) e = get_d_xors s t i (omega arith)

-- pieces of one length
abbrev pub PiecesLong : ℕ → List Piece → Type 0
PiecesLong n [] = Unit {0}
PiecesLong n (q ∷ qs) = (length q.block ≡ n) × PiecesLong n qs

pub blocks_of_long : (n : ℕ) (qs : List Piece) → PiecesLong n qs → AllLong n (map (λ (q : Piece). q.block) qs)
blocks_of_long n [] h = tt
blocks_of_long n (q ∷ qs) h = (h.0, blocks_of_long n qs h.1)

pub pieces_long : (n : ℕ) (f : ℕ → Piece) (l : List ℕ) → ((d : ℕ) → Has d l → length (f d).block ≡ n) → PiecesLong n (map f l)
pieces_long n f [] h = tt
pieces_long n f (d ∷ l) h = (h d (inl refl), pieces_long n f l (λ e m. h e (inr m)))

-- the parity of pieces is the exclusive or of their values
pub parity_value : (p : Params) (s : ℕ) (qs : List Piece) → PiecesLong p.B qs → piece_value (parity_piece p s qs) ≡ xor_l (map piece_value qs)
unfolding parity_piece parity_rec piece_value value_of xor_l 𝟘 ◌⊕◌ parity xor_all
parity_value p s [] h = λ j. record { addr = 0; stamp = 0; blk = λ i. zero-at p.B i j }
parity_value p s (q ∷ qs) h = first ∙ ap (λ (x : Val). piece_value q ⊕ x) (parity_value p s qs h.1)
  where
    first : piece_value (parity_piece p s (q ∷ qs)) ≡ piece_value q ⊕ piece_value (parity_piece p s qs)
    first = λ j. record {
      addr = bit_xor q.rec.address (xor_all (map (λ (r : Rec). r.address) (map (λ (q : Piece). q.rec) qs)));
      stamp = bit_xor q.rec.stamp (xor_all (map (λ (r : Rec). r.stamp) (map (λ (q : Piece). q.rec) qs)));
      blk = λ i. get_d_xors q.block (parity p.B (map (λ (q : Piece). q.block) qs)) i
          (h.0 ∙ sym (length-parity p.B (map (λ (q : Piece). q.block) qs) (blocks_of_long p.B qs h.1))) j;
    }

-- ---- over the drives that pass a test

unfoldable pub only_where : (ℕ → Bool) → (ℕ → Val) → ℕ → Val
only_where P F d = cond (P d) (F d) 𝟘

pub only_there : (P : ℕ → Bool) (F : ℕ → Val) (d : ℕ) → P d ≡ true → only_where P F d ≡ F d
unfolding only_where
only_there P F d e = cond_true (P d) (F d) 𝟘 e

pub only_else : (P : ℕ → Bool) (F : ℕ → Val) (d : ℕ) → P d ≡ false → only_where P F d ≡ 𝟘
unfolding only_where
only_else P F d e = cond_false (P d) (F d) 𝟘 e

xor_from : (P : ℕ → Bool) (F : ℕ → Val) (i n : ℕ) → xor_n (i + n) (only_where P F) ≡ xor_l (map F (keep P (up_from i n))) ⊕ xor_n i (only_where P F)
unfolding up_from keep
xor_from P F i zero = unfold xor_l in (ap (λ (k : ℕ). xor_n k (only_where P F)) (let e : i + 0 ≡ i = omega arith in e) ∙ sym (⊕-zero (xor_n i (only_where P F))))
xor_from P F i (suc n) = ap (λ (k : ℕ). xor_n k (only_where P F)) (let e : i + suc n ≡ suc i + n = omega arith in e) ∙ xor_from P F (suc i) n ∙ go (P i) refl
  where
    X : Val
    X = xor_l (map F (keep P (up_from (suc i) n)))

    go : (b : Bool) → P i ≡ b → X ⊕ xor_n (suc i) (only_where P F) ≡ xor_l (map F (cons_if b i (keep P (up_from (suc i) n)))) ⊕ xor_n i (only_where P F)
    go true e = unfold xor_n cons_if xor_l in (
        ap (λ (x : Val). X ⊕ (x ⊕ xor_n i (only_where P F))) (only_there P F i e)
        ∙ ⊕-swap X (F i) (xor_n i (only_where P F)) ∙ sym (⊕-assoc (F i) X (xor_n i (only_where P F))))
    go false e = unfold xor_n cons_if in (
        ap (λ (x : Val). X ⊕ (x ⊕ xor_n i (only_where P F))) (only_else P F i e)
        ∙ ap (λ (x : Val). X ⊕ x) (⊕-zero (xor_n i (only_where P F))))

pub xor_below : (P : ℕ → Bool) (F : ℕ → Val) (n : ℕ) → xor_l (map F (keep P (below n))) ≡ xor_n n (only_where P F)
unfolding below xor_n
xor_below P F n =
    sym (⊕-comm (xor_l (map F (keep P (up_from 0 n)))) 𝟘 ∙ ⊕-zero (xor_l (map F (keep P (up_from 0 n)))))
    ∙ sym (xor_from P F 0 n) ∙ ap (λ (k : ℕ). xor_n k (only_where P F)) (let e : 0 + n ≡ n = omega arith in e)
