-- Parity as a code: what is stored on all but P drives determines the stripe. The exclusive or is such a code for P = 1. Assumes nothing.
use Rattle.std.specs.Prelude.{◌≡◌, refl, ◌⊎◌, ◌≢◌, Bool, ℕ, ◌≤◌, ◌<◌, eqb}
use Rattle.std.proofs.Math.Path.{sym, ap}
use Rattle.std.proofs.Common.{◌∙◌, inl, inr, ⊎_elim, arith, eq-eqb, ne_eqb}
use Rattle.std.proofs.Math.Bool.{true, false}
use Rattle.std.proofs.Math.Decide.{ℕ_discrete}
use Rattle.proof_crash_machine.specs.Val.{Val, 𝟘, ◌⊕◌, ⊕-self, ⊕-right, ⊕-left, ⊕-comm, xor_n, xor_n_same, xor_n-put}
use Rattle.proof_crash_machine.specs.Mask.{Mask, count, count_two, two}

pub record Code (N P : ℕ) : Type 0 where
  -- is d a parity drive of stripe s
  pub par : ℕ → ℕ → Bool
  -- the stripe s with the data of f
  pub enc : ℕ → (ℕ → Val) → ℕ → Val
  -- what the drives of m lack, worked out from the others
  pub dec : ℕ → Mask → (ℕ → Val) → ℕ → Val
  pub keeps : (s : ℕ) (f : ℕ → Val) (d : ℕ) → d < N → par s d ≡ false → enc s f d ≡ f d
  pub same : (s : ℕ) (f h : ℕ → Val) → ((d : ℕ) → d < N → par s d ≡ false → f d ≡ h d) → (d : ℕ) → d < N → enc s f d ≡ enc s h d
  -- THE LAW: with at most P missing, the others determine all
  pub law : (s : ℕ) (m : Mask) (f h : ℕ → Val) → count N m ≤ P → ((d : ℕ) → d < N → m d ≡ false → f d ≡ enc s h d) → (d : ℕ) → d < N → m d ≡ true
      → dec s m f d ≡ enc s h d

-- f is a code word: the stripe with its own data
abbrev pub WordOf : {N P : ℕ} → Code N P → ℕ → (ℕ → Val) → Type 0
WordOf {N} c s f = (d : ℕ) → d < N → f d ≡ c.enc s f d

module _ {N P : ℕ} (c : Code N P) (s : ℕ) where
  pub enc_word : (f : ℕ → Val) → WordOf c s (c.enc s f)
  enc_word f d l = c.same s f (c.enc s f) (λ e k q. sym (c.keeps s f e k q)) d l

  pub word_same : (f h : ℕ → Val) → ((d : ℕ) → d < N → f d ≡ h d) → WordOf c s f → WordOf c s h
  word_same f h e w d l = sym (e d l) ∙ w d l ∙ c.same s f h (λ k b q. e k b) d l

  -- words that agree on the present drives agree
  pub unique : (m : Mask) → count N m ≤ P → (f h : ℕ → Val) → WordOf c s f → WordOf c s h → ((d : ℕ) → d < N → m d ≡ false → f d ≡ h d) → (d : ℕ) → d < N
      → f d ≡ h d
  unique m b f h wf wh e d l = ⊎_elim
      (λ (q : m d ≡ true). wf d l ∙ sym (c.law s m f f b (λ k i r. wf k i) d l q) ∙ c.law s m f h b (λ k i r. e k i r ∙ wh k i) d l q ∙ sym (wh d l))
      (λ (q : m d ≡ false). e d l q) (two (m d))

-- ---- the exclusive or: one parity drive
module _ (N : ℕ) (q : ℕ → ℕ) (on : (s : ℕ) → q s < N) where
  -- f, but nothing where the test holds
  unfoldable pub blank : Mask → (ℕ → Val) → ℕ → Val
  blank m f d = elim (m d) [ true ↦ 𝟘 | false ↦ f d ]

  pub blank_in : (m : Mask) (f : ℕ → Val) (d : ℕ) → m d ≡ true → blank m f d ≡ 𝟘
  unfolding blank
  blank_in m f d e = ap (λ (b : Bool). elim b as (λ _. Val) [ true ↦ 𝟘 | false ↦ f d ]) e

  pub blank_out : (m : Mask) (f : ℕ → Val) (d : ℕ) → m d ≡ false → blank m f d ≡ f d
  unfolding blank
  blank_out m f d e = ap (λ (b : Bool). elim b as (λ _. Val) [ true ↦ 𝟘 | false ↦ f d ]) e

  abbrev is_par_holds : ℕ → ℕ → Bool
  is_par_holds s d = eqb d (q s)

  unfoldable pub xenc : ℕ → (ℕ → Val) → ℕ → Val
  xenc s f d = elim (is_par_holds s d) [ true ↦ xor_n N (blank (is_par_holds s) f) | false ↦ f d ]

  unfoldable pub xdec : ℕ → Mask → (ℕ → Val) → ℕ → Val
  xdec s m f d = xor_n N (blank m f)

  xenc_par : (s : ℕ) (f : ℕ → Val) (d : ℕ) → is_par_holds s d ≡ true → xenc s f d ≡ xor_n N (blank (is_par_holds s) f)
  unfolding xenc
  xenc_par s f d e = ap (λ (b : Bool). elim b as (λ _. Val) [ true ↦ xor_n N (blank (is_par_holds s) f) | false ↦ f d ]) e

  pub xenc_data : (s : ℕ) (f : ℕ → Val) (d : ℕ) → is_par_holds s d ≡ false → xenc s f d ≡ f d
  unfolding xenc
  xenc_data s f d e = ap (λ (b : Bool). elim b as (λ _. Val) [ true ↦ xor_n N (blank (is_par_holds s) f) | false ↦ f d ]) e

  not_par : (s d : ℕ) → d ≢ q s → is_par_holds s d ≡ false
  not_par s d n = ne_eqb d (q s) n

  is_par : (s : ℕ) → is_par_holds s (q s) ≡ true
  is_par s = eq-eqb (q s) (q s) refl

  pub xenc_same : (s : ℕ) (f h : ℕ → Val) → ((d : ℕ) → d < N → is_par_holds s d ≡ false → f d ≡ h d) → (d : ℕ) → d < N → xenc s f d ≡ xenc s h d
  xenc_same s f h e d l = ⊎_elim
      (λ (k : is_par_holds s d ≡ true). xenc_par s f d k
      ∙ xor_n_same N (blank (is_par_holds s) f) (blank (is_par_holds s) h) (λ i b. both i b (two (is_par_holds s i))) ∙ sym (xenc_par s h d k))
      (λ (k : is_par_holds s d ≡ false). xenc_data s f d k ∙ e d l k ∙ sym (xenc_data s h d k)) (two (is_par_holds s d))
    where
      both : (i : ℕ) → i < N → (is_par_holds s i ≡ true) ⊎ (is_par_holds s i ≡ false) → blank (is_par_holds s) f i ≡ blank (is_par_holds s) h i
      both i b (inl k) = blank_in (is_par_holds s) f i k ∙ sym (blank_in (is_par_holds s) h i k)
      both i b (inr k) = blank_out (is_par_holds s) f i k ∙ e i b k ∙ sym (blank_out (is_par_holds s) h i k)

  -- the exclusive or of an encoded stripe is 0
  pub xenc_zero : (s : ℕ) (f : ℕ → Val) → xor_n N (xenc s f) ≡ 𝟘
  xenc_zero s f =
      xor_n-put N (q s) (xenc s f) (blank (is_par_holds s) f) (on s) (λ d l n. xenc_data s f d (not_par s d n) ∙ sym (blank_out (is_par_holds s) f d (not_par s d n)))
      (blank_in (is_par_holds s) f (q s) (is_par s))
      ∙ ap (λ (x : Val). x ⊕ xor_n N (blank (is_par_holds s) f)) (xenc_par s f (q s) (is_par s)) ∙ ⊕-self (xor_n N (blank (is_par_holds s) f))

  pub xdec_law : (s : ℕ) (m : Mask) (f h : ℕ → Val) → count N m ≤ 1 → ((d : ℕ) → d < N → m d ≡ false → f d ≡ xenc s h d) → (d : ℕ) → d < N → m d ≡ true
      → xdec s m f d ≡ xenc s h d
  unfolding xdec
  xdec_law s m f h b e d l k =
      ⊕-right (xor_n N (blank m f)) (xenc s h d) (xenc s h d)
      (⊕-comm (xor_n N (blank m f)) (xenc s h d) ∙ sym (xor_n-put N d (xenc s h) (blank m f) l (λ i a n. sym (rest i a n (two (m i)))) (blank_in m f d k)) ∙ xenc_zero s h
      ∙ sym (⊕-self (xenc s h d)))
    where
      rest : (i : ℕ) → i < N → i ≢ d → (m i ≡ true) ⊎ (m i ≡ false) → blank m f i ≡ xenc s h i
      rest i a n (inl r) = absurd (let w : 2 ≤ count N m = count_two N m i d a l n r k in let j : ⊥ = omega (arith, w, b) in j)
      rest i a n (inr r) = blank_out m f i r ∙ e i a r

  unfoldable pub xor_code : Code N 1
  xor_code = record {
    par = is_par_holds;
    enc = xenc;
    dec = xdec;
    keeps = λ s f d l k. xenc_data s f d k;
    same = xenc_same;
    law = xdec_law;
  }

  -- its words are the stripes whose exclusive or is 0
  pub word_xor : (s : ℕ) (f : ℕ → Val) → WordOf xor_code s f → xor_n N f ≡ 𝟘
  unfolding xor_code
  word_xor s f w = xor_n_same N f (xenc s f) w ∙ xenc_zero s f

  pub xor_word : (s : ℕ) (f : ℕ → Val) → xor_n N f ≡ 𝟘 → WordOf xor_code s f
  unfolding xor_code
  xor_word s f e d l = go (ℕ_discrete d (q s))
    where
      go : Dec (d ≡ q s) → f d ≡ xenc s f d
      go (no n) = sym (xenc_data s f d (not_par s d n))
      go (yes i) = rw i (sym (xenc_par s f (q s) (is_par s) ∙ ⊕-left (xor_n N (blank (is_par_holds s) f)) (f (q s)) (f (q s))
          (sym (xor_n-put N (q s) f (blank (is_par_holds s) f) (on s) (λ k b n. sym (blank_out (is_par_holds s) f k (not_par s k n)))
          (blank_in (is_par_holds s) f (q s) (is_par s))) ∙ e ∙ sym (⊕-self (f (q s))))))
