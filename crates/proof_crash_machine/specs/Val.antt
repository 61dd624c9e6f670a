-- What a chunk carries: address, stamp, block (byte index to byte); exclusive or over a stripe, and the law that decodes. Assumes nothing.
use Rattle.std.specs.Prelude.{◌≡◌, refl, ◌≢◌, ℕ, zero, suc, ◌<◌}
use Rattle.std.proofs.Common.{sym, ap, ap₂, ◌∙◌, arith}
use Rattle.std.proofs.Math.Decide.{ℕ_discrete}
use Rattle.std.specs.Int.Bits.{bit_xor, xor_self, xor_zero_l}
use Rattle.std.proofs.lemmas.Nat.{xor_comm}
use Rattle.proof_crash_machine.specs.Bits.{xor_assoc, xor_back}

pub record Val : Type 0 where
  pub addr : ℕ
  pub stamp : ℕ
  pub blk : ℕ → ℕ

unfoldable pub 𝟘 : Val
𝟘 = record { addr = 0; stamp = 0; blk = λ i. 0 }

-- what closing fills in: the padding address, stamp 0, a zero block
unfoldable pub pads : Val
pads = record { addr = 18446744073709551615; stamp = 0; blk = λ i. 0 }

pub pads_stamp : (x : Val) → x ≡ pads → x.stamp ≡ 0
unfolding pads
pads_stamp x e = ap (λ (y : Val). y.stamp) e

infixl 65 ◌⊕◌
unfoldable pub ◌⊕◌ : Val → Val → Val
a ⊕ b = record { addr = bit_xor a.addr b.addr; stamp = bit_xor a.stamp b.stamp; blk = λ i. bit_xor (a.blk i) (b.blk i) }

pub ⊕-comm : (a b : Val) → a ⊕ b ≡ b ⊕ a
unfolding ◌⊕◌
⊕-comm a b = λ j. record { addr = xor_comm a.addr b.addr j; stamp = xor_comm a.stamp b.stamp j; blk = λ i. xor_comm (a.blk i) (b.blk i) j }

pub ⊕-back : (a b : Val) → a ⊕ b ⊕ b ≡ a
unfolding ◌⊕◌
⊕-back a b = λ j. record { addr = xor_back a.addr b.addr j; stamp = xor_back a.stamp b.stamp j; blk = λ i. xor_back (a.blk i) (b.blk i) j }

pub ⊕-assoc : (a b c : Val) → a ⊕ b ⊕ c ≡ a ⊕ (b ⊕ c)
unfolding ◌⊕◌
⊕-assoc a b c = λ j. record {
  addr = xor_assoc a.addr b.addr c.addr j;
  stamp = xor_assoc a.stamp b.stamp c.stamp j;
  blk = λ i. xor_assoc (a.blk i) (b.blk i) (c.blk i) j;
}

pub ⊕-self : (a : Val) → a ⊕ a ≡ 𝟘
unfolding ◌⊕◌ 𝟘
⊕-self a = λ j. record { addr = xor_self a.addr j; stamp = xor_self a.stamp j; blk = λ i. xor_self (a.blk i) j }

pub ⊕-zero : (a : Val) → 𝟘 ⊕ a ≡ a
unfolding ◌⊕◌ 𝟘
⊕-zero a = λ j. record { addr = xor_zero_l a.addr j; stamp = xor_zero_l a.stamp j; blk = λ i. xor_zero_l (a.blk i) j }

pub ⊕-swap : (a b c : Val) → a ⊕ (b ⊕ c) ≡ b ⊕ (a ⊕ c)
⊕-swap a b c = sym (⊕-assoc a b c) ∙ ap (λ (x : Val). x ⊕ c) (⊕-comm a b) ∙ ⊕-assoc b a c

pub ⊕-right : (a b c : Val) → a ⊕ c ≡ b ⊕ c → a ≡ b
⊕-right a b c e = sym (⊕-back a c) ∙ ap (λ (x : Val). x ⊕ c) e ∙ ⊕-back b c

pub ⊕-left : (a b c : Val) → c ⊕ a ≡ c ⊕ b → a ≡ b
⊕-left a b c e = ⊕-right a b c (⊕-comm a c ∙ e ∙ ⊕-comm c b)

-- exclusive or of f 0 .. f (n - 1)
unfoldable pub xor_n : ℕ → (ℕ → Val) → Val
xor_n zero f = 𝟘
xor_n (suc n) f = f n ⊕ xor_n n f

pub xor_n_same : (n : ℕ) (f h : ℕ → Val) → ((d : ℕ) → d < n → f d ≡ h d) → xor_n n f ≡ xor_n n h
unfolding xor_n
xor_n_same zero f h e = refl
xor_n_same (suc n) f h e = ap₂ ◌⊕◌ (e n (omega arith)) (xor_n_same n f h (λ d l. e d (omega arith)))

-- one more value where there was none
pub xor_n-put : (n m : ℕ) (f h : ℕ → Val) → m < n → ((d : ℕ) → d < n → d ≢ m → f d ≡ h d) → h m ≡ 𝟘 → xor_n n f ≡ f m ⊕ xor_n n h
unfolding xor_n
xor_n-put zero m f h l k e = absurd (let q : ⊥ = omega arith in q)
xor_n-put (suc n) m f h l k e = go (ℕ_discrete m n) (xor_n-put n m f h)
  where
    go : Dec (m ≡ n) → (m < n → ((d : ℕ) → d < n → d ≢ m → f d ≡ h d) → h m ≡ 𝟘 → xor_n n f ≡ f m ⊕ xor_n n h) → f n ⊕ xor_n n f ≡ f m ⊕ (h n ⊕ xor_n n h)
    go (yes q) ih =
        ap₂ ◌⊕◌ (ap f (sym q)) (xor_n_same n f h (λ d b. k d (omega arith) (omega arith)) ∙ sym (⊕-zero (xor_n n h)) ∙ ap (λ (x : Val). x ⊕ xor_n n h) (sym e ∙ ap h q))
    go (no q) ih =
        ap₂ ◌⊕◌ (k n (omega arith) (λ w. q (sym w))) (ih (omega arith) (λ d b w. k d (omega arith) w) e) ∙ ⊕-swap (h n) (f m) (xor_n n h)
