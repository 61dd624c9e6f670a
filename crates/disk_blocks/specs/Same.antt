-- Two lists compared with no branch: the bits in which they differ so far, put together (01, What a zone holds). Assumes nothing.
use Rattle.std.specs.Prelude.{◌≡◌, false, List, ℕ, ◌+◌, ◌≤◌, ◌<◌, eqb, length, get_or, drop}
use Rattle.std.proofs.Common.{sym, ap, ap₂, ◌∙◌, arith, eq-eqb, ne_eqb}
use Rattle.std.proofs.Math.Decide.{ℕ_discrete}
use Rattle.std.specs.Int.Bits.{bit_xor, bit_or, or_add_and, or_zero_l, xor_self, xor_zero_l}
use Rattle.std.proofs.lemmas.Nat.{and_le_l, and_le_r}
use Rattle.spec.specs.Lists.{same_list}
use Rattle.law_basic.specs.Ranges.{same_step, same_stop, same_end}
use Rattle.law_basic.specs.Xor.{xor_back}

-- i elements compared: off is 0 where they are equal
pub record Comparing (a b : List ℕ) (off i : ℕ) : Type 0 where
  pub upto : i ≤ length a
  pub long : length a ≡ length b
  pub equal : off ≡ 0 → same_list (drop i a) (drop i b) ≡ same_list a b
  pub differ : (off ≡ 0 → ⊥) → same_list a b ≡ false

bit_or_left : (x y : ℕ) → bit_or x y ≡ 0 → x ≡ 0
bit_or_left x y e = omega (arith, e, or_add_and x y, and_le_r x y)

bit_or_right : (x y : ℕ) → bit_or x y ≡ 0 → y ≡ 0
bit_or_right x y e = omega (arith, e, or_add_and x y, and_le_l x y)

xor_none : (x y : ℕ) → bit_xor x y ≡ 0 → x ≡ y
xor_none x y e = sym (xor_back x y) ∙ ap (λ (n : ℕ). bit_xor n y) e ∙ xor_zero_l y

none_off : (off x y : ℕ) → off ≡ 0 → x ≡ y → bit_or off (bit_xor x y) ≡ 0
none_off off x y e q = ap₂ (λ (m n : ℕ). bit_or m (bit_xor n y)) e q ∙ or_zero_l (bit_xor y y) ∙ xor_self y

pub comparing_next : (a b : List ℕ) (off i : ℕ) → Comparing a b off i → i < length a → Comparing a b (bit_or off (bit_xor (get_or a i 0) (get_or b i 0))) (i + 1)
comparing_next a b off i c h = record {
  upto = omega (arith, h);
  long = c.long;
  equal = λ e. sym (same_step a b i h k (xor_none x y (bit_or_right off (bit_xor x y) e))) ∙ c.equal (bit_or_left off (bit_xor x y) e);
  differ = λ n. go n (ℕ_discrete off 0);
}
  where
    x : ℕ
    x = get_or a i 0

    y : ℕ
    y = get_or b i 0

    k : i < length b
    k = omega (arith, h, c.long)

    go : (bit_or off (bit_xor x y) ≡ 0 → ⊥) → Dec (off ≡ 0) → same_list a b ≡ false
    go n (no d) = c.differ d
    go n (yes e) = sym (c.equal e) ∙ same_stop a b i h k (λ q. n (none_off off x y e q))

pub compared : (a b : List ℕ) (off i : ℕ) → Comparing a b off i → length a ≤ i → eqb off 0 ≡ same_list a b
compared a b off i c h = go (ℕ_discrete off 0)
  where
    go : Dec (off ≡ 0) → eqb off 0 ≡ same_list a b
    go (yes e) = eq-eqb off 0 e ∙ sym (same_end a b i h (omega (arith, h, c.long))) ∙ c.equal e
    go (no d) = ne_eqb off 0 d ∙ sym (c.differ d)
