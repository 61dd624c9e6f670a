-- A record in flight, looked up in the state's bytes eighth by eighth (01, Reclaim): cells of an eighth from the first position that is not filled on
-- hold nothing, and eight eighths are the 64 cells. Assumes nothing.
use Rattle.std.specs.Prelude.{◌≡◌, refl, Bool, false, ◌&&◌, ◌||◌, List, ◌++◌, ℕ, zero, suc, ◌+◌, ◌-◌, ◌*◌, ◌/◌, ◌%◌, ◌≤◌, ◌<◌, get_or}
use Rattle.std.proofs.Math.Path.{sym, ap}
use Rattle.std.proofs.Common.{ap₂, ◌∙◌}
use native.Mathlib.Omega.{arith}
use borrow.Author.Tests.{lt-ltb, le-ltb, eq-eqb, ne_eqb}
use Rattle.std.proofs.Math.Dec.{ltb, eqb}
use Rattle.spec.specs.declared.State.{State}
use Rattle.spec.specs.Bytes.{le_of, part}
use Rattle.spec.specs.Lists.{up_from, any}
use Rattle.spec.specs.Memory.{filled_in_of, holds_at, state_of}
use Rattle.law_basic.specs.Ranges.{up_from_add, any_append, any_up_from_same}
use Rattle.mem_codec.specs.Codec.{state_read}
use Rattle.mem_codec.specs.Eighths.{number_at}

-- cell j has the address with the stamp
unfoldable pub has_at : State → ℕ → ℕ → ℕ → Bool
has_at st a t j = eqb (get_or st.addresses j 0) a && eqb (get_or st.stamps j 0) t

-- 01, Reclaim: the stripe in eighth i holds them
unfoldable pub held_in_of : State → ℕ → ℕ → ℕ → Bool
held_in_of st a t i = any (holds_at st a t) (up_from (8 * i) 8)

-- ---- in the bytes

-- the numbers of a cell
address_read : (bs : List ℕ) (j : ℕ) → j < 64 → le_of (part (86 + 8 * j) 8 bs) ≡ get_or (state_of bs).addresses j 0
address_read bs j h = sym (ap (λ (st : State). get_or st.addresses j 0) (state_read bs) ∙ number_at 8 64 86 j bs h)

stamp_read : (bs : List ℕ) (j : ℕ) → j < 64 → le_of (part (598 + 8 * j) 8 bs) ≡ get_or (state_of bs).stamps j 0
stamp_read bs j h = sym (ap (λ (st : State). get_or st.stamps j 0) (state_read bs) ∙ number_at 8 64 598 j bs h)

module _ (bs : List ℕ) (j a t x : ℕ) (h : j < 64) (e : x ≡ le_of (part (86 + 8 * j) 8 bs)) where
  -- another address
  pub flight_other_address : (x ≡ a → ⊥) → false ≡ has_at (state_of bs) a t j
  unfolding has_at
  flight_other_address n =
      sym (ap (λ (b : Bool). b && eqb (get_or (state_of bs).stamps j 0) t) (ap (λ (y : ℕ). eqb y a) (sym (e ∙ address_read bs j h)) ∙ ne_eqb x a n))

  -- the same one: the stamp decides
  pub flight_same_address : x ≡ a → (y : ℕ) → y ≡ le_of (part (598 + 8 * j) 8 bs) → eqb y t ≡ has_at (state_of bs) a t j
  unfolding has_at
  flight_same_address q y f =
      ap (λ (z : ℕ). eqb z t) (f ∙ stamp_read bs j h)
      ∙ sym (ap (λ (b : Bool). b && eqb (get_or (state_of bs).stamps j 0) t) (ap (λ (y : ℕ). eqb y a) (sym (e ∙ address_read bs j h)) ∙ eq-eqb x a q))

-- how many positions of an eighth are filled
pub filled_read : (bs : List ℕ) (i : ℕ) → i < 8 → le_of (part (62 + i) 1 bs) ≡ filled_in_of (state_of bs) i
unfolding filled_in_of
filled_read bs i h =
    let q : 62 + i ≡ 62 + 1 * i = omega arith in
    ap (λ (x : ℕ). le_of (part x 1 bs)) q ∙ sym (ap (λ (st : State). get_or st.filled i 0) (state_read bs) ∙ number_at 1 8 62 i bs h)

-- ---- one eighth

any_nowhere : (j n : ℕ) → any (λ (k : ℕ). false) (up_from j n) ≡ false
unfolding any up_from
any_nowhere j zero = refl
any_nowhere j (suc n) = any_nowhere (suc j) n

module _ (st : State) (a t i : ℕ) where
  -- a position filled
  pub filled-cell : (k : ℕ) → k < 8 → k < filled_in_of st i → has_at st a t (8 * i + k) ≡ holds_at st a t (8 * i + k)
  unfolding has_at holds_at
  filled-cell k h g =
      let q : (8 * i + k) / 8 ≡ i = omega arith in
      let r : (8 * i + k) % 8 ≡ k = omega arith in
      ap (λ (x : Bool). x && eqb (get_or st.addresses (8 * i + k) 0) a && eqb (get_or st.stamps (8 * i + k) 0) t)
      (sym (ap₂ (λ (x y : ℕ). ltb x (filled_in_of st y)) r q ∙ lt-ltb k (filled_in_of st i) g))

  -- one that is not
  empty_cell : (k : ℕ) → k < 8 → filled_in_of st i ≤ k → holds_at st a t (8 * i + k) ≡ false
  unfolding holds_at
  empty_cell k h g =
      let q : (8 * i + k) / 8 ≡ i = omega arith in
      let r : (8 * i + k) % 8 ≡ k = omega arith in
      ap (λ (x : Bool). x && eqb (get_or st.addresses (8 * i + k) 0) a && eqb (get_or st.stamps (8 * i + k) 0) t)
      (ap₂ (λ (x y : ℕ). ltb x (filled_in_of st y)) r q ∙ le-ltb k (filled_in_of st i) g)

  -- from the first of those on nothing is held
  pub empty_rest : (k : ℕ) → k ≤ 8 → filled_in_of st i ≤ k → any (holds_at st a t) (up_from (8 * i + k) (8 * i + 8 - (8 * i + k))) ≡ false
  empty_rest k h g =
      any_up_from_same (holds_at st a t) (λ (x : ℕ). false) (8 * i + k) (8 * i + 8 - (8 * i + k)) (λ j u v.
      let e : 8 * i + (j - 8 * i) ≡ j = omega arith in
      ap (holds_at st a t) (sym e) ∙ empty_cell (j - 8 * i) (omega arith) (omega arith))
      ∙ any_nowhere (8 * i + k) (8 * i + 8 - (8 * i + k))

-- ---- all of them

-- one eighth and those behind it
pub eighth_next : (st : State) (a t i : ℕ) → i < 8
    → any (holds_at st a t) (up_from (8 * i) (64 - 8 * i)) ≡ (held_in_of st a t i || any (holds_at st a t) (up_from (8 * (i + 1)) (64 - 8 * (i + 1))))
unfolding held_in_of
eighth_next st a t i h =
    let e : 64 - 8 * i ≡ 8 + (64 - 8 * (i + 1)) = omega arith in
    let f : 8 * i + 8 ≡ 8 * (i + 1) = omega arith in
    ap (λ (n : ℕ). any (holds_at st a t) (up_from (8 * i) n)) e
    ∙ ap (any (holds_at st a t)) (up_from_add (8 * i) 8 (64 - 8 * (i + 1)) ∙ ap (λ (x : ℕ). up_from (8 * i) 8 ++ up_from x (64 - 8 * (i + 1))) f)
    ∙ any_append (holds_at st a t) (up_from (8 * i) 8) (up_from (8 * (i + 1)) (64 - 8 * (i + 1)))
