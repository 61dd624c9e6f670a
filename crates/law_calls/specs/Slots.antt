-- The eighths of the in-flight buffer: which one takes a block, and that it has room (01, Write). Assumes nothing.
use Rattle.std.specs.Prelude.{ℕ, suc, ◌<◌, get_or, Bool, cond, not, ◌&&◌, ◌||◌, List, [], ◌∷◌, ◌≡◌, refl}
use Rattle.spec.specs.Lists.{any, cons_if, keep, is_nil, suc_unless, index_of}
use Rattle.spec.specs.Memory.{slot_count, slots, filled_in_of, is_free, is_full, is_filling, in_flight, free_slot, filling_slot, has_filling}
use Rattle.spec.specs.Params.{data_count}
use Rattle.spec.specs.Write.{must_open, other_group, must_wait, slot_for}
use Rattle.spec.specs.declared.Params.{Params}
use Rattle.spec.specs.declared.State.{State}
use Rattle.law_basic.specs.Ranges.{Test, test, and_right, length-below, get_d_below, index_of_any}
use Rattle.law_basic.specs.Ranges.Test.{yes!, no! }
use borrow.Author.Tests.{ltb-true, leb-false, not-true}
use Rattle.std.proofs.Math.Dec.{leb, ltb}
use Rattle.std.proofs.Math.ListN.{length}
use Rattle.std.proofs.Math.Bool.{true, false}
use Rattle.std.proofs.Common.{sym, ◌∙◌, subst, arith}
use Rattle.std.proofs.Math.Path.{ap}

-- ---- the first that passes

pub index_of_holds : {A : Type 0} (f : A → Bool) (l : List A) (d : A) → index_of f l < length l → f (get_or l (index_of f l) d) ≡ true
unfolding index_of suc_unless
index_of_holds f [] d h = absurd (let q : ⊥ = omega arith in q)
index_of_holds f (a ∷ l) d h = go (test (f a)) h (index_of_holds f l d)
  where
    go : Test (f a) → suc_unless (f a) (index_of f l) < suc (length l) → (index_of f l < length l → f (get_or l (index_of f l) d) ≡ true)
        → f (get_or (a ∷ l) (suc_unless (f a) (index_of f l)) d) ≡ true
    go (yes! e) h r = ap (λ (x : Bool). f (get_or (a ∷ l) (suc_unless x (index_of f l)) d)) e ∙ e
    go (no! e) h r =
        let k : suc (index_of f l) < suc (length l) = subst (λ (x : Bool). suc_unless x (index_of f l) < suc (length l)) e h in
        ap (λ (x : Bool). f (get_or (a ∷ l) (suc_unless x (index_of f l)) d)) e ∙ r (omega arith)

-- where not all fail the test, one passes
pub index_of_lt : {A : Type 0} (f : A → Bool) (l : List A) → length (keep (λ (a : A). not (f a)) l) < length l → index_of f l < length l
unfolding index_of keep suc_unless cons_if
index_of_lt f [] h = absurd (let q : ⊥ = omega arith in q)
index_of_lt {A} f (a ∷ l) h = go (f a) h (index_of_lt f l)
  where
    go : (b : Bool) → length (cons_if (not b) a (keep (λ (x : A). not (f x)) l)) < suc (length l)
        → (length (keep (λ (x : A). not (f x)) l) < length l → index_of f l < length l) → suc_unless b (index_of f l) < suc (length l)
    go true h r = omega arith
    go false h r = let k : index_of f l < length l = r (omega arith) in omega arith

pub get_d_slots : (i : ℕ) → i < 8 → get_or slots i 0 ≡ i
unfolding slots slot_count
get_d_slots i h = get_d_below 8 i 0 h

pub length-slots : length slots ≡ 8
unfolding slots slot_count
length-slots = length-below 8

-- ---- the filling stripe's eighth, the lowest free one

module _ (p : Params) (st : State) where
  pub filling-lt : has_filling p st ≡ true → filling_slot p st < 8
  unfolding has_filling filling_slot
  filling-lt e =
      let q : ltb (index_of (is_filling p st) slots) (length slots) ≡ true = index_of_any (is_filling p st) slots ∙ e in
      omega (arith, ltb-true (index_of (is_filling p st) slots) (length slots) q, length-slots)

  pub filling_is : filling_slot p st < 8 → is_filling p st (filling_slot p st) ≡ true
  unfolding filling_slot
  filling_is h =
      let k : index_of (is_filling p st) slots < length slots = omega (arith, length-slots) in
      ap (is_filling p st) (sym (get_d_slots (filling_slot p st) h)) ∙ index_of_holds (is_filling p st) slots 0 k

  pub free_lt : length (in_flight st) < 8 → free_slot st < 8
  unfolding in_flight free_slot
  free_lt h = omega (arith, index_of_lt (is_free st) slots (omega (arith, length-slots)), length-slots)

  -- 01, Write: a stripe that is filling has a data position left
  pub filling_room : (i : ℕ) → is_filling p st i ≡ true → filled_in_of st i < data_count p
  unfolding is_filling is_full
  filling_room i e =
      let q : leb (data_count p) (filled_in_of st i) ≡ false = not-true (leb (data_count p) (filled_in_of st i)) (and_right (not (is_free st i)) (not (leb (data_count p) (filled_in_of st i))) e) in
      leb-false (data_count p) (filled_in_of st i) q

-- 01, Refusals, 7: a write that need not wait has an eighth
pub slot_lt : (p : Params) (st : State) → must_wait p st ≡ false → slot_for p st < 8
unfolding slot_for must_wait slot_count
slot_lt p st = go (test (has_filling p st))
  where
    low : (a b c : Bool) → (true && (a || b || c)) ≡ false → a ≡ false
    low true b c h = h
    low false b c h = refl

    go : Test (has_filling p st)
        → (not (has_filling p st) && (leb 8 (length (in_flight st)) || (must_open p st && not (is_nil (in_flight st))) || (not (must_open p st) && any (other_group p st) (in_flight st)))) ≡ false
        → cond (has_filling p st) (filling_slot p st) (free_slot st) < 8
    go (yes! e) h = subst (λ (x : Bool). cond x (filling_slot p st) (free_slot st) < 8) (sym e) (filling-lt p st e)
    go (no! e) h =
        let a = leb 8 (length (in_flight st)) in
        let b = must_open p st && not (is_nil (in_flight st)) in
        let c = not (must_open p st) && any (other_group p st) (in_flight st) in
        let q : (true && (a || b || c)) ≡ false = subst (λ (x : Bool). (not x && (a || b || c)) ≡ false) e h in
        subst (λ (x : Bool). cond x (filling_slot p st) (free_slot st) < 8) (sym e)
        (free_lt p st (leb-false 8 (length (in_flight st)) (low a b c q)))

-- ---- a segment opened: the eighths stay
