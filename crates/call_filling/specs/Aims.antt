-- Where a block goes, asked once of the front of the state (01, Write; Refusals, 6 and 7). What the front says is what the state says: both read the same lists. Assumes nothing.
use Rattle.std.specs.Prelude.{ℕ, ◌+◌, ◌-◌, ◌≤◌, ◌<◌, leb, Bool, ◌&&◌, ◌≡◌}
use Rattle.spec.specs.Counts.{last_count}
use Rattle.spec.specs.Lists.{index_of}
use Rattle.spec.specs.Memory.{stripe_in, filled_in_of, is_free, is_full, is_filling, in_flight, free_slot, filling_slot, has_filling, slots}
use Rattle.spec.specs.Params.{data_count}
use Rattle.spec.specs.Write.{must_open, opens, no_stamp, no_serial, other_group, must_wait, slot_for}
use Rattle.spec.specs.declared.Params.{Params}
use Rattle.spec.specs.declared.State.{State}
use Rattle.call_filling.specs.declared.Aim.{Aim}
use Rattle.law_basic.specs.Ranges.{index_of_any}
use Rattle.law_calls.specs.Slots.{length-slots}
use Rattle.mem_rows.specs.Rows.{front_of, behind}
use Rattle.mem_rows.specs.declared.Front.{Front}
use borrow.Author.Tests.{lt-ltb, le-ltb, le-leb, lt-leb}
use Rattle.std.proofs.Math.Dec.{ltb, eqb}
use Rattle.std.proofs.Math.Bool.{true, false, cond, not}
use Rattle.std.proofs.Math.Path.{sym, ap, ap₂}
use Rattle.std.proofs.Common.{◌∙◌, arith}
use Rattle.std.proofs.Math.Decide.{dec_lt}

-- 01, Write: a stripe begins, a segment is opened for it, the eighth that takes the block
abbrev pub aim_of : Params → State → Aim
aim_of p st = record { begins = not (has_filling p st); opens = opens p st; slot = slot_for p st }

-- one position is left
pub room_test : (p : Params) (k : ℕ) → ltb (k + 1) p.N ≡ not (leb (data_count p) k)
unfolding data_count
room_test p k = go (dec_lt (k + 1) p.N)
  where
    go : Dec (k + 1 < p.N) → ltb (k + 1) p.N ≡ not (leb (p.N - 1) k)
    go (yes h) = lt-ltb (k + 1) p.N h ∙ ap not (sym (lt-leb (p.N - 1) k (omega arith)))
    go (no h) = le-ltb (k + 1) p.N (omega arith) ∙ ap not (sym (le-leb (p.N - 1) k (omega arith)))

module _ (p : Params) (st : State) where
  -- the filling stripe has an eighth
  pub slot_is_filling : ltb (filling_slot p st) 8 ≡ has_filling p st
  unfolding filling_slot has_filling
  slot_is_filling = ap (ltb (index_of (is_filling p st) slots)) (sym length-slots) ∙ index_of_any (is_filling p st) slots

  -- a stripe is filling
  pub aim_filling : (i : ℕ) → i ≡ filling_slot p st → i < 8 → record { begins = false; opens = false; slot = i } ≡ aim_of p st
  unfolding opens slot_for
  aim_filling i e h =
      let t : has_filling p st ≡ true = sym slot_is_filling ∙ ap (λ (x : ℕ). ltb x 8) (sym e) ∙ lt-ltb i 8 h in
      (λ j. record { begins = false; opens = false; slot = e j })
      ∙ ap (λ (x : Bool). record { begins = not x; opens = not x && must_open p st; slot = cond x (filling_slot p st) (free_slot st) }) (sym t)

  -- none is
  pub aim_begins : (i : ℕ) → i ≡ filling_slot p st → 8 ≤ i → (o : Bool) (k : ℕ) → o ≡ must_open p st → k ≡ free_slot st
      → record { begins = true; opens = o; slot = k } ≡ aim_of p st
  unfolding opens slot_for
  aim_begins i e h o k f g =
      let t : has_filling p st ≡ false = sym slot_is_filling ∙ ap (λ (x : ℕ). ltb x 8) (sym e) ∙ le-ltb i 8 h in
      (λ j. record { begins = true; opens = f j; slot = g j })
      ∙ ap (λ (x : Bool). record { begins = not x; opens = not x && must_open p st; slot = cond x (filling_slot p st) (free_slot st) }) (sym t)

-- ---- what the front says

module _ (p : Params) (st : State) (f : Front) (same : f ≡ front_of st) where
  pub front_stamp : no_stamp (behind f) ≡ no_stamp st
  unfolding no_stamp
  front_stamp = ap (λ (x : Front). no_stamp (behind x)) same

  pub front_wait : must_wait p (behind f) ≡ must_wait p st
  unfolding must_wait must_open has_filling is_filling is_free is_full filled_in_of in_flight other_group stripe_in
  front_wait = ap (λ (x : Front). must_wait p (behind x)) same

  pub front_aim : aim_of p (behind f) ≡ aim_of p st
  unfolding opens slot_for must_open has_filling filling_slot free_slot is_filling is_free is_full filled_in_of
  front_aim = ap (λ (x : Front). aim_of p (behind x)) same

  pub front_filling : filling_slot p (behind f) ≡ filling_slot p st
  unfolding filling_slot is_filling is_free is_full filled_in_of
  front_filling = ap (λ (x : Front). filling_slot p (behind x)) same

  pub front_serial : (a : Aim) → a ≡ aim_of p st → (a.opens && eqb f.serial.0 last_count) ≡ no_serial p st
  unfolding no_serial
  front_serial a e = ap₂ (λ (x : Aim) (y : Front). x.opens && eqb y.serial.0 last_count) e same
