-- A data position of a stripe filled, on the stripe's eighth by value, and that the state with that eighth put back is the one that the definitions give (01, Write). The laws go
-- from one entry to a block sent, by cases on a filling stripe and on a segment opened. Assumes nothing.
use Prim.Native.Nat.{ℕ, suc, ◌*◌, ◌<◌}
use Rattle.spec.specs.Bytes.{part, splice}
use Rattle.spec.specs.Drives.{View, header_stores, new_seg}
use Rattle.spec.specs.Layout.{data_drive}
use Rattle.spec.specs.Lists.{only}
use Rattle.spec.specs.Memory.{mk_state, cell, stripe_in, filled_in_of, landed_in, is_full, has_filling, filling_slot, free_slot, set_open, begin_stripe, add_entry, set_slot_block, set_slot_parity}
use Rattle.spec.specs.Params.{data_count}
use Rattle.spec.specs.Write.{must_open, opens, placed, opened_by, slot_for, begun_by, sending}
use Rattle.spec.specs.declared.Params.{Params}
use Rattle.spec.specs.declared.State.{State}
use Rattle.law_basic.specs.Ranges.{Test, test, not_both}
use Rattle.law_basic.specs.Ranges.Test.{yes!, no! }
use Rattle.law_basic.specs.Splice.{splice-part}
use Rattle.law_calls.specs.Sends.{mk_placed, mk_sending}
use Rattle.law_calls.specs.Slots.{filling_room, filling_is}
use Rattle.mem_rows.specs.Rows.{slot_row, put_row, RowsSized, RowSized, eighth_fits, cell-put, put_row_holds, row_put, put-put, row_sized, put_sized}
use Rattle.mem_rows.specs.declared.Row.{Row}
use Rattle.std.specs.Int.Bits.{bit_or}
use Rattle.std.specs.Prelude.{leb, length, set, Bool, ◌&&◌, ◌≡◌}
use Rattle.std.proofs.Math.ListN.{get_or}
use Rattle.std.proofs.Common.{length-set, get_or-set_same, ap₂, ◌∙◌, arith}
use Rattle.std.proofs.lemmas.List.{set-get_or}
use Rattle.std.proofs.Math.Bool.{true, false, cond, not}
use mathlib.Core.List.{List, []}
use Rattle.std.proofs.Math.Path.{refl, sym, ap, subst}

-- 01, Write: address a with stamp t at the next data position; w: 1 for a write, 0 for a copy or padding
unfoldable pub added_row : Row → ℕ → ℕ → ℕ → Row
added_row r a t w = record {
  number = r.number;
  filled = suc r.filled;
  writes = bit_or r.writes (w * only r.filled);
  landed = r.landed;
  addresses = set r.addresses r.filled a;
  stamps = set r.stamps r.filled t;
  offsets = r.offsets;
}

-- 01, Write: stripe number n begins
unfoldable pub begun_row : Row → ℕ → Row
begun_row r n = record { number = n; filled = 0; writes = 0; landed = 0; addresses = r.addresses; stamps = r.stamps; offsets = r.offsets }

-- 01, Write: the drive of the next data position
unfoldable pub drive_for : Params → Row → ℕ
drive_for p r = data_drive p r.number r.filled

-- 01, Write: parity is worked out when the last data block is in
unfoldable pub entered : Params → Row → ℕ → List ℕ → List ℕ
entered p r i fl = cond (leb (data_count p) (suc r.filled)) (set_slot_parity p fl i r.number) fl

-- what filling a position leaves
pub record PlacedRow : Type 0 where
  pub row : Row
  pub inflight : List ℕ
  pub drive : ℕ

unfoldable pub placed_row_of : Params → Row → List ℕ → ℕ → ℕ → ℕ → ℕ → List ℕ → PlacedRow
placed_row_of p r fl i a t w b = record { row = added_row r a t w; inflight = entered p r i (set_slot_block p fl i (drive_for p r) b); drive = drive_for p r }

-- what sending a block leaves: the stripe, the next stripe number
pub record SentRow : Type 0 where
  pub row : Row
  pub next : ℕ
  pub inflight : List ℕ
  pub drive : ℕ

abbrev pub mk_sent_row : ℕ → PlacedRow → SentRow
mk_sent_row n q = record { row = q.row; next = n; inflight = q.inflight; drive = q.drive }

-- 01, Write: in eighth i, where a stripe begins with number n
unfoldable pub sent_row : Params → Row → List ℕ → ℕ → Bool → ℕ → ℕ → ℕ → ℕ → List ℕ → SentRow
sent_row p r fl i begins n a t w b =
    let r' = begun_row r n in
    mk_sent_row (cond begins (suc n) n) (placed_row_of p (cond begins r' r) fl i a t w b)

-- ---- lengths

pub added_sized : (r : Row) (a t w : ℕ) → RowSized r → RowSized (added_row r a t w)
unfolding added_row
added_sized r a t w z = record {
  addresses = length-set r.addresses r.filled a ∙ z.addresses;
  stamps = length-set r.stamps r.filled t ∙ z.stamps;
  offsets = z.offsets;
}

begun_sized : (r : Row) (n : ℕ) → RowSized r → RowSized (begun_row r n)
unfolding begun_row
begun_sized r n z = record { addresses = z.addresses; stamps = z.stamps; offsets = z.offsets }

-- ---- one entry, on the state

-- the front replaced
abbrev pub front_as : State → ℕ → ℕ → ℕ → State
front_as st s o n =
    mk_state st.live st.missing st.stamp.0 s o n st.numbers st.filled st.writes st.landed st.addresses st.stamps st.offsets

pub as_sized : (st : State) (s o n : ℕ) → RowsSized st → RowsSized (front_as st s o n)
as_sized st s o n z = record {
  numbers = z.numbers;
  filled = z.filled;
  writes = z.writes;
  landed = z.landed;
  addresses = z.addresses;
  stamps = z.stamps;
  offsets = z.offsets;
}

pub row_filled : (st : State) (i : ℕ) → (slot_row st i).filled ≡ filled_in_of st i
unfolding slot_row
row_filled st i = refl

row_number : (st : State) (i : ℕ) → (slot_row st i).number ≡ stripe_in st i
unfolding slot_row
row_number st i = refl

module _ (st : State) (i : ℕ) (h : i < 8) (sized : RowsSized st) where
  splice_row_kept : (l : List ℕ) → length l ≡ 64 → splice l (cell i 0) (part (cell i 0) 8 l) ≡ l
  splice_row_kept l e = splice-part l (cell i 0) 8 (eighth_fits i l h e)

  pub added-put : (a t w : ℕ) → filled_in_of st i < 8 → put_row st i (added_row (slot_row st i) a t w) ≡ add_entry st i a t w
  unfolding put_row added_row slot_row add_entry stripe_in filled_in_of landed_in
  added-put a t w g =
      let k = get_or st.filled i 0 in
      λ j.
      mk_state st.live st.missing st.stamp.0 st.serial.0 st.opened st.next (set-get_or st.numbers i 0 j) (set st.filled i (suc k))
      (set st.writes i (bit_or (get_or st.writes i 0) (w * only k))) (set-get_or st.landed i 0 j)
      (cell-put st.addresses i k a h g sized.addresses j) (cell-put st.stamps i k t h g sized.stamps j) (splice_row_kept st.offsets sized.offsets j)

  begun_put : put_row (front_as st st.serial.0 st.opened (suc st.next)) i (begun_row (slot_row st i) st.next) ≡ begin_stripe st i
  unfolding put_row begun_row slot_row begin_stripe
  begun_put =
      λ j.
      mk_state st.live st.missing st.stamp.0 st.serial.0 st.opened (suc st.next) (set st.numbers i st.next) (set st.filled i 0)
      (set st.writes i 0) (set st.landed i 0) (splice_row_kept st.addresses sized.addresses j) (splice_row_kept st.stamps sized.stamps j)
      (splice_row_kept st.offsets sized.offsets j)

  full_added : (p : Params) (a t w : ℕ) → leb (data_count p) (suc (filled_in_of st i)) ≡ is_full p (add_entry st i a t w) i
  unfolding is_full add_entry filled_in_of
  full_added p a t w = ap (leb (data_count p)) (sym (get_or-set_same st.filled i (suc (get_or st.filled i 0)) 0 (omega (arith, sized.filled))))

  -- 01, Write: what a position filled leaves
  pub placed_row : (p : Params) (fl : List ℕ) (a t w : ℕ) (b : List ℕ) → filled_in_of st i < 8
      → mk_placed (put_row st i (placed_row_of p (slot_row st i) fl i a t w b).row) (placed_row_of p (slot_row st i) fl i a t w b).inflight (placed_row_of p (slot_row st i) fl i a t w b).drive
      ≡ placed p st fl i a t w b
  unfolding placed placed_row_of entered drive_for slot_row
  placed_row p fl a t w b g =
      let d = data_drive p (stripe_in st i) (filled_in_of st i) in
      let fl' = set_slot_block p fl i d b in
      λ j. mk_placed (added-put a t w g j) (cond (full_added p a t w j) (set_slot_parity p fl' i (stripe_in st i)) fl') d

-- ---- a block sent, on the state

module _ (p : Params) (st : State) where
  -- the state with the segment open
  abbrev st₁ : State
  st₁ = opened_by p st

  opened_as_holds : st₁ ≡ front_as st st₁.serial.0 st₁.opened st₁.next
  unfolding opened_by set_open
  opened_as_holds = go (opens p st)
    where
      go : (b : Bool) → let x = cond b (set_open st (suc st.serial.0)) st in x ≡ front_as st x.serial.0 x.opened x.next
      go true = refl
      go false = refl

  -- none is opened while a stripe is filling
  opened_same : has_filling p st ≡ true → st₁ ≡ st
  unfolding opened_by opens
  opened_same e = ap (λ (x : Bool). cond (not x && must_open p st) (set_open st (suc st.serial.0)) st) e

  -- the eighth that takes a block has room in it
  pub slot_fills : not (has_filling p st) ≡ false → slot_for p st < 8 → filled_in_of st (slot_for p st) < data_count p
  unfolding slot_for
  slot_fills = go (test (has_filling p st))
    where
      go : Test (has_filling p st) → not (has_filling p st) ≡ false → cond (has_filling p st) (filling_slot p st) (free_slot st) < 8
          → filled_in_of st (cond (has_filling p st) (filling_slot p st) (free_slot st)) < data_count p
      go (yes! e) q h =
          let k : filling_slot p st < 8 = subst (λ (x : Bool). cond x (filling_slot p st) (free_slot st) < 8) e h in
          subst (λ (x : Bool). filled_in_of st (cond x (filling_slot p st) (free_slot st)) < data_count p) (sym e) (filling_room p st (filling_slot p st) (filling_is p st k))
      go (no! e) q h = absurd (not_both (not (has_filling p st)) (ap not e) q)

  module _ (h : slot_for p st < 8) (sized : RowsSized st) where
    -- the stripe before the block is in, the next stripe number after it
    abbrev pub start_row : Row
    start_row = cond (not (has_filling p st)) (begun_row (slot_row st (slot_for p st)) st₁.next) (slot_row st (slot_for p st))

    abbrev next_after : ℕ
    next_after = cond (not (has_filling p st)) (suc st₁.next) st₁.next

    abbrev based : State
    based = front_as st st₁.serial.0 st₁.opened next_after

    start_sized : RowSized start_row
    start_sized = go (not (has_filling p st))
      where
        go : (b : Bool) → RowSized (cond b (begun_row (slot_row st (slot_for p st)) st₁.next) (slot_row st (slot_for p st)))
        go true = begun_sized (slot_row st (slot_for p st)) st₁.next (row_sized st (slot_for p st) h sized)
        go false = row_sized st (slot_for p st) h sized

    -- it has room for the block
    pub start_room : data_count p < 8 → start_row.filled < 8
    unfolding begun_row slot_row
    start_room d = go (test (not (has_filling p st)))
      where
        go : Test (not (has_filling p st)) → start_row.filled < 8
        go (yes! e) = subst (λ (x : Bool). (cond x (begun_row (slot_row st (slot_for p st)) st₁.next) (slot_row st (slot_for p st))).filled < 8) (sym e) (omega arith)
        go (no! e) =
            subst (λ (x : Bool). (cond x (begun_row (slot_row st (slot_for p st)) st₁.next) (slot_row st (slot_for p st))).filled < 8) (sym e)
            (omega (arith, slot_fills e h))

    free_slot_for : has_filling p st ≡ false → free_slot st ≡ slot_for p st
    unfolding slot_for
    free_slot_for e = ap (λ (x : Bool). cond x (filling_slot p st) (free_slot st)) (sym e)

    begun_again : (s o n : ℕ) → begin_stripe (front_as st s o n) (slot_for p st) ≡ put_row (front_as st s o (suc n)) (slot_for p st) (begun_row (slot_row st (slot_for p st)) n)
    unfolding slot_row stripe_in filled_in_of landed_in
    begun_again s o n = sym (begun_put (front_as st s o n) (slot_for p st) h (as_sized st s o n sized))

    begun_as : begun_by p st st₁ ≡ put_row based (slot_for p st) start_row
    unfolding begun_by
    begun_as = go (test (has_filling p st))
      where
        i : ℕ
        i = slot_for p st

        of : Bool → State
        of x = put_row (front_as st st₁.serial.0 st₁.opened (cond (not x) (suc st₁.next) st₁.next)) i (cond (not x) (begun_row (slot_row st i) st₁.next) (slot_row st i))

        go : Test (has_filling p st) → cond (has_filling p st) st (begin_stripe st₁ (free_slot st)) ≡ of (has_filling p st)
        go (yes! e) =
            let o : st ≡ st₁ = sym (opened_same e) in
            ap (λ (x : Bool). cond x st (begin_stripe st₁ (free_slot st))) e ∙ sym (put_row_holds st i h sized)
            ∙ (λ j. put_row (front_as st (o j).serial.0 (o j).opened (o j).next) i (slot_row st i)) ∙ ap of (sym e)
        go (no! e) =
            ap (λ (x : Bool). cond x st (begin_stripe st₁ (free_slot st))) e ∙ ap₂ begin_stripe opened_as_holds (free_slot_for e)
            ∙ begun_again st₁.serial.0 st₁.opened st₁.next ∙ ap of (sym e)

    module _ (v : View) (fl : List ℕ) (a t w : ℕ) (b : List ℕ) (room : start_row.filled < 8) where
      abbrev pub sent_of : SentRow
      sent_of = sent_row p (slot_row st (slot_for p st)) fl (slot_for p st) (not (has_filling p st)) st₁.next a t w b

      -- 01, Write: what a block sent leaves
      pub sending_row : mk_sending (cond (opens p st) (header_stores p (new_seg p v) (suc st.serial.0) 0) [])
          (put_row (front_as st st₁.serial.0 st₁.opened sent_of.next) (slot_for p st) sent_of.row) sent_of.inflight sent_of.row.number sent_of.drive
          ≡ sending p v st fl a t w b
      unfolding sending sent_row placed_row_of added_row
      sending_row =
          let i = slot_for p st in
          let hs = cond (opens p st) (header_stores p (new_seg p v) (suc st.serial.0) 0) [] in
          let x = put_row based i start_row in
          let z : RowsSized based = as_sized st st₁.serial.0 st₁.opened next_after sized in
          let zx : RowsSized x = put_sized based i h z start_row start_sized in
          let r : slot_row x i ≡ start_row = row_put based i h z start_row start_sized in
          let g : filled_in_of x i < 8 = subst (λ (k : ℕ). k < 8) (ap (λ (y : Row). y.filled) (sym r) ∙ row_filled x i) room in
          let q : PlacedRow = placed_row_of p start_row fl i a t w b in
          let o : put_row x i q.row ≡ put_row based i q.row = put-put based i h z start_row start_sized q.row (added_sized start_row a t w start_sized) in
          let e : mk_placed (put_row based i q.row) q.inflight q.drive ≡ placed p x fl i a t w b =
          (λ j. mk_placed (sym o j) q.inflight q.drive)
          ∙ ap (λ (y : Row). mk_placed (put_row x i (placed_row_of p y fl i a t w b).row) (placed_row_of p y fl i a t w b).inflight (placed_row_of p y fl i a t w b).drive) (sym r)
          ∙ placed_row x i h zx p fl a t w b g in
          (λ j. mk_sending hs (e j).state (e j).inflight ((ap (λ (y : Row). y.number) (sym r) ∙ row_number x i) j) (e j).drive)
          ∙ ap (λ (y : State). mk_sending hs (placed p y fl i a t w b).state (placed p y fl i a t w b).inflight (stripe_in y i) (placed p y fl i a t w b).drive) (sym begun_as)
