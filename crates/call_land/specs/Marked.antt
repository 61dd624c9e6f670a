-- The eighth of a stripe whose chunk landed, put back into the state: one law of lists, then field by field (01, Landing). Assumes nothing.
use Rattle.std.specs.Prelude.{◌≡◌, List, Bool, cond, ℕ, ◌+◌, ◌*◌, ◌≤◌, ◌<◌, length, get_or}
use Rattle.std.proofs.Common.{sym, ◌∙◌, get_or-set_same, get_or-set_other}
use Rattle.std.proofs.Math.Path.{ap}
use Rattle.std.proofs.Math.Bool.{true, false}
use Rattle.std.proofs.Math.Decide.{ℕ_discrete}
use native.Mathlib.Omega.{arith}
use Rattle.std.proofs.Math.ListN.{set, length-set}
use Rattle.std.proofs.Math.Seq.{set-get_or}
use Rattle.spec.specs.declared.Answer.{Answer}
use Rattle.spec.specs.declared.State.{State}
use Rattle.spec.specs.Bytes.{part, splice}
use Rattle.spec.specs.Memory.{mk_state, cell, stripe_in, filled_in_of, landed_mask, mark_landed, free_stripe, set_closed}
use Rattle.law_basic.specs.Splice.{get_d_part, length_part, splice-part, is_splice}
use Rattle.mem_rows.specs.declared.Row.{Row}
use Rattle.mem_rows.specs.declared.Change.{Change}
use Rattle.mem_rows.specs.declared.Front.{Front}
use Rattle.mem_rows.specs.Rows.{slot_row, put_row, put_front, front_of, changed, RowsSized, RowSized, row_sized, row_put, changed_row}
use Rattle.call_land_chunk.specs.Alone.{mark_row, free_row}

-- an element set within a part, and the part put back
pub splice_set : (l : List ℕ) (a n d v : ℕ) → d < n → a + n ≤ length l → splice l a (set (part a n l) d v) ≡ set l (a + d) v
splice_set l a n d v h f =
    sym (is_splice l a s m (omega (arith, long)) (length-set l (a + d) v)
    (λ i k. get_or-set_other l (a + d) i v 0 (λ q. let w : ⊥ = omega (arith, q) in w))
    (λ i k. mid i (omega (arith, k, long)) (ℕ_discrete i d))
    (λ i k. get_or-set_other l (a + d) i v 0 (λ q. let w : ⊥ = omega (arith, q, long) in w)))
  where
    s : List ℕ
    s = set (part a n l) d v

    m : List ℕ
    m = set l (a + d) v

    long : length s ≡ n
    long = length-set (part a n l) d v ∙ length_part a n l f

    mid : (i : ℕ) → i < n → Dec (i ≡ d) → get_or m (a + i) 0 ≡ get_or s i 0
    mid i k (yes q) =
        ap (λ (x : ℕ). get_or m (a + x) 0) q ∙ get_or-set_same l (a + d) v 0 (omega arith)
        ∙ sym (ap (λ (x : ℕ). get_or s x 0) q ∙ get_or-set_same (part a n l) d v 0 (omega (arith, length_part a n l f)))
    mid i k (no q) =
        get_or-set_other l (a + d) (a + i) v 0 (λ e. q (omega (arith, e))) ∙ sym (get_d_part a n l i k) ∙ sym (get_or-set_other (part a n l) d i v 0 q)

-- 01, Landing: what a landing changes; b: no segment is open after it
unfoldable pub change_to : Answer → Front → ℕ → Row → Bool → Change
change_to a f i r b = record { answer = a; stamp = f.stamp; serial = f.serial; opened = cond b 0 f.opened; next = cond b 0 f.next; slot = i; row = r }

module _ (st : State) (i d o : ℕ) (h : i < 8) (l : d < 8) (sized : RowsSized st) where
  abbrev r₁ : Row
  r₁ = mark_row (slot_row st i) d o

  splice-kept : (x : List ℕ) → length x ≡ 64 → splice x (cell i 0) (part (cell i 0) 8 x) ≡ x
  unfolding cell
  splice-kept x e = splice-part x (8 * i + 0) 8 (omega arith)

  offsets_set : splice st.offsets (cell i 0) (set (part (cell i 0) 8 st.offsets) d o) ≡ set st.offsets (cell i d) o
  unfolding cell
  offsets_set =
      let e : 8 * i + 0 + d ≡ 8 * i + d = omega arith in
      splice_set st.offsets (8 * i + 0) 8 d o l (omega (arith, sized.offsets)) ∙ ap (λ (x : ℕ). set st.offsets x o) e

  -- with the numbers in front as they come
  put-marked-at : (opened next : ℕ) (fs : List ℕ)
      → mk_state st.live st.missing st.stamp.0 st.serial.0 opened next (set st.numbers i r₁.number) fs (set st.writes i r₁.writes) (set st.landed i r₁.landed)
      (splice st.addresses (cell i 0) r₁.addresses) (splice st.stamps (cell i 0) r₁.stamps) (splice st.offsets (cell i 0) r₁.offsets)
      ≡ mk_state st.live st.missing st.stamp.0 st.serial.0 opened next st.numbers fs st.writes (set st.landed i (landed_mask st i d)) st.addresses st.stamps
      (set st.offsets (cell i d) o)
  unfolding mark_row slot_row stripe_in landed_mask
  put-marked-at opened next fs =
      λ j.
      mk_state st.live st.missing st.stamp.0 st.serial.0 opened next (set-get_or st.numbers i 0 j) fs (set-get_or st.writes i 0 j) (set st.landed i (landed_mask st i d))
      (splice-kept st.addresses sized.addresses j) (splice-kept st.stamps sized.stamps j) (offsets_set j)

  -- the marked eighth put back
  pub put-marked : put_row st i (mark_row (slot_row st i) d o) ≡ mark_landed st i d o
  unfolding put_row mark_landed mark_row slot_row filled_in_of
  put-marked =
      let f = set-get_or st.filled i 0 in
      put-marked-at st.opened st.next (set st.filled i (get_or st.filled i 0))
      ∙ (λ j. mk_state st.live st.missing st.stamp.0 st.serial.0 st.opened st.next st.numbers (f j) st.writes
      (set st.landed i (landed_mask st i d)) st.addresses st.stamps (set st.offsets (cell i d) o))

  marked_sized : RowSized (mark_row (slot_row st i) d o)
  unfolding mark_row
  marked_sized =
      let z = row_sized st i h sized in
      record { addresses = z.addresses; stamps = z.stamps; offsets = length-set (slot_row st i).offsets d o ∙ z.offsets }

  -- the eighth of the state with the chunk landed
  pub row_marked : mark_row (slot_row st i) d o ≡ slot_row (mark_landed st i d o) i
  row_marked = sym (row_put st i h sized r₁ marked_sized) ∙ ap (λ (x : State). slot_row x i) put-marked

  -- 01, Landing: the chunk has landed
  pub changed-marked : (a : Answer) → changed st (change_to a (front_of st) i (mark_row (slot_row st i) d o) false) ≡ mark_landed st i d o
  unfolding change_to put_front
  changed-marked a = changed_row st (change_to a (front_of st) i r₁ false) h ∙ put-marked

  -- 01, Landing: the stripe is complete, and the last one's landing closes the segment
  pub changed_freed : (a : Answer) (b : Bool)
      → changed st (change_to a (front_of st) i (free_row (mark_row (slot_row st i) d o)) b) ≡ cond b (set_closed (free_stripe (mark_landed st i d o) i)) (free_stripe (mark_landed st i d o) i)
  unfolding change_to put_front put_row free_row mark_landed free_stripe set_closed
  changed_freed a true = changed_row st (change_to a (front_of st) i (free_row r₁) true) h ∙ put-marked-at 0 0 (set st.filled i 0)
  changed_freed a false = changed_row st (change_to a (front_of st) i (free_row r₁) false) h ∙ put-marked-at st.opened st.next (set st.filled i 0)
