-- What each change of the state does to its eighths. Assumes nothing.
use Rattle.std.specs.Prelude.{◌≡◌, true, not, ◌⊎◌, ◌≢◌, eqb, get_or}
use Rattle.std.proofs.Math.Path.{refl, ap}
use Rattle.std.proofs.Common.{◌∙◌, inl, inr, ⊎_elim, zero-mul, arith}
use Prim.Native.Nat.{ℕ, suc, ◌*◌, ◌<◌}
use Rattle.std.proofs.Math.Nat.{one-mul}
use Rattle.std.proofs.Math.ListN.{length-set}
use Rattle.std.proofs.Math.Seq.{get_or-set_same, get_or-set_other}
use Rattle.std.specs.Int.Bits.{bit_or, or_zero_r}
use Rattle.spec.specs.declared.State.{State}
use Rattle.spec.specs.Layout.{mk_rec}
use Rattle.spec.specs.Lists.{only, is_in}
use Rattle.spec.specs.Memory.{cell, stripe_in, filled_in_of, landed_in, is_write, entry_in_of, offset_in, is_free, set_stamp, set_open, set_closed, begin_stripe}
use Rattle.spec.specs.Memory.{add_entry, landed_mask, mark_landed, free_stripe}
use Rattle.law_basic.specs.Mask.{is_in_with}
use Rattle.law_drives.specs.Slots.{cell-low}
use Rattle.proof_crash_machine.specs.Exec.{or_1, or_2}
use Rattle.proof_crash_calls.specs.Base.{eqb_self}
use Rattle.proof_crash_calls.specs.Rel.{RowsLong, in_use_of}

pub record SameSlot (st st' : State) (j : ℕ) : Type 0 where
  pub number : stripe_in st' j ≡ stripe_in st j
  pub filled : filled_in_of st' j ≡ filled_in_of st j
  pub landed : landed_in st' j ≡ landed_in st j
  pub entry : (k : ℕ) → k < 8 → entry_in_of st' j k ≡ entry_in_of st j k
  pub offset : (d : ℕ) → d < 8 → offset_in st' j d ≡ offset_in st j d
  pub write : (k : ℕ) → is_write st' j k ≡ is_write st j k

pub cell_apart : (i k j l : ℕ) → k < 8 → l < 8 → (i ≢ j) ⊎ (k ≢ l) → cell i k ≢ cell j l
unfolding cell
cell_apart i k j l a b n e = ⊎_elim (λ (q : i ≢ j). q (omega arith)) (λ (q : k ≢ l). q (omega arith)) n

pub same_used : (st st' : State) (j : ℕ) → SameSlot st st' j → in_use_of st' j ≡ in_use_of st j
unfolding in_use_of is_free
same_used st st' j a = ap (λ (n : ℕ). not (eqb n 0)) a.filled

pub same_then : (st st' st'' : State) (j : ℕ) → SameSlot st st' j → SameSlot st' st'' j → SameSlot st st'' j
same_then st st' st'' j a b = record {
  number = b.number ∙ a.number;
  filled = b.filled ∙ a.filled;
  landed = b.landed ∙ a.landed;
  entry = λ k l. b.entry k l ∙ a.entry k l;
  offset = λ d l. b.offset d l ∙ a.offset d l;
  write = λ k. b.write k ∙ a.write k;
}

-- ---- one position filled

module _ (st : State) (L : RowsLong st) (i : ℕ) (il : i < 8) (a t w : ℕ) (kl : filled_in_of st i < 8) where
  pub add_long : RowsLong (add_entry st i a t w)
  unfolding add_entry
  add_long = record {
    numbers = L.numbers;
    filled = length-set st.filled i (suc (filled_in_of st i)) ∙ L.filled;
    writes = length-set st.writes i (bit_or (get_or st.writes i 0) (w * only (filled_in_of st i))) ∙ L.writes;
    landed = L.landed;
    addresses = length-set st.addresses (cell i (filled_in_of st i)) a ∙ L.addresses;
    stamps = length-set st.stamps (cell i (filled_in_of st i)) t ∙ L.stamps;
    offsets = L.offsets;
  }

  pub add-filled : filled_in_of (add_entry st i a t w) i ≡ suc (filled_in_of st i)
  add-filled = go (filled_in_of st i) refl
    where
      go : (k : ℕ) → filled_in_of st i ≡ k → filled_in_of (add_entry st i a t w) i ≡ suc k
      go k e = unfold add_entry filled_in_of in (get_or-set_same st.filled i (suc (get_or st.filled i 0)) 0 (omega (arith, L.filled)) ∙ ap suc (unfold filled_in_of in e))

  pub add_number : (j : ℕ) → stripe_in (add_entry st i a t w) j ≡ stripe_in st j
  unfolding add_entry stripe_in
  add_number j = refl

  pub add-landed : (j : ℕ) → landed_in (add_entry st i a t w) j ≡ landed_in st j
  unfolding add_entry landed_in
  add-landed j = refl

  pub add_offset : (j d : ℕ) → offset_in (add_entry st i a t w) j d ≡ offset_in st j d
  unfolding add_entry offset_in
  add_offset j d = refl

  -- the new record
  pub add_entry_holds : entry_in_of (add_entry st i a t w) i (filled_in_of st i) ≡ mk_rec a t (stripe_in st i)
  unfolding add_entry entry_in_of stripe_in
  add_entry_holds = λ j. mk_rec
      (get_or-set_same st.addresses (cell i (filled_in_of st i)) a 0 (omega (arith, L.addresses, cell-low i (filled_in_of st i) il kl)) j)
      (get_or-set_same st.stamps (cell i (filled_in_of st i)) t 0 (omega (arith, L.stamps, cell-low i (filled_in_of st i) il kl)) j) (get_or st.numbers i 0)

  pub add_entry_old : (j k : ℕ) → k < 8 → (j ≢ i) ⊎ (k ≢ filled_in_of st i) → entry_in_of (add_entry st i a t w) j k ≡ entry_in_of st j k
  unfolding add_entry entry_in_of stripe_in
  add_entry_old j k b n = λ x. mk_rec
      (get_or-set_other st.addresses (cell i (filled_in_of st i)) (cell j k) a 0 (cell_apart j k i (filled_in_of st i) b kl n) x)
      (get_or-set_other st.stamps (cell i (filled_in_of st i)) (cell j k) t 0 (cell_apart j k i (filled_in_of st i) b kl n) x) (get_or st.numbers j 0)

  pub add_same : (j : ℕ) → j ≢ i → SameSlot st (add_entry st i a t w) j
  add_same j n = record {
    number = add_number j;
    filled = unfold add_entry filled_in_of in get_or-set_other st.filled i j (suc (get_or st.filled i 0)) 0 n;
    landed = add-landed j;
    entry = λ k b. add_entry_old j k b (inl n);
    offset = λ d b. add_offset j d;
    write = λ k. unfold add_entry is_write in ap (λ (m : ℕ). is_in m k) (get_or-set_other st.writes i j (bit_or (get_or st.writes i 0) (w * only (filled_in_of st i))) 0 n);
  }

  writes_now : (k : ℕ) → is_write (add_entry st i a t w) i k ≡ is_in (bit_or (get_or st.writes i 0) (w * only (filled_in_of st i))) k
  unfolding add_entry is_write
  writes_now k = ap (λ (m : ℕ). is_in m k) (get_or-set_same st.writes i (bit_or (get_or st.writes i 0) (w * only (filled_in_of st i))) 0 (omega (arith, L.writes)))

  -- a mark stays; that of a write is set
  pub add_write : (w ≡ 0) ⊎ (w ≡ 1) → (k : ℕ) → k < 8 → is_write st i k ≡ true → is_write (add_entry st i a t w) i k ≡ true
  add_write (inl e) k b q =
      writes_now k ∙ ap (λ (n : ℕ). is_in (bit_or (get_or st.writes i 0) n) k) (ap (λ (n : ℕ). n * only (filled_in_of st i)) e ∙ zero-mul (only (filled_in_of st i)))
      ∙ ap (λ (n : ℕ). is_in n k) (or_zero_r (get_or st.writes i 0)) ∙ (unfold is_write in q)
  add_write (inr e) k b q =
      writes_now k ∙ ap (λ (n : ℕ). is_in (bit_or (get_or st.writes i 0) n) k) (ap (λ (n : ℕ). n * only (filled_in_of st i)) e ∙ one-mul (only (filled_in_of st i)))
      ∙ is_in_with (get_or st.writes i 0) (filled_in_of st i) k kl b ∙ or_2 (eqb k (filled_in_of st i)) (is_in (get_or st.writes i 0) k) (unfold is_write in q)

  pub add_write_new : w ≡ 1 → is_write (add_entry st i a t w) i (filled_in_of st i) ≡ true
  add_write_new e =
      writes_now (filled_in_of st i) ∙ ap (λ (n : ℕ). is_in (bit_or (get_or st.writes i 0) n) (filled_in_of st i))
      (ap (λ (n : ℕ). n * only (filled_in_of st i)) e ∙ one-mul (only (filled_in_of st i)))
      ∙ is_in_with (get_or st.writes i 0) (filled_in_of st i) (filled_in_of st i) kl kl
      ∙ or_1 (eqb (filled_in_of st i) (filled_in_of st i)) (is_in (get_or st.writes i 0) (filled_in_of st i)) (eqb_self (filled_in_of st i))

-- ---- a stripe begun

module _ (st : State) (L : RowsLong st) (i : ℕ) (il : i < 8) where
  pub begin_long : RowsLong (begin_stripe st i)
  unfolding begin_stripe
  begin_long = record {
    numbers = length-set st.numbers i st.next ∙ L.numbers;
    filled = length-set st.filled i 0 ∙ L.filled;
    writes = length-set st.writes i 0 ∙ L.writes;
    landed = length-set st.landed i 0 ∙ L.landed;
    addresses = L.addresses;
    stamps = L.stamps;
    offsets = L.offsets;
  }

  pub begin_number : stripe_in (begin_stripe st i) i ≡ st.next
  unfolding begin_stripe stripe_in
  begin_number = get_or-set_same st.numbers i st.next 0 (omega (arith, L.numbers))

  pub begin_filled : filled_in_of (begin_stripe st i) i ≡ 0
  unfolding begin_stripe filled_in_of
  begin_filled = get_or-set_same st.filled i 0 0 (omega (arith, L.filled))

  pub begin_landed : landed_in (begin_stripe st i) i ≡ 0
  unfolding begin_stripe landed_in
  begin_landed = get_or-set_same st.landed i 0 0 (omega (arith, L.landed))

  pub begin_same : (j : ℕ) → j ≢ i → SameSlot st (begin_stripe st i) j
  begin_same j n = record {
    number = unfold begin_stripe stripe_in in get_or-set_other st.numbers i j st.next 0 n;
    filled = unfold begin_stripe filled_in_of in get_or-set_other st.filled i j 0 0 n;
    landed = unfold begin_stripe landed_in in get_or-set_other st.landed i j 0 0 n;
    entry = λ k b. unfold begin_stripe entry_in_of stripe_in in
        ap (λ (s : ℕ). mk_rec (get_or st.addresses (cell j k) 0) (get_or st.stamps (cell j k) 0) s) (get_or-set_other st.numbers i j st.next 0 n);
    offset = λ d b. unfold begin_stripe offset_in in refl;
    write = λ k. unfold begin_stripe is_write in ap (λ (m : ℕ). is_in m k) (get_or-set_other st.writes i j 0 0 n);
  }

-- ---- a chunk landed

module _ (st : State) (L : RowsLong st) (i d o : ℕ) (il : i < 8) (dl : d < 8) where
  pub land_long : RowsLong (mark_landed st i d o)
  unfolding mark_landed
  land_long = record {
    numbers = L.numbers;
    filled = L.filled;
    writes = L.writes;
    landed = length-set st.landed i (landed_mask st i d) ∙ L.landed;
    addresses = L.addresses;
    stamps = L.stamps;
    offsets = length-set st.offsets (cell i d) o ∙ L.offsets;
  }

  pub land_number : (j : ℕ) → stripe_in (mark_landed st i d o) j ≡ stripe_in st j
  unfolding mark_landed stripe_in
  land_number j = refl

  pub land_filled : (j : ℕ) → filled_in_of (mark_landed st i d o) j ≡ filled_in_of st j
  unfolding mark_landed filled_in_of
  land_filled j = refl

  pub land_entry : (j k : ℕ) → entry_in_of (mark_landed st i d o) j k ≡ entry_in_of st j k
  unfolding mark_landed entry_in_of stripe_in
  land_entry j k = refl

  pub land_write : (j k : ℕ) → is_write (mark_landed st i d o) j k ≡ is_write st j k
  unfolding mark_landed is_write
  land_write j k = refl

  pub land_landed : landed_in (mark_landed st i d o) i ≡ landed_mask st i d
  unfolding mark_landed landed_in
  land_landed = get_or-set_same st.landed i (landed_mask st i d) 0 (omega (arith, L.landed))

  pub land_offset : offset_in (mark_landed st i d o) i d ≡ o
  unfolding mark_landed offset_in
  land_offset = get_or-set_same st.offsets (cell i d) o 0 (omega (arith, L.offsets, cell-low i d il dl))

  pub land_offset_old : (j e : ℕ) → e < 8 → (j ≢ i) ⊎ (e ≢ d) → offset_in (mark_landed st i d o) j e ≡ offset_in st j e
  unfolding mark_landed offset_in
  land_offset_old j e b n = get_or-set_other st.offsets (cell i d) (cell j e) o 0 (cell_apart j e i d b dl n)

  pub land_same : (j : ℕ) → j ≢ i → SameSlot st (mark_landed st i d o) j
  land_same j n = record {
    number = land_number j;
    filled = land_filled j;
    landed = unfold mark_landed landed_in in get_or-set_other st.landed i j (landed_mask st i d) 0 n;
    entry = λ k b. land_entry j k;
    offset = λ e b. land_offset_old j e b (inl n);
    write = λ k. land_write j k;
  }

-- ---- an eighth freed

module _ (st : State) (L : RowsLong st) (i : ℕ) (il : i < 8) where
  pub free_long : RowsLong (free_stripe st i)
  unfolding free_stripe
  free_long = record {
    numbers = L.numbers;
    filled = length-set st.filled i 0 ∙ L.filled;
    writes = L.writes;
    landed = L.landed;
    addresses = L.addresses;
    stamps = L.stamps;
    offsets = L.offsets;
  }

  pub free_filled : filled_in_of (free_stripe st i) i ≡ 0
  unfolding free_stripe filled_in_of
  free_filled = get_or-set_same st.filled i 0 0 (omega (arith, L.filled))

  pub free_same : (j : ℕ) → j ≢ i → SameSlot st (free_stripe st i) j
  free_same j n = record {
    number = unfold free_stripe stripe_in in refl;
    filled = unfold free_stripe filled_in_of in get_or-set_other st.filled i j 0 0 n;
    landed = unfold free_stripe landed_in in refl;
    entry = λ k b. unfold free_stripe entry_in_of stripe_in in refl;
    offset = λ d b. unfold free_stripe offset_in in refl;
    write = λ k. unfold free_stripe is_write in refl;
  }

-- ---- what touches no eighth

pub stamp_same : (st : State) (t j : ℕ) → SameSlot st (set_stamp st t) j
stamp_same st t j = record {
  number = unfold set_stamp stripe_in in refl;
  filled = unfold set_stamp filled_in_of in refl;
  landed = unfold set_stamp landed_in in refl;
  entry = λ k b. unfold set_stamp entry_in_of stripe_in in refl;
  offset = λ d b. unfold set_stamp offset_in in refl;
  write = λ k. unfold set_stamp is_write in refl;
}

pub open_same : (st : State) (r j : ℕ) → SameSlot st (set_open st r) j
open_same st r j = record {
  number = unfold set_open stripe_in in refl;
  filled = unfold set_open filled_in_of in refl;
  landed = unfold set_open landed_in in refl;
  entry = λ k b. unfold set_open entry_in_of stripe_in in refl;
  offset = λ d b. unfold set_open offset_in in refl;
  write = λ k. unfold set_open is_write in refl;
}

pub closed_same : (st : State) (j : ℕ) → SameSlot st (set_closed st) j
closed_same st j = record {
  number = unfold set_closed stripe_in in refl;
  filled = unfold set_closed filled_in_of in refl;
  landed = unfold set_closed landed_in in refl;
  entry = λ k b. unfold set_closed entry_in_of stripe_in in refl;
  offset = λ d b. unfold set_closed offset_in in refl;
  write = λ k. unfold set_closed is_write in refl;
}
