-- What each change of the state keeps: its numbers fit their widths. Assumes nothing.
use Rattle.std.proofs.Common.{◌∙◌, subst, sym, one-mul, zero-mul, arith, lit<, length-set}
use Rattle.std.specs.Prelude.{List, [], ◌∷◌, ℕ, zero, suc, ◌*◌, ◌≤◌, ◌<◌, get_or, set, replicate}
use Rattle.std.proofs.lemmas.Nat.{or_lt}
use Rattle.std.proofs.lemmas.List.{length-replicate}
use Rattle.spec.specs.declared.State.{State}
use Rattle.spec.specs.Lists.{only}
use Rattle.spec.specs.Memory.{state_sections, cell, idle_state, zero_state, filled_in_of, landed_in, set_stamp, set_open, set_closed, begin_stripe, add_entry, landed_mask, mark_landed, free_stripe}
use Rattle.law_basic.specs.Mask.{only-lt}
use Rattle.law_drives.specs.Tables.{zero-at}
use Rattle.proof_bytes.specs.Sections.{limit, limit_pos, LowList, StateFits}

-- ---- lists of numbers

pub low_set : (m : ℕ) (l : List ℕ) (i x : ℕ) → ((k : ℕ) → get_or l k 0 < m) → x < m → (k : ℕ) → get_or (set l i x) k 0 < m
low_set m [] i x h g k = h k
low_set m (a ∷ l) zero x h g zero = g
low_set m (a ∷ l) zero x h g (suc k) = h (suc k)
low_set m (a ∷ l) (suc i) x h g zero = h 0
low_set m (a ∷ l) (suc i) x h g (suc k) = low_set m l i x (λ j. h (suc j)) g k

pub set_le : (l : List ℕ) (i x : ℕ) → get_or (set l i x) i 0 ≤ x
set_le [] i x = omega arith
set_le (a ∷ l) zero x = omega arith
set_le (a ∷ l) (suc i) x = set_le l i x

fill_set : {n m : ℕ} (l : List ℕ) (i x : ℕ) → LowList n m l → x < m → LowList n m (set l i x)
fill_set {n} {m} l i x f g = (length-set l i x ∙ f.0, low_set m l i x f.1 g)

zeros_low : (n m : ℕ) → 0 < m → LowList n m (replicate n 0)
zeros_low n m h = (length-replicate n 0, λ k. subst (λ (x : ℕ). x < m) (sym (zero-at n k)) h)

-- ---- the state with a part changed

module _ (st : State) (f : StateFits st) where
  pub fits_stamp : (t : ℕ) → t < limit 2 → StateFits (set_stamp st t)
  unfolding set_stamp
  fits_stamp t h = record {
    live_fits = f.live_fits;
    missing_fits = f.missing_fits;
    stamp_fits = h;
    serial_fits = f.serial_fits;
    opened_fits = f.opened_fits;
    next_fits = f.next_fits;
    numbers_fit = f.numbers_fit;
    filled_fit = f.filled_fit;
    writes_fit = f.writes_fit;
    landed_fit = f.landed_fit;
    addresses_fit = f.addresses_fit;
    stamps_fit = f.stamps_fit;
    offsets_fit = f.offsets_fit;
  }

  pub fits_open : (r : ℕ) → r < limit 4 → r < limit 3 → StateFits (set_open st r)
  unfolding set_open
  fits_open r h k = record {
    live_fits = f.live_fits;
    missing_fits = f.missing_fits;
    stamp_fits = f.stamp_fits;
    serial_fits = k;
    opened_fits = h;
    next_fits = limit_pos 5;
    numbers_fit = f.numbers_fit;
    filled_fit = f.filled_fit;
    writes_fit = f.writes_fit;
    landed_fit = f.landed_fit;
    addresses_fit = f.addresses_fit;
    stamps_fit = f.stamps_fit;
    offsets_fit = f.offsets_fit;
  }

  pub fits_closed : StateFits (set_closed st)
  unfolding set_closed
  fits_closed = record {
    live_fits = f.live_fits;
    missing_fits = f.missing_fits;
    stamp_fits = f.stamp_fits;
    serial_fits = f.serial_fits;
    opened_fits = limit_pos 4;
    next_fits = limit_pos 5;
    numbers_fit = f.numbers_fit;
    filled_fit = f.filled_fit;
    writes_fit = f.writes_fit;
    landed_fit = f.landed_fit;
    addresses_fit = f.addresses_fit;
    stamps_fit = f.stamps_fit;
    offsets_fit = f.offsets_fit;
  }

  pub fits_begin : (i : ℕ) → st.next < limit 6 → suc st.next < limit 5 → StateFits (begin_stripe st i)
  unfolding begin_stripe
  fits_begin i g h = record {
    live_fits = f.live_fits;
    missing_fits = f.missing_fits;
    stamp_fits = f.stamp_fits;
    serial_fits = f.serial_fits;
    opened_fits = f.opened_fits;
    next_fits = h;
    numbers_fit = fill_set st.numbers i st.next f.numbers_fit g;
    filled_fit = fill_set st.filled i 0 f.filled_fit (limit_pos 7);
    writes_fit = fill_set st.writes i 0 f.writes_fit (limit_pos 8);
    landed_fit = fill_set st.landed i 0 f.landed_fit (limit_pos 9);
    addresses_fit = f.addresses_fit;
    stamps_fit = f.stamps_fit;
    offsets_fit = f.offsets_fit;
  }

  write_bit : (w k : ℕ) → w ≤ 1 → w * only k < 256
  write_bit zero k h = subst (λ (x : ℕ). x < 256) (sym (zero-mul (only k))) (lit< tt)
  write_bit (suc zero) k h = subst (λ (x : ℕ). x < 256) (sym (one-mul (only k))) (only-lt k)
  write_bit (suc (suc w)) k h = absurd (let z : ⊥ = omega arith in z)

  pub fits_add : (i a t w : ℕ) → suc (filled_in_of st i) < limit 7 → a < limit 10 → t < limit 11 → w ≤ 1 → StateFits (add_entry st i a t w)
  unfolding add_entry state_sections
  fits_add i a t w h ha ht hw =
      let k = filled_in_of st i in
      record {
        live_fits = f.live_fits;
        missing_fits = f.missing_fits;
        stamp_fits = f.stamp_fits;
        serial_fits = f.serial_fits;
        opened_fits = f.opened_fits;
        next_fits = f.next_fits;
        numbers_fit = f.numbers_fit;
        filled_fit = fill_set st.filled i (suc k) f.filled_fit h;
        writes_fit = fill_set st.writes i _ f.writes_fit (or_lt 8 (get_or st.writes i 0) (w * only k) (f.writes_fit.1 i) (write_bit w k hw));
        landed_fit = f.landed_fit;
        addresses_fit = fill_set st.addresses (cell i k) a f.addresses_fit ha;
        stamps_fit = fill_set st.stamps (cell i k) t f.stamps_fit ht;
        offsets_fit = f.offsets_fit;
      }

  pub fits_mark : (i d o : ℕ) → o < limit 12 → StateFits (mark_landed st i d o)
  unfolding mark_landed landed_mask landed_in state_sections
  fits_mark i d o h = record {
    live_fits = f.live_fits;
    missing_fits = f.missing_fits;
    stamp_fits = f.stamp_fits;
    serial_fits = f.serial_fits;
    opened_fits = f.opened_fits;
    next_fits = f.next_fits;
    numbers_fit = f.numbers_fit;
    filled_fit = f.filled_fit;
    writes_fit = f.writes_fit;
    landed_fit = fill_set st.landed i _ f.landed_fit (or_lt 8 (get_or st.landed i 0) (only d) (f.landed_fit.1 i) (only-lt d));
    addresses_fit = f.addresses_fit;
    stamps_fit = f.stamps_fit;
    offsets_fit = fill_set st.offsets (cell i d) o f.offsets_fit h;
  }

  pub fits_free : (i : ℕ) → StateFits (free_stripe st i)
  unfolding free_stripe
  fits_free i = record {
    live_fits = f.live_fits;
    missing_fits = f.missing_fits;
    stamp_fits = f.stamp_fits;
    serial_fits = f.serial_fits;
    opened_fits = f.opened_fits;
    next_fits = f.next_fits;
    numbers_fit = f.numbers_fit;
    filled_fit = fill_set st.filled i 0 f.filled_fit (limit_pos 7);
    writes_fit = f.writes_fit;
    landed_fit = f.landed_fit;
    addresses_fit = f.addresses_fit;
    stamps_fit = f.stamps_fit;
    offsets_fit = f.offsets_fit;
  }

-- ---- nothing in flight

pub fits_idle : (live gone stamp serial opened next : ℕ) → live < limit 0 → gone < limit 1 → stamp < limit 2 → serial < limit 3 → opened < limit 4 → next < limit 5
    → StateFits (idle_state live gone stamp serial opened next)
unfolding idle_state state_sections
fits_idle live gone stamp serial opened next a b c d e g = record {
  live_fits = a;
  missing_fits = b;
  stamp_fits = c;
  serial_fits = d;
  opened_fits = e;
  next_fits = g;
  numbers_fit = zeros_low 8 (limit 6) (limit_pos 6);
  filled_fit = zeros_low 8 (limit 7) (limit_pos 7);
  writes_fit = zeros_low 8 (limit 8) (limit_pos 8);
  landed_fit = zeros_low 8 (limit 9) (limit_pos 9);
  addresses_fit = zeros_low 64 (limit 10) (limit_pos 10);
  stamps_fit = zeros_low 64 (limit 11) (limit_pos 11);
  offsets_fit = zeros_low 64 (limit 12) (limit_pos 12);
}

pub fits_zero : StateFits zero_state
unfolding zero_state
fits_zero = fits_idle 0 0 0 0 0 0 (limit_pos 0) (limit_pos 1) (limit_pos 2) (limit_pos 3) (limit_pos 4) (limit_pos 5)
