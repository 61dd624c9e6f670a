-- The state with a part changed, read back. Assumes nothing.
use Rattle.std.specs.Prelude.{◌≡◌, true, false, not, ℕ, suc, ◌*◌, ◌<◌, eqb, get_or}
use Rattle.std.proofs.Math.Path.{refl, ap, ap₂}
use Rattle.std.proofs.Common.{◌∙◌, eq-eqb, ne_eqb, arith}
use Rattle.std.proofs.Math.ListN.{length-set}
use Rattle.std.proofs.Math.Seq.{get_or-set_same, get_or-set_other}
use Rattle.std.specs.Int.Bits.{bit_or}
use Rattle.spec.specs.declared.State.{State}
use Rattle.spec.specs.Layout.{mk_rec}
use Rattle.spec.specs.Lists.{only}
use Rattle.spec.specs.Memory.{cell, stripe_in, filled_in_of, landed_in, entry_in_of, offset_in, is_free, begin_stripe, add_entry, landed_mask, mark_landed, free_stripe}
use Rattle.law_drives.specs.Slots.{cell-low}
use Rattle.proof_tables.specs.Run.{flies, Lists}

pub cell_same : (i j k l : ℕ) → k < 8 → l < 8 → cell i k ≡ cell j l → (i ≡ j) × (k ≡ l)
unfolding cell
cell_same i j k l a b e = (omega arith, omega arith)

module _ (st : State) (ls : Lists st) (i : ℕ) (hi : i < 8) where
  -- ---- beginStripe
  pub number_begun : stripe_in (begin_stripe st i) i ≡ st.next
  unfolding stripe_in begin_stripe
  number_begun = get_or-set_same st.numbers i st.next 0 (omega (arith, ls.numbers_long))

  pub begin_number_other : (j : ℕ) → (j ≡ i → ⊥) → stripe_in (begin_stripe st i) j ≡ stripe_in st j
  unfolding stripe_in begin_stripe
  begin_number_other j n = get_or-set_other st.numbers i j st.next 0 n

  pub filled_begun : filled_in_of (begin_stripe st i) i ≡ 0
  unfolding filled_in_of begin_stripe
  filled_begun = get_or-set_same st.filled i 0 0 (omega (arith, ls.filled_long))

  pub begin_filled-other : (j : ℕ) → (j ≡ i → ⊥) → filled_in_of (begin_stripe st i) j ≡ filled_in_of st j
  unfolding filled_in_of begin_stripe
  begin_filled-other j n = get_or-set_other st.filled i j 0 0 n

  pub landed_begun : landed_in (begin_stripe st i) i ≡ 0
  unfolding landed_in begin_stripe
  landed_begun = get_or-set_same st.landed i 0 0 (omega (arith, ls.landed_long))

  pub begin_landed-other : (j : ℕ) → (j ≡ i → ⊥) → landed_in (begin_stripe st i) j ≡ landed_in st j
  unfolding landed_in begin_stripe
  begin_landed-other j n = get_or-set_other st.landed i j 0 0 n

  pub begin_writes : get_or (begin_stripe st i).writes i 0 ≡ 0
  unfolding begin_stripe
  begin_writes = get_or-set_same st.writes i 0 0 (omega (arith, ls.writes_long))

  pub begin_writes_other : (j : ℕ) → (j ≡ i → ⊥) → get_or (begin_stripe st i).writes j 0 ≡ get_or st.writes j 0
  unfolding begin_stripe
  begin_writes_other j n = get_or-set_other st.writes i j 0 0 n

  pub begin_entry_other : (j e : ℕ) → (j ≡ i → ⊥) → entry_in_of (begin_stripe st i) j e ≡ entry_in_of st j e
  unfolding entry_in_of stripe_in begin_stripe
  begin_entry_other j e n = ap (λ (x : ℕ). mk_rec (get_or st.addresses (cell j e) 0) (get_or st.stamps (cell j e) 0) x) (get_or-set_other st.numbers i j st.next 0 n)

  pub begin_offset : (j d : ℕ) → offset_in (begin_stripe st i) j d ≡ offset_in st j d
  unfolding offset_in begin_stripe
  begin_offset j d = refl

  pub begin_next : (begin_stripe st i).next ≡ suc st.next
  unfolding begin_stripe
  begin_next = refl

  pub begin_lists : Lists (begin_stripe st i)
  unfolding begin_stripe
  begin_lists = record {
    numbers_long = length-set st.numbers i st.next ∙ ls.numbers_long;
    filled_long = length-set st.filled i 0 ∙ ls.filled_long;
    writes_long = length-set st.writes i 0 ∙ ls.writes_long;
    landed_long = length-set st.landed i 0 ∙ ls.landed_long;
    addresses_long = ls.addresses_long;
    stamps_long = ls.stamps_long;
    offsets_long = ls.offsets_long;
  }

  -- ---- addEntry
  module _ (a t w : ℕ) where
    pub filled-added : filled_in_of (add_entry st i a t w) i ≡ suc (filled_in_of st i)
    unfolding filled_in_of add_entry
    filled-added = get_or-set_same st.filled i (suc (get_or st.filled i 0)) 0 (omega (arith, ls.filled_long))

    pub add-filled-other : (j : ℕ) → (j ≡ i → ⊥) → filled_in_of (add_entry st i a t w) j ≡ filled_in_of st j
    unfolding filled_in_of add_entry
    add-filled-other j n = get_or-set_other st.filled i j (suc (get_or st.filled i 0)) 0 n

    pub number_added : (j : ℕ) → stripe_in (add_entry st i a t w) j ≡ stripe_in st j
    unfolding stripe_in add_entry
    number_added j = refl

    pub landed-added : (j : ℕ) → landed_in (add_entry st i a t w) j ≡ landed_in st j
    unfolding landed_in add_entry
    landed-added j = refl

    pub offset_added : (j d : ℕ) → offset_in (add_entry st i a t w) j d ≡ offset_in st j d
    unfolding offset_in add_entry
    offset_added j d = refl

    pub add_writes : get_or (add_entry st i a t w).writes i 0 ≡ bit_or (get_or st.writes i 0) (w * only (filled_in_of st i))
    unfolding add_entry
    add_writes = get_or-set_same st.writes i (bit_or (get_or st.writes i 0) (w * only (filled_in_of st i))) 0 (omega (arith, ls.writes_long))

    pub add_writes_other : (j : ℕ) → (j ≡ i → ⊥) → get_or (add_entry st i a t w).writes j 0 ≡ get_or st.writes j 0
    unfolding add_entry
    add_writes_other j n = get_or-set_other st.writes i j (bit_or (get_or st.writes i 0) (w * only (filled_in_of st i))) 0 n

    pub entry_added : filled_in_of st i < 8 → entry_in_of (add_entry st i a t w) i (filled_in_of st i) ≡ mk_rec a t (stripe_in st i)
    unfolding entry_in_of add_entry stripe_in
    entry_added f = ap₂ (λ (x y : ℕ). mk_rec x y (get_or st.numbers i 0))
        (get_or-set_same st.addresses (cell i (filled_in_of st i)) a 0 (let z = cell-low i (filled_in_of st i) hi f in omega (arith, ls.addresses_long)))
        (get_or-set_same st.stamps (cell i (filled_in_of st i)) t 0 (let z = cell-low i (filled_in_of st i) hi f in omega (arith, ls.stamps_long)))

    pub add_entry_other : (j e : ℕ) → (cell j e ≡ cell i (filled_in_of st i) → ⊥) → entry_in_of (add_entry st i a t w) j e ≡ entry_in_of st j e
    unfolding entry_in_of add_entry stripe_in
    add_entry_other j e n = ap₂ (λ (x y : ℕ). mk_rec x y (get_or st.numbers j 0))
        (get_or-set_other st.addresses (cell i (filled_in_of st i)) (cell j e) a 0 n) (get_or-set_other st.stamps (cell i (filled_in_of st i)) (cell j e) t 0 n)

    pub add_lists : Lists (add_entry st i a t w)
    unfolding add_entry
    add_lists = record {
      numbers_long = ls.numbers_long;
      filled_long = length-set st.filled i (suc (filled_in_of st i)) ∙ ls.filled_long;
      writes_long = length-set st.writes i (bit_or (get_or st.writes i 0) (w * only (filled_in_of st i))) ∙ ls.writes_long;
      landed_long = ls.landed_long;
      addresses_long = length-set st.addresses (cell i (filled_in_of st i)) a ∙ ls.addresses_long;
      stamps_long = length-set st.stamps (cell i (filled_in_of st i)) t ∙ ls.stamps_long;
      offsets_long = ls.offsets_long;
    }

  -- ---- markLanded, freeStripe
  module _ (d o : ℕ) (hd : d < 8) where
    pub mark_landed_holds : landed_in (mark_landed st i d o) i ≡ landed_mask st i d
    unfolding landed_in mark_landed
    mark_landed_holds = get_or-set_same st.landed i (landed_mask st i d) 0 (omega (arith, ls.landed_long))

    pub mark_landed-other : (j : ℕ) → (j ≡ i → ⊥) → landed_in (mark_landed st i d o) j ≡ landed_in st j
    unfolding landed_in mark_landed
    mark_landed-other j n = get_or-set_other st.landed i j (landed_mask st i d) 0 n

    pub mark_offset : offset_in (mark_landed st i d o) i d ≡ o
    unfolding offset_in mark_landed
    mark_offset = get_or-set_same st.offsets (cell i d) o 0 (let z = cell-low i d hi hd in omega (arith, ls.offsets_long))

    pub mark_offset_other : (j e : ℕ) → (cell j e ≡ cell i d → ⊥) → offset_in (mark_landed st i d o) j e ≡ offset_in st j e
    unfolding offset_in mark_landed
    mark_offset_other j e n = get_or-set_other st.offsets (cell i d) (cell j e) o 0 n

    pub mark_lists_holds : Lists (mark_landed st i d o)
    unfolding mark_landed
    mark_lists_holds = record {
      numbers_long = ls.numbers_long;
      filled_long = ls.filled_long;
      writes_long = ls.writes_long;
      landed_long = length-set st.landed i (landed_mask st i d) ∙ ls.landed_long;
      addresses_long = ls.addresses_long;
      stamps_long = ls.stamps_long;
      offsets_long = length-set st.offsets (cell i d) o ∙ ls.offsets_long;
    }

  pub filled_freed : filled_in_of (free_stripe st i) i ≡ 0
  unfolding filled_in_of free_stripe
  filled_freed = get_or-set_same st.filled i 0 0 (omega (arith, ls.filled_long))

  pub free_filled-other : (j : ℕ) → (j ≡ i → ⊥) → filled_in_of (free_stripe st i) j ≡ filled_in_of st j
  unfolding filled_in_of free_stripe
  free_filled-other j n = get_or-set_other st.filled i j 0 0 n

  pub free_lists : Lists (free_stripe st i)
  unfolding free_stripe
  free_lists = record {
    numbers_long = ls.numbers_long;
    filled_long = length-set st.filled i 0 ∙ ls.filled_long;
    writes_long = ls.writes_long;
    landed_long = ls.landed_long;
    addresses_long = ls.addresses_long;
    stamps_long = ls.stamps_long;
    offsets_long = ls.offsets_long;
  }

pub free_is : (st : State) (i : ℕ) → is_free st i ≡ eqb (filled_in_of st i) 0
unfolding is_free
free_is st i = refl

pub some_flies : (st : State) (i : ℕ) → (filled_in_of st i ≡ 0 → ⊥) → flies st i ≡ true
unfolding is_free
some_flies st i n = ap not (ne_eqb (filled_in_of st i) 0 n)

pub none_flies : (st : State) (i : ℕ) → filled_in_of st i ≡ 0 → flies st i ≡ false
unfolding is_free
none_flies st i e = ap not (eq-eqb (filled_in_of st i) 0 e)
