-- Memory after a landing: the bit set; the stripe complete; the segment sealed. Assumes nothing.
use Rattle.std.specs.Prelude.{◌≡◌, refl, List, [], ◌∷◌, ◌++◌, Bool, ◌||◌, ◌≢◌, ℕ, suc, ◌^◌, ◌<◌, eqb, length}
use Rattle.std.proofs.Math.Path.{sym, ap, subst}
use Rattle.std.proofs.Common.{◌∙◌, inr, ⊎_elim, ne_eqb, arith}
use Rattle.std.proofs.Math.Bool.{true, false, not}
use Rattle.std.proofs.Math.Decide.{ℕ_discrete}
use Rattle.std.proofs.lemmas.Bool.{eqb-false}
use Rattle.std.proofs.Math.Seq.{get_or-append_seam}
use Rattle.std.specs.Int.Bits.{bit_or}
use Rattle.std.specs.Int.Count.{ones}
use Rattle.spec.specs.declared.Params.{Params}
use Rattle.spec.specs.declared.State.{State}
use Rattle.spec.specs.Layout.{data_drive}
use Rattle.spec.specs.Lists.{only, is_in}
use Rattle.spec.specs.Memory.{stripe_in, filled_in_of, landed_in, entry_in_of, offset_in, is_free, set_closed, landed_mask, mark_landed, free_stripe, slot_block}
use Rattle.law_basic.specs.Geometry.{Ranged}
use Rattle.law_basic.specs.Mask.{is_in_with, with_lt, ones_all}
use Rattle.law_basic.specs.Ranges.{all_in_below, or_left}
use Rattle.law_drives.specs.Tests.{clash, not_so}
use Rattle.proof_crash_machine.specs.Exec.{true≢false}
use Rattle.proof_crash_machine.specs.Facts.{Off}
use Rattle.proof_crash_machine.specs.Memory.{set_at, Mem, ended}
use Rattle.proof_crash_machine.specs.Put.{length-snoc, off_in, off_left, in_fwd, in_back as Put·in_back, drive_other, each_put}
use Rattle.proof_crash_machine.specs.Val.{Val}
use Rattle.proof_crash_machine.specs.View.{Item, ItemView, upd_same, with_item, InI, chunk_num}
use Rattle.proof_crash_machine.specs.View.Item.{chunk, foot}
use Rattle.proof_crash_machine.specs.Filling.{shut}
use Rattle.proof_crash_items.specs.Items.{value_of}
use Rattle.proof_crash_calls.specs.Base.{or_r, set_at_here, set_at_else}
use Rattle.proof_crash_calls.specs.Cells.{SameSlot, same_used, same_then, land_long, land_number, land_filled, land_entry, land_write, land_landed, land_offset}
use Rattle.proof_crash_calls.specs.Cells.{land_offset_old, land_same, free_long, free_filled, free_same, closed_same}
use Rattle.proof_crash_calls.specs.Rel.{SlotRel, SlotOf, slot_keep, RowsLong, in_use_of, used_filled, filled_used, Rel, Waiting}

pub off_here : (l : List Item) (i : Item) → Off (l ++ (i ∷ [])) (length l) i
off_here l i = (omega (arith, length-snoc l i), get_or-append_seam l i [] (foot 0))

module _ (p : Params) (h : Ranged p) (v : ItemView) (st : State) (fl : List ℕ) (M : Mem) (R : Rel p v st fl M) (d s i o : ℕ) (dl : d < p.N)
    (il : i < 8) (u : in_use_of st i ≡ true) (number : stripe_in st i ≡ s)
    (oe : suc o ≡ length (v d M.zone)) (wide : landed_in st i < 2 ^ p.N) where
  abbrev z : ℕ
  z = M.zone

  abbrev c : Item
  c = chunk s (M.F s d)

  abbrev v' : ItemView
  v' = with_item v d M.zone (chunk s (M.F s d))

  abbrev st₁ : State
  st₁ = mark_landed st i d o

  abbrev k : ℕ
  k = landed_in st i

  d8 : d < 8
  d8 = omega (arith, dl, h.drives_high)

  -- ---- the drives
  fwd : (e j : ℕ) (t : Item) → Off (v e z) j t → Off (v' e z) j t
  fwd e j t = each_put v d z c (λ (e y : ℕ) (l : List Item). Off (v e y) j t → Off l j t)
      (λ q. (omega (arith, q.0, length-snoc (v d z) c), off_left (v d z) c j q.0 ∙ q.1)) e z (λ q. q)

  chunk_before : (x : ℕ) → x ≢ s → (e : ℕ) (y : Val) → InI (chunk x y) (v' e z) → InI (chunk x y) (v e z)
  chunk_before x n e y q = ⊎_elim (λ w. w) (λ (w : (e ≡ d) × (z ≡ z) × (chunk x y ≡ c)). absurd (n (chunk_num w.2))) (Put·in_back v d z c (chunk x y) e z q)

  -- ---- the eighth that landed
  a : SlotRel p (λ e. v e z) (slot_block p fl i) (entry_in_of st i) (offset_in st i) s (filled_in_of st i) k (M.F s) (M.ready s)
  a = subst (λ (x : ℕ). SlotRel p (λ e. v e z) (slot_block p fl i) (entry_in_of st i) (offset_in st i) x (filled_in_of st i) k (M.F x) (M.ready x)) number (R.slot i il u)

  pub mask_bit : (e : ℕ) → e < p.N → is_in (landed_mask st i d) e ≡ (eqb e d || is_in (landed_in st i) e)
  unfolding landed_mask
  mask_bit e el = is_in_with k d e d8 (omega (arith, el, h.drives_high))

  pub bit_on : (e : ℕ) → e < p.N → is_in (landed_mask st i d) e ≡ true → Off (v' e z) (suc (offset_in st₁ i e)) (chunk s (M.F s e))
  bit_on e el q = go (ℕ_discrete e d)
    where
      go : Dec (e ≡ d) → Off (v' e z) (suc (offset_in st₁ i e)) (chunk s (M.F s e))
      go (yes w) = rw (w, land_offset st R.long i d o il d8, oe) (unfold with_item in rw upd_same (off_here (v d z) c))
      go (no w) =
          let b : is_in k e ≡ true = sym (ap (λ (x : Bool). x || is_in k e) (ne_eqb e d w)) ∙ sym (mask_bit e el) ∙ q in
          rw (land_offset_old st R.long i d o il d8 i e (omega (arith, el, h.drives_high)) (inr w)) (fwd e (suc (offset_in st i e)) (chunk s (M.F s e)) (a.on e el b))

  bit_out : (e : ℕ) → e < p.N → is_in (landed_mask st i d) e ≡ false → (x : Val) → InI (chunk s x) (v' e z) → ⊥
  bit_out e el q x w =
      let b : (eqb e d || is_in k e) ≡ false = sym (mask_bit e el) ∙ q in
      let n : e ≢ d = eqb-false e d (or_left (eqb e d) (is_in k e) b) in
      a.out e el (or_r (eqb e d) (is_in k e) b) x (subst (λ (l : List Item). InI (chunk s x) l) (drive_other v d z c e z n) w)

  slot_landed : eqb (ones (landed_mask st i d)) p.N ≡ false → SlotOf p v' st₁ fl z i (M.F (stripe_in st₁ i)) (M.ready (stripe_in st₁ i))
  slot_landed e = rw (land_number st R.long i d o il d8 i, number, land_filled st R.long i d o il d8 i, land_landed st R.long i d o il d8) (record {
    most = a.most;
    mask = e;
    held = λ j b. a.held j b ∙ ap (value_of (slot_block p fl i (data_drive p s j))) (sym (land_entry st R.long i d o il d8 i j));
    blank = a.blank;
    xored = a.xored;
    may = a.may;
    on = bit_on;
    out = bit_out;
  })

  -- ---- the others
  landed_apart : (j : ℕ) → j < 8 → in_use_of st j ≡ true → j ≢ i → stripe_in st j ≢ s
  landed_apart j jl q n e = n (R.once j i jl il q u (e ∙ sym number))

  others-landed :
      (st' : State) (j : ℕ)
      → j < 8
      → in_use_of st j ≡ true
      → j ≢ i
      → SameSlot st st' j
      → (G : ℕ → Val) (r : ℕ → Bool)
      → G ≡ M.F (stripe_in st j)
      → r ≡ M.ready (stripe_in st j)
      → SlotOf p v' st' fl z j G r
  others-landed st' j jl q n S G r eg er = slot_keep p h (λ e. v e z) (λ e. v' e z) (slot_block p fl j) (slot_block p fl j) (entry_in_of st j) (entry_in_of st' j) (offset_in st j) (offset_in st' j)
      (stripe_in st j) (stripe_in st' j) (filled_in_of st j) (filled_in_of st' j) (landed_in st j) (landed_in st' j) G r
      S.number S.filled S.landed (λ e el. refl) S.entry S.offset (λ e x y el w. fwd e x y w) (λ e x el w. chunk_before (stripe_in st j) (landed_apart j jl q n) e x w)
      (rw (eg, er) (R.slot j jl q))

  whole : M.is_open ≡ true → (x : ℕ) → x < M.next → M.fly x ≡ false → (e : ℕ) → e < p.N → (y : Val) × InI (chunk x y) (v' e z)
  whole q x l f e el = let w : (y : Val) × InI (chunk x y) (v e z) = R.whole q x l f e el in (w.0, in_fwd v d z c (chunk x w.0) e z w.1)

  -- ---- not complete

  pub landed_rel : eqb (ones (landed_mask st i d)) p.N ≡ false → Rel p v' st₁ fl M
  landed_rel e = record {
    long = land_long st R.long i d o il d8;
    healthy = unfold mark_landed in R.healthy;
    is_open = unfold mark_landed in R.is_open;
    zone = unfold mark_landed in R.zone;
    next = unfold mark_landed in R.next;
    stamp = unfold mark_landed in R.stamp;
    serial = unfold mark_landed in R.serial;
    stamp_fits = unfold mark_landed in R.stamp_fits;
    serial_fits = unfold mark_landed in R.serial_fits;
    flying = λ j jl q. subst (λ (x : ℕ). M.fly x ≡ true) (sym (land_number st R.long i d o il d8 j)) (R.flying j jl (was j q));
    slot = λ j jl q. slot j jl (was j q) (ℕ_discrete j i);
    once = λ j l jl ll q w x. R.once j l jl ll (was j q) (was l w) (sym (land_number st R.long i d o il d8 j) ∙ x ∙ land_number st R.long i d o il d8 l);
    flies = λ x q. let f : (j : ℕ) × (j < 8) × (in_use_of st j ≡ true) × (stripe_in st j ≡ x) = R.flies x q in
        (f.0, f.1, now f.0 ∙ f.2, land_number st R.long i d o il d8 f.0 ∙ f.3);
    whole = whole;
    busy = R.busy;
  }
    where
      now : (j : ℕ) → in_use_of st₁ j ≡ in_use_of st j
      now j = unfold in_use_of is_free in ap (λ (x : ℕ). not (eqb x 0)) (land_filled st R.long i d o il d8 j)

      was : (j : ℕ) → in_use_of st₁ j ≡ true → in_use_of st j ≡ true
      was j q = sym (now j) ∙ q

      slot : (j : ℕ) → j < 8 → in_use_of st j ≡ true → Dec (j ≡ i) → SlotOf p v' st₁ fl z j (M.F (stripe_in st₁ j)) (M.ready (stripe_in st₁ j))
      slot j jl q (yes w) = subst (λ (x : ℕ). SlotOf p v' st₁ fl z x (M.F (stripe_in st₁ x)) (M.ready (stripe_in st₁ x))) (sym w) (slot_landed e)
      slot j jl q (no w) = others-landed st₁ j jl q w (land_same st R.long i d o il d8 j w) (M.F (stripe_in st₁ j)) (M.ready (stripe_in st₁ j))
          (ap M.F (land_number st R.long i d o il d8 j)) (ap M.ready (land_number st R.long i d o il d8 j))

  pub landed_waits : (x : Val) (y : ℕ) → Waiting p st M x y → Waiting p st₁ M x y
  landed_waits x y q = record {
    i = q.i;
    lt = q.lt;
    in_use_of? = filled_used st₁ q.i (subst (λ (n : ℕ). 0 < n) (sym (land_filled st R.long i d o il d8 q.i)) (used_filled st q.i q.in_use_of?));
    number = land_number st R.long i d o il d8 q.i ∙ q.number;
    k = q.k;
    filled = subst (λ (n : ℕ). q.k < n) (sym (land_filled st R.long i d o il d8 q.i)) q.filled;
    write = land_write st R.long i d o il d8 q.i q.k ∙ q.write;
    val = q.val;
  }

  -- ---- complete

  module _ (done : eqb (ones (landed_mask st i d)) p.N ≡ true) where
    pub mask_full : (e : ℕ) → e < p.N → is_in (landed_mask st i d) e ≡ true
    unfolding landed_mask
    mask_full e el = all_in_below (is_in (bit_or k (only d))) p.N e (sym (ones_all p.N (bit_or k (only d)) h.drives_high (with_lt p.N k d dl h.drives_high wide)) ∙ done) el

    -- on all drives
    pub all_on : (e : ℕ) → e < p.N → (x : Val) × InI (chunk s x) (v' e z)
    all_on e el = (M.F s e, off_in (v' e z) (suc (offset_in st₁ i e)) (chunk s (M.F s e)) (bit_on e el (mask_full e el)))

    abbrev st₂ : State
    st₂ = free_stripe (mark_landed st i d o) i

    long₁ : RowsLong st₁
    long₁ = land_long st R.long i d o il d8

    slots_same : (j : ℕ) → j ≢ i → SameSlot st st₂ j
    slots_same j n = same_then st st₁ st₂ j (land_same st R.long i d o il d8 j n) (free_same st₁ long₁ i il j n)

    freed : in_use_of st₂ i ≡ false
    freed = not_so (in_use_of st₂ i) (λ q. let x : ⊥ = omega (arith, used_filled st₂ i q, free_filled st₁ long₁ i il) in x)

    -- an eighth in use afterwards
    in_use_before : (j : ℕ) → in_use_of st₂ j ≡ true → (j ≢ i) × (in_use_of st j ≡ true)
    in_use_before j q = let n : j ≢ i = λ e. clash q (ap (in_use_of st₂) e ∙ freed) in (n, sym (same_used st st₂ j (slots_same j n)) ∙ q)

    -- all stripes begun: another in flight
    other-flies : (M.next ≡ p.S → (j : ℕ) × (j < 8) × (in_use_of st j ≡ true) × (j ≢ i)) → M.is_open ≡ true → M.next ≡ p.S → (x : ℕ) × (set_at M.fly s false x ≡ true)
    other-flies f q e = let w : (j : ℕ) × (j < 8) × (in_use_of st j ≡ true) × (j ≢ i) = f e in
        (stripe_in st w.0, set_at_else M.fly s false (stripe_in st w.0) (landed_apart w.0 w.1 w.2 w.3) ∙ R.flying w.0 w.1 w.2)

    pub ended_rel : (M.next ≡ p.S → (j : ℕ) × (j < 8) × (in_use_of st j ≡ true) × (j ≢ i)) → Rel p v' st₂ fl (ended M s)
    ended_rel more = record {
      long = free_long st₁ long₁ i il;
      healthy = unfold free_stripe mark_landed in R.healthy;
      is_open = unfold free_stripe mark_landed in R.is_open;
      zone = unfold free_stripe mark_landed in R.zone;
      next = unfold free_stripe mark_landed in R.next;
      stamp = unfold free_stripe mark_landed in R.stamp;
      serial = unfold free_stripe mark_landed in R.serial;
      stamp_fits = unfold free_stripe mark_landed in R.stamp_fits;
      serial_fits = unfold free_stripe mark_landed in R.serial_fits;
      flying = λ j jl q. flying j jl (in_use_before j q);
      slot = λ j jl q. slot j jl (in_use_before j q);
      once =
          λ j l jl ll q w x. R.once j l jl ll (in_use_before j q).1 (in_use_before l w).1 (sym (slots_same j (in_use_before j q).0).number ∙ x ∙ (slots_same l (in_use_before l w).0).number);
      flies = λ x q. flies x q (ℕ_discrete x s);
      whole = λ q x l w. ends q x l w (ℕ_discrete x s);
      busy = other-flies more;
    }
      where
        flying : (j : ℕ) → j < 8 → (j ≢ i) × (in_use_of st j ≡ true) → set_at M.fly s false (stripe_in st₂ j) ≡ true
        flying j jl (n, q) = ap (set_at M.fly s false) (slots_same j n).number ∙ set_at_else M.fly s false (stripe_in st j) (landed_apart j jl q n) ∙ R.flying j jl q

        slot : (j : ℕ) → j < 8 → (j ≢ i) × (in_use_of st j ≡ true) → SlotOf p v' st₂ fl z j (M.F (stripe_in st₂ j)) (M.ready (stripe_in st₂ j))
        slot j jl (n, q) =
            others-landed st₂ j jl q n (slots_same j n) (M.F (stripe_in st₂ j)) (M.ready (stripe_in st₂ j)) (ap M.F (slots_same j n).number) (ap M.ready (slots_same j n).number)

        flies : (x : ℕ) → set_at M.fly s false x ≡ true → Dec (x ≡ s) → (j : ℕ) × (j < 8) × (in_use_of st₂ j ≡ true) × (stripe_in st₂ j ≡ x)
        flies x q (yes e) = clash q (ap (set_at M.fly s false) e ∙ set_at_here M.fly s false)
        flies x q (no e) =
            let f : (j : ℕ) × (j < 8) × (in_use_of st j ≡ true) × (stripe_in st j ≡ x) = R.flies x (sym (set_at_else M.fly s false x e) ∙ q) in
            let n : f.0 ≢ i = λ w. e (sym f.3 ∙ ap (stripe_in st) w ∙ number) in
            (f.0, f.1, same_used st st₂ f.0 (slots_same f.0 n) ∙ f.2, (slots_same f.0 n).number ∙ f.3)

        ends : M.is_open ≡ true → (x : ℕ) → x < M.next → set_at M.fly s false x ≡ false → Dec (x ≡ s) → (e : ℕ) → e < p.N → (y : Val) × InI (chunk x y) (v' e z)
        ends q x l w (yes n) e el = let f : (y : Val) × InI (chunk s y) (v' e z) = all_on e el in (f.0, subst (λ (t : ℕ). InI (chunk t f.0) (v' e z)) (sym n) f.1)
        ends q x l w (no n) e el = whole q x l (sym (set_at_else M.fly s false x n) ∙ w) e el

    -- a write of another stripe stays in flight
    pub ended_waits : (x : Val) (y : ℕ) → y ≢ s → Waiting p st M x y → Waiting p st₂ (ended M s) x y
    ended_waits x y n q =
        let j : q.i ≢ i = λ e. n (sym q.number ∙ ap (stripe_in st) e ∙ number) in
        let S : SameSlot st st₂ q.i = slots_same q.i j in
        record {
          i = q.i;
          lt = q.lt;
          in_use_of? = same_used st st₂ q.i S ∙ q.in_use_of?;
          number = S.number ∙ q.number;
          k = q.k;
          filled = omega (arith, S.filled, q.filled);
          write = S.write q.k ∙ q.write;
          val = q.val;
        }

    -- ---- the last one: the segment is sealed
    pub sealed_rel : (u' : ItemView) → ((j : ℕ) → j < 8 → in_use_of st j ≡ true → j ≡ i) → Rel p u' (set_closed st₂) fl (shut (ended M s))
    sealed_rel u' lone = record {
      long = unfold set_closed in record {
        numbers = (free_long st₁ long₁ i il).numbers;
        filled = (free_long st₁ long₁ i il).filled;
        writes = (free_long st₁ long₁ i il).writes;
        landed = (free_long st₁ long₁ i il).landed;
        addresses = (free_long st₁ long₁ i il).addresses;
        stamps = (free_long st₁ long₁ i il).stamps;
        offsets = (free_long st₁ long₁ i il).offsets;
      };
      healthy = unfold set_closed free_stripe mark_landed in R.healthy;
      is_open = unfold set_closed in refl;
      zone = λ q. true≢false q;
      next = λ q. true≢false q;
      stamp = unfold set_closed free_stripe mark_landed in R.stamp;
      serial = unfold set_closed free_stripe mark_landed in R.serial;
      stamp_fits = unfold set_closed free_stripe mark_landed in R.stamp_fits;
      serial_fits = unfold set_closed free_stripe mark_landed in R.serial_fits;
      flying = λ j jl q. none j jl q;
      slot = λ j jl q. none j jl q;
      once = λ j l jl ll q w x. none j jl q;
      flies = λ x q. idle x q (ℕ_discrete x s);
      whole = λ q. true≢false q;
      busy = λ q. true≢false q;
    }
      where
        none : {A : Type 0} (j : ℕ) → j < 8 → in_use_of (set_closed st₂) j ≡ true → A
        none j jl q = let w : (j ≢ i) × (in_use_of st j ≡ true) = in_use_before j (sym (same_used st₂ (set_closed st₂) j (closed_same st₂ j)) ∙ q) in absurd (w.0 (lone j jl w.1))

        idle : (x : ℕ) → set_at M.fly s false x ≡ true → Dec (x ≡ s) → (j : ℕ) × (j < 8) × (in_use_of (set_closed st₂) j ≡ true) × (stripe_in (set_closed st₂) j ≡ x)
        idle x q (yes e) = clash q (ap (set_at M.fly s false) e ∙ set_at_here M.fly s false)
        idle x q (no e) =
            let f : (j : ℕ) × (j < 8) × (in_use_of st j ≡ true) × (stripe_in st j ≡ x) = R.flies x (sym (set_at_else M.fly s false x e) ∙ q) in
            absurd (e (sym f.3 ∙ ap (stripe_in st) (lone f.0 f.1 f.2) ∙ number))

    pub sealed-idle : ((j : ℕ) → j < 8 → in_use_of st j ≡ true → j ≡ i) → (x : ℕ) → set_at M.fly s false x ≡ false
    sealed-idle lone x = go (ℕ_discrete x s)
      where
        go : Dec (x ≡ s) → set_at M.fly s false x ≡ false
        go (yes e) = ap (set_at M.fly s false) e ∙ set_at_here M.fly s false
        go (no e) = set_at_else M.fly s false x e ∙ not_so (M.fly x) (λ q.
            let f : (j : ℕ) × (j < 8) × (in_use_of st j ≡ true) × (stripe_in st j ≡ x) = R.flies x q in e (sym f.3 ∙ ap (stripe_in st) (lone f.0 f.1 f.2) ∙ number))
