-- Positions filled and stripes begun: the state stays in range and what holds is kept; the in-flight buffer keeps its length. Assumes nothing.
use Rattle.std.specs.Prelude.{◌≡◌, List, Bool, true, false, cond, not, ◌⊎◌, ℕ, zero, suc, ◌*◌, ◌^◌, ◌≤◌, ◌<◌, eqb, length, get_or}
use Rattle.std.proofs.Math.Path.{refl}
use Rattle.std.proofs.Common.{sym, ap, ◌∙◌, subst, one-mul, zero-mul, arith, pow_pos}
use Rattle.std.proofs.Math.Decide.{ℕ_discrete}
use Rattle.std.proofs.lemmas.Nat.{or_lt}
use Rattle.std.specs.Int.Count.{ones}
use Rattle.spec.specs.declared.Params.{Params}
use Rattle.spec.specs.declared.State.{State}
use Rattle.spec.specs.Drives.{View, pointer_at, zone_on}
use Rattle.spec.specs.Layout.{data_drive, header_serial}
use Rattle.spec.specs.Lists.{only}
use Rattle.spec.specs.Memory.{stripe_in, filled_in_of, is_full, begin_stripe, add_entry, set_slot_block, set_slot_parity}
use Rattle.spec.specs.Params.{data_count, capacity, inflight_len, parity_count}
use Rattle.spec.specs.Write.{placed}
use Rattle.law_basic.specs.Geometry.{Ranged, data_drive_lt, data_count_high}
use Rattle.law_drives.specs.Masks.{only-low}
use Rattle.law_drives.specs.Slots.{slot_long, parity_long}
use Rattle.law_drives.specs.States.{SlotOk, StateOk}
use Rattle.law_drives.specs.Tests.{clash}
use Rattle.law_drives.specs.Tidy.{Tidy}
use Rattle.proof_tables.specs.Opened.{busy_same, add_open}
use Rattle.proof_tables.specs.Run.{flies, Lists, HealthyState}
use Rattle.proof_tables.specs.Slots.{number_begun, begin_number_other, filled_begun, begin_filled-other, landed_begun, begin_landed-other, begin_writes}
use Rattle.proof_tables.specs.Slots.{begin_writes_other, begin_next, filled-added, add-filled-other, number_added, landed-added, add_writes, add_writes_other}
use Rattle.proof_tables.specs.Slots.{add_lists, free_is, some_flies}
use Rattle.law_calls.specs.Refusals.{next_low, opened_low}
use Rattle.spec.specs.Segments.{header_at}

-- ---- the in-flight buffer

pub placed_inflight_long : (p : Params) → Ranged p → (st : State) (fl : List ℕ) (i a t w : ℕ) (b : List ℕ) → length fl ≡ inflight_len p → i < 8 → filled_in_of st i < data_count p
    → length b ≡ p.B
    → length (placed p st fl i a t w b).inflight ≡ inflight_len p
unfolding placed
placed_inflight_long p r st fl i a t w b l hi f e =
    let d = data_drive p (stripe_in st i) (filled_in_of st i) in
    let fl' = set_slot_block p fl i d b in
    let q : length fl' ≡ inflight_len p = slot_long p r fl l i hi d b (data_drive_lt p (stripe_in st i) (filled_in_of st i) f) e in
    go (is_full p (add_entry st i a t w) i) fl' (set_slot_parity p fl' i (stripe_in st i)) q (parity_long p r fl' q i hi (stripe_in st i))
  where
    go : (c : Bool) (x y : List ℕ) → length x ≡ inflight_len p → length y ≡ inflight_len p → length (cond c y x) ≡ inflight_len p
    go true x y a b = b
    go false x y a b = a

-- ---- the state in range

module _ (p : Params) (r : Ranged p) (st : State) (ls : Lists st) (so : StateOk p st) (i : ℕ) (hi : i < 8) where
  pub add_ok : (a t w : ℕ) → filled_in_of st i < data_count p → w ≤ 1 → StateOk p (add_entry st i a t w)
  add_ok a t w f hw = record {
    live_is = live_same ∙ so.live_is;
    missing_low = subst (λ (x : ℕ). x < 2 ^ p.N) (sym missing_same) so.missing_low;
    missing_few = subst (λ (x : ℕ). ones x ≤ parity_count p) (sym missing_same) so.missing_few;
    opened_low = opened_ok;
    next_low = subst (λ (x : ℕ). x ≤ p.S) (sym next_same) so.next_low;
    slots_ok = λ j hj. go j (so.slots_ok j hj) (ℕ_discrete j i);
    offsets_low = offs;
  }
    where
      live_same : (add_entry st i a t w).live ≡ st.live
      live_same = unfold add_entry in refl

      missing_same : (add_entry st i a t w).missing ≡ st.missing
      missing_same = unfold add_entry in refl

      opened_ok : (add_entry st i a t w).opened ≤ (add_entry st i a t w).serial.0
      opened_ok = unfold add_entry in so.opened_low

      next_same : (add_entry st i a t w).next ≡ st.next
      next_same = unfold add_entry in refl

      offs : (j : ℕ) → get_or (add_entry st i a t w).offsets j 0 < p.S
      offs j = unfold add_entry in so.offsets_low j

      mask_low : (k w : ℕ) → w ≤ 1 → k < data_count p → w * only k < 2 ^ data_count p
      mask_low k zero h l = subst (λ (x : ℕ). x < 2 ^ data_count p) (sym (zero-mul (only k))) (pow_pos (data_count p))
      mask_low k (suc zero) h l = subst (λ (x : ℕ). x < 2 ^ data_count p) (sym (one-mul (only k))) (only-low k (data_count p) l (let e = data_count_high p r in omega arith))
      mask_low k (suc (suc w)) h l = absurd (let z : ⊥ = omega arith in z)

      go : (j : ℕ) → SlotOk p st j → Dec (j ≡ i) → SlotOk p (add_entry st i a t w) j
      go j s (no n) = record {
        stripe_ok = subst (λ (x : ℕ). x < p.S) (sym (number_added st ls i hi a t w j)) s.stripe_ok;
        filled_ok = subst (λ (x : ℕ). x ≤ data_count p) (sym (add-filled-other st ls i hi a t w j n)) s.filled_ok;
        writes_ok = subst (λ (x : ℕ). x < 2 ^ data_count p) (sym (add_writes_other st ls i hi a t w j n)) s.writes_ok;
        landed_ok = subst (λ (x : ℕ). x < 2 ^ p.N) (sym (landed-added st ls i hi a t w j)) s.landed_ok;
      }
      go j s (yes e) = subst (λ (x : ℕ). SlotOk p (add_entry st i a t w) x) (sym e) (record {
        stripe_ok = subst (λ (x : ℕ). x < p.S) (sym (number_added st ls i hi a t w i)) (so.slots_ok i hi).stripe_ok;
        filled_ok = subst (λ (x : ℕ). x ≤ data_count p) (sym (filled-added st ls i hi a t w)) f;
        writes_ok =
            subst (λ (x : ℕ). x < 2 ^ data_count p) (sym (add_writes st ls i hi a t w))
            (or_lt (data_count p) (get_or st.writes i 0) (w * only (filled_in_of st i)) (so.slots_ok i hi).writes_ok (mask_low (filled_in_of st i) w hw f));
        landed_ok = subst (λ (x : ℕ). x < 2 ^ p.N) (sym (landed-added st ls i hi a t w i)) (so.slots_ok i hi).landed_ok;
      })

  pub begin_ok : st.next < p.S → StateOk p (begin_stripe st i)
  begin_ok nx = record {
    live_is = live_same ∙ so.live_is;
    missing_low = subst (λ (x : ℕ). x < 2 ^ p.N) (sym missing_same) so.missing_low;
    missing_few = subst (λ (x : ℕ). ones x ≤ parity_count p) (sym missing_same) so.missing_few;
    opened_low = opened_ok;
    next_low = subst (λ (x : ℕ). x ≤ p.S) (sym (begin_next st ls i hi)) nx;
    slots_ok = λ j hj. go j (so.slots_ok j hj) (ℕ_discrete j i);
    offsets_low = offs;
  }
    where
      live_same : (begin_stripe st i).live ≡ st.live
      live_same = unfold begin_stripe in refl

      missing_same : (begin_stripe st i).missing ≡ st.missing
      missing_same = unfold begin_stripe in refl

      opened_ok : (begin_stripe st i).opened ≤ (begin_stripe st i).serial.0
      opened_ok = unfold begin_stripe in so.opened_low

      offs : (j : ℕ) → get_or (begin_stripe st i).offsets j 0 < p.S
      offs j = unfold begin_stripe in so.offsets_low j

      go : (j : ℕ) → SlotOk p st j → Dec (j ≡ i) → SlotOk p (begin_stripe st i) j
      go j s (no n) = record {
        stripe_ok = subst (λ (x : ℕ). x < p.S) (sym (begin_number_other st ls i hi j n)) s.stripe_ok;
        filled_ok = subst (λ (x : ℕ). x ≤ data_count p) (sym (begin_filled-other st ls i hi j n)) s.filled_ok;
        writes_ok = subst (λ (x : ℕ). x < 2 ^ data_count p) (sym (begin_writes_other st ls i hi j n)) s.writes_ok;
        landed_ok = subst (λ (x : ℕ). x < 2 ^ p.N) (sym (begin_landed-other st ls i hi j n)) s.landed_ok;
      }
      go j s (yes e) = subst (λ (x : ℕ). SlotOk p (begin_stripe st i) x) (sym e) (record {
        stripe_ok = subst (λ (x : ℕ). x < p.S) (sym (number_begun st ls i hi)) nx;
        filled_ok = subst (λ (x : ℕ). x ≤ data_count p) (sym (filled_begun st ls i hi)) (omega arith);
        writes_ok = subst (λ (x : ℕ). x < 2 ^ data_count p) (sym (begin_writes st ls i hi)) (pow_pos (data_count p));
        landed_ok = subst (λ (x : ℕ). x < 2 ^ p.N) (sym (landed_begun st ls i hi)) (pow_pos p.N);
      })

-- ---- what holds is kept

-- a position of a stripe in flight is filled
pub fill-healthy :
    (p : Params) (r : Ranged p) (v : View) (st : State) (i a t w : ℕ)
    → HealthyState p v st
    → StateOk p st
    → i < 8
    → flies st i ≡ true
    → filled_in_of st i < data_count p
    → a < 256 ^ 8
    → t < 256 ^ 8
    → HealthyState p v (add_entry st i a t w)
fill-healthy p r v st i a t w h so hi fi f ha ht = record {
  tidy = subst (λ (x : ℕ). Tidy p v x) (sym serial_same) h.tidy;
  sealed_but = λ z m. subst (λ (x : ℕ). (x ≡ header_serial p (header_at v 0 z)) ⊎ ((d : ℕ) → d < p.N → pointer_at v d (zone_on z d) ≡ capacity p)) (sym opened_same) (h.sealed_but z m);
  opens_at = λ n. let (z, e, o) = h.opens_at (λ q. n (opened_same ∙ q)) in (
    z,
    opened_same ∙ e,
    busy_same p v (add_entry st i a t w) (flies st) (flies (add_entry st i a t w)) z flies_same
        (add_open p r v st h.lists (flies st) z i a t w hi fi f ha ht o (λ j hj. (so.slots_ok j hj).filled_ok)),
  );
  shut = λ q. clash fi (h.shut (sym opened_same ∙ q) i hi);
  serial_fits = subst (λ (x : ℕ). x < 256 ^ 8) (sym serial_same) h.serial_fits;
  stamp_fits = subst (λ (x : ℕ). x < 256 ^ 8) (sym stamp_same) h.stamp_fits;
  lists = add_lists st h.lists i hi a t w;
}
  where
    serial_same : (add_entry st i a t w).serial.0 ≡ st.serial.0
    serial_same = unfold add_entry in refl

    stamp_same : (add_entry st i a t w).stamp.0 ≡ st.stamp.0
    stamp_same = unfold add_entry in refl

    opened_same : (add_entry st i a t w).opened ≡ st.opened
    opened_same = unfold add_entry in refl

    flies_same : (j : ℕ) → j < 8 → flies st j ≡ flies (add_entry st i a t w) j
    flies_same j hj = go (ℕ_discrete j i)
      where
        go : Dec (j ≡ i) → flies st j ≡ flies (add_entry st i a t w) j
        go (yes e) = subst (λ (x : ℕ). flies st x ≡ flies (add_entry st i a t w) x) (sym e)
            (fi ∙ sym (some_flies (add_entry st i a t w) i (λ q. let x = filled-added st h.lists i hi a t w in let z : ⊥ = omega arith in z)))
        go (no n) = ap not (free_is st j ∙ ap (λ (x : ℕ). eqb x 0) (sym (add-filled-other st h.lists i hi a t w j n)) ∙ sym (free_is (add_entry st i a t w) j))
