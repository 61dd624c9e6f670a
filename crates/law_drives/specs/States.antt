-- A state in range, as facts; a state with nothing in flight. Each test is taken apart and put together.
use Rattle.std.specs.Prelude.{◌≡◌, refl, true, ◌&&◌, ℕ, ◌^◌, ◌≤◌, ◌<◌, leb, ltb, eqb, get_or, length}
use Rattle.std.proofs.Common.{sym, subst, le_trans, leb-true, ltb-true, le-leb, lt-ltb, eqb-true, eq-eqb, arith, pow_pos}
use Rattle.std.proofs.Math.Decide.{dec_lt}
use Rattle.std.proofs.Math.ListN.{get_or-eq_default}
use Rattle.std.specs.Int.Count.{ones}
use Rattle.spec.specs.declared.Params.{Params}
use Rattle.spec.specs.declared.State.{State}
use Rattle.spec.specs.Lists.{all}
use Rattle.spec.specs.Memory.{stripe_in, filled_in_of, landed_in, slot_ok_of, slot_count, slots, state_ok, idle_state}
use Rattle.spec.specs.Params.{parity_count, data_count}
use Rattle.law_basic.specs.Geometry.{Ranged, parity-count-low}
use Rattle.law_basic.specs.Ranges.{and_left, and_right, and_both}
use Rattle.law_drives.specs.Members.{In, in_below, below_in, all_in, in_get_d, in_all, get_d_in}
use Rattle.law_drives.specs.Tables.{zero-at}

pub record SlotOk (p : Params) (st : State) (i : ℕ) : Type 0 where
  pub stripe_ok : stripe_in st i < p.S
  pub filled_ok : filled_in_of st i ≤ data_count p
  pub writes_ok : get_or st.writes i 0 < 2 ^ data_count p
  pub landed_ok : landed_in st i < 2 ^ p.N

pub record StateOk (p : Params) (st : State) : Type 0 where
  pub live_is : st.live ≡ 1
  pub missing_low : st.missing < 2 ^ p.N
  pub missing_few : ones st.missing ≤ parity_count p
  pub opened_low : st.opened ≤ st.serial.0
  pub next_low : st.next ≤ p.S
  pub slots_ok : (i : ℕ) → i < 8 → SlotOk p st i
  pub offsets_low : (j : ℕ) → get_or st.offsets j 0 < p.S

slot_ok_of_lem : (p : Params) (st : State) (i : ℕ) → slot_ok_of p st i ≡ true → SlotOk p st i
unfolding slot_ok_of
slot_ok_of_lem p st i q =
    let t1 = ltb (stripe_in st i) p.S in
    let t2 = leb (filled_in_of st i) (data_count p) in
    let t3 = ltb (get_or st.writes i 0) (2 ^ data_count p) in
    let t4 = ltb (landed_in st i) (2 ^ p.N) in
    let q3 = and_left (t1 && t2 && t3) t4 q in
    let q2 = and_left (t1 && t2) t3 q3 in
    record {
      stripe_ok = ltb-true (stripe_in st i) p.S (and_left t1 t2 q2);
      filled_ok = leb-true (filled_in_of st i) (data_count p) (and_right t1 t2 q2);
      writes_ok = ltb-true (get_or st.writes i 0) (2 ^ data_count p) (and_right (t1 && t2) t3 q3);
      landed_ok = ltb-true (landed_in st i) (2 ^ p.N) (and_right (t1 && t2 && t3) t4 q);
    }

of_slot : (p : Params) (st : State) (i : ℕ) → SlotOk p st i → slot_ok_of p st i ≡ true
unfolding slot_ok_of
of_slot p st i s =
    let t1 = ltb (stripe_in st i) p.S in
    let t2 = leb (filled_in_of st i) (data_count p) in
    let t3 = ltb (get_or st.writes i 0) (2 ^ data_count p) in
    let t4 = ltb (landed_in st i) (2 ^ p.N) in
    and_both (t1 && t2 && t3) t4
    (and_both (t1 && t2) t3 (and_both t1 t2 (lt-ltb (stripe_in st i) p.S s.stripe_ok) (le-leb (filled_in_of st i) (data_count p) s.filled_ok))
    (lt-ltb (get_or st.writes i 0) (2 ^ data_count p) s.writes_ok))
    (lt-ltb (landed_in st i) (2 ^ p.N) s.landed_ok)

pub in_slots : (i : ℕ) → i < 8 → In i slots
unfolding slots slot_count
in_slots i h = in_below 8 i h

pub slots_in : (i : ℕ) → In i slots → i < 8
unfolding slots slot_count
slots_in i m = below_in 8 i m

pub state_of_lem : (p : Params) → Ranged p → (st : State) → state_ok p st ≡ true → StateOk p st
unfolding state_ok
state_of_lem p r st q =
    let t1 = eqb st.live 1 in
    let t2 = ltb st.missing (2 ^ p.N) in
    let t3 = leb (ones st.missing) (parity_count p) in
    let t4 = leb st.opened st.serial.0 in
    let t5 = leb st.next p.S in
    let t6 = all (slot_ok_of p st) slots in
    let t7 = all (λ o. ltb o p.S) st.offsets in
    let q6 = and_left (t1 && t2 && t3 && t4 && t5 && t6) t7 q in
    let q5 = and_left (t1 && t2 && t3 && t4 && t5) t6 q6 in
    let q4 = and_left (t1 && t2 && t3 && t4) t5 q5 in
    let q3 = and_left (t1 && t2 && t3) t4 q4 in
    let q2 = and_left (t1 && t2) t3 q3 in
    record {
      live_is = eqb-true st.live 1 (and_left t1 t2 q2);
      missing_low = ltb-true st.missing (2 ^ p.N) (and_right t1 t2 q2);
      missing_few = leb-true (ones st.missing) (parity_count p) (and_right (t1 && t2) t3 q3);
      opened_low = leb-true st.opened st.serial.0 (and_right (t1 && t2 && t3) t4 q4);
      next_low = leb-true st.next p.S (and_right (t1 && t2 && t3 && t4) t5 q5);
      slots_ok = λ i h. slot_ok_of_lem p st i (all_in (slot_ok_of p st) slots (and_right (t1 && t2 && t3 && t4 && t5) t6 q6) i (in_slots i h));
      offsets_low = λ j. go (and_right (t1 && t2 && t3 && t4 && t5 && t6) t7 q) j (dec_lt j (length st.offsets));
    }
  where
    go : all (λ o. ltb o p.S) st.offsets ≡ true → (j : ℕ) → Dec (j < length st.offsets) → get_or st.offsets j 0 < p.S
    go a j (yes h) = ltb-true (get_or st.offsets j 0) p.S (all_in (λ o. ltb o p.S) st.offsets a (get_or st.offsets j 0) (in_get_d st.offsets j 0 h))
    go a j (no h) = subst (λ (x : ℕ). x < p.S) (sym (get_or-eq_default st.offsets 0 {n = j} (omega arith))) r.stripes_low

pub of_state : (p : Params) (st : State) → StateOk p st → state_ok p st ≡ true
unfolding state_ok
of_state p st s =
    let t1 = eqb st.live 1 in
    let t2 = ltb st.missing (2 ^ p.N) in
    let t3 = leb (ones st.missing) (parity_count p) in
    let t4 = leb st.opened st.serial.0 in
    let t5 = leb st.next p.S in
    let t6 = all (slot_ok_of p st) slots in
    let t7 = all (λ o. ltb o p.S) st.offsets in
    and_both (t1 && t2 && t3 && t4 && t5 && t6) t7
    (and_both (t1 && t2 && t3 && t4 && t5) t6
    (and_both (t1 && t2 && t3 && t4) t5
    (and_both (t1 && t2 && t3) t4
    (and_both (t1 && t2) t3
    (and_both t1 t2 (eq-eqb st.live 1 s.live_is) (lt-ltb st.missing (2 ^ p.N) s.missing_low))
    (le-leb (ones st.missing) (parity_count p) s.missing_few))
    (le-leb st.opened st.serial.0 s.opened_low))
    (le-leb st.next p.S s.next_low))
    (in_all (slot_ok_of p st) slots (λ i m. of_slot p st i (s.slots_ok i (slots_in i m)))))
    (in_all (λ o. ltb o p.S) st.offsets (λ a m. let (k, h, e) = get_d_in st.offsets 0 a m in lt-ltb a p.S (subst (λ (x : ℕ). x < p.S) (sym e) (s.offsets_low k))))

pub idle_ok : (p : Params) → Ranged p → (gone t s o x : ℕ) → gone < 2 ^ p.N → ones gone ≤ 1 → o ≤ s → x ≤ p.S → state_ok p (idle_state 1 gone t s o x) ≡ true
unfolding idle_state stripe_in filled_in_of landed_in
idle_ok p r gone t s o x hg h1 ho hx = of_state p (idle_state 1 gone t s o x) (record {
  live_is = refl;
  missing_low = hg;
  missing_few = le_trans h1 (parity-count-low p);
  opened_low = ho;
  next_low = hx;
  slots_ok = λ i h. record {
    stripe_ok = subst (λ (y : ℕ). y < p.S) (sym (zero-at 8 i)) r.stripes_low;
    filled_ok = subst (λ (y : ℕ). y ≤ data_count p) (sym (zero-at 8 i)) (omega arith);
    writes_ok = subst (λ (y : ℕ). y < 2 ^ data_count p) (sym (zero-at 8 i)) (pow_pos (data_count p));
    landed_ok = subst (λ (y : ℕ). y < 2 ^ p.N) (sym (zero-at 8 i)) (pow_pos p.N);
  };
  offsets_low = λ j. subst (λ (y : ℕ). y < p.S) (sym (zero-at 64 j)) r.stripes_low;
})
