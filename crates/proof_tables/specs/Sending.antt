-- A block is sent, by a write or a copy: it fills a position, begins a stripe, or opens a segment. Assumes nothing.
use Rattle.std.specs.Prelude.{◌≡◌, Bool, ◌&&◌, ◌||◌, ◌⊎◌}
use Rattle.std.proofs.Math.Path.{refl, sym, ap, subst}
use Rattle.std.proofs.Common.{ap₂, ◌∙◌, ⊎_elim}
use mathlib.Core.List.{List, []}
use Rattle.std.proofs.Math.Bool.{true, false, not}
use Prim.Native.Nat.{ℕ, suc, ◌^◌, ◌≤◌, ◌<◌}
use Rattle.std.proofs.Math.Decide.{ℕ_discrete}
use borrow.Author.Tests.{leb-false, eqb-true, eqb-false, not-true, not-false}
use native.Mathlib.Omega.{arith}
use Rattle.std.proofs.Math.Dec.{leb, eqb}
use Rattle.std.proofs.Math.ListN.{length}
use Rattle.spec.specs.declared.Params.{Params}
use Rattle.spec.specs.declared.State.{State}
use Rattle.spec.specs.Counts.{last_count}
use Rattle.spec.specs.Drives.{View, pointer_at, Store, store_view_of, store_all, header_stores, empty_count, new_seg}
use Rattle.spec.specs.Layout.{group}
use Rattle.spec.specs.Lists.{below, any, keep, tally, is_nil, index_of}
use Rattle.spec.specs.Lists.Opt.{none}
use Rattle.spec.specs.Memory.{slot_count, slots, stripe_in, filled_in_of, landed_in, is_free, is_full, is_filling, in_flight, free_slot, filling_slot, has_filling, set_open, begin_stripe, add_entry}
use Rattle.spec.specs.Params.{data_count, inflight_len}
use Rattle.spec.specs.Segments.{segments, candidates, address_table, compact_table}
use Rattle.spec.specs.Write.{must_open, opens, no_serial, other_group, must_wait, placed, Sending, opened_by, slot_for, begun_by, sending, scarce}
use Rattle.law_basic.specs.Be.{be_room}
use Rattle.law_basic.specs.Geometry.{Ranged, data_count-low}
use Rattle.law_basic.specs.Ranges.{Test, test, and_left, and_right, length-below}
use Rattle.law_basic.specs.Ranges.Test.{yes!, no! }
use Rattle.law_drives.specs.Headers.{header_roomy, header_within, new_vacant}
use Rattle.law_drives.specs.Members.{In, in_keep, none_in, in_any, in_some}
use Rattle.law_drives.specs.Slots.{slot_found}
use Rattle.law_drives.specs.States.{StateOk, in_slots, slots_in}
use Rattle.law_drives.specs.Tests.{clash, or_first, or_right, or_cases, not_so}
use Rattle.law_drives.specs.Zones.{Shaped, hits, Room, Within, Roomy}
use Rattle.proof_tables.specs.Carried.{begin_healthy}
use Rattle.proof_tables.specs.Filling.{placed_inflight_long, add_ok, begin_ok, fill-healthy}
use Rattle.proof_tables.specs.Heading.{head_addresses, head_compact, head_healthy}
use Rattle.proof_tables.specs.Run.{flies, HealthyState}
use Rattle.proof_tables.specs.Slots.{filled_begun, begin_lists}
use Rattle.proof_tables.specs.Tallies.{tally_none, some_out}
use Rattle.law_calls.specs.Refusals.{next_low, opened_low}

-- ---- eighths found by a search

pub filling-flies : (p : Params) (st : State) → has_filling p st ≡ true → (filling_slot p st < 8) × (flies st (filling_slot p st) ≡ true)
    × (filled_in_of st (filling_slot p st) < data_count p)
unfolding has_filling filling_slot
filling-flies p st q =
    let (l, e) = slot_found (is_filling p st) q in
    let i = index_of (is_filling p st) slots in
    (l, (parts i e).0, (parts i e).1)
  where
    parts : (i : ℕ) → is_filling p st i ≡ true → (flies st i ≡ true) × (filled_in_of st i < data_count p)
    parts i e = unfold is_filling is_full in (
      and_left (not (is_free st i)) (not (leb (data_count p) (filled_in_of st i))) e,
      leb-false (data_count p) (filled_in_of st i) (not-true (leb (data_count p) (filled_in_of st i)) (and_right (not (is_free st i)) (not (leb (data_count p) (filled_in_of st i))) e)),
    )

pub free_slot_idle : (st : State) → length (in_flight st) < 8 → (free_slot st < 8) × (flies st (free_slot st) ≡ false)
free_slot_idle st h = go (some_out (flies st) slots (few h))
  where
    few : length (in_flight st) < 8 → tally (flies st) slots < length slots
    few h = unfold in_flight tally slots slot_count in subst (λ (x : ℕ). length (keep (λ i. not (is_free st i)) (below 8)) < x) (sym (length-below 8)) h

    found : index_of (is_free st) slots < 8 → is_free st (index_of (is_free st) slots) ≡ true → (free_slot st < 8) × (flies st (free_slot st) ≡ false)
    found l e = unfold free_slot in (l, ap not e)

    go : (i : ℕ) × In i slots × (flies st i ≡ false) → (free_slot st < 8) × (flies st (free_slot st) ≡ false)
    go (i, m, q) =
        let a : any (is_free st) slots ≡ true = in_any (is_free st) slots i m (not-false (is_free st i) q) in
        found (slot_found (is_free st) a).0 (slot_found (is_free st) a).1

pub in_flight_lem : (st : State) (i : ℕ) → i < 8 → flies st i ≡ true → In i (in_flight st)
unfolding in_flight
in_flight_lem st i h q = in_keep (λ i. not (is_free st i)) slots i (in_slots i h) q

-- ---- what a block that is sent leaves

pub record SentOk (p : Params) (v : View) (st su : State) (ss : List Store) (fl : List ℕ) : Type 0 where
  pub has_room : Roomy p v ss
  pub all_within : (s : Store) → In s ss → Within p s
  pub healthy_after : HealthyState p (store_all store_view_of ss v) su
  pub state_after_holds : StateOk p su
  pub buffer_after : length fl ≡ inflight_len p
  pub addresses_after : address_table p (candidates p 0 (segments p v 0)) ≡ address_table p (candidates p 0 (segments p (store_all store_view_of ss v) 0))
  pub compact_after : compact_table p (segments p v 0) ≡ compact_table p (segments p (store_all store_view_of ss v) 0)
  pub missing_after : su.missing ≡ st.missing

sent_no_stores : (p : Params) (v : View) (st su : State) (fl : List ℕ) → HealthyState p v su → StateOk p su → length fl ≡ inflight_len p → su.missing ≡ st.missing
    → SentOk p v st su [] fl
sent_no_stores p v st su fl h so l e = record {
  has_room = λ d z hd hz. none_room d z;
  all_within = λ s m. absurd m;
  healthy_after = subst (λ (x : View). HealthyState p x su) (sym nothing) h;
  state_after_holds = so;
  buffer_after = l;
  addresses_after = ap (λ (x : View). address_table p (candidates p 0 (segments p x 0))) (sym nothing);
  compact_after = ap (λ (x : View). compact_table p (segments p x 0)) (sym nothing);
  missing_after = e;
}
  where
    nothing : store_all store_view_of [] v ≡ v
    nothing = unfold store_all in refl

    none_room : (d z : ℕ) → Room p (pointer_at v d z) (hits d z [])
    none_room d z = unfold keep in tt

module _ (p : Params) (r : Ranged p) (v : View) (sh : Shaped p v) (st : State) (h : HealthyState p v st) (so : StateOk p st) (fl : List ℕ) (l : length fl ≡ inflight_len p)
    (a t w : ℕ) (b : List ℕ) (ha : a < 256 ^ 8) (ht : t < 256 ^ 8) (hw : w ≤ 1) (lb : length b ≡ p.B) where
  abbrev sent : Sending
  sent = sending p v st fl a t w b

  two_up : 0 < data_count p
  two_up = let c = data_count-low p r in omega arith

  -- the next position of the filling stripe
  fills : has_filling p st ≡ true → SentOk p v st sent.state sent.stores sent.inflight
  fills q =
      let (hi, fi, be_room) = filling-flies p st q in
      let i = filling_slot p st in
      let su = add_entry st i a t w in
      let e1 : sent.state ≡ su = state_is q in
      let e2 : sent.stores ≡ [] = stores_is q in
      let e3 : sent.inflight ≡ (placed p st fl i a t w b).inflight = inflight_is q in
      subst (λ (x : State). SentOk p v st x sent.stores sent.inflight) (sym e1)
      (subst (λ (x : List Store). SentOk p v st su x sent.inflight) (sym e2)
      (subst (λ (x : List ℕ). SentOk p v st su [] x) (sym e3)
      (sent_no_stores p v st su (placed p st fl i a t w b).inflight (fill-healthy p r v st i a t w h so hi fi be_room ha ht) (add_ok p r st h.lists so i hi a t w be_room hw)
      (placed_inflight_long p r st fl i a t w b l hi be_room lb) (missing_is i))))
    where
      state_is : has_filling p st ≡ true → sent.state ≡ add_entry st (filling_slot p st) a t w
      state_is q = unfold sending slot_for begun_by placed in rw q

      stores_is : has_filling p st ≡ true → sent.stores ≡ []
      stores_is q = unfold sending opens in rw q

      inflight_is : has_filling p st ≡ true → sent.inflight ≡ (placed p st fl (filling_slot p st) a t w b).inflight
      inflight_is q = unfold sending slot_for begun_by in rw q

      missing_is : (i : ℕ) → (add_entry st i a t w).missing ≡ st.missing
      missing_is i = unfold add_entry in refl

  -- the next stripe number, in a state su whose open zone is known
  healthy_begun : (su : State) (u : View) → HealthyState p u su → StateOk p su → (su.opened ≡ 0 → ⊥) → su.next < p.S → (i : ℕ) → i < 8 → flies su i ≡ false
      → ((j : ℕ) → j < 8 → flies su j ≡ true → group p (stripe_in su j) ≡ group p su.next)
      → HealthyState p u (add_entry (begin_stripe su i) i a t w) × StateOk p (add_entry (begin_stripe su i) i a t w)
      × (length (placed p (begin_stripe su i) fl i a t w b).inflight ≡ inflight_len p)
  healthy_begun su u k ko op nx i hi fi gr =
      let lb! = begin_lists su k.lists i hi in
      let room : filled_in_of (begin_stripe su i) i < data_count p = (let e = filled_begun su k.lists i hi in let d = two_up in omega arith) in (
        begin_healthy p r u su i a t w k ko op hi fi nx gr ha ht,
        add_ok p r (begin_stripe su i) lb! (begin_ok p r su k.lists ko i hi nx) i hi a t w room hw,
        placed_inflight_long p r (begin_stripe su i) fl i a t w b l hi room lb,
      )

  module _ (nf : has_filling p st ≡ false) (nw : must_wait p st ≡ false) where
    wait_parts : (leb slot_count (length (in_flight st)) ≡ false)
        × ((must_open p st && not (is_nil (in_flight st)) ≡ false) × (not (must_open p st) && any (other_group p st) (in_flight st) ≡ false))
    wait_parts =
        let x = leb slot_count (length (in_flight st)) in
        let y = must_open p st && not (is_nil (in_flight st)) in
        let z = not (must_open p st) && any (other_group p st) (in_flight st) in
        let q : x || y || z ≡ false = inner in
        let q1 = or_first (x || y) z q in
        (or_first x y q1, (or_right x y q1, or_right (x || y) z q))
      where
        inner : leb slot_count (length (in_flight st)) || (must_open p st && not (is_nil (in_flight st))) || (not (must_open p st) && any (other_group p st) (in_flight st)) ≡ false
        inner =
            sym (ap (λ (c : Bool). not c
            && (leb slot_count (length (in_flight st))
            || (must_open p st && not (is_nil (in_flight st)))
            || (not (must_open p st) && any (other_group p st) (in_flight st)))) nf)
            ∙ (unfold must_wait in nw)

    i : ℕ
    i = free_slot st

    aim_free : (i < 8) × (flies st i ≡ false)
    unfolding i
    aim_free = free_slot_idle st (few wait_parts.0)
      where
        few : leb slot_count (length (in_flight st)) ≡ false → length (in_flight st) < 8
        few q = unfold slot_count in leb-false 8 (length (in_flight st)) q

    -- a stripe of the open segment
    begins_stripe : must_open p st ≡ false → SentOk p v st sent.state sent.stores sent.inflight
    unfolding i
    begins_stripe mo =
        let (nz, nn) = open_parts mo in
        let nx : st.next < p.S = (let le = so.next_low in omega arith) in
        let g3 : any (other_group p st) (in_flight st) ≡ false = sym (ap (λ (c : Bool). not c && any (other_group p st) (in_flight st)) mo) ∙ wait_parts.1.1 in
        let gr : (j : ℕ) → j < 8 → flies st j ≡ true → group p (stripe_in st j) ≡ group p st.next = λ j hj fj. same_group j
        (none_in (other_group p st) (in_flight st) g3 j (in_flight_lem st j hj fj)) in
        let (k1, k2, k3) = healthy_begun st v h so nz nx (free_slot st) aim_free.0 aim_free.1 gr in
        let su = add_entry (begin_stripe st (free_slot st)) (free_slot st) a t w in
        subst (λ (x : State). SentOk p v st x sent.stores sent.inflight) (sym (state_is mo))
        (subst (λ (x : List Store). SentOk p v st su x sent.inflight) (sym (stores_is mo))
        (subst (λ (x : List ℕ). SentOk p v st su [] x) (sym (inflight_is mo))
        (sent_no_stores p v st su (placed p (begin_stripe st (free_slot st)) fl (free_slot st) a t w b).inflight k1 k2 k3 (missing_is (free_slot st)))))
      where
        open_parts : must_open p st ≡ false → (st.opened ≡ 0 → ⊥) × (st.next ≡ p.S → ⊥)
        open_parts q =
            unfold must_open in (
              eqb-false st.opened 0 (or_first (eqb st.opened 0) (eqb st.next p.S) q),
              eqb-false st.next p.S (or_right (eqb st.opened 0) (eqb st.next p.S) q),
            )

        same_group : (j : ℕ) → other_group p st j ≡ false → group p (stripe_in st j) ≡ group p st.next
        same_group j q = unfold other_group in eqb-true (group p (stripe_in st j)) (group p st.next) (not-false (eqb (group p (stripe_in st j)) (group p st.next)) q)

        state_is : must_open p st ≡ false → sent.state ≡ add_entry (begin_stripe st (free_slot st)) (free_slot st) a t w
        state_is mo = unfold sending slot_for begun_by opened_by opens placed in rw (nf, mo)

        stores_is : must_open p st ≡ false → sent.stores ≡ []
        stores_is mo = unfold sending opens in rw (nf, mo)

        inflight_is : must_open p st ≡ false → sent.inflight ≡ (placed p (begin_stripe st (free_slot st)) fl (free_slot st) a t w b).inflight
        inflight_is mo = unfold sending slot_for begun_by opened_by opens in rw (nf, mo)

        missing_is : (i : ℕ) → (add_entry (begin_stripe st i) i a t w).missing ≡ st.missing
        missing_is i = unfold add_entry begin_stripe in refl

    -- a segment is opened first
    begins_segment : must_open p st ≡ true → no_serial p st ≡ false → 1 ≤ empty_count p v → SentOk p v st sent.state sent.stores sent.inflight
    unfolding i
    begins_segment mo ns ne =
        let g = new_seg p v in
        let s = st.serial.0 in
        let va = new_vacant p v ne in
        let fit : suc s < 256 ^ 8 = serial_next in
        let none : (j : ℕ) → j < 8 → flies st j ≡ false = λ j hj. nothing_flies j hj in
        let su = set_open st (suc s) in
        let u = store_all store_view_of (header_stores p g (suc s) 0) v in
        let ku = head_healthy p r v sh s g h.tidy va fit st h refl not_open none in
        let ko = open_ok (suc s) in
        let (k1, k2, k3) =
        healthy_begun su u ku ko (λ q. let x : suc s ≡ 0 = sym (opened_is (suc s)) ∙ q in let bad : ⊥ = omega arith in bad)
        (subst (λ (x : ℕ). x < p.S) (sym (next_is (suc s))) r.stripes_low) (free_slot st)
        aim_free.0 (free_same (suc s) (free_slot st) ∙ aim_free.1)
        (λ j hj fj. clash fj (free_same (suc s) j ∙ none j hj)) in
        let sw = add_entry (begin_stripe su (free_slot st)) (free_slot st) a t w in
        subst (λ (x : State). SentOk p v st x sent.stores sent.inflight) (sym (state_is mo))
        (subst (λ (x : List Store). SentOk p v st sw x sent.inflight) (sym (stores_is mo))
        (subst (λ (x : List ℕ). SentOk p v st sw (header_stores p g (suc s) 0) x) (sym (inflight_is mo))
        (record {
          has_room = header_roomy p r v sh g (suc s) 0 va;
          all_within = header_within p r v sh g (suc s) 0 va;
          healthy_after = k1;
          state_after_holds = k2;
          buffer_after = k3;
          addresses_after = head_addresses p r v sh s g h.tidy va fit;
          compact_after = head_compact p r v sh s g h.tidy va fit;
          missing_after = missing_is (suc s) (free_slot st);
        })))
      where
        serial_next : suc st.serial.0 < 256 ^ 8
        serial_next =
            let n : st.serial.0 ≡ last_count → ⊥ = eqb-false st.serial.0 last_count (no_serial_holds ns) in
            let k = h.serial_fits in
            omega arith
          where
            no_serial_holds : no_serial p st ≡ false → eqb st.serial.0 last_count ≡ false
            no_serial_holds q = unfold no_serial opens in sym (ap₂ (λ (x y : Bool). not x && y && eqb st.serial.0 last_count) nf mo) ∙ q

        nothing_flies : (j : ℕ) → j < 8 → flies st j ≡ false
        nothing_flies j hj = not_so (flies st j) (λ q.
            let x : not (is_nil (in_flight st)) ≡ false = sym (ap (λ (c : Bool). c && not (is_nil (in_flight st))) mo) ∙ wait_parts.1.0 in
            clash (ap not (in_some (in_flight st) j (in_flight_lem st j hj q))) x)

        not_open : st.opened ≡ 0
        not_open = go (ℕ_discrete st.opened 0)
          where
            must : must_open p st ≡ true → (eqb st.opened 0 ≡ true) ⊎ (eqb st.next p.S ≡ true)
            must q = unfold must_open in or_cases (eqb st.opened 0) (eqb st.next p.S) q

            go : Dec (st.opened ≡ 0) → st.opened ≡ 0
            go (yes e) = e
            go (no n) =
                let o = (h.opens_at n).2 in
                ⊎_elim (λ x. eqb-true st.opened 0 x)
                (λ x. absurd (let y = o.goes_on (eqb-true st.next p.S x) in let k = tally_none (flies st) slots (λ j m. nothing_flies j (slots_in j m)) in
                let bad : ⊥ = omega arith in bad)) (must mo)

        open_ok : (x : ℕ) → StateOk p (set_open st x)
        open_ok x = unfold set_open stripe_in filled_in_of landed_in in record {
          live_is = so.live_is;
          missing_low = so.missing_low;
          missing_few = so.missing_few;
          opened_low = omega arith;
          next_low = omega arith;
          slots_ok =
              λ i h. record { stripe_ok = (so.slots_ok i h).stripe_ok; filled_ok = (so.slots_ok i h).filled_ok; writes_ok = (so.slots_ok i h).writes_ok; landed_ok = (so.slots_ok i h).landed_ok };
          offsets_low = so.offsets_low;
        }

        opened_is : (x : ℕ) → (set_open st x).opened ≡ x
        opened_is x = unfold set_open in refl

        next_is : (x : ℕ) → (set_open st x).next ≡ 0
        next_is x = unfold set_open in refl

        free_same : (x j : ℕ) → flies (set_open st x) j ≡ flies st j
        free_same x j = unfold set_open is_free filled_in_of in refl

        missing_is : (x i : ℕ) → (add_entry (begin_stripe (set_open st x) i) i a t w).missing ≡ st.missing
        missing_is x i = unfold add_entry begin_stripe set_open in refl

        state_is : must_open p st ≡ true → sent.state ≡ add_entry (begin_stripe (set_open st (suc st.serial.0)) (free_slot st)) (free_slot st) a t w
        state_is mo = unfold sending slot_for begun_by opened_by opens placed in rw (nf, mo)

        stores_is : must_open p st ≡ true → sent.stores ≡ header_stores p (new_seg p v) (suc st.serial.0) 0
        stores_is mo = unfold sending opens in rw (nf, mo)

        inflight_is : must_open p st ≡ true → sent.inflight ≡ (placed p (begin_stripe (set_open st (suc st.serial.0)) (free_slot st)) fl
            (free_slot st) a t w b).inflight
        inflight_is mo = unfold sending slot_for begun_by opened_by opens in rw (nf, mo)

  -- all three
  pub sent_ok : must_wait p st ≡ false → no_serial p st ≡ false → (opens p st ≡ true → 1 ≤ empty_count p v) → SentOk p v st sent.state sent.stores sent.inflight
  sent_ok nw ns ne = go (test (has_filling p st)) (test (must_open p st))
    where
      opens_is : has_filling p st ≡ false → must_open p st ≡ true → opens p st ≡ true
      opens_is x y = unfold opens in rw (x, y)

      go : Test (has_filling p st) → Test (must_open p st) → SentOk p v st sent.state sent.stores sent.inflight
      go (yes! q) m = fills q
      go (no! q) (yes! m) = begins_segment q nw m ns (ne (opens_is q m))
      go (no! q) (no! m) = begins_stripe q nw m

-- 01, Refusals, 8: more than n zones are empty
pub plenty : (p : Params) (v : View) (n : ℕ) → scarce p v n ≡ false → 1 ≤ empty_count p v
unfolding scarce
plenty p v n q = let l = leb-false (empty_count p v) n q in omega arith
