-- The landing call: the flights after it, and what its answer says. Both by the chunk, the freed eighth and the footers one after the other. Assumes nothing.
use Rattle.std.proofs.Math.Path.{◌≡◌, refl, ap}
use Rattle.std.proofs.Common.{sym, ◌∙◌, subst, ap₂, inl, inr}
use mathlib.Core.List.{List, [], ◌∷◌, ◌++◌, map, append-nil}
use Rattle.std.proofs.Math.Bool.{true, cond}
use Rattle.std.specs.Prelude.{false, not, ◌&&◌, Bool, ℕ, zero, suc, ◌+◌, ◌-◌, ◌<◌, ltb, length, get_or}
use native.Mathlib.Omega.{arith}
use borrow.Author.Tests.{lt-ltb, eq-eqb, eqb-true, leb-true}
use Rattle.std.proofs.Math.Dec.{eqb}
use Rattle.std.proofs.lemmas.List.{length-map}
use Rattle.spec.specs.Lists.Opt.{none}
use Rattle.spec.specs.declared.Params.{Params}
use Rattle.spec.specs.declared.State.{State}
use Rattle.spec.specs.declared.Answer.{Answer}
use Rattle.spec.specs.declared.Answer.TheVariants.{Landed, Cut}
use Rattle.spec.specs.Answers.{kind, values, is_refused, is_cut_of, finished}
use Rattle.spec.specs.Calls.{Plan, first_refusal}
use Rattle.spec.specs.Drives.{View, pointer_at, Store, store_view_of, Disk, store_disk, store_all, zone_on, sealed_in}
use Rattle.spec.specs.Drives.Store.{put}
use Rattle.spec.specs.Engine.Call.{land}
use Rattle.spec.specs.Engine.{store_count, lent_block, verdict, lent_ok_of, call_on, call_disk}
use Rattle.spec.specs.History.{ends_run, mk_world}
use Rattle.spec.specs.Landing.{slot_of, waiting, completes, seals, flight_rec, land_checks, seal_stores, writes_in, land_store, land_plan, land_verdict}
use Rattle.spec.specs.Layout.{record_bytes, data_drive, Rec, header_serial}
use Rattle.spec.specs.Lists.{below, keep, tally}
use Rattle.spec.specs.Memory.{Memory, filled_in_of, is_write, is_free, in_flight, set_closed, mark_landed, free_stripe, slot_block, stripe_in, entry_in_of}
use Rattle.spec.specs.Segments.{Segment, segment_of, counts, header_at, open_segment}
use Rattle.law_basic.specs.Geometry.{Ranged, ranged, position_drive, drive_is_data}
use Rattle.law_basic.specs.Ranges.{Test, test, and_left, and_right}
use Rattle.law_basic.specs.Ranges.Test.{yes!, no! }
use Rattle.law_basic.specs.Stores.{store_all-append}
use Rattle.law_code.specs.Chunks.{flight_data, flight_stripe}
use Rattle.law_views.specs.Views.{seen}
use Rattle.law_calls.specs.Refusals.{refusal_kind}
use Rattle.spec_demands.specs.Layouts.{ParityMade}
use Rattle.spec_demands.specs.Tables.{Pending, pending_by, still_pending, pending_after, no_pending, pending_in, open_in, landing_stores, Lands}
use Rattle.spec_demands.specs.Engines.{on_values, call_world, view_in}
use Rattle.law_checks.specs.Passed.{land_passed}
use Rattle.law_drives.specs.Joins.{roomy_append, within_append}
use Rattle.law_drives.specs.Members.{In, in_keep, map_in, in_get_d}
use Rattle.law_drives.specs.Slots.{block_long! }
use Rattle.law_drives.specs.States.{StateOk, state_of_lem}
use Rattle.law_drives.specs.Tests.{clash, not_so, cond_true, cond_false}
use Rattle.law_drives.specs.Zones.{Shaped, Within, Roomy, shaped_after}
use Rattle.proof_tables.specs.Chunks.{chunk_roomy, chunk_tidy, chunk_open, chunk_healthy, all-behind, last_flight, open_after, uncounted_yet, counts_now, chunk_there}
use Rattle.proof_tables.specs.Going.{buffer_long}
use Rattle.proof_tables.specs.Landings.{LandWaits, land_waits}
use Rattle.proof_tables.specs.Outcomes.{EndedAs, outcome_ends}
use Rattle.proof_tables.specs.Outcomes.EndedAs.{ended-refused, ended_done, ended-cut}
use Rattle.proof_tables.specs.Run.{flies, HealthyState, Well, Run}
use Rattle.proof_tables.specs.Sealing.{seal_roomy, seal_within, seal_sealed}
use Rattle.proof_flights.specs.Flown.{pending_of, Flights, Flown}
use Rattle.proof_flights.specs.Idled.{flown-ended}
use Rattle.proof_flights.specs.Written.{well_of, run_seen-after, flown-parity-made, flown_of}
use Rattle.proof_flights.specs.LandedChunk.{flies1, stripe1, chunk_flights, chunk_parities}
use Rattle.proof_flights.specs.LandedFree.{elsewhere, elsewhere-all, free_flights, seal_parities, seal_counts}
use Rattle.spec.specs.declared.Seg.{Seg}
use Rattle.law_drives.specs.Settled.{its_zone}
use Rattle.law_drives.specs.Tidy.{There}

-- ---- the writes that wait after an answer

pub after-landed : (d s n x : ℕ) (ws : List Pending) → pending_after (land d s n) (Landed x) ws ≡ cond (ltb 0 x) (elsewhere s ws) ws
unfolding pending_after ends_run is_cut_of finished kind still_pending pending_by values elsewhere
after-landed d s n x ws = append-nil (cond (ltb 0 x) (keep (λ (w : Pending). not (eqb w.stripe s)) ws) ws)

module _ (p : Params) (off : List ℕ) (k : Disk) (m : Memory) (u : Run p off k m) (d s : ℕ) where
  abbrev v : View
  v = seen p off k

  abbrev st : State
  st = m.state

  abbrev fl : List ℕ
  fl = m.inflight

  abbrev i : ℕ
  i = slot_of st s

  abbrev z : Seg
  z = open_segment p v st

  abbrev plan : Plan
  plan = land_plan p v m d s

  -- how the call ends
  land_ends : (n : ℕ) → EndedAs p k m (land_checks p (lent_ok_of p off k m) v m d s) plan (call_disk p off k m (land d s n))
  unfolding call_disk call_on verdict store_count lent_block land_verdict
  land_ends n = outcome_ends p k m (land_checks p (lent_ok_of p off k m) v m d s) plan n []

  passed_none : first_refusal (land_checks p (lent_ok_of p off k m) v m d s) ≡ none → st.missing ≡ 0
  passed_none c = (land_passed p (lent_ok_of p off k m) v m d s c).healthy

  passed_waits : first_refusal (land_checks p (lent_ok_of p off k m) v m d s) ≡ none → waiting p st d s ≡ true
  passed_waits c = (land_passed p (lent_ok_of p off k m) v m d s c).waits

  module _ (none : st.missing ≡ 0) (wt : waiting p st d s ≡ true) where
    we : Well p off k m
    we = well_of p off k m u none

    rg : Ranged p
    rg = ranged p u.base.ranged

    so : StateOk p st
    so = state_of_lem p rg st u.base.state_ok_holds

    sh : Shaped p v
    sh = u.base.shaped

    he : HealthyState p v st
    he = we.healthy

    w : LandWaits p v st d s
    w = land_waits p rg v st d s he so wt

    abbrev b : List ℕ
    b = slot_block p fl i d

    lb : length b ≡ p.B
    lb = block_long! p rg fl (buffer_long p off k m u we) i w.slot_ok d w.drive_ok

    abbrev hd : d < p.N
    hd = w.drive_ok

    abbrev hi : i < 8
    hi = w.slot_ok

    abbrev fi : flies st i ≡ true
    fi = w.slot_flies

    abbrev oz : st.opened ≡ header_serial p (header_at v 0 z)
    oz = w.slot_opened

    abbrev store : Store
    store = put d (zone_on z d) b (record_bytes (flight_rec p st i d))

    abbrev v1 : View
    v1 = store_view_of store v

    abbrev st1 : State
    st1 = mark_landed st i d (pointer_at v d (zone_on z d) - 1)

    abbrev st2 : State
    st2 = free_stripe st1 i

    abbrev v2 : View
    v2 = store_all store_view_of (seal_stores p v1 z) v1

    hz : There p v z
    hz = w.slot_there

    hz1 : There p v1 z
    hz1 = chunk_there p rg v sh st he so z hz oz d i hd hi fi w.slot_ready b lb

    -- ---- the view after it

    roomy1 : Roomy p v (store ∷ [])
    roomy1 = chunk_roomy p rg v sh st he so z hz oz d i hd hi fi w.slot_ready b lb

    within1 : (x : Store) → In x (store ∷ []) → Within p x
    within1 x (inl e) = subst (λ (y : Store). Within p y) (sym e) (hd, (its_zone p rg v z hz d hd).zone_low)
    within1 x (inr n) = absurd n

    one_store : store_all store_view_of (store ∷ []) v ≡ v1
    one_store = unfold store_all in refl

    stores_open : seals p st i d ≡ false → plan.stores ≡ store ∷ []
    stores_open q = unfold land_plan land_store in rw q

    stores_sealed : seals p st i d ≡ true → plan.stores ≡ (store ∷ []) ++ seal_stores p v1 z
    stores_sealed q = unfold land_plan land_store in rw q

    pub view_open : seals p st i d ≡ false → seen p off (store_all (store_disk p) plan.stores k) ≡ v1
    view_open q = ap (λ (ss : List Store). seen p off (store_all (store_disk p) ss k)) (stores_open q) ∙ run_seen-after p off k m u (store ∷ []) roomy1 within1 ∙ one_store

    sh1 : Shaped p v1
    sh1 = subst (λ (x : View). Shaped p x) one_store (shaped_after p v (store ∷ []) sh roomy1)

    seal_parts : seals p st i d ≡ true → (completes p st i d ≡ true) × ((st.next ≡ p.S) × (length (in_flight st) ≡ 1))
    seal_parts sl = unfold seals in
        let x = completes p st i d in
        let y = eqb st.next p.S in
        let t = eqb (length (in_flight st)) 1 in
        let q1 : x && y ≡ true = and_left (x && y) t sl in
        (and_left x y q1, (eqb-true st.next p.S (and_right x y q1), eqb-true (length (in_flight st)) 1 (and_right (x && y) t sl)))

    pointers_full : seals p st i d ≡ true → (e : ℕ) → e < p.N → pointer_at v1 e (zone_on z e) ≡ 1 + p.S
    pointers_full sl = let (q, (nx, one)) = seal_parts sl in all-behind p rg v sh st he so z hz oz d i hd hi fi w.slot_ready b lb q nx one

    pub view_sealed : seals p st i d ≡ true → seen p off (store_all (store_disk p) plan.stores k) ≡ v2
    view_sealed q =
        ap (λ (ss : List Store). seen p off (store_all (store_disk p) ss k)) (stores_sealed q)
        ∙ run_seen-after p off k m u ((store ∷ []) ++ seal_stores p v1 z)
        (roomy_append p v (store ∷ []) (seal_stores p v1 z) sh.sized roomy1 (subst (λ (x : View). Roomy p x (seal_stores p v1 z)) (sym one_store) (seal_roomy p rg v1 sh1 z hz1 (pointers_full q))))
        (within_append p (store ∷ []) (seal_stores p v1 z) within1 (seal_within p rg v1 sh1 z hz1 (pointers_full q)))
        ∙ store_all-append store_view_of (store ∷ []) (seal_stores p v1 z) v ∙ ap (store_all store_view_of (seal_stores p v1 z)) one_store

    -- ---- what is left

    inflight_is : plan.memory.inflight ≡ fl
    inflight_is = unfold land_plan in refl

    state_open : completes p st i d ≡ false → plan.memory.state ≡ st1
    state_open q = unfold land_plan seals in rw q

    state_freed : completes p st i d ≡ true → seals p st i d ≡ false → plan.memory.state ≡ st2
    state_freed q ns = unfold land_plan in rw (ns, q)

    state_closed : completes p st i d ≡ true → seals p st i d ≡ true → plan.memory.state ≡ set_closed st2
    state_closed q sl = unfold land_plan in rw (sl, q)

    answer_is : plan.answer ≡ Landed (cond (completes p st i d) (writes_in st i) 0)
    answer_is = unfold land_plan in refl

    module _ (ws : List Pending) (old : List Segment) (f : Flown p off k m ws old) where
      F : Flights p v st fl ws
      F = f.flights none

      pm : ParityMade p v 0 old
      pm = flown-parity-made p off k m ws old f none

      pm1 : ParityMade p v1 0 old
      pm1 = λ g t. chunk_parities p rg v sh st he so hz oz d i hd hi fi w.slot_ready fl lb ws F old pm g t

      F1 : Flights p v1 st1 fl ws
      F1 = chunk_flights p rg v sh st he so hz oz d i hd hi fi w.slot_ready fl lb ws F

      F2 : Flights p v1 st2 fl (elsewhere s ws)
      F2 =
          let op = chunk_open p rg v sh st he so z hz oz d i hd hi fi w.slot_ready b lb in
          let fs = flies1 p rg v sh st he so hz oz d i hd hi fi w.slot_ready fl lb in
          subst (λ (n : ℕ). Flights p v1 st2 fl (elsewhere n ws)) (stripe1 p rg v sh st he so hz oz d i hd hi fi w.slot_ready fl lb i ∙ w.slot_stripe)
          (free_flights p v1 st1 (chunk_healthy p rg v sh st he so z hz oz d i hd hi fi w.slot_ready b lb).lists i hi (fs i ∙ fi)
          (λ j hj fj e. op.once j i hj hi (sym (fs j) ∙ fj) fi e) fl ws F1)

      -- nothing flies in a segment that is sealed
      F3 : seals p st i d ≡ true → Flights p v2 (set_closed st2) fl (elsewhere s ws)
      F3 sl = record {
        landed_is = λ j e hj fj. clash fj (none! j hj);
        parity_full = λ j hj fj. clash fj (none! j hj);
        parity-ready = λ j hj fj. clash fj (none! j hj);
        pending_is = λ j hj fj. clash fj (none! j hj);
        writes_low = λ j x hj fj. clash fj (none! j hj);
        pending_flies = λ x hx. let (j, hj, fj, e) = F2.pending_flies x hx in clash fj (left j hj);
      }
        where
          left : (j : ℕ) → j < 8 → flies st2 j ≡ false
          left j hj = last_flight p rg v sh st he so z hz oz d i hd hi fi w.slot_ready b lb (seal_parts sl).1.1 j hj

          none! : (j : ℕ) → j < 8 → flies (set_closed st2) j ≡ false
          none! j hj = unfold set_closed is_free filled_in_of in left j hj

      missing_is : (su : State) → plan.memory.state ≡ su → su.missing ≡ st.missing → plan.memory.state.missing ≡ 0
      missing_is su e q = ap (λ (x : State). x.missing) e ∙ q ∙ none

      -- the writes that wait after it
      abbrev left : List Pending
      left = cond (completes p st i d) (elsewhere s ws) ws

      flown_plan : Flown p off (store_all (store_disk p) plan.stores k) plan.memory (cond (completes p st i d) (elsewhere s ws) ws) old
      flown_plan = go (test (completes p st i d)) (test (seals p st i d))
        where
          kept1 : st1.missing ≡ st.missing
          kept1 = unfold mark_landed in refl

          kept2 : st2.missing ≡ st.missing
          kept2 = unfold free_stripe mark_landed in refl

          kept3 : (set_closed st2).missing ≡ st.missing
          kept3 = unfold set_closed free_stripe mark_landed in refl

          not_sealed : completes p st i d ≡ false → seals p st i d ≡ false
          not_sealed q = not_so (seals p st i d) (λ sl. clash (seal_parts sl).0 q)

          make : (x : View) (su : State) (qs : List Pending) → seen p off (store_all (store_disk p) plan.stores k) ≡ x → plan.memory.state ≡ su → su.missing ≡ st.missing
              → Flights p x su fl qs → ParityMade p x 0 old → left ≡ qs → Flown p off (store_all (store_disk p) plan.stores k) plan.memory left old
          make x su qs ev es mi fq pq eq =
              flown_of p off (store_all (store_disk p) plan.stores k) plan.memory left old x ev (missing_is su es mi)
              (subst (λ (y : List Pending). Flights p x plan.memory.state plan.memory.inflight y) (sym eq)
              (subst (λ (y : List ℕ). Flights p x plan.memory.state y qs) (sym inflight_is) (subst (λ (y : State). Flights p x y fl qs) (sym es) fq))) pq

          go : Test (completes p st i d) → Test (seals p st i d) → Flown p off (store_all (store_disk p) plan.stores k) plan.memory left old
          go (no! q) t = make v1 st1 ws (view_open (not_sealed q)) (state_open q) kept1 F1 pm1 (cond_false (completes p st i d) (elsewhere s ws) ws q)
          go (yes! q) (no! ns) = make v1 st2 (elsewhere s ws) (view_open ns) (state_freed q ns) kept2 F2 pm1 (cond_true (completes p st i d) (elsewhere s ws) ws q)
          go (yes! q) (yes! sl) = make v2 (set_closed st2) (elsewhere s ws) (view_sealed sl) (state_closed q sl) kept3 (F3 sl)
              (seal_parities p rg v1 sh1 z hz1 (pointers_full sl) st.serial.0 (chunk_tidy p rg v sh st he so z hz oz d i hd hi fi w.slot_ready b lb) old pm1)
              (cond_true (completes p st i d) (elsewhere s ws) ws q)

      -- the writes of the stripe
      stripe_sends : keep (λ (x : Pending). eqb x.stripe s) ws ≡ map (pending_of p st fl i) (keep (is_write st i) (below (filled_in_of st i)))
      stripe_sends = ap (λ (n : ℕ). keep (λ (x : Pending). eqb x.stripe n) ws) (sym w.slot_stripe) ∙ F.pending_is i hi fi

      mine_count : length (keep (λ (x : Pending). eqb x.stripe s) ws) ≡ writes_in st i
      mine_count = as! (ap length stripe_sends ∙ length-map (keep (is_write st i) (below (filled_in_of st i))) (pending_of p st fl i))
        where
          as! : length (keep (λ (x : Pending). eqb x.stripe s) ws) ≡ length (keep (is_write st i) (below (filled_in_of st i)))
              → length (keep (λ (x : Pending). eqb x.stripe s) ws) ≡ writes_in st i
          as! e = unfold writes_in tally in e

      -- and what the answer makes of them
      pending_plan : (n : ℕ) → pending_after (land d s n) plan.answer ws ≡ left
      pending_plan n = ap (λ (a : Answer). pending_after (land d s n) a ws) answer_is ∙ after-landed d s n (cond (completes p st i d) (writes_in st i) 0) ws ∙ go (test (completes p st i d))
        where
          nil_of : (l : List Pending) → length l ≡ 0 → l ≡ []
          nil_of [] e = refl
          nil_of (x ∷ l) e = absurd (let bad : ⊥ = omega arith in bad)

          count : (x : ℕ) → writes_in st i ≡ x → cond (ltb 0 x) (elsewhere s ws) ws ≡ elsewhere s ws
          count zero e = sym (elsewhere-all s ws (nil_of (keep (λ (x : Pending). eqb x.stripe s) ws) (mine_count ∙ e)))
          count (suc x) e = cond_true (ltb 0 (suc x)) (elsewhere s ws) ws (lt-ltb 0 (suc x) (omega arith))

          go : Test (completes p st i d) → cond (ltb 0 (cond (completes p st i d) (writes_in st i) 0)) (elsewhere s ws) ws ≡ left
          go (no! q) = rw q
          go (yes! q) =
              ap (λ (x : ℕ). cond (ltb 0 x) (elsewhere s ws) ws) (cond_true (completes p st i d) (writes_in st i) 0 q) ∙ count (writes_in st i) refl
              ∙ sym (cond_true (completes p st i d) (elsewhere s ws) ws q)

      -- ---- what the answer says

      abbrev after : View
      after = seen p off (store_all (store_disk p) plan.stores k)

      -- sealed just where it seals
      sealed_is : sealed_in p after 0 z ≡ seals p st i d
      sealed_is = go (test (seals p st i d))
        where
          go : Test (seals p st i d) → sealed_in p after 0 z ≡ seals p st i d
          go (no! q) = ap (λ (x : View). sealed_in p x 0 z) (view_open q) ∙ open_after p rg v sh st he so z hz oz d i hd hi fi w.slot_ready b lb ∙ sym q
          go (yes! q) = ap (λ (x : View). sealed_in p x 0 z) (view_sealed q) ∙ seal_sealed p rg v1 sh1 z hz1 (pointers_full q) ∙ sym q

      view_after_holds : after ≡ store_all store_view_of (store ∷ cond (sealed_in p after 0 z) (seal_stores p v1 z) []) v
      view_after_holds = go (test (seals p st i d))
        where
          one : (q : seals p st i d ≡ false) → v1 ≡ store_all store_view_of (store ∷ cond (sealed_in p after 0 z) (seal_stores p v1 z) []) v
          one q = sym one_store ∙ ap (λ (ss : List Store). store_all store_view_of (store ∷ ss) v) (sym (cond_false (sealed_in p after 0 z) (seal_stores p v1 z) [] (sealed_is ∙ q)))

          all! : v2 ≡ store_all store_view_of (store ∷ seal_stores p v1 z) v
          all! = unfold store_all in refl

          go : Test (seals p st i d) → after ≡ store_all store_view_of (store ∷ cond (sealed_in p after 0 z) (seal_stores p v1 z) []) v
          go (no! q) = view_open q ∙ one q
          go (yes! q) = view_sealed q ∙ all! ∙ ap (λ (ss : List Store). store_all store_view_of (store ∷ ss) v)
              (sym (cond_true (sealed_in p after 0 z) (seal_stores p v1 z) [] (sealed_is ∙ q)))

      -- the stripe counts just where it completes
      counts_is : counts p 0 (segment_of p after 0 z) s ≡ completes p st i d
      counts_is = go (test (completes p st i d)) (test (seals p st i d))
        where
          at_view : (x : View) → after ≡ x → counts p 0 (segment_of p after 0 z) s ≡ counts p 0 (segment_of p x 0 z) (stripe_in st i)
          at_view x e = (λ j. counts p 0 (segment_of p (e j) 0 z) (sym w.slot_stripe j))

          now : completes p st i d ≡ true → counts p 0 (segment_of p v1 0 z) (stripe_in st i) ≡ true
          now q = counts_now p rg v sh st he so z hz oz d i hd hi fi w.slot_ready b lb q

          go : Test (completes p st i d) → Test (seals p st i d) → counts p 0 (segment_of p after 0 z) s ≡ completes p st i d
          go (no! q) t = at_view v1 (view_open (not_so (seals p st i d) (λ sl. clash (seal_parts sl).0 q)))
              ∙ not_so (counts p 0 (segment_of p v1 0 z) (stripe_in st i)) (uncounted_yet p rg v sh st he so z hz oz d i hd hi fi w.slot_ready b lb q) ∙ sym q
          go (yes! q) (no! ns) = at_view v1 (view_open ns) ∙ now q ∙ sym q
          go (yes! q) (yes! sl) = at_view v2 (view_sealed sl) ∙ seal_counts p rg v1 sh1 z hz1 (pointers_full sl) (stripe_in st i) (now q) ∙ sym q

      -- the number acknowledged
      acknowledged : (x : ℕ) → plan.answer ≡ Landed x → x ≡ cond (counts p 0 (segment_of p after 0 z) s) (pending_in ws s) 0
      acknowledged x e =
          number (Landed x) refl ∙ ap (λ (a : Answer). get_or (values a) 0 0) (sym e ∙ answer_is) ∙ sym (number (Landed (cond (completes p st i d) (writes_in st i) 0)) refl)
          ∙ ap₂ (λ (c : Bool) (n : ℕ). cond c n 0) (sym counts_is) (sym (count! mine_count))
        where
          number : {y : ℕ} (a : Answer) → a ≡ Landed y → y ≡ get_or (values a) 0 0
          number {y} a q = sym (ap (λ (a : Answer). get_or (values a) 0 0) q ∙ val)
            where
              val : get_or (values (Landed y)) 0 0 ≡ y
              val = unfold values in refl

          count! : length (keep (λ (y : Pending). eqb y.stripe s) ws) ≡ writes_in st i → pending_in ws s ≡ writes_in st i
          count! q = unfold pending_in tally in q

      -- a write that waits for this drive sent this chunk
      was_sent : (y : Pending) → In y ws → y.stripe ≡ s → y.drive ≡ d
          → (b ≡ y.block) × ((flight_rec p st i d).address ≡ y.address) × ((flight_rec p st i d).stamp ≡ y.stamp)
      was_sent y n es ed =
          let (j, jn, e) = map_in (pending_of p st fl i) (keep (is_write st i) (below (filled_in_of st i))) y
          (subst (λ (l : List Pending). In y l) stripe_sends (in_keep (λ (x : Pending). eqb x.stripe s) ws y n (eq-eqb y.stripe s es))) in
          sent! j e (sym (ap (λ (x : Pending). x.drive) e ∙ drive! j) ∙ ed)
        where
          drive! : (j : ℕ) → (pending_of p st fl i j).drive ≡ data_drive p (stripe_in st i) j
          drive! j = unfold pending_of in refl

          sent! : (j : ℕ) → y ≡ pending_of p st fl i j → data_drive p (stripe_in st i) j ≡ d
              → (b ≡ y.block) × ((flight_rec p st i d).address ≡ y.address) × ((flight_rec p st i d).stamp ≡ y.stamp)
          sent! j e q =
              let c : flight_rec p st i d ≡ entry_in_of st i j =
              ap (flight_rec p st i) (sym q) ∙ flight_data p st i (data_drive p (stripe_in st i) j) (drive_is_data p (stripe_in st i) j)
              ∙ ap (entry_in_of st i) (position_drive p (stripe_in st i) j) in (
                ap (slot_block p fl i) (sym q) ∙ block! ∙ ap (λ (x : Pending). x.block) (sym e),
                ap (λ (x : Rec). x.address) c ∙ address! ∙ ap (λ (x : Pending). x.address) (sym e),
                ap (λ (x : Rec). x.stamp) c ∙ stamp! ∙ ap (λ (x : Pending). x.stamp) (sym e),
              )
            where
              block! : slot_block p fl i (data_drive p (stripe_in st i) j) ≡ (pending_of p st fl i j).block
              block! = unfold pending_of in refl

              address! : (entry_in_of st i j).address ≡ (pending_of p st fl i j).address
              address! = unfold pending_of in refl

              stamp! : (entry_in_of st i j).stamp ≡ (pending_of p st fl i j).stamp
              stamp! = unfold pending_of in refl

-- ---- the flights after the call

-- what holds of the flights holds after an uncut landing
pub flown_land : (p : Params) (off : List ℕ) (k : Disk) (m : Memory) (ws : List Pending) (old : List Segment) (d s n : ℕ) → Run p off k m → Flown p off k m ws old
    → is_cut_of (call_disk p off k m (land d s n)).answer ≡ false
    → Flown p off (call_disk p off k m (land d s n)).drives (call_disk p off k m (land d s n)).memory (pending_after (land d s n) (call_disk p off k m (land d s n)).answer ws) old
flown_land p off k m ws old d s n u f nc =
    let v = seen p off k in
    let q = land_plan p v m d s in
    flown-ended p off k m ws old f (land d s n) (land_checks p (lent_ok_of p off k m) v m d s) q (call_disk p off k m (land d s n)) (λ c.
    let z0 = passed_none p off k m u d s c in
    let wt = passed_waits p off k m u d s c in
    subst (λ (l : List Pending). Flown p off (store_all (store_disk p) q.stores k) q.memory l old)
    (sym (pending_plan p off k m u d s z0 wt ws old f n)) (flown_plan p off k m u d s z0 wt ws old f))
    nc (land_ends p off k m u d s n)

-- ---- what its answer says

-- 01, Landing: one chunk more with what was sent, acknowledged just where the stripe now counts
pub lands_say : (p : Params) (off : List ℕ) (k : Disk) (m : Memory) (ws : List Pending) (old : List Segment) (d s n : ℕ) → Run p off k m → Flown p off k m ws old
    → (x : ℕ) → (call_disk p off k m (land d s n)).answer ≡ Landed x → Lands (on_values off) p (mk_world k m) ws d s (call_world off p (mk_world k m) (land d s n)) x
lands_say p off k m ws old d s n u f x q = go (land_ends p off k m u d s n)
  where
    kind_four : kind (Landed x) ≡ 4
    kind_four = unfold kind in refl

    go : EndedAs p k m (land_checks p (lent_ok_of p off k m) (seen p off k) m d s) (land_plan p (seen p off k) m d s) (call_disk p off k m (land d s n))
        → Lands (on_values off) p (mk_world k m) ws d s (call_world off p (mk_world k m) (land d s n)) x
    go (ended-refused a e ea ex ey) = absurd (refused_not (refusal_kind (land_checks p (lent_ok_of p off k m) (seen p off k) m d s) a e) (ap kind (sym ea ∙ q) ∙ kind_four))
      where
        refused_not : is_refused a ≡ true → kind a ≡ 4 → ⊥
        refused_not r h = unfold is_refused in (let l = leb-true (kind a) 1 r in let bad : ⊥ = omega arith in bad)
    go (ended-cut c ea) = absurd (let h : kind Cut ≡ 4 = ap kind (sym ea ∙ q) ∙ kind_four in cut_not h)
      where
        cut_not : kind Cut ≡ 4 → ⊥
        cut_not h = unfold kind in (let h2 : ◌≡◌ {A = ℕ} 2 4 = h in let bad : ⊥ = omega arith in bad)
    go (ended_done c ea ex ey) =
        let z0 = passed_none p off k m u d s c in
        let wt = passed_waits p off k m u d s c in
        record {
          block = slot_block p m.inflight (slot_of m.state s) d;
          rec = flight_rec p m.state (slot_of m.state s) d;
          stored = stored! ex (view_after_holds p off k m u d s z0 wt ws old f);
          numbered = flight_stripe p m.state (slot_of m.state s) d ∙ (w p off k m u d s z0 wt).slot_stripe;
          sent = λ j hj es ed. was_sent p off k m u d s z0 wt ws old f (get_or ws j no_pending) (in_get_d ws j no_pending hj) es ed;
          acknowledges = acknowledges! ex (acknowledged p off k m u d s z0 wt ws old f x (sym ea ∙ q));
        }
      where
        chunk : Store
        chunk = put d (zone_on (open_segment p (seen p off k) m.state) d) (slot_block p m.inflight (slot_of m.state s) d) (record_bytes (flight_rec p m.state (slot_of m.state s) d))

        v1 : View
        v1 = store_view_of chunk (seen p off k)

        Stored : View → Type 0
        Stored y =
            y ≡ store_all store_view_of (chunk
            ∷ cond (sealed_in p y 0 (open_segment p (seen p off k) m.state)) (seal_stores p v1 (open_segment p (seen p off k) m.state)) []) (seen p off k)

        stored! : (call_disk p off k m (land d s n)).drives ≡ store_all (store_disk p) (land_plan p (seen p off k) m d s).stores k
            → Stored (seen p off (store_all (store_disk p) (land_plan p (seen p off k) m d s).stores k))
            → view_in (on_values off) p (call_world off p (mk_world k m) (land d s n)).world
            ≡ store_all store_view_of (landing_stores (on_values off) p (mk_world k m) (put d (zone_on (open_in (on_values off) p (mk_world k m)) d) (slot_block p m.inflight (slot_of m.state s) d)
            (record_bytes (flight_rec p m.state (slot_of m.state s) d)))
            (sealed_in p (view_in (on_values off) p (call_world off p (mk_world k m) (land d s n)).world) 0 (open_in (on_values off) p (mk_world k m)))) (view_in (on_values off) p (mk_world k m))
        stored! e h = unfold view_in call_world landing_stores open_in in (subst (λ (y : Disk). Stored (seen p off y)) (sym e) h)

        acknowledges! : (call_disk p off k m (land d s n)).drives ≡ store_all (store_disk p) (land_plan p (seen p off k) m d s).stores k
            → x ≡ cond (counts p 0 (segment_of p (seen p off (store_all (store_disk p) (land_plan p (seen p off k) m d s).stores k)) 0
            (open_segment p (seen p off k) m.state)) s) (pending_in ws s) 0
            → x ≡ cond (counts p 0 (segment_of p (view_in (on_values off) p (call_world off p (mk_world k m) (land d s n)).world) 0
            (open_in (on_values off) p (mk_world k m))) s) (pending_in ws s) 0
        acknowledges! e h = unfold view_in call_world open_in in
            (subst (λ (y : Disk). x ≡ cond (counts p 0 (segment_of p (seen p off y) 0 (open_segment p (seen p off k) m.state)) s) (pending_in ws s) 0) (sym e) h)
