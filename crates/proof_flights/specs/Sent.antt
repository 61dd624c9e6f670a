-- A block is sent, by a write or a copy: it fills a position, begins a stripe, or opens a segment, whose headers add no stripe that counts. Assumes nothing.
use Rattle.std.specs.Prelude.{◌≡◌, List, [], Bool, true, false, ◌&&◌, ◌||◌, ◌⊎◌, ℕ, suc, ◌^◌, ◌≤◌, ◌<◌, leb, length}
use Rattle.std.proofs.Math.Path.{refl, sym}
use Rattle.std.proofs.Common.{ap, ap₂, ◌∙◌, subst, inl, inr}
use Rattle.std.proofs.Math.Bool.{not}
use Rattle.std.proofs.Math.Decide.{ℕ_discrete}
use native.Mathlib.Omega.{arith}
use borrow.Author.Tests.{leb-false, eq-eqb, eqb-true, eqb-false}
use Rattle.std.proofs.Math.Dec.{eqb}
use Rattle.spec.specs.declared.Params.{Params}
use Rattle.spec.specs.declared.State.{State}
use Rattle.spec.specs.Counts.{last_count}
use Rattle.spec.specs.Drives.{Zone, View, zone_at, pointer_at, Store, store_view_of, store_all, zone_on, data_stored, header_stores, empty_count, new_seg}
use Rattle.spec.specs.Layout.{data_drive}
use Rattle.spec.specs.Lists.{any, is_nil}
use Rattle.spec.specs.Memory.{slot_count, stripe_in, filled_in_of, is_free, in_flight, free_slot, filling_slot, has_filling, set_open, begin_stripe, add_entry}
use Rattle.spec.specs.Params.{data_count, inflight_len}
use Rattle.spec.specs.Segments.{Segment, segment_of, counts}
use Rattle.spec.specs.Write.{must_open, opens, no_serial, other_group, must_wait, placed, Sending, opened_by, slot_for, begun_by, sending}
use Rattle.law_basic.specs.Geometry.{Ranged, data_count-low}
use Rattle.law_basic.specs.Ranges.{Test, test}
use Rattle.law_basic.specs.Ranges.Test.{yes!, no! }
use Rattle.spec_demands.specs.Layouts.{Remains, ParityMade}
use Rattle.spec_demands.specs.Tables.{Pending}
use Rattle.law_drives.specs.Headers.{header_pointer, Unborne, Vacant, headers_header_same, header_was, new_vacant, tidy_unborne}
use Rattle.law_drives.specs.Members.{in_some}
use Rattle.law_drives.specs.Settled.{SameZones}
use Rattle.law_drives.specs.States.{StateOk}
use Rattle.law_drives.specs.Tests.{clash, or_first, or_right, or_cases, or_true_right, not_so}
use Rattle.law_drives.specs.Zones.{Shaped}
use Rattle.proof_tables.specs.Run.{flies, Lists, HealthyState}
use Rattle.proof_tables.specs.Sending.{filling-flies, free_slot_idle, in_flight_lem}
use Rattle.proof_tables.specs.Slots.{number_begun, begin_number_other, filled_begun, begin_filled-other, begin_lists, free_is}
use Rattle.proof_flights.specs.Eighths.{freshly, plus}
use Rattle.proof_flights.specs.Flocks.{Flock, open_of, flock_of, of_flock, flock_busy, flock_bare, bare_flock, flock_begin, flock_add, flies-add, flies_stay}
use Rattle.proof_flights.specs.Flown.{Flights}
use Rattle.proof_flights.specs.Pieces.{bare-counts, parity_zones, remains_of_there, there_of_remains}
use Rattle.spec.specs.declared.Seg.{Seg}
use Rattle.law_drives.specs.Tidy.{There}

-- ---- a segment is opened: parity stays right

module _ (p : Params) (r : Ranged p) (v : View) (sh : Shaped p v) (st : State) (h : HealthyState p v st) (old : List Segment) (g : Seg) (va : Vacant p v g)
    (fit : suc st.serial.0 < 256 ^ 8) where
  abbrev n₀ : ℕ
  n₀ = st.serial.0

  abbrev after : View
  after = store_all store_view_of (header_stores p g (suc st.serial.0) 0) v

  h0 : 0 < p.N
  h0 = omega (arith, r.drives_low)

  fresh : Unborne p v (suc n₀)
  fresh = tidy_unborne p r v n₀ (suc n₀) h.tidy (omega arith)

  opened_bare : data_stored p (zone_at after 0 (zone_on g 0)) ≡ 0
  opened_bare = go (zone_at after 0 (zone_on g 0)) (as! (header_pointer p r v sh g (suc n₀) 0 va 0 h0))
    where
      as! : pointer_at after 0 (zone_on g 0) ≡ 1 → (zone_at after 0 (zone_on g 0)).pointer ≡ 1
      as! e = unfold pointer_at in e

      go : (q : Zone) → q.pointer ≡ 1 → data_stored p q ≡ 0
      go q e = unfold data_stored in omega arith

  pub parity_headed : ParityMade p v 0 old → ParityMade p after 0 old
  parity_headed pm = parity_zones p r v after old pm (λ y rm. go y (header_was p r v sh g (suc n₀) 0 va fit fresh y (there_of_remains p after y rm)))
    where
      go : (y : Seg) → There p v y ⊎ (y ≡ g) → (Remains p v 0 y × SameZones p v after y) ⊎ ((s : ℕ) → counts p 0 (segment_of p after 0 y) s ≡ true → ⊥)
      go y (inr e) = inr (λ s c. bare-counts p after y s 0 h0 (ap (λ (x : Seg). data_stored p (zone_at after 0 (zone_on x 0))) e ∙ opened_bare) c)
      go y (inl m) = inl (remains_of_there p r v n₀ h.tidy y m, headers_header_same p r v sh g (suc n₀) 0 va fit fresh y m)

-- ---- the block sent

module _ (p : Params) (r : Ranged p) (v : View) (sh : Shaped p v) (st : State) (h : HealthyState p v st) (so : StateOk p st) (fl : List ℕ) (l : length fl ≡ inflight_len p)
    (ws : List Pending) (old : List Segment) (f : Flights p v st fl ws) (pm : ParityMade p v 0 old)
    (a t w : ℕ) (b : List ℕ) (hw : (w ≡ 0) ⊎ (w ≡ 1)) (lb : length b ≡ p.B) where
  abbrev sent : Sending
  sent = sending p v st fl a t w b

  -- what a block sent as q leaves
  abbrev Leaves : Sending → Type 0
  Leaves q = Flights p (store_all store_view_of q.stores v) q.state q.inflight (plus ws w (record { stripe = q.stripe; drive = q.drive; address = a; stamp = t; block = b }))
      × ParityMade p (store_all store_view_of q.stores v) 0 old

  abbrev sent_as : List Store → State → ℕ → Sending
  sent_as ss su i = record {
    stores = ss;
    state = add_entry su i a t w;
    inflight = (placed p su fl i a t w b).inflight;
    stripe = stripe_in su i;
    drive = data_drive p (stripe_in su i) (filled_in_of su i);
  }

  flock : Flock p v st fl ws (flies st)
  flock = flock_of p v st fl ws h so f

  nothing : store_all store_view_of [] v ≡ v
  unfolding store_all
  nothing = refl

  unstored : (su : State) (i : ℕ) → Flights p v (add_entry su i a t w) (placed p su fl i a t w b).inflight
      (plus ws w (freshly p su i a t b))
      → Leaves (sent_as [] su i)
  unstored su i x = (
    subst (λ (y : View). Flights p y (add_entry su i a t w) (placed p su fl i a t w b).inflight
        (plus ws w (freshly p su i a t b))) (sym nothing) x,
    subst (λ (y : View). ParityMade p y 0 old) (sym nothing) pm,
  )

  -- the next position of the filling stripe
  fills : has_filling p st ≡ true → Leaves sent
  fills q =
      let (hi, fi, room) = filling-flies p st q in
      let i = filling_slot p st in
      let (z, e, q₀) = open_of p v st h i hi fi in
      let o = flock_add p r v st h.lists fl l ws (flies st) i hi fi a t w b lb room hw (λ j hj fj x. q₀.once j i hj hi fj fi (sym x)) flock in
      subst (λ (x : Sending). Leaves x) (sym (sent_is q))
      (unstored st i (of_flock p v (add_entry st i a t w) (placed p st fl i a t w b).inflight _
      (flock_busy p v (add_entry st i a t w) (placed p st fl i a t w b).inflight _ (flies st) (flies (add_entry st i a t w)) (λ j hj. flies_stay st h.lists i hi fi a t w j) o)))
    where
      sent_is : has_filling p st ≡ true → sent ≡ sent_as [] st (filling_slot p st)
      sent_is q = unfold sending slot_for begun_by opens placed in rw q

  -- the next stripe number, in a state su with the same eighths
  flown_begun : (u : View) (su : State) (xs : List Pending) → Lists su → (i : ℕ) → i < 8 → flies su i ≡ false → ((j : ℕ) → j < 8 → flies su j ≡ true → stripe_in su j < su.next)
      → Flock p u su fl xs (flies su)
      → Flights p u (add_entry (begin_stripe su i) i a t w) (placed p (begin_stripe su i) fl i a t w b).inflight (plus xs w (freshly p (begin_stripe su i) i a t b))
  flown_begun u su xs ls i hi nf bg o =
      let sw = begin_stripe su i in
      let lw = begin_lists su ls i hi in
      let room : filled_in_of sw i < data_count p = (let e = filled_begun su ls i hi in let c = data_count-low p r in omega arith) in
      let o₁ = flock_begin p r u su ls fl xs i hi bg o nf in
      let here : (flies su i || eqb i i) ≡ true = or_true_right (flies su i) (eqb i i) (eq-eqb i i refl) in
      let o₂ = flock_add p r u sw lw fl l xs (λ j. flies su j || eqb j i) i hi here a t w b lb room hw (λ j hj q e. one j hj e (or_cases (flies su j) (eqb j i) q)) o₁ in
      of_flock p u (add_entry sw i a t w) (placed p sw fl i a t w b).inflight _
      (flock_busy p u (add_entry sw i a t w) (placed p sw fl i a t w b).inflight _ (λ j. flies su j || eqb j i) (flies (add_entry sw i a t w))
      (λ j hj. busy_now j ∙ flies-add sw lw i hi a t w j) o₂)
    where
      one : (j : ℕ) → j < 8 → stripe_in (begin_stripe su i) i ≡ stripe_in (begin_stripe su i) j → (flies su j ≡ true) ⊎ (eqb j i ≡ true) → j ≡ i
      one j hj e (inr q) = eqb-true j i q
      one j hj e (inl q) = go (ℕ_discrete j i)
        where
          go : Dec (j ≡ i) → j ≡ i
          go (yes x) = x
          go (no x) = absurd (
              let y = bg j hj q in
              let z = number_begun su ls i hi in
              let y' = begin_number_other su ls i hi j x in
              let bad : ⊥ = omega arith in bad)

      busy_now : (j : ℕ) → (flies su j || eqb j i) ≡ (flies (begin_stripe su i) j || eqb j i)
      busy_now j = go (ℕ_discrete j i)
        where
          go : Dec (j ≡ i) → (flies su j || eqb j i) ≡ (flies (begin_stripe su i) j || eqb j i)
          go (yes e) = or_true_right (flies su j) (eqb j i) (eq-eqb j i e) ∙ sym (or_true_right (flies (begin_stripe su i) j) (eqb j i) (eq-eqb j i e))
          go (no n) = ap (λ (c : Bool). not c || eqb j i) (free_is su j ∙ ap (λ (x : ℕ). eqb x 0) (sym (begin_filled-other su ls i hi j n)) ∙ sym (free_is (begin_stripe su i) j))

  module _ (nf : has_filling p st ≡ false) (nw : must_wait p st ≡ false) where
    abbrev x₁ : Bool
    x₁ = leb slot_count (length (in_flight st))

    abbrev x₂ : Bool
    x₂ = must_open p st && not (is_nil (in_flight st))

    abbrev x₃ : Bool
    x₃ = not (must_open p st) && any (other_group p st) (in_flight st)

    send_wait_parts : (leb slot_count (length (in_flight st)) ≡ false) × (must_open p st && not (is_nil (in_flight st)) ≡ false)
    send_wait_parts = let q = or_first (x₁ || x₂) x₃ (sym (ap (λ (c : Bool). not c && (x₁ || x₂ || x₃)) nf) ∙ as!) in (or_first x₁ x₂ q, or_right x₁ x₂ q)
      where
        as! : not (has_filling p st) && (x₁ || x₂ || x₃) ≡ false
        as! = unfold must_wait in nw

    send_slot_free : (free_slot st < 8) × (flies st (free_slot st) ≡ false)
    send_slot_free = free_slot_idle st (few send_wait_parts.0)
      where
        few : leb slot_count (length (in_flight st)) ≡ false → length (in_flight st) < 8
        few q = unfold slot_count in leb-false 8 (length (in_flight st)) q

    -- a stripe of the open segment
    begins_stripe : must_open p st ≡ false → Leaves sent
    begins_stripe mo =
        subst (λ (x : Sending). Leaves x) (sym (sent_is mo))
        (unstored (begin_stripe st (free_slot st)) (free_slot st)
        (flown_begun v st ws h.lists (free_slot st) send_slot_free.0 send_slot_free.1
        (λ j hj fj. let (z, e, q₀) = open_of p v st h j hj fj in (q₀.flight j hj fj).begun) flock))
      where
        sent_is : must_open p st ≡ false → sent ≡ sent_as [] (begin_stripe st (free_slot st)) (free_slot st)
        sent_is mo = unfold sending slot_for begun_by opened_by opens placed in rw (nf, mo)

    -- the first stripe of a segment that is opened: nothing is in flight
    begins_segment : must_open p st ≡ true → no_serial p st ≡ false → 1 ≤ empty_count p v → Leaves sent
    begins_segment mo ns ne =
        let g = new_seg p v in
        let s = st.serial.0 in
        let u = store_all store_view_of (header_stores p g (suc s) 0) v in
        let su = set_open st (suc s) in
        let bare : (j : ℕ) → j < 8 → flies su j ≡ false = λ j hj. free_same (suc s) j ∙ nothing_flies j hj in
        let we : ws ≡ [] = flock_bare p v st fl ws nothing_flies flock in
        let o : Flock p u su fl ws (flies su) = subst (λ (x : List Pending). Flock p u su fl x (flies su)) (sym we) (bare_flock p u su fl bare) in
        subst (λ (x : Sending). Leaves x) (sym (sent_is mo)) (
          flown_begun u su ws (lists_same (suc s) h.lists) (free_slot st) send_slot_free.0 (free_same (suc s) (free_slot st) ∙ send_slot_free.1) (λ j hj fj. clash fj (bare j hj)) o,
          parity_headed p r v sh st h old g (new_vacant p v ne) serial_next pm,
        )
      where
        serial_next : suc st.serial.0 < 256 ^ 8
        serial_next =
            let n : st.serial.0 ≡ last_count → ⊥ = eqb-false st.serial.0 last_count (no_serial_holds ns) in
            let k = h.serial_fits in
            omega arith
          where
            no_serial_holds : no_serial p st ≡ false → eqb st.serial.0 last_count ≡ false
            no_serial_holds q = unfold no_serial opens in sym (ap₂ (λ (x y : Bool). not x && y && eqb st.serial.0 last_count) nf mo) ∙ q

        nothing_flies : (j : ℕ) → j < 8 → flies st j ≡ false
        nothing_flies j hj = not_so (flies st j) (λ q.
            let x : not (is_nil (in_flight st)) ≡ false = sym (ap (λ (c : Bool). c && not (is_nil (in_flight st))) mo) ∙ send_wait_parts.1 in
            clash (ap not (in_some (in_flight st) j (in_flight_lem st j hj q))) x)

        free_same : (x j : ℕ) → flies (set_open st x) j ≡ flies st j
        free_same x j = unfold set_open is_free filled_in_of in refl

        lists_same : (x : ℕ) → Lists st → Lists (set_open st x)
        lists_same x l = unfold set_open in record {
          numbers_long = l.numbers_long;
          filled_long = l.filled_long;
          writes_long = l.writes_long;
          landed_long = l.landed_long;
          addresses_long = l.addresses_long;
          stamps_long = l.stamps_long;
          offsets_long = l.offsets_long;
        }

        sent_is : must_open p st ≡ true → sent ≡ sent_as (header_stores p (new_seg p v) (suc st.serial.0) 0)
            (begin_stripe (set_open st (suc st.serial.0)) (free_slot st)) (free_slot st)
        sent_is mo = unfold sending slot_for begun_by opened_by opens placed in rw (nf, mo)

  -- all three
  pub leaves-sent : must_wait p st ≡ false → no_serial p st ≡ false → (opens p st ≡ true → 1 ≤ empty_count p v) → Leaves sent
  leaves-sent nw ns ne = go (test (has_filling p st)) (test (must_open p st))
    where
      opens_is : has_filling p st ≡ false → must_open p st ≡ true → opens p st ≡ true
      opens_is x y = unfold opens in rw (x, y)

      go : Test (has_filling p st) → Test (must_open p st) → Leaves sent
      go (yes! q) m = fills q
      go (no! q) (yes! m) = begins_segment q nw m ns (ne (opens_is q m))
      go (no! q) (no! m) = begins_stripe q nw m
