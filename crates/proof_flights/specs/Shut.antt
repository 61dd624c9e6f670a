-- Closings: each open position of the filling stripe takes padding, as a position that fills. Assumes nothing.
use Rattle.std.specs.Prelude.{◌≡◌, Bool, true, false, cond, length, replicate}
use Rattle.std.proofs.Math.Path.{refl}
use Rattle.std.proofs.Common.{sym, ap, ◌∙◌, subst, inl}
use mathlib.Core.List.{List, []}
use Prim.Native.Nat.{ℕ, zero, suc, ◌+◌, ◌-◌, ◌≤◌, ◌<◌}
use native.Mathlib.Omega.{arith}
use Rattle.std.proofs.lemmas.List.{length-replicate}
use Rattle.spec.specs.Lists.Opt.{none}
use Rattle.spec.specs.declared.Params.{Params}
use Rattle.spec.specs.declared.State.{State}
use Rattle.spec.specs.declared.Answer.{Answer}
use Rattle.spec.specs.declared.Answer.TheVariants.{Closed, Nothing}
use Rattle.spec.specs.Answers.{kind, is_cut_of}
use Rattle.spec.specs.Calls.{Check, first_refusal, mk_plan}
use Rattle.spec.specs.Closing.{padded, close_checks, close_plan, close_verdict, empty_checks, empty_plan, empty_verdict}
use Rattle.spec.specs.Counts.{padding_address}
use Rattle.spec.specs.Drives.{View, Disk, store_disk, store_all}
use Rattle.spec.specs.Engine.{Call, store_count, lent_block, verdict, lent_ok_of, call_on, call_disk}
use Rattle.spec.specs.Engine.Call.{write, close}
use Rattle.spec.specs.Memory.{Memory, mk_memory, stripe_in, filled_in_of, filling_slot, has_filling, add_entry}
use Rattle.spec.specs.Params.{data_count, inflight_len}
use Rattle.spec.specs.Segments.{Segment}
use Rattle.spec.specs.Write.{placed}
use Rattle.law_basic.specs.Geometry.{Ranged, ranged}
use Rattle.spec_demands.specs.Tables.{Pending, pending_after}
use Rattle.law_checks.specs.Empty.{empty_asks}
use Rattle.law_checks.specs.Passed.{close_passed}
use Rattle.proof_tables.specs.Filling.{placed_inflight_long}
use Rattle.proof_tables.specs.Going.{buffer_long}
use Rattle.proof_tables.specs.Outcomes.{outcome_ends}
use Rattle.proof_tables.specs.Run.{flies, Lists, Run}
use Rattle.proof_tables.specs.Sending.{filling-flies}
use Rattle.proof_tables.specs.Slots.{filled-added, number_added, add_lists}
use Rattle.law_views.specs.Views.{seen}
use Rattle.law_drives.specs.States.{state_of_lem}
use Rattle.proof_flights.specs.Eighths.{freshly}
use Rattle.proof_flights.specs.Flocks.{Flock, open_of, none_more, flock_of, of_flock, flock_busy, flock_add, flies_stay}
use Rattle.proof_flights.specs.Flown.{Flown}
use Rattle.proof_flights.specs.Idled.{QuietAnswer, pending_quiet, quiet_kind, flown_as, flown-ended, idle-flown}
use Rattle.proof_flights.specs.Written.{well_of, flown-parity-made, flown_of}

-- ---- positions filled with padding

module _ (p : Params) (r : Ranged p) (v : View) (ws : List Pending) (i : ℕ) (hi : i < 8) where
  -- the eighth's stripe is in no other one
  abbrev Alone : State → Type 0
  Alone su = (j : ℕ) → j < 8 → flies su j ≡ true → stripe_in su i ≡ stripe_in su j → j ≡ i

  padding_flown : (su : State) (fl : List ℕ) → Lists su → length fl ≡ inflight_len p → flies su i ≡ true → filled_in_of su i < data_count p → Alone su → Flock p v su fl ws (flies su)
      → Flock p v (add_entry su i padding_address 0 0) (placed p su fl i padding_address 0 0 (replicate p.B 0)).inflight ws (flies (add_entry su i padding_address 0 0))
  padding_flown su fl ls l fi room al o =
      let b : List ℕ = replicate p.B 0 in
      let sw = add_entry su i padding_address 0 0 in
      let fl' = (placed p su fl i padding_address 0 0 b).inflight in
      let o₁ = flock_add p r v su ls fl l ws (flies su) i hi fi padding_address 0 0 b (length-replicate p.B 0) room (inl refl) al o in
      flock_busy p v sw fl' ws (flies su) (flies sw) (λ j hj. flies_stay su ls i hi fi padding_address 0 0 j)
      (subst (λ (x : List Pending). Flock p v sw fl' x (flies su)) (none_more ws (freshly p su i padding_address 0 b)) o₁)

  paddings_flown : (x : ℕ) (su : State) (fl : List ℕ) → Lists su → length fl ≡ inflight_len p → flies su i ≡ true → filled_in_of su i + x ≤ data_count p → Alone su
      → Flock p v su fl ws (flies su)
      → Flock p v (padded p i x su fl).state (padded p i x su fl).inflight ws (flies (padded p i x su fl).state)
  unfolding padded placed
  paddings_flown zero su fl ls l fi h al o = o
  paddings_flown (suc x) su fl ls l fi h al o =
      let sw = add_entry su i padding_address 0 0 in
      let room : filled_in_of su i < data_count p = omega arith in
      paddings_flown x sw (placed p su fl i padding_address 0 0 (replicate p.B 0)).inflight (add_lists su ls i hi padding_address 0 0)
      (placed_inflight_long p r su fl i padding_address 0 0 (replicate p.B 0) l hi room (length-replicate p.B 0)) (sym (flies_stay su ls i hi fi padding_address 0 0 i) ∙ fi)
      (let e = filled-added su ls i hi padding_address 0 0 in omega arith)
      (λ j hj q e. al j hj (flies_stay su ls i hi fi padding_address 0 0 j ∙ q) (sym (number_added su ls i hi padding_address 0 0 i) ∙ e ∙ number_added su ls i hi padding_address 0 0 j))
      (padding_flown su fl ls l fi room al o)

  pads_missing : (x : ℕ) (su : State) (fl : List ℕ) → (padded p i x su fl).state.missing ≡ su.missing
  unfolding padded placed
  pads_missing zero su fl = refl
  pads_missing (suc x) su fl = pads_missing x (add_entry su i padding_address 0 0) (placed p su fl i padding_address 0 0 (replicate p.B 0)).inflight ∙ same su
    where
      same : (su : State) → (add_entry su i padding_address 0 0).missing ≡ su.missing
      same su = unfold add_entry in refl

-- ---- the call

module _ (p : Params) (off : List ℕ) (k : Disk) (m : Memory) (u : Run p off k m) (ws : List Pending) (old : List Segment) (f : Flown p off k m ws old) (n : ℕ) where
  abbrev v : View
  v = seen p off k

  abbrev st : State
  st = m.state

  abbrev checks : List Check
  checks = close_checks p (lent_ok_of p off k m) v m

  closed-flown : (call : Call) → first_refusal checks ≡ none → Flown p off (store_all (store_disk p) (close_plan p m).stores k) (close_plan p m).memory
      (pending_after call (close_plan p m).answer ws) old
  closed-flown call e =
      let c = close_passed p (lent_ok_of p off k m) v m e in
      let rg = ranged p u.base.ranged in
      let we = well_of p off k m u c.healthy in
      let so = state_of_lem p rg st u.base.state_ok_holds in
      let i = filling_slot p st in
      let (hi, fi, room) = filling-flies p st c.filling in
      let x = data_count p - filled_in_of st i in
      let q = padded p i x st m.inflight in
      let h = we.healthy in
      let o = paddings_flown p rg v ws i hi x st m.inflight h.lists (buffer_long p off k m u we) fi (omega arith)
      (λ j hj fj e. let (z, op, q₀) = open_of p v st h i hi fi in q₀.once j i hj hi fj fi (sym e))
      (flock_of p v st m.inflight ws h so (f.flights we.none_missing)) in
      flown_as p off k (mk_memory q.state m.addresses m.compact q.inflight) _ ws old _ _ stores_are memory_is
      (ap (λ (y : Answer). pending_after call y ws) answer_is ∙ pending_quiet call (Closed (stripe_in st i)) ws (quiet_closed (stripe_in st i)))
      (flown_of p off k (mk_memory q.state m.addresses m.compact q.inflight) ws old v refl (pads_missing p rg v ws i hi x st m.inflight ∙ we.none_missing)
      (of_flock p v q.state q.inflight ws o) (flown-parity-made p off k m ws old f we.none_missing))
    where
      stores_are : store_all (store_disk p) (close_plan p m).stores k ≡ k
      stores_are = unfold close_plan store_all in refl

      memory_is : (close_plan p m).memory
          ≡ mk_memory (padded p (filling_slot p st) (data_count p - filled_in_of st (filling_slot p st)) st m.inflight).state m.addresses m.compact
          (padded p (filling_slot p st) (data_count p - filled_in_of st (filling_slot p st)) st m.inflight).inflight
      memory_is = unfold close_plan in refl

      answer_is : (close_plan p m).answer ≡ Closed (stripe_in st (filling_slot p st))
      answer_is = unfold close_plan in refl

      quiet_closed : (s : ℕ) → QuietAnswer (Closed s)
      quiet_closed s = quiet_kind (Closed s) 5 (unfold kind in refl) refl refl refl refl

  pub flown_close : is_cut_of (call_disk p off k m (close n)).answer ≡ false
      → Flown p off (call_disk p off k m (close n)).drives (call_disk p off k m (close n)).memory (pending_after (close n) (call_disk p off k m (close n)).answer ws) old
  unfolding call_disk call_on verdict store_count lent_block close_verdict
  flown_close nc = flown-ended p off k m ws old f (close n) checks (close_plan p m) _ (closed-flown (close n)) nc (outcome_ends p k m checks (close_plan p m) n [])

  -- 02, item 1: a closing, or nothing
  emptied_flown : (a : ℕ) → first_refusal (empty_checks p (lent_ok_of p off k m) v m a) ≡ none
      → Flown p off (store_all (store_disk p) (empty_plan p m).stores k) (empty_plan p m).memory (pending_after (write a [] n) (empty_plan p m).answer ws) old
  unfolding empty_plan
  emptied_flown a e = go (has_filling p m.state) refl
    where
      quiet_nothing : QuietAnswer Nothing
      quiet_nothing = quiet_kind Nothing 14 (unfold kind in refl) refl refl refl refl

      go : (t : Bool) → has_filling p m.state ≡ t → Flown p off (store_all (store_disk p) (cond t (close_plan p m) (mk_plan [] Nothing m [])).stores k)
          (cond t (close_plan p m) (mk_plan [] Nothing m [])).memory (pending_after (write a [] n) (cond t (close_plan p m) (mk_plan [] Nothing m [])).answer ws) old
      go true h = closed-flown (write a [] n) (empty_asks p (lent_ok_of p off k m) v m a h e)
      go false h = idle-flown p off k m u ws old f (write a [] n) Nothing quiet_nothing

  pub flown_empty : (a : ℕ) → is_cut_of (call_disk p off k m (write a [] n)).answer ≡ false
      → Flown p off (call_disk p off k m (write a [] n)).drives (call_disk p off k m (write a [] n)).memory (pending_after (write a [] n) (call_disk p off k m (write a [] n)).answer ws) old
  unfolding call_disk call_on verdict store_count lent_block empty_verdict
  flown_empty a nc =
      flown-ended p off k m ws old f (write a [] n) (empty_checks p (lent_ok_of p off k m) v m a) (empty_plan p m) _ (emptied_flown a) nc
      (outcome_ends p k m (empty_checks p (lent_ok_of p off k m) v m a) (empty_plan p m) n [])
