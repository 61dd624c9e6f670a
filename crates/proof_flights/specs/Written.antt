-- Writes: the stripes in flight after one, whatever it answers. Assumes nothing.
use Rattle.std.specs.Prelude.{◌≡◌, List, ◌∷◌, false, cond, ℕ, suc, ◌^◌, ◌≤◌, ◌<◌, eqb}
use Rattle.std.proofs.Math.Path.{refl}
use Rattle.std.proofs.Common.{sym, ap, ◌∙◌, subst, inr, ⊎_elim, arith, eq-eqb}
use Rattle.std.proofs.lemmas.Bool.{eqb-false}
use Rattle.proof_tables.specs.Sending.{plenty}
use Rattle.spec.specs.Lists.Opt.{none}
use Rattle.spec.specs.declared.Params.{Params}
use Rattle.spec.specs.declared.State.{State}
use Rattle.spec.specs.declared.Answer.{Answer}
use Rattle.spec.specs.declared.Answer.TheVariants.{Sent}
use Rattle.spec.specs.Answers.{kind, values, is_cut_of, finished}
use Rattle.spec.specs.Calls.{Check, first_refusal}
use Rattle.spec.specs.Counts.{last_count, a_stamp}
use Rattle.spec.specs.Drives.{View, chunk_at, Store, store_view_of, Disk, store_disk, store_all, zone_on, empty_count}
use Rattle.spec.specs.Engine.{store_count, lent_block, verdict, lent_ok_of, call_on, call_disk}
use Rattle.spec.specs.Engine.Call.{write}
use Rattle.spec.specs.History.{ends_run}
use Rattle.spec.specs.Memory.{Memory, mk_memory, set_stamp}
use Rattle.spec.specs.Segments.{Segment, open_segment, open_segments}
use Rattle.spec.specs.Write.{opens, no_stamp, Sending, sending, write_checks, write_plan, write_verdict_in}
use Rattle.law_basic.specs.Geometry.{Ranged, ranged}
use Rattle.proof_crash_calls.specs.Cells.{stamp_same}
use Rattle.spec_demands.specs.Layouts.{ParityMade}
use Rattle.spec_demands.specs.Tables.{Pending, pending_by, still_pending, pending_after}
use Rattle.law_checks.specs.Passed.{write_passed}
use Rattle.law_drives.specs.Lengths.{whole_of}
use Rattle.law_drives.specs.Masks.{named_some}
use Rattle.law_drives.specs.Members.{In}
use Rattle.law_drives.specs.Range.{capacity_word}
use Rattle.law_drives.specs.Tests.{clash}
use Rattle.law_drives.specs.Zones.{Within, Roomy, all_fit}
use Rattle.proof_tables.specs.Going.{address_small, buffer_long}
use Rattle.proof_tables.specs.Outcomes.{outcome_ends}
use Rattle.proof_tables.specs.Run.{HealthyState, Well, Run}
use Rattle.proof_tables.specs.Sending.{sent_ok}
use Rattle.law_views.specs.Views.{seen, view_stores}
use Rattle.law_drives.specs.States.{StateOk, state_of_lem}
use Rattle.proof_flights.specs.Eighths.{plus}
use Rattle.proof_flights.specs.Flocks.{flock_of, of_flock, flock_same}
use Rattle.proof_flights.specs.Flown.{Flights, Flown}
use Rattle.proof_flights.specs.Idled.{flown_as, flown-ended}
use Rattle.proof_flights.specs.Sent.{leaves-sent}

-- ---- what every call that stores shares

-- a call that went on while the third check stood: no drive is missing
pub well_of : (p : Params) (off : List ℕ) (k : Disk) (m : Memory) → Run p off k m → m.state.missing ≡ 0 → Well p off k m
well_of p off k m u q = ⊎_elim
    (λ lo. clash (eq-eqb m.state.missing 0 q) (ap (λ (x : ℕ). eqb x 0) lo.names_it ∙ named_some p (ranged p u.base.ranged) lo.which lo.which_low))
    (λ we. we) u.mode

-- the view after stores that have room
pub run_seen-after : (p : Params) (off : List ℕ) (k : Disk) (m : Memory) → Run p off k m → (ss : List Store) → Roomy p (seen p off k) ss → ((s : Store) → In s ss → Within p s)
    → seen p off (store_all (store_disk p) ss k) ≡ store_all store_view_of ss (seen p off k)
run_seen-after p off k m u ss ro wi =
    let rg = ranged p u.base.ranged in
    view_stores p off k ss (capacity_word p rg) (whole_of p off k m u.base.lent) (all_fit p (seen p off k) ss u.base.shaped.sized wi ro)

pub flown-parity-made : (p : Params) (off : List ℕ) (k : Disk) (m : Memory) (ws : List Pending) (old : List Segment) → Flown p off k m ws old → m.state.missing ≡ 0
    → ParityMade p (seen p off k) 0 old
flown-parity-made p off k m ws old f e = subst (λ (x : ℕ). ParityMade p (seen p off k) x old) e f.parities

pub flown_of : (p : Params) (off : List ℕ) (k : Disk) (m : Memory) (ws : List Pending) (old : List Segment) (u : View) → seen p off k ≡ u → m.state.missing ≡ 0
    → Flights p u m.state m.inflight ws → ParityMade p u 0 old → Flown p off k m ws old
flown_of p off k m ws old u ev em f pm = record {
  flights = λ q. subst (λ (x : View). Flights p x m.state m.inflight ws) (sym ev) f;
  parities = subst (λ (x : View). ParityMade p x m.state.missing old) (sym ev) (subst (λ (x : ℕ). ParityMade p u x old) (sym em) pm);
  all_found = λ n. absurd (n em);
}

-- ---- another stamp

flights_stamp : (p : Params) → Ranged p → (v : View) (st : State) (fl : List ℕ) (ws : List Pending) (t : ℕ) → HealthyState p v st → StateOk p st → Flights p v st fl ws
    → Flights p v (set_stamp st t) fl ws
flights_stamp p r v st fl ws t h so f =
    of_flock p v (set_stamp st t) fl ws (flock_same p r v v st (set_stamp st t) fl ws (λ j. stamp_same st t j) (λ j d b hj fj hd. same_open d b) (flock_of p v st fl ws h so f))
  where
    same_open : (d b : ℕ) → chunk_at v d (zone_on (open_segment p v (set_stamp st t)) d) b ≡ chunk_at v d (zone_on (open_segment p v st) d) b
    same_open d b = unfold set_stamp open_segment open_segments in refl

-- ---- write

module _ (p : Params) (off : List ℕ) (k : Disk) (m : Memory) (u : Run p off k m) (ws : List Pending) (old : List Segment) (f : Flown p off k m ws old) where
  abbrev v : View
  v = seen p off k

  abbrev st : State
  st = m.state

  module _ (a x : ℕ) (more : List ℕ) (n : ℕ) where
    abbrev b : List ℕ
    b = x ∷ more

    abbrev checks : List Check
    checks = write_checks p (lent_ok_of p off k m) v m a b

    abbrev t : ℕ
    t = suc m.state.stamp.0

    abbrev q : Sending
    q = sending p (seen p off k) m.state m.inflight a (suc m.state.stamp.0) 1 b

    abbrev m' : Memory
    m' = mk_memory (set_stamp q.state t) m.addresses m.compact q.inflight

    abbrev k' : Disk
    k' = store_all (store_disk p) q.stores k

    abbrev v' : View
    v' = store_all store_view_of q.stores v

    written-flown : first_refusal checks ≡ none → Flown p off (store_all (store_disk p) (write_plan p v m a b).stores k) (write_plan p v m a b).memory
        (pending_after (write a b n) (write_plan p v m a b).answer ws) old
    written-flown e =
        let c = write_passed p (lent_ok_of p off k m) v m a b e in
        let rg = ranged p u.base.ranged in
        let we = well_of p off k m u c.healthy in
        let so = state_of_lem p rg st u.base.state_ok_holds in
        let lb = c.block_long in
        let ha : a < 256 ^ 8 = address_small p u.base.ranged a c.address_low in
        let ht : t < 256 ^ 8 = (let nl = eqb-false st.stamp.0 last_count (stamp_left c.stamp_left) in let g = we.healthy.stamp_fits in omega arith) in
        let ns = c.serial_left in
        let fl = m.inflight in
        let bu = buffer_long p off k m u we in
        let ne : 1 ≤ empty_count p v = plenty p v (cond (opens p st) 2 1) c.room in
        let sh = u.base.shaped in
        let h = we.healthy in
        let no = we.none_missing in
        let s = sent_ok p rg v sh st h so fl bu a t 1 b ha ht (omega arith) lb c.no_wait ns (λ x. ne) in
        let le = leaves-sent p rg v sh st h so fl bu ws old (f.flights no) (flown-parity-made p off k m ws old f no) a t 1 b (inr refl) lb c.no_wait ns (λ x. ne) in
        flown_as p off k' m' _ _ old _ _ (ap (λ (l : List Store). store_all (store_disk p) l k) stores_is) memory_is
        (ap (λ (x : Answer). pending_after (write a b n) x ws) answer_is ∙ pending_sent q.stripe q.drive)
        (flown_of p off k' m' _ old v' (run_seen-after p off k m u q.stores s.has_room s.all_within) (missing_same q.state ∙ s.missing_after ∙ no)
        (flights_stamp p rg v' q.state q.inflight _ t s.healthy_after s.state_after_holds le.0) le.1)
      where
        stamp_left : no_stamp st ≡ false → eqb st.stamp.0 last_count ≡ false
        stamp_left q = unfold no_stamp in q

        stores_is : (write_plan p v m a b).stores ≡ q.stores
        stores_is = unfold write_plan in refl

        memory_is : (write_plan p v m a b).memory ≡ m'
        memory_is = unfold write_plan in refl

        answer_is : (write_plan p v m a b).answer ≡ Sent (a_stamp t) q.stripe q.drive
        answer_is = unfold write_plan in refl

        pending_sent : (s d : ℕ) → pending_after (write a b n) (Sent (a_stamp t) s d) ws ≡ plus ws 1 (record { stripe = s; drive = d; address = a; stamp = t; block = b })
        pending_sent s d = unfold pending_after ends_run is_cut_of finished kind still_pending pending_by values in refl

        missing_same : (s : State) → (set_stamp s t).missing ≡ s.missing
        missing_same s = unfold set_stamp in refl

    pub flown_write : is_cut_of (call_disk p off k m (write a b n)).answer ≡ false
        → Flown p off (call_disk p off k m (write a b n)).drives (call_disk p off k m (write a b n)).memory (pending_after (write a b n) (call_disk p off k m (write a b n)).answer ws) old
    unfolding call_disk call_on verdict store_count lent_block write_verdict_in
    flown_write nc = flown-ended p off k m ws old f (write a b n) checks (write_plan p v m a b) _ written-flown nc (outcome_ends p k m checks (write_plan p v m a b) n b)
