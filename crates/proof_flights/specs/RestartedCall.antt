-- The calls restart and rebuild: after a restart nothing flies, and the stripes are those found or moved; a rebuild stores on the missing drive alone. Assumes nothing.
use Rattle.std.specs.Prelude.{◌≡◌, true, false, ◌&&◌, ◌||◌, ℕ, ◌<◌, eqb}
use Rattle.std.proofs.Math.Path.{refl}
use Rattle.std.proofs.Common.{sym, ap, ◌∙◌, subst, arith, eqb-true}
use mathlib.Core.List.{List, [], ◌++◌}
use Rattle.std.proofs.lemmas.Bool.{eqb-false}
use Rattle.spec.specs.Lists.Opt.{none}
use Rattle.spec.specs.declared.Params.{Params}
use Rattle.spec.specs.declared.Answer.TheVariants.{Rebuilt}
use Rattle.spec.specs.Answers.{kind, is_refused, is_cut_of, finished}
use Rattle.spec.specs.Calls.{Plan, mk_plan, After, first_refusal}
use Rattle.spec.specs.Counts.{last_count}
use Rattle.spec.specs.Drives.{View, Store, store_view_of, Disk, store_disk, store_all, same_seg}
use Rattle.spec.specs.Engine.Call.{restart, rebuild}
use Rattle.spec.specs.Engine.{store_count, lent_block, verdict, lent_ok_of, call_on, call_disk}
use Rattle.spec.specs.History.{ends_run}
use Rattle.spec.specs.Lists.{any, flat}
use Rattle.spec.specs.Memory.{Memory, idle_state, filled_in_of}
use Rattle.spec.specs.Restart.{drop_stores, mend_stores, restart_stores, restart_memory, rewrites, restart_plan, none_free_of}
use Rattle.spec.specs.Params.{named}
use Rattle.spec.specs.Rebuild.{rebuild_checks, rebuild_stores, rebuild_verdict}
use Rattle.spec.specs.Segments.{remaining, Segment, segment_of, segments, recs_on, has_chunk, counts, greatest_serial, unsealed}
use Rattle.law_basic.specs.Geometry.{Ranged, ranged}
use Rattle.law_basic.specs.Ranges.{Test, test}
use Rattle.law_basic.specs.Ranges.Test.{yes!, no! }
use Rattle.law_basic.specs.Stores.{store_all-append}
use Rattle.law_views.specs.Views.{Whole, seen, view_stores}
use Rattle.law_calls.specs.Refusals.{refusal_kind, refused_unfinished}
use Rattle.spec_demands.specs.Layouts.{Remains, found_counted}
use Rattle.spec_demands.specs.Tables.{Pending, pending_by, still_pending, pending_after, found_after}
use Rattle.law_drives.specs.Accept.{Accepted}
use Rattle.law_checks.specs.Passed.{rebuild_passed}
use Rattle.law_drives.specs.Frame.{Agree, core, same_remaining, same_core}
use Rattle.law_drives.specs.Joins.{roomy_append, within_append}
use Rattle.law_drives.specs.Lengths.{whole_of}
use Rattle.law_drives.specs.Masks.{named_in, named_some}
use Rattle.law_drives.specs.Mended.{mended, serials-small}
use Rattle.law_drives.specs.Range.{capacity_word}
use Rattle.law_drives.specs.Rebuilding.{rebuild_roomy, rebuild_within, rebuild_agrees}
use Rattle.law_drives.specs.Segs.{Here, remaining-low, is_seg}
use Rattle.law_drives.specs.Spots.{SpotsApart}
use Rattle.law_drives.specs.Tables.{zero-at}
use Rattle.law_drives.specs.Tests.{clash, or_true_right, cond_true, cond_false}
use Rattle.law_drives.specs.Zones.{Shaped, all_fit}
use Rattle.proof_tables.specs.Outcomes.{EndedAs, outcome_ends, cut_unfinished, cut-cut}
use Rattle.proof_tables.specs.Outcomes.EndedAs.{ended-refused, ended_done, ended-cut}
use Rattle.proof_tables.specs.Run.{flies, Run}
use Rattle.proof_tables.specs.Slots.{none_flies}
use Rattle.proof_tables.specs.Starting.{memory_missing, start_checks, start_plan, Begins, start_begins}
use Rattle.proof_tables.specs.Theorem.{restart_ends}
use Rattle.proof_flights.specs.Flown.{Flights, FoundBefore, Flown}
use Rattle.proof_flights.specs.Idled.{quiet_refused, flown_still, flown-ended}
use Rattle.proof_flights.specs.Written.{run_seen-after, flown_of}
use Rattle.proof_flights.specs.RestartedViews.{counted-found, settles_parities, settles_mended}
use Rattle.spec.specs.declared.Seg.{Seg}
use Rattle.law_drives.specs.Mending.{drop_roomy, drop_within}
use Rattle.law_views.specs.Alike.{offline_after}

-- ---- a drive is missing

-- all is known where every counted stripe was found
pub flown-found : (p : Params) (off : List ℕ) (k : Disk) (m : Memory) (ws : List Pending) (old : List Segment) → (m.state.missing ≡ 0 → ⊥)
    → FoundBefore p (seen p off k) m.state.missing old → Flown p off k m ws old
flown-found p off k m ws old n f = record {
  flights = λ e. absurd (n e);
  parities = λ g s rm hs c q. clash (f g s rm hs c) q;
  all_found = λ x g s rm hs c. f g s rm hs c;
}

-- ---- restart

-- nothing flies after it
idle-flies : (p : Params) (v : View) (gone : ℕ) (fl : List ℕ) (i : ℕ) → flies (restart_memory p v gone fl).state i ≡ false
idle-flies p v gone fl i = none_flies (restart_memory p v gone fl).state i as!
  where
    as! : filled_in_of (restart_memory p v gone fl).state i ≡ 0
    as! = unfold restart_memory filled_in_of idle_state in zero-at 8 i

idle_flights : (p : Params) (v u : View) (gone : ℕ) (fl fm : List ℕ) → Flights p u (restart_memory p v gone fl).state fm []
idle_flights p v u gone fl fm = record {
  landed_is = λ i d hi f. clash f (idle-flies p v gone fl i);
  parity_full = λ i hi f. clash f (idle-flies p v gone fl i);
  parity-ready = λ i hi f. clash f (idle-flies p v gone fl i);
  pending_is = λ i hi f. clash f (idle-flies p v gone fl i);
  writes_low = λ i k hi f. clash f (idle-flies p v gone fl i);
  pending_flies = λ j hj. absurd (let bad : ⊥ = omega arith in bad);
}

module _ (p : Params) (off : List ℕ) (k : Disk) (m : Memory) (d : ℕ) (shk : Whole p k → Shaped p (seen p off k)) (b : Begins p off k m d) where
  abbrev v : View
  v = seen p off k

  abbrev plan : Plan
  plan = start_plan p off k m d

  rg : Ranged p
  rg = ranged p b.in_range!

  w : Whole p k
  w = whole_of p off k m b.lent!

  sh : Shaped p v
  sh = shk w

  start_plan_stores : plan.stores ≡ restart_stores p v (named d) (segments p v (named d))
  unfolding restart_plan
  start_plan_stores = refl

  plan_memory : plan.memory ≡ restart_memory p (store_all store_view_of plan.stores v) (named d) m.inflight
  unfolding restart_plan
  plan_memory = refl

  plan_missing : plan.memory.state.missing ≡ named d
  plan_missing = ap (λ (x : Memory). x.state.missing) plan_memory ∙ memory_missing p (store_all store_view_of plan.stores v) (named d) m.inflight

  -- it names a drive: nothing is stored
  lost-flown : eqb (named d) 0 ≡ false → Flown p off (store_all (store_disk p) plan.stores k) plan.memory [] (segments p v (named d))
  lost-flown q = subst (λ (x : Disk). Flown p off x plan.memory [] (segments p v (named d))) (sym drives_same)
      (flown-found p off k plan.memory [] (segments p v (named d)) (λ e. eqb-false (named d) 0 q (sym plan_missing ∙ e))
      (λ g s rm hs c. found g s rm c))
    where
      none! : restart_stores p v (named d) (segments p v (named d)) ≡ []
      none! = unfold restart_stores in
          cond_false (eqb (named d) 0) (drop_stores p v (segments p v (named d)) ++ flat (mend_stores p v (segments p v (named d))) (unsealed (segments p v (named d)))) [] q

      nothing : store_all (store_disk p) [] k ≡ k
      nothing = unfold store_all in refl

      drives_same : store_all (store_disk p) plan.stores k ≡ k
      drives_same = ap (λ (l : List Store). store_all (store_disk p) l k) (start_plan_stores ∙ none!) ∙ nothing

      found : (g : Seg) (s : ℕ) → Remains p v plan.memory.state.missing g → counts p plan.memory.state.missing (segment_of p v plan.memory.state.missing g) s ≡ true
          → found_counted p plan.memory.state.missing (segments p v (named d)) (segment_of p v plan.memory.state.missing g).serial s ≡ true
      found g s = subst (λ (n : ℕ). Remains p v n g → counts p n (segment_of p v n g) s ≡ true → found_counted p n (segments p v (named d)) (segment_of p v n g).serial s ≡ true)
          (sym plan_missing) (counted-found p v (named d) g s)

  -- it names none
  well_flown : named d ≡ 0 → Flown p off (store_all (store_disk p) plan.stores k) plan.memory [] (segments p v (named d))
  well_flown nd =
      let acc : Accepted p v 0 = subst (λ (g : ℕ). Accepted p v g) nd b.accepted! in
      let gs = segments p v 0 in
      let c6 = subst (λ (g : ℕ). rewrites p g (segments p v g) && eqb (greatest_serial (segments p v g)) last_count ≡ false) nd b.sixth! in
      let c8 = subst (λ (g : ℕ). rewrites p g (segments p v g) && none_free_of p v (segments p v g) ≡ false) nd b.eighth! in
      let bd = serials-small p rg v sh in
      let ds = drop_stores p v gs in
      let ts = flat (mend_stores p v gs) (unsealed gs) in
      let va = store_all store_view_of ds v in
      let u = store_all store_view_of ts va in
      let md = mended p rg v sh acc c6 c8 bd in
      let es : plan.stores ≡ ds ++ ts = start_plan_stores ∙ ap (λ (g : ℕ). restart_stores p v g (segments p v g)) nd ∙ zero! in
      let ev : seen p off (store_all (store_disk p) plan.stores k) ≡ u =
      ap (λ (l : List Store). seen p off (store_all (store_disk p) l k)) es
      ∙ view_stores p off k (ds ++ ts) (capacity_word p rg) w (all_fit p v (ds ++ ts) sh.sized (within_append p ds ts (drop_within p rg v sh acc) md.mend_within)
      (roomy_append p v ds ts sh.sized (drop_roomy p rg v sh acc) md.mend_roomy))
      ∙ store_all-append store_view_of ds ts v in
      subst (λ (x : ℕ). Flown p off (store_all (store_disk p) plan.stores k) plan.memory [] (segments p v x)) (sym nd)
      (flown_of p off (store_all (store_disk p) plan.stores k) plan.memory [] gs u ev (plan_missing ∙ nd)
      (subst (λ (x : Memory). Flights p u x.state plan.memory.inflight []) (sym plan_memory)
      (idle_flights p (store_all store_view_of plan.stores v) u (named d) m.inflight plan.memory.inflight))
      (settles_parities p rg v sh acc u (settles_mended p rg v sh acc c6 c8 bd)))
    where
      zero! : restart_stores p v 0 (segments p v 0) ≡ drop_stores p v (segments p v 0) ++ flat (mend_stores p v (segments p v 0)) (unsealed (segments p v 0))
      zero! = unfold restart_stores in refl

  start-flown : Flown p off (store_all (store_disk p) plan.stores k) plan.memory [] (segments p v (named d))
  start-flown = go (test (eqb (named d) 0))
    where
      go : Test (eqb (named d) 0) → Flown p off (store_all (store_disk p) plan.stores k) plan.memory [] (segments p v (named d))
      go (yes! q) = well_flown (eqb-true (named d) 0 q)
      go (no! q) = lost-flown q

-- after a restart that finished, on any bytes
pub flown_restart : (p : Params) (off : List ℕ) (k : Disk) (m : Memory) (d n : ℕ) → (Whole p k → Shaped p (seen p off k)) → finished (call_disk p off k m (restart d n)).answer ≡ true
    → Flown p off (call_disk p off k m (restart d n)).drives (call_disk p off k m (restart d n)).memory [] (segments p (seen p off k) (named d))
flown_restart p off k m d n sh q = go (restart_ends p off k m d n)
  where
    go : EndedAs p k m (start_checks p off k m d) (start_plan p off k m d) (call_disk p off k m (restart d n))
        → Flown p off (call_disk p off k m (restart d n)).drives (call_disk p off k m (restart d n)).memory [] (segments p (seen p off k) (named d))
    go (ended-refused a e f g h) = clash q (ap finished f ∙ refused_unfinished a (refusal_kind (start_checks p off k m d) a e))
    go (ended_done c f g h) = subst (λ (x : Disk). Flown p off x (call_disk p off k m (restart d n)).memory [] (segments p (seen p off k) (named d))) (sym g)
        (subst (λ (x : Memory). Flown p off (store_all (store_disk p) (start_plan p off k m d).stores k) x [] (segments p (seen p off k) (named d))) (sym h)
        (start-flown p off k m d sh (start_begins p off k m d c)))
    go (ended-cut c f) = clash q (ap finished f ∙ cut_unfinished)

-- a restart in a run, finished or refused
pub flown_restart_step : (p : Params) (off : List ℕ) (k : Disk) (m : Memory) (ws : List Pending) (old : List Segment) (d n : ℕ)
    → (Whole p k → Shaped p (seen p off k)) → Flown p off k m ws old → is_cut_of (call_disk p off k m (restart d n)).answer ≡ false
    → Flown p off (call_disk p off k m (restart d n)).drives (call_disk p off k m (restart d n)).memory (pending_after (restart d n) (call_disk p off k m (restart d n)).answer ws)
    (found_after p (seen p off k) (restart d n) (call_disk p off k m (restart d n)).answer old)
flown_restart_step p off k m ws old d n sh f nc = go (restart_ends p off k m d n) (test (finished (call_disk p off k m (restart d n)).answer))
  where
    r : After Disk
    r = call_disk p off k m (restart d n)

    ends! : finished r.answer ≡ true → pending_after (restart d n) r.answer ws ≡ []
    ends! q = unfold pending_after ends_run in cond_true (is_cut_of r.answer || finished r.answer) [] (still_pending (restart d n) r.answer ws ++ pending_by (restart d n) r.answer)
        (or_true_right (is_cut_of r.answer) (finished r.answer) q)

    found! : finished r.answer ≡ true → found_after p (seen p off k) (restart d n) r.answer old ≡ segments p (seen p off k) (named d)
    found! q = unfold found_after in cond_true (finished r.answer) (segments p (seen p off k) (named d)) old q

    old! : finished r.answer ≡ false → found_after p (seen p off k) (restart d n) r.answer old ≡ old
    old! q = unfold found_after in cond_false (finished r.answer) (segments p (seen p off k) (named d)) old q

    go : EndedAs p k m (start_checks p off k m d) (start_plan p off k m d) (call_disk p off k m (restart d n)) → Test (finished (call_disk p off k m (restart d n)).answer)
        → Flown p off (call_disk p off k m (restart d n)).drives (call_disk p off k m (restart d n)).memory (pending_after (restart d n) (call_disk p off k m (restart d n)).answer ws)
        (found_after p (seen p off k) (restart d n) (call_disk p off k m (restart d n)).answer old)
    go x (yes! q) =
        subst (λ (l : List Pending). Flown p off r.drives r.memory l (found_after p (seen p off k) (restart d n) r.answer old)) (sym (ends! q))
        (subst (λ (l : List Segment). Flown p off r.drives r.memory [] l) (sym (found! q)) (flown_restart p off k m d n sh q))
    go (ended-refused a e ea ek em) (no! q) =
        subst (λ (l : List Segment). Flown p off r.drives r.memory (pending_after (restart d n) r.answer ws) l) (sym (old! q))
        (flown_still p off k m ws old f (restart d n) r ek em (quiet_refused r.answer (ap is_refused ea ∙ refusal_kind (start_checks p off k m d) a e)))
    go (ended_done c ea ek em) (no! q) = clash (ap finished ea ∙ done!) q
      where
        done! : finished (start_plan p off k m d).answer ≡ true
        done! = unfold restart_plan finished kind in refl
    go (ended-cut c ea) (no! q) = clash (ap is_cut_of ea ∙ cut-cut) nc

-- ---- rebuild

-- what counts, and under which serial, is seen on the drives that are present
core-counts : (p : Params) (gone : ℕ) (g : Segment) (s : ℕ) → counts p gone g s ≡ counts p gone (core g) s
unfolding core counts has_chunk recs_on
core-counts p gone g s = refl

serial_core : (g : Segment) → g.serial ≡ (core g).serial
unfolding core
serial_core g = refl

found_agrees : (p : Params) (gone : ℕ) (v u : View) (old : List Segment) → Here p gone → Agree p gone v u → v.offline ≡ u.offline
    → FoundBefore p v gone old → FoundBefore p u gone old
found_agrees p gone v u old low ag fo f g s rm hs c =
    let er = same_remaining p gone v u low ag fo in
    let rv : Remains p v gone g = ap (any (same_seg g)) er ∙ rm in
    let ec = same_core p gone v u low ag fo g (remaining-low p v gone low g (is_seg g (remaining p v gone) rv)) in
    let sx = segment_of p v gone g in
    let sy = segment_of p u gone g in
    let es : sx.serial ≡ sy.serial = serial_core sx ∙ ap (λ (x : Segment). x.serial) ec ∙ sym (serial_core sy) in
    let cx : counts p gone sx s ≡ true = core-counts p gone sx s ∙ ap (λ (x : Segment). counts p gone x s) ec ∙ sym (core-counts p gone sy s) ∙ c in
    ap (λ (n : ℕ). found_counted p gone old n s) (sym es) ∙ f g s rv hs cx

module _ (p : Params) (off : List ℕ) (k : Disk) (m : Memory) (u : Run p off k m) (d : ℕ) where
  abbrev plan' : Plan
  plan' = mk_plan (rebuild_stores p (seen p off k) d (segments p (seen p off k) (named d))) Rebuilt m []

  rebuild_ends : (n : ℕ) → EndedAs p k m (rebuild_checks p (lent_ok_of p off k m) (seen p off k) m d (segments p (seen p off k) (named d))) plan' (call_disk p off k m (rebuild d n))
  unfolding call_disk call_on verdict store_count lent_block rebuild_verdict
  rebuild_ends n = outcome_ends p k m (rebuild_checks p (lent_ok_of p off k m) (seen p off k) m d (segments p (seen p off k) (named d))) plan' n []

  -- it is of the missing drive
  rebuild_names : first_refusal (rebuild_checks p (lent_ok_of p off k m) (seen p off k) m d (segments p (seen p off k) (named d))) ≡ none → (d < p.N) × (m.state.missing ≡ named d)
  rebuild_names e = let c = rebuild_passed p (lent_ok_of p off k m) (seen p off k) m d (segments p (seen p off k) (named d)) e in (c.drive_low, c.names)

  rebuilt-flown : d < p.N → m.state.missing ≡ named d → (ws qs : List Pending) (old : List Segment) → Flown p off k m ws old
      → Flown p off (store_all (store_disk p) plan'.stores k) m qs old
  rebuilt-flown hd q ws qs old f =
      let rg = ranged p u.base.ranged in
      let gone = m.state.missing in
      let v = seen p off k in
      let v' = store_all store_view_of plan'.stores v in
      let sh = u.base.shaped in
      let lost = named_in p rg d hd in
      let ap! : SpotsApart p v (named d) = subst (λ (y : ℕ). SpotsApart p v y) q u.base.apart in
      let ev : seen p off (store_all (store_disk p) plan'.stores k) ≡ v' =
      run_seen-after p off k m u plan'.stores (rebuild_roomy p rg v sh d hd lost ap!) (rebuild_within p rg v sh d hd lost ap!) in
      let ag : Agree p gone v v' = subst (λ (y : ℕ). Agree p y v v') (sym q) (rebuild_agrees p rg v sh d hd lost ap!) in
      let n : gone ≡ 0 → ⊥ = λ e. eqb-false (named d) 0 (named_some p rg d hd) (sym q ∙ e) in
      flown-found p off (store_all (store_disk p) plan'.stores k) m qs old n
      (subst (λ (y : View). FoundBefore p y gone old) (sym ev) (found_agrees p gone v v' old u.base.low_here ag (sym (offline_after plan'.stores v)) (f.all_found n)))

-- what holds of the flights holds after an uncut rebuild
pub flown_rebuild : (p : Params) (off : List ℕ) (k : Disk) (m : Memory) (ws : List Pending) (old : List Segment) (d n : ℕ) → Run p off k m → Flown p off k m ws old
    → is_cut_of (call_disk p off k m (rebuild d n)).answer ≡ false
    → Flown p off (call_disk p off k m (rebuild d n)).drives (call_disk p off k m (rebuild d n)).memory (pending_after (rebuild d n) (call_disk p off k m (rebuild d n)).answer ws) old
flown_rebuild p off k m ws old d n u f nc =
    let gs = segments p (seen p off k) (named d) in
    flown-ended p off k m ws old f (rebuild d n) (rebuild_checks p (lent_ok_of p off k m) (seen p off k) m d gs) (mk_plan (rebuild_stores p (seen p off k) d gs) Rebuilt m [])
    (call_disk p off k m (rebuild d n))
    (λ c. let (hd, q) = rebuild_names p off k m u d c in rebuilt-flown p off k m u d hd q ws (pending_after (rebuild d n) Rebuilt ws) old f) nc (rebuild_ends p off k m u d n)
