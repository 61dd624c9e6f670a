-- In a run that a finished restart began the state fits its bytes, whatever blocks are written: headers, records and footers hold bytes. Assumes nothing.
use Rattle.std.specs.Prelude.{◌≡◌, false, ℕ, ◌^◌, ◌<◌}
use Rattle.std.proofs.Math.Path.{refl, sym, subst}
use Rattle.std.proofs.Common.{ap, ◌∙◌}
use mathlib.Core.List.{List, [], ◌++◌}
use Rattle.std.proofs.Math.Logic.{⊎_elim}
use Rattle.std.proofs.Math.Dec.{eqb}
use Rattle.spec.specs.Lists.Opt.{none}
use Rattle.spec.specs.Calls.{first_refusal}
use Rattle.spec.specs.declared.Params.{Params}
use Rattle.spec.specs.Drives.{View, Store, store_view_of, Disk, store_disk, store_all}
use Rattle.spec.specs.Engine.{Call, lent_ok_of}
use Rattle.spec.specs.Engine.Call.{write, land, close, reclaim, read, fill, restart, rebuild}
use Rattle.spec.specs.Lists.{flat}
use Rattle.spec.specs.Memory.{Memory, state_sections, idle_state}
use Rattle.spec.specs.Params.{named}
use Rattle.spec.specs.Restart.{drop_stores, mend_stores, restart_stores, restart_memory, restart_plan}
use Rattle.spec.specs.Segments.{segments, unsealed, candidates, greatest_stamp, greatest_serial}
use Rattle.law_basic.specs.Geometry.{Ranged, ranged}
use Rattle.law_views.specs.Views.{Whole, seen}
use Rattle.law_drives.specs.Lengths.{whole_of}
use Rattle.law_drives.specs.Masks.{named_some}
use Rattle.law_drives.specs.Tests.{cond_false}
use Rattle.law_drives.specs.Zones.{Shaped}
use Rattle.proof_tables.specs.Restarting.{run-started}
use Rattle.proof_tables.specs.Run.{LostDrive, Well, Run}
use Rattle.proof_tables.specs.Starting.{memory_missing, start_checks, start_plan, start_begins}
use Rattle.proof_bytes.specs.Sections.{StateFits}
use Rattle.proof_bytes.specs.Reads.{grounded_reads, shaped_grounded, stamps_low, serials-low}
use Rattle.proof_bytes.specs.Fitted.{idle_fits}
use Rattle.proof_bytes.specs.Kept.{RestartFits}

module _ (p : Params) (off : List ℕ) (k : Disk) (m : Memory) (d : ℕ) where
  abbrev v : View
  v = seen p off k

  abbrev ss : List Store
  ss = restart_stores p v (named d) (segments p v (named d))

  -- a drive is missing: nothing is stored
  lost_fits : Ranged p → Shaped p v → eqb (named d) 0 ≡ false → StateFits (restart_memory p (store_all store_view_of ss v) (named d) m.inflight).state
  unfolding state_sections
  lost_fits r sh q =
      let h = grounded_reads p v (shaped_grounded p v sh) in
      subst (λ (u : View). StateFits (restart_memory p u (named d) m.inflight).state) (sym (ap (λ (l : List Store). store_all store_view_of l v) none! ∙ same))
      (idle_fits p r v d m.inflight (stamps_low p v h (named d)) (serials-low p v h (named d)))
    where
      none! : restart_stores p v (named d) (segments p v (named d)) ≡ []
      none! = unfold restart_stores in
          cond_false (eqb (named d) 0) (drop_stores p v (segments p v (named d)) ++ flat (mend_stores p v (segments p v (named d))) (unsealed (segments p v (named d)))) [] q

      same : store_all store_view_of [] v ≡ v
      same = unfold store_all in refl

  -- none is missing: what holds after the restart bounds stamp and serial
  well_fits : Ranged p → (k' : Disk) → Well p off k' (restart_memory p (store_all store_view_of ss v) (named d) m.inflight)
      → StateFits (restart_memory p (store_all store_view_of ss v) (named d) m.inflight).state
  unfolding state_sections
  well_fits r k' w = idle_fits p r (store_all store_view_of ss v) d m.inflight (stamp! w.healthy.stamp_fits) (serial! w.healthy.serial_fits)
    where
      u : View
      u = store_all store_view_of ss v

      stamp! : (restart_memory p u (named d) m.inflight).state.stamp.0 < 256 ^ 8 → greatest_stamp (candidates p (named d) (segments p u (named d))) < 256 ^ 8
      stamp! x = unfold restart_memory idle_state in x

      serial! : (restart_memory p u (named d) m.inflight).state.serial.0 < 256 ^ 8 → greatest_serial (segments p u (named d)) < 256 ^ 8
      serial! x = unfold restart_memory idle_state in x

  -- on drives whose headers, records and footers hold bytes
  pub restart_shaped : (Whole p k → Shaped p v) → first_refusal (start_checks p off k m d) ≡ none → StateFits (start_plan p off k m d).memory.state
  unfolding restart_plan
  restart_shaped sh c =
      let b = start_begins p off k m d c in
      let r = ranged p b.in_range! in
      go r (sh (whole_of p off k m b.lent!)) (run-started p off k m d sh b)
    where
      go : Ranged p → Shaped p v → Run p off (store_all (store_disk p) (start_plan p off k m d).stores k) (start_plan p off k m d).memory → StateFits (start_plan p off k m d).memory.state
      go r s u = ⊎_elim
          (λ (x : LostDrive p off (store_all (store_disk p) (start_plan p off k m d).stores k) (start_plan p off k m d).memory).
          let e : named x.which ≡ named d = sym x.names_it ∙ memory_missing p (store_all store_view_of ss v) (named d) m.inflight in
          lost_fits r s (ap (λ (n : ℕ). eqb n 0) (sym e) ∙ named_some p r x.which x.which_low))
          (λ (x : Well p off (store_all (store_disk p) (start_plan p off k m d).stores k) (start_plan p off k m d).memory). well_fits r (store_all (store_disk p) (start_plan p off k m d).stores k) x)
          u.mode

-- every call of a run
pub run_restart : (p : Params) (off : List ℕ) (k : Disk) (m : Memory) (c : Call) → (Whole p k → Shaped p (seen p off k)) → RestartFits p (lent_ok_of p off k m) (seen p off k) m c
run_restart p off k m (write a b n) sh = tt
run_restart p off k m (land d s n) sh = tt
run_restart p off k m (close n) sh = tt
run_restart p off k m (reclaim n) sh = tt
run_restart p off k m (read a) sh = tt
run_restart p off k m (fill a b) sh = tt
run_restart p off k m (restart d n) sh = λ q. restart_shaped p off k m d sh q
run_restart p off k m (rebuild d n) sh = tt
