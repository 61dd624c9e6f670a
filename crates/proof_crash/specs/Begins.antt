-- A finished healthy restart begins a run, with the ghost of what it read. Assumes nothing.
use Rattle.std.specs.Prelude.{◌≡◌, List, map, Bool, true, false, not, ℕ, eqb, length, ◌≢◌, ◌<◌}
use Rattle.std.proofs.Math.Path.{refl}
use Rattle.std.proofs.Common.{sym, ap, ◌∙◌, subst, ⊎_elim, eq-eqb, ne_eqb, arith, inl, inr}
use Rattle.spec.specs.declared.Params.{Params}
use Rattle.spec.specs.Drives.{View}
use Rattle.spec.specs.History.{Send, forget}
use Rattle.spec.specs.Memory.{idle_state}
use Rattle.spec.specs.Restart.{open_of_of, next_of, restart_memory}
use Rattle.spec.specs.Segments.{Segment, segments, candidates, address_table, greatest_stamp, greatest_serial, unsealed}
use Rattle.law_basic.specs.Geometry.{Ranged}
use Rattle.law_drives.specs.Tests.{clash}
use Rattle.proof_crash_machine.specs.Facts.{Ghost, InV, None, Used}
use Rattle.proof_crash_machine.specs.Finish.{up_to, up_to_le, finishing}
use Rattle.proof_crash_machine.specs.History.{Mode}
use Rattle.proof_crash_machine.specs.History.Mode.{run}
use Rattle.proof_crash_machine.specs.Memory.{Mem}
use Rattle.proof_crash_machine.specs.Memory2.{rest_mem}
use Rattle.proof_crash_machine.specs.Order.{Track}
use Rattle.proof_crash_machine.specs.Val.{Val}
use Rattle.proof_crash_items.specs.Segs.{OnDrives}
use Rattle.proof_crash_items.specs.Ranges.{par_of}
use Rattle.proof_crash_restarts.specs.Done.{stamp_top, serial_top, read_on, RestartDone}
use Rattle.proof_crash_restarts.specs.Ends.{Opened}
use Rattle.proof_crash_calls.specs.Held.{TableOk}
use Rattle.proof_crash_calls.specs.Live.{Reached, Live}
use Rattle.proof_crash_calls.proofs.Places.{table_said}
use Rattle.proof_crash_calls.specs.Rel.{Rel}
use Rattle.proof_crash_calls.proofs.Restarted.{stamps_fit, serials_fit, Finds}
use Rattle.proof_crash_calls.specs.Rested.{rest_rel}
use Rattle.proof_crash_calls.proofs.Resumed.{reached_to, reached_forget}
use Rattle.proof_crash_calls.proofs.Sends.{length-forget, forget_waits}
use Rattle.proof_crash_items.specs.Carry.{tie_on}
use Rattle.proof_crash_machine.specs.View.{ItemView}

opened_finds : (p : Params) (h : Ranged p) (off : List ℕ) (g : Ghost) (v : View) (u : ItemView) (b : Bool) (z n : ℕ) → OnDrives p h off g v u → None (par_of p h off) g.un
    → Opened p h off g v u b z n → Finds p v u b z n
opened_finds p h off g v u b z n on none o =
    record {
      is = ⊎_elim (λ (q : (b ≡ true) × (open_of_of (unsealed (segments p v 0)) ≡ z) × (next_of p (unsealed (segments p v 0)) ≡ n)). inl (q.0, q.1, some q.0, q.2))
          (λ (q : (b ≡ false) × (open_of_of (unsealed (segments p v 0)) ≡ 0)). inr q) o.is;
      less = o.less;
      full = o.full;
    }
  where
    first : 0 < p.N
    first = omega (arith, h.drives_low)

    -- a serial is greater than the one that it names as copied
    some : b ≡ true → z ≢ 0
    some e q =
        let used : Used (par_of p h off) g.un u z = (0, (first, none 0 first), o.whole e 0 first (none 0 first)) in
        let l : g.hd.cop z < g.hd.ser z = on.facts.swap.below z used in
        let i : g.hd.ser z ≡ z = on.placed.is z used in
        let j : ⊥ = omega (arith, l, i, q) in j

module _ (p : Params) (h : Ranged p) (off : List ℕ) (v : View) (w : ItemView) (ss : List Send) (n : ℕ) (g : Ghost) (a : List Val) (c : Bool) (m : Mode) (T : Track)
    (r : Reached p h off v w ss n g a c m T)
    (u : View) (D : RestartDone p h off g a c u) (fl : List ℕ) where
  abbrev pub done_ghost : Ghost
  done_ghost = finishing D.g' D.g'.un (read_on p h off D.g' u D.u D.set) (stamp_top p u) (up_to (stamp_top p u) D.g'.sent)

  fewer? : (x : Val) → InV x (up_to (stamp_top p u) D.g'.sent) → InV x g.sent
  fewer? x i = subst (λ (l : List Val). InV x l) D.same.sent (up_to_le (stamp_top p u) D.g'.sent x i).0

  top_is : stamp_top p u ≡ greatest_stamp (candidates p 0 (segments p u 0))
  top_is = unfold stamp_top in refl

  serial_top_is : serial_top p u ≡ greatest_serial (segments p u 0)
  serial_top_is = unfold serial_top in refl

  abbrev t : ℕ
  t = greatest_stamp (candidates p 0 (segments p u 0))

  abbrev sr : ℕ
  sr = greatest_serial (segments p u 0)

  abbrev us : List Segment
  us = unsealed (segments p u 0)

  abbrev M : Mem
  M = rest_mem D.b D.z D.n t sr

  reached₁ : Reached p h off u D.u (map forget ss) (length ss) done_ghost a false (run M) T
  reached₁ = subst (λ (t : ℕ). Reached p h off u D.u (map forget ss) (length ss) done_ghost a false (run (rest_mem D.b D.z D.n t (greatest_serial (segments p u 0)))) T) top_is
      (subst (λ (t : ℕ). Reached p h off u D.u (map forget ss) (length ss) done_ghost a false (run (rest_mem D.b D.z D.n (stamp_top p u) t)) T) serial_top_is
      (reached_to p h off v w (map forget ss) n g a c m T (reached_forget p h off v w ss n g a c m T r)
      u D.u done_ghost false (run (rest_mem D.b D.z D.n (stamp_top p u) (serial_top p u))) (length ss)
      D.linked.inv D.linked.tie fewer? (omega (arith, length-forget ss)) (λ e. refl)))

  f : Finds p u D.u D.b D.z D.n
  f = opened_finds p h off D.g' u D.u D.b D.z D.n D.set.on D.set.none D.opened

  none? : None (par_of p h off) done_ghost.un
  none? = D.set.none

  on : OnDrives p h off done_ghost u D.u
  on = tie_on p h off done_ghost u D.u reached₁.tie reached₁.inv.facts

  begun_open_is : D.b ≡ not (eqb (open_of_of us) 0)
  begun_open_is = ⊎_elim
      (λ (q : (D.b ≡ true) × (open_of_of us ≡ D.z) × (D.z ≢ 0) × (next_of p us ≡ D.n)). q.0 ∙ sym (ap not (ne_eqb (open_of_of us) 0 (λ e. q.2 (sym q.1 ∙ e)))))
      (λ (q : (D.b ≡ false) × (open_of_of us ≡ 0)). q.0 ∙ sym (ap not (eq-eqb (open_of_of us) 0 q.1))) f.is

  begun_open_as : D.b ≡ true → (open_of_of us ≡ D.z) × (D.n ≡ next_of p us)
  begun_open_as e = ⊎_elim (λ (q : (D.b ≡ true) × (open_of_of us ≡ D.z) × (D.z ≢ 0) × (next_of p us ≡ D.n)). (q.1, sym q.3))
      (λ (q : (D.b ≡ false) × (open_of_of us ≡ 0)). clash e q.0) f.is

  rel? : Rel p D.u (idle_state 1 0 t sr (open_of_of us) (next_of p us)) fl M
  rel? = rest_rel p D.u fl 1 t sr (open_of_of us) (next_of p us) D.b D.z D.n (stamps_fit p h off done_ghost u D.u on none?) (serials_fit p h off done_ghost u D.u on none?)
      begun_open_is (λ e. (begun_open_as e).0) (λ e. (begun_open_as e).1) (λ e q. let w : ⊥ = omega (arith, f.less e, q) in w) f.full

  table? : TableOk p h off done_ghost D.u (address_table p (candidates p 0 (segments p u 0)))
  table? = table_said p h off done_ghost u D.u on none? (address_table p (candidates p 0 (segments p u 0))) refl a false (run M) reached₁.inv

  pub begins : (x : Live p h off u (restart_memory p u 0 fl).state (restart_memory p u 0 fl).inflight (restart_memory p u 0 fl).addresses (map forget ss) (length ss)) × (x.g ≡ done_ghost)
  unfolding restart_memory
  begins = (
    record {
      g = done_ghost;
      u = D.u;
      a = a;
      c = false;
      M = M;
      T = T;
      reached = reached₁;
      rel = rel?;
      waits = λ j l q. clash q (forget_waits ss j l);
      table = table?;
    },
    refl,
  )
