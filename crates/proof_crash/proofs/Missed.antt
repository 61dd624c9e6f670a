-- A restart that names a drive missing, whatever that drive holds: it finishes, and reads what it should. Assumes nothing.
use Rattle.std.specs.Prelude.{◌≡◌, Bool, true, false, ℕ, ◌<◌, leb, eqb, length}
use Rattle.std.proofs.Math.Path.{refl, ap}
use Rattle.std.proofs.Common.{sym, ◌∙◌, subst, inr, le-leb, arith}
use mathlib.Core.List.{List, [], ◌++◌, map}
use Rattle.spec.specs.declared.Params.{Params}
use Rattle.spec.specs.declared.Answer.TheVariants.{Restarted}
use Rattle.spec.specs.Answers.{is_refused_as}
use Rattle.spec.specs.Calls.{mk_plan, mk_after, limited}
use Rattle.spec.specs.Drives.{View, zone_at, Store, store_view_of, Disk, store_disk, store_all, view_of}
use Rattle.spec.specs.Engine.Call.{restart}
use Rattle.spec.specs.Engine.{call_disk}
use Rattle.spec.specs.History.{mk_world, in_order_of, forget, Hist, names_all, seen_at}
use Rattle.spec.specs.Lists.Opt.{some}
use Rattle.spec.specs.Lists.{flat, is_in}
use Rattle.spec.specs.Memory.{Memory}
use Rattle.spec.specs.Params.{named}
use Rattle.spec.specs.Restart.{drop_stores, mend_stores, restart_stores, restart_memory, report_of, names_drive, restart_plan}
use Rattle.spec.specs.Segments.{segments, unsealed}
use Rattle.law_basic.specs.Geometry.{Ranged}
use Rattle.law_views.specs.Views.{Whole, seen}
use Rattle.law_drives.specs.Tests.{cond_false}
use Rattle.proof_crash_machine.specs.Facts.{Ghost, Choice, self}
use Rattle.proof_crash_machine.specs.Finish.{finishing}
use Rattle.proof_crash_machine.specs.History.Mode.{ro}
use Rattle.proof_crash_machine.specs.Rebuild.{with_un}
use Rattle.proof_crash_items.specs.Named.{named_not_zero, named_self}
use Rattle.proof_crash_items.specs.Ranges.{par_of}
use Rattle.proof_crash_items.specs.Reading.{Tabled}
use Rattle.proof_crash_items.specs.RestMem.{restart_tabled, restart_lent, named_mask_low, ones_named}
use Rattle.proof_crash_items.specs.Seen.{shape_seen}
use Rattle.proof_crash_items.specs.Segs.{OnDrives}
use Rattle.proof_crash_items.specs.Shape.{Shape}
use Rattle.proof_crash_restarts.specs.Link.{Linked}
use Rattle.proof_crash_restarts.specs.Missing.{stamps_top_lem, missing_on_holds, missing_read, missing_linked, missing_claim}
use Rattle.proof_crash_calls.specs.Readings.{Shows}
use Rattle.proof_crash_calls.proofs.Resumed.{reached_to, reached_forget, shows_read}
use Rattle.proof_crash.specs.Asked.{asked_parts, boot-is, boot_lent, boot_listed}
use Rattle.proof_crash.proofs.Boot.{Booted, stands_linked, stands_known, boot_done}
use Rattle.proof_crash.specs.Stand.{Stands, Holds, hist}
use Rattle.proof_crash.proofs.Stand.{named_choice}
use Rattle.proof_crash.specs.Stand.Holds.{rests}

module _ (p : Params) (h : Ranged p) (off : List ℕ) (s : Hist) (n : ℕ) (x : Stands p h off s n) where
  abbrev v₀ : View
  v₀ = seen p off s.world.disk

  -- ---- a drive is named missing
  module _ (k : Disk) (wk : Whole p k) (mem : Memory) (d c : ℕ) (dl : d < p.N)
      (same : (e y : ℕ) → e < p.N → is_in (named d) e ≡ false → zone_at (seen p off k) e y ≡ zone_at (seen p off s.world.disk) e y)
      (us : names_all s.untrusted (some d) ≡ true) (ord : in_order_of p off (mk_world k mem) d ≡ true) (al : is_refused_as 6 (call_disk p off k mem (restart d c)).answer ≡ false) where
    choice_missed : Choice (par_of p h off) x.g.un (is_in (named d))
    choice_missed = named_choice p h off s.untrusted d x.g.un x.trust us

    abbrev lost : (e : ℕ) × (e < p.N) × (is_in (named d) e ≡ true)
    lost = (d, dl, named_self p h d dl)

    abbrev g_m : Ghost
    g_m = with_un x.g (is_in (named d))

    abbrev me : Choice (par_of p h off) (is_in (named d)) (is_in (named d))
    me = self (par_of p h off) (is_in (named d)) choice_missed.0

    abbrev u : View
    u = seen p off k

    abbrev sh : Shape p u
    sh = shape_seen p off k wk

    list-kept : (seen p off k).offline ≡ off
    list-kept = unfold view_of in refl

    abbrev on : OnDrives p h off g_m (seen p off k) x.u
    on = missing_on_holds p h off (seen p off s.world.disk) (seen p off k) x.u x.u x.g x.a x.c x.m (stands_linked p h off s n x) (named d) lost choice_missed
        (shape_seen p off k wk) list-kept same (λ e y l q. refl)

    abbrev K : ℕ → ℕ
    K = missing_read p h off (seen p off s.world.disk) (seen p off k) x.u x.u x.g x.a x.c x.m (stands_linked p h off s n x) (named d) lost choice_missed
        (shape_seen p off k wk) list-kept same (λ e y l q. refl)

    abbrev m' : Memory
    m' = restart_memory p (seen p off k) (named d) mem.inflight

    nm : names_drive p d ≡ true
    nm = (asked_parts p h off k mem d c g_m x.u on (stands_known p h off s n x) me ord al).1

    tab : Tabled p u (named d) m'
    tab = restart_tabled p h off g_m u x.u on (named d) me (named_mask_low p h d nm) (ones_named d) mem.inflight

    missed_shows : (i : ℕ) → i < p.L → Shows p x.g.sent K i (seen_at p off (mk_world k m') i)
    missed_shows i l =
        unfold missing_read in shows_read p h off g_m k x.u wk on (stands_known p h off s n x) (named d) me m' tab
        (asked_parts p h off k mem d c g_m x.u on (stands_known p h off s n x) me ord al).0
        (restart_lent p h off g_m u x.u on (named d) me (named_mask_low p h d nm) (ones_named d) mem.inflight k wk
        (boot_listed p h off k mem d c g_m x.u on (stands_known p h off s n x) me ord al) (boot_lent p h off k mem d c g_m x.u on (stands_known p h off s n x) me ord al))
        (asked_parts p h off k mem d c g_m x.u on (stands_known p h off s n x) me ord al).3 i l

    abbrev g' : Ghost
    g' = finishing x.g (is_in (named d)) K (stamps_top_lem x.g.sent) x.g.sent

    lk' : Linked p h off u x.u g' x.a false ro
    lk' = missing_linked p h off (seen p off s.world.disk) u x.u x.u x.g x.a x.c x.m (stands_linked p h off s n x) (named d) lost choice_missed sh list-kept same
        (λ e y l q. refl)

    missed_holds : Holds p h off (hist (mk_world k m') (map forget s.sends) (named d) (some (record { world = mk_world k m'; sent_then = length (map forget s.sends) })))
    missed_holds = rests (length (map forget s.sends)) (record {
      g = g';
      u = x.u;
      a = x.a;
      c = false;
      m = ro;
      T = x.T;
      whole = wk;
      reached =
          reached_to p h off v₀ x.u (map forget s.sends) n x.g x.a x.c x.m x.T
          (reached_forget p h off v₀ x.u s.sends n x.g x.a x.c x.m x.T x.reached) u x.u g' false ro (length (map forget s.sends))
          lk'.inv lk'.tie (λ y i. i) (omega arith) (λ e. refl);
      trust = λ e l. refl;
      mark = (refl, missed_shows);
    }) (inr (d, dl, tab.missing, me))

    missed_no_stores : restart_stores p (seen p off k) (named d) (segments p (seen p off k) (named d)) ≡ []
    missed_no_stores =
        unfold restart_stores in cond_false (eqb (named d) 0)
        (drop_stores p u (segments p u (named d)) ++ flat (mend_stores p u (segments p u (named d))) (unsealed (segments p u (named d)))) []
        (named_not_zero d (omega (arith, dl, h.drives_high)))

    pub boot_missing : Booted p h off s (restart d c) (call_disk p off k mem (restart d c))
    boot_missing = subst (Booted p h off s (restart d c)) (sym (boot-is p h off k mem d c g_m x.u on (stands_known p h off s n x) me ord al ∙ is))
        (boot_done p h off s n x (mk_world k m') (is_in (named d)) choice_missed.0 K
        (missing_claim p h off (seen p off s.world.disk) u x.u x.u x.g x.a x.c x.m (stands_linked p h off s n x)
        (named d) lost choice_missed sh list-kept same (λ e y l q. refl)) missed_shows d c
        (report_of p (named d) (segments p u (named d))) k m' [] refl missed_holds)
      where
        is :
            limited (leb (length (restart_stores p (seen p off k) (named d) (segments p u (named d)))) c) p (store_disk p) c k mem []
            (restart_plan p u d (segments p u (named d)) mem.inflight)
            ≡ mk_after (Restarted (report_of p (named d) (segments p u (named d)))) k m' []
        is = unfold restart_plan in (
            ap (λ (l : List Store). limited (leb (length l) c) p (store_disk p) c k mem []
            (mk_plan l (Restarted (report_of p (named d) (segments p u (named d))))
            (restart_memory p (store_all store_view_of l u) (named d) mem.inflight) [])) missed_no_stores
            ∙ ap (λ (b : Bool). limited b p (store_disk p) c k mem []
            (mk_plan [] (Restarted (report_of p (named d) (segments p u (named d))))
            (restart_memory p (store_all store_view_of [] u) (named d) mem.inflight) [])) (le-leb 0 c (omega arith))
            ∙ (unfold limited store_all in refl))
