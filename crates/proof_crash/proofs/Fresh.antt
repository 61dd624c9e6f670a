-- A restart with none missing: wherever it is cut, and where it ends. Assumes nothing.
use Rattle.std.specs.Prelude.{◌≡◌, Bool, true, ◌&&◌, ℕ, ◌≤◌, ◌<◌, ◌^◌, leb, eqb, length, take}
use Rattle.std.proofs.Math.Path.{refl, subst}
use Rattle.std.proofs.Common.{sym, ap, ◌∙◌, inl, inr, ⊎_elim, arith}
use mathlib.Core.List.{List, [], map}
use Rattle.std.proofs.Math.Bool.{false}
use Rattle.std.specs.Int.Count.{ones}
use Rattle.spec.specs.declared.Params.{Params}
use Rattle.spec.specs.declared.Answer.TheVariants.{Cut, Restarted}
use Rattle.spec.specs.Answers.{is_refused_as}
use Rattle.spec.specs.Calls.{mk_after, cut_memory, limited, After, mk_plan}
use Rattle.spec.specs.Counts.{last_count}
use Rattle.spec.specs.Drives.{View, Store, store_view_of, Disk, store_disk, store_all}
use Rattle.spec.specs.Engine.Call.{restart}
use Rattle.spec.specs.Engine.{call_disk}
use Rattle.spec.specs.History.{mk_world, in_order_of, forget, Hist, names_all, seen_at}
use Rattle.spec.specs.History.Seen.{unwritten}
use Rattle.spec.specs.Lists.Opt.{some}
use Rattle.spec.specs.Memory.{Memory}
use Rattle.spec.specs.Params.{in_range, no_drive, named}
use Rattle.spec.specs.Restart.{restart_stores, restart_memory, report_of, names_drive, rewrites, restart_plan}
use Rattle.spec.specs.Segments.{Segment, segments, greatest_serial}
use Rattle.spec.specs.Lists.{is_in}
use Rattle.law_basic.specs.Geometry.{Ranged}
use Rattle.law_views.specs.Views.{Whole, seen}
use Rattle.proof_crash_machine.specs.Facts.{Ghost, InV, Choice, Counted, None}
use Rattle.proof_crash_machine.specs.Finish.{Reads, up_to, in_up_to}
use Rattle.proof_crash_machine.specs.History.Mode.{off as m-off}
use Rattle.proof_crash_machine.specs.Val.{Val}
use Rattle.proof_crash_machine.specs.Mask.{Mask}
use Rattle.proof_crash_items.specs.Named.{none_named, zero_few}
use Rattle.proof_crash_items.specs.Ranges.{par_of}
use Rattle.proof_crash_items.specs.RestMem.{restart_tabled, restart_lent, named_mask_low, ones_named}
use Rattle.proof_crash_items.specs.Seen.{seen_stores, seen-cut, whole_all, whole_cut}
use Rattle.proof_crash_items.specs.Segs.{OnDrives}
use Rattle.proof_crash_items.specs.Sound.{AllSound}
use Rattle.proof_crash_restarts.specs.Done.{stamp_top, read_on, RestartDone}
use Rattle.proof_crash_restarts.specs.Ends.{none_choice, ends_reads, ends_stamps}
use Rattle.proof_crash_restarts.specs.Healthy.{healthy, healthy_sound}
use Rattle.proof_crash_restarts.specs.Link.{linked_on, CutTo}
use Rattle.proof_crash_restarts.specs.Runs.{Always}
use Rattle.proof_crash_calls.specs.Live.{Reached, Live}
use Rattle.proof_crash_calls.specs.Readings.{ShowsBlock, Shows, MarkShows, shows_more}
use Rattle.proof_crash_calls.proofs.Resumed.{reached_to, reached_forget, shows_read}
use Rattle.proof_crash_calls.proofs.Sends.{length-forget}
use Rattle.proof_crash.specs.Stand.Holds.{goes, rests}
use Rattle.proof_crash.specs.Asked.{asked_parts, boot_six, boot-is, boot_lent, boot_listed}
use Rattle.proof_crash.specs.Begins.{done_ghost, begins}
use Rattle.proof_crash.proofs.Boot.{Booted, stands_linked, stands_known, boot_done, boot-cut}
use Rattle.proof_crash.specs.Stand.{Stands, Holds, hist}
use Rattle.proof_crash.proofs.Stand.{mark_moves, none_trust, named_choice, none_choice_none}

module _ (p : Params) (h : Ranged p) (off : List ℕ) (s : Hist) (n : ℕ) (x : Stands p h off s n) where
  abbrev v₀ : View
  v₀ = seen p off s.world.disk

  -- ---- none is missing
  module _ (mem : Memory) (c : ℕ) (us : names_all s.untrusted (some no_drive) ≡ true) (ord : in_order_of p off (mk_world s.world.disk mem) no_drive ≡ true)
      (al : is_refused_as 6 (call_disk p off s.world.disk mem (restart no_drive c)).answer ≡ false) where
    abbrev k₀ : Disk
    k₀ = s.world.disk

    abbrev gs : List Segment
    gs = segments p (seen p off s.world.disk) 0

    ch : Choice (par_of p h off) x.g.un (is_in (named no_drive))
    ch = named_choice p h off s.untrusted no_drive x.g.un x.trust us

    none? : None (par_of p h off) x.g.un
    none? = none_choice_none p h off x.g.un ch

    on₀ : OnDrives p h off x.g (seen p off s.world.disk) x.u
    on₀ = linked_on p h off v₀ x.u x.g x.a x.c x.m (stands_linked p h off s n x)

    abbrev ss : List Store
    ss = restart_stores p (seen p off s.world.disk) 0 (segments p (seen p off s.world.disk) 0)

    six : (rewrites p 0 gs && eqb (greatest_serial gs) last_count) ≡ false
    six = subst (λ (i : ℕ). (rewrites p i (segments p v₀ i) && eqb (greatest_serial (segments p v₀ i)) last_count) ≡ false) none_named
        (boot_six p h off k₀ mem no_drive c x.g x.u on₀ (stands_known p h off s n x) ch ord al)

    cuts_and_done : Always (CutTo p h off x.g x.a x.c) v₀ ss × RestartDone p h off x.g x.a x.c (store_all store_view_of ss v₀)
    cuts_and_done = healthy p h off v₀ x.u x.g x.a x.c x.m (stands_linked p h off s n x) none? six

    right? : AllSound p v₀ ss
    right? = healthy_sound p h off v₀ x.u x.g x.a x.c x.m (stands_linked p h off s n x) none? six

    in_range_holds : in_range p ≡ true
    in_range_holds = (asked_parts p h off k₀ mem no_drive c x.g x.u on₀ (stands_known p h off s n x) ch ord al).0

    nm : names_drive p no_drive ≡ true
    nm = (asked_parts p h off k₀ mem no_drive c x.g x.u on₀ (stands_known p h off s n x) ch ord al).1

    mask_lt : 0 < 2 ^ p.N
    mask_lt = subst (λ (i : ℕ). i < 2 ^ p.N) none_named (named_mask_low p h no_drive nm)

    one_bit : ones 0 ≤ 1
    one_bit = subst (λ (i : ℕ). ones i ≤ 1) none_named (ones_named no_drive)

    -- cut
    cuts : (k : Disk) → Whole p k → (b : List ℕ) → CutTo p h off x.g x.a x.c (seen p off k) → Booted p h off s (restart no_drive c) (mk_after Cut k (cut_memory p mem) b)
    cuts k wk b C = boot-cut p h off s n x no_drive c k (cut_memory p mem) b (rests n (record {
      g = C.g';
      u = C.u;
      a = x.a;
      c = x.c;
      m = m-off;
      T = x.T;
      whole = wk;
      reached = reached_to p h off v₀ x.u (map forget s.sends) n x.g x.a x.c x.m x.T forgot (seen p off k) C.u C.g' x.c m-off n C.linked.inv C.linked.tie
          (λ y i. subst (λ (l : List Val). InV y l) C.same.sent i) forgot.marked forgot.still;
      trust = λ d l. ap (λ (y : Mask). y d) C.same.un ∙ none_trust p h off (named no_drive) x.g.un none_named none? d l;
      mark = mark_moves p off x.g C.g' n s.mark (λ y i. subst (λ (l : List Val). InV y l) (sym C.same.sent) i) C.same.last x.mark;
    }) (inl (unfold cut_memory in refl)))
      where
        forgot : Reached p h off v₀ x.u (map forget s.sends) n x.g x.a x.c x.m x.T
        forgot = reached_forget p h off v₀ x.u s.sends n x.g x.a x.c x.m x.T x.reached

    -- finished
    module _ (k : Disk) (wk : Whole p k) (D : RestartDone p h off x.g x.a x.c (seen p off k)) where
      abbrev u : View
      u = seen p off k

      abbrev m' : Memory
      m' = restart_memory p (seen p off k) 0 mem.inflight

      abbrev K : ℕ → ℕ
      K = read_on p h off D.g' (seen p off k) D.u D.set

      known' : (y : Val) → InV y D.g'.sent → (0 < y.stamp) × (y.addr < p.L)
      known' y i = (stands_known p h off s n x) y (subst (λ (l : List Val). InV y l) D.same.sent i)

      shows₀ : (i : ℕ) → i < p.L → Shows p D.g'.sent K i (seen_at p off (mk_world k m') i)
      shows₀ i l =
          unfold read_on in shows_read p h off D.g' k D.u wk D.set.on known' 0 (none_choice p h off D.g' u D.u D.set) m'
          (restart_tabled p h off D.g' u D.u D.set.on 0 (none_choice p h off D.g' u D.u D.set) mask_lt one_bit mem.inflight) in_range_holds
          (restart_lent p h off D.g' u D.u D.set.on 0 (none_choice p h off D.g' u D.u D.set) mask_lt one_bit mem.inflight k wk
          (boot_listed p h off k₀ mem no_drive c x.g x.u on₀ (stands_known p h off s n x) ch ord al)
          (boot_lent p h off k₀ mem no_drive c x.g x.u on₀ (stands_known p h off s n x) ch ord al))
          (asked_parts p h off k₀ mem no_drive c x.g x.u on₀ (stands_known p h off s n x) ch ord al).3 i l

      fresh-shows : (i : ℕ) → i < p.L → Shows p x.g.sent K i (seen_at p off (mk_world k m') i)
      fresh-shows i l = shows_more p D.g'.sent x.g.sent K K i (seen_at p off (mk_world k m') i) (λ y j. subst (λ (l : List Val). InV y l) D.same.sent j) refl (shows₀ i l)

      -- what is read is no later than the greatest stamp
      K-low : (i : ℕ) → K i ≤ stamp_top p u
      K-low i =
          ⊎_elim (λ (e : K i ≡ 0). omega (arith, e)) (λ
          (y : (y : Val) × Counted (par_of p h off) D.g'.hd D.u D.g'.un y × (y.addr ≡ i) × (y.stamp ≡ K i)). omega
          (arith, top y.0 y.1, y.3)) (rd.some i)
        where
          rd : Reads (par_of p h off) D.g'.hd D.u D.g'.un K
          rd = unfold read_on in ends_reads p h off D.g' u D.u D.set

          top : (y : Val) → Counted (par_of p h off) D.g'.hd D.u D.g'.un y → y.stamp ≤ stamp_top p u
          top y q = unfold stamp_top in ends_stamps p h off D.g' u D.u D.set y q

      shows₁ : (i : ℕ) → i < p.L → Shows p (up_to (stamp_top p u) D.g'.sent) K i (seen_at p off (mk_world k m') i)
      shows₁ i l = ⊎_elim (λ (q : (K i ≡ 0) × (seen_at p off (mk_world k m') i ≡ unwritten)). inl q)
          (λ (y : ShowsBlock p D.g'.sent (K i) i (seen_at p off (mk_world k m') i)). inr (record {
            block = y.block;
            value = y.value;
            sent = in_up_to (stamp_top p u) D.g'.sent y.value y.sent (omega (arith, y.stamp, K-low i));
            addr = y.addr;
            stamp = y.stamp;
            long = y.long;
            is = y.is;
            shows = y.shows;
          })) (shows₀ i l)

      live :
          (y : Live p h off u m'.state m'.inflight m'.addresses (map forget s.sends) (length s.sends))
          × (y.g ≡ done_ghost p h off v₀ x.u s.sends n x.g x.a x.c x.m x.T x.reached u D mem.inflight)
      live = begins p h off v₀ x.u s.sends n x.g x.a x.c x.m x.T x.reached u D mem.inflight

      runs_on : Holds p h off (hist (mk_world k m') (map forget s.sends) (named no_drive) (some (record { world = mk_world k m'; sent_then = length (map forget s.sends) })))
      runs_on = goes (length s.sends) (record { healthy = record { whole = wk; live = live.0 }; trusted = none_named })
          (length-forget s.sends, subst (λ (g : Ghost). MarkShows p off g (mk_world k m')) (sym live.1) shows₁)

      pub finishes : (b : List ℕ) → Booted p h off s (restart no_drive c) (mk_after (Restarted (report_of p 0 gs)) k m' b)
      finishes b = boot_done p h off s n x (mk_world k m') (is_in 0) (zero_few p h) K (record { acked = D.acked; sent = D.sent; floor = D.floor; same = λ q w. D.still q }) fresh-shows
          no_drive c (report_of p 0 gs) k m' b refl runs_on

    -- all of it, by any number that stands for the mask without a drive
    abbrev after : ℕ → Bool → After Disk
    after i b = limited b p (store_disk p) c k₀ mem []
        (mk_plan (restart_stores p v₀ i (segments p v₀ i)) (Restarted (report_of p i (segments p v₀ i)))
        (restart_memory p (store_all store_view_of (restart_stores p v₀ i (segments p v₀ i)) v₀) i mem.inflight) [])

    fresh_booted : (b : Bool) → Booted p h off s (restart no_drive c) (after 0 b)
    fresh_booted true =
        unfold limited in subst (λ (w : View). Booted p h off s (restart no_drive c)
        (mk_after (Restarted (report_of p 0 gs)) (store_all (store_disk p) ss k₀) (restart_memory p w 0 mem.inflight) []))
        (seen_stores p h off k₀ x.whole ss right?)
        (finishes (store_all (store_disk p) ss k₀) (whole_all p h off k₀ x.whole ss right?)
        (subst (RestartDone p h off x.g x.a x.c) (sym (seen_stores p h off k₀ x.whole ss right?)) cuts_and_done.1) [])
    fresh_booted false =
        unfold limited in cuts (store_all (store_disk p) (take c ss) k₀) (whole_cut p h off k₀ x.whole ss right? c) []
        (subst (CutTo p h off x.g x.a x.c) (sym (seen-cut p h off k₀ x.whole ss right? c)) (cuts_and_done.0 c))

    pub boot_healthy : Booted p h off s (restart no_drive c) (call_disk p off s.world.disk mem (restart no_drive c))
    boot_healthy = subst (Booted p h off s (restart no_drive c)) (sym (boot-is p h off k₀ mem no_drive c x.g x.u on₀ (stands_known p h off s n x) ch ord al ∙ is))
        (subst (λ (i : ℕ). Booted p h off s (restart no_drive c) (after i (leb (length (restart_stores p v₀ i (segments p v₀ i))) c))) (sym none_named) (fresh_booted (leb (length ss) c)))
      where
        is : limited (leb (length (restart_stores p v₀ (named no_drive) (segments p v₀ (named no_drive)))) c) p (store_disk p) c k₀ mem []
            (restart_plan p v₀ no_drive (segments p v₀ (named no_drive)) mem.inflight)
            ≡ after (named no_drive) (leb (length (restart_stores p v₀ (named no_drive) (segments p v₀ (named no_drive)))) c)
        is = unfold restart_plan in refl
