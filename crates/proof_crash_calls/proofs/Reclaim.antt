-- Reclaim: a reset, or a copy. Assumes nothing.
use Rattle.std.specs.Prelude.{◌≡◌, Bool, true, false, cond, ◌≢◌, ℕ, zero, suc, ◌+◌, ◌≤◌, ◌<◌, length, take}
use Rattle.std.proofs.Math.Path.{refl, ap, subst}
use Rattle.std.proofs.Common.{sym, ◌∙◌, inl, ⊎_elim, leb-false, arith}
use mathlib.Core.List.{List, [], map}
use Rattle.std.proofs.Math.Bool.{not}
use Rattle.spec.specs.declared.Params.{Params}
use Rattle.spec.specs.declared.State.{State}
use Rattle.spec.specs.Calls.{first_refusal, Plan}
use Rattle.spec.specs.Counts.{never_place}
use Rattle.spec.specs.Demands.{send_at}
use Rattle.spec.specs.Drives.{View, pointer_at, chunk_at, store_view_of, zone_on, reset_stores, empty_count}
use Rattle.spec.specs.Drives.Store.{reset}
use Rattle.spec.specs.History.{Send}
use Rattle.spec.specs.Layout.{Rec, mk_rec}
use Rattle.spec.specs.Lists.{Opt, up_from, below, is_nil, first_or, is_in}
use Rattle.spec.specs.Lists.Opt.{none, some}
use Rattle.spec.specs.Memory.{Memory, stripe_in, filled_in_of, landed_in, entry_in_of, offset_in, state_ok, place_at_of, slot_block}
use Rattle.spec.specs.Params.{capacity, inflight_len, place_block, place_zone, place_drive, drives_of}
use Rattle.spec.specs.Reclaim.{places_in, live_in, flying, Victim, victim, is_none, victim_segment, victim_live, idle, reclaim_checks, reset_plan, copy_plan}
use Rattle.spec.specs.Write.{opens, no_serial, must_wait, scarce, placed, opened_by, slot_for, begun_by, sending}
use Rattle.law_basic.specs.Ranges.{nil_is, Test, test}
use Rattle.law_basic.specs.Geometry.{Ranged}
use Rattle.law_basic.specs.Ranges.Test.{yes!, no! }
use Rattle.law_drives.specs.Tests.{clash, cond_true, cond_false}
use Rattle.law_checks.specs.Passed.{ReclaimPassed, reclaim_passed}
use Rattle.proof_crash_machine.specs.History.Mode.{off as m-off, run}
use Rattle.proof_crash_machine.specs.History.{State as m-State, Inv}
use Rattle.proof_crash_machine.specs.History.Step.{reset_cut, reset_done}
use Rattle.proof_crash_machine.specs.Memory.{Mem, MemOk}
use Rattle.proof_crash_machine.specs.Memory2.{resets-other}
use Rattle.proof_crash_machine.specs.Order.{no_track}
use Rattle.proof_crash_machine.specs.Reclaim.{Quiet, reclaimed_end}
use Rattle.proof_crash_machine.specs.Val.{Val}
use Rattle.proof_crash_machine.specs.View.Item.{chunk}
use Rattle.proof_crash_machine.specs.Facts.{Heads, Ghost, InV, Choice, R, Counted, Off, Used, Facts, None, used}
use Rattle.proof_crash_machine.specs.View.{Item, ItemView, ItemStore, AllS, apply_all, resets, InI}
use Rattle.proof_crash_machine.specs.View.ItemStore.{reset as m-reset}
use Rattle.proof_crash_items.specs.Places.{store_seg}
use Rattle.proof_crash_items.specs.Segs.{OnDrives, named_seg, named_zone, name_of, remaining_has}
use Rattle.proof_crash_items.specs.Sound.{Follows, follows_nil, follows-cons, store_reset}
use Rattle.proof_crash_calls.specs.Live.{Live, CallOk}
use Rattle.proof_crash_calls.proofs.Live.{live_inv, live_none, live_drives, live_choice, live_seg-low, live_tie, live_tie_cut, live_after, live_cut}
use Rattle.proof_crash_items.specs.Items.{value_of}
use Rattle.proof_crash_items.specs.Member.{Has, keep_has, first_or_has}
use Rattle.proof_crash_items.specs.Ranges.{par_of}
use Rattle.proof_crash_calls.proofs.Entries.{entry_value, entry_long}
use Rattle.proof_crash_calls.specs.Go.{mst, later_same, go_step, go_then, go_inv}
use Rattle.proof_crash_calls.specs.Held.{Entry}
use Rattle.proof_crash_calls.proofs.Held.{table_to}
use Rattle.proof_crash_calls.specs.Rel.{slot_keep, Rel, Waiting}
use Rattle.proof_crash_calls.proofs.Sending.{Asked, Target, send_stores, target, target-entries}
use Rattle.proof_crash_calls.proofs.Take.{taken_mem, taken_rel, taken_waits, copied_go}
use Rattle.proof_crash_calls.proofs.Victim.{VictimIs, victim_is, place_has, live_has, open_unsealed, quiet, table_left}
use Rattle.spec.specs.declared.Seg.{Seg}
use Rattle.spec.specs.Segments.{place_record}

-- ---- the resets are the machine's

zone_resets_follow : (p : Params) (hd : Heads) (z : Seg) (y : ℕ) → ((d : ℕ) → d < p.N → zone_on z d < p.Z) → ((d : ℕ) → d < p.N → zone_on z d ≡ hd.zn y d)
    → (n d : ℕ) (v : View) → d + n ≤ p.N → Follows p hd v (map (λ e. reset e (zone_on z e)) (up_from d n)) (resets y d n)
unfolding up_from resets
zone_resets_follow p hd z y low lies zero d v b = follows_nil p hd v
zone_resets_follow p hd z y low lies (suc n) d v b =
    let dl : d < p.N = omega arith in
    follows-cons p hd v (reset d (zone_on z d)) (map (λ e. reset e (zone_on z e)) (up_from (suc d) n)) (m-reset d y) (resets y (suc d) n) (dl, low d dl)
    (store_reset p hd v d y (zone_on z d) (lies d dl)) (zone_resets_follow p hd z y low lies n (suc d) (store_view_of (reset d (zone_on z d)) v) (omega arith))

pub reset_follow : (p : Params) (hd : Heads) (v : View) (z : Seg) (y : ℕ) → ((d : ℕ) → d < p.N → zone_on z d < p.Z) → ((d : ℕ) → d < p.N → zone_on z d ≡ hd.zn y d)
    → Follows p hd v (reset_stores p z) (resets y 0 p.N)
unfolding reset_stores drives_of below
reset_follow p hd v z y low lies = zone_resets_follow p hd z y low lies p.N 0 v (omega arith)

resets_segs : (A : ℕ → Type 0) (y : ℕ) → A y → (n d : ℕ) → AllS (λ (x : ItemStore). A (store_seg x)) (resets y d n)
unfolding resets store_seg
resets_segs A y k zero d = tt
resets_segs A y k (suc n) d = (k, resets_segs A y k n (suc d))

-- ---- memory, when a segment is emptied that isn't the open one

pub emptied_rel : (p : Params) (h : Ranged p) (off : List ℕ) (g : Ghost) (v u : ItemView) (st : State) (fl : List ℕ) (M : Mem) → MemOk (par_of p h off) g v M → Rel p v st fl M
    → (M.is_open ≡ true → (e : ℕ) → u e M.zone ≡ v e M.zone) → Rel p u st fl M
emptied_rel p h off g v u st fl M m R same = record {
  long = R.long;
  healthy = R.healthy;
  is_open = R.is_open;
  zone = R.zone;
  next = R.next;
  stamp = R.stamp;
  serial = R.serial;
  stamp_fits = R.stamp_fits;
  serial_fits = R.serial_fits;
  flying = R.flying;
  slot = λ i il q. let o : M.is_open ≡ true = (m.flies (stripe_in st i) (R.flying i il q)).0 in
      slot_keep p h (λ e. v e M.zone) (λ e. u e M.zone) (slot_block p fl i) (slot_block p fl i) (entry_in_of st i) (entry_in_of st i) (offset_in st i) (offset_in st i)
      (stripe_in st i) (stripe_in st i) (filled_in_of st i) (filled_in_of st i) (landed_in st i) (landed_in st i) (M.F (stripe_in st i))
      (M.ready (stripe_in st i)) refl refl refl (λ e el. refl) (λ e el. refl) (λ e el. refl)
      (λ e j t el w. subst (λ (y : List Item). Off y j t) (sym (same o e)) w) (λ e x el w. subst (λ (y : List Item). InI (chunk (stripe_in st i) x) y) (same o e) w) (R.slot i il q);
  once = R.once;
  flies = R.flies;
  whole = λ o x l f e el. let w : (y : Val) × InI (chunk x y) (v e M.zone) = R.whole o x l f e el in (w.0, subst (λ (y : List Item). InI (chunk x w.0) y) (sym (same o e)) w.1);
  busy = R.busy;
}

-- what reclaim does, where it isn't refused
unfoldable pub reclaim_plan : Params → View → Memory → Plan
reclaim_plan p v m =
    cond (is_nil (victim_live (victim p v m.addresses))) (reset_plan p m (victim_segment (victim p v m.addresses))) (copy_plan p v m (first_or 0 (idle p v m.state (victim p v m.addresses))))

module _ (p : Params) (h : Ranged p) (off : List ℕ) (v : View) (m : Memory) (ss : List Send) (n : ℕ) (l : Live p h off v m.state m.inflight m.addresses ss n) where
  abbrev st : State
  st = m.state

  abbrev fl : List ℕ
  fl = m.inflight

  inv_reclaim : Inv (par_of p h off) (mst l.g l.u l.a l.c (run l.M))
  inv_reclaim = live_inv p h off v m.state m.inflight m.addresses ss n l

  abbrev σ : m-State
  σ = mst l.g l.u l.a l.c (run l.M)

  -- ---- reset

  pub reset-call-ok :
      (y : ℕ)
      → Used (par_of p h off) l.g.un l.u y
      → ((d : ℕ) → d < p.N → pointer_at v d (zone_on (named_seg p l.g y) d) ≡ capacity p)
      → live_in p (places_in p m.addresses) (named_seg p l.g y) ≡ []
      → state_ok p m.state ≡ true
      → CallOk p h off l.g v (reset_plan p m (named_seg p l.g y)) ss ss n
  unfolding reset_plan
  reset-call-ok y yu full dead ok = record {
    sound = follow.sound;
    done = live_after p h off v st fl m.addresses ss n l (reset_stores p z) u l.g (live_tie p h off v st fl m.addresses ss n l (reset_stores p z) (resets y 0 p.N) follow segs)
        l.a l.c l.M l.T st fl m.addresses ss (later_same l.g)
        (go_step (par_of p h off) σ (mst l.g u l.a l.c (run l.M)) l.T (reset_done σ l.M y refl silent apart))
        (emptied_rel p h off l.g l.u u st fl l.M inv_reclaim.mode l.rel (λ o e. resets-other l.u y 0 p.N e l.M.zone (apart o)))
        l.reached.logged l.waits l.reached.marked l.reached.still
        (table_left p h off v st fl m.addresses ss n l ok y dead u facts_u (λ e x b. resets-other l.u y 0 p.N e x b));
    cut = λ k. live_cut p h off v st fl m.addresses ss n l (reset_stores p z) k (apply_all l.u (take k (resets y 0 p.N))) l.g
        (live_tie_cut p h off v st fl m.addresses ss n l (reset_stores p z) (resets y 0 p.N) follow segs k) (later_same l.g)
        (go_step (par_of p h off) σ (mst l.g (apply_all l.u (take k (resets y 0 p.N))) l.a l.c m-off) l.T (reset_cut σ l.M y k refl silent));
  }
    where
      z : Seg
      z = named_seg p l.g y

      follow : Follows p l.g.hd v (reset_stores p z) (resets y 0 p.N)
      follow = reset_follow p l.g.hd v z y (live_seg-low p h off v st fl m.addresses ss n l y yu) (λ d b. named_zone p l.g y d b)

      segs : AllS (λ (x : ItemStore). Used (par_of p h off) l.g.un l.u (store_seg x)) (resets y 0 p.N)
      segs = resets_segs (Used (par_of p h off) l.g.un l.u) y yu p.N 0

      u : ItemView
      u = apply_all l.u (resets y 0 p.N)

      silent : Quiet (par_of p h off) l.g l.u y
      silent = quiet p h off v st fl m.addresses ss n l ok y dead

      facts_u : Facts (par_of p h off) l.g u
      facts_u = reclaimed_end (par_of p h off) l.g y inv_reclaim.mode.none inv_reclaim.mode.no_pair l.u inv_reclaim.facts silent

      apart : l.M.is_open ≡ true → l.M.zone ≢ y
      apart = open_unsealed p h off v st fl m.addresses ss n l ok y yu full

  -- ---- copy

  module _ (fits : length m.inflight ≡ inflight_len p) (q : ℕ) (held? : Has q (places_in p m.addresses)) (A : Asked p v m.state) where
    k : OnDrives p h off l.g v l.u
    k = live_drives p h off v st fl m.addresses ss n l

    reclaim-none? : None (par_of p h off) l.g.un
    reclaim-none? = live_none p h off v st fl m.addresses ss n l

    copied_entry : (a : ℕ) × Entry p h off l.g l.u q a
    copied_entry =
        let a : (a : ℕ) × (a < p.L) × (place_at_of m.addresses a ≡ q) × (q ≢ never_place) = place_has p m.addresses q held? in
        ⊎_elim (λ (w : (place_at_of m.addresses a.0 ≡ never_place) × (l.g.base a.0 ≡ 0)). absurd (a.3 (sym a.2 ∙ w.0)))
        (λ (w : Entry p h off l.g l.u (place_at_of m.addresses a.0) a.0). (a.0, subst (λ (x : ℕ). Entry p h off l.g l.u x a.0) a.2 w)) (l.table a.0 a.1)

    -- the block and the record
    abbrev b : List ℕ
    b = (chunk_at v (place_drive p q) (place_zone p q) (place_block p q)).block

    abbrev r : Rec
    r = place_record p v 0 q

    bl : length b ≡ p.B
    bl = entry_long p h off l.g v l.u k reclaim-none? q copied_entry.0 copied_entry.1

    copied-counts : Counted (par_of p h off) l.g.hd l.u l.g.un (value_of b r)
    copied-counts =
        subst (λ (x : Val). Counted (par_of p h off) l.g.hd l.u l.g.un x) (sym (entry_value p h off l.g v l.u k reclaim-none? q copied_entry.0 copied_entry.1))
        copied_entry.1.counts

    abbrev i : ℕ
    i = slot_for p m.state

    abbrev st₂ : State
    st₂ = begun_by p m.state (opened_by p m.state)

    abbrev aim : Target p h off l.g v l.u l.a l.c m.state m.inflight l.M (send_stores p v m.state) (begun_by p m.state (opened_by p m.state)) (slot_for p m.state)
    aim = target p h off l.g v l.u l.a l.c m.state m.inflight l.M l.rel (live_inv p h off v m.state m.inflight m.addresses ss n l)
        (live_drives p h off v m.state m.inflight m.addresses ss n l) A

    inv_aimed_copy : Inv (par_of p h off) (mst aim.g' aim.u₂ l.a l.c (run aim.M₂))
    inv_aimed_copy = go_inv (par_of p h off) σ (mst aim.g' aim.u₂ l.a l.c (run aim.M₂)) no_track no_track (aim.go no_track) inv_reclaim

    abbrev Mt : Mem
    Mt = taken_mem p h off aim.g' aim.u₂ l.a l.c st₂ fl aim.M₂ aim.U aim.rel inv_aimed_copy fits i aim.low aim.used? aim.room r.address r.stamp 0 b bl

    same_value : value_of b r ≡ value_of b (mk_rec r.address r.stamp (stripe_in st₂ i))
    unfolding value_of
    same_value = refl

    pub copy_ok : CallOk p h off l.g v (copy_plan p v m q) ss ss n
    unfolding copy_plan sending send_stores
    copy_ok = record {
      sound = aim.sound;
      done =
          live_after p h off v st fl m.addresses ss n l (send_stores p v st) aim.u₂ aim.g' aim.tie l.a l.c Mt l.T
          (placed p st₂ fl i r.address r.stamp 0 b).state (placed p st₂ fl i r.address r.stamp 0 b).inflight m.addresses ss
          aim.later
          (go_then (par_of p h off) σ (mst aim.g' aim.u₂ l.a l.c (run aim.M₂)) (mst aim.g' aim.u₂ l.a l.c (run Mt)) l.T l.T l.T (aim.go l.T)
          (copied_go p h off aim.g' aim.u₂ l.a l.c st₂ fl aim.M₂ aim.U aim.rel inv_aimed_copy fits i aim.low aim.used? aim.room r.address
          r.stamp 0 b bl l.T
          (subst (λ (y : Val). Counted (par_of p h off) aim.g'.hd aim.u₂ aim.g'.un y) same_value (aim.counts (value_of b r) copied-counts).0)))
          (taken_rel p h off aim.g' aim.u₂ l.a l.c st₂ fl aim.M₂ aim.U aim.rel inv_aimed_copy fits i aim.low aim.used? aim.room r.address r.stamp 0 b bl
          aim.cover)
          l.reached.logged
          (λ j x y. let w : Waiting p st l.M (l.T.log j) (send_at ss j).stripe × InV (l.T.log j) l.g.sent × (l.T.pos (l.T.log j).stamp ≡ j) = l.waits j x y in (
            taken_waits p h off aim.g' aim.u₂ l.a l.c st₂ fl aim.M₂ aim.U aim.rel inv_aimed_copy fits i aim.low aim.used? aim.room
                r.address r.stamp 0 b bl aim.cover (inl refl)
                (l.T.log j) (send_at ss j).stripe (aim.waits (l.T.log j) (send_at ss j).stripe w.0),
            subst (λ (z : List Val). InV (l.T.log j) z) (sym aim.sent) w.1,
            w.2,
          ))
          l.reached.marked l.reached.still
          (table_to p h off l.g aim.g' l.u aim.u₂ m.addresses aim.base
          (target-entries p h off l.g v l.u l.a l.c m.state m.inflight l.M (send_stores p v m.state) st₂ i aim) l.table);
      cut = λ k. live_cut p h off v st fl m.addresses ss n l (send_stores p v st) k (aim.cut k).1 (aim.cut k).0 (aim.cut k).3 (aim.cut k).2 ((aim.cut k).4 l.T);
    }

  -- ---- the call

  -- the checks that a copy passes
  copy_asked : must_wait p st ≡ false → no_serial p st ≡ false → (opens p st ≡ true → scarce p v 1 ≡ false) → state_ok p st ≡ true → Asked p v st
  copy_asked w s o ok = record {
    ok = ok;
    waits = w;
    serial = s;
    room = λ e. room (o e);
  }
    where
      room : scarce p v 1 ≡ false → 2 ≤ empty_count p v
      room x = leb-false (empty_count p v) 1 (unfold scarce in x)

  pub reclaim_ok : length m.inflight ≡ inflight_len p → (long : Bool) → first_refusal (reclaim_checks p long v m (victim p v m.addresses)) ≡ none
      → CallOk p h off l.g v (reclaim_plan p v m) ss ss n
  reclaim_ok fits long e = go (victim p v m.addresses) refl (reclaim_passed p long v m (victim p v m.addresses) e)
    where
      plan : Opt Victim → Plan
      plan w = cond (is_nil (victim_live w)) (reset_plan p m (victim_segment w)) (copy_plan p v m (first_or 0 (idle p v st w)))

      some_victim : (w : Victim) → VictimIs p v m.addresses w → ReclaimPassed p long v m (some w) → CallOk p h off l.g v (plan (some w)) ss ss n
      some_victim w vi q = pick? (test (is_nil (victim_live (some w))))
        where
          ch : Choice (par_of p h off) l.g.un (is_in 0)
          ch = live_choice p h off v st fl m.addresses ss n l

          named : R (par_of p h off) l.g.hd l.u (is_in 0) (name_of p v 0 w.segment) × (w.segment ≡ named_seg p l.g (name_of p v 0 w.segment))
          named = remaining_has p h off l.g v l.u (live_drives p h off v st fl m.addresses ss n l) 0 ch w.segment vi.low

          its : Used (par_of p h off) l.g.un l.u (name_of p v 0 w.segment)
          its = used (par_of p h off) l.g l.u (is_in 0) (name_of p v 0 w.segment) ch named.0.left

          of : victim_segment (some w) ≡ w.segment
          of = unfold victim_segment in refl

          alive : victim_live (some w) ≡ w.live
          alive = unfold victim_live in refl

          pick? : Test (is_nil (victim_live (some w))) → CallOk p h off l.g v (plan (some w)) ss ss n
          pick? (yes! t) =
              subst (λ (y : Plan). CallOk p h off l.g v y ss ss n)
              (sym (cond_true (is_nil (victim_live (some w))) (reset_plan p m (victim_segment (some w)))
              (copy_plan p v m (first_or 0 (idle p v st (some w)))) t))
              (subst (λ (z : Seg). CallOk p h off l.g v (reset_plan p m z) ss ss n) (sym (of ∙ named.1))
              (reset-call-ok (name_of p v 0 w.segment) its (λ d b. ap (λ (z : Seg). pointer_at v d (zone_on z d)) (sym named.1) ∙ vi.sealed d b)
              (ap (live_in p (places_in p m.addresses)) (sym named.1) ∙ sym vi.live ∙ sym alive ∙ nil_is (victim_live (some w)) t) q.state_fine))
          pick? (no! t) =
              subst (λ (y : Plan). CallOk p h off l.g v y ss ss n)
              (sym (cond_false (is_nil (victim_live (some w))) (reset_plan p m (victim_segment (some w)))
              (copy_plan p v m (first_or 0 (idle p v st (some w)))) t))
              (copy_ok fits (first_or 0 (idle p v st (some w))) held?
              (copy_asked (q.no_wait t) (q.serial_left t) (q.room t) q.state_fine))
            where
              some_idle : is_nil (idle p v st (some w)) ≡ false
              some_idle = q.some_idle t

              held? : Has (first_or 0 (idle p v st (some w))) (places_in p m.addresses)
              held? = live_has p (places_in p m.addresses) w.segment (first_or 0 (idle p v st (some w))) (subst (λ (y : List ℕ). Has (first_or 0 (idle p v st (some w))) y) (alive ∙ vi.live)
                  (from_idle (first_or 0 (idle p v st (some w))) (first_or_has 0 (idle p v st (some w)) some_idle)))
                where
                  from_idle : (x : ℕ) → Has x (idle p v st (some w)) → Has x (victim_live (some w))
                  from_idle x i = unfold idle in (keep_has (λ q. not (flying p v st q)) x (victim_live (some w)) i).0

      none_taken : ReclaimPassed p long v m none → CallOk p h off l.g v (plan none) ss ss n
      none_taken q = clash {b = is_none none} (unfold is_none in refl) q.taken

      go : (w : Opt Victim) → victim p v m.addresses ≡ w → ReclaimPassed p long v m (victim p v m.addresses) → CallOk p h off l.g v (reclaim_plan p v m) ss ss n
      go none e q = subst (λ (y : Plan). CallOk p h off l.g v y ss ss n) (sym (is ∙ ap plan e)) (none_taken (subst (λ (y : Opt Victim). ReclaimPassed p long v m y) e q))
        where
          is : reclaim_plan p v m ≡ plan (victim p v m.addresses)
          is = unfold reclaim_plan in refl
      go (some w) e q = subst (λ (y : Plan). CallOk p h off l.g v y ss ss n) (sym (is ∙ ap plan e))
          (some_victim w (victim_is p v m.addresses w e) (subst (λ (y : Opt Victim). ReclaimPassed p long v m y) e q))
        where
          is : reclaim_plan p v m ≡ plan (victim p v m.addresses)
          is = unfold reclaim_plan in refl
