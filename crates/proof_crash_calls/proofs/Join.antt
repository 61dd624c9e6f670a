-- Every call of a healthy run but a restart, refused, uncut or cut, keeps it or ends it. Assumes nothing.
use Rattle.std.specs.Prelude.{◌≡◌, Bool, ◌&&◌, ◌≢◌, leb, length, get_or, take}
use Rattle.std.proofs.Math.Path.{refl, ap, subst}
use Rattle.std.proofs.Common.{sym, ◌∙◌, arith}
use mathlib.Core.List.{List, [], ◌∷◌, ◌++◌, map, append-nil}
use Rattle.std.proofs.Math.Bool.{true, false, cond}
use Prim.Native.Nat.{ℕ, suc, ◌≤◌}
use borrow.Author.Tests.{eq-eqb, ne_eqb, leb-true, eqb-true}
use Rattle.std.proofs.Math.Dec.{ltb, eqb}
use Rattle.spec.specs.declared.Params.{Params}
use Rattle.spec.specs.declared.Answer.{Answer}
use Rattle.spec.specs.declared.Answer.TheVariants.{Cut, Rebuilt, Nothing}
use Rattle.spec.specs.Answers.{kind, values, is_refused, is_cut_of, finished}
use Rattle.spec.specs.Calls.{Check, first_refusal, Plan, mk_plan, decided, mk_after, cut_memory, limited, outcome}
use Rattle.spec.specs.Calls.Verdict.{due}
use Rattle.spec.specs.Closing.{close_checks, close_plan, close_verdict, empty_checks, empty_plan, empty_verdict}
use Rattle.spec.specs.Drives.{View, Disk, store_disk, store_all}
use Rattle.spec.specs.Engine.{Call, store_count, lent_block, verdict, lent_ok_of, call_on, call_disk}
use Rattle.spec.specs.Engine.Call.{write, land, close, reclaim, read, fill, restart, rebuild}
use Rattle.spec.specs.History.{restart_of, Send, mk_send, acknowledge, forget, sent_by, acked_by, ends_run, sent_after}
use Rattle.spec.specs.Landing.{slot_of, completes, land_checks, writes_in, land_plan, land_verdict}
use Rattle.spec.specs.Lists.{Opt, cons_if, is_nil, first_or}
use Rattle.spec.specs.Lists.Opt.{none, some}
use Rattle.spec.specs.Memory.{Memory, zero_state, has_filling}
use Rattle.spec.specs.Params.{offline_len, image_len, pointers_len, addresses_len, compact_len, inflight_len, named}
use Rattle.spec.specs.Read.{Found, Lookup, lookup, read_answer_of, read_checks, read_plan, read_verdict, fill_plan, fill_verdict}
use Rattle.spec.specs.Read.Found.{nowhere, here, away}
use Rattle.spec.specs.Rebuild.{rebuild_checks, rebuild_stores, rebuild_verdict}
use Rattle.spec.specs.Reclaim.{Victim, victim, victim_segment, victim_live, idle, reclaim_checks, reset_plan, copy_plan, reclaim_verdict_in}
use Rattle.spec.specs.Segments.{segments}
use Rattle.spec.specs.Write.{sending, write_checks, write_plan, write_verdict_in}
use Rattle.law_drives.specs.Tests.{clash, cond_false}
use Rattle.law_basic.specs.Geometry.{Ranged}
use Rattle.law_basic.specs.Ranges.{and_left, and_right}
use Rattle.law_views.specs.Views.{seen}
use Rattle.law_calls.specs.Refusals.{refusal_kind, refused_unfinished}
use Rattle.law_checks.specs.Empty.{empty_asks}
use Rattle.law_checks.specs.Passed.{write_passed, land_passed, close_passed, reclaim_passed, rebuild_passed, empty_passed}
use Rattle.proof_crash_items.specs.Member.{or_both_false}
use Rattle.proof_crash_items.specs.Named.{named_not_zero}
use Rattle.proof_crash_items.specs.Seen.{seen_stores, seen-cut, whole_all, whole_cut}
use Rattle.proof_crash_calls.specs.Go.{Later, later_same}
use Rattle.proof_crash_calls.proofs.Land.{land_count, land_sends, land_ok}
use Rattle.proof_crash_calls.proofs.Landed.{land_asked}
use Rattle.proof_crash_calls.specs.Live.{Live, Stopped, CallOk}
use Rattle.proof_crash_calls.proofs.Reclaim.{reclaim_plan, reclaim_ok}
use Rattle.proof_crash_calls.proofs.Write.{same_ok, close_ok, write_asked, sent_stripe, write_ok}
use Rattle.proof_crash_calls.specs.Join.{Healthy, Next, GoesOn}
use Rattle.proof_crash_calls.specs.Join.Next.{goes, stops}

-- ---- answers

refused-kind : (a : Answer) → is_refused a ≡ true → kind a ≤ 1
unfolding is_refused
refused-kind a e = leb-true (kind a) 1 e

pub refused_uncut : (a : Answer) → is_refused a ≡ true → is_cut_of a ≡ false
unfolding is_cut_of
refused_uncut a e = ne_eqb (kind a) 2 (let b : kind a ≢ 2 = omega (arith, refused-kind a e) in b)

refused-runs : (a : Answer) → is_refused a ≡ true → ends_run a ≡ false
unfolding ends_run
refused-runs a e = or_both_false (is_cut_of a) (finished a) (refused_uncut a e) (refused_unfinished a e)

-- a refused call sends and acknowledges nothing
pub sent-refused : (c : Call) (a : Answer) (ss : List Send) → is_refused a ≡ true → sent_after c a ss ≡ ss
unfolding sent_after
sent-refused c a ss e = cond_false (ends_run a) (map forget ss) (acked_by c a ss ++ sent_by c a) (refused-runs a e) ∙ go c
  where
    go : (c : Call) → acked_by c a ss ++ sent_by c a ≡ ss
    go (write x y n) = unfold acked_by sent_by in (
        ap (λ (t : Bool). ss ++ cons_if t (mk_send x (get_or (values a) 0 0) y (get_or (values a) 1 0) true false) [])
        (ne_eqb (kind a) 3 (let b : kind a ≢ 3 = omega (arith, refused-kind a e) in b))
        ∙ (unfold cons_if in append-nil ss))
    go (land d s n) = unfold acked_by sent_by in (
        ap (λ (t : Bool). cond (t && ltb 0 (get_or (values a) 0 0)) (map (acknowledge s) ss) ss ++ []) (ne_eqb (kind a) 4 (let b : kind a ≢ 4 = omega (arith, refused-kind a e) in b))
        ∙ append-nil ss)
    go (close n) = unfold acked_by sent_by in append-nil ss
    go (reclaim n) = unfold acked_by sent_by in append-nil ss
    go (read x) = unfold acked_by sent_by in append-nil ss
    go (fill x y) = unfold acked_by sent_by in append-nil ss
    go (restart d n) = unfold acked_by sent_by in append-nil ss
    go (rebuild d n) = unfold acked_by sent_by in append-nil ss

-- ---- reads

pub read_goes_on : (p : Params) (v : View) (m : Memory) (a : ℕ) → GoesOn (read a) (read_plan p v m a).answer
unfolding read_plan
read_goes_on p v m a = go looked.stamp looked.found
  where
    looked : Lookup
    looked = lookup p v m.state.missing m.compact m.addresses a

    go : (t : ℕ) (f : Found) → GoesOn (read a) (read_answer_of p t f)
    go t nowhere = unfold read_answer_of sent_after ends_run is_cut_of finished kind acked_by sent_by in record { uncut = refl; open? = refl; sent = append-nil }
    go t (here q) = unfold read_answer_of sent_after ends_run is_cut_of finished kind acked_by sent_by in record { uncut = refl; open? = refl; sent = append-nil }
    go t (away q) = unfold read_answer_of sent_after ends_run is_cut_of finished kind acked_by sent_by in record { uncut = refl; open? = refl; sent = append-nil }

pub fill_goes_on : (p : Params) (v : View) (m : Memory) (a : ℕ) (b : List ℕ) → GoesOn (fill a b) (fill_plan p v m a).answer
unfolding fill_plan sent_after ends_run is_cut_of finished kind acked_by sent_by
fill_goes_on p v m a b = record { uncut = refl; open? = refl; sent = append-nil }

-- the run is over
pub sent-cut : (c : Call) (ss : List Send) → sent_after c Cut ss ≡ map forget ss
unfolding sent_after ends_run is_cut_of kind
sent-cut c ss = refl

-- ---- what is due, under the store count

module _ (p : Params) (h : Ranged p) (off : List ℕ) (k : Disk) (m : Memory) (ss : List Send) (n : ℕ) (x : Healthy p h off k m ss n) where
  -- the lent buffers have their lengths
  pub lent_inflight : lent_ok_of p off k m ≡ true → length m.inflight ≡ inflight_len p
  unfolding lent_ok_of
  lent_inflight e = eqb-true (length m.inflight) (inflight_len p)
      (and_right (eqb (length off) (offline_len p) && eqb (length k.image) (image_len p)
      && eqb (length k.pointers) (pointers_len p)
      && eqb (length m.addresses) (addresses_len p)
      && eqb (length m.compact) (compact_len p)) (eqb (length m.inflight) (inflight_len p)) e)

  pub lent_table : lent_ok_of p off k m ≡ true → length m.addresses ≡ addresses_len p
  unfolding lent_ok_of
  lent_table e =
      eqb-true (length m.addresses) (addresses_len p) (and_right (eqb (length off) (offline_len p) && eqb (length k.image) (image_len p) && eqb (length k.pointers) (pointers_len p))
      (eqb (length m.addresses) (addresses_len p))
      (and_left (eqb (length off) (offline_len p) && eqb (length k.image) (image_len p) && eqb (length k.pointers) (pointers_len p) && eqb (length m.addresses) (addresses_len p))
      (eqb (length m.compact) (compact_len p))
      (and_left (eqb (length off) (offline_len p) && eqb (length k.image) (image_len p)
      && eqb (length k.pointers) (pointers_len p)
      && eqb (length m.addresses) (addresses_len p)
      && eqb (length m.compact) (compact_len p)) (eqb (length m.inflight) (inflight_len p)) e)))

  -- a refusal changes nothing
  pub refused_next : (c : Call) (a : Answer) (b : List ℕ) → is_refused a ≡ true → Next p h off x.live.g n (mk_after a k m b) (sent_after c a ss)
  refused_next c a b e =
      subst (λ (y : List Send). Next p h off x.live.g n (mk_after a k m b) y) (sym (sent-refused c a ss e)) (goes (refused_uncut a e) (refused_unfinished a e) x (later_same x.live.g))

  due-next :
      (c : Call) (count : ℕ) (b : List ℕ) (q : Plan) (ss' : List Send)
      → CallOk p h off x.live.g (seen p off k) q ss ss' n
      → is_cut_of q.answer ≡ false
      → finished q.answer ≡ false
      → sent_after c q.answer ss ≡ ss'
      → Next p h off x.live.g n (outcome p (store_disk p) count k m b (due q)) (sent_after c (outcome p (store_disk p) count k m b (due q)).answer ss)
  unfolding outcome
  due-next c count b q ss' ok uncut open? sent = go (leb (length q.stores) count)
    where
      go : (t : Bool) → Next p h off x.live.g n (limited t p (store_disk p) count k m b q) (sent_after c (limited t p (store_disk p) count k m b q).answer ss)
      go true = unfold limited in subst (λ (y : List Send). Next p h off x.live.g n (mk_after q.answer (store_all (store_disk p) q.stores k) q.memory q.block) y) (sym sent)
          (goes uncut open? (record { whole = whole_all p h off k x.whole q.stores ok.sound; live = live }) later)
        where
          moved : (y : Live p h off (seen p off (store_all (store_disk p) q.stores k)) q.memory.state q.memory.inflight q.memory.addresses ss' n) × Later x.live.g y.g
          moved =
              subst (λ (u : View). (y : Live p h off u q.memory.state q.memory.inflight q.memory.addresses ss' n) × Later x.live.g y.g)
              (sym (seen_stores p h off k x.whole q.stores ok.sound)) ok.done

          live : Live p h off (seen p off (store_all (store_disk p) q.stores k)) q.memory.state q.memory.inflight q.memory.addresses ss' n
          live = moved.0

          later : Later x.live.g live.g
          later = moved.1
      go false = unfold limited in subst (λ (y : List Send). Next p h off x.live.g n (mk_after Cut (store_all (store_disk p) (take count q.stores) k) (cut_memory p m) b) y) (sym (sent-cut c ss))
          (stops cut? unfinished? dark (record { whole = whole_cut p h off k x.whole q.stores ok.sound count; stopped = moved.0 }) moved.1)
        where
          cut? : is_cut_of Cut ≡ true
          cut? = unfold is_cut_of kind in refl

          unfinished? : finished Cut ≡ false
          unfinished? = unfold finished kind in refl

          dark : (cut_memory p m).state ≡ zero_state
          dark = unfold cut_memory in refl

          moved : (y : Stopped p h off (seen p off (store_all (store_disk p) (take count q.stores) k)) (map forget ss) n) × Later x.live.g y.g
          moved = subst (λ (u : View). (y : Stopped p h off u (map forget ss) n) × Later x.live.g y.g) (sym (seen-cut p h off k x.whole q.stores ok.sound count)) (ok.cut count)

  -- a verdict
  decided-next :
      (c : Call) (count : ℕ) (b : List ℕ) (cs : List Check) (q : Plan) (ss' : List Send)
      → (first_refusal cs ≡ none → CallOk p h off x.live.g (seen p off k) q ss ss' n)
      → is_cut_of q.answer ≡ false
      → finished q.answer ≡ false
      → sent_after c q.answer ss ≡ ss'
      → Next p h off x.live.g n (outcome p (store_disk p) count k m b (decided (first_refusal cs) q)) (sent_after c (outcome p (store_disk p) count k m b (decided (first_refusal cs) q)).answer ss)
  decided-next c count b cs q ss' ok uncut open? sent = go (first_refusal cs) refl
    where
      go :
          (o : Opt Answer)
          → first_refusal cs ≡ o
          → Next p h off x.live.g n (outcome p (store_disk p) count k m b (decided o q))
          (sent_after c (outcome p (store_disk p) count k m b (decided o q)).answer ss)
      go none e = unfold decided in due-next c count b q ss' (ok e) uncut open? sent
      go (some a) e = unfold decided outcome in refused_next c a b (refusal_kind cs a e)

  -- ---- the calls

  abbrev v : View
  v = seen p off k

  abbrev long : Bool
  long = lent_ok_of p off k m

  abbrev Goal : Call → Type 0
  Goal c = Next p h off x.live.g n (call_disk p off k m c) (sent_after c (call_disk p off k m c).answer ss)

  write_next : (a y : ℕ) (more : List ℕ) (count : ℕ) → Goal (write a (y ∷ more) count)
  unfolding call_disk call_on store_count lent_block verdict write_verdict_in
  write_next a y more count =
      decided-next (write a (y ∷ more) count) count (y ∷ more) (write_checks p long v m a (y ∷ more)) (write_plan p v m a (y ∷ more))
      (ss ++ (mk_send a (suc m.state.stamp.0) (y ∷ more) (sent_stripe p m.state) true false ∷ []))
      (λ e. write_ok p h off v m ss n x.live (lent_inflight (fits e)) a (y ∷ more) (write_asked p long v m a (y ∷ more) e)) uncut open? sent
    where
      b : List ℕ
      b = y ∷ more

      fits : first_refusal (write_checks p long v m a b) ≡ none → long ≡ true
      fits e = (write_passed p long v m a b e).lent

      uncut : is_cut_of (write_plan p v m a b).answer ≡ false
      uncut = unfold write_plan is_cut_of kind in refl

      open? : finished (write_plan p v m a b).answer ≡ false
      open? = unfold write_plan finished kind in refl

      sent : sent_after (write a b count) (write_plan p v m a b).answer ss ≡ ss ++ (mk_send a (suc m.state.stamp.0) b (sent_stripe p m.state) true false ∷ [])
      sent = unfold sent_after ends_run is_cut_of finished kind write_plan acked_by sent_by cons_if values sending sent_stripe in refl

  land_next : (d s count : ℕ) → Goal (land d s count)
  unfolding call_disk call_on store_count lent_block verdict land_verdict
  land_next d s count = decided-next (land d s count) count [] (land_checks p long v m d s) (land_plan p v m d s) (land_sends p m.state d s ss)
      (λ e. land_ok p h off v m ss n x.live (lent_inflight (fits e)) (lent_table (fits e)) d s (land_asked p long v m d s e)) uncut open? sent
    where
      fits : first_refusal (land_checks p long v m d s) ≡ none → long ≡ true
      fits e = (land_passed p long v m d s e).lent

      uncut : is_cut_of (land_plan p v m d s).answer ≡ false
      uncut = unfold land_plan is_cut_of kind in refl

      open? : finished (land_plan p v m d s).answer ≡ false
      open? = unfold land_plan finished kind in refl

      sent : sent_after (land d s count) (land_plan p v m d s).answer ss ≡ land_sends p m.state d s ss
      sent =
          unfold sent_after ends_run is_cut_of finished kind land_plan acked_by sent_by values land_sends land_count in append-nil
          (cond (ltb 0 (cond (completes p m.state (slot_of m.state s) d) (writes_in m.state (slot_of m.state s)) 0))
          (map (acknowledge s) ss) ss)

  close_next : (count : ℕ) → Goal (close count)
  unfolding call_disk call_on store_count lent_block verdict close_verdict
  close_next count = decided-next (close count) count [] (close_checks p long v m) (close_plan p m) ss (λ e. close_ok p h off v m ss n x.live (lent_inflight (fits e)) long e) uncut open? sent
    where
      fits : first_refusal (close_checks p long v m) ≡ none → long ≡ true
      fits e = (close_passed p long v m e).lent

      uncut : is_cut_of (close_plan p m).answer ≡ false
      uncut = unfold close_plan is_cut_of kind in refl

      open? : finished (close_plan p m).answer ≡ false
      open? = unfold close_plan finished kind in refl

      sent : sent_after (close count) (close_plan p m).answer ss ≡ ss
      sent = unfold sent_after ends_run is_cut_of finished kind close_plan acked_by sent_by in append-nil ss

  -- 02, item 1: a closing, or nothing
  empty_next : (a count : ℕ) → Goal (write a [] count)
  unfolding call_disk call_on store_count lent_block verdict empty_verdict empty_plan
  empty_next a count = decided-next (write a [] count) count [] (empty_checks p long v m a) (empty_plan p m) ss (λ e. ok e (has_filling p m.state) refl)
      (uncut (has_filling p m.state)) (open? (has_filling p m.state)) (sent (has_filling p m.state))
    where
      ok : first_refusal (empty_checks p long v m a) ≡ none → (t : Bool) → has_filling p m.state ≡ t → CallOk p h off x.live.g v (cond t (close_plan p m) (mk_plan [] Nothing m [])) ss ss n
      ok e true f = close_ok p h off v m ss n x.live (lent_inflight (empty_passed p long v m a e).lent) long (empty_asks p long v m a f e)
      ok e false f = same_ok p h off v m ss n x.live Nothing []

      uncut : (t : Bool) → is_cut_of (cond t (close_plan p m) (mk_plan [] Nothing m [])).answer ≡ false
      uncut true = unfold close_plan is_cut_of kind in refl
      uncut false = unfold is_cut_of kind in refl

      open? : (t : Bool) → finished (cond t (close_plan p m) (mk_plan [] Nothing m [])).answer ≡ false
      open? true = unfold close_plan finished kind in refl
      open? false = unfold finished kind in refl

      sent : (t : Bool) → sent_after (write a [] count) (cond t (close_plan p m) (mk_plan [] Nothing m [])).answer ss ≡ ss
      sent true = unfold sent_after ends_run is_cut_of finished kind close_plan acked_by sent_by cons_if in append-nil ss
      sent false = unfold sent_after ends_run is_cut_of finished kind acked_by sent_by cons_if in append-nil ss

  reclaim_next : (count : ℕ) → Goal (reclaim count)
  unfolding call_disk call_on store_count lent_block verdict reclaim_verdict_in reclaim_plan
  reclaim_next count =
      decided-next (reclaim count) count [] (reclaim_checks p long v m (victim p v m.addresses)) (reclaim_plan p v m) ss
      (λ e. reclaim_ok p h off v m ss n x.live (lent_inflight (fits e)) long e) uncut open? sent
    where
      w : Opt Victim
      w = victim p v m.addresses

      fits : first_refusal (reclaim_checks p long v m (victim p v m.addresses)) ≡ none → long ≡ true
      fits e = (reclaim_passed p long v m (victim p v m.addresses) e).lent

      uncut : is_cut_of (reclaim_plan p v m).answer ≡ false
      uncut = go (is_nil (victim_live w))
        where
          go : (t : Bool) → is_cut_of (cond t (reset_plan p m (victim_segment w)) (copy_plan p v m (first_or 0 (idle p v m.state w)))).answer ≡ false
          go true = unfold reset_plan is_cut_of kind in refl
          go false = unfold copy_plan is_cut_of kind in refl

      open? : finished (reclaim_plan p v m).answer ≡ false
      open? = go (is_nil (victim_live w))
        where
          go : (t : Bool) → finished (cond t (reset_plan p m (victim_segment w)) (copy_plan p v m (first_or 0 (idle p v m.state w)))).answer ≡ false
          go true = unfold reset_plan finished kind in refl
          go false = unfold copy_plan finished kind in refl

      sent : sent_after (reclaim count) (reclaim_plan p v m).answer ss ≡ ss
      sent = go (is_nil (victim_live w))
        where
          go : (t : Bool) → sent_after (reclaim count) (cond t (reset_plan p m (victim_segment w)) (copy_plan p v m (first_or 0 (idle p v m.state w)))).answer ss ≡ ss
          go true = unfold reset_plan sent_after ends_run is_cut_of finished kind acked_by sent_by in append-nil ss
          go false = unfold copy_plan sent_after ends_run is_cut_of finished kind acked_by sent_by in append-nil ss

  read_next : (a : ℕ) → Goal (read a)
  unfolding call_disk call_on store_count lent_block verdict read_verdict read_plan
  read_next a = decided-next (read a) 0 [] (read_checks p long v m a) (read_plan p v m a) ss (λ e. same_ok p h off v m ss n x.live (read_plan p v m a).answer []) q.uncut q.open? (q.sent ss)
    where
      q : GoesOn (read a) (read_plan p v m a).answer
      q = read_goes_on p v m a

  fill_next : (a : ℕ) (b : List ℕ) → Goal (fill a b)
  unfolding call_disk call_on store_count lent_block verdict fill_verdict fill_plan
  fill_next a b =
      decided-next (fill a b) 0 b (read_checks p (long && eqb (length b) p.B) v m a) (fill_plan p v m a) ss
      (λ e. same_ok p h off v m ss n x.live (fill_plan p v m a).answer (fill_plan p v m a).block) q.uncut q.open? (q.sent ss)
    where
      q : GoesOn (fill a b) (fill_plan p v m a).answer
      q = fill_goes_on p v m a b

  -- a rebuild is refused: no drive is missing
  no_rebuild : (d : ℕ) → first_refusal (rebuild_checks p long v m d (segments p v (named d))) ≡ none → ⊥
  no_rebuild d e =
      let c = rebuild_passed p long v m d (segments p v (named d)) e in
      let f : named d ≡ 0 = sym c.names ∙ x.live.rel.healthy in
      clash {b = eqb (named d) 0} (eq-eqb (named d) 0 f) (named_not_zero d (omega (arith, c.drive_low, h.drives_high)))

  pub rebuild_refused : (d count : ℕ) → is_refused (call_disk p off k m (rebuild d count)).answer ≡ true
  unfolding call_disk call_on verdict rebuild_verdict
  rebuild_refused d count = go (first_refusal (rebuild_checks p long v m d (segments p v (named d)))) refl
    where
      q : Plan
      q = mk_plan (rebuild_stores p v d (segments p v (named d))) Rebuilt m []

      go :
          (o : Opt Answer)
          → first_refusal (rebuild_checks p long v m d (segments p v (named d))) ≡ o
          → is_refused (outcome p (store_disk p) (store_count (rebuild d count)) k m (lent_block (rebuild d count)) (decided o q)).answer ≡ true
      go none e = absurd (no_rebuild d e)
      go (some a) e = unfold decided outcome in refusal_kind (rebuild_checks p long v m d (segments p v (named d))) a e

  rebuild_next : (d count : ℕ) → Goal (rebuild d count)
  unfolding call_disk call_on store_count lent_block verdict rebuild_verdict
  rebuild_next d count =
      decided-next (rebuild d count) count [] (rebuild_checks p long v m d (segments p v (named d)))
      (mk_plan (rebuild_stores p v d (segments p v (named d))) Rebuilt m []) ss (λ e. absurd (no_rebuild d e)) uncut open? sent
    where
      uncut : is_cut_of Rebuilt ≡ false
      uncut = unfold is_cut_of kind in refl

      open? : finished Rebuilt ≡ false
      open? = unfold finished kind in refl

      sent : sent_after (rebuild d count) Rebuilt ss ≡ ss
      sent = unfold sent_after ends_run is_cut_of finished kind acked_by sent_by in append-nil ss

  -- every call of a healthy run other than restart
  pub call_next : (c : Call) → restart_of c ≡ none → Next p h off x.live.g n (call_disk p off k m c) (sent_after c (call_disk p off k m c).answer ss)
  call_next (write a [] count) e = empty_next a count
  call_next (write a (y ∷ b) count) e = write_next a y b count
  call_next (land d s count) e = land_next d s count
  call_next (close count) e = close_next count
  call_next (reclaim count) e = reclaim_next count
  call_next (read a) e = read_next a
  call_next (fill a b) e = fill_next a b
  call_next (restart d count) e = absurd (let z : ◌≡◌ {A = ℕ} 0 1 = boot e in let q : ⊥ = omega arith in q)
    where
      boot : restart_of (restart d count) ≡ none → ◌≡◌ {A = ℕ} 0 1
      boot e = unfold restart_of in cc
  call_next (rebuild d count) e = rebuild_next d count
