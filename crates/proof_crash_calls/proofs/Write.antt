-- Closing and write: what they do is what the machine does. Assumes nothing.
use Rattle.std.specs.Prelude.{◌≡◌, Bool, false, cond, ◌≢◌, ℕ, suc, ◌-◌, ◌≤◌, ◌<◌, leb, length, take}
use Rattle.std.proofs.Math.Path.{refl}
use Rattle.std.proofs.Common.{sym, ap, ◌∙◌, subst, inl, inr, leb-false}
use mathlib.Core.List.{List, [], ◌∷◌, ◌++◌, map}
use Rattle.std.proofs.Math.Bool.{true}
use Rattle.std.proofs.Math.Decide.{dec_lt}
use Rattle.std.proofs.lemmas.Bool.{eqb-false}
use native.Mathlib.Omega.{arith}
use Rattle.std.proofs.Math.Seq.{take-nil}
use Rattle.spec.specs.declared.Params.{Params}
use Rattle.spec.specs.declared.State.{State}
use Rattle.spec.specs.declared.Answer.{Answer}
use Rattle.spec.specs.Calls.{first_refusal, mk_plan}
use Rattle.spec.specs.Closing.{padded, close_checks, close_plan}
use Rattle.spec.specs.Demands.{send_at}
use Rattle.spec.specs.Drives.{View, Store, store_view_of, store_all, empty_count}
use Rattle.spec.specs.History.{Send, mk_send, forget}
use Rattle.spec.specs.Layout.{mk_rec}
use Rattle.spec.specs.Lists.Opt.{none}
use Rattle.spec.specs.Memory.{Memory, stripe_in, filled_in_of, filling_slot, has_filling, set_stamp}
use Rattle.spec.specs.Params.{data_count, inflight_len}
use Rattle.spec.specs.Write.{opens, no_stamp, scarce, placed, opened_by, slot_for, begun_by, sending, write_checks, write_plan}
use Rattle.law_basic.specs.Geometry.{Ranged}
use Rattle.law_checks.specs.Passed.{close_passed, write_passed}
use Rattle.proof_crash_machine.specs.Facts.{Ghost, InV}
use Rattle.proof_crash_machine.specs.Ghosts.{with_sent}
use Rattle.proof_crash_machine.specs.History.Mode.{off as m-off, run}
use Rattle.proof_crash_machine.specs.History.{Inv}
use Rattle.proof_crash_machine.specs.History.Step.{lose}
use Rattle.proof_crash_machine.specs.Memory.{Mem}
use Rattle.proof_crash_machine.specs.Order.{sent_to, no_track}
use Rattle.proof_crash_machine.specs.Val.{Val}
use Rattle.proof_crash_items.specs.Items.{value_of}
use Rattle.proof_crash_items.specs.Ranges.{par_of}
use Rattle.proof_crash_calls.proofs.Fill.{pad-all}
use Rattle.proof_crash_calls.specs.Go.{mst, Later, later_same, Go, go_step, go_then, go_inv}
use Rattle.proof_crash_calls.specs.Held.{TableOk}
use Rattle.proof_crash_calls.proofs.Held.{entry_sent, table_to}
use Rattle.proof_crash_calls.specs.Live.{Live, Stopped, CallOk}
use Rattle.proof_crash_calls.proofs.Live.{live_inv, live_after, live_cut, live_stamps, live_acks, live_within, live_drives}
use Rattle.proof_crash_calls.specs.Rel.{in_use_of, Rel, Waiting}
use Rattle.proof_crash_calls.proofs.Sending.{Asked, filling_slot_lem, Target, send_stores, target, target-entries}
use Rattle.proof_crash_calls.proofs.Sends.{value_addr, value_stamp, value_blk, length-sent, old_send, new_send, old_log, new_log, old_pos, new_pos, sent_logged}
use Rattle.proof_crash_calls.specs.Sends.{SameSend, Logged, Waits}
use Rattle.proof_crash_calls.proofs.Take.{stamped_mem, stamp_rel, stamp_waits, taken_mem, taken_rel, taken_waits, taken_new, sent_go}

-- ---- closing

module _ (p : Params) (h : Ranged p) (off : List ℕ) (v : View) (m : Memory) (ss : List Send) (n : ℕ) (l : Live p h off v m.state m.inflight m.addresses ss n) where
  pub no_store : (k : ℕ) → (x : Stopped p h off (store_all store_view_of (take k []) v) (map forget ss) n) × Later l.g x.g
  unfolding store_all
  no_store k = live_cut p h off v m.state m.inflight m.addresses ss n l [] k l.u l.g (rw (take-nil {A = Store} k) l.reached.tie) (later_same l.g)
      (go_step (par_of p h off) (mst l.g l.u l.a l.c (run l.M)) (mst l.g l.u l.a l.c m-off) l.T (lose (mst l.g l.u l.a l.c (run l.M))))

  -- a call that changes nothing
  pub same_ok : (r : Answer) (b : List ℕ) → CallOk p h off l.g v (mk_plan [] r m b) ss ss n
  unfolding store_all
  same_ok r b = record { sound = tt; done = (l, later_same l.g); cut = no_store }

  pub close_ok : length m.inflight ≡ inflight_len p → (long : Bool) → first_refusal (close_checks p long v m) ≡ none → CallOk p h off l.g v (close_plan p m) ss ss n
  unfolding close_plan store_all
  close_ok fits long e =
      let f : has_filling p m.state ≡ true = (close_passed p long v m e).filling in
      let s : (filling_slot p m.state < 8) × (in_use_of m.state (filling_slot p m.state) ≡ true)
      × (filled_in_of m.state (filling_slot p m.state) < data_count p) = filling_slot_lem p m.state f in
      record {
        sound = tt;
        done = live_within p h off v m.state m.inflight m.addresses ss n l
            (padded p (filling_slot p m.state) (data_count p - filled_in_of m.state (filling_slot p m.state)) m.state m.inflight).state
            (padded p (filling_slot p m.state) (data_count p - filled_in_of m.state (filling_slot p m.state)) m.state m.inflight).inflight
            (pad-all p h off l.g l.u l.a l.c (data_count p - filled_in_of m.state (filling_slot p m.state)) m.state m.inflight l.M l.rel
            (live_inv p h off v m.state m.inflight m.addresses ss n l) fits (filling_slot p m.state) s.0 s.1 (omega (arith, s.2)));
        cut = no_store;
      }

-- ---- write

-- what a write's checks say
pub record WriteAsked (p : Params) (v : View) (st : State) (ad : ℕ) (b : List ℕ) : Type 0 where
  pub block : length b ≡ p.B
  pub address : ad < p.L
  pub stamp : st.stamp.0 ≢ 18446744073709551615
  pub asked : Asked p v st

pub write_asked : (p : Params) (long : Bool) (v : View) (m : Memory) (ad : ℕ) (b : List ℕ) → first_refusal (write_checks p long v m ad b) ≡ none → WriteAsked p v m.state ad b
write_asked p long v m ad b e =
    let c = write_passed p long v m ad b e in
    record {
      block = c.block_long;
      address = c.address_low;
      stamp = last c.stamp_left;
      asked = record {
        ok = c.state_fine;
        waits = c.no_wait;
        serial = c.serial_left;
        room = λ o. room o c.room;
      };
    }
  where
    last : no_stamp m.state ≡ false → m.state.stamp.0 ≢ 18446744073709551615
    last x = eqb-false m.state.stamp.0 18446744073709551615 (unfold no_stamp in x)

    room : opens p m.state ≡ true → scarce p v (cond (opens p m.state) 2 1) ≡ false → 2 ≤ empty_count p v
    room o x =
        let y : 2 < empty_count p v = leb-false (empty_count p v) 2 (subst (λ (t : Bool). leb (empty_count p v) (cond t 2 1) ≡ false) o (unfold scarce in x)) in omega arith

-- the answer's stripe
unfoldable pub sent_stripe : Params → State → ℕ
sent_stripe p st = stripe_in (begun_by p st (opened_by p st)) (slot_for p st)

module _ (p : Params) (h : Ranged p) (off : List ℕ) (v : View) (m : Memory) (ss : List Send) (n : ℕ) (l : Live p h off v m.state m.inflight m.addresses ss n)
    (fits : length m.inflight ≡ inflight_len p)
    (ad : ℕ) (b : List ℕ) (A : WriteAsked p v m.state ad b) where
  abbrev st : State
  st = m.state

  abbrev fl : List ℕ
  fl = m.inflight

  abbrev t : ℕ
  t = suc m.state.stamp.0

  abbrev st₂ : State
  st₂ = begun_by p m.state (opened_by p m.state)

  abbrev i : ℕ
  i = slot_for p m.state

  abbrev ws : List Store
  ws = send_stores p v m.state

  inv_write : Inv (par_of p h off) (mst l.g l.u l.a l.c (run l.M))
  inv_write = live_inv p h off v m.state m.inflight m.addresses ss n l

  abbrev pub aim : Target p h off l.g v l.u l.a l.c m.state m.inflight l.M (send_stores p v m.state) (begun_by p m.state (opened_by p m.state)) (slot_for p m.state)
  aim = target p h off l.g v l.u l.a l.c m.state m.inflight l.M l.rel (live_inv p h off v m.state m.inflight m.addresses ss n l)
      (live_drives p h off v m.state m.inflight m.addresses ss n l) A.asked

  inv_aimed : Inv (par_of p h off) (mst aim.g' aim.u₂ l.a l.c (run aim.M₂))
  inv_aimed = go_inv (par_of p h off) (mst l.g l.u l.a l.c (run l.M)) (mst aim.g' aim.u₂ l.a l.c (run aim.M₂)) no_track no_track (aim.go no_track) inv_write

  abbrev s : ℕ
  s = stripe_in (begun_by p m.state (opened_by p m.state)) (slot_for p m.state)

  abbrev x : Val
  x = value_of b (mk_rec ad (suc m.state.stamp.0) (stripe_in (begun_by p m.state (opened_by p m.state)) (slot_for p m.state)))

  abbrev y : Send
  y = mk_send ad (suc m.state.stamp.0) b (stripe_in (begun_by p m.state (opened_by p m.state)) (slot_for p m.state)) true false

  stamp_now : l.M.stamp ≡ m.state.stamp.0
  stamp_now = l.rel.stamp

  abbrev Mt : Mem
  Mt = taken_mem p h off aim.g' aim.u₂ l.a l.c st₂ fl aim.M₂ aim.U aim.rel inv_aimed fits i aim.low aim.used? aim.room ad t 1 b A.block

  abbrev st₃ : State
  st₃ = (placed p (begun_by p m.state (opened_by p m.state)) m.inflight (slot_for p m.state) ad (suc m.state.stamp.0) 1 b).state

  go_all :
      Go (par_of p h off) (mst l.g l.u l.a l.c (run l.M))
      (mst (with_sent aim.g' (x ∷ aim.g'.sent)) aim.u₂ l.a true (run (stamped_mem Mt t))) l.T (sent_to l.T x)
  go_all = go_then (par_of p h off) (mst l.g l.u l.a l.c (run l.M)) (mst aim.g' aim.u₂ l.a l.c (run aim.M₂))
      (mst (with_sent aim.g' (x ∷ aim.g'.sent)) aim.u₂ l.a true (run (stamped_mem Mt t))) l.T l.T (sent_to l.T x) (aim.go l.T)
      (subst (λ (k : ℕ). Go (par_of p h off) (mst aim.g' aim.u₂ l.a l.c (run aim.M₂))
      (mst (with_sent aim.g' (x ∷ aim.g'.sent)) aim.u₂ l.a true (run (stamped_mem Mt k))) l.T (sent_to l.T x))
      (value_stamp b (mk_rec ad t s))
      (sent_go p h off aim.g' aim.u₂ l.a l.c st₂ fl aim.M₂ aim.U aim.rel inv_aimed fits i aim.low aim.used? aim.room ad t 1 b A.block l.T
      (value_stamp b (mk_rec ad t s) ∙ ap suc (sym (aim.stamp ∙ stamp_now))) (subst (λ (k : ℕ). k < p.L) (sym (value_addr b (mk_rec ad t s))) A.address)))

  rel_all : Rel p aim.u₂ (set_stamp st₃ t) (placed p st₂ fl i ad t 1 b).inflight (stamped_mem Mt t)
  rel_all = stamp_rel p h aim.u₂ st₃ (placed p st₂ fl i ad t 1 b).inflight Mt t (omega (arith, l.rel.stamp_fits, A.stamp))
      (taken_rel p h off aim.g' aim.u₂ l.a l.c st₂ fl aim.M₂ aim.U aim.rel inv_aimed fits i aim.low aim.used? aim.room ad t 1 b A.block aim.cover)

  -- ---- the log
  same : SameSend p x y
  same = record { addr = value_addr b (mk_rec ad t s); stamp = value_stamp b (mk_rec ad t s); blk = value_blk b (mk_rec ad t s); long = A.block }

  up : l.M.stamp < x.stamp
  up = let e : x.stamp ≡ t = value_stamp b (mk_rec ad t s) in omega (arith, e, stamp_now)

  acked_stamp_low : (z : Val) → InV z l.a → z.stamp ≤ l.M.stamp
  acked_stamp_low = live_acks p h off v m.state m.inflight m.addresses ss n l

  logged : Logged p l.a (sent_to l.T x) (ss ++ (y ∷ []))
  logged = sent_logged p l.a l.T ss l.reached.logged x y same refl l.M.stamp up acked_stamp_low

  sent_waits : Waits p (with_sent aim.g' (x ∷ aim.g'.sent)) (set_stamp st₃ t) (stamped_mem Mt t) (sent_to l.T x) (ss ++ (y ∷ []))
  sent_waits j b' q = go (dec_lt j (length ss))
    where
      G : Ghost
      G = with_sent aim.g' (x ∷ aim.g'.sent)

      old_log' : (j : ℕ) → j < length ss → (sent_to l.T x).log j ≡ l.T.log j
      old_log' = old_log p l.a l.T ss l.reached.logged x y same refl l.M.stamp up acked_stamp_low

      go : Dec (j < length ss) → Waiting p (set_stamp st₃ t) (stamped_mem Mt t) ((sent_to l.T x).log j) (send_at (ss ++ (y ∷ [])) j).stripe × InV ((sent_to l.T x).log j) (x ∷ aim.g'.sent)
          × ((sent_to l.T x).pos ((sent_to l.T x).log j).stamp ≡ j)
      go (yes k) =
          let e : send_at (ss ++ (y ∷ [])) j ≡ send_at ss j = old_send p l.a l.T ss l.reached.logged x y same refl l.M.stamp up acked_stamp_low j k in
          let w : Waiting p m.state l.M (l.T.log j) (send_at ss j).stripe × InV (l.T.log j) l.g.sent × (l.T.pos (l.T.log j).stamp ≡ j) =
          l.waits j k (ap (λ (z : Send). z.waits) (sym e) ∙ q) in
          let f : Waiting p (set_stamp st₃ t) (stamped_mem Mt t) (l.T.log j) (send_at ss j).stripe =
          stamp_waits p st₃ Mt t (l.T.log j) (send_at ss j).stripe
          (taken_waits p h off aim.g' aim.u₂ l.a l.c st₂ fl aim.M₂ aim.U aim.rel inv_aimed fits i aim.low aim.used? aim.room ad t 1 b A.block
          aim.cover (inr refl)
          (l.T.log j) (send_at ss j).stripe (aim.waits (l.T.log j) (send_at ss j).stripe w.0)) in (
            subst (λ (z : Val). Waiting p (set_stamp st₃ t) (stamped_mem Mt t) z (send_at (ss ++ (y ∷ [])) j).stripe) (sym (old_log' j k))
                (subst (λ (z : Send). Waiting p (set_stamp st₃ t) (stamped_mem Mt t) (l.T.log j) z.stripe) (sym e) f),
            subst (λ (z : Val). InV z (x ∷ aim.g'.sent)) (sym (old_log' j k)) (inr (subst (λ (z : List Val). InV (l.T.log j) z) (sym aim.sent) w.1)),
            ap (λ (z : Val). (sent_to l.T x).pos z.stamp) (old_log' j k)
                ∙ old_pos p l.a l.T ss l.reached.logged x y same refl l.M.stamp up acked_stamp_low (l.T.log j).stamp
                (live_stamps p h off v m.state m.inflight m.addresses ss n l (l.T.log j) w.1)
                ∙ w.2,
          )
      go (no k) =
          let e : j ≡ length ss = omega (arith, b', k, length-sent p l.a l.T ss l.reached.logged x y same refl l.M.stamp up acked_stamp_low) in
          let f : (sent_to l.T x).log j ≡ x = ap (sent_to l.T x).log e ∙ new_log p l.a l.T ss l.reached.logged x y same refl l.M.stamp up acked_stamp_low in
          let o : send_at (ss ++ (y ∷ [])) j ≡ y = ap (send_at (ss ++ (y ∷ []))) e ∙ new_send p l.a l.T ss l.reached.logged x y same refl l.M.stamp up acked_stamp_low in (
            subst (λ (z : Val). Waiting p (set_stamp st₃ t) (stamped_mem Mt t) z (send_at (ss ++ (y ∷ [])) j).stripe) (sym f)
                (subst (λ (z : Send). Waiting p (set_stamp st₃ t) (stamped_mem Mt t) x z.stripe) (sym o) (stamp_waits p st₃ Mt t x s
                (taken_new p h off aim.g' aim.u₂ l.a l.c st₂ fl aim.M₂ aim.U aim.rel inv_aimed fits i aim.low aim.used? aim.room ad t 1 b A.block
                aim.cover refl))),
            inl f,
            ap (λ (z : Val). (sent_to l.T x).pos z.stamp) f ∙ new_pos p l.a l.T ss l.reached.logged x y same refl l.M.stamp up acked_stamp_low ∙ sym e,
          )

  sent_later : Later l.g (with_sent aim.g' (x ∷ aim.g'.sent))
  sent_later = record { un = aim.later.un; last = aim.later.last; sent = λ z k. inr (aim.later.sent z k) }

  table-sent : TableOk p h off (with_sent aim.g' (x ∷ aim.g'.sent)) aim.u₂ m.addresses
  table-sent = table_to p h off l.g (with_sent aim.g' (x ∷ aim.g'.sent)) l.u aim.u₂ m.addresses aim.base
      (λ q a e. entry_sent p h off aim.g' (x ∷ aim.g'.sent) aim.u₂ q a (target-entries p h off l.g v l.u l.a l.c m.state m.inflight l.M ws st₂ i aim q a e))
      l.table

  pub write_ok : CallOk p h off l.g v (write_plan p v m ad b) ss (ss ++ (mk_send ad (suc m.state.stamp.0) b (sent_stripe p m.state) true false ∷ [])) n
  unfolding write_plan sending send_stores sent_stripe
  write_ok = record {
    sound = aim.sound;
    done =
        live_after p h off v m.state m.inflight m.addresses ss n l (send_stores p v m.state) aim.u₂
        (with_sent aim.g' (x ∷ aim.g'.sent)) aim.tie l.a true (stamped_mem Mt t) (sent_to l.T x)
        (set_stamp st₃ t) (placed p st₂ fl i ad t 1 b).inflight m.addresses (ss ++ (y ∷ [])) sent_later go_all rel_all logged sent_waits
        (omega (arith, l.reached.marked, length-sent p l.a l.T ss l.reached.logged x y same refl l.M.stamp up acked_stamp_low))
        (λ e. absurd (let z : ⊥ = omega (arith, e, l.reached.marked, length-sent p l.a l.T ss l.reached.logged x y same refl l.M.stamp up acked_stamp_low) in z)) table-sent;
    cut = λ k. live_cut p h off v m.state m.inflight m.addresses ss n l (send_stores p v m.state) k (aim.cut k).1 (aim.cut k).0 (aim.cut k).3 (aim.cut k).2
        ((aim.cut k).4 l.T);
  }
