-- The three ends of a write: refused, cut, done (01, Write; Store count). Assumes nothing.
use Rattle.std.specs.Prelude.{Ok, Err, ℕ, suc, ◌≤◌, ◌<◌, take, replicate, Bool, true, false, cond, not, ◌≡◌}
use Rattle.spec.specs.Answers.{kind, is_refused, is_cut_of}
use Rattle.spec.specs.Calls.{After, mk_after, cut_memory}
use Rattle.spec.specs.Counts.{last_count, a_stamp}
use Rattle.spec.specs.Drives.{Store, Disk, store_disk, store_all}
use Rattle.spec.specs.Engine.{lent_ok_of, call_disk}
use Rattle.spec.specs.Engine.Call.{write}
use Rattle.spec.specs.Lists.{is_nil}
use Rattle.spec.specs.Lists.Opt.{none, some}
use Rattle.spec.specs.Memory.{Memory, mk_memory, zero_state, has_filling, set_stamp, set_open}
use Rattle.spec.specs.Params.{data_count, addresses_len, compact_len}
use Rattle.spec.specs.Write.{opens, Sending, opened_by, slot_for, sending, write_checks, write_plan, write_verdict_in}
use Rattle.spec.specs.declared.Answer.TheVariants.{Cut, Sent}
use Rattle.spec.specs.declared.Params.{Params}
use Rattle.spec.specs.declared.State.{State}
use Rattle.call_filling.specs.Aims.{aim_of}
use Rattle.call_filling.specs.Entries.{SentRow, sent_row, front_as, row_filled, slot_fills, start_room, sending_row}
use Rattle.call_filling.specs.Left.{open_stores, OpeningStores}
use Rattle.call_filling.specs.declared.Aim.{Aim}
use Rattle.call_filling.specs.declared.Opened.{Opened}
use Rattle.law_basic.specs.Geometry.{ranged, data_count_high}
use Rattle.law_calls.specs.Refusals.{call_refused, call_done, call_cut}
use Rattle.law_calls.specs.Slots.{slot_lt}
use Rattle.mem_rows.specs.Refused.{refused_state}
use Rattle.mem_rows.specs.Rows.{RowsSized, slot_row, put_row, put_front, state_after, after_change, front_of, after-cut, after_done, changed_row}
use Rattle.mem_rows.specs.declared.Change.{Change}
use Rattle.mem_rows.specs.declared.Front.{Front}
use Rattle.mem_rows.specs.declared.Row.{Row}
use Rattle.law_views.specs.Views.{seen}
use Rattle.call_write.specs.Ready.{write_ready, write_refusal, planned, planned_row}
use Rattle.law_checks.specs.Empty.{write_leaves}
use Rattle.std.proofs.Common.{ltb-true, ltb-false, ◌∙◌, subst, arith}
use Rattle.std.proofs.Math.Arith.{lt_of_le-ne}
use Rattle.std.proofs.Math.ListN.{length}
use mathlib.Core.List.{List}
use Rattle.std.proofs.Math.Path.{refl, sym, ap}

module _ (p : Params) (off : List ℕ) (k : Disk) (m : Memory) (a : ℕ) (b : List ℕ) (n : ℕ) (some_bytes : is_nil b ≡ false) where
  -- 01, Store count: a refusal changes nothing
  pub write_refused : (c : Change) → write_refusal p off k m a b ≡ some c.answer
      → after_change m.state c k.image k.pointers m.addresses m.compact m.inflight b ≡ call_disk p off k m (write a b n)
  unfolding write_verdict_in
  write_refused c e =
      ap (λ (x : State). mk_after c.answer k (mk_memory x m.addresses m.compact m.inflight) b) (refused_state (write_checks p (lent_ok_of p off k m) (seen p off k) m a b) m.state c e)
      ∙ sym (call_refused p (store_disk p) n k m b (write_refusal p off k m a b) (write_plan p (seen p off k) m a b) c.answer e)
      ∙ write_leaves p off k m a b n some_bytes

  write_plan_stores : (write_plan p (seen p off k) m a b).stores ≡ open_stores p off k m.state
  unfolding write_plan sending
  write_plan_stores = refl

  -- just so many stores
  write_cut : write_refusal p off k m a b ≡ none → n < length (open_stores p off k m.state)
      → mk_after Cut (store_all (store_disk p) (take n (open_stores p off k m.state)) k) (cut_memory p m) b ≡ call_disk p off k m (write a b n)
  unfolding write_verdict_in write_plan sending
  write_cut e h = sym (call_cut p (store_disk p) n k m b (write_refusal p off k m a b) (write_plan p (seen p off k) m a b) e h) ∙ write_leaves p off k m a b n some_bytes

  -- what is sent
  abbrev sent : Sending
  sent = sending p (seen p off k) m.state m.inflight a (suc m.state.stamp.0) 1 b

  -- what a block sent leaves, the stores made
  abbrev leaves : Sending → List Store → After Disk
  leaves q ss =
      let t = suc m.state.stamp.0 in
      mk_after (Sent (a_stamp t) q.stripe q.drive) (store_all (store_disk p) (take n ss) k) (mk_memory (set_stamp q.state t) m.addresses m.compact q.inflight) b

  -- all of them
  write_done : write_refusal p off k m a b ≡ none → length (open_stores p off k m.state) ≤ n → leaves sent (open_stores p off k m.state) ≡ call_disk p off k m (write a b n)
  unfolding write_verdict_in write_plan
  write_done e h =
      ap (leaves sent) (sym write_plan_stores)
      ∙ sym (call_done p (store_disk p) n k m b (write_refusal p off k m a b) (write_plan p (seen p off k) m a b) e (subst (λ (x : List Store). length x ≤ n) (sym write_plan_stores) h))
      ∙ write_leaves p off k m a b n some_bytes

-- opening a segment gives stripe 0 next, or leaves the next one
pub opened_next : (p : Params) (st : State) (n : ℕ) → st.next < n → (opened_by p st).next < n
unfolding opened_by set_open
opened_next p st n h = go (opens p st)
  where
    go : (c : Bool) → (cond c (set_open st (suc st.serial.0)) st).next < n
    go true = omega arith
    go false = h

-- 01, Store count: what a cut leaves of the memory
pub cut_memory_lem : (p : Params) (m : Memory) (st : State) (ad co : List ℕ) → length m.addresses ≡ addresses_len p → length m.compact ≡ compact_len p
    → st ≡ zero_state → ad ≡ replicate (length m.addresses) 0 → co ≡ replicate (length m.compact) 0 → mk_memory st ad co m.inflight ≡ cut_memory p m
unfolding cut_memory
cut_memory_lem p m st ad co h g s e f =
    λ j. mk_memory (s j) ((e ∙ ap (λ (x : ℕ). replicate x 0) h) j) ((f ∙ ap (λ (x : ℕ). replicate x 0) g) j) m.inflight

-- 01, Store count: the state that a cut leaves
pub state_cut : (st : State) (c : Change) → c.answer ≡ Cut → state_after st c ≡ zero_state
unfolding is_refused is_cut_of kind
state_cut st c e = after-cut st c (ap is_refused e) (ap is_cut_of e)

-- ---- what the code leaves at each end

module _ (p : Params) (off : List ℕ) (k : Disk) (m : Memory) (a : ℕ) (b : List ℕ) (n : ℕ) (some_bytes : is_nil b ≡ false) (none! : write_refusal p off k m a b ≡ none)
    (k' : Disk) where
  -- 01, Write: what a block asks of the state with its segment open
  write_plan_ready : (o : Opened) → OpeningStores p off m.state n k (Ok o) k' → m.state.stamp.0 < 18446744073709551616
      → (slot_for p m.state < 8) × (not (has_filling p m.state) ≡ false → (slot_row m.state (slot_for p m.state)).filled < data_count p) × (o.next < 4294967295)
      × (m.state.stamp.0 < last_count)
  write_plan_ready o h fit =
      let r = write_ready p off k m a b none! in
      let st = m.state in
      let i = slot_for p st in
      let s : i < 8 = slot_lt p st r.waits in
      let x : (opened_by p st).next < 4294967295 = opened_next p st 4294967295 (omega (arith, r.next_high, (ranged p r.ranged).stripes_high)) in
      (s, λ e. subst (λ (y : ℕ). y < data_count p) (sym (row_filled st i)) (slot_fills p st e s), omega (arith, h.front.next, x), lt_of_le-ne (omega arith) r.stamp_left)

  -- cut
  pub ends_write_cut : OpeningStores p off m.state n k (Err (record {})) k' → (c : Change) (ad co : List ℕ) → c.answer ≡ Cut
      → ad ≡ replicate (length m.addresses) 0 → co ≡ replicate (length m.compact) 0
      → after_change m.state c k'.image k'.pointers ad co m.inflight b ≡ call_disk p off k m (write a b n)
  ends_write_cut h c ad co e f g =
      let w = write_ready p off k m a b none! in
      let q : mk_memory (state_after m.state c) ad co m.inflight ≡ cut_memory p m =
      cut_memory_lem p m (state_after m.state c) ad co w.addresses_long w.compact_long (state_cut m.state c e) f g in
      (λ j. mk_after (e j) (h.disk j) (q j) b)
      ∙ write_cut p off k m a b n some_bytes none! (ltb-true n (length (open_stores p off k m.state)) (sym h.cut))

  module _ (o : Opened) (h : OpeningStores p off m.state n k (Ok o) k') (sized : RowsSized m.state) where
    abbrev st : State
    st = m.state

    abbrev at : ℕ
    at = slot_for p st

    -- the block sent, the next stripe number being x
    abbrev sent_at : ℕ → SentRow
    sent_at x = sent_row p (slot_row st at) m.inflight at (not (has_filling p st)) x a (suc st.stamp.0) 1 b

    -- the state after a write, with the numbers in front
    write-state :
        state_after st (planned (front_of st) (aim_of p st) o (sent_at o.next))
        ≡ set_stamp (put_row (front_as st o.serial.0 o.opened (sent_at o.next).next) at (sent_at o.next).row) (suc st.stamp.0)
    unfolding is_refused is_cut_of kind put_row put_front set_stamp
    write-state =
        let c = planned (front_of st) (aim_of p st) o (sent_at o.next) in
        after_done st c refl refl ∙ changed_row st c (slot_lt p st (write_ready p off k m a b none!).waits)

    -- done
    ends_write_done : (c : Change) (fl : List ℕ) → c ≡ planned (front_of st) (aim_of p st) o (sent_at o.next) → fl ≡ (sent_at o.next).inflight
        → after_change st c k'.image k'.pointers m.addresses m.compact fl b ≡ call_disk p off k m (write a b n)
    ends_write_done c fl e f =
        let w = write_ready p off k m a b none! in
        let s = slot_lt p st w.waits in
        let d : data_count p < 8 = omega (arith, data_count_high p (ranged p w.ranged)) in
        let tt' = suc st.stamp.0 in
        let out : ℕ → ℕ → SentRow → After Disk = λ x y q. mk_after (Sent (a_stamp tt') q.row.number q.drive) k'
        (mk_memory (set_stamp (put_row (front_as st x y q.next) at q.row) tt') m.addresses m.compact q.inflight) b in
        (λ j. after_change st (e j) k'.image k'.pointers m.addresses m.compact (f j) b)
        ∙ ap (λ (x : State). mk_after (Sent (a_stamp tt') (sent_at o.next).row.number (sent_at o.next).drive) k'
        (mk_memory x m.addresses m.compact (sent_at o.next).inflight) b) write-state
        ∙ (λ j. out (h.front.serial j) (h.front.opened j) (sent_at (h.front.next j)))
        ∙ (λ j. let q = sending_row p st s sized (seen p off k) m.inflight a tt' 1 b (start_room p st s sized d) j in
        mk_after (Sent (a_stamp tt') q.stripe q.drive) (h.disk j) (mk_memory (set_stamp q.state tt') m.addresses m.compact q.inflight) b)
        ∙ write_done p off k m a b n some_bytes none! (ltb-false n (length (open_stores p off k st)) (sym h.cut))

  -- the same of the front, the aim and the stripe that the code has
  module _ (o : Opened) (h : OpeningStores p off m.state n k (Ok o) k') (f : Front) (same : f ≡ front_of m.state) (al : Aim) (aimed : al ≡ aim_of p m.state)
      (row : Row) (taken : row ≡ slot_row m.state al.slot) where
    slot_row_is : row ≡ slot_row m.state (slot_for p m.state)
    slot_row_is = taken ∙ ap (λ (x : Aim). slot_row m.state x.slot) aimed

    pub plan_asks : m.state.stamp.0 < 18446744073709551616 → (al.slot < 8) × (al.begins ≡ false → row.filled < data_count p) × (o.next < 4294967295) × (f.stamp.0 < last_count)
    plan_asks fit =
        let q = write_plan_ready o h fit in (
          subst (λ (x : Aim). x.slot < 8) (sym aimed) q.0,
          λ e. subst (λ (x : Row). x.filled < data_count p) (sym slot_row_is) (q.1 (ap (λ (x : Aim). x.begins) (sym aimed) ∙ e)),
          q.2,
          subst (λ (x : Front). x.stamp.0 < last_count) (sym same) q.3,
        )

    pub ends_plan : RowsSized m.state → (c : Change) (fl : List ℕ) → c ≡ planned f al o (planned_row p row m.inflight f al o a b)
        → fl ≡ (planned_row p row m.inflight f al o a b).inflight
        → after_change m.state c k'.image k'.pointers m.addresses m.compact fl b ≡ call_disk p off k m (write a b n)
    ends_plan z c fl e g =
        ends_write_done o h z c fl (e ∙ (λ j. planned (same j) (aimed j) o (planned_row p (slot_row_is j) m.inflight (same j) (aimed j) o a b)))
        (g ∙ (λ j. (planned_row p (slot_row_is j) m.inflight (same j) (aimed j) o a b).inflight))
