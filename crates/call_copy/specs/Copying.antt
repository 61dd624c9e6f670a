-- A copy: a block sent with its old stamp (01, Reclaim). Assumes nothing.
use Rattle.std.specs.Prelude.{Result, Ok, Err, ℕ, ◌+◌, ◌-◌, ◌*◌, ◌≤◌, ◌<◌, take, replicate, true, false, not, ◌≡◌}
use Rattle.call_reclaim_live.specs.Live.{drive_low}
use Rattle.spec.specs.Bytes.{part, splice}
use Rattle.spec.specs.Calls.{Plan, mk_plan, mk_after, cut_memory, outcome}
use Rattle.spec.specs.Calls.Verdict.{due}
use Rattle.spec.specs.Counts.{last_count, a_stamp}
use Rattle.spec.specs.Drives.{View, chunk_at, Store, Disk, store_disk, store_all, empty_count, record_at}
use Rattle.spec.specs.Segments.{place_segment}
use Rattle.spec.specs.Layout.{Rec}
use Rattle.spec.specs.declared.Seg.{Seg}
use Rattle.spec.specs.Answers.{kind, is_refused, is_cut_of}
use Rattle.spec.specs.Memory.{Memory, mk_memory, has_filling}
use Rattle.spec.specs.Params.{in_range, data_count, capacity, addresses_len, compact_len, inflight_len, offline_len, place_block, place_zone, place_drive, place_byte}
use Rattle.spec.specs.Reclaim.{copy_plan}
use Rattle.spec.specs.Write.{opens, must_wait, Sending, opened_by, slot_for, sending}
use Rattle.spec.specs.declared.Answer.TheVariants.{Cut, Copied}
use Rattle.spec.specs.declared.Params.{Params}
use Rattle.spec.specs.declared.State.{State}
use Rattle.call_filling.specs.Aims.{aim_of}
use Rattle.call_filling.specs.Entries.{SentRow, sent_row, front_as, row_filled, slot_fills, start_room, sending_row}
use Rattle.call_filling.specs.Left.{open_stores, OpeningStores}
use Rattle.call_filling.specs.declared.Aim.{Aim}
use Rattle.call_filling.specs.declared.Opened.{Opened}
use Rattle.disk_zones.specs.declared.TooFew.{TooFew}
use Rattle.law_basic.specs.Geometry.{Ranged, ranged, place_again, capacity-low, data_count_high, zone_low}
use Rattle.law_basic.specs.Splice.{length_part, part-splice}
use Rattle.law_basic.specs.Stores.{stores_all, done_all, cut_prefix}
use Rattle.law_calls.specs.Slots.{slot_lt}
use Rattle.mem_rows.specs.Rows.{RowsSized, slot_row, put_row, put_front, state_after, after_change, front_of, after_done, changed_row}
use Rattle.mem_rows.specs.declared.Change.{Change}
use Rattle.mem_rows.specs.declared.Front.{Front}
use Rattle.mem_rows.specs.declared.Row.{Row}
use Rattle.law_views.specs.Views.{Whole, seen, block_view}
use Rattle.call_write.specs.Ends.{opened_next, cut_memory_lem, state_cut}
use borrow.Author.Tests.{ltb-true, ltb-false}
use Rattle.std.proofs.Math.ListN.{length}
use mathlib.Core.List.{List, []}
use Rattle.std.proofs.Math.Path.{refl, sym, ap}
use Rattle.std.proofs.Common.{◌∙◌, subst, mod-lt, arith}

place_block_low : (p : Params) → Ranged p → (q : ℕ) → place_block p q < capacity p
unfolding place_block
place_block_low p r q = mod-lt q (omega (arith, capacity-low p r))

-- 01, Reclaim: address a with stamp t and block b go into the filling stripe, as no write
unfoldable pub sent_plan : Params → View → Memory → ℕ → ℕ → List ℕ → Plan
sent_plan p v m a t b =
    let w = sending p v m.state m.inflight a t 0 b in
    mk_plan w.stores (Copied (a_stamp t) w.stripe w.drive) (mk_memory w.state m.addresses m.compact w.inflight) []

-- 01, Reclaim: the copy of the block at place q of segment g, whose record is r
pub copy_sent : (p : Params) (v : View) (m : Memory) (q : ℕ) (g : Seg) (r : Rec) (b : List ℕ) → place_segment p v 0 q ≡ g → r ≡ record_at p v 0 (place_drive p q) g (place_block p q - 1)
    → b ≡ (chunk_at v (place_drive p q) (place_zone p q) (place_block p q)).block → sent_plan p v m r.address r.stamp b ≡ copy_plan p v m q
unfolding copy_plan sent_plan
copy_sent p v m q g r b es er eb =
    let e : r ≡ record_at p v 0 (place_drive p q) (place_segment p v 0 q) (place_block p q - 1) = er ∙ ap (λ (x : Seg). record_at p v 0 (place_drive p q) x (place_block p q - 1)) (sym es) in
    (λ j. sent_plan p v m (e j).address (e j).stamp (eb j))

-- the bytes of the block at a place
pub block_at : (p : Params) → Ranged p → (off : List ℕ) (k : Disk) → Whole p k → (q : ℕ) → q < p.N * p.Z * capacity p
    → (chunk_at (seen p off k) (place_drive p q) (place_zone p q) (place_block p q)).block ≡ part (place_byte p q) p.B k.image
block_at p r off k w q h =
    let hz : place_zone p q < p.Z = zone_low p r q in
    let hb : place_block p q < capacity p = place_block_low p r q in
    block_view p off k (place_drive p q) (place_zone p q) (drive_low p r q h) hz w (place_block p q) hb ∙ ap (λ (x : ℕ). part (place_byte p x) p.B k.image) (place_again p q)

-- a part copied to the front of a buffer
pub front_part : (l l' im s : List ℕ) (at n : ℕ) → l' ≡ splice l 0 s → s ≡ part at n im → at + n ≤ length im → n ≤ length l → part 0 n l' ≡ part at n im
front_part l l' im s at n e f h g =
    let m : length s ≡ n = ap length f ∙ length_part at n im h in
    let w : 0 + length s ≤ length l = omega (arith, m) in
    ap (part 0 n) e ∙ ap (λ (x : ℕ). part 0 x (splice l 0 s)) (sym m) ∙ part-splice l 0 s w ∙ f

-- what is so where a block is copied
pub record CopyReady (p : Params) (off : List ℕ) (k : Disk) (m : Memory) : Type 0 where
  pub in_range_holds : in_range p ≡ true
  pub whole : Whole p k
  pub offline_long : length off ≡ offline_len p
  pub addresses_long : length m.addresses ≡ addresses_len p
  pub compact_long : length m.compact ≡ compact_len p
  pub inflight_long : length m.inflight ≡ inflight_len p
  pub serial_left : opens p m.state ≡ true → m.state.serial.0 ≡ last_count → ⊥
  pub waits : must_wait p m.state ≡ false
  pub empties : opens p m.state ≡ true → 0 < empty_count p (seen p off k)
  pub next_high : m.state.next ≤ p.S

-- what a copy changes, the block sent as q says
abbrev pub copied_as : Front → Aim → Opened → ℕ → SentRow → Change
copied_as f al o t q = record {
  answer = Copied (a_stamp t) q.row.number q.drive;
  stamp = f.stamp;
  serial = o.serial;
  opened = o.opened;
  next = q.next;
  slot = al.slot;
  row = q.row;
}

-- ---- the two ends of a copy

module _ (p : Params) (off : List ℕ) (k : Disk) (m : Memory) (a t : ℕ) (b : List ℕ) (n : ℕ) (w : CopyReady p off k m) (k' : Disk) where
  abbrev st : State
  st = m.state

  abbrev at : ℕ
  at = slot_for p st

  copy_plan_stores : (sent_plan p (seen p off k) m a t b).stores ≡ open_stores p off k m.state
  unfolding sent_plan sending
  copy_plan_stores = refl

  due_disk : (r : Result Opened TooFew) → OpeningStores p off m.state n k r k' → k' ≡ store_all (store_disk p) (take n (sent_plan p (seen p off k) m a t b).stores) k
  due_disk r h = h.disk ∙ ap (λ (x : List Store). store_all (store_disk p) (take n x) k) (sym copy_plan_stores)

  pub copy_cut : OpeningStores p off m.state n k (Err (record {})) k' → (c : Change) (ad co : List ℕ) → c.answer ≡ Cut → ad ≡ replicate (length m.addresses) 0
      → co ≡ replicate (length m.compact) 0
      → after_change st c k'.image k'.pointers ad co m.inflight [] ≡ outcome p (store_disk p) n k m [] (due (sent_plan p (seen p off k) m a t b))
  copy_cut h r ad co e f g =
      let q : mk_memory (state_after st r) ad co m.inflight ≡ cut_memory p m = cut_memory_lem p m (state_after st r) ad co w.addresses_long w.compact_long (state_cut st r e) f g in
      (λ j. mk_after (e j) (due_disk (Err (record {})) h j) (q j) [])
      ∙ sym (cut_prefix p (store_disk p) n k m [] (sent_plan p (seen p off k) m a t b)
      (subst (λ (x : List Store). n < length x) (sym copy_plan_stores) (ltb-true n (length (open_stores p off k m.state)) (sym h.cut))))

  module _ (o : Opened) (h : OpeningStores p off m.state n k (Ok o) k') where
    -- the block sent, the next stripe number being x
    abbrev sent_at : ℕ → SentRow
    sent_at x = sent_row p (slot_row st at) m.inflight at (not (has_filling p st)) x a t 0 b

    -- the state after a copy, with the numbers in front
    copy_state : state_after st (copied_as (front_of st) (aim_of p st) o t (sent_at o.next)) ≡ put_row (front_as st o.serial.0 o.opened (sent_at o.next).next) at (sent_at o.next).row
    unfolding is_refused is_cut_of kind put_front
    copy_state =
        let c = copied_as (front_of st) (aim_of p st) o t (sent_at o.next) in
        after_done st c refl refl ∙ changed_row st c (slot_lt p st w.waits)

    copy_done : RowsSized st
        → after_change st (copied_as (front_of st) (aim_of p st) o t (sent_at o.next)) k'.image k'.pointers m.addresses m.compact (sent_at o.next).inflight []
        ≡ outcome p (store_disk p) n k m [] (due (sent_plan p (seen p off k) m a t b))
    unfolding sent_plan
    copy_done sized =
        let v = seen p off k in
        let s = slot_lt p st w.waits in
        let d : data_count p < 8 = omega (arith, data_count_high p (ranged p w.in_range_holds)) in
        let ss = open_stores p off k st in
        let l : length ss ≤ n = ltb-false n (length ss) (sym h.cut) in
        let e : k' ≡ store_all (store_disk p) ss k = h.disk ∙ stores_all (store_disk p) n ss k l in
        ap (λ (x : State). mk_after (Copied (a_stamp t) (sent_at o.next).row.number (sent_at o.next).drive) k'
        (mk_memory x m.addresses m.compact (sent_at o.next).inflight) []) copy_state
        ∙ (λ j. let q = sent_at (h.front.next j) in
        mk_after (Copied (a_stamp t) q.row.number q.drive) (e j) (mk_memory (put_row (front_as st (h.front.serial j) (h.front.opened j) q.next) at q.row) m.addresses m.compact q.inflight) [])
        ∙ ap (λ (q : Sending). mk_after (Copied (a_stamp t) q.stripe q.drive) (store_all (store_disk p) q.stores k) (mk_memory q.state m.addresses m.compact q.inflight) [])
        (sending_row p st s sized v m.inflight a t 0 b (start_room p st s sized d))
        ∙ sym (done_all p (store_disk p) n k m [] (sent_plan p v m a t b) (subst (λ (x : List Store). length x ≤ n) (sym copy_plan_stores) l))

    -- the same of the front, the aim and the stripe that the code has
    module _ (f : Front) (same : f ≡ front_of m.state) (al : Aim) (aimed : al ≡ aim_of p m.state) (row : Row) (taken : row ≡ slot_row m.state al.slot) where
      row_is : row ≡ slot_row st at
      row_is = taken ∙ ap (λ (x : Aim). slot_row st x.slot) aimed

      -- what a block asks of the state with its segment open
      pub sent_asks : (al.slot < 8) × (al.begins ≡ false → row.filled < data_count p) × (o.next < 4294967295)
      sent_asks =
          let s : at < 8 = slot_lt p st w.waits in
          let x : (opened_by p st).next < 4294967295 = opened_next p st 4294967295 (omega (arith, w.next_high, (ranged p w.in_range_holds).stripes_high)) in (
            subst (λ (x : Aim). x.slot < 8) (sym aimed) s,
            λ e.
                subst (λ (x : Row). x.filled < data_count p) (sym row_is)
                (subst (λ (y : ℕ). y < data_count p) (sym (row_filled st at)) (slot_fills p st (ap (λ (x : Aim). x.begins) (sym aimed) ∙ e) s)),
            omega (arith, h.front.next, x),
          )

      pub sent_done : RowsSized st → (c : Change) (fl : List ℕ) → c ≡ copied_as f al o t (sent_row p row m.inflight al.slot al.begins o.next a t 0 b)
          → fl ≡ (sent_row p row m.inflight al.slot al.begins o.next a t 0 b).inflight
          → after_change st c k'.image k'.pointers m.addresses m.compact fl [] ≡ outcome p (store_disk p) n k m [] (due (sent_plan p (seen p off k) m a t b))
      sent_done z c fl e g =
          (λ j. after_change st
          ((e ∙ (λ x. copied_as (same x) (aimed x) o t (sent_row p (row_is x) m.inflight (aimed x).slot (aimed x).begins o.next a t 0 b))) j) k'.image k'.pointers m.addresses
          m.compact
          ((g ∙ (λ x. (sent_row p (row_is x) m.inflight (aimed x).slot (aimed x).begins o.next a t 0 b).inflight)) j) [])
          ∙ copy_done z
