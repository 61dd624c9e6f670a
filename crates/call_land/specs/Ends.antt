-- The ends of a landing: refused, cut, done (01, Landing; Store count). Assumes nothing.
use Rattle.std.specs.Prelude.{◌≡◌, Bool, ℕ, suc, ◌+◌, ◌-◌, ◌≤◌, ◌<◌, ltb, eqb, take, set}
use Rattle.std.proofs.Math.Path.{refl, sym, ap, subst}
use Rattle.std.proofs.Common.{◌∙◌, eq-eqb, ne_eqb}
use mathlib.Core.List.{List, [], ◌∷◌}
use Rattle.std.proofs.Math.Bool.{true, false, cond}
use Rattle.std.proofs.Math.Decide.{dec_le, ℕ_discrete}
use native.Mathlib.Omega.{arith}
use Rattle.std.proofs.Math.ListN.{length, replicate, length-set}
use Rattle.spec.specs.declared.Params.{Params}
use Rattle.spec.specs.declared.State.{State}
use Rattle.spec.specs.declared.Answer.{Answer}
use Rattle.spec.specs.declared.Answer.TheVariants.{Cut, Landed}
use Rattle.spec.specs.Calls.{Plan, mk_plan, mk_after, cut_memory}
use Rattle.spec.specs.Drives.{View, pointer_at, Store, store_view_of, Disk, pointer_of, set_pointer, store_disk, store_all, zone_on}
use Rattle.spec.specs.Drives.Store.{put}
use Rattle.spec.specs.Engine.Call.{land}
use Rattle.spec.specs.Engine.{lent_ok_of, store_count, lent_block, verdict, call_on, call_disk}
use Rattle.spec.specs.Landing.{slot_of, completes, seals, flight_rec, pointed, seal_stores, writes_in, land_store, land_plan, land_checks, land_verdict}
use Rattle.call_land.specs.Ready.{land_ready, land_refusal, LandReady, offsets_low, open_low, open_zone_low, slot_filled, land_pointer_data, table_sound, land_feet_room}
use Rattle.spec.specs.Answers.{kind, is_refused, is_cut_of}
use Rattle.spec.specs.Layout.{Rec, parity_drive, data_position, compact_entry, record_bytes}
use Rattle.spec.specs.Lists.Opt.{none, some}
use Rattle.spec.specs.Memory.{Memory, mk_memory, stripe_in, filled_in_of, entry_in_of, set_closed, free_stripe, place_at_of, compact_at, slot_byte, slot_block}
use Rattle.spec.specs.Params.{spare_len, data_count, footers, capacity}
use Rattle.spec.specs.Segments.{is_place, open_segment}
use Rattle.law_basic.specs.Fields.{length_record}
use Rattle.law_basic.specs.Geometry.{ranged, data_count_high, data_drive_lt, capacity_high, data_below, slot_within}
use Rattle.law_basic.specs.Splice.{length_part}
use Rattle.law_basic.specs.Stores.{stores_cons, stores_zero, stores_nil}
use Rattle.law_basic.specs.Segs.{low_here}
use Rattle.law_calls.specs.Refusals.{call_refused, call_done, call_cut, refusal_kind}
use Rattle.law_views.specs.Pointers.{pointer_set, pointer_other_drive}
use Rattle.law_views.specs.Views.{Whole, pointer_view, view_put, whole_put, seen}
use Rattle.law_drives.specs.Image.{sized_of}
use Rattle.disk_zones.specs.Made.{put_pointers}
use Rattle.mem_rows.specs.declared.Row.{Row}
use Rattle.mem_rows.specs.declared.Front.{Front}
use Rattle.mem_rows.specs.declared.Change.{Change}
use Rattle.mem_rows.specs.Rows.{slot_row, front_of, RowsSized, changed, state_after, after_change, after-refused, after_done}
use Rattle.call_land_chunk.specs.Alone.{alone, mark_row, free_row, filled-alone, entry_alone, row_offset, row_record, row_writes, row_cands}
use Rattle.call_land_table.specs.Winners.{Sane, EntriesSane}
use Rattle.call_land.specs.declared.Look.{Look}
use Rattle.call_land.specs.declared.Target.{Target}
use Rattle.call_land.specs.Kept.{put_place}
use Rattle.call_land.specs.Marked.{change_to, row_marked, changed-marked, changed_freed}
use Rattle.call_write.specs.Ends.{cut_memory_lem, state_cut}
use Rattle.call_land.specs.Plan.{Looks, TargetAt, seals_of, table_of, Completing, Complete, same_filled, same_writes, landed_state, shown_table, plan_part, plan_whole}
use Rattle.spec.specs.declared.Seg.{Seg}

-- ---- the state after the change

-- done
state_landed : (st : State) (n i : ℕ) (r : Row) (b : Bool) → state_after st (change_to (Landed n) (front_of st) i r b) ≡ changed st (change_to (Landed n) (front_of st) i r b)
unfolding is_refused is_cut_of kind change_to
state_landed st n i r b = after_done st (change_to (Landed n) (front_of st) i r b) refl refl

module _ (p : Params) (off : List ℕ) (k : Disk) (m : Memory) (d s n : ℕ) where
  -- 01, Store count: a refusal changes nothing
  pub land_refused : (c : Change) → land_refusal p off k m d s ≡ some c.answer
      → after_change m.state c k.image k.pointers m.addresses m.compact m.inflight [] ≡ call_disk p off k m (land d s n)
  unfolding call_disk call_on store_count lent_block verdict land_verdict
  land_refused c e =
      let x = after-refused m.state c (refusal_kind (land_checks p (lent_ok_of p off k m) (seen p off k) m d s) c.answer e) in
      ap (λ (y : State). mk_after c.answer k (mk_memory y m.addresses m.compact m.inflight) []) x
      ∙ sym (call_refused p (store_disk p) n k m [] (land_refusal p off k m d s) (land_plan p (seen p off k) m d s) c.answer e)

  -- just so many stores
  land_cut : land_refusal p off k m d s ≡ none → (q : Plan) → land_plan p (seen p off k) m d s ≡ q → n < length q.stores
      → mk_after Cut (store_all (store_disk p) (take n q.stores) k) (cut_memory p m) [] ≡ call_disk p off k m (land d s n)
  unfolding call_disk call_on store_count lent_block verdict land_verdict
  land_cut e q f =
      subst (λ (x : Plan). n < length x.stores → mk_after Cut (store_all (store_disk p) (take n x.stores) k) (cut_memory p m) [] ≡ call_disk p off k m (land d s n)) f
      (λ h. sym (call_cut p (store_disk p) n k m [] (land_refusal p off k m d s) (land_plan p (seen p off k) m d s) e h))

  -- all of them
  land_done : land_refusal p off k m d s ≡ none → (q : Plan) → land_plan p (seen p off k) m d s ≡ q → length q.stores ≤ n
      → mk_after q.answer (store_all (store_disk p) (take n q.stores) k) q.memory q.block ≡ call_disk p off k m (land d s n)
  unfolding call_disk call_on store_count lent_block verdict land_verdict
  land_done e q f =
      subst (λ (x : Plan). length x.stores ≤ n → mk_after x.answer (store_all (store_disk p) (take n x.stores) k) x.memory x.block ≡ call_disk p off k m (land d s n)) f
      (λ h. sym (call_done p (store_disk p) n k m [] (land_refusal p off k m d s) (land_plan p (seen p off k) m d s) e h))

-- ---- the chunk's store

module _ (p : Params) (off : List ℕ) (k : Disk) (m : Memory) (d s : ℕ) (r : LandReady p off k m d s) where
  abbrev i : ℕ
  i = slot_of m.state s

  abbrev g : Seg
  g = open_segment p (seen p off k) m.state

  abbrev z : ℕ
  z = zone_on (open_segment p (seen p off k) m.state) d

  abbrev b : List ℕ
  b = slot_block p m.inflight i d

  abbrev t : List ℕ
  t = record_bytes (flight_rec p m.state i d)

  block_long : length b ≡ p.B
  unfolding slot_block
  block_long = length_part (slot_byte p i d) p.B m.inflight (omega (arith, slot_within p i d r.slot_low r.drive_low, r.inflight_long))

  spare_long : length t ≡ spare_len
  spare_long = length_record (flight_rec p m.state i d)

  -- the pointer by the bytes, and that it has room
  pub at_pointer : pointer_of p k.pointers d (zone_on (open_segment p (seen p off k) m.state) d) ≡ pointer_at (seen p off k) d (zone_on (open_segment p (seen p off k) m.state) d)
  at_pointer = sym (pointer_view p off k d z r.drive_low (open_zone_low p off k m d s r) r.whole)

  pub pointer_room : pointer_of p k.pointers d (zone_on (open_segment p (seen p off k) m.state) d) < capacity p
  pointer_room = data_below p (ranged p r.ranged) (pointer_of p k.pointers d z) (land_pointer_data p off k m d s r).1

  abbrev pub after! : Disk
  after! = store_disk p (put d (zone_on (open_segment p (seen p off k) m.state) d) (slot_block p m.inflight (slot_of m.state s) d) (record_bytes (flight_rec p m.state (slot_of m.state s) d))) k

  room! : pointer_at (seen p off k) d z < capacity p
  room! = omega (arith, at_pointer, pointer_room)

  pub landed_whole : Whole p after!
  landed_whole = whole_put p off k d z r.drive_low (open_zone_low p off k m d s r) r.whole b t room! block_long spare_long

  landed_view : seen p off after! ≡ store_view_of (land_store p (seen p off k) m d s) (seen p off k)
  unfolding land_store
  landed_view = view_put p off k d z r.drive_low (open_zone_low p off k m d s r) r.whole b t room! (omega (arith, capacity_high p (ranged p r.ranged))) block_long spare_long

  place_after : (q : ℕ) → is_place p (seen p off k) 0 q ≡ is_place p (seen p off after!) 0 q
  unfolding land_store
  place_after q =
      put_place p (seen p off k) d z b t (sized_of p off k r.whole) (let x = (land_pointer_data p off k m d s r).0 in omega (arith, at_pointer)) (ranged p r.ranged) q
      ∙ ap (λ (x : View). is_place p x 0 q) (sym landed_view)

  pub store_is : store_disk p (land_store p (seen p off k) m d s) k ≡ after!
  unfolding land_store
  store_is = refl

  -- 01, Refusals, 9: room for the footers once it is made
  pub room_after : seals p m.state (slot_of m.state s) d ≡ true → (e : ℕ) → e < p.N
      → pointer_of p after!.pointers e (zone_on (open_segment p (seen p off k) m.state) e) + footers p ≤ capacity p
  room_after u e he =
      let f = land_feet_room p off k m d s r u e he in
      subst (λ (x : List ℕ). pointer_of p x e (zone_on g e) + footers p ≤ capacity p) (sym (put_pointers p d z b t k)) (go (ℕ_discrete e d) f)
    where
      n : ℕ
      n = pointer_of p k.pointers d z

      go :
          Dec (e ≡ d)
          → pointer_of p k.pointers e (zone_on g e) + cond (eqb e d) 1 0 + footers p ≤ capacity p
          → pointer_of p (set_pointer p k.pointers d z (suc n)) e (zone_on g e) + footers p ≤ capacity p
      go (yes q) h =
          let x : ◌≡◌ {A = ℕ} (cond (eqb e d) 1 0) 1 = ap (λ (y : Bool). cond {A = ℕ} y 1 0) (eq-eqb e d q) in
          let y : pointer_of p (set_pointer p k.pointers d z (suc n)) e (zone_on g e) ≡ suc n =
          ap (λ (w : ℕ). pointer_of p (set_pointer p k.pointers d z (suc n)) w (zone_on g w)) q
          ∙ pointer_set p k.pointers d z (suc n) r.drive_low (open_zone_low p off k m d s r) r.whole.pointers_long
          (omega (arith, pointer_room, capacity_high p (ranged p r.ranged))) in
          let w : pointer_of p k.pointers e (zone_on g e) ≡ n = ap (λ (w : ℕ). pointer_of p k.pointers w (zone_on g w)) q in
          omega (arith, x, y, w, h)
      go (no q) h =
          let x : ◌≡◌ {A = ℕ} (cond (eqb e d) 1 0) 0 = ap (λ (y : Bool). cond {A = ℕ} y 1 0) (ne_eqb e d q) in
          let y : pointer_of p (set_pointer p k.pointers d z (suc n)) e (zone_on g e) ≡ pointer_of p k.pointers e (zone_on g e) =
          pointer_other_drive p k.pointers d z (suc n) r.drive_low (open_zone_low p off k m d s r) r.whole.pointers_long e (zone_on g e) he
          (low_here p g e (open_low p off k m d s r) he) (λ j. q (sym j)) in
          omega (arith, x, y, h)

  -- ---- by the row

  -- the offset at which the chunk lands
  abbrev o : ℕ
  o = pointer_at (seen p off k) d z - 1

  abbrev st₁ : State
  st₁ = landed_state p (seen p off k) m d s

  o_low : o < p.S
  o_low = let q = land_pointer_data p off k m d s r in omega (arith, at_pointer, q.0, q.1)

  filled_eight : filled_in_of m.state i ≤ 8
  filled_eight = omega (arith, slot_filled p off k m d s r, data_count_high p (ranged p r.ranged))

  pub row_eight : filled_in_of (alone (slot_row m.state (slot_of m.state s))) 0 ≤ 8
  row_eight = subst (λ (x : ℕ). x ≤ 8) (sym (filled-alone m.state i)) filled_eight

  -- a data position is not above its drive
  position_low : (x d' : ℕ) → data_position p x d' ≤ d'
  unfolding data_position
  position_low x d' = go (ltb d' (parity_drive p x))
    where
      go : (y : Bool) → cond y d' (d' - 1) ≤ d'
      go true = omega arith
      go false = omega arith

  pub row_flight : flight_rec p (alone (slot_row m.state (slot_of m.state s))) 0 d ≡ flight_rec p m.state (slot_of m.state s) d
  row_flight = row_record m.state i p d filled_eight (omega (arith, position_low (stripe_in m.state i) d, r.drive_low, (ranged p r.ranged).drives_high))

  module _ (sized : RowsSized m.state) where
    -- what the store, the table's entry and the mark come to
    pub chunked : (l : Look) → Looks p m.state d s l → (z' : ℕ) → z' ≡ zone_on (open_segment p (seen p off k) m.state) d → (w : Row) (k' : Disk) (co : List ℕ)
        → k' ≡ store_disk p (put d z' (slot_block p m.inflight l.slot d) (record_bytes (flight_rec p (alone l.row) 0 d))) k
        → co ≡ set m.compact (compact_at p d z' (pointer_of p k.pointers d z' - 1)) (compact_entry p s)
        → w ≡ mark_row l.row d (pointer_of p k.pointers d z' - 1)
        → (w ≡ mark_row (slot_row m.state (slot_of m.state s)) d (pointer_at (seen p off k) d (zone_on (open_segment p (seen p off k) m.state) d) - 1))
        × (k' ≡ store_disk p (land_store p (seen p off k) m d s) k) × (co ≡ shown_table p (seen p off k) m d s)
    chunked l x z' u w k' co f h q =
        let e = x.row r.slot_low in (
          q ∙ (λ j. mark_row (e j) d (pointer_of p k.pointers d (u j) - 1)) ∙ ap (λ (y : ℕ). mark_row (slot_row m.state i) d (y - 1)) at_pointer,
          f ∙ (λ j. store_disk p (put d (u j) (slot_block p m.inflight (x.slot j) d) (record_bytes (flight_rec p (alone (e j)) 0 d))) k)
              ∙ ap (λ (y : Rec). store_disk p (put d z b (record_bytes y)) k) row_flight ∙ sym store_is,
          h ∙ (λ j. set m.compact (compact_at p d (u j) (pointer_of p k.pointers d (u j) - 1)) (compact_entry p s))
              ∙ ap (λ (y : ℕ). set m.compact (compact_at p d z (y - 1)) (compact_entry p s)) at_pointer,
        )

    row₁_is : mark_row (slot_row m.state i) d o ≡ slot_row st₁ i
    row₁_is = row_marked m.state i d o r.slot_low (omega (arith, r.drive_low, (ranged p r.ranged).drives_high)) sized

    filled₁ : filled_in_of st₁ i ≤ data_count p
    filled₁ = subst (λ (x : ℕ). x ≤ data_count p) (sym (same_filled p m.state i d o i)) (slot_filled p off k m d s r)

    filled₁_eight : filled_in_of st₁ i ≤ 8
    filled₁_eight = omega (arith, filled₁, data_count_high p (ranged p r.ranged))

    -- 02, item 4: the places stay places, for no header changes
    sound_row : completes p m.state i d ≡ true → EntriesSane p (seen p off after!) (alone (slot_row st₁ i)) 0 m.addresses
    sound_row c h l a =
        let h< : h < filled_in_of st₁ i = omega (arith, l, filled-alone st₁ i) in
        let e : (entry_in_of (alone (slot_row st₁ i)) 0 h).address ≡ (entry_in_of st₁ i h).address = ap (λ (x : Rec). x.address) (entry_alone st₁ i h (omega (arith, h<, filled₁_eight))) in
        subst (λ (x : ℕ). Sane p (seen p off after!) (place_at_of m.addresses x)) (sym e)
        (λ n. let y = table_sound p off k m d s r c o h h< (omega (arith, a, e)) n in
        (y.0, sym (place_after (place_at_of m.addresses (entry_in_of st₁ i h).address)) ∙ y.1))

    -- what completing asks
    pub complete_ready : completes p m.state (slot_of m.state s) d ≡ true → (w : Row) (g' : Seg) (b' : Bool) (k' : Disk)
        → w ≡ mark_row (slot_row m.state (slot_of m.state s)) d (pointer_at (seen p off k) d (zone_on (open_segment p (seen p off k) m.state) d) - 1)
        → g' ≡ open_segment p (seen p off k) m.state → b' ≡ seals p m.state (slot_of m.state s) d
        → k' ≡ store_disk p (land_store p (seen p off k) m d s) k → Complete p off m.addresses w g' b' k'
    complete_ready c w g' b' k' ew eg eb ek =
        subst (λ (x : Disk). Complete p off m.addresses w g' b' x) (sym (ek ∙ store_is))
        (subst (λ (x : Row). Complete p off m.addresses x g' b' after!) (sym (ew ∙ row₁_is))
        (subst (λ (x : Seg). Complete p off m.addresses (slot_row st₁ i) x b' after!) (sym eg) (
          r.ranged,
          (
            (landed_whole, r.offline_long),
            (
              (r.addresses_long, sound_row c),
              (
                (
                  subst (λ (x : ℕ). x ≤ data_count p) (sym (filled-alone st₁ i)) filled₁,
                  λ e he. subst (λ (x : ℕ). x < p.S) (sym (row_offset st₁ i e (omega (arith, he, (ranged p r.ranged).drives_high)))) (offsets_low p m.state r.fine i d o e o_low),
                ),
                (open_low p off k m d s r, λ l e he. room_after (sym eb ∙ l) e he),
              ),
            ),
          ),
        )))

    -- the table, by the row and by the state
    pub table_is : (v : View) → table_of p v (open_segment p (seen p off k) m.state) (alone (slot_row (landed_state p (seen p off k) m d s) (slot_of m.state s))) 0 m.addresses
        ≡ table_of p v (open_segment p (seen p off k) m.state) (landed_state p (seen p off k) m d s) (slot_of m.state s) m.addresses
    table_is v =
        let q = row_cands st₁ i p v g filled₁_eight (λ x h. omega (arith, data_drive_lt p (stripe_in st₁ i) x (omega (arith, h, filled₁)), (ranged p r.ranged).drives_high)) in
        λ j. pointed p v m.addresses (q j) (q j) m.addresses

-- ---- what the code leaves at each end

-- 01, Landing: a state that a landing looked at, and which it doesn't refuse
pub record Chosen (p : Params) (off : List ℕ) (k : Disk) (tb co fl : List ℕ) (d s : ℕ) (l : Look) (o : Target) (f : Front) (st : State) : Type 0 where
  pub sized : RowsSized st
  pub front : f ≡ front_of st
  pub looks : Looks p st d s l
  pub target : TargetAt p (seen p off k) st d l.done o
  pub none! : land_refusal p off k (mk_memory st tb co fl) d s ≡ none

module _ (p : Params) (off : List ℕ) (k : Disk) (m : Memory) (d s n : ℕ) (none! : land_refusal p off k m d s ≡ none) where
  -- the number is 0: cut before the chunk
  pub ends_none : n ≡ 0 → (c : Change) (ad co : List ℕ) → c.answer ≡ Cut → ad ≡ replicate (length m.addresses) 0 → co ≡ replicate (length m.compact) 0
      → after_change m.state c k.image k.pointers ad co m.inflight [] ≡ call_disk p off k m (land d s n)
  ends_none x r ad co e a c =
      let w = land_ready p off k m d s none! in
      let ss : List Store = (land_plan p (seen p off k) m d s).stores in
      let q : mk_memory (state_after m.state r) ad co m.inflight ≡ cut_memory p m =
      cut_memory_lem p m (state_after m.state r) ad co w.addresses_long w.compact_long (state_cut m.state r e) a c in
      let u : k ≡ store_all (store_disk p) (take n ss) k = sym (ap (λ (y : ℕ). store_all (store_disk p) (take y ss) k) x ∙ stores_zero (store_disk p) ss k) in
      (λ j. mk_after (e j) (u j) (q j) [])
      ∙ land_cut p off k m d s n none! (land_plan p (seen p off k) m d s) refl (subst (λ (y : ℕ). y < length ss) (sym x) some_store)
    where
      some_store : 0 < length (land_plan p (seen p off k) m d s).stores
      some_store = unfold land_plan in omega arith

  module _ (sized : RowsSized m.state) where
    abbrev i₀ : ℕ
    i₀ = slot_of m.state s

    abbrev o₀ : ℕ
    o₀ = pointer_at (seen p off k) d (zone_on (open_segment p (seen p off k) m.state) d) - 1

    abbrev w₀ : Row
    w₀ = mark_row (slot_row m.state i₀) d o₀

    d_eight : d < 8
    d_eight = let r = land_ready p off k m d s none! in omega (arith, r.drive_low, (ranged p r.ranged).drives_high)

    -- the chunk is stored, the stripe is not complete
    pub ends_part : 0 < n → completes p m.state (slot_of m.state s) d ≡ false → (c : Change) (k' : Disk) (co : List ℕ)
        → c ≡ change_to (Landed 0) (front_of m.state) (slot_of m.state s)
        (mark_row (slot_row m.state (slot_of m.state s)) d (pointer_at (seen p off k) d (zone_on (open_segment p (seen p off k) m.state) d) - 1)) false
        → k' ≡ store_disk p (land_store p (seen p off k) m d s) k
        → co ≡ shown_table p (seen p off k) m d s
        → after_change m.state c k'.image k'.pointers m.addresses co m.inflight [] ≡ call_disk p off k m (land d s n)
    unfolding change_to
    ends_part h c r k' co e g q =
        let w = land_store p (seen p off k) m d s in
        let u : k' ≡ store_all (store_disk p) (take n (w ∷ [])) k = g ∙ sym (stores_cons (store_disk p) n w [] k h ∙ stores_nil (store_disk p) (n - 1) (store_disk p w k)) in
        let f = state_landed m.state 0 i₀ w₀ false ∙ changed-marked m.state i₀ d o₀ (land_ready p off k m d s none!).slot_low d_eight sized (Landed 0) in
        (λ j. after_change m.state (e j) (u j).image (u j).pointers m.addresses (q j) m.inflight [])
        ∙ ap (λ (x : State). mk_after (Landed 0) (store_all (store_disk p) (take n (w ∷ [])) k) (mk_memory x m.addresses (shown_table p (seen p off k) m d s) m.inflight) []) f
        ∙ land_done p off k m d s n none!
        (mk_plan (w ∷ []) (Landed 0) (mk_memory (landed_state p (seen p off k) m d s) m.addresses (shown_table p (seen p off k) m d s) m.inflight) [])
        (plan_part p (seen p off k) m d s c) (omega arith)

    module _ (h : 0 < n) (c : completes p m.state (slot_of m.state s) d ≡ true) (a : Answer) (r : Change) (k' : Disk) (tb co : List ℕ)
        (e : r
        ≡ change_to a (front_of m.state) (slot_of m.state s)
        (free_row (mark_row (slot_row m.state (slot_of m.state s)) d (pointer_at (seen p off k) d (zone_on (open_segment p (seen p off k) m.state) d) - 1)))
        (seals p m.state (slot_of m.state s) d)) where
      abbrev w : Store
      w = land_store p (seen p off k) m d s

      abbrev b₀ : Bool
      b₀ = seals p m.state i₀ d

      abbrev g₀ : Seg
      g₀ = open_segment p (seen p off k) m.state

      abbrev st₂ : State
      st₂ = landed_state p (seen p off k) m d s

      abbrev k₁ : Disk
      k₁ = store_disk p w k

      abbrev ss : List Store
      ss = cond b₀ (seal_stores p (store_view_of w (seen p off k)) g₀) []

      abbrev q₀ : Plan
      q₀ = mk_plan (w ∷ ss) (Landed (writes_in m.state i₀))
          (mk_memory (cond b₀ (set_closed (free_stripe st₂ i₀)) (free_stripe st₂ i₀)) (table_of p (store_view_of w (seen p off k)) g₀ st₂ i₀ m.addresses)
          (shown_table p (seen p off k) m d s)
          m.inflight) []

      view₁ : seen p off k₁ ≡ store_view_of w (seen p off k)
      view₁ = let y = land_ready p off k m d s none! in ap (seen p off) (store_is p off k m d s y) ∙ landed_view p off k m d s y

      stores_are : seals_of p off k₁ g₀ b₀ ≡ ss
      stores_are = λ j. cond b₀ (seal_stores p (view₁ j) g₀) []

      -- the stripe is complete, with the footers or without
      module _ (f : Completing p off (n - 1) w₀ g₀ b₀ k₁ m.addresses (shown_table p (seen p off k) m d s) a k' tb co) where
        disk_is : k' ≡ store_all (store_disk p) (take n (w ∷ ss)) k
        disk_is = f.disk ∙ ap (λ (x : List Store). store_all (store_disk p) (take (n - 1) x) k₁) stores_are ∙ sym (stores_cons (store_disk p) n w ss k h)

        whole_done : length ss ≤ n - 1 → after_change m.state r k'.image k'.pointers tb co m.inflight [] ≡ call_disk p off k m (land d s n)
        unfolding change_to
        whole_done l =
            let y = land_ready p off k m d s none! in
            let u = f.done (subst (λ (x : List Store). length x ≤ n - 1) (sym stores_are) l) in
            let row₁ = row₁_is p off k m d s y sized in
            let v : a ≡ Landed (writes_in m.state i₀) = u.0 ∙ ap (λ (x : Row). Landed (writes_in (alone x) 0)) row₁
            ∙ ap Landed (row_writes st₂ i₀ ∙ same_writes p m.state i₀ d o₀) in
            let t : tb ≡ table_of p (store_view_of w (seen p off k)) g₀ st₂ i₀ m.addresses =
            u.1 ∙ (λ j. table_of p (view₁ j) g₀ (alone (row₁ j)) 0 m.addresses) ∙ table_is p off k m d s y sized (store_view_of w (seen p off k)) in
            let x = state_landed m.state (writes_in m.state i₀) i₀ (free_row w₀) b₀
            ∙ changed_freed m.state i₀ d o₀ y.slot_low d_eight sized (Landed (writes_in m.state i₀)) b₀ in
            (λ j. after_change m.state (e j) (disk_is j).image (disk_is j).pointers (t j) (u.2 j) m.inflight [])
            ∙ ap (λ (z : Answer). after_change m.state (change_to z (front_of m.state) i₀ (free_row w₀) b₀)
            (store_all (store_disk p) (take n (w ∷ ss)) k).image (store_all (store_disk p) (take n (w ∷ ss)) k).pointers
            (table_of p (store_view_of w (seen p off k)) g₀ st₂ i₀ m.addresses) (shown_table p (seen p off k) m d s) m.inflight []) v
            ∙ ap (λ (z : State). mk_after (Landed (writes_in m.state i₀)) (store_all (store_disk p) (take n (w ∷ ss)) k)
            (mk_memory z (table_of p (store_view_of w (seen p off k)) g₀ st₂ i₀ m.addresses) (shown_table p (seen p off k) m d s) m.inflight) []) x
            ∙ land_done p off k m d s n none! q₀ (plan_whole p (seen p off k) m d s c) (omega (arith, h))

        land_cut-after : n - 1 < length ss → after_change m.state r k'.image k'.pointers tb co m.inflight [] ≡ call_disk p off k m (land d s n)
        unfolding change_to
        land_cut-after l =
            let u = f.cut (subst (λ (x : List Store). n - 1 < length x) (sym stores_are) l) in
            let y = land_ready p off k m d s none! in
            let ra : r.answer ≡ Cut = ap (λ (x : Change). x.answer) e ∙ u.0 in
            let lc : length (shown_table p (seen p off k) m d s) ≡ length m.compact =
            length-set m.compact (compact_at p d (zone_on (open_segment p (seen p off k) m.state) d) o₀) (compact_entry p s) in
            let q : mk_memory (state_after m.state r) tb co m.inflight ≡ cut_memory p m =
            cut_memory_lem p m (state_after m.state r) tb co y.addresses_long y.compact_long (state_cut m.state r ra) u.1
            (u.2 ∙ ap (λ (x : ℕ). replicate x 0) lc) in
            (λ j. mk_after (ra j) (disk_is j) (q j) [])
            ∙ land_cut p off k m d s n none! q₀ (plan_whole p (seen p off k) m d s c) (omega (arith, h))

        pub ends_whole : after_change m.state r k'.image k'.pointers tb co m.inflight [] ≡ call_disk p off k m (land d s n)
        ends_whole = go (dec_le (length ss) (n - 1))
          where
            go : Dec (length ss ≤ n - 1) → after_change m.state r k'.image k'.pointers tb co m.inflight [] ≡ call_disk p off k m (land d s n)
            go (yes l) = whole_done l
            go (no l) = land_cut-after (omega arith)
