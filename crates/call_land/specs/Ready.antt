-- What is so where no check of a landing holds (01, Landing; Refusals). Assumes nothing.
use Rattle.std.specs.Prelude.{◌≡◌, refl, true, false, not, ◌&&◌, ◌||◌, length, get_or, set}
use Rattle.std.proofs.Common.{sym, ap, ◌∙◌, arith}
use Rattle.std.proofs.Math.Path.{subst}
use mathlib.Core.List.{List, [], ◌∷◌, ◌++◌, map}
use Rattle.std.proofs.Math.Bool.{Bool, cond}
use Prim.Native.Nat.{ℕ, zero, suc, ◌+◌, ◌-◌, ◌^◌, ◌≤◌, ◌<◌}
use Rattle.std.proofs.Math.Arith.{lt_of_le-ne}
use Rattle.std.proofs.Math.Decide.{dec_lt, ℕ_discrete}
use borrow.Author.Tests.{leb-true, ltb-true, ltb-false, not-false}
use Rattle.std.proofs.Math.Dec.{leb, ltb, eqb}
use Rattle.std.proofs.Math.ListN.{get_or-eq_default}
use Rattle.std.specs.Int.Count.{ones}
use Rattle.spec.specs.declared.Params.{Params}
use Rattle.spec.specs.declared.State.{State}
use Rattle.spec.specs.declared.Answer.{Answer}
use Rattle.spec.specs.Calls.{first_refusal}
use Rattle.spec.specs.Drives.{View, pointer_at, Disk, pointer_of, zone_on, no_seg}
use Rattle.spec.specs.Engine.{lent_ok_of}
use Rattle.spec.specs.Landing.{slot_of, ready as isReady, waiting, completes, seals, misplaced, overfull, entry_faults, land_faults, land_checks}
use Rattle.spec.specs.Layout.{group, Rec}
use Rattle.spec.specs.Read.{place_faults}
use Rattle.spec.specs.Lists.{Opt, is_in, up_from, below, all, is_nil, keep, cons_if, flat}
use Rattle.spec.specs.Lists.Opt.{none}
use Rattle.spec.specs.Memory.{Memory, mk_state, slot_count, slots, cell, stripe_in, filled_in_of, landed_in, entry_in_of, entries_in, offset_in, slot_ok_of, state_ok, mark_landed, place_at_of}
use Rattle.spec.specs.Params.{between, place_block, place_zone, place_drive, parity_count, data_count, in_range, footers, capacity, offline_len, addresses_len, compact_len, inflight_len, drives_of}
use Rattle.spec.specs.Segments.{remaining, is_place, serial_at, open_segments, open_segment, lowest_bearing}
use Rattle.law_basic.specs.Geometry.{between-low, between_high, Ranged, ranged as rangedIn}
use Rattle.disk_holders.specs.Borne.{serial_remains}
use Rattle.disk_holders.specs.Opened.{open_nil, open_zone_is}
use Rattle.law_basic.specs.Ranges.{Test, test, and_left, and_right, all_get_d, all_in_below}
use Rattle.law_basic.specs.Ranges.Test.{yes!, no! }
use Rattle.law_basic.specs.Segs.{ZonesLow, low_here}
use Rattle.law_views.specs.Views.{Whole, pointer_view, seen}
use Rattle.law_drives.specs.Members.{In, if_none, first_in, keep_in, keep-nil_in, in_below, map_none}
use Rattle.law_drives.specs.Segs.{remaining-low}
use Rattle.law_drives.specs.Settled.{zero_here}
use Rattle.law_checks.specs.Passed.{nil_both, land_passed}
use Rattle.call_land_faults.specs.Lowest.{entry_placed}
use Rattle.call_land_table.specs.Winners.{Sane, EntriesSane}
use Rattle.disk_stored.specs.Places.{place_free}
use Rattle.call_write.specs.Ready.{lent_long_lem}
use Rattle.spec.specs.declared.Seg.{Seg}

-- 01, Refusals: the first check of a landing that holds, on what it is lent
abbrev pub land_refusal : Params → List ℕ → Disk → Memory → ℕ → ℕ → Opt Answer
land_refusal p off k m d s = first_refusal (land_checks p (lent_ok_of p off k m) (seen p off k) m d s)

pub record LandReady (p : Params) (off : List ℕ) (k : Disk) (m : Memory) (d s : ℕ) : Type 0 where
  pub ranged : in_range p ≡ true
  pub whole : Whole p k
  pub offline_long : length off ≡ offline_len p
  pub addresses_long : length m.addresses ≡ addresses_len p
  pub compact_long : length m.compact ≡ compact_len p
  pub inflight_long : length m.inflight ≡ inflight_len p
  pub drive_low : d < p.N
  pub slot_low : slot_of m.state s < 8
  pub fine : state_ok p m.state ≡ true
  pub faultless : land_faults p (seen p off k) m d s ≡ []

-- 01, Refusals, 5: what a chunk that waits says
pub waits_low : (p : Params) (st : State) (d s : ℕ) → waiting p st d s ≡ true → (d < p.N) × (slot_of st s < 8)
unfolding waiting slot_count
waits_low p st d s e =
    let i = slot_of st s in
    let w = and_left (ltb d p.N && ltb i 8) (isReady p st i d) e in
    (ltb-true d p.N (and_left (ltb d p.N) (ltb i 8) w), ltb-true i 8 (and_right (ltb d p.N) (ltb i 8) w))

pub land_ready : (p : Params) (off : List ℕ) (k : Disk) (m : Memory) (d s : ℕ) → land_refusal p off k m d s ≡ none → LandReady p off k m d s
land_ready p off k m d s e =
    let c = land_passed p (lent_ok_of p off k m) (seen p off k) m d s e in
    let l = lent_long_lem p off k m c.lent in
    let w = waits_low p m.state d s c.waits in
    record {
      ranged = c.in_range_holds;
      whole = record { image_long = l.0; pointers_long = l.1 };
      offline_long = l.5;
      addresses_long = l.2;
      compact_long = l.3;
      inflight_long = l.4;
      drive_low = w.0;
      slot_low = w.1;
      fine = c.state_fine;
      faultless = c.chunk_fine;
    }

-- ---- what a state in range says

module _ (p : Params) (st : State) (fine : state_ok p st ≡ true) where
  abbrev lives : Bool
  lives = eqb st.live 1 && ltb st.missing (2 ^ p.N) && leb (ones st.missing) (parity_count p)

  state_ok_parts : (all (slot_ok_of p st) slots ≡ true) × (all (λ o. ltb o p.S) st.offsets ≡ true)
  unfolding state_ok
  state_ok_parts =
      let a = leb st.opened st.serial.0 in
      let b = leb st.next p.S in
      let c = all (slot_ok_of p st) slots in
      let d = all (λ o. ltb o p.S) st.offsets in
      let h = and_left (lives && a && b && c) d fine in
      (and_right (lives && a && b) c h, and_right (lives && a && b && c) d fine)

  pub filled-low : (i : ℕ) → i < 8 → filled_in_of st i ≤ data_count p
  unfolding slots slot_count slot_ok_of
  filled-low i h =
      let a = ltb (stripe_in st i) p.S in
      let b = leb (filled_in_of st i) (data_count p) in
      let c = ltb (get_or st.writes i 0) (2 ^ data_count p) in
      let d = ltb (landed_in st i) (2 ^ p.N) in
      leb-true (filled_in_of st i) (data_count p) (and_right a b (and_left (a && b) c (and_left (a && b && c) d (all_in_below (slot_ok_of p st) 8 i state_ok_parts.0 h))))

  all_offsets_low : (l : List ℕ) → all (λ o. ltb o p.S) l ≡ true → 0 < p.S → (j : ℕ) → get_or l j 0 < p.S
  all_offsets_low l e h j = go (dec_lt j (length l))
    where
      go : Dec (j < length l) → get_or l j 0 < p.S
      go (yes x) = ltb-true (get_or l j 0) p.S (all_get_d (λ o. ltb o p.S) l j 0 e x)
      go (no x) = subst (λ (y : ℕ). y < p.S) (sym (get_or-eq_default l 0 (omega arith))) h

  set_low : (l : List ℕ) (i v : ℕ) → ((j : ℕ) → get_or l j 0 < p.S) → v < p.S → (j : ℕ) → get_or (set l i v) j 0 < p.S
  set_low [] i v f h j = f j
  set_low (x ∷ l) zero v f h zero = h
  set_low (x ∷ l) zero v f h (suc j) = f (suc j)
  set_low (x ∷ l) (suc i) v f h zero = f 0
  set_low (x ∷ l) (suc i) v f h (suc j) = set_low l i v (λ y. f (suc y)) h j

  -- 01, Landing: the offsets that are remembered, with one more
  pub offsets_low : (i d o e : ℕ) → o < p.S → offset_in (mark_landed st i d o) i e < p.S
  unfolding offset_in mark_landed
  offsets_low i d o e h = set_low st.offsets (cell i d) o (all_offsets_low st.offsets state_ok_parts.1 (omega arith)) h (cell i e)

-- ---- what no bad zone says

flat_nothing_at : {A : Type 0} (f : A → List ℕ) (g : ℕ → A) (i n k : ℕ) → flat f (map g (up_from i n)) ≡ [] → i ≤ k → k < i + n → f (g k) ≡ []
unfolding up_from flat
flat_nothing_at f g i zero k e h l = absurd (let w : ⊥ = omega arith in w)
flat_nothing_at {A} f g i (suc n) k e h l =
    let w = nil_both (f (g i)) (flat f (map g (up_from (suc i) n))) e in
    go (ℕ_discrete i k) w.0 (λ x. flat_nothing_at f g (suc i) n k w.1 x (omega arith))
  where
    go : Dec (i ≡ k) → f (g i) ≡ [] → (suc i ≤ k → f (g k) ≡ []) → f (g k) ≡ []
    go (yes q) a b = ap (λ (x : ℕ). f (g x)) (sym q) ∙ a
    go (no q) a b = b (lt_of_le-ne h q)

-- a place with no fault is one
no_fault : (p : Params) (v : View) (q : ℕ) → place_faults p v 0 q ≡ [] → is_place p v 0 q ≡ true
unfolding place_faults
no_fault p v q e = go (test (is_place p v 0 q)) e
  where
    rest : List ℕ
    rest = cons_if (not (between 1 p.S (place_block p q)) || (not (is_in 0 (place_drive p q)) && leb (pointer_at v (place_drive p q) (place_zone p q)) (place_block p q))) (place_zone p q) []

    go : Test (is_place p v 0 q) → cond (not (is_place p v 0 q)) (0 ∷ []) rest ≡ [] → is_place p v 0 q ≡ true
    go (yes! t) f = t
    go (no! t) f =
        let x : ◌≡◌ {A = List ℕ} (0 ∷ []) [] = subst (λ (y : Bool). cond (not y) (0 ∷ []) rest ≡ []) t f in
        absurd (let y : ◌≡◌ {A = ℕ} 1 0 = ap length x in let w : ⊥ = omega arith in w)

entry_sane : (p : Params) (v : View) (tb : List ℕ) (e : Rec) → entry_faults p v tb e ≡ [] → e.address < p.L → Sane p v (place_at_of tb e.address)
entry_sane p v tb e f h n =
    let x = sym (entry_placed p v tb e h n) ∙ f in
    (place_free p v 0 (place_at_of tb e.address) x, no_fault p v (place_at_of tb e.address) x)

-- 02, item 4: the open segment remains
pub opened_remains : (p : Params) (v : View) (st : State) → is_nil (open_segments p v st) ≡ false → In (open_segment p v st) (remaining p v 0)
unfolding open_segment open_segments
opened_remains p v st e =
    (keep_in (λ g. eqb (serial_at p v g) st.opened) (remaining p v 0) (open_segment p v st) (first_in (open_segments p v st) no_seg e)).0

-- a serial that is found open in every state remains
pub serial_found : (p : Params) → Ranged p → (v : View) (n : ℕ) → ((st : State) → st.opened ≡ n → is_nil (open_segments p v st) ≡ false) → serial_remains p v 0 n ≡ true
serial_found p r v n f =
    let st : State = mk_state 0 0 0 0 n 0 [] [] [] [] [] [] [] in
    not-false (serial_remains p v 0 n) (sym (open_nil p r v st) ∙ f st refl)

-- the zone of a serial that remains, where it is the open segment's in every state
pub found_zone : (p : Params) → Ranged p → (v : View) (n d z : ℕ) → serial_remains p v 0 n ≡ true → d < p.N
    → ((st : State) → st.opened ≡ n → z ≡ zone_on (open_segment p v st) d) → z ≡ lowest_bearing p v d n
found_zone p r v n d z q h f =
    let st : State = mk_state 0 0 0 0 n 0 [] [] [] [] [] [] [] in
    f st refl ∙ open_zone_is p r v st q d h

module _ (p : Params) (off : List ℕ) (k : Disk) (m : Memory) (d s : ℕ) (r : LandReady p off k m d s) where
  abbrev slot : ℕ
  slot = slot_of m.state s

  abbrev v : View
  v = seen p off k

  abbrev segment : Seg
  segment = open_segment p v m.state

  abbrev entries : List ℕ
  entries = flat (entry_faults p v m.addresses) (entries_in m.state slot)

  land_faults_none : (is_nil (open_segments p v m.state) ≡ false) × (misplaced p v d (zone_on segment d) s ≡ false) × (cond (seals p m.state slot d) (overfull p v d segment) [] ≡ [])
      × (cond (completes p m.state slot d) entries [] ≡ [])
  unfolding land_faults
  land_faults_none =
      let os : List ℕ = cond (seals p m.state slot d) (overfull p v d segment) [] in
      let ws : List ℕ = cond (completes p m.state slot d) entries [] in
      let x = if_none (is_nil (open_segments p v m.state)) 0 (cons_if (misplaced p v d (zone_on segment d) s) (zone_on segment d) (os ++ ws)) r.faultless in
      let y = if_none (misplaced p v d (zone_on segment d) s) (zone_on segment d) (os ++ ws) x.1 in
      let z = nil_both os ws y.1 in
      (x.0, y.0, z.0, z.1)

  pub open_low : ZonesLow p 0 (open_segment p (seen p off k) m.state)
  open_low = remaining-low p v 0 (zero_here p (rangedIn p r.ranged)) segment (opened_remains p v m.state land_faults_none.0)

  pub open_zone_low : zone_on (open_segment p (seen p off k) m.state) d < p.Z
  open_zone_low = low_here p segment d open_low r.drive_low

  pub slot_filled : filled_in_of m.state (slot_of m.state s) ≤ data_count p
  slot_filled = filled-low p m.state r.fine slot r.slot_low

  -- 01, Refusals, 9: the pointer is at a data block
  pub land_pointer_data : (1 ≤ pointer_of p k.pointers d (zone_on (open_segment p (seen p off k) m.state) d))
      × (pointer_of p k.pointers d (zone_on (open_segment p (seen p off k) m.state) d) ≤ p.S)
  unfolding misplaced
  land_pointer_data =
      let n = pointer_at v d (zone_on segment d) in
      let c = and_left (between 1 p.S n) (eqb (group p (n - 1)) (group p s)) (not-false (between 1 p.S n && eqb (group p (n - 1)) (group p s)) land_faults_none.1) in
      let q = pointer_view p off k d (zone_on segment d) r.drive_low open_zone_low r.whole in
      (omega (arith, q, between-low 1 p.S n c), omega (arith, q, between_high 1 p.S n c))

  -- the places that the table holds of the stripe's addresses are those of data blocks
  pub table_sound : completes p m.state (slot_of m.state s) d ≡ true → (o : ℕ)
      → EntriesSane p (seen p off k) (mark_landed m.state (slot_of m.state s) d o) (slot_of m.state s) m.addresses
  unfolding entry_in_of entries_in filled_in_of mark_landed below stripe_in
  table_sound c o h l a =
      let e : entries ≡ [] = subst (λ (x : Bool). cond {A = List ℕ} x entries [] ≡ []) c land_faults_none.3 in
      entry_sane p v m.addresses (entry_in_of m.state slot h)
      (flat_nothing_at (entry_faults p v m.addresses) (entry_in_of m.state slot) 0 (filled_in_of m.state slot) h e (omega arith) (omega arith)) a

  -- 01, Refusals, 9: room for the footers on every drive, once the chunk is stored
  pub land_feet_room : seals p m.state (slot_of m.state s) d ≡ true → (e : ℕ) → e < p.N
      → pointer_of p k.pointers e (zone_on (open_segment p (seen p off k) m.state) e) + cond (eqb e d) 1 0 + footers p ≤ capacity p
  unfolding overfull drives_of
  land_feet_room c e he =
      let f : ℕ → Bool = λ x. ltb (capacity p) (pointer_at v x (zone_on segment x) + cond (eqb x d) 1 0 + footers p) in
      let o : map (zone_on segment) (keep f (below p.N)) ≡ [] = subst (λ (x : Bool). cond x (overfull p v d segment) [] ≡ []) c land_faults_none.2 in
      let q = pointer_view p off k e (zone_on segment e) he (low_here p segment e open_low he) r.whole in
      let u = ltb-false (capacity p) (pointer_at v e (zone_on segment e) + cond (eqb e d) 1 0 + footers p)
      (keep-nil_in f (below p.N) (map_none (zone_on segment) (keep f (below p.N)) o) e (in_below p.N e he)) in
      subst (λ (x : ℕ). x + cond (eqb e d) 1 0 + footers p ≤ capacity p) q u
