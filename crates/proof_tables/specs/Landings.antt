-- Landing, with no drive missing: the call. Assumes nothing.
use Rattle.std.specs.Prelude.{◌≡◌, Bool, ◌&&◌, length, get_or, set}
use Rattle.std.proofs.Math.Path.{refl, ap}
use Rattle.std.proofs.Common.{sym, ◌∙◌, subst, inl, inr, ⊎_elim, arith}
use mathlib.Core.List.{List, [], ◌∷◌, ◌++◌, map}
use Rattle.std.proofs.Math.Bool.{true, false, cond, not}
use Prim.Native.Nat.{ℕ, ◌+◌, ◌-◌, ◌^◌, ◌≤◌, ◌<◌}
use Rattle.std.proofs.Math.Decide.{ℕ_discrete}
use borrow.Author.Tests.{le-ltb, eq-eqb, ne_eqb, ltb-true, eqb-true}
use Rattle.std.proofs.Math.Dec.{ltb, eqb}
use Rattle.spec.specs.declared.Params.{Params}
use Rattle.spec.specs.declared.State.{State}
use Rattle.spec.specs.Answers.{kind, is_refused, is_refused_as}
use Rattle.spec.specs.Calls.{Check, first_refusal, Plan, decided, outcome}
use Rattle.spec.specs.Counts.{never_place}
use Rattle.spec.specs.Drives.{View, pointer_at, Store, store_view_of, Disk, store_disk, store_all, zone_on}
use Rattle.spec.specs.Drives.Store.{put}
use Rattle.spec.specs.Engine.{store_count, lent_block, verdict, lent_ok_of, call_on, call_disk}
use Rattle.spec.specs.Engine.Call.{land}
use Rattle.spec.specs.Landing.{slot_of, ready, waiting, completes, seals, flight_rec, misplaced, overfull, entry_faults, land_faults, landed_cands, pointed}
use Rattle.spec.specs.Landing.{land_checks, seal_stores, land_store, land_plan, land_verdict}
use Rattle.spec.specs.Layout.{group, compact_entry, Rec, record_bytes, header_serial}
use Rattle.spec.specs.Lists.{keep, below, any, cons_if, index_of, flat, is_nil}
use Rattle.spec.specs.Memory.{Memory, mk_memory, slot_count, slots, stripe_in, filled_in_of, landed_in, entries_in, is_free, in_flight}
use Rattle.spec.specs.Memory.{set_closed, mark_landed, free_stripe, place_at_of, compact_at, slot_block}
use Rattle.spec.specs.Params.{between, footers, capacity, drives_of}
use Rattle.spec.specs.Read.{place_faults}
use Rattle.spec.specs.Segments.{segments, candidates, address_table, compact_table, header_at, open_segment, open_segments}
use Rattle.law_basic.specs.Geometry.{between_of, Ranged, ranged}
use Rattle.law_basic.specs.Ranges.{Test, test, and_left, and_right, and_both, length-below, get_d_below}
use Rattle.law_basic.specs.Ranges.Test.{yes!, no! }
use Rattle.law_basic.specs.Stores.{store_all-append}
use Rattle.law_basic.specs.Segs.{segs_differ}
use Rattle.law_views.specs.Views.{seen}
use Rattle.law_checks.specs.Passed.{land_passed, land_mild}
use Rattle.law_drives.specs.Growing.{Grows, grows_tidy, grows_candidates, grows_compact, grows_others, grows_was}
use Rattle.law_drives.specs.Joins.{roomy_append, within_append}
use Rattle.law_drives.specs.Lengths.{whole_of}
use Rattle.law_drives.specs.Members.{In, flat_nothing, below_in, index_passes, index_none, keep_nothing}
use Rattle.law_drives.specs.Range.{capacity_is}
use Rattle.law_drives.specs.Settled.{zones_pointer, its_zone, zero_here}
use Rattle.law_drives.specs.Slots.{block_long! }
use Rattle.law_drives.specs.Spots.{spot_faults, none_apart}
use Rattle.law_drives.specs.States.{StateOk, state_of_lem}
use Rattle.law_drives.specs.Tests.{clash, cond_true, cond_false, cond_same}
use Rattle.law_drives.specs.Tidy.{Tidy, There}
use Rattle.law_drives.specs.Zones.{Shaped, Within, Roomy, shaped_after}
use Rattle.proof_tables.specs.Chunks.{pointer_some, pointer_data, offset_group, chunk_roomy, chunk_tidy, addresses_stay, addresses_land, compact_lands, chunk_there}
use Rattle.proof_tables.specs.Chunks.{sealed1, chunk_healthy, chunk_state, chunk_missing, freed_state, freed_healthy, all-behind, last_flight}
use Rattle.proof_tables.specs.Going.{well_run, address_table_holds, compact_table_holds, buffer_long, offline_long}
use Rattle.proof_tables.specs.Live.{EntryHolds, table-holds}
use Rattle.proof_tables.specs.Live.EntryHolds.{holds_none, holds_some}
use Rattle.proof_tables.specs.Losing.{refused-kept, cut-kept}
use Rattle.proof_tables.specs.Outcomes.{EndedAs, outcome_ends}
use Rattle.proof_tables.specs.Outcomes.EndedAs.{ended-refused, ended_done, ended-cut}
use Rattle.proof_tables.specs.Opened.{open_segment_is, open_at, open_segment_some}
use Rattle.proof_tables.specs.Run.{flies, Lists, HealthyState, Well, Run, Kept}
use Rattle.proof_tables.specs.Sealing.{seal_pointer, seal_roomy, seal_within, seal_grows, seal_records}
use Rattle.proof_tables.specs.Slots.{free_lists}
use Rattle.spec.specs.declared.Seg.{Seg}
use Rattle.law_calls.specs.Refusals.{next_low, opened_low}

-- ---- the eighth of a stripe

pub slot_of_stripe : (st : State) (s : ℕ) → slot_of st s < 8 → (flies st (slot_of st s) ≡ true) × (stripe_in st (slot_of st s) ≡ s)
slot_of_stripe st s h = go (as! h) (test (any f slots))
  where
    f : ℕ → Bool
    f i = flies st i && eqb (stripe_in st i) s

    index! : slot_of st s ≡ index_of f slots
    index! = unfold slot_of in refl

    as! : slot_of st s < 8 → index_of f slots < 8
    as! x = subst (λ (n : ℕ). n < 8) index! x

    eight : length slots ≡ 8
    eight = unfold slots slot_count in length-below 8

    at : (n : ℕ) → n < 8 → get_or slots n 0 ≡ n
    at n h = unfold slots slot_count in get_d_below 8 n 0 h

    parts : (n : ℕ) → f n ≡ true → (flies st n ≡ true) × (stripe_in st n ≡ s)
    parts n q = (and_left (flies st n) (eqb (stripe_in st n) s) q, eqb-true (stripe_in st n) s (and_right (flies st n) (eqb (stripe_in st n) s) q))

    go : index_of f slots < 8 → Test (any f slots) → (flies st (slot_of st s) ≡ true) × (stripe_in st (slot_of st s) ≡ s)
    go l (no! q) = absurd (let e = index_none f slots q in let x = eight in let bad : ⊥ = omega arith in bad)
    go l (yes! q) = subst (λ (n : ℕ). (flies st n ≡ true) × (stripe_in st n ≡ s)) (sym index!) (parts (index_of f slots) (ap f (sym (at (index_of f slots) l)) ∙ index_passes f slots 0 q))

-- a chunk that waits
pub record LandWaits (p : Params) (v : View) (st : State) (d s : ℕ) : Type 0 where
  pub drive_ok : d < p.N
  pub slot_ok : slot_of st s < 8
  pub slot_flies : flies st (slot_of st s) ≡ true
  pub slot_stripe : stripe_in st (slot_of st s) ≡ s
  pub slot_ready : ready p st (slot_of st s) d ≡ true
  pub slot_there : There p v (open_segment p v st)
  pub slot_opened : st.opened ≡ header_serial p (header_at v 0 (open_segment p v st))
  pub slot_some : is_nil (open_segments p v st) ≡ false

pub land_waits : (p : Params) (r : Ranged p) (v : View) (st : State) (d s : ℕ) → HealthyState p v st → StateOk p st → waiting p st d s ≡ true → LandWaits p v st d s
land_waits p r v st d s h so q =
    let (a, (b, c)) = parts q in
    let (f, e) = slot_of_stripe st s b in
    let (z, oz, o) = h.opens_at (λ x. clash f (h.shut x (slot_of st s) b)) in
    let hz = o.opened_zone in
    let i : z ≡ open_segment p v st = sym (open_segment_is p r v st h z hz oz) in
    record {
      drive_ok = a;
      slot_ok = b;
      slot_flies = f;
      slot_stripe = e;
      slot_ready = c;
      slot_there = subst (λ (x : Seg). There p v x) i hz;
      slot_opened = subst (λ (x : Seg). st.opened ≡ header_serial p (header_at v 0 x)) i oz;
      slot_some = open_segment_some p r v st h z hz oz;
    }
  where
    parts : waiting p st d s ≡ true → (d < p.N) × ((slot_of st s < 8) × (ready p st (slot_of st s) d ≡ true))
    parts q = unfold waiting slot_count in
        let x = ltb d p.N in
        let y = ltb (slot_of st s) 8 in
        let z = ready p st (slot_of st s) d in
        let q1 : x && y ≡ true = and_left (x && y) z q in
        (ltb-true d p.N (and_left x y q1), (ltb-true (slot_of st s) 8 (and_right x y q1), and_right (x && y) z q))

-- ---- the call

module _ (p : Params) (off : List ℕ) (k : Disk) (m : Memory) (u : Run p off k m) (we : Well p off k m) (d s : ℕ) where
  abbrev v : View
  v = seen p off k

  abbrev st : State
  st = m.state

  abbrev i : ℕ
  i = slot_of st s

  abbrev z : Seg
  z = open_segment p v st

  rg : Ranged p
  rg = ranged p u.base.ranged

  so : StateOk p st
  so = state_of_lem p rg st u.base.state_ok_holds

  sh : Shaped p v
  sh = u.base.shaped

  he : HealthyState p v st
  he = we.healthy

  land_table_said : m.addresses ≡ address_table p (candidates p 0 (segments p v 0))
  land_table_said = address_table_holds p off k m u we

  module _ (w : LandWaits p v st d s) where
    abbrev b : List ℕ
    b = slot_block p m.inflight i d

    lb : length b ≡ p.B
    lb = block_long! p rg m.inflight (buffer_long p off k m u we) i w.slot_ok d w.drive_ok

    abbrev hd : d < p.N
    hd = w.drive_ok

    abbrev hi : i < 8
    hi = w.slot_ok

    abbrev fi : flies st i ≡ true
    fi = w.slot_flies

    abbrev rd : ready p st i d ≡ true
    rd = w.slot_ready

    abbrev hz : There p v z
    hz = w.slot_there

    abbrev oz : st.opened ≡ header_serial p (header_at v 0 z)
    oz = w.slot_opened

    abbrev store : Store
    store = put d (zone_on z d) b (record_bytes (flight_rec p st i d))

    abbrev v1 : View
    v1 = store_view_of store v

    abbrev o : ℕ
    o = pointer_at v d (zone_on z d) - 1

    abbrev st1 : State
    st1 = mark_landed st i d o

    -- ---- refusal 9 never comes

    never_misplaced : misplaced p v d (zone_on z d) s ≡ false
    never_misplaced = as! (
        let a = pointer_some p rg v sh st he so z hz oz d i hd hi fi rd b lb in
        let c = pointer_data p rg v sh st he so z hz oz d i hd hi fi rd b lb in
        let e = offset_group p rg v sh st he so z hz oz d i hd hi fi rd b lb in
        and_both (between 1 p.S (pointer_at v d (zone_on z d))) (eqb (group p (pointer_at v d (zone_on z d) - 1)) (group p s)) (between_of 1 p.S (pointer_at v d (zone_on z d)) a c)
        (eq-eqb (group p (pointer_at v d (zone_on z d) - 1)) (group p s) (e ∙ ap (group p) w.slot_stripe)))
      where
        as! : between 1 p.S (pointer_at v d (zone_on z d)) && eqb (group p (pointer_at v d (zone_on z d) - 1)) (group p s) ≡ true → misplaced p v d (zone_on z d) s ≡ false
        as! q = unfold misplaced in ap not q

    never_overfull : overfull p v d z ≡ []
    never_overfull =
        as! (keep_nothing (λ e. ltb (capacity p) (pointer_at v e (zone_on z e) + cond (eqb e d) 1 0 + footers p)) (below p.N)
        (λ e mm. le-ltb (capacity p) (pointer_at v e (zone_on z e) + cond (eqb e d) 1 0 + footers p) (fits e (below_in p.N e mm) (ℕ_discrete e d))))
      where
        as! : keep (λ e. ltb (capacity p) (pointer_at v e (zone_on z e) + cond (eqb e d) 1 0 + footers p)) (below p.N) ≡ [] → overfull p v d z ≡ []
        as! q = unfold overfull drives_of in ap (map (zone_on z)) q

        fits : (e : ℕ) → e < p.N → Dec (e ≡ d) → pointer_at v e (zone_on z e) + cond (eqb e d) 1 0 + footers p ≤ capacity p
        fits e h (yes x) =
            let c = pointer_data p rg v sh st he so z hz oz d i hd hi fi rd b lb in
            let y : pointer_at v e (zone_on z e) ≡ pointer_at v d (zone_on z d) = ap (λ (n : ℕ). pointer_at v n (zone_on z n)) x in
            let n : ◌≡◌ {A = ℕ} (cond (eqb e d) 1 0) 1 = cond_true (eqb e d) 1 0 (eq-eqb e d x) in
            let l = capacity_is p rg in
            omega arith
        fits e h (no x) =
            let c = (open_at p rg v st he z hz oz).count e h in
            let q = so.next_low in
            let n : ◌≡◌ {A = ℕ} (cond (eqb e d) 1 0) 0 = cond_false (eqb e d) 1 0 (ne_eqb e d x) in
            let l = capacity_is p rg in
            omega arith

    entry_ok : (e : Rec) → entry_faults p v m.addresses e ≡ []
    entry_ok e = as! (test (ltb e.address p.L))
      where
        q : ℕ
        q = place_at_of m.addresses e.address

        inner : e.address < p.L → cond (eqb (place_at_of m.addresses e.address) never_place) [] (place_faults p v 0 (place_at_of m.addresses e.address)) ≡ []
        inner l = go (table-holds p rg v m.addresses land_table_said e.address l)
          where
            go : EntryHolds p v m.addresses e.address → cond (eqb (place_at_of m.addresses e.address) never_place) [] (place_faults p v 0 (place_at_of m.addresses e.address)) ≡ []
            go (holds_none x y) =
                cond_true (eqb (place_at_of m.addresses e.address) never_place) [] (place_faults p v 0 (place_at_of m.addresses e.address))
                (eq-eqb (place_at_of m.addresses e.address) never_place y)
            go (holds_some c x kc t ea y) =
                ap (λ (l : List ℕ). cond (eqb (place_at_of m.addresses e.address) never_place) [] l)
                (ap (place_faults p v 0) y ∙ spot_faults p rg v 0 (zero_here p rg) (none_apart p v) c t)
                ∙ cond_same (eqb (place_at_of m.addresses e.address) never_place) []

        as! : Test (ltb e.address p.L) → entry_faults p v m.addresses e ≡ []
        as! (yes! x) =
            unfold entry_faults in (cond_true (ltb e.address p.L)
            (cond (eqb (place_at_of m.addresses e.address) never_place) [] (place_faults p v 0 (place_at_of m.addresses e.address))) [] x
            ∙ inner (ltb-true e.address p.L x))
        as! (no! x) =
            unfold entry_faults in cond_false (ltb e.address p.L) (cond (eqb (place_at_of m.addresses e.address) never_place) [] (place_faults p v 0 (place_at_of m.addresses e.address))) [] x

    faults_none : land_faults p v m d s ≡ []
    faults_none = unfold land_faults cons_if in
        rw (w.slot_some, never_misplaced) (ap (λ (l : List ℕ). cond (seals p st i d) l [] ++ cond (completes p st i d) (flat (entry_faults p v m.addresses) (entries_in st i)) []) never_overfull
        ∙ ap (λ (l : List ℕ). l ++ cond (completes p st i d) (flat (entry_faults p v m.addresses) (entries_in st i)) []) (cond_same (seals p st i d) [])
        ∙ ap (λ (l : List ℕ). cond (completes p st i d) l []) zs_none ∙ cond_same (completes p st i d) [])
      where
        zs : List ℕ
        zs = flat (entry_faults p v m.addresses) (entries_in st i)

        zs_none : flat (entry_faults p v m.addresses) (entries_in st i) ≡ []
        zs_none = flat_nothing (entry_faults p v m.addresses) (entries_in st i) (λ e n. entry_ok e)

    -- ---- what it leaves

    abbrev new_compact : List ℕ
    new_compact = set m.compact (compact_at p d (zone_on z d) o) (compact_entry p s)

    compact_now : new_compact ≡ compact_table p (segments p v1 0)
    compact_now =
        ap (λ (l : List ℕ). set l (compact_at p d (zone_on z d) o) (compact_entry p s)) (compact_table_holds p off k m u we)
        ∙ ap (λ (x : ℕ). set (compact_table p (segments p v 0)) (compact_at p d (zone_on z d) o) (compact_entry p x)) (sym w.slot_stripe)
        ∙ compact_lands p rg v sh st he so z hz oz d i hd hi fi rd b lb

    one_store : store_all store_view_of (store ∷ []) v ≡ v1
    one_store = unfold store_all in refl

    store_within : (x : Store) → In x (store ∷ []) → Within p x
    store_within x (inl e) = subst (λ (y : Store). Within p y) (sym e) (hd, (its_zone p rg v z hz d hd).zone_low)
    store_within x (inr n) = absurd n

    -- the memory after a chunk
    chunk_run : (su : State) (tb : List ℕ) → su.missing ≡ st.missing → StateOk p su → HealthyState p v1 su → tb ≡ address_table p (candidates p 0 (segments p v1 0))
        → Run p off (store_all (store_disk p) (store ∷ []) k) (mk_memory su tb new_compact m.inflight)
    chunk_run su tb e sk hk t =
        well_run p off k (store ∷ []) (mk_memory su tb new_compact m.inflight) u.base.ranged u.base.zones_enough u.base.addresses_fit
        (offline_long p off k m u we) (whole_of p off k m u.base.lent) sh
        (chunk_roomy p rg v sh st he so z hz oz d i hd hi fi rd b lb) store_within
        (e ∙ we.none_missing) sk (subst (λ (x : View). HealthyState p x su) (sym one_store) hk)
        (t ∙ ap (λ (x : View). address_table p (candidates p 0 (segments p x 0))) (sym one_store))
        (compact_now ∙ ap (λ (x : View). compact_table p (segments p x 0)) (sym one_store)) (buffer_long p off k m u we)

    -- the address table when the stripe completes
    abbrev new_addresses : List ℕ
    new_addresses = pointed p v1 m.addresses (landed_cands p v1 z st1 i) (landed_cands p v1 z st1 i) m.addresses

    abbrev plan : Plan
    plan = land_plan p v m d s

    -- it doesn't complete
    lands_chunk : completes p st i d ≡ false → Run p off (store_all (store_disk p) plan.stores k) plan.memory
    lands_chunk q =
        subst (λ (x : List Store). Run p off (store_all (store_disk p) x k) plan.memory) (sym (stores_is q))
        (subst (λ (x : Memory). Run p off (store_all (store_disk p) (store ∷ []) k) x) (sym (memory_is q))
        (chunk_run st1 m.addresses (chunk_missing p rg v sh st he so z hz oz d i hd hi fi rd b lb)
        (chunk_state p rg v sh st he so z hz oz d i hd hi fi rd b lb) (chunk_healthy p rg v sh st he so z hz oz d i hd hi fi rd b lb)
        (land_table_said ∙ addresses_stay p rg v sh st he so z hz oz d i hd hi fi rd b lb q)))
      where
        stores_is : completes p st i d ≡ false → plan.stores ≡ store ∷ []
        stores_is q = unfold land_plan land_store seals in rw q

        memory_is : completes p st i d ≡ false → plan.memory ≡ mk_memory st1 m.addresses new_compact m.inflight
        memory_is q = unfold land_plan seals in rw q

    abbrev st2 : State
    st2 = free_stripe st1 i

    free_missing : st2.missing ≡ st.missing
    free_missing = unfold free_stripe mark_landed in refl

    addresses_now : completes p st i d ≡ true → new_addresses ≡ address_table p (candidates p 0 (segments p v1 0))
    addresses_now q = addresses_land p rg v sh st he so z hz oz d i hd hi fi rd b lb q m.addresses land_table_said

    -- it completes its stripe, and others are to come
    lands_stripe : completes p st i d ≡ true → seals p st i d ≡ false → Run p off (store_all (store_disk p) plan.stores k) plan.memory
    lands_stripe q ns =
        subst (λ (x : List Store). Run p off (store_all (store_disk p) x k) plan.memory) (sym (stores_is ns))
        (subst (λ (x : Memory). Run p off (store_all (store_disk p) (store ∷ []) k) x) (sym (memory_is q ns))
        (chunk_run st2 new_addresses free_missing (freed_state p rg v sh st he so z hz oz d i hd hi fi rd b lb)
        (freed_healthy p rg v sh st he so z hz oz d i hd hi fi rd b lb q (λ x y. not_last x y)) (addresses_now q)))
      where
        stores_is : seals p st i d ≡ false → plan.stores ≡ store ∷ []
        stores_is ns = unfold land_plan land_store in rw ns

        memory_is : completes p st i d ≡ true → seals p st i d ≡ false → plan.memory ≡ mk_memory st2 new_addresses new_compact m.inflight
        memory_is q ns = unfold land_plan land_store in rw (ns, q)

        not_last : st.next ≡ p.S → length (in_flight st) ≡ 1 → ⊥
        not_last x y = clash (yes q x y) ns
          where
            yes : completes p st i d ≡ true → st.next ≡ p.S → length (in_flight st) ≡ 1 → seals p st i d ≡ true
            yes q x y =
                unfold seals in and_both (completes p st i d && eqb st.next p.S) (eqb (length (in_flight st)) 1)
                (and_both (completes p st i d) (eqb st.next p.S) q (eq-eqb st.next p.S x)) (eq-eqb (length (in_flight st)) 1 y)

    -- it completes the segment, which is sealed
    lands_segment : seals p st i d ≡ true → Run p off (store_all (store_disk p) plan.stores k) plan.memory
    lands_segment sl =
        let (q, (nx, one)) = parts sl in
        let behind = all-behind p rg v sh st he so z hz oz d i hd hi fi rd b lb q nx one in
        let sh1 : Shaped p v1 = subst (λ (x : View). Shaped p x) one_store (shaped_after p v (store ∷ []) sh (chunk_roomy p rg v sh st he so z hz oz d i hd hi fi rd b lb)) in
        let ss = seal_stores p v1 z in
        let v2 = store_all store_view_of ss v1 in
        let t1 = chunk_tidy p rg v sh st he so z hz oz d i hd hi fi rd b lb in
        let hz1 = chunk_there p rg v sh st he so z hz oz d i hd hi fi rd b lb in
        let gr = seal_grows p rg v1 sh1 z hz1 behind in
        let recs = seal_records p rg v1 sh1 z hz1 behind in
        let s0 = st.serial.0 in
        let ev : store_all store_view_of ((store ∷ []) ++ ss) v ≡ v2 = store_all-append store_view_of (store ∷ []) ss v ∙ ap (store_all store_view_of ss) one_store in
        let su = set_closed st2 in
        let none! : (j : ℕ) → j < 8 → flies su j ≡ false = λ j hj. closed-flies j ∙ last_flight p rg v sh st he so z hz oz d i hd hi fi rd b lb one j hj in
        let hk : HealthyState p v2 su = record {
          tidy = subst (λ (x : ℕ). Tidy p v2 x) (sym closed_serial) (grows_tidy p rg v1 v2 z gr s0 t1);
          sealed_but = λ y x. inr (sealed! y v2 x gr (segs_differ z y) (seal_pointer p rg v1 sh1 z hz1 behind));
          opens_at = λ x. absurd (x closed_opened);
          shut = λ x j hj. none! j hj;
          serial_fits = subst (λ (x : ℕ). x < 256 ^ 8) (sym closed_serial) he.serial_fits;
          stamp_fits = subst (λ (x : ℕ). x < 256 ^ 8) (sym closed_stamp) he.stamp_fits;
          lists = closed_lists (freed_healthy_lists);
        } in
        subst (λ (x : List Store). Run p off (store_all (store_disk p) x k) plan.memory) (sym (stores_is sl))
        (subst (λ (x : Memory). Run p off (store_all (store_disk p) ((store ∷ []) ++ ss) k) x) (sym (memory_is q sl))
        (well_run p off k ((store ∷ []) ++ ss) (mk_memory su new_addresses new_compact m.inflight) u.base.ranged u.base.zones_enough u.base.addresses_fit
        (offline_long p off k m u we) (whole_of p off k m u.base.lent) sh
        (roomy_append p v (store ∷ []) ss sh.sized (chunk_roomy p rg v sh st he so z hz oz d i hd hi fi rd b lb)
        (subst (λ (x : View). Roomy p x ss) (sym one_store) (seal_roomy p rg v1 sh1 z hz1 behind)))
        (within_append p (store ∷ []) ss store_within (seal_within p rg v1 sh1 z hz1 behind))
        (closed_missing ∙ we.none_missing) (closed_ok (freed_state p rg v sh st he so z hz oz d i hd hi fi rd b lb)) (subst (λ (x : View). HealthyState p x su) (sym ev) hk)
        (addresses_now q ∙ ap (address_table p) (grows_candidates p rg v1 v2 z gr recs) ∙ ap (λ (x : View). address_table p (candidates p 0 (segments p x 0))) (sym ev))
        (compact_now ∙ grows_compact p rg v1 v2 z gr recs ∙ ap (λ (x : View). compact_table p (segments p x 0)) (sym ev))
        (buffer_long p off k m u we)))
      where
        parts : seals p st i d ≡ true → (completes p st i d ≡ true) × ((st.next ≡ p.S) × (length (in_flight st) ≡ 1))
        parts sl = unfold seals in
            let x = completes p st i d in
            let y = eqb st.next p.S in
            let t = eqb (length (in_flight st)) 1 in
            let q1 : x && y ≡ true = and_left (x && y) t sl in
            (and_left x y q1, (eqb-true st.next p.S (and_right x y q1), eqb-true (length (in_flight st)) 1 (and_right (x && y) t sl)))

        closed_serial : (set_closed st2).serial.0 ≡ st.serial.0
        closed_serial = unfold set_closed free_stripe mark_landed in refl

        closed_stamp : (set_closed st2).stamp.0 ≡ st.stamp.0
        closed_stamp = unfold set_closed free_stripe mark_landed in refl

        closed_opened : (set_closed st2).opened ≡ 0
        closed_opened = unfold set_closed in refl

        closed_missing : (set_closed st2).missing ≡ st.missing
        closed_missing = unfold set_closed free_stripe mark_landed in refl

        closed-flies : (j : ℕ) → flies (set_closed st2) j ≡ flies st2 j
        closed-flies j = unfold set_closed is_free filled_in_of in refl

        freed_healthy_lists : Lists st2
        freed_healthy_lists = free_lists st1 (chunk_healthy p rg v sh st he so z hz oz d i hd hi fi rd b lb).lists i hi

        closed_lists : Lists st2 → Lists (set_closed st2)
        closed_lists l = unfold set_closed in record {
          numbers_long = l.numbers_long;
          filled_long = l.filled_long;
          writes_long = l.writes_long;
          landed_long = l.landed_long;
          addresses_long = l.addresses_long;
          stamps_long = l.stamps_long;
          offsets_long = l.offsets_long;
        }

        closed_ok : StateOk p st2 → StateOk p (set_closed st2)
        closed_ok sx = unfold set_closed stripe_in filled_in_of landed_in in record {
          live_is = sx.live_is;
          missing_low = sx.missing_low;
          missing_few = sx.missing_few;
          opened_low = omega arith;
          next_low = omega arith;
          slots_ok =
              λ j h. record { stripe_ok = (sx.slots_ok j h).stripe_ok; filled_ok = (sx.slots_ok j h).filled_ok; writes_ok = (sx.slots_ok j h).writes_ok; landed_ok = (sx.slots_ok j h).landed_ok };
          offsets_low = sx.offsets_low;
        }

        sealed! : (y : Seg) (v2 : View) → There p v2 y → Grows p v1 v2 z → Dec (z ≡ y) → ((e : ℕ) → e < p.N → pointer_at v2 e (zone_on z e) ≡ capacity p)
            → (e : ℕ) → e < p.N → pointer_at v2 e (zone_on y e) ≡ capacity p
        sealed! y v2 x gr (yes a) f e h = subst (λ (n : Seg). pointer_at v2 e (zone_on n e) ≡ capacity p) a (f e h)
        sealed! y v2 x gr (no n) f e h =
            let hy = grows_was p rg v1 v2 z gr y x in
            ⊎_elim (λ a. absurd (n (sym a))) (λ a. sym (zones_pointer p rg v1 v2 y (grows_others p rg v1 v2 z gr y hy n) e h) ∙ a e h)
            (sealed1 p rg v sh st he so z hz oz d i hd hi fi rd b lb y hy)

        stores_is : seals p st i d ≡ true → plan.stores ≡ (store ∷ []) ++ seal_stores p v1 z
        stores_is sl = unfold land_plan land_store in rw sl

        memory_is : completes p st i d ≡ true → seals p st i d ≡ true → plan.memory ≡ mk_memory (set_closed st2) new_addresses new_compact m.inflight
        memory_is q sl = unfold land_plan land_store in rw (sl, q)

    run_landed : (x : Disk) → x ≡ store_all (store_disk p) plan.stores k → Run p off x plan.memory
    run_landed x ex = subst (λ (y : Disk). Run p off y plan.memory) (sym ex) (go (test (completes p st i d)) (test (seals p st i d)))
      where
        go : Test (completes p st i d) → Test (seals p st i d) → Run p off (store_all (store_disk p) plan.stores k) plan.memory
        go (no! q) t = lands_chunk q
        go (yes! q) (no! ns) = lands_stripe q ns
        go (yes! q) (yes! sl) = lands_segment sl

  abbrev checks : List Check
  checks = land_checks p (lent_ok_of p off k m) v m d s

  pub well_land : (n : ℕ) → Kept p off (call_disk p off k m (land d s n))
  unfolding call_disk call_on verdict store_count lent_block land_verdict
  well_land n = go (outcome_ends p k m checks (land_plan p v m d s) n [])
    where
      mild_landed : is_refused_as 9 (land_plan p v m d s).answer ≡ false
      mild_landed = unfold land_plan is_refused_as is_refused kind in refl

      waits! : waiting p st d s ≡ true → LandWaits p v st d s
      waits! q = land_waits p rg v st d s he so q

      go :
          EndedAs p k m checks (land_plan p v m d s) (outcome p (store_disk p) n k m [] (decided (first_refusal checks) (land_plan p v m d s)))
          → Kept p off (outcome p (store_disk p) n k m [] (decided (first_refusal checks) (land_plan p v m d s)))
      go (ended-refused x e f g h) =
          refused-kept p off k m _ x u (land_mild p (lent_ok_of p off k m) v m d s u.base.state_ok_holds (λ z q. faults_none (waits! q)) x e) f g h
      go (ended_done c f g h) = record {
        never_ninth = ap (is_refused_as 9) f ∙ mild_landed;
        runs_on = λ x. subst (λ (y : Memory). Run p off (outcome p (store_disk p) n k m [] (decided (first_refusal checks) (land_plan p v m d s))).drives y) (sym h)
            (run_landed (waits! (land_passed p (lent_ok_of p off k m) v m d s c).waits) _ g);
      }
      go (ended-cut c f) = cut-kept p off _ f
