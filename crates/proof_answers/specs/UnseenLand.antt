-- Two views that differ in offline zones alone: a landing decides the same (02, item 4). Assumes nothing.
use Rattle.std.specs.Prelude.{◌≡◌, Bool, false, ◌&&◌, length, get_or, set}
use Rattle.std.proofs.Math.Path.{refl, sym, ap, ap₂}
use Rattle.std.proofs.Common.{◌∙◌, subst, inl, inr}
use mathlib.Core.List.{List, [], ◌∷◌, ◌++◌, map}
use Rattle.std.proofs.Math.Bool.{true, cond, not}
use Prim.Native.Nat.{ℕ, suc, ◌+◌, ◌-◌, ◌<◌, ◌≤◌}
use Rattle.std.proofs.Math.Decide.{ℕ_discrete}
use native.Mathlib.Omega.{arith}
use borrow.Author.Tests.{eqb-true, ltb-true, ne_eqb, not-false}
use Rattle.std.proofs.Math.Dec.{eqb, ltb}
use Rattle.std.proofs.Math.Seq.{get_or-set_other}
use Rattle.spec.specs.declared.Answer.{Answer}
use Rattle.spec.specs.declared.Answer.TheVariants.{Landed}
use Rattle.spec.specs.declared.Params.{Params}
use Rattle.spec.specs.declared.Seg.{Seg}
use Rattle.spec.specs.declared.State.{State}
use Rattle.spec.specs.Calls.{ninth, ruled, first_refusal, Plan, mk_plan}
use Rattle.spec.specs.Counts.{never_place}
use Rattle.spec.specs.Drives.{Chunk, no_chunk, mk_chunk, Zone, View, zone_at, pointer_at, chunk_at, Store, put_zone, store_view_of, is_good, zone_on, no_seg, footer_stores, record_at}
use Rattle.spec.specs.Drives.Store.{put}
use Rattle.spec.specs.Landing.{slot_of, ready, waiting, completes, seals, flight_rec, misplaced, overfull, entry_faults, land_faults, held_cand, held, landed_cand, landed_cands, pointed, land_checks}
use Rattle.spec.specs.Landing.{seal_stores, writes_in, land_store, land_plan, land_verdict}
use Rattle.spec.specs.Layout.{data_drive, group, compact_entry, header_serial, Rec, record_bytes}
use Rattle.spec.specs.Lists.{Opt, below, cons_if, is_nil, keep, flat, first_or}
use Rattle.spec.specs.Lists.Opt.{none, some}
use Rattle.spec.specs.Memory.{Memory, mk_memory, slot_count, stripe_in, filled_in_of, entry_in_of, entries_in, offset_in}
use Rattle.spec.specs.Memory.{state_ok, state_faults, set_closed, mark_landed, free_stripe, place_at_of, set_place, compact_at, slot_block}
use Rattle.spec.specs.Params.{between, in_range, footers, capacity, place_of, place_block, place_zone, place_drive, drives_of}
use Rattle.spec.specs.Rank.{Cand, best, place_or, cands_of}
use Rattle.spec.specs.Read.{place_faults}
use Rattle.spec.specs.Segments.{is_used, remaining, holders, is_place, place_segment, place_record, serial_at, open_segments, open_segment}
use Rattle.law_basic.specs.Geometry.{Ranged, ranged, between-low}
use Rattle.law_basic.specs.Mask.{is_in_empty}
use Rattle.law_basic.specs.Ranges.{Test, test, and_left, and_right}
use Rattle.law_basic.specs.Ranges.Test.{yes!, no! }
use Rattle.law_calls.specs.Refusals.{state_fine}
use Rattle.law_checks.specs.Passed.{nil_both, land_passed}
use Rattle.law_drives.specs.Gather.{SameHeads, gather_same_remaining}
use Rattle.law_drives.specs.Growing.{used_zone, used_both, head_zone}
use Rattle.law_drives.specs.Members.{In, map_in, in_map, keep_in, below_in, in_below, keep_cong, flat_cong, first_in, if_none}
use Rattle.law_drives.specs.Segs.{Here}
use Rattle.law_drives.specs.Settled.{zero_here}
use Rattle.law_drives.specs.Tests.{cond_true, cond_false}
use Rattle.law_drives.specs.Zones.{Sized, hits_at_of, zone_store, zone_stored, put_pointer}
use Rattle.law_views.specs.Alike.{offline_kept}
use Rattle.law_views.specs.Looked.{held_none, held_some}
use Rattle.proof_answers.specs.UnseenCalls.{decided_same, unseen_calls_past, front, unseen_calls_zero_first, state_first}
use Rattle.proof_answers.specs.UnseenPlaces.{place_segment_same, place_faults_same, no_fault_place}
use Rattle.law_drives.specs.Holders.{place_drive_low, place_remains}
use Rattle.proof_answers.specs.UnseenZones.{UnseenZonesAlike, alike_store, remains, its_zone_same, its_pointer_same, its_header_same, its_record_same}

-- ---- a chunk above the header: what remains stays

unseen_land_put_heads : (p : Params) (v : View) → Sized p v → (d z : ℕ) (b s : List ℕ) → 1 ≤ pointer_at v d z → SameHeads p 0 v (store_view_of (put d z b s) v)
unseen_land_put_heads p v w d z b s n = record {
  same_used = λ e y he _ hy. used! e y he hy (test (hits_at_of e y W));
  same_head = λ e y he _ hy _. head! e y he hy (test (hits_at_of e y W));
}
  where
    W : Store
    W = put d z b s

    v1 : View
    v1 = store_view_of W v

    miss : (e y : ℕ) → e < p.N → y < p.Z → hits_at_of e y W ≡ false → zone_at v1 e y ≡ zone_at v e y
    miss e y he hy q = zone_stored p v e y W w he hy ∙ cond_false (hits_at_of e y W) (zone_store W (zone_at v e y)) (zone_at v e y) q

    hit : (e y : ℕ) → e < p.N → y < p.Z → hits_at_of e y W ≡ true → zone_at v1 e y ≡ put_zone b s (zone_at v e y)
    hit e y he hy q = unfold zone_store in (zone_stored p v e y W w he hy ∙ cond_true (hits_at_of e y W) (zone_store W (zone_at v e y)) (zone_at v e y) q)

    parts : (e y : ℕ) → hits_at_of e y W ≡ true → (d ≡ e) × (z ≡ y)
    parts e y q = unfold hits_at_of in (eqb-true d e (and_left (eqb d e) (eqb z y) q), eqb-true z y (and_right (eqb d e) (eqb z y) q))

    some! : (e y : ℕ) → hits_at_of e y W ≡ true → 1 ≤ pointer_at v e y
    some! e y q = let (i, j) = parts e y q in subst (λ (x : ℕ). 1 ≤ x) (ap₂ (pointer_at v) i j) n

    more : (e y : ℕ) → e < p.N → y < p.Z → hits_at_of e y W ≡ true → pointer_at v1 e y ≡ suc (pointer_at v e y)
    more e y he hy q = unfold pointer_at in (ap (λ (x : Zone). x.pointer) (hit e y he hy q) ∙ put_pointer b s (zone_at v e y))

    used! : (e y : ℕ) → e < p.N → y < p.Z → Test (hits_at_of e y W) → is_used p v e y ≡ is_used p v1 e y
    used! e y he hy (no! q) = used_zone p v v1 e y (offline_kept W v) (miss e y he hy q)
    used! e y he hy (yes! q) = used_both p v v1 e y (offline_kept W v) (some! e y q) (let m = more e y he hy q in omega arith)

    kept : (q : Zone) → 1 ≤ q.pointer → get_or (put_zone b s q).blocks 0 no_chunk ≡ get_or q.blocks 0 no_chunk
    kept q h = unfold put_zone in get_or-set_other q.blocks q.pointer 0 (mk_chunk b s) no_chunk (λ e. let bad : ⊥ = omega arith in bad)

    head! : (e y : ℕ) → e < p.N → y < p.Z → Test (hits_at_of e y W) → (chunk_at v e y 0).block ≡ (chunk_at v1 e y 0).block
    head! e y he hy (no! q) = head_zone v v1 e y (miss e y he hy q)
    head! e y he hy (yes! q) = unfold chunk_at in
        sym (ap (λ (x : Zone). (get_or x.blocks 0 no_chunk).block) (hit e y he hy q) ∙ ap (λ (c : Chunk). c.block) (kept (zone_at v e y) (at_least e y q)))
      where
        at_least : (e y : ℕ) → hits_at_of e y W ≡ true → 1 ≤ (zone_at v e y).pointer
        at_least e y q = unfold pointer_at in some! e y q

-- ---- what the landing looks at

module _ (p : Params) (r : Ranged p) (v u : View) (al : UnseenZonesAlike p v u) where
  low0 : Here p 0
  low0 = zero_here p r

  serial_at_same : (g : Seg) → In g (remaining p v 0) → serial_at p v g ≡ serial_at p u g
  unfolding serial_at
  serial_at_same g m = ap (header_serial p) (its_header_same p v u al 0 low0 g m 0 (let z : 0 < p.N = omega (arith, r.drives_low) in z) (is_in_empty 0))

  open_segments_same : (st : State) → open_segments p v st ≡ open_segments p u st
  unfolding open_segments
  open_segments_same st =
      keep_cong (λ g. eqb (serial_at p v g) st.opened) (λ g. eqb (serial_at p u g) st.opened) (remaining p v 0) (λ g m. ap (λ (n : ℕ). eqb n st.opened) (serial_at_same g m))
      ∙ ap (keep (λ g. eqb (serial_at p u g) st.opened)) (remains p v u al 0 low0)

  open_segment_same : (st : State) → open_segment p v st ≡ open_segment p u st
  unfolding open_segment
  open_segment_same st = ap (first_or no_seg) (open_segments_same st)

  open_remains : (st : State) → is_nil (open_segments p v st) ≡ false → In (open_segment p v st) (remaining p v 0)
  unfolding open_segment open_segments
  open_remains st n = (keep_in (λ g. eqb (serial_at p v g) st.opened) (remaining p v 0) (first_or no_seg (keep (λ g. eqb (serial_at p v g) st.opened) (remaining p v 0)))
      (first_in (keep (λ g. eqb (serial_at p v g) st.opened) (remaining p v 0)) no_seg n)).0

  module _ (g : Seg) (mg : In g (remaining p v 0)) where
    misplaced_same : (d s : ℕ) → d < p.N → misplaced p v d (zone_on g d) s ≡ misplaced p u d (zone_on g d) s
    unfolding misplaced
    misplaced_same d s hd = ap (λ (n : ℕ). not (between 1 p.S n && eqb (group p (n - 1)) (group p s))) (its_pointer_same p v u al 0 low0 g mg d hd (is_in_empty d))

    overfull_same : (d : ℕ) → overfull p v d g ≡ overfull p u d g
    unfolding overfull drives_of
    overfull_same d = ap (map (zone_on g)) (keep_cong (λ e. ltb (capacity p) (pointer_at v e (zone_on g e) + cond (eqb e d) 1 0 + footers p))
        (λ e. ltb (capacity p) (pointer_at u e (zone_on g e) + cond (eqb e d) 1 0 + footers p)) (below p.N)
        (λ e i. ap (λ (n : ℕ). ltb (capacity p) (n + cond (eqb e d) 1 0 + footers p)) (its_pointer_same p v u al 0 low0 g mg e (below_in p.N e i) (is_in_empty e))))

    seal_stores_same : seal_stores p v g ≡ seal_stores p u g
    unfolding seal_stores drives_of
    seal_stores_same = flat_cong (λ d. footer_stores p d (zone_on g d) (zone_at v d (zone_on g d)) 0 (footers p))
        (λ d. footer_stores p d (zone_on g d) (zone_at u d (zone_on g d)) 0 (footers p)) (below p.N)
        (λ d i. ap (λ (q : Zone). footer_stores p d (zone_on g d) q 0 (footers p)) (its_zone_same p v u al 0 low0 g mg d (below_in p.N d i) (is_in_empty d)))

    landed_cands_same : (st : State) (i : ℕ) → landed_cands p v g st i ≡ landed_cands p u g st i
    unfolding landed_cands landed_cand
    landed_cands_same st i = ap (λ (n : ℕ). map (λ k.
        let e = entry_in_of st i k in
        let d = data_drive p (stripe_in st i) k in
        let o = offset_in st i d in
        let c : Cand = record { address = e.address; stamp = e.stamp; serial = n; drive = d; offset = o; place = place_of p d (zone_on g d) (1 + o) } in
        c) (below (filled_in_of st i))) (serial_at_same g mg)

  entry_faults_same : (tb : List ℕ) (e : Rec) → entry_faults p v tb e ≡ entry_faults p u tb e
  unfolding entry_faults
  entry_faults_same tb e = ap (λ (zs : List ℕ). cond (ltb e.address p.L) (cond (eqb (place_at_of tb e.address) never_place) [] zs) [])
      (place_faults_same p r v u al 0 low0 (place_at_of tb e.address))

  -- what the table holds of an address, where its place is one
  held_same : (tb : List ℕ) (a : ℕ) → ((place_at_of tb a ≡ never_place → ⊥) → is_place p v 0 (place_at_of tb a) ≡ true) → held p v tb a ≡ held p u tb a
  held_same tb a f = go (ℕ_discrete (place_at_of tb a) never_place)
    where
      q : ℕ
      q = place_at_of tb a

      cand : Rec → Seg → ℕ → Opt Cand
      cand x g n = let c : Cand = record { address = a; stamp = x.stamp; serial = n; drive = place_drive p q; offset = place_block p q - 1; place = q } in some c

      record_same : is_place p v 0 q ≡ true → place_record p v 0 q ≡ place_record p u 0 q
      record_same t =
          its_record_same p v u al 0 low0 (place_segment p v 0 q) (place_remains p v 0 q t) (place_drive p q) (place_block p q - 1) (place_drive_low p v 0 q t)
          (is_in_empty (place_drive p q))
          ∙ ap (λ (g : Seg). record_at p u 0 (place_drive p q) g (place_block p q - 1)) (place_segment_same p r v u al 0 low0 q)

      serial_same : is_place p v 0 q ≡ true → serial_at p v (place_segment p v 0 q) ≡ serial_at p u (place_segment p u 0 q)
      serial_same t = serial_at_same (place_segment p v 0 q) (place_remains p v 0 q t) ∙ ap (serial_at p u) (place_segment_same p r v u al 0 low0 q)

      cands : is_place p v 0 q ≡ true → some (held_cand p v a (place_record p v 0 q).stamp q) ≡ some (held_cand p u a (place_record p u 0 q).stamp q)
      cands t = unfold held_cand in ap₂ (λ (x : Rec) (n : ℕ). cand x no_seg n) (record_same t) (serial_same t)

      go : Dec (q ≡ never_place) → held p v tb a ≡ held p u tb a
      go (yes e) = held_none p tb a q refl v e ∙ sym (held_none p tb a q refl u e)
      go (no n) = held_some p tb a q refl v n ∙ cands (f n) ∙ sym (held_some p tb a q refl u n)

  -- the table with the stripe's records
  pointed_same : (tb : List ℕ) (cs ds : List Cand) (t : List ℕ) → ((c : Cand) → In c ds → ltb c.address p.L ≡ true → held p v tb c.address ≡ held p u tb c.address)
      → pointed p v tb cs ds t ≡ pointed p u tb cs ds t
  unfolding pointed
  pointed_same tb cs [] t f = refl
  pointed_same tb cs (c ∷ ds) t f =
      pointed_same tb cs ds (cond (ltb c.address p.L) (set_place t c.address (place_or (best (held p v tb c.address) (cands_of c.address cs)))) t) (λ e m. f e (inr m))
      ∙ ap (pointed p u tb cs ds) (go (test (ltb c.address p.L)))
    where
      new : Opt Cand → List ℕ
      new h = set_place t c.address (place_or (best h (cands_of c.address cs)))

      go : Test (ltb c.address p.L) → cond (ltb c.address p.L) (new (held p v tb c.address)) t ≡ cond (ltb c.address p.L) (new (held p u tb c.address)) t
      go (yes! e) = ap (λ (h : Opt Cand). cond (ltb c.address p.L) (new h) t) (f c (inl refl) e)
      go (no! e) = cond_false (ltb c.address p.L) (new (held p v tb c.address)) t e ∙ sym (cond_false (ltb c.address p.L) (new (held p u tb c.address)) t e)

-- ---- the call

flat_empty : {A : Type 0} (f : A → List ℕ) (l : List A) → flat f l ≡ [] → (a : A) → In a l → f a ≡ []
unfolding flat
flat_empty f [] e a m = absurd m
flat_empty f (b ∷ l) e a (inl x) = ap f x ∙ (nil_both (f b) (flat f l) e).0
flat_empty f (b ∷ l) e a (inr m) = flat_empty f l (nil_both (f b) (flat f l) e).1 a m

waiting_drive : (p : Params) (st : State) (d s : ℕ) → waiting p st d s ≡ true → d < p.N
unfolding waiting
waiting_drive p st d s e =
    let i = slot_of st s in
    ltb-true d p.N (and_left (ltb d p.N) (ltb i slot_count) (and_left (ltb d p.N && ltb i slot_count) (ready p st i d) e))

-- where no fault is found the place of an address in range is one
entry_place : (p : Params) (r : Ranged p) (v u : View) (al : UnseenZonesAlike p v u) (tb : List ℕ) (e : Rec) → ltb e.address p.L ≡ true → (place_at_of tb e.address ≡ never_place → ⊥)
    → entry_faults p v tb e ≡ [] → is_place p v 0 (place_at_of tb e.address) ≡ true
unfolding entry_faults
entry_place p r v u al tb e h n x =
    let q = place_at_of tb e.address in
    let zs = place_faults p v 0 q in
    no_fault_place p r v u al 0 (zero_here p r) q
    (sym (cond_true (ltb e.address p.L) (cond (eqb q never_place) [] zs) [] h ∙ cond_false (eqb q never_place) [] zs (ne_eqb q never_place n)) ∙ x)

module _ (p : Params) (m : Memory) (d s : ℕ) where
  abbrev st : State
  st = m.state

  abbrev at : ℕ
  at = slot_of st s

  abbrev done : Bool
  done = completes p st at d

  -- ---- faults

  abbrev entered : View → List ℕ
  entered w = flat (entry_faults p w m.addresses) (entries_in st at)

  abbrev later : View → Seg → List ℕ
  later w g = cond (seals p st at d) (overfull p w d g) [] ++ cond done (entered w) []

  abbrev tail : View → Seg → List ℕ
  tail w g = cons_if (misplaced p w d (zone_on g d) s) (zone_on g d) (later w g)

  unseen_land_faults_are : (w : View) → land_faults p w m d s ≡ cons_if (is_nil (open_segments p w st)) 0 (tail w (open_segment p w st))
  unfolding land_faults
  unseen_land_faults_are w = refl

  unseen_land_none_open : (w : View) → is_nil (open_segments p w st) ≡ true → land_faults p w m d s ≡ 0 ∷ tail w (open_segment p w st)
  unseen_land_none_open w n = unseen_land_faults_are w ∙ (unfold cons_if in ap (λ (b : Bool). cons_if b 0 (tail w (open_segment p w st))) n)

  -- ---- the plan

  abbrev chunk : Seg → Store
  chunk g = put d (zone_on g d) (slot_block p m.inflight at d) (record_bytes (flight_rec p st at d))

  abbrev after : View → Seg → View
  after w g = store_view_of (chunk g) w

  abbrev offset : View → Seg → ℕ
  offset w g = pointer_at w d (zone_on g d) - 1

  abbrev cands : View → Seg → ℕ → List Cand
  cands w g o = landed_cands p (after w g) g (mark_landed st at d o) at

  abbrev table : View → Seg → ℕ → List ℕ
  table w g o = cond done (pointed p (after w g) m.addresses (cands w g o) (cands w g o) m.addresses) m.addresses

  abbrev frame : Seg → ℕ → List ℕ → List Store → Plan
  frame g o tb ss =
      let st1 = mark_landed st at d o in
      let st3 = cond done (free_stripe st1 at) st1 in
      mk_plan (chunk g ∷ cond (seals p st at d) ss []) (Landed (cond done (writes_in st at) 0))
      (mk_memory (cond (seals p st at d) (set_closed st3) st3) tb (set m.compact (compact_at p d (zone_on g d) o) (compact_entry p s)) m.inflight) []

  abbrev plan_with : View → Seg → Plan
  plan_with w g = frame g (offset w g) (table w g (offset w g)) (seal_stores p (after w g) g)

  plan_is : (w : View) → land_plan p w m d s ≡ plan_with w (open_segment p w st)
  unfolding land_plan land_store
  plan_is w = refl

  module _ (r : Ranged p) (v u : View) (al : UnseenZonesAlike p v u) (hd : d < p.N) where
    entered_same : entered v ≡ entered u
    entered_same = flat_cong (entry_faults p v m.addresses) (entry_faults p u m.addresses) (entries_in st at) (λ e i. entry_faults_same p r v u al m.addresses e)

    tail_same : (g : Seg) → In g (remaining p v 0) → tail v g ≡ tail u g
    tail_same g mg = λ i. cons_if (misplaced_same p r v u al g mg d s hd i) (zone_on g d) (cond (seals p st at d) (overfull_same p r v u al g mg d i) [] ++ cond done (entered_same i) [])

    unseen_land_faults_same : is_nil (open_segments p v st) ≡ false → land_faults p v m d s ≡ land_faults p u m d s
    unseen_land_faults_same n = unseen_land_faults_are v
        ∙ ap₂ (λ (l : List Seg) (t : List ℕ). cons_if (is_nil l) 0 t) (open_segments_same p r v u al st)
        (tail_same (open_segment p v st) (open_remains p r v u al st n) ∙ ap (tail u) (open_segment_same p r v u al st))
        ∙ sym (unseen_land_faults_are u)

    faults_ninth : ninth (state_faults p st ++ land_faults p v m d s) none ≡ ninth (state_faults p st ++ land_faults p u m d s) none
    faults_ninth = state_first p st (land_faults p v m d s) (land_faults p u m d s) none none (λ ok. go ok (test (is_nil (open_segments p v st))))
      where
        go : state_ok p st ≡ true → Test (is_nil (open_segments p v st)) → ninth (state_faults p st ++ land_faults p v m d s) none ≡ ninth (state_faults p st ++ land_faults p u m d s) none
        go ok (no! n) = ap (λ (zs : List ℕ). ninth (state_faults p st ++ zs) none) (unseen_land_faults_same n)
        go ok (yes! n) =
            ap₂ (λ (l zs : List ℕ). ninth (l ++ zs) none) (state_fine p st ok) (unseen_land_none_open v n)
            ∙ unseen_calls_zero_first (tail v (open_segment p v st)) (tail u (open_segment p u st)) none none
            ∙ sym (ap₂ (λ (l zs : List ℕ). ninth (l ++ zs) none) (state_fine p st ok) (unseen_land_none_open u (sym (ap is_nil (open_segments_same p r v u al st)) ∙ n)))

    -- nothing is bad
    module _ (fine : land_faults p v m d s ≡ []) where
      opened : (is_nil (open_segments p v st) ≡ false) × (tail v (open_segment p v st) ≡ [])
      opened = if_none (is_nil (open_segments p v st)) 0 (tail v (open_segment p v st)) (sym (unseen_land_faults_are v) ∙ fine)

      abbrev g : Seg
      g = open_segment p v st

      mg : In g (remaining p v 0)
      mg = open_remains p r v u al st opened.0

      unseen_land_lands : (misplaced p v d (zone_on g d) s ≡ false) × (later v g ≡ [])
      unseen_land_lands = if_none (misplaced p v d (zone_on g d) s) (zone_on g d) (later v g) opened.1

      above : 1 ≤ pointer_at v d (zone_on g d)
      above = go unseen_land_lands.0
        where
          go : misplaced p v d (zone_on g d) s ≡ false → 1 ≤ pointer_at v d (zone_on g d)
          go e = unfold misplaced in
              (let n = pointer_at v d (zone_on g d) in
              let a = between 1 p.S n in
              let b = eqb (group p (n - 1)) (group p s) in
              between-low 1 p.S n (and_left a b (not-false (a && b) e)))

      -- the chunk put
      abbrev v1 : View
      v1 = after v g

      abbrev u1 : View
      u1 = after u g

      al1 : UnseenZonesAlike p v1 u1
      al1 = alike_store p v u al (chunk g)

      kept : remaining p v 0 ≡ remaining p v1 0
      kept = gather_same_remaining p 0 v v1 (unseen_land_put_heads p v al.sized_one d (zone_on g d) (slot_block p m.inflight at d) (record_bytes (flight_rec p st at d)) above) (zero_here p r)

      mg1 : In g (remaining p v1 0)
      mg1 = subst (λ (l : List Seg). In g l) kept mg

      place_kept : (q : ℕ) → is_place p v 0 q ≡ is_place p v1 0 q
      unfolding is_place holders
      place_kept q = ap₂ (λ (l : List ℕ) (gs : List Seg).
          ltb (place_drive p q) p.N && is_good p l (place_drive p q) (place_zone p q) && eqb (length (keep (λ g. eqb (zone_on g (place_drive p q)) (place_zone p q)) gs)) 1)
          (sym (offline_kept (chunk g) v)) kept

      -- the places of the stripe's addresses were looked at
      entry_fine : done ≡ true → (k : ℕ) → k < filled_in_of st at → entry_faults p v m.addresses (entry_in_of st at k) ≡ []
      entry_fine t k h = flat_empty (entry_faults p v m.addresses) (entries_in st at)
          (sym (cond_true done (entered v) [] t) ∙ (nil_both (cond (seals p st at d) (overfull p v d g) []) (cond done (entered v) []) unseen_land_lands.1).1)
          (entry_in_of st at k) (unfold entries_in in in_map (entry_in_of st at) (below (filled_in_of st at)) k (in_below (filled_in_of st at) k h))

      held_in : (o : ℕ) → done ≡ true → (c : Cand) → In c (cands v g o) → ltb c.address p.L ≡ true
          → held p v1 m.addresses c.address ≡ held p u1 m.addresses c.address
      held_in o t c i h =
          let (k, ik, e) = which o c i in
          held_same p r v1 u1 al1 m.addresses c.address (λ n. sym (place_kept (place_at_of m.addresses c.address)) ∙ there k ik e h n)
        where
          which : (o : ℕ) (c : Cand) → In c (cands v g o) → (k : ℕ) × (k < filled_in_of st at) × (c.address ≡ (entry_in_of st at k).address)
          which o c i = unfold landed_cands landed_cand mark_landed filled_in_of entry_in_of in
              (let (k, ik, e) = map_in (landed_cand p v1 g (mark_landed st at d o) at) (below (filled_in_of st at)) c i in
              (k, below_in (filled_in_of st at) k ik, ap (λ (x : Cand). x.address) e))

          there : (k : ℕ) → k < filled_in_of st at → c.address ≡ (entry_in_of st at k).address → ltb c.address p.L ≡ true
              → (place_at_of m.addresses c.address ≡ never_place → ⊥) → is_place p v 0 (place_at_of m.addresses c.address) ≡ true
          there k hk e h n = subst (λ (a : ℕ). is_place p v 0 (place_at_of m.addresses a) ≡ true) (sym e)
              (entry_place p r v u al m.addresses (entry_in_of st at k) (subst (λ (a : ℕ). ltb a p.L ≡ true) e h)
              (λ x. n (ap (place_at_of m.addresses) e ∙ x)) (entry_fine t k hk))

      table_same : (o : ℕ) → table v g o ≡ table u g o
      table_same o = go (test done)
        where
          new : View → List ℕ
          new w = pointed p (after w g) m.addresses (cands w g o) (cands w g o) m.addresses

          go : Test done → cond done (new v) m.addresses ≡ cond done (new u) m.addresses
          go (no! e) = cond_false done (new v) m.addresses e ∙ sym (cond_false done (new u) m.addresses e)
          go (yes! e) = ap (λ (l : List ℕ). cond done l m.addresses)
              (pointed_same p r v1 u1 al1 m.addresses (cands v g o) (cands v g o) m.addresses (held_in o e)
              ∙ ap (λ (cs : List Cand). pointed p u1 m.addresses cs cs m.addresses) (landed_cands_same p r v1 u1 al1 g mg1 (mark_landed st at d o) at))

      offset_same : offset v g ≡ offset u g
      offset_same = ap (λ (n : ℕ). n - 1) (its_pointer_same p v u al 0 (zero_here p r) g mg d hd (is_in_empty d))

      plan_with_same : plan_with v g ≡ plan_with u g
      plan_with_same = λ i. frame g (offset_same i) (tables i) (seal_stores_same p r v1 u1 al1 g mg1 i)
        where
          tables : table v g (offset v g) ≡ table u g (offset u g)
          tables = table_same (offset v g) ∙ ap (table u g) offset_same

      land_plan_same : land_plan p v m d s ≡ land_plan p u m d s
      land_plan_same = plan_is v ∙ plan_with_same ∙ ap (plan_with u) (open_segment_same p r v u al st) ∙ sym (plan_is u)

  module _ (long : Bool) (v u : View) (list : v.offline ≡ u.offline) (alike : long ≡ true → UnseenZonesAlike p v u) where
    land_checks_same : first_refusal (land_checks p long v m d s) ≡ first_refusal (land_checks p long u m d s)
    unfolding land_checks first_refusal
    land_checks_same = front p v u list (not (in_range p)) (not long) (ruled 3 (not (eqb st.missing 0)) (waits v)) (ruled 3 (not (eqb st.missing 0)) (waits u))
        (λ c1 c2. ap (ruled 3 (not (eqb st.missing 0))) (unseen_calls_past 5 (not (waiting p st d s)) (nine v) (nine u)
        (λ c5. faults_ninth (ranged p (not-false (in_range p) c1)) v u (alike (not-false long c2)) (waiting_drive p st d s (not-false (waiting p st d s) c5)))))
      where
        nine : View → Opt Answer
        nine w = ninth (state_faults p st ++ land_faults p w m d s) none

        waits : View → Opt Answer
        waits w = ruled 5 (not (waiting p st d s)) (nine w)

    pub unseen_land_land_same : land_verdict p long v m d s ≡ land_verdict p long u m d s
    unfolding land_verdict
    unseen_land_land_same = decided_same (first_refusal (land_checks p long v m d s)) (first_refusal (land_checks p long u m d s)) (land_plan p v m d s) (land_plan p u m d s) land_checks_same go
      where
        go : first_refusal (land_checks p long v m d s) ≡ none → land_plan p v m d s ≡ land_plan p u m d s
        go e = let c = land_passed p long v m d s e in
            land_plan_same (ranged p c.in_range_holds) v u (alike c.lent) (waiting_drive p st d s c.waits) c.chunk_fine
