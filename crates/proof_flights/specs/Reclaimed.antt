-- Reclaim: a copy is a block sent that nobody waits for, and a reset takes a sealed segment away, which no stripe in flight is in. Assumes nothing.
use Rattle.std.specs.Prelude.{◌≡◌, List, [], true, false, cond, not, ℕ, ◌+◌, ◌-◌, ◌^◌, ◌<◌, length}
use Rattle.std.proofs.Math.Path.{refl, ap}
use Rattle.std.proofs.Common.{sym, ap₂, ◌∙◌, subst, inl, arith}
use Rattle.std.proofs.Math.ListN.{get_or}
use Rattle.spec.specs.Lists.Opt.{none}
use Rattle.spec.specs.declared.Params.{Params}
use Rattle.spec.specs.declared.State.{State}
use Rattle.spec.specs.declared.Answer.{Answer}
use Rattle.spec.specs.declared.Answer.TheVariants.{Copied, Reset}
use Rattle.spec.specs.Answers.{kind, is_cut_of}
use Rattle.spec.specs.Calls.{Check, Plan, first_refusal}
use Rattle.spec.specs.Counts.{a_stamp}
use Rattle.spec.specs.Drives.{no_chunk, Zone, View, zone_at, pointer_at, chunk_at, Store, store_view_of, Disk, store_disk, store_all, zone_on, sealed_in, record_in, record_at, reset_stores}
use Rattle.spec.specs.Engine.{store_count, lent_block, verdict, lent_ok_of, call_on, call_disk}
use Rattle.spec.specs.Engine.Call.{reclaim}
use Rattle.spec.specs.Layout.{Rec, header_serial}
use Rattle.spec.specs.Lists.{Opt, keep, is_nil, first_or}
use Rattle.spec.specs.Reclaim.{places_in, live_in, flying, Victim, victim, is_none, victim_segment, victim_live}
use Rattle.spec.specs.Memory.{Memory, mk_memory}
use Rattle.spec.specs.Params.{capacity, place_block, place_zone, place_drive, drives_of}
use Rattle.spec.specs.Reclaim.{idle, reclaim_checks, cleared, reset_plan, copy_plan, reclaim_verdict_in}
use Rattle.spec.specs.Segments.{Segment, open_segment, place_segment}
use Rattle.spec.specs.Write.{opens, no_serial, must_wait, scarce, Sending, sending}
use Rattle.law_basic.specs.Geometry.{Ranged, ranged}
use Rattle.law_basic.specs.Ranges.{Test, test}
use Rattle.law_basic.specs.Ranges.Test.{yes!, no! }
use Rattle.proof_crash_calls.specs.Cells.{SameSlot}
use Rattle.spec_demands.specs.Layouts.{ParityMade}
use Rattle.spec_demands.specs.Tables.{Pending, pending_after}
use Rattle.law_drives.specs.Members.{In, keep_in, first_in}
use Rattle.law_checks.specs.Passed.{ReclaimPassed, reclaim_passed}
use Rattle.law_drives.specs.Settled.{sealed_full, its_zone, its_zones_low, zero_here, zones_header}
use Rattle.law_drives.specs.Range.{capacity_over}
use Rattle.law_drives.specs.Records.{record_low}
use Rattle.law_drives.specs.Resets.{reset_same, reset_roomy, reset_within, reset_was, Alone, reset_keeps, tidy_alone}
use Rattle.law_drives.specs.Spots.{cand_segment, spot_block, spot_drive, cand_zone, none_apart}
use Rattle.law_drives.specs.Tests.{cond_true, cond_false}
use Rattle.law_drives.specs.Zones.{Shaped}
use Rattle.proof_tables.specs.Bounds.{open_short}
use Rattle.proof_tables.specs.Going.{address_table_holds, buffer_long}
use Rattle.proof_tables.specs.Live.{Pointed, places_pointed}
use Rattle.proof_tables.specs.Outcomes.{outcome_ends}
use Rattle.proof_tables.specs.Reclaiming.{victim_taken, live_in_lem}
use Rattle.proof_tables.specs.Run.{flies, HealthyState, Well, Run, OpenZone}
use Rattle.proof_tables.specs.Sending.{sent_ok, plenty}
use Rattle.law_views.specs.Views.{seen}
use Rattle.law_drives.specs.States.{StateOk, state_of_lem}
use Rattle.proof_flights.specs.Flocks.{none_more, flock_of, of_flock, flock_same, open_of}
use Rattle.proof_flights.specs.Flown.{Flights, Flown}
use Rattle.proof_flights.specs.Idled.{QuietAnswer, pending_quiet, quiet_kind, flown_as, flown-ended}
use Rattle.proof_flights.specs.Pieces.{parity_zones, remains_of_there, there_of_remains}
use Rattle.proof_flights.specs.Sent.{leaves-sent}
use Rattle.proof_flights.specs.Written.{well_of, run_seen-after, flown-parity-made, flown_of}
use Rattle.spec.specs.declared.Seg.{Seg}
use Rattle.law_drives.specs.Segs.{remaining_left}
use Rattle.law_drives.specs.Tidy.{There}
use Rattle.proof_tables.specs.Opened.{open_segment_is}
use Rattle.proof_tables.specs.Resetting.{reset_healthy}

-- ---- a sealed segment is reset

module _ (p : Params) (r : Ranged p) (v : View) (sh : Shaped p v) (g : Seg) (hg : There p v g) (st : State) (h : HealthyState p v st) (so : StateOk p st)
    (full : (d : ℕ) → d < p.N → pointer_at v d (zone_on g d) ≡ capacity p) where
  abbrev after : View
  after = store_all store_view_of (reset_stores p g) v

  abbrev n₀ : ℕ
  n₀ = st.serial.0

  al : Alone p v g
  al = tidy_alone p r v n₀ h.tidy g hg

  -- it isn't the open one
  not_open : (z : Seg) → OpenZone p v st (flies st) z → g ≡ z → ⊥
  not_open z o q =
      let h0 : 0 < p.N = omega (arith, r.drives_low) in
      let x = open_short p r v st z so o 0 h0 in
      let y : pointer_at v 0 (zone_on z 0) ≡ capacity p = ap (λ (x : Seg). pointer_at v 0 (zone_on x 0)) (sym q) ∙ full 0 h0 in
      let bad : ⊥ = omega arith in bad

  pub flights_reset : (fl : List ℕ) (ws : List Pending) → Flights p v st fl ws → Flights p after st fl ws
  flights_reset fl ws f = of_flock p after st fl ws (flock_same p r v after st st fl ws same stays (flock_of p v st fl ws h so f))
    where
      same : (j : ℕ) → SameSlot st st j
      same j = record { number = refl; filled = refl; landed = refl; entry = λ k l. refl; offset = λ d l. refl; write = λ k. refl }

      chunk_same : (z : Seg) (d b : ℕ) → zone_at after d (zone_on z d) ≡ zone_at v d (zone_on z d) → chunk_at after d (zone_on z d) b ≡ chunk_at v d (zone_on z d) b
      chunk_same z d b q = unfold chunk_at in ap (λ (x : Zone). get_or x.blocks b no_chunk) q

      stays : (j d b : ℕ) → j < 8 → flies st j ≡ true → d < p.N → chunk_at after d (zone_on (open_segment p after st) d) b ≡ chunk_at v d (zone_on (open_segment p v st) d) b
      stays j d b hj fj hd =
          let (z, e, o) = open_of p v st h j hj fj in
          let n = not_open z o in
          let sm = reset_same p r v sh g hg z o.opened_zone n in
          ap (λ (x : Seg). chunk_at after d (zone_on x d) b) (open_segment_is p r after st (reset_healthy p r v sh g hg st h so full) z (reset_keeps p r v sh g hg al z o.opened_zone n)
          (e ∙ ap (header_serial p) (zones_header p r v after z sm)))
          ∙ chunk_same z d b (sym (sm d hd)) ∙ ap (λ (x : Seg). chunk_at v d (zone_on x d) b) (sym (open_segment_is p r v st h z o.opened_zone e))

  pub parity_reset : (old : List Segment) → ParityMade p v 0 old → ParityMade p after 0 old
  parity_reset old pm = parity_zones p r v after old pm (λ y rm.
      let (m, ne) = reset_was p r v sh g hg al y (there_of_remains p after y rm) in
      inl (remains_of_there p r v n₀ h.tidy y m, reset_same p r v sh g hg y m ne))

-- ---- the call

module _ (p : Params) (off : List ℕ) (k : Disk) (m : Memory) (u : Run p off k m) (ws : List Pending) (old : List Segment) (f : Flown p off k m ws old) (n : ℕ) where
  abbrev v : View
  v = seen p off k

  abbrev st : State
  st = m.state

  abbrev w : Opt Victim
  w = victim p v m.addresses

  abbrev plan : Plan
  plan = cond (is_nil (victim_live w)) (reset_plan p m (victim_segment w)) (copy_plan p v m (first_or 0 (idle p v st w)))

  abbrev checks : List Check
  checks = reclaim_checks p (lent_ok_of p off k m) v m w

  rg : Ranged p
  rg = ranged p u.base.ranged

  so : StateOk p st
  so = state_of_lem p rg st u.base.state_ok_holds

  -- what a plan leaves
  abbrev Left : Plan → Type 0
  Left q = Flown p off (store_all (store_disk p) q.stores k) q.memory (pending_after (reclaim n) q.answer ws) old

  reset_left : Well p off k m → is_none w ≡ false → Left (reset_plan p m (victim_segment w))
  reset_left we nn =
      let g = victim_segment w in
      let t = victim_taken p v m.addresses nn in
      let hg = t.taken_low in
      let lg = its_zones_low p rg v g hg in
      let sh = u.base.shaped in
      let full = sealed_full p v g t.taken_sealed in
      let cs = cleared p g (drives_of p) m.compact in
      let k' = store_all (store_disk p) (reset_stores p g) k in
      let m' = mk_memory st m.addresses cs m.inflight in
      flown_as p off k' m' _ ws old _ _ (ap (λ (l : List Store). store_all (store_disk p) l k) (stores_is g)) (memory_is g)
      (ap (λ (y : Answer). pending_after (reclaim n) y ws) (answer_is g) ∙ pending_quiet (reclaim n) (Reset (zone_on g 0)) ws (quiet_reset (zone_on g 0)))
      (flown_of p off k' m' ws old (store_all store_view_of (reset_stores p g) v)
      (run_seen-after p off k m u (reset_stores p g) (reset_roomy p rg v sh g lg) (reset_within p rg v sh g lg)) we.none_missing
      (flights_reset p rg v sh g hg st we.healthy so full m.inflight ws (f.flights we.none_missing))
      (parity_reset p rg v sh g hg st we.healthy so full old (flown-parity-made p off k m ws old f we.none_missing)))
    where
      stores_is : (g : Seg) → (reset_plan p m g).stores ≡ reset_stores p g
      stores_is g = unfold reset_plan in refl

      memory_is : (g : Seg) → (reset_plan p m g).memory ≡ mk_memory st m.addresses (cleared p g (drives_of p) m.compact) m.inflight
      memory_is g = unfold reset_plan in refl

      answer_is : (g : Seg) → (reset_plan p m g).answer ≡ Reset (zone_on g 0)
      answer_is g = unfold reset_plan in refl

      quiet_reset : (z : ℕ) → QuietAnswer (Reset z)
      quiet_reset z = quiet_kind (Reset z) 7 (unfold kind in refl) refl refl refl refl

  -- the block that is copied, as it is sent
  abbrev rec : ℕ → Rec
  rec q = record_at p v 0 (place_drive p q) (place_segment p v 0 q) (place_block p q - 1)

  abbrev copied : ℕ → Sending
  copied q = sending p v st m.inflight (rec q).address (rec q).stamp 0 (chunk_at v (place_drive p q) (place_zone p q) (place_block p q)).block

  copy_left : Well p off k m → is_none w ≡ false → is_nil (idle p v st w) ≡ false → no_serial p st ≡ false → must_wait p st ≡ false → (opens p st ≡ true → scarce p v 1 ≡ false)
      → Left (copy_plan p v m (first_or 0 (idle p v st w)))
  copy_left we nn ni ns nw sc =
      let q = first_or 0 (idle p v st w) in
      let at! = address_table_holds p off k m u we in
      let i : In q (victim_live w) = idle_live q (first_in (idle p v st w) 0 ni) in
      let i' : In q (live_in p (places_in p m.addresses) (victim_segment w)) = subst (λ (x : List ℕ). In q x) (victim_taken p v m.addresses nn).taken_live i in
      let t : Pointed p v q = places_pointed p rg v m.addresses at! q (live_in_lem p (places_in p m.addresses) (victim_segment w) q i') in
      let c = t.cand in
      let kc = t.at_cand! in
      let d = place_drive p q in
      let g = place_segment p v 0 q in
      let o = place_block p q - 1 in
      let ed : d ≡ c.drive = ap (place_drive p) t.place! ∙ spot_drive p rg v 0 (zero_here p rg) (none_apart p v) c t.spot in
      let eg : g ≡ kc.of = ap (place_segment p v 0) t.place! ∙ cand_segment p rg v 0 (zero_here p rg) (none_apart p v) c kc t.spot in
      let eb : place_block p q ≡ 1 + c.offset = ap (place_block p) t.place! ∙ spot_block p rg v 0 (zero_here p rg) (none_apart p v) c t.spot in
      let hd : d < p.N = subst (λ (y : ℕ). y < p.N) (sym ed) t.spot.drive_low in
      let hg : There p v g = subst (λ (y : Seg). There p v y) (sym eg) (remaining_left p v 0 kc.of kc.remains) in
      let hz : zone_on g d < p.Z = (its_zone p rg v g hg d hd).zone_low in
      let low = record_low p (zone_at v d (zone_on g d)) (u.base.shaped.zone_ok d (zone_on g d) hd hz) (sealed_in p v 0 g) o in
      let er = record_is d g o in
      let hb : place_block p q < capacity p = (let l = t.spot.offset_low in let y = capacity_over p rg in omega arith) in
      let ez : place_zone p q ≡ zone_on g d = ap (place_zone p) t.place! ∙ cand_zone p rg v 0 (zero_here p rg) (none_apart p v) c kc t.spot ∙ ap₂ zone_on (sym eg) (sym ed) in
      let lb : length (chunk_at v d (place_zone p q) (place_block p q)).block ≡ p.B =
      ap (λ (y : ℕ). length (chunk_at v d y (place_block p q)).block) ez ∙ chunk_long d g (place_block p q) hd hz hb in
      let sh = u.base.shaped in
      let bu = buffer_long p off k m u we in
      let b = (chunk_at v d (place_zone p q) (place_block p q)).block in
      let s = sent_ok p rg v sh st we.healthy so m.inflight bu (rec q).address (rec q).stamp 0 b (subst (λ (y : Rec). y.address < 256 ^ 8) (sym er) low.0)
      (subst (λ (y : Rec). y.stamp < 256 ^ 8) (sym er) low.1) (omega arith) lb nw ns (λ z. plenty p v 1 (sc z)) in
      let le = leaves-sent p rg v sh st we.healthy so m.inflight bu ws old (f.flights we.none_missing) (flown-parity-made p off k m ws old f we.none_missing) (rec q).address
      (rec q).stamp 0 b
      (inl refl) lb nw ns (λ z. plenty p v 1 (sc z)) in
      let e = copied q in
      let k' = store_all (store_disk p) e.stores k in
      let m' = mk_memory e.state m.addresses m.compact e.inflight in
      let v' = store_all store_view_of e.stores v in
      flown_as p off k' m' _ ws old _ _ (ap (λ (l : List Store). store_all (store_disk p) l k) (stores_is q)) (memory_is q)
      (ap (λ (y : Answer). pending_after (reclaim n) y ws) (answer_is q) ∙ pending_quiet (reclaim n) _ ws (quiet_copied (rec q).stamp e.stripe e.drive))
      (flown_of p off k' m' ws old v' (run_seen-after p off k m u e.stores s.has_room s.all_within) (s.missing_after ∙ we.none_missing)
      (subst (λ (x : List Pending). Flights p v' e.state e.inflight x) (none_more ws _) le.0) le.1)
    where
      idle_live : (q : ℕ) → In q (idle p v st w) → In q (victim_live w)
      idle_live q i = (keep_in (λ q. not (flying p v st q)) (victim_live w) q (as! i)).0
        where
          as! : In q (idle p v st w) → In q (keep (λ q. not (flying p v st q)) (victim_live w))
          as! i = unfold idle in i

      record_is : (d : ℕ) (g : Seg) (o : ℕ) → record_at p v 0 d g o ≡ record_in p (sealed_in p v 0 g) (zone_at v d (zone_on g d)) o
      record_is d g o = unfold record_at in refl

      chunk_long : (d : ℕ) (g : Seg) (b : ℕ) → d < p.N → zone_on g d < p.Z → b < capacity p → length (chunk_at v d (zone_on g d) b).block ≡ p.B
      chunk_long d g b hd hz hb = unfold chunk_at in ((u.base.shaped.zone_ok d (zone_on g d) hd hz).sound b hb).block_long

      stores_is : (q : ℕ) → (copy_plan p v m q).stores ≡ (copied q).stores
      stores_is q = unfold copy_plan in refl

      memory_is : (q : ℕ) → (copy_plan p v m q).memory ≡ mk_memory (copied q).state m.addresses m.compact (copied q).inflight
      memory_is q = unfold copy_plan in refl

      answer_is : (q : ℕ) → (copy_plan p v m q).answer ≡ Copied (a_stamp (rec q).stamp) (copied q).stripe (copied q).drive
      answer_is q = unfold copy_plan in refl

      quiet_copied : (t s d : ℕ) → QuietAnswer (Copied (a_stamp t) s d)
      quiet_copied t s d = quiet_kind (Copied (a_stamp t) s d) 6 (unfold kind in refl) refl refl refl refl

  done : first_refusal checks ≡ none → Left plan
  done e = go (test (is_nil (victim_live w)))
    where
      c : ReclaimPassed p (lent_ok_of p off k m) v m w
      c = reclaim_passed p (lent_ok_of p off k m) v m w e

      we : Well p off k m
      we = well_of p off k m u c.healthy

      go : Test (is_nil (victim_live w)) → Left plan
      go (yes! q) = subst (λ (y : Plan). Left y)
          (sym (cond_true (is_nil (victim_live w)) (reset_plan p m (victim_segment w)) (copy_plan p v m (first_or 0 (idle p v st w))) q)) (reset_left we c.taken)
      go (no! q) =
          subst (λ (y : Plan). Left y) (sym (cond_false (is_nil (victim_live w)) (reset_plan p m (victim_segment w)) (copy_plan p v m (first_or 0 (idle p v st w))) q))
          (copy_left we c.taken (c.some_idle q) (c.serial_left q) (c.no_wait q) (c.room q))

  pub flown_reclaim : is_cut_of (call_disk p off k m (reclaim n)).answer ≡ false
      → Flown p off (call_disk p off k m (reclaim n)).drives (call_disk p off k m (reclaim n)).memory (pending_after (reclaim n) (call_disk p off k m (reclaim n)).answer ws) old
  unfolding call_disk call_on verdict store_count lent_block reclaim_verdict_in
  flown_reclaim nc = flown-ended p off k m ws old f (reclaim n) checks plan _ done nc (outcome_ends p k m checks plan n [])
