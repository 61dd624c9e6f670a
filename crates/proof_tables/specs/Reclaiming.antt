-- Reclaim, with no drive missing. Assumes nothing.
use Rattle.std.specs.Prelude.{◌≡◌, Bool, cond, not, ◌⊎◌, ℕ, ◌+◌, ◌-◌, ◌^◌, ◌≤◌, ◌<◌, length}
use Rattle.std.proofs.Math.Path.{refl, subst}
use Rattle.std.proofs.Common.{sym, ap, ap₂, ◌∙◌, inl, inr, ⊎_elim, arith}
use mathlib.Core.List.{List, [], ◌∷◌, map}
use Rattle.std.proofs.Math.Bool.{true, false}
use Rattle.spec.specs.declared.Params.{Params}
use Rattle.spec.specs.declared.State.{State}
use Rattle.spec.specs.Answers.{kind, is_refused, is_refused_as}
use Rattle.spec.specs.Calls.{Check, first_refusal, Plan, decided, outcome}
use Rattle.spec.specs.Drives.{View, zone_at, chunk_at, Store, store_view_of, Disk, store_disk, store_all, zone_on, sealed_in, record_in, record_at, reset_stores, empty_count}
use Rattle.spec.specs.Engine.{store_count, lent_block, verdict, lent_ok_of, call_on, call_disk}
use Rattle.spec.specs.Engine.Call.{reclaim}
use Rattle.spec.specs.History.{step}
use Rattle.spec.specs.Layout.{data_drive, Rec}
use Rattle.spec.specs.Lists.{Opt, below, is_member_of, keep, is_nil, first_or}
use Rattle.spec.specs.Lists.Opt.{none, some}
use Rattle.spec.specs.Memory.{Memory, mk_memory}
use Rattle.spec.specs.Params.{between, capacity, place_of, place_block, place_zone, place_drive, drives_of}
use Rattle.spec.specs.Rank.{Cand, best, cands_of}
use Rattle.spec.specs.Reclaim.{places_in, segment_places, live_in, flying, Victim, victim_of, fewer, fewest, victim, is_none, victim_segment}
use Rattle.spec.specs.Reclaim.{victim_live, idle, reclaim_checks, cleared, reset_plan, copy_plan, reclaim_verdict_in}
use Rattle.spec.specs.Segments.{Segment, segment_of, segments, stored_rec, rec_of, cand_of, candidates, address_table, place_segment, remaining}
use Rattle.spec.specs.Write.{opens, no_serial, must_wait, scarce, sending}
use Rattle.law_basic.specs.Geometry.{between_of, Ranged, ranged}
use Rattle.law_basic.specs.Mask.{is_in_empty}
use Rattle.law_basic.specs.Ranges.{Test, test, nil_is}
use Rattle.law_basic.specs.Ranges.Test.{yes!, no! }
use Rattle.law_code.specs.Chunks.{rec_here}
use Rattle.law_views.specs.Views.{seen}
use Rattle.law_drives.specs.Best.{fewer_is}
use Rattle.law_drives.specs.Lengths.{whole_of}
use Rattle.law_checks.specs.Passed.{stray_faults, ReclaimPassed, reclaim_passed, reclaim_mild}
use Rattle.law_drives.specs.Settled.{sealed_full, its_zone, its_zones_low, zero_here}
use Rattle.law_drives.specs.Members.{In, in_map, map_in, in_flat, in_keep, keep_in, keep_nothing, in_below, first_in, is_member, member_is}
use Rattle.law_drives.specs.Range.{capacity_over}
use Rattle.law_drives.specs.Records.{record_low}
use Rattle.law_drives.specs.Resets.{reset_roomy, reset_within}
use Rattle.law_drives.specs.Segs.{CandAt, remaining_left}
use Rattle.law_drives.specs.Settled.{its_drive, its_offset, chunk_of_it}
use Rattle.law_drives.specs.Spots.{cand_zone, spot_of, spot_block, spot_zone, spot_drive, cand_segment, none_apart}
use Rattle.law_drives.specs.States.{StateOk, state_of_lem}
use Rattle.law_drives.specs.Tests.{true_false, cond_true, cond_false}
use Rattle.law_drives.specs.Tidy.{Tidy, There}
use Rattle.proof_tables.specs.Going.{well_run, address_table_holds, compact_table_holds, buffer_long, sent_run, offline_long}
use Rattle.proof_tables.specs.Live.{Pointed, places_pointed, holds_place, table_clear}
use Rattle.proof_tables.specs.Losing.{refused-kept, cut-kept}
use Rattle.proof_tables.specs.Outcomes.{EndedAs, outcome_ends}
use Rattle.proof_tables.specs.Outcomes.EndedAs.{ended-refused, ended_done, ended-cut}
use Rattle.proof_tables.specs.Resetting.{reset_addresses, reset_rows, reset_healthy, cleared_is}
use Rattle.proof_tables.specs.Run.{Well, Run, Kept}
use Rattle.proof_tables.specs.Sending.{sent_ok, plenty}
use Rattle.spec.specs.declared.Seg.{Seg}

-- ---- the segment that it takes

fewest_is : (a : Opt Victim) (bs : List Victim) (w : Victim) → fewest a bs ≡ some w → (a ≡ some w) ⊎ In w bs
unfolding fewest
fewest_is a [] w q = inl q
fewest_is a (b ∷ bs) w q = two (fewest_is (fewer a b) bs w q)
  where
    two : (fewer a b ≡ some w) ⊎ In w bs → (a ≡ some w) ⊎ ((w ≡ b) ⊎ In w bs)
    two (inr m) = inr (inr m)
    two (inl e) = ⊎_elim (λ x. inl x) (λ x. inr (inl x)) (fewer_is a b w e)

pub record Taken (p : Params) (v : View) (tb : List ℕ) (w : Opt Victim) : Type 0 where
  pub taken_low : There p v (victim_segment w)
  pub taken_sealed : sealed_in p v 0 (victim_segment w) ≡ true
  pub taken_live : victim_live w ≡ live_in p (places_in p tb) (victim_segment w)

pub victim_taken : (p : Params) (v : View) (tb : List ℕ) → is_none (victim p v tb) ≡ false → Taken p v tb (victim p v tb)
victim_taken p v tb q = go (victim p v tb) refl q
  where
    qs : List ℕ
    qs = places_in p tb

    member : (w : Victim) → victim p v tb ≡ some w → In w (map (victim_of p qs) (keep (sealed_in p v 0) (remaining p v 0)))
    member w e = step (fewest_is none (map (victim_of p qs) (keep (sealed_in p v 0) (remaining p v 0))) w (as! e))
      where
        as! : victim p v tb ≡ some w → fewest none (map (victim_of p qs) (keep (sealed_in p v 0) (remaining p v 0))) ≡ some w
        as! e = unfold victim in e

        step : (none ≡ some w) ⊎ In w (map (victim_of p qs) (keep (sealed_in p v 0) (remaining p v 0))) → In w (map (victim_of p qs) (keep (sealed_in p v 0) (remaining p v 0)))
        step (inl x) = absurd (let z : ◌≡◌ {A = ℕ} 0 1 = cc in let y : ⊥ = omega arith in y)
        step (inr m) = m

    of_victim : (g : Seg) → There p v g → sealed_in p v 0 g ≡ true → Taken p v tb (some (victim_of p qs g))
    of_victim g hg s = unfold victim_segment victim_live victim_of in record { taken_low = hg; taken_sealed = s; taken_live = refl }

    go : (w : Opt Victim) → victim p v tb ≡ w → is_none w ≡ false → Taken p v tb w
    go none e x = true_false (none! x)
      where
        none! : is_none none ≡ false → true ≡ false
        none! x = unfold is_none in x
    go (some w) e x =
        let (g, m, f) = map_in (victim_of p qs) (keep (sealed_in p v 0) (remaining p v 0)) w (member w e) in
        let (i, s) = keep_in (sealed_in p v 0) (remaining p v 0) g m in
        subst (λ (y : Victim). Taken p v tb (some y)) (sym f) (of_victim g (remaining_left p v 0 g i) s)

-- ---- live blocks

pub live_in_lem : (p : Params) (qs : List ℕ) (g : Seg) (q : ℕ) → In q (live_in p qs g) → In q qs
live_in_lem p qs g q m = is_member q qs (keep_in (λ q. is_member_of q qs) (segment_places p g) q (as! m)).1
  where
    as! : In q (live_in p qs g) → In q (keep (λ q. is_member_of q qs) (segment_places p g))
    as! m = unfold live_in in m

in_live : (p : Params) (qs : List ℕ) (g : Seg) (d b : ℕ) → d < p.N → b < capacity p → In (place_of p d (zone_on g d) b) qs → In (place_of p d (zone_on g d) b) (live_in p qs g)
in_live p qs g d b hd hb m = as! (in_keep (λ q. is_member_of q qs) (segment_places p g) (place_of p d (zone_on g d) b) place (member_is (place_of p d (zone_on g d) b) qs m))
  where
    as! : In (place_of p d (zone_on g d) b) (keep (λ q. is_member_of q qs) (segment_places p g)) → In (place_of p d (zone_on g d) b) (live_in p qs g)
    as! m = unfold live_in in m

    place : In (place_of p d (zone_on g d) b) (segment_places p g)
    place = unfold segment_places drives_of in
        in_flat (λ d. map (place_of p d (zone_on g d)) (below (capacity p))) (below p.N) d (place_of p d (zone_on g d) b) (in_below p.N d hd)
        (in_map (place_of p d (zone_on g d)) (below (capacity p)) b (in_below (capacity p) b hb))

-- with none live, no record of the segment holds
pub dead_segment : (p : Params) (r : Ranged p) (v : View) (tb : List ℕ) → tb ≡ address_table p (candidates p 0 (segments p v 0)) → (g : Seg) → live_in p (places_in p tb) g ≡ []
    → (a : ℕ) (c : Cand) (k : CandAt p v 0 c) → a < p.L → best none (cands_of a (candidates p 0 (segments p v 0))) ≡ some c → k.of ≡ g → ⊥
dead_segment p r v tb e g n a c k ha b eo =
    let t = spot_of p r v 0 (zero_here p r) (none_apart p v) c k in
    let ez : t.zone ≡ zone_on g c.drive = sym (spot_zone p r v 0 (zero_here p r) (none_apart p v) c t)
    ∙ cand_zone p r v 0 (zero_here p r) (none_apart p v) c k t ∙ ap (λ (x : Seg). zone_on x c.drive) eo in
    let ep : c.place ≡ place_of p c.drive (zone_on g c.drive) (1 + c.offset) = t.place_is ∙ ap (λ (x : ℕ). place_of p c.drive x (1 + c.offset)) ez in
    let m : In c.place (places_in p tb) = holds_place p r v tb e a c ha b in
    let l : 1 + c.offset < capacity p = (let x = t.offset_low in let y = capacity_over p r in omega arith) in
    subst (λ (x : List ℕ). In (place_of p c.drive (zone_on g c.drive) (1 + c.offset)) x) n
    (in_live p (places_in p tb) g c.drive (1 + c.offset) t.drive_low l (subst (λ (x : ℕ). In x (places_in p tb)) ep m))

-- the record of a candidate, as stored
pub cand_record : (p : Params) (r : Ranged p) (v : View) (s : ℕ) (t : Tidy p v s) (c : Cand) (k : CandAt p v 0 c)
    → (c.address ≡ (record_in p (sealed_in p v 0 k.of) (zone_at v c.drive (zone_on k.of c.drive)) c.offset).address)
    × (c.stamp ≡ (record_in p (sealed_in p v 0 k.of) (zone_at v c.drive (zone_on k.of c.drive)) c.offset).stamp)
cand_record p r v s t c k =
    let x = segment_of p v 0 k.of in
    let d = data_drive p k.stripe k.position in
    let e : c.drive ≡ d = its_drive p r v s t c k in
    let q : stored_rec x k.stripe c.drive ≡ record_in p (sealed_in p v 0 k.of) (zone_at v c.drive (zone_on k.of c.drive)) c.offset =
    (chunk_of_it p r v s t c k).its_record ∙ ap (record_in p (sealed_in p v 0 k.of) (zone_at v c.drive (zone_on k.of c.drive))) (sym (its_offset p r v s t c k)) in
    let f : rec_of p 0 x k.stripe d ≡ stored_rec x k.stripe c.drive = rec_of_holds x k.stripe d ∙ ap (stored_rec x k.stripe) (sym e) in (
      ap (λ (y : Cand). y.address) k.it_is ∙ cand_address x k.stripe d ∙ ap (λ (y : Rec). y.address) (f ∙ q),
      ap (λ (y : Cand). y.stamp) k.it_is ∙ cand_stamp x k.stripe d ∙ ap (λ (y : Rec). y.stamp) (f ∙ q),
    )
  where
    rec_of_holds : (x : Segment) (s d : ℕ) → rec_of p 0 x s d ≡ stored_rec x s d
    rec_of_holds x s d = rec_here p 0 x s d (is_in_empty d)

    cand_address : (x : Segment) (s d : ℕ) → (cand_of p 0 x s d).address ≡ (rec_of p 0 x s d).address
    cand_address x s d = unfold cand_of in refl

    cand_stamp : (x : Segment) (s d : ℕ) → (cand_of p 0 x s d).stamp ≡ (rec_of p 0 x s d).stamp
    cand_stamp x s d = unfold cand_of in refl

-- ---- the call

module _ (p : Params) (off : List ℕ) (k : Disk) (m : Memory) (u : Run p off k m) (we : Well p off k m) where
  abbrev v : View
  v = seen p off k

  abbrev st : State
  st = m.state

  abbrev w : Opt Victim
  w = victim p v m.addresses

  abbrev plan : Plan
  plan = cond (is_nil (victim_live w)) (reset_plan p m (victim_segment w)) (copy_plan p v m (first_or 0 (idle p v st w)))

  rg : Ranged p
  rg = ranged p u.base.ranged

  so : StateOk p st
  so = state_of_lem p rg st u.base.state_ok_holds

  reclaim_table_said : m.addresses ≡ address_table p (candidates p 0 (segments p v 0))
  reclaim_table_said = address_table_holds p off k m u we

  -- every live block is a data block
  live_pointed : (q : ℕ) → is_none w ≡ false → In q (victim_live w) → Pointed p v q
  live_pointed q nn i =
      let t = victim_taken p v m.addresses nn in
      places_pointed p rg v m.addresses reclaim_table_said q (live_in_lem p (places_in p m.addresses) (victim_segment w) q (subst (λ (x : List ℕ). In q x) t.taken_live i))

  pointed_block : (q : ℕ) (t : Pointed p v q) → place_block p q ≡ 1 + t.cand.offset
  pointed_block q t = ap (place_block p) t.place! ∙ spot_block p rg v 0 (zero_here p rg) (none_apart p v) t.cand t.spot

  between_live : (q : ℕ) → Pointed p v q → between 1 p.S (place_block p q) ≡ true
  between_live q t = between_of 1 p.S (place_block p q) (let e = pointed_block q t in omega arith) (let e = pointed_block q t in let l = t.spot.offset_low in omega arith)

  live_faults : is_none w ≡ false → stray_faults p w ≡ []
  live_faults nn =
      let e : keep (λ q. not (between 1 p.S (place_block p q))) (victim_live w) ≡ [] =
      keep_nothing (λ q. not (between 1 p.S (place_block p q))) (victim_live w) (λ q i. ap not (between_live q (live_pointed q nn i))) in
      ap (map (place_zone p)) e

  abbrev checks : List Check
  checks = reclaim_checks p (lent_ok_of p off k m) v m w

  -- with none live the segment is reset
  run_reset : is_none w ≡ false → is_nil (victim_live w) ≡ true → (x : Disk) → x ≡ store_all (store_disk p) (reset_plan p m (victim_segment w)).stores k
      → Run p off x (reset_plan p m (victim_segment w)).memory
  run_reset nn nl x ex =
      let g = victim_segment w in
      let t = victim_taken p v m.addresses nn in
      let hg = t.taken_low in
      let lg = its_zones_low p rg v g hg in
      let sh = u.base.shaped in
      let s = st.serial.0 in
      let ty = we.healthy.tidy in
      let dead = dead_segment p rg v m.addresses reclaim_table_said g (sym t.taken_live ∙ nil_is (victim_live w) nl) in
      subst (λ (y : Disk). Run p off y (reset_plan p m g).memory) (sym (ex ∙ ap (λ (l : List Store). store_all (store_disk p) l k) (stores_is g)))
      (subst (λ (y : Memory). Run p off (store_all (store_disk p) (reset_stores p g) k) y) (sym (memory_is g))
      (well_run p off k (reset_stores p g) (mk_memory st m.addresses (cleared p g (drives_of p) m.compact) m.inflight) u.base.ranged u.base.zones_enough
      u.base.addresses_fit (offline_long p off k m u we) (whole_of p off k m u.base.lent) sh
      (reset_roomy p rg v sh g lg) (reset_within p rg v sh g lg) we.none_missing so
      (reset_healthy p rg v sh g hg st we.healthy so (sealed_full p v g t.taken_sealed))
      (reclaim_table_said ∙ reset_addresses p rg v sh g hg s ty dead)
      (ap (cleared p g (drives_of p)) (compact_table_holds p off k m u we) ∙ cleared_is p rg g lg v (store_all store_view_of (reset_stores p g) v) (reset_rows p rg v sh g hg s ty))
      (buffer_long p off k m u we)))
    where
      stores_is : (g : Seg) → (reset_plan p m g).stores ≡ reset_stores p g
      stores_is g = unfold reset_plan in refl

      memory_is : (g : Seg) → (reset_plan p m g).memory ≡ mk_memory st m.addresses (cleared p g (drives_of p) m.compact) m.inflight
      memory_is g = unfold reset_plan in refl

  -- else a live block is copied
  run_copied : is_none w ≡ false → is_nil (idle p v st w) ≡ false → no_serial p st ≡ false → must_wait p st ≡ false → (opens p st ≡ true → scarce p v 1 ≡ false)
      → (x : Disk) → x ≡ store_all (store_disk p) (copy_plan p v m (first_or 0 (idle p v st w))).stores k → Run p off x (copy_plan p v m (first_or 0 (idle p v st w))).memory
  run_copied nn ni ns nw sc x ex =
      let q = first_or 0 (idle p v st w) in
      let i : In q (victim_live w) = idle_live q (first_in (idle p v st w) 0 ni) in
      let t = live_pointed q nn i in
      let c = t.cand in
      let kc = t.at_cand! in
      let d = place_drive p q in
      let g = place_segment p v 0 q in
      let o = place_block p q - 1 in
      let rc = record_at p v 0 d g o in
      let ed : d ≡ c.drive = ap (place_drive p) t.place! ∙ spot_drive p rg v 0 (zero_here p rg) (none_apart p v) c t.spot in
      let eg : g ≡ kc.of = ap (place_segment p v 0) t.place! ∙ cand_segment p rg v 0 (zero_here p rg) (none_apart p v) c kc t.spot in
      let eb = pointed_block q t in
      let eo : o ≡ c.offset = (let z : place_block p q - 1 ≡ c.offset = omega arith in z) in
      let hd : d < p.N = subst (λ (y : ℕ). y < p.N) (sym ed) t.spot.drive_low in
      let hg : There p v g = subst (λ (y : Seg). There p v y) (sym eg) (remaining_left p v 0 kc.of kc.remains) in
      let hz : zone_on g d < p.Z = (its_zone p rg v g hg d hd).zone_low in
      let low = record_low p (zone_at v d (zone_on g d)) (u.base.shaped.zone_ok d (zone_on g d) hd hz) (sealed_in p v 0 g) o in
      let er : record_at p v 0 d g o ≡ record_in p (sealed_in p v 0 g) (zone_at v d (zone_on g d)) o = record_is d g o in
      let hb : place_block p q < capacity p = (let l = t.spot.offset_low in let y = capacity_over p rg in omega arith) in
      let ez : place_zone p q ≡ zone_on g d = ap (place_zone p) t.place! ∙ cand_zone p rg v 0 (zero_here p rg) (none_apart p v) c kc t.spot ∙ ap₂ zone_on (sym eg) (sym ed) in
      let lb : length (chunk_at v d (place_zone p q) (place_block p q)).block ≡ p.B = ap (λ (y : ℕ). length (chunk_at v d y (place_block p q)).block) ez
      ∙ chunk_long d g (place_block p q) hd hz hb in
      let s = sent_ok p rg v u.base.shaped st we.healthy so m.inflight (buffer_long p off k m u we) rc.address rc.stamp 0 (chunk_at v d (place_zone p q) (place_block p q)).block
      (subst (λ (y : Rec). y.address < 256 ^ 8) (sym er) low.0) (subst (λ (y : Rec). y.stamp < 256 ^ 8) (sym er) low.1) (omega arith) lb nw ns (λ z. zones_left (sc z)) in
      let e = sending p v st m.inflight rc.address rc.stamp 0 (chunk_at v d (place_zone p q) (place_block p q)).block in
      subst (λ (y : Disk). Run p off y (copy_plan p v m q).memory) (sym (ex ∙ ap (λ (l : List Store). store_all (store_disk p) l k) (stores_is q)))
      (subst (λ (y : Memory). Run p off (store_all (store_disk p) e.stores k) y) (sym (memory_is q))
      (sent_run p off k m u we e.state e.state e.stores e.inflight s refl s.state_after_holds s.healthy_after))
    where
      idle_live : (q : ℕ) → In q (idle p v st w) → In q (victim_live w)
      idle_live q i = (keep_in (λ q. not (flying p v st q)) (victim_live w) q (as! i)).0
        where
          as! : In q (idle p v st w) → In q (keep (λ q. not (flying p v st q)) (victim_live w))
          as! i = unfold idle in i

      record_is : (d : ℕ) (g : Seg) (o : ℕ) → record_at p v 0 d g o ≡ record_in p (sealed_in p v 0 g) (zone_at v d (zone_on g d)) o
      record_is d g o = unfold record_at in refl

      chunk_long : (d : ℕ) (g : Seg) (b : ℕ) → d < p.N → zone_on g d < p.Z → b < capacity p → length (chunk_at v d (zone_on g d) b).block ≡ p.B
      chunk_long d g b hd hz hb = unfold chunk_at in ((u.base.shaped.zone_ok d (zone_on g d) hd hz).sound b hb).block_long

      zones_left : scarce p v 1 ≡ false → 1 ≤ empty_count p v
      zones_left q = plenty p v 1 q

      stores_is : (q : ℕ) → (copy_plan p v m q).stores
          ≡ (sending p v st m.inflight (record_at p v 0 (place_drive p q) (place_segment p v 0 q) (place_block p q - 1)).address
          (record_at p v 0 (place_drive p q) (place_segment p v 0 q) (place_block p q - 1)).stamp 0
          (chunk_at v (place_drive p q) (place_zone p q) (place_block p q)).block).stores
      stores_is q = unfold copy_plan in refl

      memory_is : (q : ℕ) → (copy_plan p v m q).memory
          ≡ mk_memory (sending p v st m.inflight (record_at p v 0 (place_drive p q) (place_segment p v 0 q) (place_block p q - 1)).address
          (record_at p v 0 (place_drive p q) (place_segment p v 0 q) (place_block p q - 1)).stamp 0
          (chunk_at v (place_drive p q) (place_zone p q) (place_block p q)).block).state m.addresses m.compact
          (sending p v st m.inflight (record_at p v 0 (place_drive p q) (place_segment p v 0 q) (place_block p q - 1)).address
          (record_at p v 0 (place_drive p q) (place_segment p v 0 q) (place_block p q - 1)).stamp 0
          (chunk_at v (place_drive p q) (place_zone p q) (place_block p q)).block).inflight
      memory_is q = unfold copy_plan in refl

  reclaim_done : first_refusal checks ≡ none → (x : Disk) → x ≡ store_all (store_disk p) plan.stores k → Run p off x plan.memory
  reclaim_done o x ex = go (test (is_nil (victim_live w)))
    where
      c : ReclaimPassed p (lent_ok_of p off k m) v m w
      c = reclaim_passed p (lent_ok_of p off k m) v m w o

      go : Test (is_nil (victim_live w)) → Run p off x plan.memory
      go (yes! q) =
          let e : plan ≡ reset_plan p m (victim_segment w) = cond_true (is_nil (victim_live w)) (reset_plan p m (victim_segment w)) (copy_plan p v m (first_or 0 (idle p v st w))) q in
          subst (λ (y : Plan). Run p off x y.memory) (sym e) (run_reset c.taken q x (ex ∙ ap (λ (y : Plan). store_all (store_disk p) y.stores k) e))
      go (no! q) =
          let e : plan ≡ copy_plan p v m (first_or 0 (idle p v st w)) = cond_false (is_nil (victim_live w)) (reset_plan p m (victim_segment w)) (copy_plan p v m (first_or 0 (idle p v st w))) q in
          subst (λ (y : Plan). Run p off x y.memory) (sym e)
          (run_copied c.taken (c.some_idle q) (c.serial_left q) (c.no_wait q) (c.room q) x (ex ∙ ap (λ (y : Plan). store_all (store_disk p) y.stores k) e))

  pub well_reclaim : (n : ℕ) → Kept p off (call_disk p off k m (reclaim n))
  unfolding call_disk call_on verdict store_count lent_block reclaim_verdict_in
  well_reclaim n = go (outcome_ends p k m checks plan n [])
    where
      mild_plan : (b : Bool) (g : Seg) (q : ℕ) → is_refused_as 9 (cond b (reset_plan p m g) (copy_plan p v m q)).answer ≡ false
      mild_plan true g q = unfold reset_plan is_refused_as is_refused kind in refl
      mild_plan false g q = unfold copy_plan is_refused_as is_refused kind in refl

      go : EndedAs p k m checks plan (outcome p (store_disk p) n k m [] (decided (first_refusal checks) plan)) → Kept p off (outcome p (store_disk p) n k m [] (decided (first_refusal checks) plan))
      go (ended-refused x e f g h) =
          refused-kept p off k m _ x u (reclaim_mild p (lent_ok_of p off k m) v m w u.base.state_ok_holds (λ z. table_clear p rg v m.addresses reclaim_table_said) (λ z t. live_faults t) x e) f g h
      go (ended_done c f g h) = record {
        never_ninth = ap (is_refused_as 9) f ∙ mild_plan (is_nil (victim_live w)) (victim_segment w) (first_or 0 (idle p v st w));
        runs_on = λ x. subst (λ (y : Memory). Run p off (outcome p (store_disk p) n k m [] (decided (first_refusal checks) plan)).drives y) (sym h) (reclaim_done c _ g);
      }
      go (ended-cut c f) = cut-kept p off _ f
