-- A chunk lands: the view, the open segment, the tables and the state after it. Assumes nothing.
use Rattle.std.specs.Prelude.{◌≡◌, List, [], ◌∷◌, ◌++◌, map, Bool, true, false, cond, ◌&&◌, ◌||◌, ◌⊎◌, ℕ, zero, suc, ◌+◌, ◌-◌}
use Rattle.std.specs.Prelude.{◌*◌, ◌/◌, ◌%◌, ◌^◌, ◌≤◌, ◌<◌, ltb, set}
use Rattle.std.proofs.Math.Path.{refl, sym, ap}
use Rattle.std.proofs.Common.{ap₂, ◌∙◌, subst, inl, inr, ⊎_elim, suc-mul, le_of_eq, length-set}
use Rattle.std.proofs.Math.Bool.{not}
use Rattle.std.proofs.Math.Decide.{dec_lt, ℕ_discrete}
use borrow.Author.Tests.{ne_eqb, ltb-true, eqb-true, not-true}
use native.Mathlib.Omega.{arith}
use Rattle.std.proofs.Math.Dec.{eqb}
use Rattle.std.proofs.Math.ListN.{length, get_or}
use Rattle.std.proofs.Math.Seq.{get_or-set_same, get_or-set_other}
use Rattle.std.specs.Int.Bits.{or_lt}
use Rattle.std.specs.Int.Count.{ones}
use Rattle.std.proofs.Math.Arith.{digits_div, digits_mod}
use Rattle.spec.specs.declared.Params.{Params}
use Rattle.spec.specs.declared.State.{State}
use Rattle.spec.specs.Drives.{Chunk, mk_chunk, no_chunk, Zone, View, zone_at, pointer_at, chunk_at, Store, put_zone, store_view_of, zone_on, sealed_in, data_stored}
use Rattle.spec.specs.Drives.{record_in, record_at, is_good, no_seg, store_all}
use Rattle.spec.specs.Drives.Store.{put}
use Rattle.spec.specs.Landing.{ready, completes, flight_rec, held_cand, held, landed_cand, landed_cands, pointed}
use Rattle.spec.specs.Layout.{data_drive, data_position, is_data, group, compact_entry, header_serial, Rec, mk_rec, record_bytes, record_of_of}
use Rattle.spec.specs.Lists.{first_or, below, all, cons_if, keep, tally, only, is_in}
use Rattle.spec.specs.Lists.Opt.{none, some}
use Rattle.spec.specs.Memory.{slots, cell, stripe_in, filled_in_of, landed_in, entry_in_of, offset_in, is_free, is_full, in_flight, landed_mask, mark_landed, free_stripe, place_at_of, compact_at}
use Rattle.spec.specs.Params.{data_count, capacity, place_of, place_block, place_drive, present, parity_count, place_zone}
use Rattle.spec.specs.Rank.{Cand, best, cands_of}
use Rattle.spec.specs.Read.Found.{away}
use Rattle.spec.specs.Segments.{header_at, remaining, Segment, records_in, segment_of, segments, offset_on, has_chunk, counts, stored_rec, rec_of, offset_of}
use Rattle.spec.specs.Segments.{cand_of, candidates, address_table, compact_row, compact_table, holders, is_used, place_record, place_segment, row_of, serial_at}
use Rattle.law_basic.specs.Geometry.{Ranged, compact_within, position_drive, drive_is_data, data_drive_lt, data_count-low}
use Rattle.law_basic.specs.Mask.{is_in_empty, is_in_with}
use Rattle.law_basic.specs.Ranges.{Test, test, and_left, and_right, and_both}
use Rattle.law_basic.specs.Ranges.Test.{yes!, no! }
use Rattle.law_basic.specs.Segs.{segs_differ, zone_is}
use Rattle.law_code.specs.Chunks.{rec_here, flight_data, flight_stripe}
use Rattle.law_views.specs.Looked.{held_none, held_some}
use Rattle.law_views.specs.Pointers.{index_drive, index_zone}
use Rattle.law_drives.specs.Growing.{Grows, grows_header, grows_tidy, grows_remaining, grows_others, grows_there, grows_was}
use Rattle.law_drives.specs.Laid.{record_stripe, record_back}
use Rattle.law_drives.specs.Masks.{only-low, full_mask, not_full}
use Rattle.law_drives.specs.Members.{In, in_left, in_right, in_append, in_map, map_in, in_all, in_below, below_in}
use Rattle.law_drives.specs.Puts.{data_sound, on_drive}
use Rattle.law_drives.specs.Range.{capacity_over}
use Rattle.law_drives.specs.Segs.{length_records, record_at_lem, data_low, low_data, recs_here, seg_is, chunk_at_holds, has_chunk_holds, offset_is, no_chunk_holds}
use Rattle.law_drives.specs.Segs.{CandAt, cand_at, at_cand, remaining_left}
use Rattle.law_drives.specs.Settled.{serial_of, its_serial, cands_apart, zones_sealed, zones_pointer, cand_goes, row_goes, sealed_full, its_zone, there_remains, there_serial, zero_here}
use Rattle.law_drives.specs.Slots.{cell-low}
use Rattle.law_drives.specs.Holders.{place_first}
use Rattle.law_drives.specs.Spots.{cand_zone, counts_in, spot_block, spot_zone, spot_drive, spot_low, cand_segment, none_apart}
use Rattle.law_drives.specs.States.{StateOk, in_slots}
use Rattle.law_drives.specs.Tables.{addresses_cong, row_at, row_past, grid_ext, compact_is, compact_row_long, length_compact, compact_at_holds, row_seg_holds, row_none}
use Rattle.law_drives.specs.Tests.{clash, and_false_left, and_false_right, or_true_left, not_so, cond_true, cond_false, eqb_self}
use Rattle.law_drives.specs.Tidy.{spare_at, Tidy, There}
use Rattle.law_drives.specs.Zones.{Shaped, hits_at_of, zone_store, hits, zone_stored, Room, put_pointer, Roomy}
use Rattle.proof_tables.specs.Carried.{CarriedSlot, flight_same}
use Rattle.proof_tables.specs.Live.{EntryHolds, table-holds}
use Rattle.proof_tables.specs.Live.EntryHolds.{holds_none, holds_some}
use Rattle.proof_tables.specs.Opened.{busy_same, open_at, serial_some}
use Rattle.proof_tables.specs.Pointing.{pointed_is}
use Rattle.proof_tables.specs.Ranks.{same_best}
use Rattle.proof_tables.specs.Reclaiming.{cand_record}
use Rattle.proof_tables.specs.Run.{flies, awaits, LandedAt, SlotFlies, OpenZone, Lists, HealthyState}
use Rattle.proof_tables.specs.Slots.{cell_same, mark_landed_holds, mark_landed-other, mark_offset, mark_offset_other, mark_lists_holds, filled_freed, free_filled-other}
use Rattle.proof_tables.specs.Slots.{free_lists, free_is, none_flies}
use Rattle.proof_tables.specs.Tallies.{tally_cong, tally_none, tally_some, none_tally, tally-more}
use Rattle.spec.specs.declared.Seg.{Seg}
use Rattle.law_calls.specs.Refusals.{next_low, opened_low}
use Rattle.law_drives.specs.Gather.{present_in}
use Rattle.proof_tables.specs.Heading.{zone_kind}
use Rattle.law_views.specs.Alike.{offline_after}

-- two eighths apart
pub cells_differ : (i j d e : ℕ) → d < 8 → e < 8 → (j ≡ i → ⊥) ⊎ (e ≡ d → ⊥) → cell j e ≡ cell i d → ⊥
cells_differ i j d e hd he (inl n) q = n (cell_same j i e d he hd q).0
cells_differ i j d e hd he (inr n) q = n (cell_same j i e d he hd q).1

module _ (p : Params) (r : Ranged p) (v : View) (sh : Shaped p v) (st : State) (h : HealthyState p v st) (so : StateOk p st) (z : Seg) (hz : There p v z)
    (oz : st.opened ≡ header_serial p (header_at v 0 z))
    (d i : ℕ) (hd : d < p.N) (hi : i < 8) (fi : flies st i ≡ true) (rd : ready p st i d ≡ true) (b : List ℕ) (lb : length b ≡ p.B) where
  abbrev s : ℕ
  s = stripe_in st i

  abbrev op : OpenZone p v st (flies st) z
  op = open_at p r v st h z hz oz

  zl : (e : ℕ) → e < p.N → zone_on z e < p.Z
  zl e he = (its_zone p r v z hz e he).zone_low

  h0 : 0 < p.N
  h0 = omega (arith, r.drives_low)

  fl : SlotFlies p v st z i
  fl = op.flight i hi fi

  -- one segment is open
  open_once : (y : Seg) → There p v y → st.opened ≡ header_serial p (header_at v 0 y) → z ≡ y
  open_once y hy q = there_serial p r v z y hz hy (sym oz ∙ q)

  -- ---- the pointer

  pub not_landed : is_in (landed_in st i) d ≡ false
  not_landed = go rd
    where
      go : ready p st i d ≡ true → is_in (landed_in st i) d ≡ false
      go q = unfold ready in not-true (is_in (landed_in st i) d) (and_left (not (is_in (landed_in st i) d)) (cond (is_data p s d) (ltb (data_position p s d) (filled_in_of st i)) (is_full p st i)) q)

  position_filled : is_data p s d ≡ true → data_position p s d < filled_in_of st i
  position_filled q = go rd
    where
      go : ready p st i d ≡ true → data_position p s d < filled_in_of st i
      go x = unfold ready in ltb-true (data_position p s d) (filled_in_of st i)
          (sym (cond_true (is_data p s d) (ltb (data_position p s d) (filled_in_of st i)) (is_full p st i) q)
          ∙ and_right (not (is_in (landed_in st i) d)) (cond (is_data p s d) (ltb (data_position p s d) (filled_in_of st i)) (is_full p st i)) x)

  awaits_it : awaits st (flies st) d i ≡ true
  awaits_it = and_both (flies st i) (not (is_in (landed_in st i) d)) fi (ap not not_landed)

  pub pointer_next : pointer_at v d (zone_on z d) ≤ st.next
  pointer_next = let c = op.count d hd in let t = tally_some (awaits st (flies st) d) slots i (in_slots i hi) awaits_it in omega arith

  pub pointer_some : 1 ≤ pointer_at v d (zone_on z d)
  pointer_some = op.has_header d hd

  pub pointer_data : pointer_at v d (zone_on z d) ≤ p.S
  pointer_data = let a = pointer_next in let c = so.next_low in omega arith

  -- the offset is of the stripe's group
  pub offset_group : group p (pointer_at v d (zone_on z d) - 1) ≡ group p s
  offset_group = as! (
      let a = fl.group-low d hd in
      let c = fl.group_high in
      let e = pointer_next in
      let f : suc (group p s) * p.G ≡ group p s * p.G + p.G = suc-mul (group p s) p.G in
      let q : pointer_at v d (zone_on z d) - 1 ≡ group p s * p.G + (pointer_at v d (zone_on z d) - 1 - group p s * p.G) = omega arith in
      let l : pointer_at v d (zone_on z d) - 1 - group p s * p.G < p.G = (let y = pointer_some in let g = r.group-low in omega arith) in
      ap (λ (x : ℕ). x / p.G) q ∙ digits_div (group p s) l)
    where
      as! : (pointer_at v d (zone_on z d) - 1) / p.G ≡ group p s → group p (pointer_at v d (zone_on z d) - 1) ≡ group p s
      as! e = group-div (pointer_at v d (zone_on z d) - 1) ∙ e
        where
          group-div : (x : ℕ) → group p x ≡ x / p.G
          group-div x = unfold group in refl

  -- ---- the record

  abbrev rc : Rec
  rc = flight_rec p st i d

  pub stripe_of : rc.stripe ≡ s
  stripe_of = flight_stripe p st i d

  stripe_low : s < 256 ^ 4
  stripe_low = let a = (so.slots_ok i hi).stripe_ok in let c = r.stripes_high in omega arith

  read_stripe : (record_of_of (record_bytes rc)).stripe ≡ s
  read_stripe = record_stripe rc (subst (λ (x : ℕ). x < 256 ^ 4) (sym stripe_of) stripe_low) ∙ stripe_of

  read_entry : is_data p s d ≡ true → record_of_of (record_bytes rc) ≡ entry_in_of st i (data_position p s d)
  read_entry q =
      let e : rc ≡ entry_in_of st i (data_position p s d) = flight_data p st i d q in
      let (a, t) = fl.entries_low (data_position p s d) (position_filled q) in
      record_back rc (subst (λ (x : Rec). x.address < 256 ^ 8) (sym e) a) (subst (λ (x : Rec). x.stamp < 256 ^ 8) (sym e) t) (subst (λ (x : ℕ). x < 256 ^ 4) (sym stripe_of) stripe_low) ∙ e

  -- ---- the view

  abbrev store : Store
  store = put d (zone_on z d) b (record_bytes rc)

  abbrev v1 : View
  v1 = store_view_of store v

  hit! : hits_at_of d (zone_on z d) store ≡ true
  hit! = unfold hits_at_of in and_both (eqb d d) (eqb (zone_on z d) (zone_on z d)) (eqb_self d) (eqb_self (zone_on z d))

  pub chunk_zone : zone_at v1 d (zone_on z d) ≡ put_zone b (record_bytes rc) (zone_at v d (zone_on z d))
  chunk_zone =
      zone_stored p v d (zone_on z d) store sh.sized hd (zl d hd)
      ∙ cond_true (hits_at_of d (zone_on z d) store) (zone_store store (zone_at v d (zone_on z d))) (zone_at v d (zone_on z d)) hit! ∙ once
    where
      once : zone_store store (zone_at v d (zone_on z d)) ≡ put_zone b (record_bytes rc) (zone_at v d (zone_on z d))
      once = unfold zone_store in refl

  pub chunk_other : (e y : ℕ) → e < p.N → y < p.Z → (d ≡ e → ⊥) ⊎ (y ≡ zone_on z e → ⊥) → zone_at v1 e y ≡ zone_at v e y
  chunk_other e y he hy n =
      zone_stored p v e y store sh.sized he hy
      ∙ cond_false (hits_at_of e y store) (zone_store store (zone_at v e y)) (zone_at v e y) (miss n)
    where
      miss : (d ≡ e → ⊥) ⊎ (y ≡ zone_on z e → ⊥) → hits_at_of e y store ≡ false
      miss (inl x) = unfold hits_at_of in and_false_left (eqb d e) (eqb (zone_on z d) y) (ne_eqb d e x)
      miss (inr x) = unfold hits_at_of in (on_drive (zone_on z) d e y ∙ and_false_right (eqb d e) (eqb (zone_on z e) y) (ne_eqb (zone_on z e) y (λ q. x (sym q))))

  pub chunk_pointer : pointer_at v1 d (zone_on z d) ≡ suc (pointer_at v d (zone_on z d))
  chunk_pointer = as! (ap (λ (q : Zone). q.pointer) chunk_zone ∙ put_pointer b (record_bytes rc) (zone_at v d (zone_on z d)))
    where
      as! : (zone_at v1 d (zone_on z d)).pointer ≡ suc (zone_at v d (zone_on z d)).pointer → pointer_at v1 d (zone_on z d) ≡ suc (pointer_at v d (zone_on z d))
      as! e = unfold pointer_at in e

  pub pointer_else : (e : ℕ) → e < p.N → (d ≡ e → ⊥) → pointer_at v1 e (zone_on z e) ≡ pointer_at v e (zone_on z e)
  pointer_else e he n = as! (chunk_other e (zone_on z e) he (zl e he) (inl n))
    where
      as! : zone_at v1 e (zone_on z e) ≡ zone_at v e (zone_on z e) → pointer_at v1 e (zone_on z e) ≡ pointer_at v e (zone_on z e)
      as! q = unfold pointer_at in ap (λ (x : Zone). x.pointer) q

  pub spare_else : (e x : ℕ) → e < p.N → (d ≡ e → ⊥) → spare_at p v1 e (zone_on z e) x ≡ spare_at p v e (zone_on z e) x
  spare_else e x he n = ap (λ (q : Zone). record_in p false q x) (chunk_other e (zone_on z e) he (zl e he) (inl n))

  block_old : (x : ℕ) → x < pointer_at v d (zone_on z d) → get_or (zone_at v1 d (zone_on z d)).blocks x no_chunk ≡ get_or (zone_at v d (zone_on z d)).blocks x no_chunk
  block_old x l = ap (λ (q : Zone). get_or q.blocks x no_chunk) chunk_zone ∙ go (zone_at v d (zone_on z d)) (as! l)
    where
      as! : x < pointer_at v d (zone_on z d) → x < (zone_at v d (zone_on z d)).pointer
      as! l = unfold pointer_at in l

      go : (q : Zone) → x < q.pointer → get_or (put_zone b (record_bytes rc) q).blocks x no_chunk ≡ get_or q.blocks x no_chunk
      go q l = unfold put_zone in get_or-set_other q.blocks q.pointer x (mk_chunk b (record_bytes rc)) no_chunk (λ e. let bad : ⊥ = omega arith in bad)

  block_new : (x : ℕ) → x ≡ pointer_at v d (zone_on z d) → get_or (zone_at v1 d (zone_on z d)).blocks x no_chunk ≡ mk_chunk b (record_bytes rc)
  block_new x l = ap (λ (q : Zone). get_or q.blocks x no_chunk) chunk_zone ∙ go (zone_at v d (zone_on z d)) (as! l)
      (let e = (sh.zone_ok d (zone_on z d) hd (zl d hd)).blocks_long in let c = pointer_data in let y = capacity_over p r in subst (λ (n : ℕ). x < n) (sym e) (omega arith))
    where
      as! : x ≡ pointer_at v d (zone_on z d) → x ≡ (zone_at v d (zone_on z d)).pointer
      as! l = unfold pointer_at in l

      go : (q : Zone) → x ≡ q.pointer → x < length q.blocks → get_or (put_zone b (record_bytes rc) q).blocks x no_chunk ≡ mk_chunk b (record_bytes rc)
      go q e l = unfold put_zone in (ap (λ (y : ℕ). get_or (set q.blocks y (mk_chunk b (record_bytes rc))) x no_chunk) (sym e)
          ∙ get_or-set_same q.blocks x (mk_chunk b (record_bytes rc)) no_chunk l)

  pub spare_old : (x : ℕ) → 1 + x < pointer_at v d (zone_on z d) → spare_at p v1 d (zone_on z d) x ≡ spare_at p v d (zone_on z d) x
  spare_old x l = as! (ap (λ (c : Chunk). record_of_of c.spare) (block_old (1 + x) l))
    where
      as! : record_of_of (get_or (zone_at v1 d (zone_on z d)).blocks (1 + x) no_chunk).spare ≡ record_of_of (get_or (zone_at v d (zone_on z d)).blocks (1 + x) no_chunk).spare
          → spare_at p v1 d (zone_on z d) x ≡ spare_at p v d (zone_on z d) x
      as! e = unfold record_in in e

  pub spare_new : (x : ℕ) → 1 + x ≡ pointer_at v d (zone_on z d) → spare_at p v1 d (zone_on z d) x ≡ record_of_of (record_bytes rc)
  spare_new x l = as! (ap (λ (c : Chunk). record_of_of c.spare) (block_new (1 + x) l))
    where
      as! : record_of_of (get_or (zone_at v1 d (zone_on z d)).blocks (1 + x) no_chunk).spare ≡ record_of_of (record_bytes rc) → spare_at p v1 d (zone_on z d) x ≡ record_of_of (record_bytes rc)
      as! e = unfold record_in in e

  -- a chunk of drive d below the new pointer is old or the new one
  old_or_new : (x : ℕ) → 1 + x < pointer_at v1 d (zone_on z d) → (1 + x < pointer_at v d (zone_on z d)) ⊎ (1 + x ≡ pointer_at v d (zone_on z d))
  old_or_new x l = go (dec_lt (1 + x) (pointer_at v d (zone_on z d)))
    where
      go : Dec (1 + x < pointer_at v d (zone_on z d)) → (1 + x < pointer_at v d (zone_on z d)) ⊎ (1 + x ≡ pointer_at v d (zone_on z d))
      go (yes a) = inl a
      go (no a) = inr (let e = chunk_pointer in omega arith)

  -- ---- the store fits

  pub chunk_roomy : Roomy p v (store ∷ [])
  chunk_roomy e y he hy = go (test (hits_at_of e y store))
    where
      one : hits_at_of e y store ≡ true → hits e y (store ∷ []) ≡ store ∷ []
      one q = unfold keep cons_if in rw q

      none! : hits_at_of e y store ≡ false → hits e y (store ∷ []) ≡ []
      none! q = unfold keep cons_if in rw q

      same : hits_at_of e y store ≡ true → (d ≡ e) × (zone_on z d ≡ y)
      same q = unfold hits_at_of in (eqb-true d e (and_left (eqb d e) (eqb (zone_on z d) y) q), eqb-true (zone_on z d) y (and_right (eqb d e) (eqb (zone_on z d) y) q))

      go : Test (hits_at_of e y store) → Room p (pointer_at v e y) (hits e y (store ∷ []))
      go (no! q) = subst (λ (l : List Store). Room p (pointer_at v e y) l) (sym (none! q)) tt
      go (yes! q) =
          let (a, c) = same q in
          subst (λ (l : List Store). Room p (pointer_at v e y) l) (sym (one q))
          (subst (λ (x : ℕ). Room p x (store ∷ [])) (ap₂ (pointer_at v) a c)
          (record { room = let x = pointer_data in let k = capacity_over p r in omega arith; fine = data_sound p (pointer_at v d (zone_on z d)) b rc pointer_some pointer_data lb }, tt))

  -- ---- what grows

  pub chunk_grows : Grows p v v1 z
  chunk_grows = record {
    zone_is = hz;
    others = λ e y he hy n. chunk_other e y he hy (inr n);
    used_before = op.has_header;
    used_now = λ e he. now e he (ℕ_discrete d e);
    low_now = λ e he. low e he (ℕ_discrete d e);
    same_head = head;
    same_offline = off_same;
  }
    where
      off_same : v1.offline ≡ v.offline
      off_same = go (offline_after (store ∷ []) v)
        where
          go : (store_all store_view_of (store ∷ []) v).offline ≡ v.offline → v1.offline ≡ v.offline
          go e = unfold store_all in e

      now : (e : ℕ) → e < p.N → Dec (d ≡ e) → 1 ≤ pointer_at v1 e (zone_on z e)
      now e he (yes q) = subst (λ (x : ℕ). 1 ≤ pointer_at v1 x (zone_on z x)) q (let a = chunk_pointer in omega arith)
      now e he (no n) = subst (λ (x : ℕ). 1 ≤ x) (sym (pointer_else e he n)) (op.has_header e he)

      good : (e : ℕ) → is_used p v e (zone_on z e) ≡ true → is_good p v.offline e (zone_on z e) ≡ true
      good e q = unfold is_used in and_left (is_good p v.offline e (zone_on z e)) (not (eqb (pointer_at v e (zone_on z e)) 0)) q

      low : (e : ℕ) → e < p.N → Dec (d ≡ e) → pointer_at v1 e (zone_on z e) ≤ capacity p
      low e he (yes q) = subst (λ (x : ℕ). pointer_at v1 x (zone_on z x) ≤ capacity p) q (let a = chunk_pointer in let c = pointer_data in let k = capacity_over p r in omega arith)
      low e he (no n) = subst (λ (x : ℕ). x ≤ capacity p) (sym (pointer_else e he n)) (h.tidy.pointer_low e (zone_on z e) he (zl e he) (good e (its_zone p r v z hz e he).used))

      head : (e : ℕ) → e < p.N → header_at v e z ≡ header_at v1 e z
      head e he = go (ℕ_discrete d e)
        where
          as! : (get_or (zone_at v e (zone_on z e)).blocks 0 no_chunk).block ≡ (get_or (zone_at v1 e (zone_on z e)).blocks 0 no_chunk).block → header_at v e z ≡ header_at v1 e z
          as! q = unfold header_at chunk_at in q

          go : Dec (d ≡ e) → header_at v e z ≡ header_at v1 e z
          go (yes q) =
              as! (subst (λ (x : ℕ). (get_or (zone_at v x (zone_on z x)).blocks 0 no_chunk).block ≡ (get_or (zone_at v1 x (zone_on z x)).blocks 0 no_chunk).block) q
              (ap (λ (c : Chunk). c.block) (sym (block_old 0 pointer_some))))
          go (no n) = as! (ap (λ (q : Zone). (get_or q.blocks 0 no_chunk).block) (sym (chunk_other e (zone_on z e) he (zl e he) (inl n))))

  pub chunk_there : There p v1 z
  chunk_there = grows_there p r v v1 z chunk_grows z hz

  -- ---- the open segment

  abbrev o : ℕ
  o = pointer_at v d (zone_on z d) - 1

  abbrev st1 : State
  st1 = mark_landed st i d o

  d8 : d < 8
  d8 = omega (arith, r.drives_high)

  ls : Lists st
  ls = h.lists

  offset_next : 1 + o ≡ pointer_at v d (zone_on z d)
  offset_next = let a = pointer_some in omega arith

  -- which drives have the stripe now
  pub mask_now : (e : ℕ) → e < p.N → is_in (landed_in st1 i) e ≡ (eqb e d || is_in (landed_in st i) e)
  mask_now e he = ap (λ (x : ℕ). is_in x e) (mark_landed_holds st ls i hi d o d8) ∙ go
    where
      go : is_in (landed_mask st i d) e ≡ (eqb e d || is_in (landed_in st i) e)
      go = unfold landed_mask in is_in_with (landed_in st i) d e d8 (omega (arith, r.drives_high))

  mask_else : (e : ℕ) → e < p.N → (d ≡ e → ⊥) → is_in (landed_in st1 i) e ≡ is_in (landed_in st i) e
  mask_else e he n = mask_now e he ∙ ap (λ (x : Bool). x || is_in (landed_in st i) e) (ne_eqb e d (λ q. n (sym q)))

  mask_here : is_in (landed_in st1 i) d ≡ true
  mask_here = mask_now d hd ∙ or_true_left (eqb d d) (is_in (landed_in st i) d) (eqb_self d)

  landed_stripe : (j : ℕ) → stripe_in st1 j ≡ stripe_in st j
  landed_stripe j = unfold stripe_in mark_landed in refl

  filled1 : (j : ℕ) → filled_in_of st1 j ≡ filled_in_of st j
  filled1 j = unfold filled_in_of mark_landed in refl

  entry1 : (j e : ℕ) → entry_in_of st1 j e ≡ entry_in_of st j e
  entry1 j e = unfold entry_in_of stripe_in mark_landed in refl

  next1 : st1.next ≡ st.next
  next1 = unfold mark_landed in refl

  pointer_grows : (e : ℕ) → e < p.N → pointer_at v e (zone_on z e) ≤ pointer_at v1 e (zone_on z e)
  pointer_grows e he = go (ℕ_discrete d e)
    where
      go : Dec (d ≡ e) → pointer_at v e (zone_on z e) ≤ pointer_at v1 e (zone_on z e)
      go (yes q) = subst (λ (x : ℕ). pointer_at v x (zone_on z x) ≤ pointer_at v1 x (zone_on z x)) q (let a = chunk_pointer in omega arith)
      go (no n) = le_of_eq (sym (pointer_else e he n))

  -- a landed chunk of before is where it was
  was_landed : (j e : ℕ) → e < p.N → (j ≡ i → ⊥) ⊎ (e ≡ d → ⊥) → LandedAt p v st z j e → LandedAt p v1 st1 z j e
  was_landed j e he n l =
      let e8 : e < 8 = omega (arith, r.drives_high) in
      let eo : offset_in st1 j e ≡ offset_in st j e = mark_offset_other st ls i hi d o d8 j e (cells_differ i j d e d8 e8 n) in
      let same : (x : ℕ) → 1 + x < pointer_at v e (zone_on z e) → spare_at p v1 e (zone_on z e) x ≡ spare_at p v e (zone_on z e) x = λ x y. go x y (ℕ_discrete d e) in
      record {
        lies = subst (λ (x : ℕ). 1 + x < pointer_at v1 e (zone_on z e)) (sym eo) (let a = l.lies in let c = pointer_grows e he in omega arith);
        of_stripe = ap (λ (x : ℕ). (spare_at p v1 e (zone_on z e) x).stripe) eo ∙ ap (λ (x : Rec). x.stripe) (same (offset_in st j e) l.lies) ∙ l.of_stripe ∙ sym (landed_stripe j);
        not_before = λ x y q.
            let y2 : x < offset_in st j e = subst (λ (m : ℕ). x < m) eo y in
            let y3 : 1 + x < pointer_at v e (zone_on z e) = (let a = l.lies in omega arith) in
            l.not_before x y2 (ap (λ (m : Rec). m.stripe) (sym (same x y3)) ∙ q ∙ landed_stripe j);
        is_entry = λ q.
            let (x, y) = l.is_entry (ap (λ (n : ℕ). is_data p n e) (sym (landed_stripe j)) ∙ q) in
            let ep : data_position p (stripe_in st1 j) e ≡ data_position p (stripe_in st j) e = ap (λ (n : ℕ). data_position p n e) (landed_stripe j) in (
              subst (λ (n : ℕ). n < filled_in_of st1 j) (sym ep) (subst (λ (n : ℕ). data_position p (stripe_in st j) e < n) (sym (filled1 j)) x),
              ap (spare_at p v1 e (zone_on z e)) eo ∙ same (offset_in st j e) l.lies ∙ y ∙ sym (ap (entry_in_of st1 j) ep ∙ entry1 j (data_position p (stripe_in st j) e)),
            );
      }
    where
      go : (x : ℕ) → 1 + x < pointer_at v e (zone_on z e) → Dec (d ≡ e) → spare_at p v1 e (zone_on z e) x ≡ spare_at p v e (zone_on z e) x
      go x y (yes q) = subst (λ (m : ℕ). spare_at p v1 m (zone_on z m) x ≡ spare_at p v m (zone_on z m) x) q (spare_old x (subst (λ (m : ℕ). 1 + x < pointer_at v m (zone_on z m)) (sym q) y))
      go x y (no n) = spare_else e x he n

  -- and the new one
  lands_now : LandedAt p v1 st1 z i d
  lands_now =
      let eo : offset_in st1 i d ≡ o = mark_offset st ls i hi d o d8 in
      record {
        lies = subst (λ (x : ℕ). 1 + x < pointer_at v1 d (zone_on z d)) (sym eo) (let a = offset_next in let c = chunk_pointer in omega arith);
        of_stripe = ap (λ (x : ℕ). (spare_at p v1 d (zone_on z d) x).stripe) eo ∙ ap (λ (x : Rec). x.stripe) (spare_new o offset_next) ∙ read_stripe ∙ sym (landed_stripe i);
        not_before = λ x y q.
            let y2 : 1 + x < pointer_at v d (zone_on z d) = (let e = subst (λ (m : ℕ). x < m) eo y in let a = offset_next in omega arith) in
            fl.not_there d x hd not_landed y2 (ap (λ (m : Rec). m.stripe) (sym (spare_old x y2)) ∙ q ∙ landed_stripe i);
        is_entry = λ q.
            let q2 : is_data p s d ≡ true = ap (λ (n : ℕ). is_data p n d) (sym (landed_stripe i)) ∙ q in
            let ep : data_position p (stripe_in st1 i) d ≡ data_position p s d = ap (λ (n : ℕ). data_position p n d) (landed_stripe i) in (
              subst (λ (n : ℕ). n < filled_in_of st1 i) (sym ep) (subst (λ (n : ℕ). data_position p s d < n) (sym (filled1 i)) (position_filled q2)),
              ap (spare_at p v1 d (zone_on z d)) eo ∙ spare_new o offset_next ∙ read_entry q2 ∙ sym (ap (entry_in_of st1 i) ep ∙ entry1 i (data_position p s d)),
            );
      }

  flight_else : (j : ℕ) → j < 8 → flies st j ≡ true → (j ≡ i → ⊥) → SlotFlies p v1 st1 z j
  flight_else j hj fj n =
      let f = op.flight j hj fj in
      let el = mark_landed-other st ls i hi d o d8 j n in
      record {
        begun = subst (λ (x : ℕ). x < st1.next) (sym (landed_stripe j)) (subst (λ (x : ℕ). stripe_in st j < x) (sym next1) f.begun);
        group-low = λ e he. subst (λ (x : ℕ). group p x * p.G < pointer_at v1 e (zone_on z e)) (sym (landed_stripe j)) (let a = f.group-low e he in let c = pointer_grows e he in omega arith);
        group_high = subst (λ (x : ℕ). st1.next ≤ suc (group p x) * p.G) (sym (landed_stripe j)) (subst (λ (x : ℕ). x ≤ suc (group p (stripe_in st j)) * p.G) (sym next1) f.group_high);
        not_there = λ e x he q y w. away e x he (ap (λ (m : ℕ). is_in m e) (sym el) ∙ q) y (w ∙ landed_stripe j) (ℕ_discrete d e);
        lands = λ e he q. was_landed j e he (inl n) (f.lands e he (ap (λ (m : ℕ). is_in m e) (sym el) ∙ q));
        entries_low = λ e y. subst (λ (x : Rec). (x.address < 256 ^ 8) × (x.stamp < 256 ^ 8)) (sym (entry1 j e)) (f.entries_low e (subst (λ (x : ℕ). e < x) (filled1 j) y));
      }
    where
      away : (e x : ℕ) → e < p.N → is_in (landed_in st j) e ≡ false → 1 + x < pointer_at v1 e (zone_on z e)
          → (spare_at p v1 e (zone_on z e) x).stripe ≡ stripe_in st j → Dec (d ≡ e) → ⊥
      away e x he q y w (no a) =
          (op.flight j hj fj).not_there e x he q (subst (λ (m : ℕ). 1 + x < m) (pointer_else e he a) y) (ap (λ (m : Rec). m.stripe) (sym (spare_else e x he a)) ∙ w)
      away e x he q y w (yes a) = two (old_or_new x (subst (λ (m : ℕ). 1 + x < pointer_at v1 m (zone_on z m)) (sym a) y))
        where
          w2 : (spare_at p v1 d (zone_on z d) x).stripe ≡ stripe_in st j
          w2 = subst (λ (m : ℕ). (spare_at p v1 m (zone_on z m) x).stripe ≡ stripe_in st j) (sym a) w

          two : (1 + x < pointer_at v d (zone_on z d)) ⊎ (1 + x ≡ pointer_at v d (zone_on z d)) → ⊥
          two (inl l) = (op.flight j hj fj).not_there d x hd (subst (λ (m : ℕ). is_in (landed_in st j) m ≡ false) (sym a) q) l (ap (λ (m : Rec). m.stripe) (sym (spare_old x l)) ∙ w2)
          two (inr l) = n (op.once j i hj hi fj fi (sym w2 ∙ ap (λ (m : Rec). m.stripe) (spare_new x l) ∙ read_stripe))

  flight_here : SlotFlies p v1 st1 z i
  flight_here = record {
    begun = subst (λ (x : ℕ). x < st1.next) (sym (landed_stripe i)) (subst (λ (x : ℕ). s < x) (sym next1) fl.begun);
    group-low = λ e he. subst (λ (x : ℕ). group p x * p.G < pointer_at v1 e (zone_on z e)) (sym (landed_stripe i)) (let a = fl.group-low e he in let c = pointer_grows e he in omega arith);
    group_high = subst (λ (x : ℕ). st1.next ≤ suc (group p x) * p.G) (sym (landed_stripe i)) (subst (λ (x : ℕ). x ≤ suc (group p s) * p.G) (sym next1) fl.group_high);
    not_there = λ e x he q y w. away e x he q y (w ∙ landed_stripe i) (ℕ_discrete d e);
    lands = λ e he q. on e he q (ℕ_discrete d e);
    entries_low = λ e y. subst (λ (x : Rec). (x.address < 256 ^ 8) × (x.stamp < 256 ^ 8)) (sym (entry1 i e)) (fl.entries_low e (subst (λ (x : ℕ). e < x) (filled1 i) y));
  }
    where
      away : (e x : ℕ) → e < p.N → is_in (landed_in st1 i) e ≡ false → 1 + x < pointer_at v1 e (zone_on z e) → (spare_at p v1 e (zone_on z e) x).stripe ≡ s → Dec (d ≡ e) → ⊥
      away e x he q y w (yes a) = clash (subst (λ (m : ℕ). is_in (landed_in st1 i) m ≡ true) a mask_here) q
      away e x he q y w (no a) =
          fl.not_there e x he (sym (mask_else e he a) ∙ q) (subst (λ (m : ℕ). 1 + x < m) (pointer_else e he a) y) (ap (λ (m : Rec). m.stripe) (sym (spare_else e x he a)) ∙ w)

      on : (e : ℕ) → e < p.N → is_in (landed_in st1 i) e ≡ true → Dec (d ≡ e) → LandedAt p v1 st1 z i e
      on e he q (yes a) = subst (λ (m : ℕ). LandedAt p v1 st1 z i m) a lands_now
      on e he q (no a) = was_landed i e he (inr (λ x. a (sym x))) (fl.lands e he (sym (mask_else e he a) ∙ q))

  pub chunk_open : OpenZone p v1 st1 (flies st) z
  chunk_open = record {
    opened_zone = chunk_there;
    has_header = chunk_grows.used_now;
    count = λ e he. counts! e he (ℕ_discrete d e);
    below_next = λ e x he y. subst (λ (m : ℕ). (spare_at p v1 e (zone_on z e) x).stripe < m) (sym next1) (under e x he y (ℕ_discrete d e));
    flight = λ j hj q. go j hj q (ℕ_discrete j i);
    once = λ j k hj hk x y e. op.once j k hj hk x y (sym (landed_stripe j) ∙ e ∙ landed_stripe k);
    goes_on = λ q. op.goes_on (sym next1 ∙ q);
  }
    where
      go : (j : ℕ) → j < 8 → flies st j ≡ true → Dec (j ≡ i) → SlotFlies p v1 st1 z j
      go j hj q (yes e) = subst (λ (x : ℕ). SlotFlies p v1 st1 z x) (sym e) flight_here
      go j hj q (no n) = flight_else j hj q n

      under : (e x : ℕ) → e < p.N → 1 + x < pointer_at v1 e (zone_on z e) → Dec (d ≡ e) → (spare_at p v1 e (zone_on z e) x).stripe < st.next
      under e x he y (no a) = subst (λ (m : Rec). m.stripe < st.next) (sym (spare_else e x he a)) (op.below_next e x he (subst (λ (m : ℕ). 1 + x < m) (pointer_else e he a) y))
      under e x he y (yes a) = subst (λ (m : ℕ). (spare_at p v1 m (zone_on z m) x).stripe < st.next) a (two (old_or_new x (subst (λ (m : ℕ). 1 + x < pointer_at v1 m (zone_on z m)) (sym a) y)))
        where
          two : (1 + x < pointer_at v d (zone_on z d)) ⊎ (1 + x ≡ pointer_at v d (zone_on z d)) → (spare_at p v1 d (zone_on z d) x).stripe < st.next
          two (inl l) = subst (λ (m : Rec). m.stripe < st.next) (sym (spare_old x l)) (op.below_next d x hd l)
          two (inr l) = subst (λ (m : ℕ). m < st.next) (sym (ap (λ (m : Rec). m.stripe) (spare_new x l) ∙ read_stripe)) fl.begun

      landed_else : (j e : ℕ) → e < p.N → (j ≡ i → ⊥) ⊎ (d ≡ e → ⊥) → is_in (landed_in st1 j) e ≡ is_in (landed_in st j) e
      landed_else j e he (inl n) = ap (λ (m : ℕ). is_in m e) (mark_landed-other st ls i hi d o d8 j n)
      landed_else j e he (inr n) = pick (ℕ_discrete j i)
        where
          pick : Dec (j ≡ i) → is_in (landed_in st1 j) e ≡ is_in (landed_in st j) e
          pick (yes q) = subst (λ (x : ℕ). is_in (landed_in st1 x) e ≡ is_in (landed_in st x) e) (sym q) (mask_else e he n)
          pick (no q) = ap (λ (m : ℕ). is_in m e) (mark_landed-other st ls i hi d o d8 j q)

      counts! : (e : ℕ) → e < p.N → Dec (d ≡ e) → pointer_at v1 e (zone_on z e) + tally (awaits st1 (flies st) e) slots ≡ suc st1.next
      counts! e he (no n) =
          ap₂ (λ (x y : ℕ). x + y) (pointer_else e he n)
          (tally_cong (awaits st1 (flies st) e) (awaits st (flies st) e) slots
          (λ j m. ap (λ (x : Bool). flies st j && not x) (landed_else j e he (inr n))))
          ∙ op.count e he ∙ ap suc (sym next1)
      counts! e he (yes a) = subst (λ (x : ℕ). pointer_at v1 x (zone_on z x) + tally (awaits st1 (flies st) x) slots ≡ suc st1.next) a
          (let t : tally (awaits st (flies st) d) slots ≡ suc (tally (awaits st1 (flies st) d) slots) =
          tally-more (awaits st (flies st) d) (awaits st1 (flies st) d) i hi (λ j n. ap (λ (x : Bool). flies st j && not x) (sym (landed_else j d hd (inl n)))) awaits_it
          (and_false_right (flies st i) (not (is_in (landed_in st1 i) d)) (ap not mask_here)) in
          let c = op.count d hd in
          let e = chunk_pointer in
          let q : pointer_at v1 d (zone_on z d) + tally (awaits st1 (flies st) d) slots ≡ suc st.next = omega arith in
          q ∙ ap suc (sym next1))

  -- ---- what the drives say of the segment before and after

  abbrev s0 : ℕ
  s0 = st.serial.0

  t0 : Tidy p v s0
  t0 = h.tidy

  pub chunk_tidy : Tidy p v1 s0
  chunk_tidy = grows_tidy p r v v1 z chunk_grows s0 t0

  short_before : (e : ℕ) → e < p.N → pointer_at v e (zone_on z e) ≤ 1 + p.S
  short_before e he = let c = op.count e he in let n = so.next_low in omega arith

  pub short_after : (e : ℕ) → e < p.N → pointer_at v1 e (zone_on z e) ≤ 1 + p.S
  short_after e he = let c = chunk_open.count e he in let n = so.next_low in let x = next1 in omega arith

  unsealed! : (u : View) → ((e : ℕ) → e < p.N → pointer_at u e (zone_on z e) ≤ 1 + p.S) → sealed_in p u 0 z ≡ false
  unsealed! u f = not_so (sealed_in p u 0 z) (λ q.
      let h0 : 0 < p.N = omega (arith, r.drives_low) in
      let x = sealed_full p u z q 0 h0 in
      let y = f 0 h0 in
      let c = capacity_over p r in
      let bad : ⊥ = omega arith in bad)

  pub open_before : sealed_in p v 0 z ≡ false
  open_before = unsealed! v short_before

  pub open_after : sealed_in p v1 0 z ≡ false
  open_after = unsealed! v1 short_after

  data_stored-below : (u : View) (e x : ℕ) → pointer_at u e (zone_on z e) ≤ 1 + p.S → 1 + x < pointer_at u e (zone_on z e) → x < data_stored p (zone_at u e (zone_on z e))
  data_stored-below u e x l m = low_data p (zone_at u e (zone_on z e)) x (omega arith) (as! m)
    where
      as! : 1 + x < pointer_at u e (zone_on z e) → 1 + x < (zone_at u e (zone_on z e)).pointer
      as! m = unfold pointer_at in m

  below! : (u : View) (e x : ℕ) → x < data_stored p (zone_at u e (zone_on z e)) → 1 + x < pointer_at u e (zone_on z e)
  below! u e x m = as! (data_low p (zone_at u e (zone_on z e)) x m).1
    where
      as! : 1 + x < (zone_at u e (zone_on z e)).pointer → 1 + x < pointer_at u e (zone_on z e)
      as! m = unfold pointer_at in m

  -- the record at an offset, whatever the flag
  abbrev seg0 : Segment
  seg0 = segment_of p v 0 z

  abbrev seg1 : Segment
  seg1 = segment_of p v1 0 z

  kept_spare : (e x : ℕ) → e < p.N → 1 + x < pointer_at v e (zone_on z e) → spare_at p v1 e (zone_on z e) x ≡ spare_at p v e (zone_on z e) x
  kept_spare e x he l = go (ℕ_discrete d e)
    where
      go : Dec (d ≡ e) → spare_at p v1 e (zone_on z e) x ≡ spare_at p v e (zone_on z e) x
      go (yes q) = subst (λ (m : ℕ). spare_at p v1 m (zone_on z m) x ≡ spare_at p v m (zone_on z m) x) q (spare_old x (subst (λ (m : ℕ). 1 + x < pointer_at v m (zone_on z m)) (sym q) l))
      go (no n) = spare_else e x he n

  unsealed_by_spare : (u : View) (e x : ℕ) → sealed_in p u 0 z ≡ false → record_in p (sealed_in p u 0 z) (zone_at u e (zone_on z e)) x ≡ spare_at p u e (zone_on z e) x
  unsealed_by_spare u e x q = ap (λ (w : Bool). record_in p w (zone_at u e (zone_on z e)) x) q

  pub record KeepsChunk (t e : ℕ) : Type 0 where
    pub has_it : has_chunk seg1 t e ≡ true
    pub same_offset! : offset_on seg0 e t ≡ offset_on seg1 e t
    pub same_record! : stored_rec seg0 t e ≡ stored_rec seg1 t e

  -- a chunk that was there
  chunk_keeps : (t e : ℕ) → e < p.N → has_chunk seg0 t e ≡ true → KeepsChunk t e
  chunk_keeps t e he c =
      let k = chunk_at_holds p v 0 z e t he (is_in_empty e) c in
      let x = offset_on seg0 e t in
      let l : 1 + x < pointer_at v e (zone_on z e) = below! v e x k.stored_there in
      let l1 : x < data_stored p (zone_at v1 e (zone_on z e)) = data_stored-below v1 e x (short_after e he) (let a = pointer_grows e he in omega arith) in
      let same : (y : ℕ) → 1 + y < pointer_at v e (zone_on z e)
      → record_in p (sealed_in p v1 0 z) (zone_at v1 e (zone_on z e)) y ≡ record_in p (sealed_in p v 0 z) (zone_at v e (zone_on z e)) y =
      λ y m. unsealed_by_spare v1 e y open_after ∙ kept_spare e y he m ∙ sym (unsealed_by_spare v e y open_before) in
      let st! : (record_in p (sealed_in p v1 0 z) (zone_at v1 e (zone_on z e)) x).stripe ≡ t = ap (λ (m : Rec). m.stripe) (same x l) ∙ k.its_stripe in
      let eo : offset_on seg1 e t ≡ x = offset_is p v1 0 z e t x he (is_in_empty e) l1 st! (λ y m q. k.first y m (ap (λ (a : Rec). a.stripe) (sym (same y (omega arith))) ∙ q)) in
      let h1 : has_chunk seg1 t e ≡ true = has_chunk_holds p v1 0 z e t x he (is_in_empty e) l1 st! in
      record {
        has_it = h1;
        same_offset! = sym eo;
        same_record! = k.its_record ∙ sym (same x l) ∙ ap (record_in p (sealed_in p v1 0 z) (zone_at v1 e (zone_on z e))) (sym eo)
            ∙ sym (chunk_at_holds p v1 0 z e t he (is_in_empty e) h1).its_record;
      }

  -- a chunk that is there was there, unless it is the new one
  had : (t e : ℕ) → e < p.N → (t ≡ s → ⊥) → has_chunk seg1 t e ≡ true → has_chunk seg0 t e ≡ true
  had t e he n c =
      let k = chunk_at_holds p v1 0 z e t he (is_in_empty e) c in
      let x = offset_on seg1 e t in
      let l : 1 + x < pointer_at v1 e (zone_on z e) = below! v1 e x k.stored_there in
      let q : (spare_at p v1 e (zone_on z e) x).stripe ≡ t = ap (λ (m : Rec). m.stripe) (sym (unsealed_by_spare v1 e x open_after)) ∙ k.its_stripe in
      let m : 1 + x < pointer_at v e (zone_on z e) = go x l q (ℕ_discrete d e) in
      has_chunk_holds p v 0 z e t x he (is_in_empty e) (data_stored-below v e x (short_before e he) m)
      (ap (λ (a : Rec). a.stripe) (unsealed_by_spare v e x open_before ∙ sym (kept_spare e x he m)) ∙ q)
    where
      go : (x : ℕ) → 1 + x < pointer_at v1 e (zone_on z e) → (spare_at p v1 e (zone_on z e) x).stripe ≡ t → Dec (d ≡ e) → 1 + x < pointer_at v e (zone_on z e)
      go x l q (no a) = subst (λ (m : ℕ). 1 + x < m) (pointer_else e he a) l
      go x l q (yes a) = subst (λ (m : ℕ). 1 + x < pointer_at v m (zone_on z m)) a (two (old_or_new x (subst (λ (m : ℕ). 1 + x < pointer_at v1 m (zone_on z m)) (sym a) l)))
        where
          two : (1 + x < pointer_at v d (zone_on z d)) ⊎ (1 + x ≡ pointer_at v d (zone_on z d)) → 1 + x < pointer_at v d (zone_on z d)
          two (inl m) = m
          two (inr m) = absurd (n (sym q ∙ subst (λ (y : ℕ). (spare_at p v1 y (zone_on z y) x).stripe ≡ s) a (ap (λ (y : Rec). y.stripe) (spare_new x m) ∙ read_stripe)))

  counts_up : (t : ℕ) → counts p 0 seg0 t ≡ true → counts p 0 seg1 t ≡ true
  counts_up t q = as! (in_all (has_chunk seg1 t) (present p 0) (λ e m. let he = (present_in p 0 e m).0 in (chunk_keeps t e he (counts_in p 0 seg0 t e q he (is_in_empty e))).has_it))
    where
      as! : all (has_chunk seg1 t) (present p 0) ≡ true → counts p 0 seg1 t ≡ true
      as! e = unfold counts in e

  counts_down : (t : ℕ) → (t ≡ s → ⊥) → counts p 0 seg1 t ≡ true → counts p 0 seg0 t ≡ true
  counts_down t n q = as! (in_all (has_chunk seg0 t) (present p 0) (λ e m. let he = (present_in p 0 e m).0 in had t e he n (counts_in p 0 seg1 t e q he (is_in_empty e))))
    where
      as! : all (has_chunk seg0 t) (present p 0) ≡ true → counts p 0 seg0 t ≡ true
      as! e = unfold counts in e

  serial_same! : seg0.serial ≡ seg1.serial
  serial_same! = serial_of p r v s0 t0 z ∙ ap (header_serial p) (chunk_grows.same_head 0 h0) ∙ sym (serial_of p r v1 s0 chunk_tidy z)

  cand_eq : (t e : ℕ) → KeepsChunk t e → cand_of p 0 seg0 t e ≡ cand_of p 0 seg1 t e
  cand_eq t e k = as! (rec_is seg0 ∙ k.same_record! ∙ sym (rec_is seg1)) (off_is seg0 ∙ k.same_offset! ∙ sym (off_is seg1))
    where
      rec_is : (x : Segment) → rec_of p 0 x t e ≡ stored_rec x t e
      rec_is x = rec_here p 0 x t e (is_in_empty e)

      off_is : (x : Segment) → offset_of 0 x t e ≡ offset_on x e t
      off_is x = unfold offset_of in cond_false (is_in 0 e) t (offset_on x e t) (is_in_empty e)

      as! : rec_of p 0 seg0 t e ≡ rec_of p 0 seg1 t e → offset_of 0 seg0 t e ≡ offset_of 0 seg1 t e → cand_of p 0 seg0 t e ≡ cand_of p 0 seg1 t e
      as! a c = unfold cand_of in λ j. record {
        address = (a j).address;
        stamp = (a j).stamp;
        serial = serial_same! j;
        drive = e;
        offset = c j;
        place = place_of p e (zone_on ((seg_is p v 0 z ∙ sym (seg_is p v1 0 z)) j) e) (1 + c j);
      }

  pub cand_up : (c : Cand) → CandAt p v 0 c → CandAt p v1 0 c
  cand_up c k = go (segs_differ z k.of)
    where
      go : Dec (z ≡ k.of) → CandAt p v1 0 c
      go (no n) =
          let q = remaining_left p v 0 k.of k.remains in
          cand_goes p r v v1 s0 chunk_tidy c k (grows_others p r v v1 z chunk_grows k.of q n) (grows_there p r v v1 z chunk_grows k.of q)
      go (yes e) =
          let q : counts p 0 seg0 k.stripe ≡ true = subst (λ (x : Seg). counts p 0 (segment_of p v 0 x) k.stripe ≡ true) (sym e) k.it_counts in
          let dd = data_drive p k.stripe k.position in
          let hdd = data_drive_lt p k.stripe k.position k.position_low in
          record {
            of = z;
            stripe = k.stripe;
            position = k.position;
            remains = subst (λ (x : List Seg). In z x) (grows_remaining p r v v1 z chunk_grows) (subst (λ (x : Seg). In x (remaining p v 0)) (sym e) k.remains);
            stripe_low = k.stripe_low;
            it_counts = counts_up k.stripe q;
            position_low = k.position_low;
            it_is =
                k.it_is
                ∙ ap (λ (x : Seg). cand_of p 0 (segment_of p v 0 x) k.stripe dd) (sym e)
                ∙ cand_eq k.stripe dd (chunk_keeps k.stripe dd hdd (counts_in p 0 seg0 k.stripe dd q hdd (is_in_empty dd)));
          }

  pub cand_down : (c : Cand) (k : CandAt p v1 0 c) → ((k.of ≡ z) × (k.stripe ≡ s)) ⊎ CandAt p v 0 c
  cand_down c k = go (segs_differ z k.of)
    where
      hk : There p v k.of
      hk = grows_was p r v v1 z chunk_grows k.of (remaining_left p v1 0 k.of k.remains)

      go : Dec (z ≡ k.of) → ((k.of ≡ z) × (k.stripe ≡ s)) ⊎ CandAt p v 0 c
      go (no n) =
          inr (cand_goes p r v1 v s0 t0 c k (λ e he. sym (grows_others p r v v1 z chunk_grows k.of hk n e he)) hk)
      go (yes e) = two (ℕ_discrete k.stripe s)
        where
          two : Dec (k.stripe ≡ s) → ((k.of ≡ z) × (k.stripe ≡ s)) ⊎ CandAt p v 0 c
          two (yes x) = inl (sym e, x)
          two (no x) =
              let q1 : counts p 0 seg1 k.stripe ≡ true = subst (λ (y : Seg). counts p 0 (segment_of p v1 0 y) k.stripe ≡ true) (sym e) k.it_counts in
              let q : counts p 0 seg0 k.stripe ≡ true = counts_down k.stripe x q1 in
              let dd = data_drive p k.stripe k.position in
              let hdd = data_drive_lt p k.stripe k.position k.position_low in
              inr (record {
                of = z;
                stripe = k.stripe;
                position = k.position;
                remains = subst (λ (y : List Seg). In z y) (sym (grows_remaining p r v v1 z chunk_grows)) (subst (λ (y : Seg). In y (remaining p v1 0)) (sym e) k.remains);
                stripe_low = k.stripe_low;
                it_counts = q;
                position_low = k.position_low;
                it_is =
                    k.it_is
                    ∙ ap (λ (y : Seg). cand_of p 0 (segment_of p v1 0 y) k.stripe dd) (sym e)
                    ∙ sym (cand_eq k.stripe dd (chunk_keeps k.stripe dd hdd (counts_in p 0 seg0 k.stripe dd q hdd (is_in_empty dd))));
              })

  -- ---- complete or not

  mask_low : landed_mask st i d < 2 ^ p.N
  mask_low = go
    where
      go : landed_mask st i d < 2 ^ p.N
      go = unfold landed_mask in or_lt p.N (landed_in st i) (only d) (so.slots_ok i hi).landed_ok (only-low d p.N hd r.drives_high)

  pub all-landed : completes p st i d ≡ true → (e : ℕ) → e < p.N → is_in (landed_in st1 i) e ≡ true
  all-landed q e he = ap (λ (x : ℕ). is_in x e) (mark_landed_holds st ls i hi d o d8) ∙ full_in! e he
    where
      ones_are : completes p st i d ≡ true → ones (landed_mask st i d) ≡ p.N
      ones_are q = unfold completes in eqb-true (ones (landed_mask st i d)) p.N q

      full_in! : (e : ℕ) → e < p.N → is_in (landed_mask st i d) e ≡ true
      full_in! e he = full_mask p.N (landed_mask st i d) r.drives_high mask_low (ones_are q) e he

  some_unlanded : completes p st i d ≡ false → (e : ℕ) × (e < p.N) × (is_in (landed_in st1 i) e ≡ false)
  some_unlanded q =
      let (e, he, x) = not_full p.N (landed_mask st i d) r.drives_high mask_low (ones_not q) in
      (e, he, ap (λ (y : ℕ). is_in y e) (mark_landed_holds st ls i hi d o d8) ∙ x)
    where
      ones_not : completes p st i d ≡ false → eqb (ones (landed_mask st i d)) p.N ≡ false
      ones_not q = unfold completes in q

  -- a stripe that isn't on every drive doesn't count
  pub uncounted_yet : completes p st i d ≡ false → counts p 0 seg1 s ≡ true → ⊥
  uncounted_yet q c =
      let (e, he, x) = some_unlanded q in
      clash (counts_in p 0 seg1 s e c he (is_in_empty e))
      (no_chunk_holds p v1 0 z e s he (is_in_empty e) (λ y l w. flight_here.not_there e y he x (below! v1 e y l)
      (ap (λ (m : Rec). m.stripe) (sym (unsealed_by_spare v1 e y open_after)) ∙ w ∙ sym (landed_stripe i))))

  -- where the stripe lies on a drive that has it
  pub landed_chunk : (e : ℕ) → e < p.N → is_in (landed_in st1 i) e ≡ true
      → (has_chunk seg1 s e ≡ true) × ((offset_on seg1 e s ≡ offset_in st1 i e) × (stored_rec seg1 s e ≡ spare_at p v1 e (zone_on z e) (offset_in st1 i e)))
  landed_chunk e he q =
      let l = flight_here.lands e he q in
      let x = offset_in st1 i e in
      let l1 : x < data_stored p (zone_at v1 e (zone_on z e)) = data_stored-below v1 e x (short_after e he) l.lies in
      let w : (record_in p (sealed_in p v1 0 z) (zone_at v1 e (zone_on z e)) x).stripe ≡ s = ap (λ (m : Rec). m.stripe) (unsealed_by_spare v1 e x open_after) ∙ l.of_stripe ∙ landed_stripe i in
      let c = has_chunk_holds p v1 0 z e s x he (is_in_empty e) l1 w in
      let eo : offset_on seg1 e s ≡ x =
      offset_is p v1 0 z e s x he (is_in_empty e) l1 w
      (λ y m a. l.not_before y m (ap (λ (n : Rec). n.stripe) (sym (unsealed_by_spare v1 e y open_after)) ∙ a ∙ sym (landed_stripe i))) in
      (c, (eo, (chunk_at_holds p v1 0 z e s he (is_in_empty e) c).its_record ∙ ap (record_in p (sealed_in p v1 0 z) (zone_at v1 e (zone_on z e))) eo ∙ unsealed_by_spare v1 e x open_after))

  pub counts_now : completes p st i d ≡ true → counts p 0 seg1 s ≡ true
  counts_now q = as! (in_all (has_chunk seg1 s) (present p 0) (λ e m. let he = (present_in p 0 e m).0 in (landed_chunk e he (all-landed q e he)).0))
    where
      as! : all (has_chunk seg1 s) (present p 0) ≡ true → counts p 0 seg1 s ≡ true
      as! e = unfold counts in e

  -- all positions are filled then
  pub all-filled : completes p st i d ≡ true → filled_in_of st1 i ≡ data_count p
  all-filled q =
      let n = data_count p - 1 in
      let l : n < data_count p = (let x = data_count-low p r in omega arith) in
      let dd = data_drive p s n in
      let hdd = data_drive_lt p s n l in
      let f = ((flight_here.lands dd hdd (all-landed q dd hdd)).is_entry (ap (λ (x : ℕ). is_data p x dd) (landed_stripe i) ∙ drive_is_data p s n)).0 in
      let g : data_position p (stripe_in st1 i) dd ≡ n = ap (λ (x : ℕ). data_position p x dd) (landed_stripe i) ∙ position_drive p s n in
      let k : filled_in_of st1 i ≤ data_count p = subst (λ (x : ℕ). x ≤ data_count p) (sym (filled1 i)) (so.slots_ok i hi).filled_ok in
      omega arith

  -- its records are the candidates of the stripe
  pub landed_cand_holds : completes p st i d ≡ true → (n : ℕ) → n < data_count p → landed_cand p v1 z st1 i n ≡ cand_of p 0 seg1 s (data_drive p s n)
  landed_cand_holds q n l =
      let dd = data_drive p s n in
      let hdd = data_drive_lt p s n l in
      let (c, (eo, er)) = landed_chunk dd hdd (all-landed q dd hdd) in
      let x = ((flight_here.lands dd hdd (all-landed q dd hdd)).is_entry (ap (λ (m : ℕ). is_data p m dd) (landed_stripe i) ∙ drive_is_data p s n)).1 in
      let g : data_position p (stripe_in st1 i) dd ≡ n = ap (λ (m : ℕ). data_position p m dd) (landed_stripe i) ∙ position_drive p s n in
      let e : entry_in_of st1 i n ≡ rec_of p 0 seg1 s dd = ap (entry_in_of st1 i) (sym g) ∙ sym x ∙ sym er ∙ sym (rec_is dd) in
      let w : offset_in st1 i dd ≡ offset_of 0 seg1 s dd = sym eo ∙ sym (off_is dd) in
      as! n dd (ap (λ (m : ℕ). data_drive p m n) (landed_stripe i)) e w
    where
      rec_is : (e : ℕ) → rec_of p 0 seg1 s e ≡ stored_rec seg1 s e
      rec_is e = rec_here p 0 seg1 s e (is_in_empty e)

      off_is : (e : ℕ) → offset_of 0 seg1 s e ≡ offset_on seg1 e s
      off_is e = unfold offset_of in cond_false (is_in 0 e) s (offset_on seg1 e s) (is_in_empty e)

      serial_now : serial_at p v1 z ≡ seg1.serial
      serial_now = as! ∙ sym (serial_of p r v1 s0 chunk_tidy z)
        where
          as! : serial_at p v1 z ≡ header_serial p (header_at v1 0 z)
          as! = unfold serial_at header_at in refl

      as! : (n dd : ℕ) → data_drive p (stripe_in st1 i) n ≡ dd → entry_in_of st1 i n ≡ rec_of p 0 seg1 s dd → offset_in st1 i dd ≡ offset_of 0 seg1 s dd
          → landed_cand p v1 z st1 i n ≡ cand_of p 0 seg1 s dd
      as! n dd ed e w = unfold landed_cand cand_of in λ j. record {
        address = (e j).address;
        stamp = (e j).stamp;
        serial = serial_now j;
        drive = ed j;
        offset = (ap (offset_in st1 i) ed ∙ w) j;
        place = place_of p (ed j) (zone_on (sym (seg_is p v1 0 z) j) (ed j)) (1 + (ap (offset_in st1 i) ed ∙ w) j);
      }

  -- ---- the address table

  abbrev before! : List Cand
  before! = candidates p 0 (segments p v 0)

  abbrev after! : List Cand
  after! = candidates p 0 (segments p v1 0)

  up! : (c : Cand) → In c before! → In c after!
  up! c m = at_cand p v1 0 c (cand_up c (cand_at p v 0 c m))

  -- as long as the stripe isn't complete the table stays
  pub addresses_stay : completes p st i d ≡ false → address_table p before! ≡ address_table p after!
  addresses_stay q = addresses_cong p before! after! (λ a ha. same_best a before! after! (cands_apart p r v1 s0 chunk_tidy) (λ c e m. up! c m) (λ c e m. down c (cand_at p v1 0 c m)))
    where
      down : (c : Cand) → CandAt p v1 0 c → In c before!
      down c k = ⊎_elim
          (λ (x : (k.of ≡ z) × (k.stripe ≡ s)). absurd
          (uncounted_yet q (subst (λ (y : ℕ). counts p 0 seg1 y ≡ true) x.1
          (subst (λ (y : Seg). counts p 0 (segment_of p v1 0 y) k.stripe ≡ true) x.0 k.it_counts))))
          (λ x. at_cand p v 0 c x) (cand_down c k)

  abbrev mine : List Cand
  mine = landed_cands p v1 z st1 i

  in_mine : (n : ℕ) → completes p st i d ≡ true → n < data_count p → In (cand_of p 0 seg1 s (data_drive p s n)) mine
  in_mine n q l =
      subst (λ (c : Cand). In c mine) (landed_cand_holds q n l)
      (as! (in_map (landed_cand p v1 z st1 i) (below (filled_in_of st1 i)) n
      (in_below (filled_in_of st1 i) n (subst (λ (x : ℕ). n < x) (sym (all-filled q)) l))))
    where
      as! : In (landed_cand p v1 z st1 i n) (map (landed_cand p v1 z st1 i) (below (filled_in_of st1 i))) → In (landed_cand p v1 z st1 i n) mine
      as! m = unfold landed_cands in m

  mine_in : (c : Cand) → completes p st i d ≡ true → In c mine → In c after!
  mine_in c q m =
      let (n, j, e) = map_in (landed_cand p v1 z st1 i) (below (filled_in_of st1 i)) c (as! m) in
      let l : n < data_count p = subst (λ (x : ℕ). n < x) (all-filled q) (below_in (filled_in_of st1 i) n j) in
      at_cand p v1 0 c (record {
        of = z;
        stripe = s;
        position = n;
        remains = there_remains p r v1 s0 chunk_tidy z chunk_there;
        stripe_low = (so.slots_ok i hi).stripe_ok;
        it_counts = counts_now q;
        position_low = l;
        it_is = e ∙ landed_cand_holds q n l;
      })
    where
      as! : In c mine → In c (map (landed_cand p v1 z st1 i) (below (filled_in_of st1 i)))
      as! m = unfold landed_cands in m

  -- the record that the table holds, read in the view with the chunk
  held_is : (tb : List ℕ) → tb ≡ address_table p before! → (a : ℕ) → a < p.L → held p v1 tb a ≡ best none (cands_of a before!)
  held_is tb e a ha = go (table-holds p r v tb e a ha)
    where
      go : EntryHolds p v tb a → held p v1 tb a ≡ best none (cands_of a before!)
      go (holds_none b q) = held_none p tb a (place_at_of tb a) refl v1 q ∙ sym b
      go (holds_some c b k t ea q) = held_some p tb a c.place q v1 (λ x. let l = spot_low p r v 0 (zero_here p r) (none_apart p v) c t in let bad : ⊥ = omega arith in bad)
          ∙ ap some cand! ∙ sym b
        where
          ed : place_drive p c.place ≡ c.drive
          ed = spot_drive p r v 0 (zero_here p r) (none_apart p v) c t

          ez : place_segment p v1 0 c.place ≡ place_segment p v 0 c.place
          ez = as! (grows_remaining p r v v1 z chunk_grows)
            where
              has : remaining p v 0 ≡ remaining p v1 0 → holders p v1 0 (place_drive p c.place) (place_zone p c.place) ≡ holders p v 0 (place_drive p c.place) (place_zone p c.place)
              has q = unfold holders in ap (keep (λ g. eqb (zone_on g (place_drive p c.place)) (place_zone p c.place))) (sym q)

              as! : remaining p v 0 ≡ remaining p v1 0 → place_segment p v1 0 c.place ≡ place_segment p v 0 c.place
              as! q = place_first p v1 0 c.place ∙ ap (first_or no_seg) (has q) ∙ sym (place_first p v 0 c.place)

          ez! : place_segment p v1 0 c.place ≡ k.of
          ez! = ez ∙ cand_segment p r v 0 (zero_here p r) (none_apart p v) c k t

          eb : place_block p c.place - 1 ≡ c.offset
          eb = ap (λ (x : ℕ). x - 1) (spot_block p r v 0 (zero_here p r) (none_apart p v) c t) ∙ (let y : 1 + c.offset - 1 ≡ c.offset = omega arith in y)

          hk : There p v k.of
          hk = remaining_left p v 0 k.of k.remains

          stamp! : (record_in p (sealed_in p v1 0 k.of) (zone_at v1 c.drive (zone_on k.of c.drive)) c.offset).stamp ≡ c.stamp
          stamp! = two (segs_differ z k.of) ∙ sym (cand_record p r v s0 t0 c k).1
            where
              two :
                  Dec (z ≡ k.of)
                  → (record_in p (sealed_in p v1 0 k.of) (zone_at v1 c.drive (zone_on k.of c.drive)) c.offset).stamp ≡ (record_in p (sealed_in p v 0 k.of)
                  (zone_at v c.drive (zone_on k.of c.drive)) c.offset).stamp
              two (no n) =
                  ap₂ (λ (x : Bool) (y : Zone). (record_in p x y c.offset).stamp)
                  (sym (zones_sealed p r v v1 k.of (grows_others p r v v1 z chunk_grows k.of hk n)))
                  (sym (grows_others p r v v1 z chunk_grows k.of hk n c.drive t.drive_low))
              two (yes x) =
                  subst (λ (y : Seg). (record_in p (sealed_in p v1 0 y) (zone_at v1 c.drive (zone_on y c.drive)) c.offset).stamp ≡ (record_in p (sealed_in p v 0 y)
                  (zone_at v c.drive (zone_on y c.drive)) c.offset).stamp) x
                  (ap (λ (m : Rec). m.stamp) (unsealed_by_spare v1 c.drive c.offset open_after ∙ kept_spare c.drive c.offset t.drive_low
                  (subst (λ (y : ℕ). 1 + c.offset < pointer_at v c.drive y)
                  (sym (spot_zone p r v 0 (zero_here p r) (none_apart p v) c t) ∙ cand_zone p r v 0 (zero_here p r) (none_apart p v) c k t ∙ ap (λ (y : Seg). zone_on y c.drive) (sym x))
                  (t.visible (is_in_empty c.drive)))
                  ∙ sym (unsealed_by_spare v c.drive c.offset open_before)))

          serial! : header_serial p (header_at v1 0 k.of) ≡ c.serial
          serial! = ap (header_serial p) (sym (grows_header p r v v1 z chunk_grows 0 k.of h0 hk)) ∙ sym (its_serial p r v s0 t0 c k)

          cand! : held_cand p v1 a (place_record p v1 0 c.place).stamp c.place ≡ c
          cand! = unfold held_cand record_at serial_at header_at in λ j. record {
            address = sym ea j;
            stamp = ((λ l. (record_in p (sealed_in p v1 0 (ez! l)) (zone_at v1 (ed l) (zone_on (ez! l) (ed l))) (eb l)).stamp) ∙ stamp!) j;
            serial = (ap (λ (x : Seg). header_serial p (chunk_at v1 0 (zone_on x 0) 0).block) ez! ∙ head!) j;
            drive = ed j;
            offset = eb j;
            place = c.place;
          }
            where
              head! : header_serial p (chunk_at v1 0 (zone_on k.of 0) 0).block ≡ c.serial
              head! = as! serial!
                where
                  as! : header_serial p (header_at v1 0 k.of) ≡ c.serial → header_serial p (chunk_at v1 0 (zone_on k.of 0) 0).block ≡ c.serial
                  as! e = unfold header_at in e

  pub addresses_land : completes p st i d ≡ true → (tb : List ℕ) → tb ≡ address_table p before! → pointed p v1 tb mine mine tb ≡ address_table p after!
  addresses_land q tb e =
      pointed_is p v1 tb mine before! e (held_is tb e)
      ∙ addresses_cong p (before! ++ mine) after! (λ a ha. same_best a (before! ++ mine) after! (cands_apart p r v1 s0 chunk_tidy)
      (λ c x m. ⊎_elim (λ y. up! c y) (λ y. mine_in c q y) (in_append c before! mine m))
      (λ c x m. down c (cand_at p v1 0 c m)))
    where
      down : (c : Cand) → CandAt p v1 0 c → In c (before! ++ mine)
      down c k = ⊎_elim (λ (x : (k.of ≡ z) × (k.stripe ≡ s)). in_right c before! mine (new x)) (λ x. in_left c before! mine (at_cand p v 0 c x)) (cand_down c k)
        where
          new : (k.of ≡ z) × (k.stripe ≡ s) → In c mine
          new (a, b) =
              subst (λ (y : Cand). In y mine) (sym (k.it_is ∙ (λ j. cand_of p 0 (segment_of p v1 0 (a j)) (b j) (data_drive p (b j) k.position)))) (in_mine k.position q k.position_low)

  -- ---- the compact table

  used! : (u : View) → There p u z → (s1 : ℕ) → Tidy p u s1 → (e : ℕ) → e < p.N → sealed_in p u 0 z ≡ false
      → row_of p (segments p u 0) e (zone_on z e) ≡ records_in p false (zone_at u e (zone_on z e))
  used! u m s1 ty e he ns =
      row_seg_holds p u 0 (zero_here p r) e z he (is_in_empty e) (there_remains p r u s1 ty z m)
      ∙ recs_here p u 0 z e he (is_in_empty e)
      ∙ ap (λ (w : Bool). records_in p w (zone_at u e (zone_on z e))) ns

  row_before : (e : ℕ) → e < p.N → row_of p (segments p v 0) e (zone_on z e) ≡ records_in p false (zone_at v e (zone_on z e))
  row_before e he = used! v hz s0 t0 e he open_before

  row_after : (e : ℕ) → e < p.N → row_of p (segments p v1 0) e (zone_on z e) ≡ records_in p false (zone_at v1 e (zone_on z e))
  row_after e he = used! v1 chunk_there s0 chunk_tidy e he open_after

  -- the rows of other zones
  chunks_row_other : (e y : ℕ) → e < p.N → (y ≡ zone_on z e → ⊥) → row_of p (segments p v 0) e y ≡ row_of p (segments p v1 0) e y
  chunks_row_other e y he n = go (zone_kind p v e y)
    where
      go : ((w : Seg) × In w (remaining p v 0) × (zone_on w e ≡ y)) ⊎ ((w : Seg) → In w (remaining p v 0) → zone_on w e ≡ y → ⊥)
          → row_of p (segments p v 0) e y ≡ row_of p (segments p v1 0) e y
      go (inl (w, m, q)) =
          let k = remaining_left p v 0 w m in
          subst (λ (x : ℕ). row_of p (segments p v 0) e x ≡ row_of p (segments p v1 0) e x) q
          (row_goes p r v v1 s0 s0 t0 chunk_tidy e w he k (grows_there p r v v1 z chunk_grows w k)
          (grows_others p r v v1 z chunk_grows w k (λ x. n (sym q ∙ ap (λ (g : Seg). zone_on g e) (sym x)))))
      go (inr k) = row_none p v 0 (zero_here p r) e y k
          ∙ sym (row_none p v1 0 (zero_here p r) e y (λ w m q. k w (subst (λ (l : List Seg). In w l) (sym (grows_remaining p r v v1 z chunk_grows)) m) q))

  long! : (u : View) → pointer_at u d (zone_on z d) ≤ 1 + p.S → length (records_in p false (zone_at u d (zone_on z d))) ≡ pointer_at u d (zone_on z d) - 1
  long! u l = length_records p false (zone_at u d (zone_on z d)) ∙ as! l
    where
      as! : pointer_at u d (zone_on z d) ≤ 1 + p.S → data_stored p (zone_at u d (zone_on z d)) ≡ pointer_at u d (zone_on z d) - 1
      as! l = unfold data_stored pointer_at in omega arith

  entry_at : (u : View) (x : ℕ) → pointer_at u d (zone_on z d) ≤ 1 + p.S → 1 + x < pointer_at u d (zone_on z d)
      → get_or (compact_row p (records_in p false (zone_at u d (zone_on z d)))) x 0 ≡ compact_entry p (spare_at p u d (zone_on z d) x).stripe
  entry_at u x l m =
      row_at p (records_in p false (zone_at u d (zone_on z d))) x (let e = long! u l in omega arith)
      ∙ ap (λ (a : Rec). compact_entry p a.stripe) (record_at_lem p false (zone_at u d (zone_on z d)) x (mk_rec 0 0 0) (data_stored-below u d x l m))

  pub compact_lands : set (compact_table p (segments p v 0)) (compact_at p d (zone_on z d) o) (compact_entry p s) ≡ compact_table p (segments p v1 0)
  compact_lands =
      grid_ext p (λ e y. compact_row p (row_of p (segments p v1 0) e y)) (compact_row_long p v1 0 (zero_here p r)) (set cs (compact_at p d (zone_on z d) o) (compact_entry p s))
      (length-set cs (compact_at p d (zone_on z d) o) (compact_entry p s) ∙ length_compact p v 0 (zero_here p r))
      r.stripes_low (let a = r.zones_low in omega arith)
      entry
      ∙ sym (compact_is p v1 0 (zero_here p r))
    where
      cs : List ℕ
      cs = compact_table p (segments p v 0)

      os : o < p.S
      os = let a = pointer_data in let c = pointer_some in omega arith

      base : (e y x : ℕ) → compact_at p e y x ≡ (e * p.Z + y) * p.S + x
      base e y x = unfold compact_at in refl

      cells : (e y x : ℕ) → e < p.N → y < p.Z → x < p.S → compact_at p e y x ≡ compact_at p d (zone_on z d) o → (e ≡ d) × ((y ≡ zone_on z e) × (x ≡ o))
      cells e y x he hy hx q =
          let zd = zone_on z d in
          let hzd = zl d hd in
          let f : (e * p.Z + y) * p.S + x ≡ (d * p.Z + zd) * p.S + o = sym (base e y x) ∙ q ∙ base d zd o in
          let a : e * p.Z + y ≡ d * p.Z + zd = sym (digits_div (e * p.Z + y) hx) ∙ ap (λ (n : ℕ). n / p.S) f ∙ digits_div (d * p.Z + zd) os in
          let c : x ≡ o = sym (digits_mod (e * p.Z + y) hx) ∙ ap (λ (n : ℕ). n % p.S) f ∙ digits_mod (d * p.Z + zd) os in
          let w : e ≡ d = index_drive p.Z e y d zd hy hzd a in
          (w, (index_zone p.Z e y d zd hy hzd a ∙ ap (zone_on z) (sym w), c))

      entry : (e y x : ℕ) → e < p.N → y < p.Z → x < p.S
          → get_or (set cs (compact_at p d (zone_on z d) o) (compact_entry p s)) (compact_at p e y x) 0 ≡ get_or (compact_row p (row_of p (segments p v1 0) e y)) x 0
      entry e y x he hy hx = go (ℕ_discrete y (zone_on z e)) (ℕ_discrete d e) (ℕ_discrete x o)
        where
          else! : (compact_at p e y x ≡ compact_at p d (zone_on z d) o → ⊥)
              → get_or (set cs (compact_at p d (zone_on z d) o) (compact_entry p s)) (compact_at p e y x) 0 ≡ get_or (compact_row p (row_of p (segments p v 0) e y)) x 0
          else! n = get_or-set_other cs (compact_at p d (zone_on z d) o) (compact_at p e y x) (compact_entry p s) 0 n ∙ compact_at_holds p v 0 (zero_here p r) e y x he hy hx

          go : Dec (y ≡ zone_on z e) → Dec (d ≡ e) → Dec (x ≡ o) → get_or (set cs (compact_at p d (zone_on z d) o) (compact_entry p s)) (compact_at p e y x) 0 ≡ get_or
              (compact_row p (row_of p (segments p v1 0) e y)) x 0
          go (no n) b c =
              else! (λ q. n (cells e y x he hy hx q).1.0) ∙ ap (λ (l : List Rec). get_or (compact_row p l) x 0) (chunks_row_other e y he n)
          go (yes a) (no n) c =
              else! (λ q. n (sym (cells e y x he hy hx q).0))
              ∙ subst (λ (m : ℕ). get_or (compact_row p (row_of p (segments p v 0) e m)) x 0 ≡ get_or (compact_row p (row_of p (segments p v1 0) e m)) x 0) (sym a)
              (ap (λ (l : List Rec). get_or (compact_row p l) x 0) (row_before e he ∙ ap (records_in p false) (sym (chunk_other e (zone_on z e) he (zl e he) (inl n))) ∙ sym (row_after e he)))
          go (yes a) (yes b) (yes c) =
              ap (λ (m : ℕ). get_or (set cs (compact_at p d (zone_on z d) o) (compact_entry p s)) m 0) (λ j. compact_at p (sym b j) (at! j) (c j))
              ∙ get_or-set_same cs (compact_at p d (zone_on z d) o) (compact_entry p s) 0
              (subst (λ (m : ℕ). compact_at p d (zone_on z d) o < m) (sym (length_compact p v 0 (zero_here p r))) (compact_within p d (zone_on z d) o hd (zl d hd) os))
              ∙ sym ((λ j. get_or (compact_row p (row_of p (segments p v1 0) (sym b j) (at! j))) (c j) 0) ∙ ap (λ (l : List Rec). get_or (compact_row p l) o 0) (row_after d hd)
              ∙ entry_at v1 o (short_after d hd) (let q = chunk_pointer in let k = offset_next in omega arith)
              ∙ ap (λ (m : Rec). compact_entry p m.stripe) (spare_new o offset_next)
              ∙ ap (compact_entry p) read_stripe)
            where
              at! : y ≡ zone_on z d
              at! = a ∙ ap (zone_on z) (sym b)
          go (yes a) (yes b) (no n) =
              else! (λ q. n (cells e y x he hy hx q).1.1)
              ∙ (λ j. get_or (compact_row p (row_of p (segments p v 0) (sym b j) (at! j))) x 0)
              ∙ two (dec_lt (1 + x) (pointer_at v d (zone_on z d)))
              ∙ (λ j. get_or (compact_row p (row_of p (segments p v1 0) (b j) (sym at! j))) x 0)
            where
              at! : y ≡ zone_on z d
              at! = a ∙ ap (zone_on z) (sym b)

              two : Dec (1 + x < pointer_at v d (zone_on z d))
                  → get_or (compact_row p (row_of p (segments p v 0) d (zone_on z d))) x 0 ≡ get_or (compact_row p (row_of p (segments p v1 0) d (zone_on z d))) x 0
              two (yes l) =
                  ap (λ (m : List Rec). get_or (compact_row p m) x 0) (row_before d hd) ∙ entry_at v x (short_before d hd) l
                  ∙ ap (λ (m : Rec). compact_entry p m.stripe) (sym (spare_old x l))
                  ∙ sym (ap (λ (m : List Rec). get_or (compact_row p m) x 0) (row_after d hd) ∙ entry_at v1 x (short_after d hd) (let q = chunk_pointer in omega arith))
              two (no l) =
                  ap (λ (m : List Rec). get_or (compact_row p m) x 0) (row_before d hd)
                  ∙ row_past p (records_in p false (zone_at v d (zone_on z d))) x (let q = long! v (short_before d hd) in omega arith)
                  ∙ sym (ap (λ (m : List Rec). get_or (compact_row p m) x 0) (row_after d hd)
                  ∙ row_past p (records_in p false (zone_at v1 d (zone_on z d))) x
                  (let q = long! v1 (short_after d hd) in let w = chunk_pointer in let k = offset_next in omega arith))

  -- ---- the state

  mark_ok : StateOk p st1
  mark_ok = record {
    live_is = live_same ∙ so.live_is;
    missing_low = subst (λ (x : ℕ). x < 2 ^ p.N) (sym missing_same) so.missing_low;
    missing_few = subst (λ (x : ℕ). ones x ≤ parity_count p) (sym missing_same) so.missing_few;
    opened_low = opened_ok;
    next_low = subst (λ (x : ℕ). x ≤ p.S) (sym next1) so.next_low;
    slots_ok = λ j hj. record {
      stripe_ok = subst (λ (x : ℕ). x < p.S) (sym (landed_stripe j)) (so.slots_ok j hj).stripe_ok;
      filled_ok = subst (λ (x : ℕ). x ≤ data_count p) (sym (filled1 j)) (so.slots_ok j hj).filled_ok;
      writes_ok = writes! j (so.slots_ok j hj).writes_ok;
      landed_ok = landed! j hj (ℕ_discrete j i);
    };
    offsets_low = offs;
  }
    where
      live_same : st1.live ≡ st.live
      live_same = unfold mark_landed in refl

      missing_same : st1.missing ≡ st.missing
      missing_same = unfold mark_landed in refl

      opened_ok : st1.opened ≤ st1.serial.0
      opened_ok = unfold mark_landed in so.opened_low

      writes! : (j : ℕ) → get_or st.writes j 0 < 2 ^ data_count p → get_or st1.writes j 0 < 2 ^ data_count p
      writes! j x = unfold mark_landed in x

      landed! : (j : ℕ) → j < 8 → Dec (j ≡ i) → landed_in st1 j < 2 ^ p.N
      landed! j hj (yes e) = subst (λ (x : ℕ). landed_in st1 x < 2 ^ p.N) (sym e) (subst (λ (x : ℕ). x < 2 ^ p.N) (sym (mark_landed_holds st ls i hi d o d8)) mask_low)
      landed! j hj (no n) = subst (λ (x : ℕ). x < 2 ^ p.N) (sym (mark_landed-other st ls i hi d o d8 j n)) (so.slots_ok j hj).landed_ok

      offs : (j : ℕ) → get_or st1.offsets j 0 < p.S
      offs j = as! (go (ℕ_discrete j (cell i d)))
        where
          as! : get_or (set st.offsets (cell i d) o) j 0 < p.S → get_or st1.offsets j 0 < p.S
          as! x = unfold mark_landed in x

          go : Dec (j ≡ cell i d) → get_or (set st.offsets (cell i d) o) j 0 < p.S
          go (yes e) = subst (λ (x : ℕ). get_or (set st.offsets (cell i d) o) x 0 < p.S) (sym e)
              (subst (λ (x : ℕ). x < p.S)
              (sym (get_or-set_same st.offsets (cell i d) o 0 (let c = cell-low i d hi d8 in let l = ls.offsets_long in omega arith)))
              (let a = pointer_data in let c = pointer_some in omega arith))
          go (no n) = subst (λ (x : ℕ). x < p.S) (sym (get_or-set_other st.offsets (cell i d) j o 0 n)) (so.offsets_low j)

  head1 : header_serial p (header_at v 0 z) ≡ header_serial p (header_at v1 0 z)
  head1 = ap (header_serial p) (chunk_grows.same_head 0 h0)

  opened_mark : st1.opened ≡ header_serial p (header_at v1 0 z)
  opened_mark = as! oz ∙ head1
    where
      as! : st.opened ≡ header_serial p (header_at v 0 z) → st1.opened ≡ header_serial p (header_at v 0 z)
      as! e = unfold mark_landed in e

  -- segments but this one are as they were
  pub sealed1 : (y : Seg) → There p v1 y → (y ≡ z) ⊎ ((e : ℕ) → e < p.N → pointer_at v1 e (zone_on y e) ≡ capacity p)
  sealed1 y m = go (segs_differ z y)
    where
      hy : There p v y
      hy = grows_was p r v v1 z chunk_grows y m

      go : Dec (z ≡ y) → (y ≡ z) ⊎ ((e : ℕ) → e < p.N → pointer_at v1 e (zone_on y e) ≡ capacity p)
      go (yes e) = inl (sym e)
      go (no n) = ⊎_elim (λ x. inl (sym (open_once y hy x)))
          (λ x. inr (λ e he. sym (zones_pointer p r v v1 y (grows_others p r v v1 z chunk_grows y hy n) e he) ∙ x e he)) (h.sealed_but y hy)

  ls1 : Lists st1
  ls1 = mark_lists_holds st ls i hi d o d8

  -- a chunk that doesn't complete its stripe
  pub chunk_healthy : HealthyState p v1 st1
  chunk_healthy = record {
    tidy = subst (λ (x : ℕ). Tidy p v1 x) (sym serial1) chunk_tidy;
    sealed_but = λ y m. ⊎_elim (λ e. inl (opened_mark ∙ ap (λ (x : Seg). header_serial p (header_at v1 0 x)) (sym e))) (λ x. inr x) (sealed1 y m);
    opens_at = λ q. (z, opened_mark, busy_same p v1 st1 (flies st) (flies st1) z (λ j hj. flies1 j) chunk_open);
    shut = λ q. absurd (serial_some p v1 s0 z chunk_tidy chunk_there (sym opened_mark ∙ q));
    serial_fits = subst (λ (x : ℕ). x < 256 ^ 8) (sym serial1) h.serial_fits;
    stamp_fits = subst (λ (x : ℕ). x < 256 ^ 8) (sym stamp1) h.stamp_fits;
    lists = ls1;
  }
    where
      serial1 : st1.serial.0 ≡ st.serial.0
      serial1 = unfold mark_landed in refl

      stamp1 : st1.stamp.0 ≡ st.stamp.0
      stamp1 = unfold mark_landed in refl

      flies1 : (j : ℕ) → flies st j ≡ flies st1 j
      flies1 j = ap not (free_is st j ∙ ap (λ (x : ℕ). eqb x 0) (sym (filled1 j)) ∙ sym (free_is st1 j))

  pub chunk_state : StateOk p st1
  chunk_state = mark_ok

  pub chunk_missing : st1.missing ≡ st.missing
  chunk_missing = as!
    where
      as! : st1.missing ≡ st.missing
      as! = unfold mark_landed in refl

  -- ---- the eighth is freed

  abbrev st2 : State
  st2 = free_stripe st1 i

  pub freed_state : StateOk p st2
  freed_state = record {
    live_is = live_same ∙ mark_ok.live_is;
    missing_low = subst (λ (x : ℕ). x < 2 ^ p.N) (sym missing_same) mark_ok.missing_low;
    missing_few = subst (λ (x : ℕ). ones x ≤ parity_count p) (sym missing_same) mark_ok.missing_few;
    opened_low = opened_ok;
    next_low = subst (λ (x : ℕ). x ≤ p.S) (sym next_same) mark_ok.next_low;
    slots_ok = λ j hj. record {
      stripe_ok = stripe! j (mark_ok.slots_ok j hj).stripe_ok;
      filled_ok = filled! j (mark_ok.slots_ok j hj).filled_ok (ℕ_discrete j i);
      writes_ok = writes! j (mark_ok.slots_ok j hj).writes_ok;
      landed_ok = landed! j (mark_ok.slots_ok j hj).landed_ok;
    };
    offsets_low = λ j. offs j (mark_ok.offsets_low j);
  }
    where
      live_same : st2.live ≡ st1.live
      live_same = unfold free_stripe in refl

      missing_same : st2.missing ≡ st1.missing
      missing_same = unfold free_stripe in refl

      opened_ok : st2.opened ≤ st2.serial.0
      opened_ok = unfold free_stripe in mark_ok.opened_low

      next_same : st2.next ≡ st1.next
      next_same = unfold free_stripe in refl

      stripe! : (j : ℕ) → stripe_in st1 j < p.S → stripe_in st2 j < p.S
      stripe! j x = unfold free_stripe stripe_in in x

      writes! : (j : ℕ) → get_or st1.writes j 0 < 2 ^ data_count p → get_or st2.writes j 0 < 2 ^ data_count p
      writes! j x = unfold free_stripe in x

      landed! : (j : ℕ) → landed_in st1 j < 2 ^ p.N → landed_in st2 j < 2 ^ p.N
      landed! j x = unfold free_stripe landed_in in x

      offs : (j : ℕ) → get_or st1.offsets j 0 < p.S → get_or st2.offsets j 0 < p.S
      offs j x = unfold free_stripe in x

      filled! : (j : ℕ) → filled_in_of st1 j ≤ data_count p → Dec (j ≡ i) → filled_in_of st2 j ≤ data_count p
      filled! j x (yes e) = subst (λ (m : ℕ). filled_in_of st2 m ≤ data_count p) (sym e) (subst (λ (m : ℕ). m ≤ data_count p) (sym (filled_freed st1 ls1 i hi)) (omega arith))
      filled! j x (no n) = subst (λ (m : ℕ). m ≤ data_count p) (sym (free_filled-other st1 ls1 i hi j n)) x

  flies2 : (j : ℕ) → (j ≡ i → ⊥) → flies st2 j ≡ flies st j
  flies2 j n = ap not (free_is st2 j ∙ ap (λ (x : ℕ). eqb x 0) (free_filled-other st1 ls1 i hi j n ∙ filled1 j) ∙ sym (free_is st j))

  flies2_here : flies st2 i ≡ false
  flies2_here = none_flies st2 i (filled_freed st1 ls1 i hi)

  -- one eighth fewer is in use
  pub flights_fewer : length (in_flight st) ≡ suc (tally (flies st2) slots)
  flights_fewer = as! (tally-more (flies st) (flies st2) i hi (λ j n. sym (flies2 j n)) fi flies2_here)
    where
      as! : tally (flies st) slots ≡ suc (tally (flies st2) slots) → length (in_flight st) ≡ suc (tally (flies st2) slots)
      as! e = unfold in_flight in (tally_is ∙ e)
        where
          tally_is : length (keep (λ i. not (is_free st i)) slots) ≡ tally (flies st) slots
          tally_is = unfold tally in refl

  slot2 : (j : ℕ) → (j ≡ i → ⊥) → CarriedSlot st1 st2 j
  slot2 j n = record {
    same_stripe = stripe!;
    same_filled = sym (free_filled-other st1 ls1 i hi j n);
    same_landed = landed!;
    same_offsets = offs;
    same_entry = entry!;
    same_next = next!;
  }
    where
      stripe! : stripe_in st1 j ≡ stripe_in st2 j
      stripe! = unfold free_stripe stripe_in in refl

      landed! : landed_in st1 j ≡ landed_in st2 j
      landed! = unfold free_stripe landed_in in refl

      offs : (e : ℕ) → offset_in st1 j e ≡ offset_in st2 j e
      offs e = unfold free_stripe offset_in in refl

      entry! : (e : ℕ) → entry_in_of st1 j e ≡ entry_in_of st2 j e
      entry! e = unfold free_stripe entry_in_of stripe_in in refl

      next! : st1.next ≡ st2.next
      next! = unfold free_stripe in refl

  next2 : st2.next ≡ st.next
  next2 = go
    where
      go : st2.next ≡ st.next
      go = unfold free_stripe mark_landed in refl

  pub awaits_freed : completes p st i d ≡ true → (e : ℕ) → e < p.N → tally (awaits st2 (flies st2) e) slots ≡ tally (awaits st1 (flies st) e) slots
  awaits_freed q e he = tally_cong (awaits st2 (flies st2) e) (awaits st1 (flies st) e) slots (λ j m. go j (ℕ_discrete j i))
    where
      landed! : (j : ℕ) → landed_in st2 j ≡ landed_in st1 j
      landed! j = unfold free_stripe landed_in in refl

      go : (j : ℕ) → Dec (j ≡ i) → awaits st2 (flies st2) e j ≡ awaits st1 (flies st) e j
      go j (yes x) = subst (λ (m : ℕ). awaits st2 (flies st2) e m ≡ awaits st1 (flies st) e m) (sym x)
          (and_false_left (flies st2 i) (not (is_in (landed_in st2 i) e)) flies2_here ∙ sym (and_false_right (flies st i) (not (is_in (landed_in st1 i) e)) (ap not (all-landed q e he))))
      go j (no n) = ap₂ (λ (x : Bool) (y : ℕ). x && not (is_in y e)) (flies2 j n) (landed! j)

  pub freed_open : completes p st i d ≡ true → (st.next ≡ p.S → length (in_flight st) ≡ 1 → ⊥) → OpenZone p v1 st2 (flies st2) z
  freed_open q ns = record {
    opened_zone = chunk_there;
    has_header = chunk_open.has_header;
    count = λ e he. ap (λ (x : ℕ). pointer_at v1 e (zone_on z e) + x) (awaits_freed q e he) ∙ chunk_open.count e he ∙ ap suc (next1 ∙ sym next2);
    below_next = λ e x he y. subst (λ (m : ℕ). (spare_at p v1 e (zone_on z e) x).stripe < m) (next1 ∙ sym next2) (chunk_open.below_next e x he y);
    flight =
        λ j hj x. let n : j ≡ i
        → ⊥ = λ a. clash x (subst (λ (m : ℕ). flies st2 m ≡ false) (sym a) flies2_here) in flight_same p v1 st1 st2 z j (slot2 j n)
        (chunk_open.flight j hj (sym (flies2 j n) ∙ x));
    once = λ j k hj hk x y e.
        let n : j ≡ i → ⊥ = λ a. clash x (subst (λ (m : ℕ). flies st2 m ≡ false) (sym a) flies2_here) in
        let n2 : k ≡ i → ⊥ = λ a. clash y (subst (λ (m : ℕ). flies st2 m ≡ false) (sym a) flies2_here) in
        chunk_open.once j k hj hk (sym (flies2 j n) ∙ x) (sym (flies2 k n2) ∙ y) ((slot2 j n).same_stripe ∙ e ∙ sym (slot2 k n2).same_stripe);
    goes_on = λ x. some (tally (flies st2) slots) refl (sym next2 ∙ x);
  }
    where
      some : (n : ℕ) → tally (flies st2) slots ≡ n → st.next ≡ p.S → 0 < tally (flies st2) slots
      some zero e x = absurd (ns x (flights_fewer ∙ ap suc e))
      some (suc n) e x = subst (λ (m : ℕ). 0 < m) (sym e) (omega arith)

  pub freed_healthy : completes p st i d ≡ true → (st.next ≡ p.S → length (in_flight st) ≡ 1 → ⊥) → HealthyState p v1 st2
  freed_healthy q ns = record {
    tidy = subst (λ (x : ℕ). Tidy p v1 x) (sym serial2) chunk_tidy;
    sealed_but = λ y m. ⊎_elim (λ e. inl (opened2 ∙ ap (λ (x : Seg). header_serial p (header_at v1 0 x)) (sym e))) (λ w. inr w) (sealed1 y m);
    opens_at = λ x. (z, opened2, freed_open q ns);
    shut = λ x. absurd (serial_some p v1 s0 z chunk_tidy chunk_there (sym opened2 ∙ x));
    serial_fits = subst (λ (x : ℕ). x < 256 ^ 8) (sym serial2) h.serial_fits;
    stamp_fits = subst (λ (x : ℕ). x < 256 ^ 8) (sym stamp2) h.stamp_fits;
    lists = free_lists st1 ls1 i hi;
  }
    where
      serial2 : st2.serial.0 ≡ st.serial.0
      serial2 = unfold free_stripe mark_landed in refl

      stamp2 : st2.stamp.0 ≡ st.stamp.0
      stamp2 = unfold free_stripe mark_landed in refl

      opened2 : st2.opened ≡ header_serial p (header_at v1 0 z)
      opened2 = as! opened_mark
        where
          as! : st1.opened ≡ header_serial p (header_at v1 0 z) → st2.opened ≡ header_serial p (header_at v1 0 z)
          as! e = unfold free_stripe in e

  -- with the last stripe of the segment complete, every zone has its S chunks
  pub all-behind : completes p st i d ≡ true → st.next ≡ p.S → length (in_flight st) ≡ 1 → (e : ℕ) → e < p.N → pointer_at v1 e (zone_on z e) ≡ 1 + p.S
  all-behind q nx l e he =
      let f = flights_fewer in
      let t : tally (flies st2) slots ≡ 0 = omega arith in
      let a : tally (awaits st2 (flies st2) e) slots ≡ 0 =
      tally_none (awaits st2 (flies st2) e) slots
      (λ j m. and_false_left (flies st2 j) (not (is_in (landed_in st2 j) e)) (none_tally (flies st2) slots t j m)) in
      let b = awaits_freed q e he in
      let c = chunk_open.count e he in
      let n = next1 in
      omega arith

  pub last_flight : length (in_flight st) ≡ 1 → (j : ℕ) → j < 8 → flies st2 j ≡ false
  last_flight l j hj = none_tally (flies st2) slots (let f = flights_fewer in let t : tally (flies st2) slots ≡ 0 = omega arith in t) j (in_slots j hj)
