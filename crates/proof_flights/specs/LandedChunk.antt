-- A chunk lands: what its eighth says of the drives after it, and the parity of a stripe that it completes. Assumes nothing.
use Rattle.std.specs.Prelude.{◌≡◌, List, map, Bool, true, false, cond, ◌||◌, ◌⊎◌, ℕ, suc, ◌+◌, ◌-◌, ◌^◌, ◌≤◌, ◌<◌, ltb, eqb, length}
use Rattle.std.proofs.Math.Path.{refl, ap}
use Rattle.std.proofs.Common.{sym, ap₂, ◌∙◌, subst, inl, inr, ⊎_elim, le_of_eq, get_or-set_same, get_or-set_other}
use Rattle.std.proofs.Math.Bool.{not}
use Rattle.std.proofs.Math.Decide.{dec_lt, ℕ_discrete}
use native.Mathlib.Omega.{arith}
use borrow.Author.Tests.{le-leb, eq-eqb, ne_eqb}
use Rattle.std.proofs.Math.ListN.{get_or}
use Rattle.spec.specs.declared.Params.{Params}
use Rattle.spec.specs.declared.State.{State}
use Rattle.spec.specs.Drives.{Chunk, mk_chunk, no_chunk, Zone, View, zone_at, pointer_at, chunk_at, put_zone, store_view_of, zone_on, sealed_in, data_stored, record_in}
use Rattle.spec.specs.Drives.Store.{put}
use Rattle.spec.specs.Landing.{ready, completes, flight_rec}
use Rattle.spec.specs.Layout.{parity_drive, data_drive, data_position, is_data, parity_position, data_drives, Rec, record_bytes, record_of_of, header_serial}
use Rattle.spec.specs.Lists.{below, all, keep, is_in}
use Rattle.spec.specs.Memory.{stripe_in, filled_in_of, landed_in, is_write, entry_in_of, entries_in, offset_in, is_free, is_full, mark_landed, slot_block}
use Rattle.spec.specs.Params.{data_count, present}
use Rattle.spec.specs.Parity.{Piece, mk_piece, encode_block, encode_rec}
use Rattle.spec.specs.Segments.{Segment, segment_of, has_chunk, counts, stored_piece, header_at, open_segment}
use Rattle.law_basic.specs.Each.{each_map, each_below}
use Rattle.law_basic.specs.Geometry.{Ranged, parity_no_data, parity_drive_lt, position_drive, drive_is_data, position_lt}
use Rattle.law_basic.specs.Mask.{is_in_empty}
use Rattle.law_basic.specs.Ranges.{Test, test, and_right, map-map}
use Rattle.law_basic.specs.Ranges.Test.{yes!, no! }
use Rattle.law_code.specs.Chunks.{flight_data, flight_parity, flight_stripe}
use Rattle.law_code.specs.Code.{encode_low, encode_apart}
use Rattle.spec_demands.specs.Layouts.{ParityMade}
use Rattle.spec_demands.specs.Tables.{Pending}
use Rattle.law_drives.specs.Laid.{record_back}
use Rattle.law_drives.specs.Members.{in_all, map_cong}
use Rattle.law_drives.specs.Range.{capacity_over}
use Rattle.law_drives.specs.Segs.{data_low, low_data}
use Rattle.law_drives.specs.Spots.{counts_in}
use Rattle.law_drives.specs.States.{StateOk}
use Rattle.law_drives.specs.Tests.{or_true_left, cond_false, eqb_self}
use Rattle.law_drives.specs.Zones.{Shaped}
use Rattle.proof_tables.specs.Chunks.{cells_differ, pointer_some, pointer_data, chunk_zone, chunk_other, chunk_pointer, pointer_else, chunk_grows, mask_now, chunk_there, chunk_healthy}
use Rattle.proof_tables.specs.Chunks.{chunk_open, open_before, open_after, all-landed, uncounted_yet, landed_chunk, all-filled}
use Rattle.proof_tables.specs.Run.{flies, SlotFlies, OpenZone, HealthyState}
use Rattle.proof_tables.specs.Slots.{mark_landed-other, mark_offset, mark_offset_other}
use Rattle.proof_flights.specs.Flown.{pending_of, Flights}
use Rattle.proof_flights.specs.LandedPieces.{piece_parts, Extends, extends_piece, extends_back, data_drives_in, parity_grows}
use Rattle.proof_flights.specs.Pieces.{ParityAt}
use Rattle.spec.specs.declared.Seg.{Seg}
use Rattle.law_drives.specs.Gather.{present_in}
use Rattle.law_drives.specs.Settled.{its_zone}
use Rattle.law_drives.specs.Tidy.{There}
use Rattle.proof_tables.specs.Opened.{open_at, open_segment_is}

-- ---- one block stored

put_old : (b s : List ℕ) (q : Zone) (x : ℕ) → x < q.pointer → get_or (put_zone b s q).blocks x no_chunk ≡ get_or q.blocks x no_chunk
unfolding put_zone
put_old b s q x l = get_or-set_other q.blocks q.pointer x (mk_chunk b s) no_chunk (λ e. let bad : ⊥ = omega arith in bad)

put_new : (b s : List ℕ) (q : Zone) → q.pointer < length q.blocks → get_or (put_zone b s q).blocks q.pointer no_chunk ≡ mk_chunk b s
unfolding put_zone
put_new b s q l = get_or-set_same q.blocks q.pointer (mk_chunk b s) no_chunk l

put-below : (p : Params) (q w : Zone) (x : ℕ) → w.pointer ≡ suc q.pointer → 1 ≤ q.pointer → (x ≡ q.pointer - 1 → ⊥) → x < data_stored p w → x < data_stored p q
put-below p q w x e l n y = let (a, c) = data_low p w x y in low_data p q x a (go c (dec_lt (1 + x) q.pointer))
  where
    go : 1 + x < w.pointer → Dec (1 + x < q.pointer) → 1 + x < q.pointer
    go c (yes m) = m
    go c (no m) = absurd (n (let k : x ≡ q.pointer - 1 = omega arith in k))

-- ---- records in flight

module _ (p : Params) (r : Ranged p) (v : View) (st : State) (z : Seg) (i : ℕ) (f : SlotFlies p v st z i) (full : filled_in_of st i ≡ data_count p) (so : stripe_in st i < p.S) where
  abbrev Low : Rec → Type 0
  Low x = (x.address < 256 ^ 8) × (x.stamp < 256 ^ 8)

  flight_parity-low : (k : ℕ) → Low (encode_rec k (stripe_in st i) (entries_in st i))
  unfolding entries_in
  flight_parity-low k = encode_low k (stripe_in st i) (map (entry_in_of st i) (below (filled_in_of st i)))
      (each_map Low (entry_in_of st i) (below (filled_in_of st i)) (each_below (λ n. Low (entry_in_of st i n)) (filled_in_of st i) f.entries_low))

  flight_low : (e : ℕ) → e < p.N → Low (flight_rec p st i e)
  flight_low e he = go (test (is_data p (stripe_in st i) e))
    where
      go : Test (is_data p (stripe_in st i) e) → Low (flight_rec p st i e)
      go (yes! q) = subst (λ (x : Rec). Low x) (sym (flight_data p st i e q))
          (f.entries_low (data_position p (stripe_in st i) e) (subst (λ (x : ℕ). data_position p (stripe_in st i) e < x) (sym full) (position_lt p (stripe_in st i) e q he)))
      go (no! q) = subst (λ (x : Rec). Low x) (sym (flight_parity p st i e q)) (flight_parity-low (parity_position p (stripe_in st i) e))

  -- stored and read back it is the same
  pub flight_back : (e : ℕ) → e < p.N → record_of_of (record_bytes (flight_rec p st i e)) ≡ flight_rec p st i e
  flight_back e he =
      let (a, t) = flight_low e he in
      record_back (flight_rec p st i e) a t (subst (λ (x : ℕ). x < 256 ^ 4) (sym (flight_stripe p st i e)) (let h = r.stripes_high in omega arith))

  -- the records of the data drives are the entries
  pub flight_entries : map (flight_rec p st i) (data_drives p (stripe_in st i)) ≡ entries_in st i
  flight_entries = as! (map-map (flight_rec p st i) (data_drive p (stripe_in st i)) (below (data_count p))
      ∙ map_cong (λ k. flight_rec p st i (data_drive p (stripe_in st i) k)) (entry_in_of st i) (below (data_count p)) (λ k m.
      flight_data p st i (data_drive p (stripe_in st i) k) (drive_is_data p (stripe_in st i) k) ∙ ap (entry_in_of st i) (position_drive p (stripe_in st i) k))
      ∙ ap (λ (n : ℕ). map (entry_in_of st i) (below n)) (sym full))
    where
      as! : map (flight_rec p st i) (map (data_drive p (stripe_in st i)) (below (data_count p))) ≡ map (entry_in_of st i) (below (filled_in_of st i))
          → map (flight_rec p st i) (data_drives p (stripe_in st i)) ≡ entries_in st i
      as! e = unfold data_drives entries_in in e

-- ---- the chunk

module _ (p : Params) (r : Ranged p) (v : View) (sh : Shaped p v) (st : State) (h : HealthyState p v st) (so : StateOk p st)
    (hz : There p v (open_segment p v st)) (oz : st.opened ≡ header_serial p (header_at v 0 (open_segment p v st)))
    (d i : ℕ) (hd : d < p.N) (hi : i < 8) (fi : flies st i ≡ true) (rd : ready p st i d ≡ true) (fl : List ℕ) (lb : length (slot_block p fl i d) ≡ p.B) where
  abbrev z : Seg
  z = open_segment p v st

  abbrev s : ℕ
  s = stripe_in st i

  abbrev b : List ℕ
  b = slot_block p fl i d

  abbrev v1 : View
  v1 = store_view_of (put d (zone_on z d) b (record_bytes (flight_rec p st i d))) v

  abbrev o : ℕ
  o = pointer_at v d (zone_on z d) - 1

  abbrev st1 : State
  st1 = mark_landed st i d o

  abbrev seg0 : Segment
  seg0 = segment_of p v 0 z

  abbrev seg1 : Segment
  seg1 = segment_of p v1 0 z

  d8 : d < 8
  d8 = omega (arith, r.drives_high)

  -- a chunk below the pointer stays
  chunk_kept : (e x : ℕ) → e < p.N → x < pointer_at v e (zone_on z e) → get_or (zone_at v1 e (zone_on z e)).blocks x no_chunk ≡ get_or (zone_at v e (zone_on z e)).blocks x no_chunk
  chunk_kept e x he l = go (ℕ_discrete d e)
    where
      as! : x < pointer_at v d (zone_on z d) → x < (zone_at v d (zone_on z d)).pointer
      as! m = unfold pointer_at in m

      go : Dec (d ≡ e) → get_or (zone_at v1 e (zone_on z e)).blocks x no_chunk ≡ get_or (zone_at v e (zone_on z e)).blocks x no_chunk
      go (yes q) = subst (λ (y : ℕ). get_or (zone_at v1 y (zone_on z y)).blocks x no_chunk ≡ get_or (zone_at v y (zone_on z y)).blocks x no_chunk) q
          (ap (λ (y : Zone). get_or y.blocks x no_chunk) (chunk_zone p r v sh st h so z hz oz d i hd hi fi rd b lb)
          ∙ put_old b (record_bytes (flight_rec p st i d)) (zone_at v d (zone_on z d)) x (as! (subst (λ (y : ℕ). x < pointer_at v y (zone_on z y)) (sym q) l)))
      go (no n) = ap (λ (y : Zone). get_or y.blocks x no_chunk) (chunk_other p r v sh st h so z hz oz d i hd hi fi rd b lb e (zone_on z e) he (its_zone p r v z hz e he).zone_low (inl n))

  -- the new one
  chunk_new : get_or (zone_at v1 d (zone_on z d)).blocks (1 + o) no_chunk ≡ mk_chunk b (record_bytes (flight_rec p st i d))
  chunk_new =
      let a = pointer_some p r v sh st h so z hz oz d i hd hi fi rd b lb in
      let c = pointer_data p r v sh st h so z hz oz d i hd hi fi rd b lb in
      let e : 1 + o ≡ pointer_at v d (zone_on z d) = omega arith in
      ap (λ (n : ℕ). get_or (zone_at v1 d (zone_on z d)).blocks n no_chunk) (e ∙ at!)
      ∙ ap (λ (y : Zone). get_or y.blocks (zone_at v d (zone_on z d)).pointer no_chunk) (chunk_zone p r v sh st h so z hz oz d i hd hi fi rd b lb)
      ∙ put_new b (record_bytes (flight_rec p st i d)) (zone_at v d (zone_on z d))
      (subst (λ (n : ℕ). (zone_at v d (zone_on z d)).pointer < n) (sym (sh.zone_ok d (zone_on z d) hd (its_zone p r v z hz d hd).zone_low).blocks_long)
      (let k = capacity_over p r in let f = at! in omega arith))
    where
      at! : pointer_at v d (zone_on z d) ≡ (zone_at v d (zone_on z d)).pointer
      at! = unfold pointer_at in refl

  -- ---- the eighths

  pub flies1 : (j : ℕ) → flies st1 j ≡ flies st j
  flies1 j = unfold is_free filled_in_of mark_landed in refl

  rec1 : (j e : ℕ) → flight_rec p st1 j e ≡ flight_rec p st j e
  rec1 j e = unfold flight_rec entries_in entry_in_of stripe_in filled_in_of mark_landed in refl

  full1 : (j : ℕ) → is_full p st1 j ≡ is_full p st j
  full1 j = unfold is_full filled_in_of mark_landed in refl

  pub stripe1 : (j : ℕ) → stripe_in st1 j ≡ stripe_in st j
  stripe1 j = unfold stripe_in mark_landed in refl

  open1 : open_segment p v1 st1 ≡ z
  open1 = open_segment_is p r v1 st1 (chunk_healthy p r v sh st h so z hz oz d i hd hi fi rd b lb) z (chunk_there p r v sh st h so z hz oz d i hd hi fi rd b lb)
      (same! ∙ oz ∙ ap (header_serial p) ((chunk_grows p r v sh st h so z hz oz d i hd hi fi rd b lb).same_head 0 (omega (arith, r.drives_low))))
    where
      same! : st1.opened ≡ st.opened
      same! = unfold mark_landed in refl

  -- landed now: the new one, or landed before
  landed_or : (j e : ℕ) → e < p.N → is_in (landed_in st1 j) e ≡ true
      → ((j ≡ i) × (e ≡ d)) ⊎ (((j ≡ i → ⊥) ⊎ (e ≡ d → ⊥)) × (is_in (landed_in st j) e ≡ true))
  landed_or j e he q = go (ℕ_discrete j i) (ℕ_discrete e d)
    where
      go : Dec (j ≡ i) → Dec (e ≡ d) → ((j ≡ i) × (e ≡ d)) ⊎ (((j ≡ i → ⊥) ⊎ (e ≡ d → ⊥)) × (is_in (landed_in st j) e ≡ true))
      go (no n) y = inr (inl n, ap (λ (m : ℕ). is_in m e) (sym (mark_landed-other st h.lists i hi d o d8 j n)) ∙ q)
      go (yes x) (yes y) = inl (x, y)
      go (yes x) (no n) = inr (
        inr n,
        ap (λ (m : ℕ). is_in (landed_in st m) e) x
            ∙ sym (mask_now p r v sh st h so z hz oz d i hd hi fi rd b lb e he ∙ ap (λ (t : Bool). t || is_in (landed_in st i) e) (ne_eqb e d n))
            ∙ ap (λ (m : ℕ). is_in (landed_in st1 m) e) (sym x) ∙ q,
      )

  module _ (ws : List Pending) (F : Flights p v st fl ws) where
    landed! : (j e : ℕ) → j < 8 → flies st j ≡ true → e < p.N → is_in (landed_in st1 j) e ≡ true
        → get_or (zone_at v1 e (zone_on z e)).blocks (1 + offset_in st1 j e) no_chunk ≡ mk_chunk (slot_block p fl j e) (record_bytes (flight_rec p st j e))
    landed! j e hj fj he q = ⊎_elim here! (λ x. there! x.0 x.1) (landed_or j e he q)
      where
        here! : (j ≡ i) × (e ≡ d) → get_or (zone_at v1 e (zone_on z e)).blocks (1 + offset_in st1 j e) no_chunk ≡ mk_chunk (slot_block p fl j e) (record_bytes (flight_rec p st j e))
        here! (x, y) =
            (λ k. get_or (zone_at v1 (y k) (zone_on z (y k))).blocks (1 + offset_in st1 (x k) (y k)) no_chunk)
            ∙ ap (λ (n : ℕ). get_or (zone_at v1 d (zone_on z d)).blocks (1 + n) no_chunk) (mark_offset st h.lists i hi d o d8) ∙ chunk_new
            ∙ (λ k. mk_chunk (slot_block p fl (sym x k) (sym y k)) (record_bytes (flight_rec p st (sym x k) (sym y k))))

        before! : is_in (landed_in st j) e ≡ true
            → get_or (zone_at v e (zone_on z e)).blocks (1 + offset_in st j e) no_chunk ≡ mk_chunk (slot_block p fl j e) (record_bytes (flight_rec p st j e))
        before! y = as! (F.landed_is j e hj fj he y)
          where
            as! : chunk_at v e (zone_on (open_segment p v st) e) (1 + offset_in st j e) ≡ mk_chunk (slot_block p fl j e) (record_bytes (flight_rec p st j e))
                → get_or (zone_at v e (zone_on z e)).blocks (1 + offset_in st j e) no_chunk ≡ mk_chunk (slot_block p fl j e) (record_bytes (flight_rec p st j e))
            as! x = unfold chunk_at in x

        there! : (j ≡ i → ⊥) ⊎ (e ≡ d → ⊥) → is_in (landed_in st j) e ≡ true
            → get_or (zone_at v1 e (zone_on z e)).blocks (1 + offset_in st1 j e) no_chunk ≡ mk_chunk (slot_block p fl j e) (record_bytes (flight_rec p st j e))
        there! n y =
            let e8 : e < 8 = omega (arith, r.drives_high) in
            ap (λ (m : ℕ). get_or (zone_at v1 e (zone_on z e)).blocks (1 + m) no_chunk) (mark_offset_other st h.lists i hi d o d8 j e (cells_differ i j d e d8 e8 n))
            ∙ chunk_kept e (1 + offset_in st j e) he (((open_at p r v st h z hz oz).flight j hj fj).lands e he y).lies ∙ before! y

    -- what is known of the flights after the chunk
    pub chunk_flights : Flights p v1 st1 fl ws
    chunk_flights = record {
      landed_is = λ j e hj fj he q. at! j e (landed! j e hj (sym (flies1 j) ∙ fj) he q);
      parity_full = λ j hj fj q. full1 j ∙ full! j hj (sym (flies1 j) ∙ fj) (ap (λ (x : ℕ). is_in (landed_in st1 j) (parity_drive p x)) (sym (stripe1 j)) ∙ q);
      parity-ready = λ j hj fj q. ready! j (F.parity-ready j hj (sym (flies1 j) ∙ fj) (sym (full1 j) ∙ q));
      pending_is = λ j hj fj. pending! j (F.pending_is j hj (sym (flies1 j) ∙ fj));
      writes_low = λ j k hj fj l hk. writes! j k (F.writes_low j k hj (sym (flies1 j) ∙ fj) (low! j k l) hk);
      pending_flies = λ n hn. let (j, hj, fj, e) = F.pending_flies n hn in (j, hj, flies1 j ∙ fj, stripe1 j ∙ e);
    }
      where
        at! : (j e : ℕ) → get_or (zone_at v1 e (zone_on z e)).blocks (1 + offset_in st1 j e) no_chunk ≡ mk_chunk (slot_block p fl j e) (record_bytes (flight_rec p st j e))
            → chunk_at v1 e (zone_on (open_segment p v1 st1) e) (1 + offset_in st1 j e) ≡ mk_chunk (slot_block p fl j e) (record_bytes (flight_rec p st1 j e))
        at! j e x = unfold chunk_at in
            (ap (λ (n : Seg). get_or (zone_at v1 e (zone_on n e)).blocks (1 + offset_in st1 j e) no_chunk) open1 ∙ x
            ∙ ap (λ (y : Rec). mk_chunk (slot_block p fl j e) (record_bytes y)) (sym (rec1 j e)))

        ready! : (j : ℕ) → slot_block p fl j (parity_drive p (stripe_in st j)) ≡ encode_block p.B 0 (map (slot_block p fl j) (data_drives p (stripe_in st j)))
            → slot_block p fl j (parity_drive p (stripe_in st1 j)) ≡ encode_block p.B 0 (map (slot_block p fl j) (data_drives p (stripe_in st1 j)))
        ready! j x = unfold stripe_in mark_landed in x

        pending! : (j : ℕ) → keep (λ (w : Pending). eqb w.stripe (stripe_in st j)) ws ≡ map (pending_of p st fl j) (keep (is_write st j) (below (filled_in_of st j)))
            → keep (λ (w : Pending). eqb w.stripe (stripe_in st1 j)) ws ≡ map (pending_of p st1 fl j) (keep (is_write st1 j) (below (filled_in_of st1 j)))
        pending! j x = unfold pending_of stripe_in is_write filled_in_of entry_in_of mark_landed in x

        low! : (j k : ℕ) → filled_in_of st1 j ≤ k → filled_in_of st j ≤ k
        low! j k l = unfold filled_in_of mark_landed in l

        writes! : (j k : ℕ) → is_write st j k ≡ false → is_write st1 j k ≡ false
        writes! j k x = unfold is_write mark_landed in x

        -- parity lands when the stripe is full
        by_ready : is_data p s d ≡ false → ready p st i d ≡ true → is_full p st i ≡ true
        by_ready q x = unfold ready in
            (sym (cond_false (is_data p s d) (ltb (data_position p s d) (filled_in_of st i)) (is_full p st i) q)
            ∙ and_right (not (is_in (landed_in st i) d)) (cond (is_data p s d) (ltb (data_position p s d) (filled_in_of st i)) (is_full p st i)) x)

        no_data : (x : ℕ) → parity_drive p s ≡ x → is_data p s x ≡ false
        no_data x e = unfold is_data in ap not (eq-eqb x (parity_drive p s) (sym e))

        full! : (j : ℕ) → j < 8 → flies st j ≡ true → is_in (landed_in st1 j) (parity_drive p (stripe_in st j)) ≡ true → is_full p st j ≡ true
        full! j hj fj q = ⊎_elim
            (λ x. ap (is_full p st) x.0 ∙ by_ready (no_data d (ap (λ (n : ℕ). parity_drive p (stripe_in st n)) (sym x.0) ∙ x.1)) rd)
            (λ x. F.parity_full j hj fj x.1) (landed_or j (parity_drive p (stripe_in st j)) (parity_drive_lt p (stripe_in st j) (omega (arith, r.drives_low))) q)

    -- ---- the parity of the stripe that is complete

    made_now : completes p st i d ≡ true → ParityAt p seg1 s
    made_now q =
        piece (parity_drive p s) (parity_drive_lt p s (omega (arith, r.drives_low)))
        ∙ ap₂ mk_piece (F.parity-ready i hi fi full!) (flight_parity p st i (parity_drive p s) (parity_no_data p s) ∙ first)
        ∙ sym (encode_apart p 0 s (stored_piece seg1 s) (data_drives p s)
        ∙ ap₂ (λ (x : List (List ℕ)) (y : List Rec). mk_piece (encode_block p.B 0 x) (encode_rec 0 s y))
        (map_cong (λ e. (stored_piece seg1 s e).block) (slot_block p fl i) (data_drives p s) (λ e m. ap (λ (y : Piece). y.block) (piece e (data_drives_in p s e m))))
        (map_cong (λ e. (stored_piece seg1 s e).rec) (flight_rec p st i) (data_drives p s) (λ e m. ap (λ (y : Piece). y.rec) (piece e (data_drives_in p s e m)))
        ∙ flight_entries p r v st z i f0 filled s_low))
      where
        f0 : SlotFlies p v st z i
        f0 = (open_at p r v st h z hz oz).flight i hi fi

        filled : filled_in_of st i ≡ data_count p
        filled = as! (all-filled p r v sh st h so z hz oz d i hd hi fi rd b lb q)
          where
            as! : filled_in_of st1 i ≡ data_count p → filled_in_of st i ≡ data_count p
            as! e = unfold filled_in_of mark_landed in e

        s_low : s < p.S
        s_low = (so.slots_ok i hi).stripe_ok

        full! : is_full p st i ≡ true
        full! = unfold is_full in le-leb (data_count p) (filled_in_of st i) (le_of_eq (sym filled))

        first : encode_rec (parity_position p s (parity_drive p s)) s (entries_in st i) ≡ encode_rec 0 s (entries_in st i)
        first = unfold parity_position in refl

        spare! : (e x : ℕ) → record_in p false (zone_at v1 e (zone_on z e)) x ≡ record_of_of (get_or (zone_at v1 e (zone_on z e)).blocks (1 + x) no_chunk).spare
        spare! e x = unfold record_in in refl

        piece : (e : ℕ) → e < p.N → stored_piece seg1 s e ≡ mk_piece (slot_block p fl i e) (flight_rec p st i e)
        piece e he =
            let on = all-landed p r v sh st h so z hz oz d i hd hi fi rd b lb q e he in
            let (c, (eo, er)) = landed_chunk p r v sh st h so z hz oz d i hd hi fi rd b lb e he on in
            let ch = landed! i e hi fi he on in
            piece_parts p v1 0 z s e he
            ∙ ap₂ mk_piece (ap (λ (n : ℕ). (get_or (zone_at v1 e (zone_on z e)).blocks (1 + n) no_chunk).block) eo ∙ ap (λ (y : Chunk). y.block) ch)
            (er ∙ spare! e (offset_in st1 i e) ∙ ap (λ (y : Chunk). record_of_of y.spare) ch ∙ flight_back p r v st z i f0 filled s_low e he)

    -- ---- every counted stripe after the chunk

    chunk_extends : (e : ℕ) → e < p.N → Extends p 0 v v1 z e
    chunk_extends e he = record {
      more = more! (pointers e he);
      same_record = λ x l.
          ap (λ (t : Bool). record_in p t (zone_at v1 e (zone_on z e)) x) (open_after p r v sh st h so z hz oz d i hd hi fi rd b lb)
          ∙ spare! x (ap (λ (c : Chunk). record_of_of c.spare) (chunk_kept e (1 + x) he (lies x l)))
          ∙ ap (λ (t : Bool). record_in p t (zone_at v e (zone_on z e)) x) (sym (open_before p r v sh st h so z hz oz d i hd hi fi rd b lb));
      same_block = λ x l. ap (λ (c : Chunk). c.block) (chunk_kept e (1 + x) he (lies x l));
    }
      where
        pointers : (e : ℕ) → e < p.N → pointer_at v e (zone_on z e) ≤ pointer_at v1 e (zone_on z e)
        pointers e he = go (ℕ_discrete d e)
          where
            go : Dec (d ≡ e) → pointer_at v e (zone_on z e) ≤ pointer_at v1 e (zone_on z e)
            go (yes q) = subst (λ (x : ℕ). pointer_at v x (zone_on z x) ≤ pointer_at v1 x (zone_on z x)) q (let a = chunk_pointer p r v sh st h so z hz oz d i hd hi fi rd b lb in omega arith)
            go (no n) = le_of_eq (sym (pointer_else p r v sh st h so z hz oz d i hd hi fi rd b lb e he n))

        more! : pointer_at v e (zone_on z e) ≤ pointer_at v1 e (zone_on z e) → data_stored p (zone_at v e (zone_on z e)) ≤ data_stored p (zone_at v1 e (zone_on z e))
        more! l = unfold pointer_at data_stored in omega arith

        lies : (x : ℕ) → x < data_stored p (zone_at v e (zone_on z e)) → 1 + x < pointer_at v e (zone_on z e)
        lies x l = unfold pointer_at in (data_low p (zone_at v e (zone_on z e)) x l).1

        spare! : (x : ℕ) → record_of_of (get_or (zone_at v1 e (zone_on z e)).blocks (1 + x) no_chunk).spare ≡ record_of_of (get_or (zone_at v e (zone_on z e)).blocks (1 + x) no_chunk).spare
            → record_in p false (zone_at v1 e (zone_on z e)) x ≡ record_in p false (zone_at v e (zone_on z e)) x
        spare! x q = unfold record_in in q

    -- a chunk on drive e that is not of this stripe was there
    was_there : (t : ℕ) → (t ≡ s → ⊥) → (e : ℕ) → e < p.N → (x : ℕ) → x < data_stored p (zone_at v1 e (zone_on z e))
        → (record_in p (sealed_in p v1 0 z) (zone_at v1 e (zone_on z e)) x).stripe ≡ t → x < data_stored p (zone_at v e (zone_on z e))
    was_there t n e he x l q = go (ℕ_discrete d e)
      where
        op : OpenZone p v1 st1 (flies st) z
        op = chunk_open p r v sh st h so z hz oz d i hd hi fi rd b lb

        on : is_in (landed_in st1 i) d ≡ true
        on = mask_now p r v sh st h so z hz oz d i hd hi fi rd b lb d hd ∙ or_true_left (eqb d d) (is_in (landed_in st i) d) (eqb_self d)

        new_stripe : (record_in p (sealed_in p v1 0 z) (zone_at v1 d (zone_on z d)) o).stripe ≡ s
        new_stripe =
            ap (λ (w : Bool). (record_in p w (zone_at v1 d (zone_on z d)) o).stripe) (open_after p r v sh st h so z hz oz d i hd hi fi rd b lb)
            ∙ ap (λ (y : ℕ). (record_in p false (zone_at v1 d (zone_on z d)) y).stripe) (sym (mark_offset st h.lists i hi d o d8)) ∙ ((op.flight i hi fi).lands d hd on).of_stripe ∙ stripe1 i

        other : (x ≡ o → ⊥) → pointer_at v1 d (zone_on z d) ≡ suc (pointer_at v d (zone_on z d)) → 1 ≤ pointer_at v d (zone_on z d) → x < data_stored p (zone_at v1 d (zone_on z d))
            → x < data_stored p (zone_at v d (zone_on z d))
        other ne a c y = unfold pointer_at in put-below p (zone_at v d (zone_on z d)) (zone_at v1 d (zone_on z d)) x a c ne y

        here! : x < data_stored p (zone_at v1 d (zone_on z d)) → (record_in p (sealed_in p v1 0 z) (zone_at v1 d (zone_on z d)) x).stripe ≡ t → Dec (x ≡ o)
            → x < data_stored p (zone_at v d (zone_on z d))
        here! y w (yes a) = absurd (n (sym w ∙ ap (λ (m : ℕ). (record_in p (sealed_in p v1 0 z) (zone_at v1 d (zone_on z d)) m).stripe) a ∙ new_stripe))
        here! y w (no a) = other a (chunk_pointer p r v sh st h so z hz oz d i hd hi fi rd b lb) (pointer_some p r v sh st h so z hz oz d i hd hi fi rd b lb) y

        go : Dec (d ≡ e) → x < data_stored p (zone_at v e (zone_on z e))
        go (no a) = subst (λ (y : Zone). x < data_stored p y) (chunk_other p r v sh st h so z hz oz d i hd hi fi rd b lb e (zone_on z e) he (its_zone p r v z hz e he).zone_low (inl a)) l
        go (yes a) = subst (λ (m : ℕ). x < data_stored p (zone_at v m (zone_on z m))) a
            (here! (subst (λ (m : ℕ). x < data_stored p (zone_at v1 m (zone_on z m))) (sym a) l)
            (subst (λ (m : ℕ). (record_in p (sealed_in p v1 0 z) (zone_at v1 m (zone_on z m)) x).stripe ≡ t) (sym a) q) (ℕ_discrete x o))

    pub chunk_parities : (old : List Segment) → ParityMade p v 0 old → ParityMade p v1 0 old
    chunk_parities old pm = parity_grows p r v v1 z (chunk_grows p r v sh st h so z hz oz d i hd hi fi rd b lb) st.serial.0 h.tidy old pm
        (λ t ht c. go t c (ℕ_discrete t s) (test (completes p st i d)))
      where
        go : (t : ℕ) → counts p 0 seg1 t ≡ true → Dec (t ≡ s) → Test (completes p st i d)
            → ((counts p 0 seg0 t ≡ true) × ((e : ℕ) → e < p.N → stored_piece seg0 t e ≡ stored_piece seg1 t e)) ⊎ ParityAt p seg1 t
        go t c (yes e) (no! q) = absurd (uncounted_yet p r v sh st h so z hz oz d i hd hi fi rd b lb q (subst (λ (x : ℕ). counts p 0 seg1 x ≡ true) e c))
        go t c (yes e) (yes! q) = inr (subst (λ (x : ℕ). ParityAt p seg1 x) (sym e) (made_now q))
        go t c (no n) y = inl (
          as! (in_all (has_chunk seg0 t) (present p 0) (λ e m. had e (present_in p 0 e m).0)),
          λ e he. extends_piece p 0 v v1 z e he (is_in_empty e) (chunk_extends e he) t (had e he),
        )
          where
            had : (e : ℕ) → e < p.N → has_chunk seg0 t e ≡ true
            had e he = extends_back p 0 v v1 z e he (is_in_empty e) (chunk_extends e he) t (was_there t n e he) (counts_in p 0 seg1 t e c he (is_in_empty e))

            as! : all (has_chunk seg0 t) (present p 0) ≡ true → counts p 0 seg0 t ≡ true
            as! a = unfold counts in a
