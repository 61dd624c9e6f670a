-- After a landing: the eighth of a complete stripe is freed, and its writes wait no longer; a full segment is sealed, and its pieces stay. Assumes nothing.
use Rattle.std.specs.Prelude.{◌≡◌, Bool, true, false, not, ◌&&◌, eqb, length, get_or}
use Rattle.std.proofs.Math.Path.{refl, ap}
use Rattle.std.proofs.Common.{sym, ◌∙◌, subst, inl, le_of_eq, eqb-true, ne_eqb}
use mathlib.Core.List.{List, [], map}
use Rattle.std.proofs.Math.Bool.{cond}
use Prim.Native.Nat.{ℕ, ◌+◌, ◌-◌, min, ◌≤◌, ◌<◌}
use native.Mathlib.Omega.{arith}
use Rattle.std.proofs.lemmas.Bool.{eqb-false, not-true}
use Rattle.spec.specs.declared.Params.{Params}
use Rattle.spec.specs.declared.State.{State}
use Rattle.spec.specs.Drives.{Chunk, mk_chunk, no_chunk, Zone, View, zone_at, pointer_at, chunk_at, store_view_of, store_all, zone_on, sealed_in, data_stored}
use Rattle.spec.specs.Landing.{flight_rec, seal_stores}
use Rattle.spec.specs.Layout.{parity_drive, data_position, is_data, parity_position, data_drives, Rec, mk_rec, record_bytes}
use Rattle.spec.specs.Lists.{below, keep, is_in}
use Rattle.spec.specs.Memory.{stripe_in, filled_in_of, landed_in, is_write, entry_in_of, entries_in, offset_in, is_free, is_full, free_stripe, slot_block}
use Rattle.spec.specs.Params.{footers}
use Rattle.spec.specs.Parity.{encode_block, encode_rec}
use Rattle.spec.specs.Segments.{Segment, segment_of, counts, open_segment, open_segments}
use Rattle.law_basic.specs.Geometry.{Ranged}
use Rattle.law_basic.specs.Mask.{is_in_empty}
use Rattle.law_basic.specs.Ranges.{Test, test}
use Rattle.law_basic.specs.Ranges.Test.{yes!, no! }
use Rattle.spec_demands.specs.Layouts.{ParityMade}
use Rattle.spec_demands.specs.Tables.{Pending, no_pending}
use Rattle.law_drives.specs.Footers.{footer_chunks}
use Rattle.law_drives.specs.Members.{In, keep_in, keep_all, keep-nil_in, keep-keep, keep_cong, in_get_d, get_d_in}
use Rattle.law_drives.specs.Puts.{puts_old}
use Rattle.law_drives.specs.Range.{capacity_over}
use Rattle.law_drives.specs.Segs.{record_at_lem}
use Rattle.law_drives.specs.Spots.{counts_in}
use Rattle.law_drives.specs.Tests.{clash, and_false_left}
use Rattle.law_drives.specs.Tidy.{Tidy, There}
use Rattle.law_drives.specs.Zones.{Shaped}
use Rattle.proof_tables.specs.Run.{flies, Lists}
use Rattle.proof_tables.specs.Sealing.{seal_zone, seal_pointer, seal_grows, seal_records}
use Rattle.proof_tables.specs.Slots.{filled_freed, free_filled-other, none_flies}
use Rattle.proof_flights.specs.Flown.{pending_of, Flights}
use Rattle.proof_flights.specs.LandedPieces.{Extends, extends_counts, extends_piece, extends_sym, parity_grows}
use Rattle.spec.specs.declared.Seg.{Seg}

-- ---- an eighth is freed

-- the writes of other stripes
unfoldable pub elsewhere : ℕ → List Pending → List Pending
elsewhere s ws = keep (λ (w : Pending). not (eqb w.stripe s)) ws

pub elsewhere_in : (s : ℕ) (ws : List Pending) (w : Pending) → In w (elsewhere s ws) → In w ws × (w.stripe ≡ s → ⊥)
unfolding elsewhere
elsewhere_in s ws w m =
    let (i, q) = keep_in (λ (w : Pending). not (eqb w.stripe s)) ws w m in
    (i, eqb-false w.stripe s (not-true (eqb w.stripe s) q))

-- with none of the stripe they are all
pub elsewhere-all : (s : ℕ) (ws : List Pending) → keep (λ (w : Pending). eqb w.stripe s) ws ≡ [] → elsewhere s ws ≡ ws
unfolding elsewhere
elsewhere-all s ws e = keep_all (λ (w : Pending). not (eqb w.stripe s)) ws (λ w m. ap not (keep-nil_in (λ (w : Pending). eqb w.stripe s) ws e w m))

-- of another stripe they are the same
pub elsewhere_of : (s t : ℕ) (ws : List Pending) → (t ≡ s → ⊥) → keep (λ (w : Pending). eqb w.stripe t) (elsewhere s ws) ≡ keep (λ (w : Pending). eqb w.stripe t) ws
unfolding elsewhere
elsewhere_of s t ws n =
    keep-keep (λ (w : Pending). eqb w.stripe t) (λ (w : Pending). not (eqb w.stripe s)) ws
    ∙ keep_cong (λ (w : Pending). not (eqb w.stripe s) && eqb w.stripe t) (λ (w : Pending). eqb w.stripe t) ws (λ w m. go w (test (eqb w.stripe s)))
  where
    go : (w : Pending) → Test (eqb w.stripe s) → not (eqb w.stripe s) && eqb w.stripe t ≡ eqb w.stripe t
    go w (no! q) = ap (λ (b : Bool). not b && eqb w.stripe t) q
    go w (yes! q) = and_false_left (not (eqb w.stripe s)) (eqb w.stripe t) (ap not q)
        ∙ sym (ne_eqb w.stripe t (λ e. n (sym e ∙ eqb-true w.stripe s q)))

module _ (p : Params) (v : View) (st : State) (ls : Lists st) (i : ℕ) (hi : i < 8) (fi : flies st i ≡ true)
    (once : (j : ℕ) → j < 8 → flies st j ≡ true → stripe_in st j ≡ stripe_in st i → j ≡ i) (fl : List ℕ) (ws : List Pending) (F : Flights p v st fl ws) where
  abbrev st2 : State
  st2 = free_stripe st i

  not_here : (j : ℕ) → flies st2 j ≡ true → j ≡ i → ⊥
  not_here j f e = clash (subst (λ (x : ℕ). flies st2 x ≡ true) e f) (none_flies st2 i (filled_freed st ls i hi))

  filled2 : (j : ℕ) → (j ≡ i → ⊥) → filled_in_of st2 j ≡ filled_in_of st j
  filled2 j n = free_filled-other st ls i hi j n

  freed_flies : (j : ℕ) → (j ≡ i → ⊥) → flies st2 j ≡ flies st j
  freed_flies j n = as! (ap (λ (x : ℕ). not (eqb x 0)) (filled2 j n))
    where
      as! : not (eqb (filled_in_of st2 j) 0) ≡ not (eqb (filled_in_of st j) 0) → flies st2 j ≡ flies st j
      as! e = unfold is_free in e

  stripe2 : (j : ℕ) → stripe_in st2 j ≡ stripe_in st j
  stripe2 j = unfold stripe_in free_stripe in refl

  full2 : (j : ℕ) → (j ≡ i → ⊥) → is_full p st2 j ≡ is_full p st j
  full2 j n = as! (filled2 j n)
    where
      as! : filled_in_of st2 j ≡ filled_in_of st j → is_full p st2 j ≡ is_full p st j
      as! e = unfold is_full in rw e

  rec2 : (j e : ℕ) → (j ≡ i → ⊥) → flight_rec p st2 j e ≡ flight_rec p st j e
  rec2 j e n = as! (filled2 j n)
    where
      entries! : filled_in_of st2 j ≡ filled_in_of st j → entries_in st2 j ≡ entries_in st j
      entries! x = unfold entries_in in (ap (λ (n : ℕ). map (entry_in_of st2 j) (below n)) x ∙ same)
        where
          same : map (entry_in_of st2 j) (below (filled_in_of st j)) ≡ map (entry_in_of st j) (below (filled_in_of st j))
          same = unfold entry_in_of stripe_in free_stripe in refl

      as! : filled_in_of st2 j ≡ filled_in_of st j → flight_rec p st2 j e ≡ flight_rec p st j e
      as! x = unfold flight_rec in
          (ap (λ (l : List Rec). cond (is_data p (stripe_in st2 j) e) (entry_in_of st2 j (data_position p (stripe_in st2 j) e))
          (encode_rec (parity_position p (stripe_in st2 j) e) (stripe_in st2 j) l))
          (entries! x) ∙ same)
        where
          same : cond (is_data p (stripe_in st2 j) e) (entry_in_of st2 j (data_position p (stripe_in st2 j) e)) (encode_rec (parity_position p (stripe_in st2 j) e) (stripe_in st2 j) (entries_in st j))
              ≡ cond (is_data p (stripe_in st j) e) (entry_in_of st j (data_position p (stripe_in st j) e)) (encode_rec (parity_position p (stripe_in st j) e) (stripe_in st j) (entries_in st j))
          same = unfold entry_in_of stripe_in free_stripe in refl

  pub free_flights : Flights p v st2 fl (elsewhere (stripe_in st i) ws)
  free_flights = record {
    landed_is = λ j e hj fj he q. let n = not_here j fj in at! j e n (F.landed_is j e hj (sym (freed_flies j n) ∙ fj) he (landed! j e q));
    parity_full = λ j hj fj q. let n = not_here j fj in full2 j n ∙ F.parity_full j hj (sym (freed_flies j n) ∙ fj) (bit! j q);
    parity-ready = λ j hj fj q. let n = not_here j fj in ready! j (F.parity-ready j hj (sym (freed_flies j n) ∙ fj) (sym (full2 j n) ∙ q));
    pending_is = λ j hj fj. let n = not_here j fj in pending! j n
        (elsewhere_of (stripe_in st i) (stripe_in st j) ws (λ e. n (once j hj (sym (freed_flies j n) ∙ fj) e)) ∙ F.pending_is j hj (sym (freed_flies j n) ∙ fj));
    writes_low = λ j k hj fj l hk. let n = not_here j fj in writes! j k (F.writes_low j k hj (sym (freed_flies j n) ∙ fj) (subst (λ (x : ℕ). x ≤ k) (filled2 j n) l) hk);
    pending_flies = λ k hk. waits k hk;
  }
    where
      landed! : (j e : ℕ) → is_in (landed_in st2 j) e ≡ true → is_in (landed_in st j) e ≡ true
      landed! j e q = unfold landed_in free_stripe in q

      at! : (j e : ℕ) → (j ≡ i → ⊥) → chunk_at v e (zone_on (open_segment p v st) e) (1 + offset_in st j e) ≡ mk_chunk (slot_block p fl j e) (record_bytes (flight_rec p st j e))
          → chunk_at v e (zone_on (open_segment p v st2) e) (1 + offset_in st2 j e) ≡ mk_chunk (slot_block p fl j e) (record_bytes (flight_rec p st2 j e))
      at! j e n x = unfold offset_in open_segment open_segments free_stripe in (x ∙ ap (λ (y : Rec). mk_chunk (slot_block p fl j e) (record_bytes y)) (sym (rec2 j e n)))

      bit! : (j : ℕ) → is_in (landed_in st2 j) (parity_drive p (stripe_in st2 j)) ≡ true → is_in (landed_in st j) (parity_drive p (stripe_in st j)) ≡ true
      bit! j q = unfold landed_in stripe_in free_stripe in q

      ready! : (j : ℕ) → slot_block p fl j (parity_drive p (stripe_in st j)) ≡ encode_block p.B 0 (map (slot_block p fl j) (data_drives p (stripe_in st j)))
          → slot_block p fl j (parity_drive p (stripe_in st2 j)) ≡ encode_block p.B 0 (map (slot_block p fl j) (data_drives p (stripe_in st2 j)))
      ready! j x = unfold stripe_in free_stripe in x

      pending! : (j : ℕ) → (j ≡ i → ⊥)
          → keep (λ (w : Pending). eqb w.stripe (stripe_in st j)) (elsewhere (stripe_in st i) ws) ≡ map (pending_of p st fl j) (keep (is_write st j) (below (filled_in_of st j)))
          → keep (λ (w : Pending). eqb w.stripe (stripe_in st2 j)) (elsewhere (stripe_in st i) ws) ≡ map (pending_of p st2 fl j) (keep (is_write st2 j) (below (filled_in_of st2 j)))
      pending! j n x = left ∙ x ∙ ap (λ (m : ℕ). map (pending_of p st fl j) (keep (is_write st j) (below m))) (sym (filled2 j n)) ∙ right
        where
          left : keep (λ (w : Pending). eqb w.stripe (stripe_in st2 j)) (elsewhere (stripe_in st i) ws) ≡ keep (λ (w : Pending). eqb w.stripe (stripe_in st j)) (elsewhere (stripe_in st i) ws)
          left = unfold stripe_in free_stripe in refl

          right : map (pending_of p st fl j) (keep (is_write st j) (below (filled_in_of st2 j))) ≡ map (pending_of p st2 fl j) (keep (is_write st2 j) (below (filled_in_of st2 j)))
          right = unfold pending_of is_write entry_in_of stripe_in free_stripe in refl

      writes! : (j k : ℕ) → is_write st j k ≡ false → is_write st2 j k ≡ false
      writes! j k x = unfold is_write free_stripe in x

      waits : (k : ℕ) → k < length (elsewhere (stripe_in st i) ws)
          → (j : ℕ) × (j < 8) × (flies st2 j ≡ true) × (stripe_in st2 j ≡ (get_or (elsewhere (stripe_in st i) ws) k no_pending).stripe)
      waits k hk =
          let w = get_or (elsewhere (stripe_in st i) ws) k no_pending in
          let (m, away) = elsewhere_in (stripe_in st i) ws w (in_get_d (elsewhere (stripe_in st i) ws) k no_pending hk) in
          let (x, hx, ex) = get_d_in ws no_pending w m in
          let (j, hj, fj, e) = F.pending_flies x hx in
          let es : stripe_in st j ≡ w.stripe = e ∙ ap (λ (y : Pending). y.stripe) (sym ex) in
          let n : j ≡ i → ⊥ = λ a. away (sym es ∙ ap (stripe_in st) a) in
          (j, hj, freed_flies j n ∙ fj, stripe2 j ∙ es)

-- ---- a segment is sealed

module _ (p : Params) (r : Ranged p) (v : View) (sh : Shaped p v) (z : Seg) (hz : There p v z) (behind : (e : ℕ) → e < p.N → pointer_at v e (zone_on z e) ≡ 1 + p.S) where
  abbrev u : View
  u = store_all store_view_of (seal_stores p v z) v

  all_data : (w : View) (e : ℕ) → 1 + p.S ≤ pointer_at w e (zone_on z e) → data_stored p (zone_at w e (zone_on z e)) ≡ p.S
  all_data w e l = unfold pointer_at data_stored in (let x : min ((zone_at w e (zone_on z e)).pointer - 1) p.S ≡ p.S = omega arith in x)

  stored-before : (e : ℕ) → e < p.N → data_stored p (zone_at v e (zone_on z e)) ≡ p.S
  stored-before e he = all_data v e (let a = behind e he in omega arith)

  stored-after : (e : ℕ) → e < p.N → data_stored p (zone_at u e (zone_on z e)) ≡ p.S
  stored-after e he = all_data u e (let a = seal_pointer p r v sh z hz behind e he in let c = capacity_over p r in omega arith)

  seal_extends : (e : ℕ) → e < p.N → Extends p 0 v u z e
  seal_extends e he = record {
    more = le_of_eq (stored-before e he ∙ sym (stored-after e he));
    same_record = λ o l.
        sym (record_at_lem p (sealed_in p u 0 z) (zone_at u e (zone_on z e)) o (mk_rec 0 0 0) (subst (λ (n : ℕ). o < n) (stored-before e he ∙ sym (stored-after e he)) l))
        ∙ ap (λ (rs : List Rec). get_or rs o (mk_rec 0 0 0)) (sym (seal_records p r v sh z hz behind e he))
        ∙ record_at_lem p (sealed_in p v 0 z) (zone_at v e (zone_on z e)) o (mk_rec 0 0 0) l;
    same_block = λ o l.
        ap (λ (q : Zone). (get_or q.blocks (1 + o) no_chunk).block) (seal_zone p r v sh z hz behind e he)
        ∙ ap (λ (c : Chunk). c.block) (puts_old e (zone_on z e) (footer_chunks p (zone_at v e (zone_on z e)) 0 (footers p)) (zone_at v e (zone_on z e)) (1 + o) (low o l));
  }
    where
      low : (o : ℕ) → o < data_stored p (zone_at v e (zone_on z e)) → 1 + o < (zone_at v e (zone_on z e)).pointer
      low o l = let a = stored-before e he in let c = at! (behind e he) in omega arith
        where
          at! : pointer_at v e (zone_on z e) ≡ 1 + p.S → (zone_at v e (zone_on z e)).pointer ≡ 1 + p.S
          at! q = unfold pointer_at in q

  -- a stripe that counts goes on counting
  pub seal_counts : (t : ℕ) → counts p 0 (segment_of p v 0 z) t ≡ true → counts p 0 (segment_of p u 0 z) t ≡ true
  seal_counts t c = extends_counts p 0 v u z (λ e he q. seal_extends e he) t c

  pub seal_parities : (n : ℕ) → Tidy p v n → (old : List Segment) → ParityMade p v 0 old → ParityMade p u 0 old
  seal_parities n ti old pm = parity_grows p r v u z (seal_grows p r v sh z hz behind) n ti old pm
      (λ t ht c. let c0 = extends_counts p 0 u v z (λ e he q. extends_sym p 0 v u z e (le_of_eq (stored-after e he ∙ sym (stored-before e he))) (seal_extends e he)) t c in
      inl (c0, λ e he. extends_piece p 0 v u z e he (is_in_empty e) (seal_extends e he) t (counts_in p 0 (segment_of p v 0 z) t e c0 he (is_in_empty e))))
