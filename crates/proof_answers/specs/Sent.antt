-- The stores of a write, a landing and a reclaim have room: headers in an empty zone, a chunk and footers below the capacity, resets. Assumes nothing.
use Rattle.std.specs.Prelude.{◌≡◌, false, not, ◌&&◌, length}
use Rattle.std.proofs.Math.Path.{refl, sym, subst}
use Rattle.std.proofs.Common.{ap, ◌∙◌, inl, inr, arith}
use mathlib.Core.List.{List, [], ◌∷◌, ◌++◌, map}
use Rattle.std.proofs.Math.Bool.{Bool, true, cond}
use Prim.Native.Nat.{ℕ, suc, ◌+◌, ◌-◌, ◌≤◌, ◌<◌}
use Rattle.std.proofs.Math.Decide.{ℕ_discrete}
use borrow.Author.Tests.{eq-eqb, ne_eqb, ltb-true, ltb-false, not-false}
use Rattle.std.proofs.Math.Dec.{ltb, eqb}
use Rattle.std.proofs.lemmas.List.{length-map}
use Rattle.spec.specs.declared.Params.{Params}
use Rattle.spec.specs.declared.State.{State}
use Rattle.spec.specs.Drives.{Chunk, Zone, View, zone_at, pointer_at, Store, store_view_of, zone_on, zero_spare, header_stores, footer_stores, reset_stores, empty_count, is_good, new_seg}
use Rattle.spec.specs.Drives.Store.{put, reset}
use Rattle.spec.specs.Landing.{slot_of, waiting, ready, seals, completes, flight_rec, misplaced, overfull, entry_faults, land_faults, land_store, seal_stores, land_plan}
use Rattle.spec.specs.Layout.{group, header_block, record_bytes}
use Rattle.spec.specs.Lists.{below, cons_if, keep, is_nil, flat}
use Rattle.spec.specs.Memory.{Memory, slot_count, entries_in, slot_block, slot_byte}
use Rattle.spec.specs.Params.{between, footers, capacity, inflight_len, drives_of}
use Rattle.spec.specs.Write.{opens, sending}
use Rattle.spec.specs.Drives.{no_seg, zones_in}
use Rattle.law_basic.specs.Fields.{length_record}
use Rattle.law_basic.specs.Geometry.{Ranged, between-low, between_high, slot_within}
use Rattle.law_basic.specs.Ranges.{Test, test, and_left, and_right, and_both}
use Rattle.law_basic.specs.Ranges.Test.{yes!, no! }
use Rattle.law_basic.specs.Splice.{length_part}
use Rattle.law_drives.specs.Footers.{hits_each, footer_chunks, footer_puts}
use Rattle.law_drives.specs.Members.{In, flat_in, keep_in, flat_cong, in_below, below_in, first_in, keep-nil_in}
use Rattle.law_drives.specs.Puts.{put_at, hits-resets, hits-headers, on_drive}
use Rattle.law_drives.specs.Range.{capacity_over}
use Rattle.law_drives.specs.Tests.{false_true, and_false_left, and_false_right, cond_true, cond_false, eqb_self}
use Rattle.law_drives.specs.Zones.{Sized, hits_at_of, zone_store, hits, zone_stored}
use Rattle.proof_answers.specs.Lengths.{Fair, put_fair, headers_proper, resets_proper, footers_proper, footer_chunks_count, OnGood}
use Rattle.proof_answers.specs.Rising.{Rises, rises_few, Proper, Able, able_none}
use Rattle.spec.specs.declared.Seg.{Seg}
use Rattle.law_checks.specs.Passed.{nil_both}
use Rattle.law_drives.specs.Headers.{Vacant, new_vacant}
use Rattle.law_drives.specs.Segs.{remaining_left}
use Rattle.law_drives.specs.Settled.{its_zone}
use Rattle.law_drives.specs.Tidy.{There}
use Rattle.spec.specs.Segments.{is_used, open_segment, open_segments, remaining, serial_at}

-- ---- resets of a segment

pub resets_able : (p : Params) (r : Ranged p) (v : View) (g : Seg) → OnGood p v.offline g → Able p v (reset_stores p g)
resets_able p r v g hg = record {
  proper = resets_proper p r v.offline g hg;
  rises = λ d z hd hz. subst (λ (l : List Store). Rises p (pointer_at v d z) l) (sym (hits-resets p d z g hd)) (go d z (eqb (zone_on g d) z));
}
  where
    go : (d z : ℕ) (b : Bool) → Rises p (pointer_at v d z) (cond b (reset d (zone_on g d) ∷ []) [])
    go d z true = tt
    go d z false = tt

-- ---- headers

-- a segment whose zones are good and empty has good zones
pub vacant_on : (p : Params) (v : View) (z : Seg) → Vacant p v z → OnGood p v.offline z
vacant_on p v z va d hd = (va.vacant_low d hd, va.vacant_good d hd)

-- so has one that there is
pub there_on : (p : Params) (r : Ranged p) (v : View) (g : Seg) → There p v g → OnGood p v.offline g
there_on p r v g m d hd = let b = its_zone p r v g m d hd in (b.zone_low, good b.used)
  where
    good : is_used p v d (zone_on g d) ≡ true → is_good p v.offline d (zone_on g d) ≡ true
    good q = unfold is_used in and_left (is_good p v.offline d (zone_on g d)) (not (eqb (pointer_at v d (zone_on g d)) 0)) q

pub headers_able : (p : Params) (r : Ranged p) (v : View) (z : Seg) (sn c : ℕ) → Vacant p v z → Able p v (header_stores p z sn c)
headers_able p r v z sn c va = record {
  proper = headers_proper p r v.offline z sn c (vacant_on p v z va);
  rises = λ d y hd hy. subst (λ (l : List Store). Rises p (pointer_at v d y) l) (sym (hits-headers p d y z sn c hd)) (go d y hd (ℕ_discrete (zone_on z d) y));
}
  where
    go : (d y : ℕ) → d < p.N → Dec (zone_on z d ≡ y)
        → Rises p (pointer_at v d y) (cond (eqb (zone_on z d) y) (put d (zone_on z d) (header_block p d (zones_in p z) sn c) zero_spare ∷ []) [])
    go d y hd (yes q) =
        let n : pointer_at v d y ≡ 0 = ap (λ (x : ℕ). pointer_at v d x) (sym q) ∙ va.vacant_empty d hd in
        subst (λ (l : List Store). Rises p (pointer_at v d y) l)
        (sym (cond_true (eqb (zone_on z d) y) (put d (zone_on z d) (header_block p d (zones_in p z) sn c) zero_spare ∷ []) [] (eq-eqb (zone_on z d) y q)))
        (omega (arith, capacity_over p r), tt)
    go d y hd (no q) =
        subst (λ (l : List Store). Rises p (pointer_at v d y) l)
        (sym (cond_false (eqb (zone_on z d) y) (put d (zone_on z d) (header_block p d (zones_in p z) sn c) zero_spare ∷ []) [] (ne_eqb (zone_on z d) y q))) tt

-- 01, Write: a block sent stores headers where it opens a segment
pub sending_able : (p : Params) (r : Ranged p) (v : View) (st : State) (fl : List ℕ) (a t w : ℕ) (b : List ℕ)
    → (opens p st ≡ true → 1 ≤ empty_count p v) → Able p v (sending p v st fl a t w b).stores
unfolding sending
sending_able p r v st fl a t w b h = go (test (opens p st))
  where
    go : Test (opens p st) → Able p v (cond (opens p st) (header_stores p (new_seg p v) (suc st.serial.0) 0) [])
    go (yes! q) = rw q (headers_able p r v (new_seg p v) (suc st.serial.0) 0 (new_vacant p v (h q)))
    go (no! q) = rw q (able_none p v)

-- ---- a landing

-- nothing is put before
not_put : {A : Type 0} (b : Bool) (a : A) (l : List A) → cons_if b a l ≡ [] → (b ≡ false) × (l ≡ [])
unfolding cons_if
not_put true a l e = absurd (let x : ◌≡◌ {A = ℕ} 0 1 = cc in let y : ⊥ = omega arith in y)
not_put false a l e = (refl, e)

-- no zone is named
sent_no_zone : (g : Seg) (l : List ℕ) → map (zone_on g) l ≡ [] → l ≡ []
sent_no_zone g [] e = refl
sent_no_zone g (d ∷ l) e = absurd (let x : ◌≡◌ {A = ℕ} (suc (length (map (zone_on g) l))) 0 = ap length e in let y : ⊥ = omega arith in y)

module _ (p : Params) (r : Ranged p) (v : View) (sized : Sized p v) (fair : (d z : ℕ) → d < p.N → z < p.Z → Fair p (zone_at v d z)) (m : Memory)
    (lent : length m.inflight ≡ inflight_len p) (d s : ℕ) (waits : waiting p m.state d s ≡ true) (none : land_faults p v m d s ≡ []) where
  abbrev st : State
  st = m.state

  abbrev i : ℕ
  i = slot_of st s

  abbrev g : Seg
  g = open_segment p v st

  abbrev pub chunk : Store
  chunk = put d (zone_on g d) (slot_block p m.inflight i d) (record_bytes (flight_rec p st i d))

  -- 01, Refusals, 5: a drive of the array, an eighth of the buffer
  land_waits_low : (d < p.N) × (i < 8)
  unfolding waiting slot_count
  land_waits_low =
      let a = ltb d p.N in
      let b = ltb i 8 in
      let h : a && b ≡ true = and_left (a && b) (ready p st i d) waits in
      (ltb-true d p.N (and_left a b h), ltb-true i 8 (and_right a b h))

  -- 01, Refusals, 9: the open segment remains, the pointer is at a data block, and footers have room
  landing_fine : (is_nil (open_segments p v st) ≡ false) × (misplaced p v d (zone_on g d) s ≡ false) × (cond (seals p st i d) (overfull p v d g) [] ≡ [])
  unfolding land_faults
  landing_fine =
      let zs = cond (completes p st i d) (flat (entry_faults p v m.addresses) (entries_in st i)) [] in
      let os = cond (seals p st i d) (overfull p v d g) [] in
      let (o, f) = not_put (is_nil (open_segments p v st)) 0 (cons_if (misplaced p v d (zone_on g d) s) (zone_on g d) (os ++ zs)) none in
      let (a, e) = not_put (misplaced p v d (zone_on g d) s) (zone_on g d) (os ++ zs) f in
      (o, a, (nil_both os zs e).0)

  at_data : (1 ≤ pointer_at v d (zone_on g d)) × (pointer_at v d (zone_on g d) ≤ p.S)
  unfolding misplaced
  at_data =
      let n = pointer_at v d (zone_on g d) in
      let h : between 1 p.S n ≡ true =
      and_left (between 1 p.S n) (eqb (group p (n - 1)) (group p s)) (not-false (between 1 p.S n && eqb (group p (n - 1)) (group p s)) landing_fine.1) in
      (between-low 1 p.S n h, between_high 1 p.S n h)

  -- 01, Write: the open segment is there
  open_there : There p v g
  unfolding open_segment open_segments
  open_there =
      let (i, _) = keep_in (λ g. eqb (serial_at p v g) st.opened) (remaining p v 0) g (first_in (keep (λ g. eqb (serial_at p v g) st.opened) (remaining p v 0)) no_seg landing_fine.0) in
      remaining_left p v 0 g i

  open_good : OnGood p v.offline g
  open_good = there_on p r v g open_there

  sent_open_low : (e : ℕ) → e < p.N → zone_on g e < p.Z
  sent_open_low e he = (open_good e he).0

  chunk_proper : Proper p v.offline chunk
  chunk_proper = (land_waits_low.0, sent_open_low d land_waits_low.0, (open_good d land_waits_low.0).1, block, length_record (flight_rec p st i d))
    where
      block : length (slot_block p m.inflight i d) ≡ p.B
      block = unfold slot_block in length_part (slot_byte p i d) p.B m.inflight
          (subst (λ (x : ℕ). slot_byte p i d + p.B ≤ x) (sym lent) (slot_within p i d land_waits_low.1 land_waits_low.0))

  chunk_hit : (e y : ℕ) → hits_at_of e y chunk ≡ (eqb d e && eqb (zone_on g d) y)
  unfolding hits_at_of
  chunk_hit e y = refl

  -- the chunk, then stores of which only those of the open segment matter
  land_rises : (ts : List Store) → ((e y : ℕ) → e < p.N → y < p.Z → (zone_on g e ≡ y → ⊥) → hits e y ts ≡ [])
      → pointer_at v d (zone_on g d) + 1 + length (hits d (zone_on g d) ts) ≤ capacity p
      → ((e : ℕ) → e < p.N → (d ≡ e → ⊥) → Rises p (pointer_at v e (zone_on g e)) (hits e (zone_on g e) ts)) → (e y : ℕ) → e < p.N → y < p.Z
      → Rises p (pointer_at v e y) (hits e y (chunk ∷ ts))
  land_rises ts off here there e y he hy = go (ℕ_discrete (zone_on g e) y) (ℕ_discrete d e)
    where
      first : (e y : ℕ) → hits e y (chunk ∷ ts) ≡ cons_if (hits_at_of e y chunk) chunk (hits e y ts)
      first e y = unfold keep in refl

      other : (e y : ℕ) → eqb d e && eqb (zone_on g d) y ≡ false → hits e y (chunk ∷ ts) ≡ hits e y ts
      other e y q = first e y ∙ ap (λ (b : Bool). cons_if b chunk (hits e y ts)) (chunk_hit e y ∙ q) ∙ left
        where
          left : cons_if false chunk (hits e y ts) ≡ hits e y ts
          left = unfold cons_if in refl

      own : hits d (zone_on g d) (chunk ∷ ts) ≡ chunk ∷ hits d (zone_on g d) ts
      own =
          first d (zone_on g d) ∙ ap (λ (b : Bool). cons_if b chunk (hits d (zone_on g d) ts))
          (chunk_hit d (zone_on g d) ∙ and_both (eqb d d) (eqb (zone_on g d) (zone_on g d)) (eqb_self d) (eqb_self (zone_on g d))) ∙ put_first
        where
          put_first : cons_if true chunk (hits d (zone_on g d) ts) ≡ chunk ∷ hits d (zone_on g d) ts
          put_first = unfold cons_if in refl

      go : Dec (zone_on g e ≡ y) → Dec (d ≡ e) → Rises p (pointer_at v e y) (hits e y (chunk ∷ ts))
      go (no n) b =
          subst (λ (l : List Store). Rises p (pointer_at v e y) l)
          (sym (other e y (on_drive (zone_on g) d e y ∙ and_false_right (eqb d e) (eqb (zone_on g e) y) (ne_eqb (zone_on g e) y n)) ∙ off e y he hy n)) tt
      go (yes a) (no n) =
          subst (λ (x : ℕ). Rises p (pointer_at v e x) (hits e x (chunk ∷ ts))) a
          (subst (λ (l : List Store). Rises p (pointer_at v e (zone_on g e)) l)
          (sym (other e (zone_on g e) (and_false_left (eqb d e) (eqb (zone_on g d) (zone_on g e)) (ne_eqb d e n)))) (there e he n))
      go (yes a) (yes b) =
          subst (λ (x : ℕ). Rises p (pointer_at v e x) (hits e x (chunk ∷ ts))) a
          (subst (λ (x : ℕ). Rises p (pointer_at v x (zone_on g x)) (hits x (zone_on g x) (chunk ∷ ts))) b
          (subst (λ (l : List Store). Rises p (pointer_at v d (zone_on g d)) l) (sym own) (rises_few p (pointer_at v d (zone_on g d)) (chunk ∷ hits d (zone_on g d) ts) (omega arith))))

  -- ---- the footers

  abbrev after : View
  after = store_view_of chunk v

  after_fair : (e : ℕ) → e < p.N → Fair p (zone_at after e (zone_on g e))
  after_fair e he = subst (λ (q : Zone). Fair p q) (sym (zone_stored p v e (zone_on g e) chunk sized he (sent_open_low e he))) (go (hits_at_of e (zone_on g e) chunk))
    where
      put_is : Fair p (zone_store chunk (zone_at v e (zone_on g e)))
      put_is = unfold zone_store in
          put_fair p (zone_at v e (zone_on g e)) (slot_block p m.inflight i d) (record_bytes (flight_rec p st i d)) (fair e (zone_on g e) he (sent_open_low e he)) chunk_proper.3
          chunk_proper.4

      go : (b : Bool) → Fair p (cond b (zone_store chunk (zone_at v e (zone_on g e))) (zone_at v e (zone_on g e)))
      go true = put_is
      go false = fair e (zone_on g e) he (sent_open_low e he)

  abbrev feet : ℕ → List Chunk
  feet e = footer_chunks p (zone_at after e (zone_on g e)) 0 (footers p)

  seal_feet_are : seal_stores p after g ≡ flat (λ e. map (put_at e (zone_on g e)) (feet e)) (drives_of p)
  unfolding seal_stores
  seal_feet_are = flat_cong (λ e. footer_stores p e (zone_on g e) (zone_at after e (zone_on g e)) 0 (footers p)) (λ e. map (put_at e (zone_on g e)) (feet e)) (drives_of p)
      (λ e i. footer_puts p e (zone_on g e) (zone_at after e (zone_on g e)) 0 (footers p))

  feet_hits : (e y : ℕ) → e < p.N → hits e y (seal_stores p after g) ≡ cond (eqb (zone_on g e) y) (map (put_at e (zone_on g e)) (feet e)) []
  feet_hits e y he = ap (hits e y) seal_feet_are ∙ hits_each p e y (zone_on g) feet he

  seal_feet_count : (e : ℕ) → e < p.N → length (hits e (zone_on g e) (seal_stores p after g)) ≡ footers p
  seal_feet_count e he =
      ap length (feet_hits e (zone_on g e) he ∙ cond_true (eqb (zone_on g e) (zone_on g e)) (map (put_at e (zone_on g e)) (feet e)) [] (eqb_self (zone_on g e)))
      ∙ length-map (feet e) (put_at e (zone_on g e)) ∙ footer_chunks_count p (zone_at after e (zone_on g e)) 0 (footers p)

  feet_proper : (t : Store) → In t (seal_stores p after g) → Proper p v.offline t
  unfolding seal_stores drives_of
  feet_proper t n =
      let (e, j, k) = flat_in (λ e. footer_stores p e (zone_on g e) (zone_at after e (zone_on g e)) 0 (footers p)) (below p.N) t n in
      let he = below_in p.N e j in
      footers_proper p r v.offline (zone_at after e (zone_on g e)) (after_fair e he) e (zone_on g e) 0 (footers p) he (sent_open_low e he) (open_good e he).1 t k

  -- 01, Refusals, 9: no zone is filled above its capacity
  seal_feet_room : seals p st i d ≡ true → (e : ℕ) → e < p.N → pointer_at v e (zone_on g e) + cond (eqb e d) 1 0 + footers p ≤ capacity p
  unfolding overfull drives_of
  seal_feet_room q e he =
      let f : ℕ → Bool = λ e. ltb (capacity p) (pointer_at v e (zone_on g e) + cond (eqb e d) 1 0 + footers p) in
      let o : map (zone_on g) (keep f (below p.N)) ≡ [] = sym (cond_true (seals p st i d) (map (zone_on g) (keep f (below p.N))) [] q) ∙ landing_fine.2 in
      ltb-false (capacity p) (pointer_at v e (zone_on g e) + cond (eqb e d) 1 0 + footers p)
      (keep-nil_in f (below p.N) (sent_no_zone g (keep f (below p.N)) o) e (in_below p.N e he))

  pub land_able : Able p v (land_plan p v m d s).stores
  unfolding land_plan land_store
  land_able = go (test (seals p st i d))
    where
      both : (ts : List Store) → ((t : Store) → In t ts → Proper p v.offline t) → (t : Store) → In t (chunk ∷ ts) → Proper p v.offline t
      both ts f t (inl e) = subst (λ (x : Store). Proper p v.offline x) (sym e) chunk_proper
      both ts f t (inr n) = f t n

      plus : (n : ℕ) (b : Bool) → b ≡ true → n + cond b 1 0 + footers p ≡ n + 1 + footers p
      plus n true q = refl
      plus n false q = false_true q

      over : (n : ℕ) (b : Bool) → n + footers p ≤ n + cond b 1 0 + footers p
      over n true = omega arith
      over n false = omega arith

      sealed : seals p st i d ≡ true → Able p v (chunk ∷ seal_stores p after g)
      sealed q =
          let ss = seal_stores p after g in
          let hd = land_waits_low.0 in
          record {
            proper = both ss feet_proper;
            rises = land_rises ss
                (λ e y he hy n. feet_hits e y he ∙ cond_false (eqb (zone_on g e) y) (map (put_at e (zone_on g e)) (feet e)) [] (ne_eqb (zone_on g e) y n))
                (let a = seal_feet_room q d hd in let b = seal_feet_count d hd in let c = plus (pointer_at v d (zone_on g d)) (eqb d d) (eqb_self d) in omega arith)
                (λ e he n. rises_few p (pointer_at v e (zone_on g e)) (hits e (zone_on g e) ss)
                (let a = seal_feet_room q e he in let b = seal_feet_count e he in let c = over (pointer_at v e (zone_on g e)) (eqb e d) in omega arith));
          }

      unsealed : Able p v (chunk ∷ [])
      unsealed =
          record {
            proper = both [] (λ t n. absurd n);
            rises = land_rises [] (λ e y he hy n. nil e y)
                (let a = at_data.1 in let b = capacity_over p r in let c : length (hits d (zone_on g d) []) ≡ 0 = ap length (nil d (zone_on g d)) in omega arith)
                (λ e he n. subst (λ (l : List Store). Rises p (pointer_at v e (zone_on g e)) l) (sym (nil e (zone_on g e))) tt);
          }
        where
          nil : (e y : ℕ) → hits e y [] ≡ []
          nil e y = unfold keep in refl

      go : Test (seals p st i d) → Able p v (chunk ∷ cond (seals p st i d) (seal_stores p after g) [])
      go (yes! q) = rw q (sealed q)
      go (no! q) = rw q unsealed
