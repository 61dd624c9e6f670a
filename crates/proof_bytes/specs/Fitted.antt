-- The state that each call leaves fits: the checks bound what it sets, and the rest comes from bytes. Assumes nothing.
use Rattle.std.proofs.Math.Path.{◌≡◌, refl, ap, subst}
use Rattle.std.proofs.Common.{sym, ◌∙◌, inl, lit<}
use mathlib.Core.List.{List, [], ◌∷◌, map, ◌++◌}
use Rattle.std.specs.Prelude.{Bool, ◌&&◌, replicate}
use Rattle.std.proofs.Math.Bool.{true, false, cond, not}
use Prim.Native.Nat.{ℕ, zero, suc, ◌+◌, ◌-◌, ◌≤◌, ◌<◌}
use Rattle.std.proofs.lemmas.Bool.{not-false, eqb-false}
use Rattle.std.proofs.Math.Decide.{dec_lt}
use native.Mathlib.Omega.{arith}
use Rattle.std.proofs.Math.Dec.{eqb}
use Rattle.std.proofs.Math.ListN.{length, get_or, get_or-eq_default}
use Rattle.spec.specs.Lists.Opt.{none}
use Rattle.spec.specs.Calls.{first_refusal}
use Rattle.spec.specs.declared.Params.{Params}
use Rattle.spec.specs.declared.State.{State}
use Rattle.spec.specs.Closing.{padded, close_checks, close_plan}
use Rattle.spec.specs.Counts.{padding_address, last_count}
use Rattle.spec.specs.Drives.{View, pointer_at, store_view_of, store_all, zone_on, record_at}
use Rattle.spec.specs.Landing.{slot_of, completes, seals, misplaced, overfull, entry_faults, land_faults, land_checks, land_plan}
use Rattle.spec.specs.Layout.{group}
use Rattle.spec.specs.Lists.{Opt, below, is_nil, cons_if, flat, greatest}
use Rattle.spec.specs.Memory.{Memory, state_sections, filled_in_of, free_slot, filling_slot, has_filling, entries_in, set_open, set_closed, begin_stripe, add_entry, mark_landed}
use Rattle.spec.specs.Memory.{free_stripe}
use Rattle.spec.specs.Params.{between, data_count, named}
use Rattle.spec.specs.Reclaim.{Victim, victim_segment, victim_live, reclaim_checks, reset_plan, copy_plan}
use Rattle.spec.specs.Restart.{open_of_of, next_of, restart_memory, restart_stores, restart_checks, restart_plan}
use Rattle.spec.specs.Segments.{Segment, segments, counts, counted, unsealed, candidates, greatest_stamp, greatest_serial, open_segment, open_segments}
use Rattle.spec.specs.Write.{opens, no_stamp, no_serial, placed, opened_by, slot_for, begun_by, sending, write_checks, write_plan}
use Rattle.law_basic.specs.Geometry.{between_high, Ranged, ranged, addresses_all, data_count_high}
use Rattle.law_basic.specs.Mask.{only-lt}
use Rattle.law_basic.specs.Ranges.{Test, test, and_left, length-below, length-keep}
use Rattle.law_basic.specs.Ranges.Test.{yes!, no! }
use Rattle.law_checks.specs.Passed.{write_passed, land_passed, close_passed, ReclaimPassed, reclaim_passed, restart_passed}
use Rattle.law_drives.specs.Members.{In, keep_in, in_map}
use Rattle.law_drives.specs.Tests.{clash}
use Rattle.law_drives.specs.States.{StateOk, state_of_lem}
use Rattle.proof_bytes.specs.Sections.{limit, limit_pos, StateFits}
use Rattle.proof_bytes.specs.Changes.{low_set, set_le, fits_stamp, fits_open, fits_closed, fits_begin, fits_add, fits_mark, fits_free, fits_idle}
use Rattle.proof_bytes.specs.Reads.{LowReads, stamps_low, serials-low}
use Rattle.spec.specs.declared.Seg.{Seg}
use Rattle.law_drives.specs.Counting.{in_greatest}

-- ---- what a state in range bounds

-- few positions are filled, and the next stripe number is small
pub record Small (st : State) : Type 0 where
  pub filled-small : (i : ℕ) → get_or st.filled i 0 < 8
  pub next_small : st.next ≤ 65535

module _ (p : Params) (st : State) (f : StateFits st) (r : Ranged p) (so : StateOk p st) where
  small : Small st
  unfolding state_sections
  small = record { filled-small = λ i. go i (dec_lt i 8); next_small = let a = so.next_low in let b = r.stripes_high in omega arith }
    where
      go : (i : ℕ) → Dec (i < 8) → get_or st.filled i 0 < 8
      go i (yes h) = let a = of! i (so.slots_ok i h).filled_ok in let b = data_count_high p r in omega arith
        where
          of! : (i : ℕ) → filled_in_of st i ≤ data_count p → get_or st.filled i 0 ≤ data_count p
          of! i x = unfold filled_in_of in x
      go i (no h) = subst (λ (x : ℕ). x < 8) (sym (get_or-eq_default st.filled 0 {n = i} (let e = f.filled_fit.0 in omega arith))) (lit< tt)

-- ---- a block sent

module _ (p : Params) (v : View) (st : State) (f : StateFits st) (m : Small st) (serial : opens p st ≡ true → suc st.serial.0 < limit 3) where
  opened_fits : StateFits (opened_by p st) × Small (opened_by p st)
  unfolding opened_by set_open state_sections
  opened_fits = go (test (opens p st))
    where
      st' : State
      st' = set_open st (suc st.serial.0)

      go : Test (opens p st) → StateFits (cond (opens p st) st' st) × Small (cond (opens p st) st' st)
      go (yes! q) = subst (λ (b : Bool). StateFits (cond b st' st) × Small (cond b st' st)) (sym q) (
        fits_open st f (suc st.serial.0) (serial q) (serial q),
        record { filled-small = m.filled-small; next_small = omega arith },
      )
      go (no! q) = subst (λ (b : Bool). StateFits (cond b st' st) × Small (cond b st' st)) (sym q) (f, m)

  begun_fits : (st₁ : State) (i : ℕ) → StateFits st₁ → Small st₁ → StateFits (begin_stripe st₁ i) × ((k : ℕ) → get_or (begin_stripe st₁ i).filled k 0 < 8)
  unfolding begin_stripe state_sections
  begun_fits st₁ i g s = (fits_begin st₁ g i (let a = s.next_small in omega arith) (let a = s.next_small in omega arith), low_set 8 st₁.filled i 0 s.filled-small (lit< tt))

  begun_by_fits : StateFits (begun_by p st (opened_by p st)) × ((k : ℕ) → get_or (begun_by p st (opened_by p st)).filled k 0 < 8)
  unfolding begun_by
  begun_by_fits = go (has_filling p st) (begun_fits (opened_by p st) (free_slot st) opened_fits.0 opened_fits.1)
    where
      go : (b : Bool) → StateFits (begin_stripe (opened_by p st) (free_slot st)) × ((k : ℕ) → get_or (begin_stripe (opened_by p st) (free_slot st)).filled k 0 < 8)
          → StateFits (cond b st (begin_stripe (opened_by p st) (free_slot st))) × ((k : ℕ) → get_or (cond b st (begin_stripe (opened_by p st) (free_slot st))).filled k 0 < 8)
      go true h = (f, m.filled-small)
      go false h = h

  pub sending_fits : (fl : List ℕ) (a t w : ℕ) (b : List ℕ) → a < limit 10 → t < limit 11 → w ≤ 1 → StateFits (sending p v st fl a t w b).state
  unfolding sending placed state_sections
  sending_fits fl a t w b ha ht hw =
      fits_add (begun_by p st (opened_by p st)) begun_by_fits.0 (slot_for p st) a t w (few (slot_for p st)) ha ht hw
    where
      few : (i : ℕ) → suc (filled_in_of (begun_by p st (opened_by p st)) i) < limit 7
      few i = unfold filled_in_of in (let x = begun_by_fits.1 i in omega arith)

-- ---- the calls

module _ (p : Params) (long : Bool) (v : View) (m : Memory) (f : StateFits m.state) where
  abbrev st : State
  st = m.state

  -- 01, Refusals, 6: there is a next stamp
  next_stamp : no_stamp st ≡ false → suc st.stamp.0 < limit 2
  unfolding no_stamp state_sections
  next_stamp q = below_last st.stamp.0 (eqb-false st.stamp.0 last_count q) f.stamp_fits
    where
      below_last : (x : ℕ) → (x ≡ last_count → ⊥) → x < limit 2 → suc x < limit 2
      below_last x n b = omega arith

  -- and a next serial where a segment is opened
  next_serial : no_serial p st ≡ false → opens p st ≡ true → suc st.serial.0 < limit 3
  unfolding no_serial state_sections
  next_serial q o = below_last st.serial.0 (λ e. clash (ap (λ (b : Bool). b && eqb st.serial.0 last_count) o ∙ same st.serial.0 e) q) f.serial_fits
    where
      same : (x : ℕ) → x ≡ last_count → eqb x last_count ≡ true
      same x e = ap (λ (y : ℕ). eqb y last_count) e

      below_last : (x : ℕ) → (x ≡ last_count → ⊥) → x < limit 3 → suc x < limit 3
      below_last x n b = omega arith

  pub write_fits : (a : ℕ) (b : List ℕ) → first_refusal (write_checks p long v m a b) ≡ none → StateFits (write_plan p v m a b).memory.state
  unfolding write_plan state_sections
  write_fits a b e =
      let c = write_passed p long v m a b e in
      let r = ranged p c.in_range_holds in
      let so = state_of_lem p r st c.state_fine in
      let t = next_stamp c.stamp_left in
      let q = sending p v st m.inflight a (suc st.stamp.0) 1 b in
      let ha : a < limit 10 = let x = c.address_low in let y = addresses_all p r in omega arith in
      fits_stamp q.state
      (sending_fits p v st f (small p st f r so) (next_serial c.serial_left) m.inflight a (suc st.stamp.0) 1 b ha t (omega arith))
      (suc st.stamp.0) t

  -- ---- landing

  cons_if-nil : (b : Bool) (n : ℕ) (l : List ℕ) → cons_if b n l ≡ [] → b ≡ false
  unfolding cons_if
  cons_if-nil true n l q = absurd (let z : ◌≡◌ {A = ℕ} (suc (length l)) 0 = ap length q in let y : ⊥ = omega arith in y)
  cons_if-nil false n l q = refl

  cons_if_rest : (b : Bool) (n : ℕ) (l : List ℕ) → cons_if b n l ≡ [] → l ≡ []
  unfolding cons_if
  cons_if_rest true n l q = absurd (let z : ◌≡◌ {A = ℕ} (suc (length l)) 0 = ap length q in let y : ⊥ = omega arith in y)
  cons_if_rest false n l q = q

  placed-low : (d : ℕ) (g : Seg) (s : ℕ) → Ranged p → misplaced p v d (zone_on g d) s ≡ false → pointer_at v d (zone_on g d) - 1 < limit 12
  unfolding misplaced state_sections
  placed-low d g s r q =
      let n = pointer_at v d (zone_on g d) in
      let a = between_high 1 p.S n (and_left (between 1 p.S n) (eqb (group p (n - 1)) (group p s)) (not-false (between 1 p.S n && eqb (group p (n - 1)) (group p s)) q)) in
      let b = r.stripes_high in
      omega arith

  pub land_fits : (d s : ℕ) → first_refusal (land_checks p long v m d s) ≡ none → StateFits (land_plan p v m d s).memory.state
  unfolding land_plan
  land_fits d s e =
      let c = land_passed p long v m d s e in
      let r = ranged p c.in_range_holds in
      let i = slot_of st s in
      let g = open_segment p v st in
      let o = pointer_at v d (zone_on g d) - 1 in
      let st₁ = mark_landed st i d o in
      let f₁ = fits_mark st f i d o (placed-low d g s r (off c.chunk_fine)) in
      go (completes p st i d) (seals p st i d) st₁ i f₁
    where
      off : land_faults p v m d s ≡ [] → misplaced p v d (zone_on (open_segment p v st) d) s ≡ false
      off q = unfold land_faults in cons_if-nil (misplaced p v d (zone_on (open_segment p v st) d) s) (zone_on (open_segment p v st) d) _ (of! q)
        where
          of! : land_faults p v m d s ≡ [] → cons_if (misplaced p v d (zone_on (open_segment p v st) d) s) (zone_on (open_segment p v st) d)
              (cond (seals p st (slot_of st s) d) (overfull p v d (open_segment p v st)) []
              ++ cond (completes p st (slot_of st s) d) (flat (entry_faults p v m.addresses) (entries_in st (slot_of st s))) []) ≡ []
          of! q = cons_if_rest (is_nil (open_segments p v st)) 0 _ (unfold land_faults in q)

      go : (a b : Bool) (x : State) (i : ℕ) → StateFits x → StateFits (cond b (set_closed (cond a (free_stripe x i) x)) (cond a (free_stripe x i) x))
      go true true x i h = fits_closed (free_stripe x i) (fits_free x h i)
      go true false x i h = fits_free x h i
      go false true x i h = fits_closed x h
      go false false x i h = h

  -- ---- closing

  padded_fits : (i k : ℕ) (x : State) (fl : List ℕ) → StateFits x → filled_in_of x i + k < limit 7 → StateFits (padded p i k x fl).state
  unfolding padded placed state_sections
  padded_fits i zero x fl h l = h
  padded_fits i (suc k) x fl h l =
      padded_fits i k (add_entry x i padding_address 0 0) (placed p x fl i padding_address 0 0 (replicate p.B 0)).inflight
      (fits_add x h i padding_address 0 0 (omega arith) (lit< tt) (limit_pos 11) (omega arith))
      (let z = one_more in omega arith)
    where
      one_more : filled_in_of (add_entry x i padding_address 0 0) i ≤ suc (filled_in_of x i)
      one_more = unfold filled_in_of add_entry in set_le x.filled i (suc (get_or x.filled i 0))

  pub close_fits : first_refusal (close_checks p long v m) ≡ none → StateFits (close_plan p m).memory.state
  unfolding close_plan state_sections
  close_fits e =
      let c = close_passed p long v m e in
      let r = ranged p c.in_range_holds in
      let so = state_of_lem p r st c.state_fine in
      let i = filling_slot p st in
      padded_fits i (data_count p - filled_in_of st i) st m.inflight f (let a = few (small p st f r so) i in let b = data_count_high p r in omega arith)
    where
      few : Small st → (i : ℕ) → filled_in_of st i < 8
      few s i = unfold filled_in_of in s.filled-small i

  -- ---- reclaim

  pub reclaim_fits : LowReads p v → (w : Opt Victim) (q : ℕ) → first_refusal (reclaim_checks p long v m w) ≡ none
      → StateFits (cond (is_nil (victim_live w)) (reset_plan p m (victim_segment w)) (copy_plan p v m q)).memory.state
  unfolding reset_plan copy_plan record_at state_sections
  reclaim_fits h w q o = go (test (is_nil (victim_live w)))
    where
      c : ReclaimPassed p long v m w
      c = reclaim_passed p long v m w o

      go : Test (is_nil (victim_live w)) → StateFits (cond (is_nil (victim_live w)) (reset_plan p m (victim_segment w)) (copy_plan p v m q)).memory.state
      go (yes! e) = subst (λ (b : Bool). StateFits (cond b (reset_plan p m (victim_segment w)) (copy_plan p v m q)).memory.state) (sym e) f
      go (no! e) =
          let r = ranged p c.in_range_holds in
          let so = state_of_lem p r st c.state_fine in
          subst (λ (b : Bool). StateFits (cond b (reset_plan p m (victim_segment w)) (copy_plan p v m q)).memory.state) (sym e)
          (sending_fits p v st f (small p st f r so) (next_serial (c.serial_left e)) m.inflight _ _ 0 _ (h.records_low _ _ _ _).0 (h.records_low _ _ _ _).1 (omega arith))

-- ---- restart

counted_few : (p : Params) (g : Segment) → length (counted p 0 g) ≤ p.S
unfolding counted
counted_few p g = let a = length-keep (counts p 0 g) (below p.S) in let b = length-below p.S in omega arith

pub idle_fits : (p : Params) → Ranged p → (v : View) (d : ℕ) (fl : List ℕ) → greatest_stamp (candidates p (named d) (segments p v (named d))) < limit 2
    → greatest_serial (segments p v (named d)) < limit 3 → StateFits (restart_memory p v (named d) fl).state
unfolding restart_memory open_of_of next_of state_sections
idle_fits p r v d fl ht hs =
    fits_idle 1 (named d) (greatest_stamp (candidates p (named d) (segments p v (named d)))) (greatest_serial (segments p v (named d))) (open_of_of us) (next_of p us)
    (lit< tt) names ht hs (low_open us left) (low_next us)
  where
    us : List Segment
    us = cond (eqb (named d) 0) (unsealed (segments p v (named d))) []

    names : named d < limit 1
    names = unfold named in only-lt d

    inside : (x : Segment) → In x (segments p v (named d)) → x.serial < limit 3
    inside x i =
        let a = of! (in_greatest x.serial (map (λ (g : Segment). g.serial) (segments p v (named d))) (in_map (λ (g : Segment). g.serial) (segments p v (named d)) x i)) in
        omega arith
      where
        of! : x.serial ≤ greatest (map (λ (g : Segment). g.serial) (segments p v (named d))) → x.serial ≤ greatest_serial (segments p v (named d))
        of! a = unfold greatest_serial in a

    left : (x : Segment) → In x us → x.serial < limit 3
    left x i = go (eqb (named d) 0) i
      where
        go : (b : Bool) → In x (cond b (unsealed (segments p v (named d))) []) → x.serial < limit 3
        go true i = inside x (unfold unsealed in (keep_in (λ (g : Segment). not g.full) (segments p v (named d)) x i).0)
        go false i = absurd i

    low_open : (l : List Segment) → ((x : Segment) → In x l → x.serial < limit 3) → open_of_of l < limit 4
    low_open [] i = lit< tt
    low_open (g ∷ gs) i = i g (inl refl)

    low_next : (l : List Segment) → next_of p l < limit 5
    low_next [] = lit< tt
    low_next (g ∷ gs) = let a = counted_few p g in let b = r.stripes_high in omega arith

pub restart_fits : (p : Params) (long : Bool) (v : View) (d : ℕ) (fl : List ℕ) → LowReads p (store_all store_view_of (restart_stores p v (named d) (segments p v (named d))) v)
    → first_refusal (restart_checks p long v d (segments p v (named d))) ≡ none → StateFits (restart_plan p v d (segments p v (named d)) fl).memory.state
unfolding restart_plan state_sections
restart_fits p long v d fl h e =
    let u = store_all store_view_of (restart_stores p v (named d) (segments p v (named d))) v in
    idle_fits p (ranged p (restart_passed p long v d (segments p v (named d)) e).in_range_holds) u d fl (stamps_low p u h (named d)) (serials-low p u h (named d))
