-- A segment is opened: headers in empty zones, one of each drive. The tables stay. Assumes nothing.
use Rattle.std.specs.Prelude.{◌≡◌, Bool, true, false, not, ◌⊎◌, ℕ, suc, ◌+◌, ◌^◌, ◌≤◌, ◌<◌, eqb}
use Rattle.std.proofs.Math.Path.{refl, ap}
use Rattle.std.proofs.Common.{sym, ap₂, ◌∙◌, subst, inl, inr, ⊎_elim, eq-eqb, eqb-true, lit<}
use mathlib.Core.List.{List, [], map}
use Rattle.std.proofs.Math.Decide.{ℕ_discrete}
use Rattle.law_basic.specs.Ranges.{Test, test}
use Rattle.law_basic.specs.Ranges.Test.{yes!, no! }
use Rattle.spec.specs.Lists.{any}
use native.Mathlib.Omega.{arith}
use Rattle.spec.specs.declared.Params.{Params}
use Rattle.spec.specs.declared.State.{State}
use Rattle.spec.specs.Drives.{Zone, View, zone_at, pointer_at, store_view_of, store_all, sealed_in, data_stored, record_in, header_stores, zone_on, zones_in, is_good}
use Rattle.spec.specs.Layout.{header_serial, header_copied}
use Rattle.spec.specs.Lists.{up_from, below, tally, is_in}
use Rattle.spec.specs.Lists.Opt.{none}
use Rattle.spec.specs.Memory.{slots, filled_in_of, landed_in, is_free, set_open}
use Rattle.spec.specs.Params.{capacity}
use Rattle.spec.specs.Rank.{Cand, best, cands_of}
use Rattle.spec.specs.Segments.{header_at, records_in, segment_of, segments, recs_on, candidates, address_table, compact_table, is_used, remaining, row_of}
use Rattle.law_basic.specs.Geometry.{Ranged}
use Rattle.law_basic.specs.Mask.{is_in_empty}
use Rattle.law_drives.specs.Headers.{header_other, header_pointer, header_block_holds, Unborne, Vacant, header_keeps, headers_header_same, header_there, header_was, tidy_unborne}
use Rattle.law_drives.specs.Members.{In, any_in, none_in}
use Rattle.law_drives.specs.Range.{capacity_over}
use Rattle.law_drives.specs.Segs.{recs_here, CandAt, cand_at, at_cand, remaining_left}
use Rattle.law_drives.specs.Settled.{its_drive_low, chunk_of_it, cands_apart, SameZones, zones_header, zones_pointer, cand_goes, row_goes, there_remains, zero_here}
use Rattle.law_drives.specs.States.{slots_in}
use Rattle.law_drives.specs.Tables.{addresses_cong, row_seg_holds, compact_rows, row_none}
use Rattle.law_drives.specs.Tests.{clash, and_false_left}
use Rattle.law_drives.specs.Tidy.{Tidy, There}
use Rattle.law_drives.specs.Zones.{Shaped}
use Rattle.proof_tables.specs.Ranks.{same_best}
use Rattle.proof_tables.specs.Run.{flies, awaits, OpenZone, Lists, HealthyState}
use Rattle.proof_tables.specs.Tallies.{tally_none}
use Rattle.spec.specs.declared.Seg.{Seg}
use Rattle.law_basic.specs.Fields.{header_copied_holds, header_serial_holds}
use Rattle.law_basic.specs.Segs.{zones_in_long}
use Rattle.law_drives.specs.Growing.{used_zone}
use Rattle.proof_tables.specs.Opened.{serial_some}
use Rattle.law_views.specs.Alike.{offline_after}

-- a zone is one of a remaining segment or of none
pub zone_kind : (p : Params) (v : View) (d z : ℕ) → ((y : Seg) × In y (remaining p v 0) × (zone_on y d ≡ z)) ⊎ ((y : Seg) → In y (remaining p v 0) → zone_on y d ≡ z → ⊥)
zone_kind p v d z = go (test (any (λ y. eqb (zone_on y d) z) (remaining p v 0)))
  where
    go : Test (any (λ y. eqb (zone_on y d) z) (remaining p v 0))
        → ((y : Seg) × In y (remaining p v 0) × (zone_on y d ≡ z)) ⊎ ((y : Seg) → In y (remaining p v 0) → zone_on y d ≡ z → ⊥)
    go (yes! q) = let (y, m, e) = any_in (λ y. eqb (zone_on y d) z) (remaining p v 0) q in inl (y, m, eqb-true (zone_on y d) z e)
    go (no! q) = inr (λ y m e. clash (eq-eqb (zone_on y d) z e) (none_in (λ y. eqb (zone_on y d) z) (remaining p v 0) q y m))

-- ---- the segment that a write opens

module _ (p : Params) (r : Ranged p) (v : View) (sh : Shaped p v) (s : ℕ) (g : Seg) (t : Tidy p v s) (va : Vacant p v g) (fit : suc s < 256 ^ 8) where
  abbrev after : View
  after = store_all store_view_of (header_stores p g (suc s) 0) v

  fresh : Unborne p v (suc s)
  fresh = tidy_unborne p r v s (suc s) t (omega arith)

  keeps : (y : Seg) → There p v y → There p after y
  keeps = header_keeps p r v sh g (suc s) 0 va fit fresh

  pub head_there : There p after g
  head_there = header_there p r v sh g (suc s) 0 va fit fresh

  was : (y : Seg) → There p after y → There p v y ⊎ (y ≡ g)
  was = header_was p r v sh g (suc s) 0 va fit fresh

  same : (y : Seg) → There p v y → SameZones p v after y
  same = headers_header_same p r v sh g (suc s) 0 va fit fresh

  h0 : 0 < p.N
  h0 = omega (arith, r.drives_low)

  pub head_serial_is : header_serial p (header_at after 0 g) ≡ suc s
  head_serial_is = ap (header_serial p) (header_block_holds p r v sh g (suc s) 0 va 0 h0) ∙ header_serial_holds p 0 (zones_in p g) (suc s) 0 (zones_in_long p g) fit

  head_copied : header_copied p (header_at after 0 g) ≡ 0
  head_copied = ap (header_copied p) (header_block_holds p r v sh g (suc s) 0 va 0 h0) ∙ header_copied_holds p 0 (zones_in p g) (suc s) 0 (zones_in_long p g) (lit< tt)

  hdr_same : (y : Seg) → There p v y → header_at v 0 y ≡ header_at after 0 y
  hdr_same y m = zones_header p r v after y (same y m)

  off_same : after.offline ≡ v.offline
  off_same = offline_after (header_stores p g (suc s) 0) v

  heading_one : (d : ℕ) → d < p.N → pointer_at after d (zone_on g d) ≡ 1
  heading_one d hd = header_pointer p r v sh g (suc s) 0 va d hd

  pub head_tidy : Tidy p after (suc s)
  head_tidy = record {
    pointer_low = λ d z hd hz q. low d z hd hz q (ℕ_discrete z (zone_on g d));
    together = λ d z hd hz q. tog d z hd hz q (ℕ_discrete z (zone_on g d));
    copied_less = λ z m. less z (was z m);
    serial_known = λ z m. known z (was z m);
    no_copy = λ y z m n e. nc y z e (was y m) (was z n);
  }
    where
      low : (d z : ℕ) → d < p.N → z < p.Z → is_good p after.offline d z ≡ true → Dec (z ≡ zone_on g d) → pointer_at after d z ≤ capacity p
      low d z hd hz q (yes e) = subst (λ (x : ℕ). pointer_at after d x ≤ capacity p) (sym e) (let a = heading_one d hd in let c = capacity_over p r in omega arith)
      low d z hd hz q (no n) = subst (λ (x : ℕ). x ≤ capacity p) (sym (pointer! (header_other p r v sh g (suc s) 0 va d z hd hz n)))
          (t.pointer_low d z hd hz (ap (λ (l : List ℕ). is_good p l d z) (sym off_same) ∙ q))
        where
          pointer! : zone_at after d z ≡ zone_at v d z → pointer_at after d z ≡ pointer_at v d z
          pointer! e = unfold pointer_at in ap (λ (x : Zone). x.pointer) e

      tog : (d z : ℕ) → d < p.N → z < p.Z → is_used p after d z ≡ true → Dec (z ≡ zone_on g d) → (y : Seg) × There p after y × (zone_on y d ≡ z)
      tog d z hd hz q (yes e) = (g, head_there, sym e)
      tog d z hd hz q (no n) = let (y, m, e) = t.together d z hd hz (used_zone p v after d z off_same (header_other p r v sh g (suc s) 0 va d z hd hz n) ∙ q) in (y, keeps y m, e)

      less : (z : Seg) → There p v z ⊎ (z ≡ g) → header_copied p (header_at after 0 z) < header_serial p (header_at after 0 z)
      less z (inr e) = subst (λ (x : Seg). header_copied p (header_at after 0 x) < header_serial p (header_at after 0 x)) (sym e) (let a = head_serial_is in let b = head_copied in omega arith)
      less z (inl m) = subst (λ (x : List ℕ). header_copied p x < header_serial p x) (hdr_same z m) (t.copied_less z m)

      known : (z : Seg) → There p v z ⊎ (z ≡ g) → header_serial p (header_at after 0 z) ≤ suc s
      known z (inr e) = subst (λ (x : Seg). header_serial p (header_at after 0 x) ≤ suc s) (sym e) (let a = head_serial_is in omega arith)
      known z (inl m) = subst (λ (x : List ℕ). header_serial p x ≤ suc s) (hdr_same z m) (let a = t.serial_known z m in omega arith)

      old_low : (z : Seg) → There p v z → header_serial p (header_at after 0 z) ≤ s
      old_low z m = subst (λ (x : List ℕ). header_serial p x ≤ s) (hdr_same z m) (t.serial_known z m)

      new_is : (y : Seg) → y ≡ g → header_serial p (header_at after 0 y) ≡ suc s
      new_is y e = ap (λ (x : Seg). header_serial p (header_at after 0 x)) e ∙ head_serial_is

      nc : (y z : Seg) → header_copied p (header_at after 0 y) ≡ header_serial p (header_at after 0 z) → There p v y ⊎ (y ≡ g) → There p v z ⊎ (z ≡ g) → ⊥
      nc y z e (inr a) c =
          let x = less z c in
          let w : header_copied p (header_at after 0 y) ≡ 0 = ap (λ (x : Seg). header_copied p (header_at after 0 x)) a ∙ head_copied in
          let bad : ⊥ = omega arith in bad
      nc y z e (inl m) (inr b) =
          let x = less y (inl m) in
          let l = old_low y m in
          let w = new_is z b in
          let bad : ⊥ = omega arith in bad
      nc y z e (inl m) (inl n) = t.no_copy y z m n (ap (header_copied p) (hdr_same y m) ∙ e ∙ ap (header_serial p) (sym (hdr_same z n)))

  -- ---- the new segment has no chunk

  no_data : (d : ℕ) → d < p.N → data_stored p (zone_at after d (zone_on g d)) ≡ 0
  no_data d hd = go (zone_at after d (zone_on g d)) (as! (heading_one d hd))
    where
      as! : pointer_at after d (zone_on g d) ≡ 1 → (zone_at after d (zone_on g d)).pointer ≡ 1
      as! e = unfold pointer_at in e

      go : (q : Zone) → q.pointer ≡ 1 → data_stored p q ≡ 0
      go q e = unfold data_stored in omega arith

  pub head_cands : (a : ℕ) → best none (cands_of a (candidates p 0 (segments p v 0))) ≡ best none (cands_of a (candidates p 0 (segments p after 0)))
  head_cands a = same_best a (candidates p 0 (segments p v 0)) (candidates p 0 (segments p after 0)) (cands_apart p r after (suc s) head_tidy) fwd bwd
    where
      fwd : (c : Cand) → c.address ≡ a → In c (candidates p 0 (segments p v 0)) → In c (candidates p 0 (segments p after 0))
      fwd c e m =
          let k = cand_at p v 0 c m in
          let q = remaining_left p v 0 k.of k.remains in
          at_cand p after 0 c (cand_goes p r v after (suc s) head_tidy c k (same k.of q) (keeps k.of q))

      bwd : (c : Cand) → c.address ≡ a → In c (candidates p 0 (segments p after 0)) → In c (candidates p 0 (segments p v 0))
      bwd c e m = go (cand_at p after 0 c m)
        where
          go : CandAt p after 0 c → In c (candidates p 0 (segments p v 0))
          go k = two (was k.of (remaining_left p after 0 k.of k.remains))
            where
              two : There p v k.of ⊎ (k.of ≡ g) → In c (candidates p 0 (segments p v 0))
              two (inr e) = absurd (
                  let l = (chunk_of_it p r after (suc s) head_tidy c k).stored_there in
                  let z : data_stored p (zone_at after c.drive (zone_on k.of c.drive)) ≡ 0 =
                  ap (λ (x : Seg). data_stored p (zone_at after c.drive (zone_on x c.drive))) e ∙ no_data c.drive (its_drive_low p r after (suc s) head_tidy c k) in
                  let bad : ⊥ = omega arith in bad)
              two (inl w) = at_cand p v 0 c (cand_goes p r after v s t c k (λ d hd. sym (same k.of w d hd)) w)

  pub head_rows : (d z : ℕ) → d < p.N → z < p.Z → row_of p (segments p v 0) d z ≡ row_of p (segments p after 0) d z
  head_rows d z hd hz = go (zone_kind p v d z) (ℕ_discrete z (zone_on g d))
    where
      empty_recs : recs_on (segment_of p after 0 g) d ≡ []
      empty_recs = recs_here p after 0 g d hd (is_in_empty d) ∙ go (sealed_in p after 0 g) (zone_at after d (zone_on g d)) (no_data d hd)
        where
          go : (w : Bool) (q : Zone) → data_stored p q ≡ 0 → records_in p w q ≡ []
          go w q e = unfold records_in in (ap (λ (n : ℕ). map (record_in p w q) (below n)) e ∙ (unfold below up_from in refl))

      empty_after : row_of p (segments p after 0) d (zone_on g d) ≡ []
      empty_after = row_seg_holds p after 0 (zero_here p r) d g hd (is_in_empty d) (there_remains p r after (suc s) head_tidy g head_there) ∙ empty_recs

      go : ((y : Seg) × In y (remaining p v 0) × (zone_on y d ≡ z)) ⊎ ((y : Seg) → In y (remaining p v 0) → zone_on y d ≡ z → ⊥) → Dec (z ≡ zone_on g d)
          → row_of p (segments p v 0) d z ≡ row_of p (segments p after 0) d z
      go (inl (y, m, e)) k =
          let q = remaining_left p v 0 y m in
          subst (λ (x : ℕ). row_of p (segments p v 0) d x ≡ row_of p (segments p after 0) d x) e (row_goes p r v after s (suc s) t head_tidy d y hd q (keeps y q) (same y q))
      go (inr n) (yes e) = row_none p v 0 (zero_here p r) d z n ∙ sym (ap (row_of p (segments p after 0) d) e ∙ empty_after)
      go (inr n) (no k) = row_none p v 0 (zero_here p r) d z n ∙ sym (row_none p after 0 (zero_here p r) d z (λ y m e. two y e (was y (remaining_left p after 0 y m))))
        where
          two : (y : Seg) → zone_on y d ≡ z → There p v y ⊎ (y ≡ g) → ⊥
          two y e (inl m) = n y (there_remains p r v s t y m) e
          two y e (inr i) = k (sym e ∙ ap (λ (x : Seg). zone_on x d) i)

  pub head_addresses : address_table p (candidates p 0 (segments p v 0)) ≡ address_table p (candidates p 0 (segments p after 0))
  head_addresses = addresses_cong p (candidates p 0 (segments p v 0)) (candidates p 0 (segments p after 0)) (λ a h. head_cands a)

  pub head_compact : compact_table p (segments p v 0) ≡ compact_table p (segments p after 0)
  head_compact = compact_rows p v after 0 head_rows

  -- ---- what holds

  pub head_healthy : (st : State) → HealthyState p v st → st.serial.0 ≡ s → st.opened ≡ 0
      → ((i : ℕ) → i < 8 → flies st i ≡ false)
      → HealthyState p after (set_open st (suc s))
  head_healthy st h es nz nf = record {
    tidy = subst (λ (x : ℕ). Tidy p after x) (sym serial_is!) head_tidy;
    sealed_but = λ z m. sealed z (was z m);
    opens_at = λ n. (g, opened_is ∙ sym head_serial_is, new);
    shut = λ q. absurd (let x : suc s ≡ 0 = sym opened_is ∙ q in let y : ⊥ = omega arith in y);
    serial_fits = subst (λ (x : ℕ). x < 256 ^ 8) (sym serial_is!) fit;
    stamp_fits = subst (λ (x : ℕ). x < 256 ^ 8) (sym stamp_is) h.stamp_fits;
    lists = lists_same h.lists;
  }
    where
      su : State
      su = set_open st (suc s)

      serial_is! : su.serial.0 ≡ suc s
      serial_is! = unfold set_open in refl

      stamp_is : su.stamp.0 ≡ st.stamp.0
      stamp_is = unfold set_open in refl

      opened_is : su.opened ≡ suc s
      opened_is = unfold set_open in refl

      next_is : su.next ≡ 0
      next_is = unfold set_open in refl

      flies_is : (i : ℕ) → flies su i ≡ flies st i
      flies_is i = unfold set_open is_free filled_in_of in refl

      lists_same : Lists st → Lists su
      lists_same l = unfold set_open in record {
        numbers_long = l.numbers_long;
        filled_long = l.filled_long;
        writes_long = l.writes_long;
        landed_long = l.landed_long;
        addresses_long = l.addresses_long;
        stamps_long = l.stamps_long;
        offsets_long = l.offsets_long;
      }

      sealed : (z : Seg) → There p v z ⊎ (z ≡ g) → (su.opened ≡ header_serial p (header_at after 0 z)) ⊎ ((d : ℕ) → d < p.N → pointer_at after d (zone_on z d) ≡ capacity p)
      sealed z (inr e) = inl (opened_is ∙ sym head_serial_is ∙ ap (λ (x : Seg). header_serial p (header_at after 0 x)) (sym e))
      sealed z (inl m) = ⊎_elim (λ x. absurd (serial_some p v s z t m (sym x ∙ nz))) (λ x. inr (λ d hd. sym (zones_pointer p r v after z (same z m) d hd) ∙ x d hd)) (h.sealed_but z m)

      none : (d : ℕ) → tally (awaits su (flies su) d) slots ≡ 0
      none d = tally_none (awaits su (flies su) d) slots (λ i m. and_false_left (flies su i) (not (is_in (landed_in su i) d)) (flies_is i ∙ nf i (slots_in i m)))

      new : OpenZone p after su (flies su) g
      new = record {
        opened_zone = head_there;
        has_header = λ d hd. let e = heading_one d hd in omega arith;
        count = λ d hd. ap₂ (λ (x y : ℕ). x + y) (heading_one d hd) (none d) ∙ ap suc (sym next_is);
        below_next = λ d o hd q. absurd (let e = heading_one d hd in let z : ⊥ = omega arith in z);
        flight = λ i hi q. clash q (flies_is i ∙ nf i hi);
        once = λ i j hi hj a b e. clash a (flies_is i ∙ nf i hi);
        goes_on = λ q. absurd (let e = sym next_is ∙ q in let l = r.stripes_low in let z : ⊥ = omega arith in z);
      }
