-- What the stores of a call do to the segments that there are, with none missing: one is opened, a chunk lands, one is sealed, one is reset. Assumes nothing.
use Rattle.std.specs.Prelude.{◌≡◌, refl, List, Bool, true, false, ◌⊎◌, ℕ, ◌+◌, ◌-◌, ◌^◌, ◌<◌, ltb, eqb, length}
use Rattle.std.proofs.Common.{sym, ◌∙◌, subst, inl, inr, eq-eqb, lt-ltb, arith, lit<}
use Rattle.std.proofs.Math.Nat.{sub-zero}
use Rattle.std.proofs.Math.Decide.{ℕ_discrete}
use Rattle.spec.specs.declared.Params.{Params}
use Rattle.spec.specs.declared.State.{State}
use Rattle.spec.specs.Drives.{Zone, View, zone_at, pointer_at, put_zone, store_view_of, store_all, sealed_in, header_stores, reset_stores, zone_on, zones_in}
use Rattle.spec.specs.Drives.Store.{put}
use Rattle.spec.specs.Landing.{ready, flight_rec, seal_stores}
use Rattle.spec.specs.Layout.{group, in_group_of, header_block, header_serial, header_copied, record_bytes}
use Rattle.spec.specs.Memory.{stripe_in}
use Rattle.spec.specs.Params.{footers}
use Rattle.spec.specs.Segments.{header_at, Segment}
use Rattle.law_basic.specs.Geometry.{Ranged}
use Rattle.law_basic.specs.Ranges.{and_both}
use Rattle.law_basic.specs.Segs.{segs_differ, zones_in_long}
use Rattle.law_drives.specs.Footers.{footer_chunks}
use Rattle.law_drives.specs.Headers.{header_zone_holds, header_block_holds, Unborne, Vacant, headers_header_same, header_was}
use Rattle.law_basic.specs.Fields.{header_serial_holds, header_copied_holds}
use Rattle.law_drives.specs.Puts.{put_all}
use Rattle.law_drives.specs.Resets.{reset_same, reset_was, Alone, reset_gone}
use Rattle.law_drives.specs.Settled.{SameZones, its_zone}
use Rattle.law_drives.specs.States.{StateOk}
use Rattle.law_drives.specs.Zones.{Shaped}
use Rattle.proof_tables.specs.Chunks.{not_landed, pointer_some, pointer_data, offset_group, stripe_of, chunk_zone, chunk_other, chunk_grows, open_before, open_after}
use Rattle.proof_tables.specs.Run.{flies, HealthyState}
use Rattle.proof_tables.specs.Sealing.{seal_zone, seal_grows, seal_sealed}
use Rattle.proof_layout.specs.Laid.{ZoneLaid, SegLaid, WellLaid, laid_same}
use Rattle.proof_layout.specs.Stored.{head_laid, put-laid, mend_laid}
use Rattle.spec.specs.declared.Seg.{Seg}
use Rattle.law_drives.specs.Growing.{Grows, grows_others, grows_was}
use Rattle.law_drives.specs.Tidy.{There}
use Rattle.proof_tables.specs.Opened.{open_at}

-- the zone by itself
zone_pointer : (v : View) (d z n : ℕ) → pointer_at v d z ≡ n → (zone_at v d z).pointer ≡ n
zone_pointer v d z n e = unfold pointer_at in e

-- one segment changes, and is laid out as it is then
pub all_but : (p : Params) (r : Ranged p) (v u : View) (old : List Segment) (z : Seg) → ((y : Seg) → There p u y → (z ≡ y → ⊥) → There p v y × SameZones p v u y)
    → (There p u z → SegLaid p u old z) → WellLaid p v old → WellLaid p u old
all_but p r v u old z same f l y hy = go (segs_differ z y)
  where
    go : Dec (z ≡ y) → SegLaid p u old y
    go (yes e) = subst (λ (x : Seg). SegLaid p u old x) e (f (subst (λ (x : Seg). There p u x) (sym e) hy))
    go (no n) = let (m, sm) = same y hy n in laid_same p r v u old y sm (l y m)

-- a segment grows, and is laid out as it is then
pub grown_laid : (p : Params) (r : Ranged p) (v u : View) (old : List Segment) (z : Seg) → Grows p v u z → SegLaid p u old z → WellLaid p v old → WellLaid p u old
grown_laid p r v u old z w f l =
    all_but p r v u old z (λ y m n. let k = grows_was p r v u z w y m in (k, grows_others p r v u z w y k n)) (λ q. f) l

-- 01, Write: a segment is opened under a fresh serial of 8 bytes, with nothing copied
pub opened_laid : (p : Params) (r : Ranged p) (v : View) (sh : Shaped p v) (old : List Segment) (g : Seg) (s : ℕ) (va : Vacant p v g) → s < 256 ^ 8 → Unborne p v s
    → WellLaid p v old → WellLaid p (store_all store_view_of (header_stores p g s 0) v) old
opened_laid p r v sh old g s va fit fresh l =
    all_but p r v u old g (λ y m n. was y n (header_was p r v sh g s 0 va fit fresh y m)) (λ q d hd.
    subst (λ (b : List ℕ). ZoneLaid p old (sealed_in p u 0 g) (header_serial p b) (header_copied p b) d g (zone_at u d (zone_on g d)))
    (sym (header_block_holds p r v sh g s 0 va 0 (omega (arith, r.drives_low))))
    (subst (λ (x : ℕ). ZoneLaid p old (sealed_in p u 0 g) x (header_copied p (header_block p 0 (zones_in p g) s 0)) d g (zone_at u d (zone_on g d)))
    (sym (header_serial_holds p 0 (zones_in p g) s 0 (zones_in_long p g) fit))
    (subst (λ (x : ℕ). ZoneLaid p old (sealed_in p u 0 g) s x d g (zone_at u d (zone_on g d))) (sym (header_copied_holds p 0 (zones_in p g) s 0 (zones_in_long p g) (lit< tt)))
    (subst (λ (x : Zone). ZoneLaid p old (sealed_in p u 0 g) s 0 d g x) (sym (header_zone_holds p r v sh g s 0 va d hd))
    (head_laid p r old (sealed_in p u 0 g) s 0 d g (zone_at v d (zone_on g d)) (sh.zone_ok d (zone_on g d) hd (va.vacant_low d hd)) (zone_pointer v d (zone_on g d) 0 (va.vacant_empty d hd))))))) l
  where
    u : View
    u = store_all store_view_of (header_stores p g s 0) v

    was : (y : Seg) → (g ≡ y → ⊥) → There p v y ⊎ (y ≡ g) → There p v y × SameZones p v u y
    was y n (inl m) = (m, headers_header_same p r v sh g s 0 va fit fresh y m)
    was y n (inr e) = absurd (n (sym e))

-- 01, Reclaim: a segment is reset
pub reset_laid : (p : Params) (r : Ranged p) (v : View) (sh : Shaped p v) (old : List Segment) (g : Seg) (hg : There p v g) → Alone p v g → WellLaid p v old
    → WellLaid p (store_all store_view_of (reset_stores p g) v) old
reset_laid p r v sh old g hg al l =
    all_but p r v (store_all store_view_of (reset_stores p g) v) old g (λ y m n. let k = (reset_was p r v sh g hg al y m).0 in (k, reset_same p r v sh g hg y k n))
    (λ q. absurd (reset_gone p r v sh g hg al q)) l

-- 01, Landing: a chunk
module _ (p : Params) (r : Ranged p) (v : View) (sh : Shaped p v) (st : State) (h : HealthyState p v st) (so : StateOk p st) (z : Seg) (hz : There p v z)
    (oz : st.opened ≡ header_serial p (header_at v 0 z))
    (d i : ℕ) (hd : d < p.N) (hi : i < 8) (fi : flies st i ≡ true) (rd : ready p st i d ≡ true) (b : List ℕ) (lb : length b ≡ p.B) (old : List Segment) where
  abbrev s : ℕ
  s = stripe_in st i

  abbrev v1 : View
  v1 = store_view_of (put d (zone_on z d) b (record_bytes (flight_rec p st i d))) v

  pointer_of_zone : (zone_at v d (zone_on z d)).pointer ≡ pointer_at v d (zone_on z d)
  pointer_of_zone = zone_pointer v d (zone_on z d) (pointer_at v d (zone_on z d)) refl

  stripe! : (flight_rec p st i d).stripe ≡ s
  stripe! = stripe_of p r v sh st h so z hz oz d i hd hi fi rd b lb

  in_its_group : in_group_of p (pointer_at v d (zone_on z d) - 1) s ≡ true
  in_its_group = unfold in_group_of in and_both (ltb s p.S) (eqb (group p s) (group p (pointer_at v d (zone_on z d) - 1))) (lt-ltb s p.S (so.slots_ok i hi).stripe_ok)
      (eq-eqb (group p s) (group p (pointer_at v d (zone_on z d) - 1)) (sym (offset_group p r v sh st h so z hz oz d i hd hi fi rd b lb)))

  chunk_seg : SegLaid p v old z → SegLaid p v1 old z
  chunk_seg f e he =
      subst (λ (c : List ℕ). ZoneLaid p old (sealed_in p v1 0 z) (header_serial p c) (header_copied p c) e z (zone_at v1 e (zone_on z e)))
      ((chunk_grows p r v sh st h so z hz oz d i hd hi fi rd b lb).same_head 0 (omega (arith, r.drives_low)))
      (subst (λ (w : Bool). ZoneLaid p old w (header_serial p (header_at v 0 z)) (header_copied p (header_at v 0 z)) e z (zone_at v1 e (zone_on z e)))
      (sym (open_after p r v sh st h so z hz oz d i hd hi fi rd b lb))
      (go (ℕ_discrete d e) (subst (λ (w : Bool). ZoneLaid p old w (header_serial p (header_at v 0 z)) (header_copied p (header_at v 0 z)) e z (zone_at v e (zone_on z e)))
      (open_before p r v sh st h so z hz oz d i hd hi fi rd b lb) (f e he))))
    where
      sn : ℕ
      sn = header_serial p (header_at v 0 z)

      cn : ℕ
      cn = header_copied p (header_at v 0 z)

      here : ZoneLaid p old false sn cn d z (zone_at v d (zone_on z d)) → ZoneLaid p old false sn cn d z (put_zone b (record_bytes (flight_rec p st i d)) (zone_at v d (zone_on z d)))
      here x =
          let a = pointer_some p r v sh st h so z hz oz d i hd hi fi rd b lb in
          let c = pointer_data p r v sh st h so z hz oz d i hd hi fi rd b lb in
          let y = pointer_of_zone in
          put-laid p r old sn cn d z (zone_at v d (zone_on z d)) b (flight_rec p st i d) (sh.zone_ok d (zone_on z d) hd (its_zone p r v z hz d hd).zone_low) (omega arith) (omega arith)
          (subst (λ (n : ℕ). n < p.S) (sym stripe!) (so.slots_ok i hi).stripe_ok)
          (subst (λ (n : ℕ). in_group_of p (n - 1) (flight_rec p st i d).stripe ≡ true) (sym pointer_of_zone)
          (subst (λ (n : ℕ). in_group_of p (pointer_at v d (zone_on z d) - 1) n ≡ true) (sym stripe!) in_its_group))
          (λ o l q. ((open_at p r v st h z hz oz).flight i hi fi).not_there d o hd (not_landed p r v sh st h so z hz oz d i hd hi fi rd b lb)
          (subst (λ (n : ℕ). 1 + o < n) pointer_of_zone l) (q ∙ stripe!)) x

      go : Dec (d ≡ e) → ZoneLaid p old false sn cn e z (zone_at v e (zone_on z e)) → ZoneLaid p old false sn cn e z (zone_at v1 e (zone_on z e))
      go (yes q) x = subst (λ (n : ℕ). ZoneLaid p old false sn cn n z (zone_at v1 n (zone_on z n))) q
          (subst (λ (y : Zone). ZoneLaid p old false sn cn d z y) (sym (chunk_zone p r v sh st h so z hz oz d i hd hi fi rd b lb))
          (here (subst (λ (n : ℕ). ZoneLaid p old false sn cn n z (zone_at v n (zone_on z n))) (sym q) x)))
      go (no n) x = subst (λ (y : Zone). ZoneLaid p old false sn cn e z y)
          (sym (chunk_other p r v sh st h so z hz oz d i hd hi fi rd b lb e (zone_on z e) he (its_zone p r v z hz e he).zone_low (inl n))) x

  pub chunk_laid : WellLaid p v old → WellLaid p v1 old
  chunk_laid l = grown_laid p r v v1 old z (chunk_grows p r v sh st h so z hz oz d i hd hi fi rd b lb) (chunk_seg (l z hz)) l

-- 01, Landing: a segment is sealed
pub seal_laid : (p : Params) (r : Ranged p) (v : View) (sh : Shaped p v) (old : List Segment) (z : Seg) (hz : There p v z) (behind : (e : ℕ) → e < p.N → pointer_at v e (zone_on z e) ≡ 1 + p.S)
    → sealed_in p v 0 z ≡ false → WellLaid p v old → WellLaid p (store_all store_view_of (seal_stores p v z) v) old
seal_laid p r v sh old z hz behind ns l = grown_laid p r v u old z (seal_grows p r v sh z hz behind) (seg (l z hz)) l
  where
    u : View
    u = store_all store_view_of (seal_stores p v z) v

    seg : SegLaid p v old z → SegLaid p (store_all store_view_of (seal_stores p v z) v) old z
    seg f e he =
        let q = zone_at v e (zone_on z e) in
        let sn = header_serial p (header_at v 0 z) in
        let cn = header_copied p (header_at v 0 z) in
        let m : ZoneLaid p old true sn cn e z (put_all e (zone_on z e) (footer_chunks p q 0 (footers p - 0)) q) =
        mend_laid p r e z q (sh.zone_ok e (zone_on z e) he (its_zone p r v z hz e he).zone_low) 0 (omega arith)
        (zone_pointer v e (zone_on z e) (1 + p.S) (behind e he) ∙ (let y : 1 + p.S ≡ 1 + p.S + 0 = omega arith in y))
        (λ j k. absurd (let bad : ⊥ = omega arith in bad)) old sn cn
        (subst (λ (w : Bool). ZoneLaid p old w sn cn e z q) ns (f e he)) in
        subst (λ (c : List ℕ). ZoneLaid p old (sealed_in p u 0 z) (header_serial p c) (header_copied p c) e z (zone_at u e (zone_on z e)))
        ((seal_grows p r v sh z hz behind).same_head 0 (omega (arith, r.drives_low)))
        (subst (λ (w : Bool). ZoneLaid p old w sn cn e z (zone_at u e (zone_on z e))) (sym (seal_sealed p r v sh z hz behind))
        (subst (λ (y : Zone). ZoneLaid p old true sn cn e z y) (sym (seal_zone p r v sh z hz behind e he))
        (subst (λ (n : ℕ). ZoneLaid p old true sn cn e z (put_all e (zone_on z e) (footer_chunks p q 0 n) q)) (sub-zero (footers p)) m)))
