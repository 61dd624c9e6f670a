-- The zones of a new segment behind its headers: it is there, and so is all that was.
use Rattle.std.specs.Prelude.{◌≡◌, true, false, ◌⊎◌, ◌≢◌, ℕ, suc, ◌^◌, min, ◌≤◌, ◌<◌, eqb, length, get_or, set}
use Rattle.std.proofs.Math.Path.{refl, ap}
use Rattle.std.proofs.Common.{sym, ◌∙◌, subst, inl, inr, ⊎_elim, eq-eqb, ne_eqb, eqb-true, get_or-set_same}
use mathlib.Core.List.{List, [], ◌∷◌, map}
use Rattle.std.proofs.Math.Bool.{not}
use Rattle.std.proofs.Math.Decide.{ℕ_discrete}
use native.Mathlib.Omega.{arith}
use Rattle.spec.specs.declared.Params.{Params}
use Rattle.spec.specs.declared.Seg.{Seg}
use Rattle.spec.specs.Drives.{Chunk, mk_chunk, no_chunk, Zone, View, zone_at, pointer_at, chunk_at, Store, put_zone, store_view_of, store_all, zone_on, zero_spare, header_stores, zones_in}
use Rattle.spec.specs.Drives.Store.{put}
use Rattle.spec.specs.Lists.{below, keep, least, is_nil, first_or}
use Rattle.spec.specs.Params.{capacity, drives_of}
use Rattle.law_drives.specs.Tests.{clash, and_false_right, cond_false, cond_true, eqb_self}
use Rattle.law_basic.specs.Fields.{header_serial_holds}
use Rattle.law_basic.specs.Geometry.{Ranged}
use Rattle.law_basic.specs.Ranges.{and_both, least-le}
use Rattle.law_basic.specs.Segs.{with_same, with_zone, zones_in_long}
use Rattle.law_drives.specs.Growing.{head_zone, used_zone}
use Rattle.law_drives.specs.Heads.{Headed, headed_keeps, headed_there, headed_was}
use Rattle.law_drives.specs.Members.{In, below_in, first_in, in_below, in_map, keep_in, map_in}
use Rattle.law_drives.specs.Puts.{header_sound, hits-headers}
use Rattle.law_drives.specs.Range.{capacity_over}
use Rattle.law_drives.specs.Settled.{SameZones, its_zone}
use Rattle.law_drives.specs.Tidy.{There, Tidy}
use Rattle.law_drives.specs.Zones.{hits, Room, Roomy, Shaped, Within, put_pointer, zone_after, zone_store}
use Rattle.spec.specs.Drives.{empty_count, empty_zones, good_zones, is_good, new_seg, seg_with}
use Rattle.spec.specs.Layout.{header_block, header_serial}
use Rattle.spec.specs.Segments.{header_at, is_used, serial_in}
use Rattle.law_views.specs.Alike.{offline_after}

-- ---- a new segment

-- a segment whose zones are good and empty
pub record Vacant (p : Params) (v : View) (g : Seg) : Type 0 where
  pub vacant_low : (d : ℕ) → d < p.N → zone_on g d < p.Z
  pub vacant_good : (d : ℕ) → d < p.N → is_good p v.offline d (zone_on g d) ≡ true
  pub vacant_empty : (d : ℕ) → d < p.N → pointer_at v d (zone_on g d) ≡ 0
  pub vacant_is : g ≡ seg_with p (zone_on g)

-- a serial that no zone bears
abbrev pub Unborne : Params → View → ℕ → Type 0
Unborne p v s = (d z : ℕ) → d < p.N → z < p.Z → is_used p v d z ≡ true → serial_in p v d z ≡ s → ⊥

-- the segment of each drive's zone
pub with_vacant : (p : Params) (v : View) (f : ℕ → ℕ) → ((d : ℕ) → d < p.N → (f d < p.Z) × (is_good p v.offline d (f d) ≡ true) × (pointer_at v d (f d) ≡ 0))
    → Vacant p v (seg_with p f)
with_vacant p v f h = record {
  vacant_low = λ d k. subst (λ (n : ℕ). n < p.Z) (sym (with_zone p f d k)) (h d k).0;
  vacant_good = λ d k. subst (λ (n : ℕ). is_good p v.offline d n ≡ true) (sym (with_zone p f d k)) (h d k).1;
  vacant_empty = λ d k. subst (λ (n : ℕ). pointer_at v d n ≡ 0) (sym (with_zone p f d k)) (h d k).2;
  vacant_is = with_same p f (zone_on (seg_with p f)) (λ d k. sym (with_zone p f d k));
}

pub least_in : (n : ℕ) (l : List ℕ) (a : ℕ) → In a l → least n l ≤ a
unfolding least
least_in n [] a m = absurd m
least_in n (k ∷ l) a m = go m (least_in (min n k) l a)
  where
    go : (a ≡ k) ⊎ In a l → (In a l → least (min n k) l ≤ a) → least (min n k) l ≤ a
    go (inl e) ih = let h = least-le (min n k) l in omega arith
    go (inr i) ih = ih i

-- each drive has as many empty zones
pub empty_some : (p : Params) (v : View) (d : ℕ) → d < p.N → empty_count p v ≤ length (empty_zones p v d)
unfolding empty_count drives_of
empty_some p v d h =
    least_in p.Z (map (λ d. length (empty_zones p v d)) (below p.N)) (length (empty_zones p v d)) (in_map (λ d. length (empty_zones p v d)) (below p.N) d (in_below p.N d h))

-- what the lists of empty and of good zones keep
empty_zones_kept : (p : Params) (v : View) (d z : ℕ) → In z (empty_zones p v d) → In z (keep (λ z. eqb (pointer_at v d z) 0) (good_zones p v.offline d))
unfolding empty_zones
empty_zones_kept p v d z m = m

good_zones_kept : (p : Params) (v : View) (d z : ℕ) → In z (good_zones p v.offline d) → In z (keep (is_good p v.offline d) (below p.Z))
unfolding good_zones
good_zones_kept p v d z m = m

-- the lowest empty zone of each drive
pub new_vacant : (p : Params) (v : View) → 1 ≤ empty_count p v → Vacant p v (new_seg p v)
unfolding new_seg
new_vacant p v h = with_vacant p v (λ d. first_or 0 (empty_zones p v d)) (λ d k. of d (first_in (empty_zones p v d) 0 (some (empty_zones p v d) (let a = empty_some p v d k in omega arith))))
  where
    some : (l : List ℕ) → 1 ≤ length l → is_nil l ≡ false
    some [] a = absurd (let q : ⊥ = omega arith in q)
    some (n ∷ l) a = unfold is_nil in refl

    of : (d : ℕ) → In (first_or 0 (empty_zones p v d)) (empty_zones p v d)
        → (first_or 0 (empty_zones p v d) < p.Z) × (is_good p v.offline d (first_or 0 (empty_zones p v d)) ≡ true) × (pointer_at v d (first_or 0 (empty_zones p v d)) ≡ 0)
    of d m =
        let z = first_or 0 (empty_zones p v d) in
        let e = keep_in (λ z. eqb (pointer_at v d z) 0) (good_zones p v.offline d) z (empty_zones_kept p v d z m) in
        let g = keep_in (is_good p v.offline d) (below p.Z) z (good_zones_kept p v d z e.0) in
        (below_in p.Z z g.0, g.1, eqb-true (pointer_at v d z) 0 e.1)

-- an empty zone isn't used
pub empty_unused : (p : Params) (v : View) (d z : ℕ) → pointer_at v d z ≡ 0 → is_used p v d z ≡ false
unfolding is_used
empty_unused p v d z e = and_false_right (is_good p v.offline d z) (not (eqb (pointer_at v d z) 0)) (ap not (eq-eqb (pointer_at v d z) 0 e))

-- no segment that there is has its zones
pub vacant_other : (p : Params) (r : Ranged p) (v : View) (g y : Seg) (d : ℕ) → Vacant p v g → There p v y → d < p.N → zone_on y d ≢ zone_on g d
vacant_other p r v g y d va m hd e =
    clash (its_zone p r v y m d hd).used (ap (is_used p v d) e ∙ empty_unused p v d (zone_on g d) (va.vacant_empty d hd))

-- a serial above all that are known
pub tidy_unborne : (p : Params) (r : Ranged p) (v : View) (s n : ℕ) → Tidy p v s → s < n → Unborne p v n
tidy_unborne p r v s n t l d z hd hz q e =
    let (g, m, i) = t.together d z hd hz q in
    let k = t.serial_known g m in
    let a : header_serial p (header_at v 0 g) ≡ n = sym (its_zone p r v g m d hd).serial ∙ ap (serial_in p v d) i ∙ e in
    let bad : ⊥ = omega arith in bad

-- ---- its zones behind the headers

module _ (p : Params) (r : Ranged p) (v : View) (sh : Shaped p v) (g : Seg) (rn cn : ℕ) (va : Vacant p v g) where
  abbrev hs : List Store
  hs = header_stores p g rn cn

  abbrev u : View
  u = store_all store_view_of hs v

  abbrev its_put : ℕ → List Store
  its_put d = put d (zone_on g d) (header_block p d (zones_in p g) rn cn) zero_spare ∷ []

  on_zone : (d : ℕ) → d < p.N → hits d (zone_on g d) hs ≡ its_put d
  on_zone d hd = hits-headers p d (zone_on g d) g rn cn hd ∙ cond_true (eqb (zone_on g d) (zone_on g d)) (its_put d) [] (eqb_self (zone_on g d))

  off_zone : (d z : ℕ) → d < p.N → z ≢ zone_on g d → hits d z hs ≡ []
  off_zone d z hd n = hits-headers p d z g rn cn hd ∙ cond_false (eqb (zone_on g d) z) (its_put d) [] (ne_eqb (zone_on g d) z (λ e. n (sym e)))

  pub header_zone_holds : (d : ℕ) → d < p.N → zone_at u d (zone_on g d) ≡ put_zone (header_block p d (zones_in p g) rn cn) zero_spare (zone_at v d (zone_on g d))
  header_zone_holds d hd =
      zone_after p v d (zone_on g d) hs sh.sized hd (va.vacant_low d hd) ∙ ap (λ (l : List Store). store_all zone_store l (zone_at v d (zone_on g d))) (on_zone d hd) ∙ once
    where
      once : store_all zone_store (its_put d) (zone_at v d (zone_on g d)) ≡ put_zone (header_block p d (zones_in p g) rn cn) zero_spare (zone_at v d (zone_on g d))
      once = unfold store_all zone_store in refl

  pub header_other : (d z : ℕ) → d < p.N → z < p.Z → z ≢ zone_on g d → zone_at u d z ≡ zone_at v d z
  header_other d z hd hz n =
      zone_after p v d z hs sh.sized hd hz ∙ ap (λ (l : List Store). store_all zone_store l (zone_at v d z)) (off_zone d z hd n) ∙ nothing
    where
      nothing : store_all zone_store [] (zone_at v d z) ≡ zone_at v d z
      nothing = unfold store_all in refl

  pub header_pointer : (d : ℕ) → d < p.N → pointer_at u d (zone_on g d) ≡ 1
  header_pointer d hd =
      at (ap (λ (q : Zone). q.pointer) (header_zone_holds d hd) ∙ put_pointer (header_block p d (zones_in p g) rn cn) zero_spare (zone_at v d (zone_on g d)) ∙ ap suc (as! (va.vacant_empty d hd)))
    where
      at : (zone_at u d (zone_on g d)).pointer ≡ 1 → pointer_at u d (zone_on g d) ≡ 1
      at e = unfold pointer_at in e

      as! : pointer_at v d (zone_on g d) ≡ 0 → (zone_at v d (zone_on g d)).pointer ≡ 0
      as! e = unfold pointer_at in e

  pub header_block_holds : (d : ℕ) → d < p.N → header_at u d g ≡ header_block p d (zones_in p g) rn cn
  header_block_holds d hd =
      at ∙ ap (λ (q : Zone). (get_or q.blocks 0 no_chunk).block) (header_zone_holds d hd)
      ∙ back (zone_at v d (zone_on g d)) (as! (va.vacant_empty d hd)) (sh.zone_ok d (zone_on g d) hd (va.vacant_low d hd)).blocks_long
    where
      at : header_at u d g ≡ (get_or (zone_at u d (zone_on g d)).blocks 0 no_chunk).block
      at = unfold header_at chunk_at in refl

      as! : pointer_at v d (zone_on g d) ≡ 0 → (zone_at v d (zone_on g d)).pointer ≡ 0
      as! e = unfold pointer_at in e

      back : (q : Zone) → q.pointer ≡ 0 → length q.blocks ≡ capacity p
          → (get_or (put_zone (header_block p d (zones_in p g) rn cn) zero_spare q).blocks 0 no_chunk).block ≡ header_block p d (zones_in p g) rn cn
      back q e l = unfold put_zone in (ap (λ (x : ℕ). (get_or (set q.blocks x (mk_chunk (header_block p d (zones_in p g) rn cn) zero_spare)) 0 no_chunk).block) e
          ∙ ap (λ (c : Chunk). c.block) (get_or-set_same q.blocks 0 (mk_chunk (header_block p d (zones_in p g) rn cn) zero_spare) no_chunk (let c = capacity_over p r in omega arith)))

  pub header_roomy : Roomy p v hs
  header_roomy d z hd hz = go (ℕ_discrete z (zone_on g d))
    where
      go : Dec (z ≡ zone_on g d) → Room p (pointer_at v d z) (hits d z hs)
      go (no n) = subst (λ (l : List Store). Room p (pointer_at v d z) l) (sym (off_zone d z hd n)) tt
      go (yes e) = subst (λ (n : ℕ). Room p (pointer_at v d n) (hits d n hs)) (sym e)
          (subst (λ (l : List Store). Room p (pointer_at v d (zone_on g d)) l) (sym (on_zone d hd))
          (subst (λ (x : ℕ). Room p x (its_put d)) (sym (va.vacant_empty d hd))
          (record { room = let c = capacity_over p r in omega arith; fine = header_sound p r d (zones_in p g) rn cn (zones_in_long p g) }, tt)))

  pub header_within : (s : Store) → In s hs → Within p s
  header_within s m = go (as! m)
    where
      as! : In s hs → In s (map (λ d. put d (zone_on g d) (header_block p d (zones_in p g) rn cn) zero_spare) (below p.N))
      as! m = unfold header_stores drives_of in m

      go : In s (map (λ d. put d (zone_on g d) (header_block p d (zones_in p g) rn cn) zero_spare) (below p.N)) → Within p s
      go m =
          let (d, i, e) = map_in (λ d. put d (zone_on g d) (header_block p d (zones_in p g) rn cn) zero_spare) (below p.N) s m in
          let hd = below_in p.N d i in
          subst (λ (x : Store). Within p x) (sym e) (hd, va.vacant_low d hd)

  -- ---- the segments behind them

  module _ (fit : rn < 256 ^ 8) (fresh : Unborne p v rn) where
    pub header_serial_in : (d : ℕ) → d < p.N → serial_in p u d (zone_on g d) ≡ rn
    header_serial_in d hd = as! (ap (header_serial p) (header_block_holds d hd) ∙ header_serial_holds p d (zones_in p g) rn cn (zones_in_long p g) fit)
      where
        as! : header_serial p (header_at u d g) ≡ rn → serial_in p u d (zone_on g d) ≡ rn
        as! e = unfold serial_in header_at in e

    pub headed : Headed p v u rn (zone_on g)
    headed = record {
      head_low = va.vacant_low;
      head_unused = λ d hd. empty_unused p v d (zone_on g d) (va.vacant_empty d hd);
      head_used = λ d hd. used! d hd;
      head_serial = header_serial_in;
      other_used = λ d z hd hz n. used_zone p v u d z (offline_after hs v) (header_other d z hd hz n);
      other_serial = λ d z hd hz n _. serial! d z (header_other d z hd hz n);
      serial_fresh = fresh;
    }
      where
        used! : (d : ℕ) → d < p.N → is_used p u d (zone_on g d) ≡ true
        used! d hd = unfold is_used in and_both (is_good p u.offline d (zone_on g d)) (not (eqb (pointer_at u d (zone_on g d)) 0))
            (ap (λ (l : List ℕ). is_good p l d (zone_on g d)) (offline_after hs v) ∙ va.vacant_good d hd)
            (ap not (ne_eqb (pointer_at u d (zone_on g d)) 0 (λ e. let a = header_pointer d hd in let bad : ⊥ = omega arith in bad)))

        serial! : (d z : ℕ) → zone_at u d z ≡ zone_at v d z → serial_in p v d z ≡ serial_in p u d z
        serial! d z e = unfold serial_in in ap (header_serial p) (head_zone v u d z e)

    pub header_keeps : (y : Seg) → There p v y → There p u y
    header_keeps = headed_keeps p r v u rn (zone_on g) headed

    pub header_there : There p u g
    header_there = subst (There p u) (sym va.vacant_is) (headed_there p r v u rn (zone_on g) headed)

    pub header_was : (y : Seg) → There p u y → There p v y ⊎ (y ≡ g)
    header_was y m = ⊎_elim (λ k. inl k) (λ e. inr (e ∙ sym va.vacant_is)) (headed_was p r v u rn (zone_on g) headed y m)

    -- the zones of those that were there
    pub headers_header_same : (y : Seg) → There p v y → SameZones p v u y
    headers_header_same y m d hd = sym (header_other d (zone_on y d) hd (its_zone p r v y m d hd).zone_low (vacant_other p r v g y d va m hd))
