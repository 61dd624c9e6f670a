-- Segments by number, which is their zone on drive 0: which has a zone, which are sealed, and that places are told by it (02, item 4). Assumes nothing.
use Rattle.std.specs.Prelude.{ℕ, ◌+◌, ◌*◌, ◌/◌, ◌%◌, ◌≤◌, ◌<◌, ltb, length, Bool, not, ◌&&◌, ◌≡◌}
use Rattle.disk_gather.specs.Flags.{FlagsRows, Keeps}
use Rattle.disk_gather.specs.Found.{remains_leads, found_row_seg}
use Rattle.disk_gather.specs.Owners.{row_seg, OwnersRowsLow, owner_of, owner_low, owner_has, owner_is}
use Rattle.law_basic.specs.Geometry.{Ranged, capacity-low, place_again, zone_low}
use Rattle.law_basic.specs.Mask.{is_in_empty}
use Rattle.law_basic.specs.Ranges.{Test, test, and_left, and_right}
use Rattle.law_basic.specs.Ranges.Test.{yes!, no! }
use Rattle.law_basic.specs.Segs.{ZonesLow}
use Rattle.law_drives.specs.Members.{In, keep_nothing}
use Rattle.law_drives.specs.Segs.{remaining-low, remaining_once}
use Rattle.law_drives.specs.Settled.{low_first, zero_here}
use Rattle.law_drives.specs.Spots.{none_apart, place_is_one, place_holder}
use Rattle.law_drives.specs.Tables.{seg_at, remains_at, seg-at_zone, remaining-at, at-remaining}
use Rattle.spec.specs.Drives.{View, zone_on, sealed_in, is_good}
use Rattle.spec.specs.Lists.{keep}
use Rattle.spec.specs.Params.{capacity, place_of, place_block, place_zone, place_drive}
use Rattle.spec.specs.Segments.{low_drive, remaining, holders, is_place, place_segment}
use Rattle.spec.specs.declared.Params.{Params}
use Rattle.spec.specs.declared.Seg.{Seg}
use borrow.Author.Tests.{lt-ltb, le-ltb, eq-eqb, ne_eqb, eqb-true, eqb-false}
use Rattle.std.proofs.Math.Arith.{lt_of_le-ne}
use Rattle.std.proofs.Math.Dec.{eqb}
use Rattle.std.proofs.Math.ListN.{get_or}
use Rattle.std.proofs.Math.Bool.{true, false, and-false}
use mathlib.Core.List.{List, []}
use Rattle.std.proofs.Math.Path.{sym, ap}
use Rattle.std.proofs.Common.{ap₂, ◌∙◌, subst, div-add-mod', div-lt_iff_lt-mul, le-div_iff_mul-le, arith}
use Rattle.std.proofs.Math.Decide.{dec_lt}
use Rattle.std.proofs.Math.Nat.{mod-lt}

-- ---- rows of zones, and flags

-- 01, Restart, 3: row g is kept, and its segment sealed
abbrev pub sealed_at : Params → View → List ℕ → List Bool → ℕ → Bool
sealed_at p v rows kept g = get_or kept g false && sealed_in p v 0 (row_seg rows g)

-- a table by zone of all drives has the numbers of segments, or 1024
abbrev pub OwnersLow : Params → List ℕ → Type 0
OwnersLow p ss = (p.N * p.Z ≤ length ss) × ((t : ℕ) → t < p.N * p.Z → get_or ss t 0 ≤ 1024)

-- number g stands just at the zones of segment h
abbrev pub Owns : Params → List ℕ → ℕ → Seg → Type 0
Owns p ss g h = (d z : ℕ) → d < p.N → z < p.Z → eqb (get_or ss (d * p.Z + z) 0) g ≡ eqb z (zone_on h d)

-- tables that fit: the zones of sealed segments in rows, and their numbers at just these zones
pub record Numbered (p : Params) (rows ss : List ℕ) (sealed : List Bool) : Type 0 where
  pub rows_long : 8 * p.Z ≤ length rows
  pub sealed_long : p.Z ≤ length sealed
  pub zones_low : OwnersRowsLow p rows sealed
  pub owners : OwnersLow p ss
  pub owned : (g : ℕ) → g < p.Z → get_or sealed g false ≡ true → Owns p ss g (row_seg rows g)

-- ---- what the tables say of the drives

-- 02, item 4: the tables by number say the drives' segments: which are sealed, their zones, and which places are places
pub record OwnersShown (p : Params) (v : View) (rows ss : List ℕ) (sealed : List Bool) : Type 0 where
  pub flagged : (g : ℕ) → g < p.Z → get_or sealed g false ≡ (remains_at p v 0 g && sealed_in p v 0 (seg_at p v 0 g))
  pub its_row : (g : ℕ) → g < p.Z → get_or sealed g false ≡ true → row_seg rows g ≡ seg_at p v 0 g
  pub owns : (g : ℕ) → g < p.Z → get_or sealed g false ≡ true → Owns p ss g (seg_at p v 0 g)
  pub placed : (q : ℕ) → is_place p v 0 q ≡ (ltb q (p.N * p.Z * capacity p) && not (eqb (get_or ss (q / capacity p) 0) 1024))

module _ (p : Params) (r : Ranged p) (v : View) (rows : List ℕ) (kept : List Bool) (ro : FlagsRows p v 0 rows) (ke : Keeps p v 0 kept) where
  its_seg : (g : ℕ) → g < p.Z → get_or kept g false ≡ true → row_seg rows g ≡ seg_at p v 0 g
  its_seg g h e = found_row_seg p v 0 rows g ro h (remains_leads p v 0 g (sym (ke.1 g h) ∙ e))

  it_remains : (g : ℕ) → g < p.Z → get_or kept g false ≡ true → In (seg_at p v 0 g) (remaining p v 0)
  it_remains g h e = at-remaining p v 0 (zero_here p r) g h (sym (ke.1 g h) ∙ e)

  pub owners_rows-low : OwnersRowsLow p rows kept
  owners_rows-low g h e = subst (λ (s : Seg). ZonesLow p 0 s) (sym (its_seg g h e)) (remaining-low p v 0 (zero_here p r) (seg_at p v 0 g) (it_remains g h e))

  -- a flag of a sealed segment
  module _ (sealed : List Bool) (f : (g : ℕ) → g < p.Z → get_or sealed g false ≡ sealed_at p v rows kept g) where
    sealed-kept : (g : ℕ) (h : g < p.Z) → get_or sealed g false ≡ true → get_or kept g false ≡ true
    sealed-kept g h e = and_left (get_or kept g false) (sealed_in p v 0 (row_seg rows g)) (sym (f g h) ∙ e)

    pub flags_told : (g : ℕ) → g < p.Z → get_or sealed g false ≡ (remains_at p v 0 g && sealed_in p v 0 (seg_at p v 0 g))
    flags_told g h = f g h ∙ go (test (get_or kept g false))
      where
        go : Test (get_or kept g false) → sealed_at p v rows kept g ≡ (remains_at p v 0 g && sealed_in p v 0 (seg_at p v 0 g))
        go (yes! e) = ap₂ (λ (b : Bool) (s : Seg). b && sealed_in p v 0 s) (ke.1 g h) (its_seg g h e)
        go (no! e) = ap (λ (b : Bool). b && sealed_in p v 0 (row_seg rows g)) e ∙ sym (ap (λ (b : Bool). b && sealed_in p v 0 (seg_at p v 0 g)) (sym (ke.1 g h) ∙ e))

  -- two numbers that have one zone are one
  one_number : (d g k : ℕ) → d < p.N → g < p.Z → k < p.Z → get_or kept g false ≡ true → get_or kept k false ≡ true
      → zone_on (seg_at p v 0 k) d ≡ zone_on (seg_at p v 0 g) d → k ≡ g
  one_number d g k hd hg hk eg ek e =
      let here = zero_here p r in
      let leads! : (i : ℕ) (h : i < p.Z) → get_or kept i false ≡ true → zone_on (seg_at p v 0 i) (low_drive p 0) ≡ i =
      λ i h x. seg-at_zone p v 0 here i (remains_leads p v 0 i (sym (ke.1 i h) ∙ x)) in
      sym (leads! k hk ek)
      ∙ ap (λ (s : Seg). zone_on s (low_drive p 0)) (remaining_once p v 0 here (seg_at p v 0 k) (seg_at p v 0 g) d (it_remains k hk ek) (it_remains g hg eg) hd (is_in_empty d) e)
      ∙ leads! g hg eg

  module _ (ss : List ℕ) (told : (d z : ℕ) → d < p.N → z < p.Z → get_or ss (d * p.Z + z) 0 ≡ owner_of rows kept d z p.Z) where
    -- a number in the table
    owner_there : (d z : ℕ) → d < p.N → z < p.Z → get_or ss (d * p.Z + z) 0 < 1024
        → (get_or ss (d * p.Z + z) 0 < p.Z) × (get_or kept (get_or ss (d * p.Z + z) 0) false ≡ true) × (z ≡ zone_on (seg_at p v 0 (get_or ss (d * p.Z + z) 0)) d)
    owner_there d z hd hz l = subst (λ (k : ℕ). (k < p.Z) × (get_or kept k false ≡ true) × (z ≡ zone_on (seg_at p v 0 k) d)) (sym (told d z hd hz)) go
      where
        k : ℕ
        k = owner_of rows kept d z p.Z

        go : (k < p.Z) × (get_or kept k false ≡ true) × (z ≡ zone_on (seg_at p v 0 k) d)
        go =
            let t = owner_has rows kept d z p.Z (subst (λ (x : ℕ). x < 1024) (told d z hd hz) l) in
            let e = and_left (get_or kept k false) (eqb z (zone_on (row_seg rows k) d)) t.0 in
            let f = eqb-true z (zone_on (row_seg rows k) d) (and_right (get_or kept k false) (eqb z (zone_on (row_seg rows k) d)) t.0) in
            (t.1, e, f ∙ ap (λ (s : Seg). zone_on s d) (its_seg k t.1 e))

    pub owns_kept : (g : ℕ) → g < p.Z → get_or kept g false ≡ true → Owns p ss g (seg_at p v 0 g)
    owns_kept g hg eg d z hd hz = go (test (eqb z (zone_on (seg_at p v 0 g) d)))
      where
        x : ℕ
        x = get_or ss (d * p.Z + z) 0

        go : Test (eqb z (zone_on (seg_at p v 0 g) d)) → eqb x g ≡ eqb z (zone_on (seg_at p v 0 g) d)
        go (yes! e) =
            let w : z ≡ zone_on (seg_at p v 0 g) d = eqb-true z (zone_on (seg_at p v 0 g) d) e in
            let m : (get_or kept g false && eqb z (zone_on (row_seg rows g) d)) ≡ true =
            ap₂ ◌&&◌ eg (eq-eqb z (zone_on (row_seg rows g) d) (w ∙ ap (λ (s : Seg). zone_on s d) (sym (its_seg g hg eg)))) in
            eq-eqb x g (told d z hd hz ∙ owner_is rows kept d z p.Z g hg m (λ k hk f.
            let ek = and_left (get_or kept k false) (eqb z (zone_on (row_seg rows k) d)) f in
            let ez = eqb-true z (zone_on (row_seg rows k) d) (and_right (get_or kept k false) (eqb z (zone_on (row_seg rows k) d)) f) in
            one_number d g k hd hg hk eg ek (sym (ez ∙ ap (λ (s : Seg). zone_on s d) (its_seg k hk ek)) ∙ w))) ∙ sym e
        go (no! e) = ne_eqb x g (λ s.
            let l : x < 1024 = omega (arith, s, hg, r.zones_high) in
            eqb-false z (zone_on (seg_at p v 0 g) d) e ((owner_there d z hd hz l).2 ∙ ap (λ (k : ℕ). zone_on (seg_at p v 0 k) d) s)) ∙ sym e

    pub owners_low : (t : ℕ) → t < p.N * p.Z → get_or ss t 0 ≤ 1024
    owners_low t h =
        let low : 0 < p.Z = omega (arith, r.zones_low) in
        let e : t / p.Z * p.Z + t % p.Z ≡ t = div-add-mod' t p.Z in
        let f = ap (λ (x : ℕ). get_or ss x 0) (sym e) ∙ told (t / p.Z) (t % p.Z) ((div-lt_iff_lt-mul {k = p.Z} {x = t} {y = p.N} low).1 h) (mod-lt t low) in
        omega (arith, f, owner_low rows kept (t / p.Z) (t % p.Z) p.Z r.zones_high)

    -- 02, item 4: a place is a place just in a zone of a segment
    module _ (q : ℕ) where
      abbrev C : ℕ
      C = capacity p

      abbrev dq : ℕ
      dq = place_drive p q

      abbrev zq : ℕ
      zq = place_zone p q

      hz : zq < p.Z
      hz = zone_low p r q

      pos : 0 < C
      pos = omega (arith, capacity-low p r)

      at_zone : q / C ≡ dq * p.Z + zq
      unfolding place_drive place_zone
      at_zone = sym (div-add-mod' (q / C) p.Z)

      block_low : place_block p q < C
      unfolding place_block
      block_low = mod-lt q pos

      drive_in : q < p.N * p.Z * C → dq < p.N
      unfolding place_drive
      drive_in h = (div-lt_iff_lt-mul {k = p.Z} {x = q / C} {y = p.N} (omega (arith, r.zones_low))).1 ((div-lt_iff_lt-mul {k = C} {x = q} {y = p.N * p.Z} pos).1 h)

      drive_out : p.N * p.Z * C ≤ q → p.N ≤ dq
      unfolding place_drive
      drive_out h = (le-div_iff_mul-le {k = p.Z} {x = p.N} {y = q / C} (omega (arith, r.zones_low))).1 ((le-div_iff_mul-le {k = C} {x = p.N * p.Z} {y = q} pos).1 h)

      beyond : p.N * p.Z * C ≤ q → is_place p v 0 q ≡ false
      unfolding is_place
      beyond h = ap (λ (b : Bool). (b && is_good p v.offline dq zq) && eqb (length (holders p v 0 dq zq)) 1) (le-ltb dq p.N (drive_out h))

      owned : dq < p.N → get_or ss (dq * p.Z + zq) 0 < 1024 → is_place p v 0 q ≡ true
      owned hd l =
          let t = owner_there dq zq hd hz l in
          let k = get_or ss (dq * p.Z + zq) 0 in
          let g = seg_at p v 0 k in
          let e : place_of p dq (zone_on g dq) (place_block p q) ≡ q = ap (λ (x : ℕ). place_of p dq x (place_block p q)) (sym t.2) ∙ place_again p q in
          subst (λ (x : ℕ). is_place p v 0 x ≡ true) e (place_is_one p v 0 (zero_here p r) (none_apart p v) g (it_remains k t.0 t.1) dq hd r (place_block p q) block_low)

      unowned : dq < p.N → get_or ss (dq * p.Z + zq) 0 ≡ 1024 → is_place p v 0 q ≡ false
      unfolding is_place holders
      unowned hd e =
          let none! : keep (λ g. eqb (zone_on g dq) zq) (remaining p v 0) ≡ [] =
          keep_nothing (λ g. eqb (zone_on g dq) zq) (remaining p v 0) (λ g m. ne_eqb (zone_on g dq) zq (λ s. other hd e g m s)) in
          ap (λ (l : List Seg). (ltb dq p.N && is_good p v.offline dq zq) && eqb (length l) 1) none! ∙ and-false (ltb dq p.N && is_good p v.offline dq zq)
        where
          other : dq < p.N → get_or ss (dq * p.Z + zq) 0 ≡ 1024 → (g : Seg) → In g (remaining p v 0) → zone_on g dq ≡ zq → ⊥
          other hd e g m s =
              let a = remaining-at p v 0 (zero_here p r) g m in
              let k = a.zone in
              let ek : get_or kept k false ≡ true = ke.1 k a.zone_low ∙ a.it_remains in
              let o = owns_kept k a.zone_low ek dq zq hd hz in
              let f : eqb (get_or ss (dq * p.Z + zq) 0) k ≡ true = o ∙ eq-eqb zq (zone_on (seg_at p v 0 k) dq) (sym s ∙ ap (λ (x : Seg). zone_on x dq) a.it_is) in
              omega (arith, e, eqb-true (get_or ss (dq * p.Z + zq) 0) k f, a.zone_low, r.zones_high)

      pub place_told : is_place p v 0 q ≡ (ltb q (p.N * p.Z * C) && not (eqb (get_or ss (q / C) 0) 1024))
      place_told = go (dec_lt q (p.N * p.Z * C))
        where
          entry : get_or ss (q / C) 0 ≡ get_or ss (dq * p.Z + zq) 0
          entry = ap (λ (x : ℕ). get_or ss x 0) at_zone

          go : Dec (q < p.N * p.Z * C) → is_place p v 0 q ≡ (ltb q (p.N * p.Z * C) && not (eqb (get_or ss (q / C) 0) 1024))
          go (no h) = beyond (omega arith) ∙ sym (ap (λ (b : Bool). b && not (eqb (get_or ss (q / C) 0) 1024)) (le-ltb q (p.N * p.Z * C) (omega arith)))
          go (yes h) = at (test (eqb (get_or ss (dq * p.Z + zq) 0) 1024)) ∙ ap₂ (λ (b : Bool) (x : ℕ). b && not (eqb x 1024)) (sym (lt-ltb q (p.N * p.Z * C) h)) (sym entry)
            where
              hd : dq < p.N
              hd = drive_in h

              low : get_or ss (dq * p.Z + zq) 0 ≤ 1024
              low = omega (arith, told dq zq hd hz, owner_low rows kept dq zq p.Z r.zones_high)

              at : Test (eqb (get_or ss (dq * p.Z + zq) 0) 1024) → is_place p v 0 q ≡ not (eqb (get_or ss (dq * p.Z + zq) 0) 1024)
              at (yes! e) = unowned hd (eqb-true (get_or ss (dq * p.Z + zq) 0) 1024 e) ∙ ap not (sym e)
              at (no! e) =
                  let n = eqb-false (get_or ss (dq * p.Z + zq) 0) 1024 e in
                  owned hd (go_low low n) ∙ ap not (sym e)
                where
                  go_low : get_or ss (dq * p.Z + zq) 0 ≤ 1024 → (get_or ss (dq * p.Z + zq) 0 ≡ 1024 → ⊥) → get_or ss (dq * p.Z + zq) 0 < 1024
                  go_low a b = lt_of_le-ne a b

    pub owners_shown : (sealed : List Bool) → ((g : ℕ) → g < p.Z → get_or sealed g false ≡ sealed_at p v rows kept g) → OwnersShown p v rows ss sealed
    owners_shown sealed f = record {
      flagged = flags_told sealed f;
      its_row = λ g h e. its_seg g h (sealed-kept sealed f g h e);
      owns = λ g h e. owns_kept g h (sealed-kept sealed f g h e);
      placed = place_told;
    }

    pub fitted : (sealed : List Bool) → p.Z ≤ length sealed → p.N * p.Z ≤ length ss → ((g : ℕ) → g < p.Z → get_or sealed g false ≡ sealed_at p v rows kept g)
        → Numbered p rows ss sealed
    fitted sealed long l f = record {
      rows_long = ro.0;
      sealed_long = long;
      zones_low = λ g h e. owners_rows-low g h (sealed-kept sealed f g h e);
      owners = (l, owners_low);
      owned = λ g h e. subst (Owns p ss g) (sym (its_seg g h (sealed-kept sealed f g h e))) (owns_kept g h (sealed-kept sealed f g h e));
    }

-- ---- a segment of the table

module _ (p : Params) (r : Ranged p) (v : View) (rows ss : List ℕ) (sealed : List Bool) (sh : OwnersShown p v rows ss sealed) (g : ℕ) (h : g < p.Z) (e : get_or sealed g false ≡ true) where
  pub number_remains : remains_at p v 0 g ≡ true
  number_remains = and_left (remains_at p v 0 g) (sealed_in p v 0 (seg_at p v 0 g)) (sym (sh.flagged g h) ∙ e)

  pub number_in : In (seg_at p v 0 g) (remaining p v 0)
  number_in = at-remaining p v 0 (zero_here p r) g h number_remains

  pub number_low : ZonesLow p 0 (seg_at p v 0 g)
  number_low = remaining-low p v 0 (zero_here p r) (seg_at p v 0 g) number_in

  -- its number is its zone on drive 0
  pub number_is : zone_on (seg_at p v 0 g) 0 ≡ g
  number_is = ap (zone_on (seg_at p v 0 g)) (sym (low_first p r)) ∙ seg-at_zone p v 0 (zero_here p r) g (remains_leads p v 0 g number_remains)

  -- its places are of it
  pub number_place : (d b : ℕ) → d < p.N → b < capacity p → place_segment p v 0 (place_of p d (zone_on (seg_at p v 0 g) d) b) ≡ seg_at p v 0 g
  number_place d b hd hb = place_holder p v 0 (zero_here p r) (none_apart p v) (seg_at p v 0 g) number_in d hd r b hb
