-- Segments gathered by serial (02, item 4): the lowest zone that bears a serial, the segments left by 1, that they are apart, and what alone decides them.
use Rattle.std.specs.Prelude.{◌≡◌, Bool, false, ◌&&◌}
use Rattle.std.proofs.Math.Path.{refl, sym, ap, ap₂, subst}
use Rattle.std.proofs.Common.{◌∙◌, arith}
use mathlib.Core.List.{List, map}
use Rattle.std.proofs.Math.Bool.{true, not}
use Prim.Native.Nat.{ℕ, zero, suc, ◌+◌, ◌≤◌, ◌<◌}
use Rattle.std.proofs.Math.Decide.{dec_lt}
use borrow.Author.Tests.{eq-eqb, eqb-true, lt-ltb, ltb-true, not-true}
use Rattle.std.proofs.Math.Dec.{eqb, ltb}
use Rattle.spec.specs.declared.Params.{Params}
use Rattle.spec.specs.declared.Seg.{Seg}
use Rattle.spec.specs.Drives.{View, chunk_at, zone_on, same_seg}
use Rattle.spec.specs.Layout.{header_serial, header_copied, header_zone}
use Rattle.spec.specs.Lists.{up_from, below, all, any, keep, cons_if, first_or, is_in}
use Rattle.spec.specs.Params.{drives_of, present}
use Rattle.spec.specs.Segments.{low_drive, is_used, serial_in, bearing, lowest_bearing, zone_for, seg_for, leads, gathered, header_at, left_by1, is_copy, remaining}
use Rattle.law_basic.specs.Ranges.{Test, test, and_left, and_right, and_both}
use Rattle.law_basic.specs.Ranges.Test.{yes!, no! }
use Rattle.law_basic.specs.Segs.{with_zone, with_same}
use Rattle.law_drives.specs.Members.{In, in_map, map_in, in_keep, keep_in, all_in, in_all, any_cong, keep_cong, map_cong, below_in, in_below}
use Rattle.law_drives.specs.Tests.{clash, and_false_left, cond_true, cond_false}

-- ---- the lowest number that passes a test; e where none does

pub low_passes : (f : ℕ → Bool) (i m e : ℕ) → i + m ≤ e → first_or e (keep f (up_from i m)) < e
    → (f (first_or e (keep f (up_from i m))) ≡ true) × (first_or e (keep f (up_from i m)) < i + m)
    × ((k : ℕ) → i ≤ k → k < first_or e (keep f (up_from i m)) → f k ≡ false)
unfolding keep up_from cons_if first_or
low_passes f i zero e h l = absurd (let q : ⊥ = omega arith in q)
low_passes f i (suc m) e h l = go (test (f i)) (low_passes f (suc i) m e (omega arith)) l
  where
    rest : ℕ
    rest = first_or e (keep f (up_from (suc i) m))

    Ok : ℕ → Type 0
    Ok n = (f n ≡ true) × (n < i + suc m) × ((k : ℕ) → i ≤ k → k < n → f k ≡ false)

    go : Test (f i) → (rest < e → (f rest ≡ true) × (rest < suc i + m) × ((k : ℕ) → suc i ≤ k → k < rest → f k ≡ false))
        → first_or e (cons_if (f i) i (keep f (up_from (suc i) m))) < e → Ok (first_or e (cons_if (f i) i (keep f (up_from (suc i) m))))
    go (yes! q) ih x = rw q (q, (omega arith), (λ k a b. absurd (let y : ⊥ = omega arith in y)))
    go (no! q) ih x =
        let y = ih (subst (λ (b : Bool). first_or e (cons_if b i (keep f (up_from (suc i) m))) < e) q x) in
        rw q (y.0, (let z = y.1 in omega arith), (λ k a b. below! k a b y.2 (dec_lt i k)))
      where
        below! : (k : ℕ) → i ≤ k → k < rest → ((j : ℕ) → suc i ≤ j → j < rest → f j ≡ false) → Dec (i < k) → f k ≡ false
        below! k a b r (yes z) = r k (omega arith) b
        below! k a b r (no z) = let e : k ≡ i = omega arith in ap f e ∙ q

pub low_under : (f : ℕ → Bool) (i m e k : ℕ) → i ≤ k → k < i + m → f k ≡ true → first_or e (keep f (up_from i m)) ≤ k
unfolding keep up_from cons_if first_or
low_under f i zero e k a b q = absurd (let x : ⊥ = omega arith in x)
low_under f i (suc m) e k a b q = go (test (f i)) (dec_lt i k) (λ l. low_under f (suc i) m e k (omega arith) (omega arith) q)
  where
    go : Test (f i) → Dec (i < k) → (i < k → first_or e (keep f (up_from (suc i) m)) ≤ k) → first_or e (cons_if (f i) i (keep f (up_from (suc i) m))) ≤ k
    go (yes! x) y ih = rw x a
    go (no! x) (yes y) ih = rw x (ih y)
    go (no! x) (no y) ih = let z : k ≡ i = omega arith in clash (ap f (sym z) ∙ q) x

-- ---- zones that bear a serial

-- zone z of drive d is the lowest that bears serial r
pub record Borne (p : Params) (v : View) (d r z : ℕ) : Type 0 where
  pub zone_low : z < p.Z
  pub used : is_used p v d z ≡ true
  pub serial : serial_in p v d z ≡ r
  pub first : (k : ℕ) → k < z → is_used p v d k ≡ true → serial_in p v d k ≡ r → ⊥

module _ (p : Params) (v : View) (d r : ℕ) where
  abbrev bears : ℕ → Bool
  bears z = is_used p v d z && eqb (serial_in p v d z) r

  is_lowest : lowest_bearing p v d r ≡ first_or p.Z (keep bears (up_from 0 p.Z))
  unfolding lowest_bearing bearing below
  is_lowest = refl

  pub borne : lowest_bearing p v d r < p.Z → Borne p v d r (lowest_bearing p v d r)
  borne h =
      let y = low_passes bears 0 p.Z p.Z (omega arith) (subst (λ (n : ℕ). n < p.Z) is_lowest h) in
      subst (Borne p v d r) (sym is_lowest) (record {
        zone_low = let l = y.1 in omega arith;
        used = and_left (is_used p v d n) (eqb (serial_in p v d n) r) y.0;
        serial = eqb-true (serial_in p v d n) r (and_right (is_used p v d n) (eqb (serial_in p v d n) r) y.0);
        first = λ k l u s. clash (and_both (is_used p v d k) (eqb (serial_in p v d k) r) u (eq-eqb (serial_in p v d k) r s)) (y.2 k (omega arith) l);
      })
    where
      n : ℕ
      n = first_or p.Z (keep bears (up_from 0 p.Z))

  -- a zone that bears it is no lower
  pub lowest_under : (z : ℕ) → z < p.Z → is_used p v d z ≡ true → serial_in p v d z ≡ r → lowest_bearing p v d r ≤ z
  lowest_under z h u s =
      subst (λ (n : ℕ). n ≤ z) (sym is_lowest) (low_under bears 0 p.Z p.Z z (omega arith) (omega arith)
      (and_both (is_used p v d z) (eqb (serial_in p v d z) r) u (eq-eqb (serial_in p v d z) r s)))

  pub borne_is : (z : ℕ) → Borne p v d r z → lowest_bearing p v d r ≡ z
  borne_is z b = go (dec_lt (lowest_bearing p v d r) z)
    where
      go : Dec (lowest_bearing p v d r < z) → lowest_bearing p v d r ≡ z
      go (yes l) = let y = borne (let k = b.zone_low in omega arith) in absurd (b.first (lowest_bearing p v d r) l y.used y.serial)
      go (no n) = let y = lowest_under z b.zone_low b.used b.serial in omega arith

-- one zone bears one serial
pub borne_once : (p : Params) (v : View) (d r s z : ℕ) → Borne p v d r z → Borne p v d s z → r ≡ s
borne_once p v d r s z a b = sym a.serial ∙ b.serial

-- ---- drives that are present

pub present_in : (p : Params) (gone d : ℕ) → In d (present p gone) → (d < p.N) × (is_in gone d ≡ false)
unfolding present drives_of
present_in p gone d m = let (i, q) = keep_in (λ d. not (is_in gone d)) (below p.N) d m in (below_in p.N d i, not-true (is_in gone d) q)

pub in_present : (p : Params) (gone d : ℕ) → d < p.N → is_in gone d ≡ false → In d (present p gone)
unfolding present drives_of
in_present p gone d h q = in_keep (λ d. not (is_in gone d)) (below p.N) d (in_below p.N d h) (ap not q)

-- ---- the segments left by 1

module _ (p : Params) (v : View) (gone : ℕ) where
  pub for_here : (r d : ℕ) → d < p.N → is_in gone d ≡ false → zone_on (seg_for p v gone r) d ≡ lowest_bearing p v d r
  unfolding seg_for zone_for
  for_here r d h q = with_zone p (zone_for p v gone r) d h ∙ cond_false (is_in gone d) (header_zone p (low_head r) d) (lowest_bearing p v d r) q
    where
      low_head : ℕ → List ℕ
      low_head r = (chunk_at v (low_drive p gone) (lowest_bearing p v (low_drive p gone) r) 0).block

  pub for_gone : (r d : ℕ) → d < p.N → is_in gone d ≡ true
      → zone_on (seg_for p v gone r) d ≡ header_zone p (chunk_at v (low_drive p gone) (lowest_bearing p v (low_drive p gone) r) 0).block d
  unfolding seg_for zone_for
  for_gone r d h q =
      with_zone p (zone_for p v gone r) d h
      ∙ cond_true (is_in gone d) (header_zone p (chunk_at v (low_drive p gone) (lowest_bearing p v (low_drive p gone) r) 0).block d) (lowest_bearing p v d r) q

  -- a segment left by 1: its serial, and its zones on the present drives
  pub record GatherLeft (g : Seg) : Type 0 where
    pub serial : ℕ
    pub is_for : g ≡ seg_for p v gone serial
    pub on : (d : ℕ) → d < p.N → is_in gone d ≡ false → Borne p v d serial (zone_on g d)

  -- ---- what the lowest present drive shows

  module _ (here : (low_drive p gone < p.N) × (is_in gone (low_drive p gone) ≡ false)) where
    abbrev low : ℕ
    low = low_drive p gone

    pub left_in : (g : Seg) → In g (left_by1 p v gone) → GatherLeft g
    unfolding left_by1 gathered
    left_in g m =
        let (i, q) = keep_in (λ g. all (λ d. ltb (zone_on g d) p.Z) (present p gone)) (gathered p v gone) g m in
        let (z, j, e) = map_in (λ z. seg_for p v gone (serial_in p v low z)) (keep (leads p v low) (below p.Z)) g i in
        record {
          serial = serial_in p v low z;
          is_for = e;
          on = λ d h k.
              let s : zone_on g d ≡ lowest_bearing p v d (serial_in p v low z) = ap (λ (x : Seg). zone_on x d) e ∙ for_here (serial_in p v low z) d h k in
              let l : zone_on g d < p.Z = ltb-true (zone_on g d) p.Z (all_in (λ d. ltb (zone_on g d) p.Z) (present p gone) q d (in_present p gone d h k)) in
              subst (Borne p v d (serial_in p v low z)) (sym s) (borne p v d (serial_in p v low z) (subst (λ (n : ℕ). n < p.Z) s l));
        }

    -- a serial that every present drive bears
    pub in_left_by_1 : (r : ℕ) → ((d : ℕ) → d < p.N → is_in gone d ≡ false → lowest_bearing p v d r < p.Z) → In (seg_for p v gone r) (left_by1 p v gone)
    unfolding left_by1 gathered leads
    in_left_by_1 r h =
        let z = lowest_bearing p v low r in
        let b = borne p v low r (h low here.0 here.1) in
        let t : leads p v low z ≡ true = and_both (is_used p v low z) (eqb (lowest_bearing p v low (serial_in p v low z)) z) b.used
        (eq-eqb (lowest_bearing p v low (serial_in p v low z)) z (ap (lowest_bearing p v low) b.serial)) in
        let m : In (seg_for p v gone r) (gathered p v gone) = subst (λ (n : ℕ). In (seg_for p v gone n) (gathered p v gone)) b.serial
        (in_map (λ z. seg_for p v gone (serial_in p v low z)) (keep (leads p v low) (below p.Z)) z (in_keep (leads p v low) (below p.Z) z (in_below p.Z z b.zone_low) t)) in
        in_keep (λ g. all (λ d. ltb (zone_on g d) p.Z) (present p gone)) (gathered p v gone) (seg_for p v gone r) m
        (in_all (λ d. ltb (zone_on (seg_for p v gone r) d) p.Z) (present p gone)
        (λ d i. let (a, k) = present_in p gone d i in
        lt-ltb (zone_on (seg_for p v gone r) d) p.Z (subst (λ (n : ℕ). n < p.Z) (sym (for_here r d a k)) (h d a k))))

    -- segments left by 1 are apart on every present drive
    pub left_once : (g h : Seg) (d : ℕ) → In g (left_by1 p v gone) → In h (left_by1 p v gone) → d < p.N → is_in gone d ≡ false → zone_on g d ≡ zone_on h d → g ≡ h
    left_once g h d mg mh k q e =
        let a = left_in g mg in
        let b = left_in h mh in
        let s : a.serial ≡ b.serial = borne_once p v d a.serial b.serial (zone_on h d) (subst (Borne p v d a.serial) e (a.on d k q)) (b.on d k q) in
        a.is_for ∙ ap (seg_for p v gone) s ∙ sym b.is_for

    -- the serial in its header, on every present drive
    pub left_serial : (g : Seg) (m : In g (left_by1 p v gone)) (d : ℕ) → d < p.N → is_in gone d ≡ false → header_serial p (header_at v d g) ≡ (left_in g m).serial
    unfolding header_at serial_in
    left_serial g m d k q = ((left_in g m).on d k q).serial

    pub serial_one : (g h : Seg) → In g (left_by1 p v gone) → In h (left_by1 p v gone)
        → header_serial p (header_at v low g) ≡ header_serial p (header_at v low h) → g ≡ h
    serial_one g h mg mh e =
        let a = left_in g mg in
        let b = left_in h mh in
        a.is_for ∙ ap (seg_for p v gone) (sym (left_serial g mg low here.0 here.1) ∙ e ∙ left_serial h mh low here.0 here.1) ∙ sym b.is_for

-- ---- what alone decides them: pointers that are 0 or not, and the headers below the others

-- two views with the same heads on the present drives
pub record SameHeads (p : Params) (gone : ℕ) (v u : View) : Type 0 where
  pub same_used : (d z : ℕ) → d < p.N → is_in gone d ≡ false → z < p.Z → is_used p v d z ≡ is_used p u d z
  pub same_head : (d z : ℕ) → d < p.N → is_in gone d ≡ false → z < p.Z → is_used p v d z ≡ true → (chunk_at v d z 0).block ≡ (chunk_at u d z 0).block

module _ (p : Params) (gone : ℕ) (v u : View) (s : SameHeads p gone v u) where
  gather_same_serial : (d z : ℕ) → d < p.N → is_in gone d ≡ false → z < p.Z → is_used p v d z ≡ true → serial_in p v d z ≡ serial_in p u d z
  unfolding serial_in
  gather_same_serial d z h q l e = ap (header_serial p) (s.same_head d z h q l e)

  pub same_lowest : (d r : ℕ) → d < p.N → is_in gone d ≡ false → lowest_bearing p v d r ≡ lowest_bearing p u d r
  unfolding lowest_bearing bearing
  same_lowest d r h q = ap (first_or p.Z)
      (keep_cong (λ z. is_used p v d z && eqb (serial_in p v d z) r) (λ z. is_used p u d z && eqb (serial_in p u d z) r) (below p.Z) (λ z m. go z (below_in p.Z z m) (test (is_used p v d z))))
    where
      go : (z : ℕ) → z < p.Z → Test (is_used p v d z) → (is_used p v d z && eqb (serial_in p v d z) r) ≡ (is_used p u d z && eqb (serial_in p u d z) r)
      go z l (yes! e) = ap₂ (λ (a : Bool) (n : ℕ). a && eqb n r) (s.same_used d z h q l) (gather_same_serial d z h q l e)
      go z l (no! e) = and_false_left (is_used p v d z) (eqb (serial_in p v d z) r) e ∙ sym (and_false_left (is_used p u d z) (eqb (serial_in p u d z) r) (sym (s.same_used d z h q l) ∙ e))

  module _ (here : (low_drive p gone < p.N) × (is_in gone (low_drive p gone) ≡ false)) where
    abbrev at : ℕ
    at = low_drive p gone

    -- the segment of a serial that the lowest present drive bears
    pub same_for : (r : ℕ) → lowest_bearing p v at r < p.Z → seg_for p v gone r ≡ seg_for p u gone r
    unfolding seg_for
    same_for r l = with_same p (zone_for p v gone r) (zone_for p u gone r) (λ d h. go d h (test (is_in gone d)))
      where
        head : (chunk_at v at (lowest_bearing p v at r) 0).block ≡ (chunk_at u at (lowest_bearing p u at r) 0).block
        head = s.same_head at (lowest_bearing p v at r) here.0 here.1 l (borne p v at r l).used
            ∙ ap (λ (n : ℕ). (chunk_at u at n 0).block) (same_lowest at r here.0 here.1)

        go : (d : ℕ) → d < p.N → Test (is_in gone d) → zone_for p v gone r d ≡ zone_for p u gone r d
        go d h (yes! q) = unfold zone_for in rw q (ap (λ (b : List ℕ). header_zone p b d) head)
        go d h (no! q) = unfold zone_for in rw q (same_lowest d r h q)

    same_leads : (z : ℕ) → z < p.Z → leads p v at z ≡ leads p u at z
    unfolding leads
    same_leads z l = go (test (is_used p v at z))
      where
        go : Test (is_used p v at z)
            → (is_used p v at z && eqb (lowest_bearing p v at (serial_in p v at z)) z) ≡ (is_used p u at z && eqb (lowest_bearing p u at (serial_in p u at z)) z)
        go (yes! e) = ap₂ (λ (a : Bool) (n : ℕ). a && eqb n z) (s.same_used at z here.0 here.1 l)
            (same_lowest at (serial_in p v at z) here.0 here.1 ∙ ap (lowest_bearing p u at) (gather_same_serial at z here.0 here.1 l e))
        go (no! e) = and_false_left (is_used p v at z) (eqb (lowest_bearing p v at (serial_in p v at z)) z) e
            ∙ sym (and_false_left (is_used p u at z) (eqb (lowest_bearing p u at (serial_in p u at z)) z) (sym (s.same_used at z here.0 here.1 l) ∙ e))

    pub same_gathered : gathered p v gone ≡ gathered p u gone
    unfolding gathered
    same_gathered =
        map_cong (λ z. seg_for p v gone (serial_in p v at z)) (λ z. seg_for p u gone (serial_in p u at z)) (keep (leads p v at) (below p.Z)) (λ z m. one z m)
        ∙ ap (map (λ z. seg_for p u gone (serial_in p u at z))) (keep_cong (leads p v at) (leads p u at) (below p.Z) (λ z m. same_leads z (below_in p.Z z m)))
      where
        one : (z : ℕ) → In z (keep (leads p v at) (below p.Z)) → seg_for p v gone (serial_in p v at z) ≡ seg_for p u gone (serial_in p u at z)
        one z m =
            let (i, t) = keep_in (leads p v at) (below p.Z) z m in
            let l = below_in p.Z z i in
            let (a, b) = parts z t in
            same_for (serial_in p v at z) (subst (λ (n : ℕ). n < p.Z) (sym b) l) ∙ ap (seg_for p u gone) (gather_same_serial at z here.0 here.1 l a)
          where
            parts : (z : ℕ) → leads p v at z ≡ true → (is_used p v at z ≡ true) × (lowest_bearing p v at (serial_in p v at z) ≡ z)
            parts z t = unfold leads in (
              and_left (is_used p v at z) (eqb (lowest_bearing p v at (serial_in p v at z)) z) t,
              eqb-true (lowest_bearing p v at (serial_in p v at z)) z (and_right (is_used p v at z) (eqb (lowest_bearing p v at (serial_in p v at z)) z) t),
            )

    pub gather_same_left : left_by1 p v gone ≡ left_by1 p u gone
    unfolding left_by1
    gather_same_left = ap (keep (λ g. all (λ d. ltb (zone_on g d) p.Z) (present p gone))) same_gathered

    -- so are the segments that remain
    pub gather_same_remaining : remaining p v gone ≡ remaining p u gone
    unfolding remaining
    gather_same_remaining =
        keep_cong (λ g. not (is_copy p v at (left_by1 p v gone) g)) (λ g. not (is_copy p u at (left_by1 p u gone) g)) (left_by1 p v gone) (λ g m. ap not (copy g m))
        ∙ ap (keep (λ g. not (is_copy p u at (left_by1 p u gone) g))) gather_same_left
      where
        head : (g : Seg) → In g (left_by1 p v gone) → header_at v at g ≡ header_at u at g
        head g m = unfold header_at in let b = (left_in p v gone here g m).on at here.0 here.1 in s.same_head at (zone_on g at) here.0 here.1 b.zone_low b.used

        copy : (g : Seg) → In g (left_by1 p v gone) → is_copy p v at (left_by1 p v gone) g ≡ is_copy p u at (left_by1 p u gone) g
        copy g m = unfold is_copy in ap₂ (λ (c : ℕ) (b : Bool). not (eqb c 0) && b) (ap (header_copied p) (head g m))
            (any_cong (λ h. not (same_seg h g) && eqb (header_serial p (header_at v at h)) (header_copied p (header_at v at g)))
            (λ h. not (same_seg h g) && eqb (header_serial p (header_at u at h)) (header_copied p (header_at u at g))) (left_by1 p v gone)
            (λ h n. ap₂ (λ (a c : ℕ). not (same_seg h g) && eqb a c) (ap (header_serial p) (head h n)) (ap (header_copied p) (head g m)))
            ∙ ap (any (λ h. not (same_seg h g) && eqb (header_serial p (header_at u at h)) (header_copied p (header_at u at g)))) gather_same_left)
