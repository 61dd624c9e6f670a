-- The zones that the headers of the remaining segments name, counted by drive and zone (02, item 4). Assumes nothing.
use Rattle.std.specs.Prelude.{◌≡◌, List, [], map, Bool, false, cond, ◌&&◌, ◌||◌, ◌⊎◌, ltb, length, set, replicate}
use Rattle.std.proofs.Math.Path.{refl, sym, ap, ap₂}
use Rattle.std.proofs.Common.{◌∙◌, subst, inl, inr, arith, get_or-set_same, get_or-set_other, ext_get_or}
use Rattle.std.proofs.Math.Bool.{true, not}
use Prim.Native.Nat.{ℕ, zero, suc, ◌+◌, ◌*◌, ◌≤◌, ◌<◌, min}
use Rattle.std.proofs.Math.Decide.{ℕ_discrete}
use borrow.Author.Tests.{eq-eqb, ne_eqb, eqb-true, eqb-false, lt-ltb, le-ltb, ltb-true, leb-true, le-leb, not-true, not-false}
use Rattle.std.proofs.Math.Arith.{digits_lt, lt_of_le-ne}
use Rattle.std.proofs.Math.Dec.{eqb, leb}
use Rattle.std.proofs.Math.ListN.{get_or}
use Rattle.spec.specs.declared.Params.{Params}
use Rattle.spec.specs.declared.Seg.{Seg}
use Rattle.spec.specs.Drives.{View, view_of, chunk_at, is_good, zone_on, same_seg, seg_with, zones_in}
use Rattle.spec.specs.Faults.{header_fault, own_fault, bad_name, name_clash, serial_twice, serial_fault}
use Rattle.spec.specs.Layout.{header_zone}
use Rattle.spec.specs.Lists.{up_from, below, any, cons_if, keep, tally}
use Rattle.spec.specs.Params.{pointers_len, drives_of, present}
use Rattle.spec.specs.Segments.{low_drive, leads, header_at, remaining, Segment, segment_of, segments}
use Rattle.law_basic.specs.Ranges.{Test, test, and_left, and_right, and_both, tally-below_hit, tally-below_miss, pass_none, and_fails, any_false}
use Rattle.law_basic.specs.Ranges.Test.{yes!, no! }
use Rattle.law_basic.specs.Segs.{seg_false, seg-other, with_zone, zones_in_lem, zones_in_long}
use Rattle.law_views.specs.Pointers.{index_drive, index_zone}
use Rattle.law_drives.specs.Accept.{name_at, names_long, short_once}
use Rattle.law_drives.specs.Gather.{present_in}
use Rattle.law_drives.specs.Members.{In, in_map, map_in, in_keep, in_any, any_in, in_none, any_cong, in_below, below_in, from_in}
use Rattle.law_drives.specs.Segs.{Here, seg_is}
use Rattle.law_drives.specs.Tables.{zero-at, seg_at, remains_at, seg-at_zone, At, remaining-at, at-remaining}
use Rattle.disk_gather.specs.Found.{remains_leads}
use Rattle.recover_headers.specs.Fronts.{heads_fault, front_is}
use Rattle.law_drives.specs.Tests.{and_false_right, not_so, same_test, or_cases, or_true_left, or_true_right, cond_true, cond_false}

-- ---- a table of counts

-- a segment remains at zone x of the lowest present drive, and its header there names zone y for drive d
unfoldable pub names_at : Params → View → ℕ → ℕ → ℕ → ℕ → Bool
names_at p v gone d y x = remains_at p v gone x && eqb (header_zone p (chunk_at v (low_drive p gone) x 0).block d) y

-- of the first n zones
abbrev pub CountedBy : Params → View → ℕ → ℕ → List ℕ → Type 0
CountedBy p v gone n l = (d y : ℕ) → d < p.N → y < p.Z → get_or l (d * p.Z + y) 0 ≡ min 2 (tally (names_at p v gone d y) (below n))

-- by drive and zone, a table says how many remaining segments name it, up to 2
abbrev pub NameCounts : Params → View → ℕ → List ℕ → Type 0
NameCounts p v gone l = (p.N * p.Z ≤ length l) × CountedBy p v gone p.Z l

-- one more, up to 2, where the test holds
abbrev more : Bool → ℕ → ℕ
more b n = cond b (min 2 (n + 1)) n

-- a zone counted
pub count_set : (p : Params) (l : List ℕ) (e y n d z : ℕ) → p.N * p.Z ≤ length l → e < p.N → y < p.Z → n ≡ min 2 (get_or l (e * p.Z + y) 0 + 1) → d < p.N → z < p.Z
    → get_or (set l (e * p.Z + y) n) (d * p.Z + z) 0 ≡ cond (eqb e d && eqb y z) (min 2 (get_or l (d * p.Z + z) 0 + 1)) (get_or l (d * p.Z + z) 0)
count_set p l e y n d z h he hy q hd hz = go (ℕ_discrete (d * p.Z + z) (e * p.Z + y))
  where
    go : Dec (d * p.Z + z ≡ e * p.Z + y) → get_or (set l (e * p.Z + y) n) (d * p.Z + z) 0 ≡ cond (eqb e d && eqb y z) (min 2 (get_or l (d * p.Z + z) 0 + 1)) (get_or l (d * p.Z + z) 0)
    go (yes i) =
        let k : e * p.Z + y < p.N * p.Z = digits_lt he hy in
        ap (λ (j : ℕ). get_or (set l (e * p.Z + y) n) j 0) i ∙ get_or-set_same l (e * p.Z + y) n 0 (omega arith)
        ∙ q ∙ ap (λ (j : ℕ). min 2 (get_or l j 0 + 1)) (sym i)
        ∙ sym (cond_true (eqb e d && eqb y z) (min 2 (get_or l (d * p.Z + z) 0 + 1)) (get_or l (d * p.Z + z) 0)
        (and_both (eqb e d) (eqb y z) (eq-eqb e d (index_drive p.Z e y d z hy hz (sym i))) (eq-eqb y z (index_zone p.Z e y d z hy hz (sym i)))))
    go (no i) =
        get_or-set_other l (e * p.Z + y) (d * p.Z + z) n 0 i
        ∙ sym (cond_false (eqb e d && eqb y z) (min 2 (get_or l (d * p.Z + z) 0 + 1)) (get_or l (d * p.Z + z) 0) (not_so (eqb e d && eqb y z)
        (λ t. i (ap₂ (λ (a b : ℕ). a * p.Z + b) (sym (eqb-true e d (and_left (eqb e d) (eqb y z) t))) (sym (eqb-true y z (and_right (eqb e d) (eqb y z) t)))))))

-- a number that is no zone is not counted
pub count_past : (p : Params) (l : List ℕ) (e y d z : ℕ) → p.Z ≤ y → z < p.Z
    → get_or l (d * p.Z + z) 0 ≡ cond (eqb e d && eqb y z) (min 2 (get_or l (d * p.Z + z) 0 + 1)) (get_or l (d * p.Z + z) 0)
count_past p l e y d z h hz =
    sym (cond_false (eqb e d && eqb y z) (min 2 (get_or l (d * p.Z + z) 0 + 1)) (get_or l (d * p.Z + z) 0)
    (and_false_right (eqb e d) (eqb y z) (ne_eqb y z (λ q. let x : ⊥ = omega arith in x))))

-- ---- the names of a header, drive after drive

abbrev pub CountedOn : Params → Seg → ℕ → List ℕ → List ℕ → Type 0
CountedOn p g n l l' = (d z : ℕ) → d < p.N → z < p.Z
    → get_or l' (d * p.Z + z) 0 ≡ cond (ltb d n && eqb (zone_on g d) z) (min 2 (get_or l (d * p.Z + z) 0 + 1)) (get_or l (d * p.Z + z) 0)

pub counted_start : (p : Params) (g : Seg) (l : List ℕ) → CountedOn p g 0 l l
counted_start p g l d z hd hz =
    sym (ap (λ (b : Bool). more (b && eqb (zone_on g d) z) (get_or l (d * p.Z + z) 0)) (le-ltb d 0 (omega arith)))

pub counted_turn : (p : Params) (g : Seg) (n : ℕ) (l l' l'' : List ℕ) → CountedOn p g n l l'
    → ((d z : ℕ) → d < p.N → z < p.Z → get_or l'' (d * p.Z + z) 0 ≡ cond (eqb n d && eqb (zone_on g n) z) (min 2 (get_or l' (d * p.Z + z) 0 + 1)) (get_or l' (d * p.Z + z) 0))
    → CountedOn p g (n + 1) l l''
counted_turn p g n l l' l'' a b d z hd hz = b d z hd hz ∙ ap (more (eqb n d && eqb (zone_on g n) z)) (a d z hd hz) ∙ go (ℕ_discrete n d)
  where
    go : Dec (n ≡ d) → more (eqb n d && eqb (zone_on g n) z) (more (ltb d n && eqb (zone_on g d) z) (get_or l (d * p.Z + z) 0))
        ≡ more (ltb d (n + 1) && eqb (zone_on g d) z) (get_or l (d * p.Z + z) 0)
    go (yes q) =
        (λ j. more (eq-eqb n d q j && eqb (zone_on g (q j)) z) (more (le-ltb d n (omega arith) j && eqb (zone_on g d) z) (get_or l (d * p.Z + z) 0)))
        ∙ sym (ap (λ (x : Bool). more (x && eqb (zone_on g d) z) (get_or l (d * p.Z + z) 0)) (lt-ltb d (n + 1) (omega arith)))
    go (no q) =
        ap (λ (x : Bool). more (x && eqb (zone_on g n) z) (more (ltb d n && eqb (zone_on g d) z) (get_or l (d * p.Z + z) 0))) (ne_eqb n d q)
        ∙ ap (λ (x : Bool). more (x && eqb (zone_on g d) z) (get_or l (d * p.Z + z) 0)) (same_test (ltb d n) (ltb d (n + 1)) (λ t. lt-ltb d (n + 1) (let h = ltb-true d n t in omega arith))
        (λ t. lt-ltb d n (lt_of_le-ne (let h = ltb-true d (n + 1) t in omega arith) (λ e. q (sym e)))))

pub names_counted-all : (p : Params) (g : Seg) (n : ℕ) (l l' : List ℕ) → p.N ≤ n → CountedOn p g n l l' → (d z : ℕ) → d < p.N → z < p.Z
    → get_or l' (d * p.Z + z) 0 ≡ cond (eqb (zone_on g d) z) (min 2 (get_or l (d * p.Z + z) 0 + 1)) (get_or l (d * p.Z + z) 0)
names_counted-all p g n l l' h a d z hd hz = a d z hd hz ∙ ap (λ (x : Bool). more (x && eqb (zone_on g d) z) (get_or l (d * p.Z + z) 0)) (lt-ltb d n (omega arith))

-- ---- zone after zone

pub names_start : (p : Params) (v : View) (gone n : ℕ) → CountedBy p v gone 0 (replicate n 0)
unfolding tally below up_from keep
names_start p v gone n d y hd hy = zero-at n (d * p.Z + y)

pub names_next : (p : Params) (v : View) (gone n : ℕ) (l l' : List ℕ) → CountedBy p v gone n l
    → ((d y : ℕ) → d < p.N → y < p.Z → get_or l' (d * p.Z + y) 0 ≡ cond (names_at p v gone d y n) (min 2 (get_or l (d * p.Z + y) 0 + 1)) (get_or l (d * p.Z + y) 0))
    → CountedBy p v gone (n + 1) l'
names_next p v gone n l l' a b d y hd hy = b d y hd hy ∙ ap (more (names_at p v gone d y n)) (a d y hd hy) ∙ go (test (names_at p v gone d y n))
  where
    go : Test (names_at p v gone d y n) → more (names_at p v gone d y n) (min 2 (tally (names_at p v gone d y) (below n))) ≡ min 2 (tally (names_at p v gone d y) (below (n + 1)))
    go (yes! q) =
        cond_true (names_at p v gone d y n) (min 2 (min 2 (tally (names_at p v gone d y) (below n)) + 1)) (min 2 (tally (names_at p v gone d y) (below n))) q
        ∙ (let e = tally-below_hit (names_at p v gone d y) n q in omega (arith, e))
    go (no! q) =
        cond_false (names_at p v gone d y n) (min 2 (min 2 (tally (names_at p v gone d y) (below n)) + 1)) (min 2 (tally (names_at p v gone d y) (below n))) q
        ∙ ap (min 2) (sym (tally-below_miss (names_at p v gone d y) n q))

-- ---- the names of a segment as read

-- a header's names, as a segment has its zones
pub named_for : (p : Params) (b : List ℕ) (names : Seg) → names ≡ seg_with p (header_zone p b) → (d : ℕ) → d < p.N → zone_on names d ≡ header_zone p b d
named_for p b names e d hd = ap (λ (g : Seg). zone_on g d) e ∙ with_zone p (header_zone p b) d hd

module _ (p : Params) (v : View) (gone : ℕ) (g names : Seg) (e : names ≡ seg_with p (header_zone p (chunk_at v (low_drive p gone) (zone_on g (low_drive p gone)) 0).block)) where
  pub names_at_holds : (d : ℕ) → d < p.N → zone_on names d ≡ get_or (segment_of p v gone g).names d 0
  unfolding header_at
  names_at_holds d hd = named_for p (chunk_at v (low_drive p gone) (zone_on g (low_drive p gone)) 0).block names e d hd ∙ sym (name_at p v gone g d hd)

  pub names_read : zones_in p names ≡ (segment_of p v gone g).names
  names_read = ext_get_or 0 (zones_in p names) (segment_of p v gone g).names (zones_in_long p names ∙ sym (names_long p v gone g))
      (λ d h. let hd : d < p.N = subst (λ (n : ℕ). d < n) (zones_in_long p names) h in zones_in_lem p names d hd ∙ names_at_holds d hd)

  pub own_is : any (λ d. not (eqb (zone_on names d) (zone_on g d))) (present p gone) ≡ own_fault p gone (segment_of p v gone g)
  unfolding own_fault
  own_is = any_cong (λ d. not (eqb (zone_on names d) (zone_on g d))) (λ d. not (eqb (get_or (segment_of p v gone g).names d 0) (zone_on (segment_of p v gone g).seg d))) (present p gone)
      (λ d m. ap₂ (λ (a : ℕ) (x : Seg). not (eqb a (zone_on x d))) (names_at_holds d (present_in p gone d m).0) (sym (seg_is p v gone g)))

-- ---- bad names and clashes, by the table

-- 02, item 4: a zone named for drive d is offline, not below Z, or named twice
unfoldable pub name_bad : Params → List ℕ → List ℕ → ℕ → ℕ → Bool
name_bad p off l d y = not (ltb y p.Z && is_good p off d y) || leb 2 (get_or l (d * p.Z + y) 0)

-- of two that pass one is not z
one_kept : (f : ℕ → Bool) (z i n : ℕ) → ((k : ℕ) → i ≤ k → k < i + n → f k ≡ true → k ≡ z) → length (keep f (up_from i n)) ≤ 1
unfolding keep up_from cons_if
one_kept f z i zero h = omega arith
one_kept f z i (suc n) h = go (test (f i)) (one_kept f z (suc i) n (λ k a b. h k (omega arith) (omega arith)))
  where
    go : Test (f i) → length (keep f (up_from (suc i) n)) ≤ 1 → length (cons_if (f i) i (keep f (up_from (suc i) n))) ≤ 1
    go (yes! q) ih =
        let e : i ≡ z = h i (omega arith) (omega arith) q in
        let none : keep f (up_from (suc i) n) ≡ [] = pass_none f (up_from (suc i) n) (in_none f (up_from (suc i) n) (λ k m. not_so (f k)
        (λ t. let (a, b) = from_in (suc i) n k m in let c : k ≡ z = h k (omega arith) (omega arith) t in let x : ⊥ = omega arith in x))) in
        rw (q, none) (omega arith)
    go (no! q) ih = rw q ih

pub two_kept : (f : ℕ → Bool) (n z : ℕ) → 2 ≤ tally f (below n) → (x : ℕ) × (x < n) × (f x ≡ true) × (x ≡ z → ⊥)
unfolding tally below
two_kept f n z h = go (test (any (λ x. f x && not (eqb x z)) (up_from 0 n)))
  where
    go : Test (any (λ x. f x && not (eqb x z)) (up_from 0 n)) → (x : ℕ) × (x < n) × (f x ≡ true) × (x ≡ z → ⊥)
    go (yes! q) =
        let (x, m, t) = any_in (λ x. f x && not (eqb x z)) (up_from 0 n) q in
        let (a, b) = from_in 0 n x m in
        (x, omega arith, and_left (f x) (not (eqb x z)) t, eqb-false x z (not-true (eqb x z) (and_right (f x) (not (eqb x z)) t)))
    go (no! q) =
        let l = one_kept f z 0 n (λ k a b t. eqb-true k z (not-false (eqb k z) (and_fails (f k) (not (eqb k z)) (any_false (λ x. f x && not (eqb x z)) 0 n k q a b) t))) in
        absurd (let x : ⊥ = omega (arith, l) in x)

module _ (p : Params) (v : View) (gone : ℕ) (here : Here p gone) (l : List ℕ) (c : NameCounts p v gone l) (g : Seg) (m : In g (remaining p v gone)) where
  abbrev low : ℕ
  low = low_drive p gone

  -- the segment as read, and what its header names for a drive
  abbrev read : Segment
  read = segment_of p v gone g

  abbrev named : ℕ → ℕ
  named d = get_or read.names d 0

  name_in : (z d : ℕ) → leads p v low z ≡ true → d < p.N → get_or (segment_of p v gone (seg_at p v gone z)).names d 0 ≡ header_zone p (chunk_at v low z 0).block d
  unfolding header_at
  name_in z d t hd = name_at p v gone (seg_at p v gone z) d hd ∙ ap (λ (n : ℕ). header_zone p (chunk_at v low n 0).block d) (seg-at_zone p v gone here z t)

  -- a remaining segment with one of its names counts
  it_counts : (k : Seg) (a : At p v gone here k) (d : ℕ) → d < p.N → get_or (segment_of p v gone k).names d 0 ≡ named d → names_at p v gone d (named d) a.zone ≡ true
  unfolding names_at
  it_counts k a d hd e =
      let z = a.zone in
      and_both (remains_at p v gone z) (eqb (header_zone p (chunk_at v low z 0).block d) (named d)) a.it_remains
      (eq-eqb (header_zone p (chunk_at v low z 0).block d) (named d)
      (sym (name_in z d a.it_leads hd) ∙ ap (λ (s : Seg). get_or (segment_of p v gone s).names d 0) (sym a.it_is) ∙ e))

  -- two that do are counted as 2
  two_count : (k : Seg) → In k (remaining p v gone) → same_seg k g ≡ false → (d : ℕ) → d < p.N → named d < p.Z → get_or (segment_of p v gone k).names d 0 ≡ named d
      → leb 2 (get_or l (d * p.Z + named d) 0) ≡ true
  unfolding tally
  two_count k n ne d hd hy e =
      let f = names_at p v gone d (named d) in
      let a = remaining-at p v gone here k n in
      let b = remaining-at p v gone here g m in
      let q = c.1 d (named d) hd hy in
      go a b q (test (leb 2 (length (keep f (below p.Z)))))
    where
      go : (a : At p v gone here k) (b : At p v gone here g) → get_or l (d * p.Z + named d) 0 ≡ min 2 (length (keep (names_at p v gone d (named d)) (below p.Z)))
          → Test (leb 2 (length (keep (names_at p v gone d (named d)) (below p.Z)))) → leb 2 (get_or l (d * p.Z + named d) 0) ≡ true
      go a b q (yes! t) = le-leb 2 (get_or l (d * p.Z + named d) 0) (let u = leb-true 2 (length (keep (names_at p v gone d (named d)) (below p.Z))) t in omega (arith, q, u))
      go a b q (no! t) =
          let f = names_at p v gone d (named d) in
          let i : a.zone ≡ b.zone = short_once (keep f (below p.Z)) a.zone b.zone t
          (in_keep f (below p.Z) a.zone (in_below p.Z a.zone a.zone_low) (it_counts k a d hd e))
          (in_keep f (below p.Z) b.zone (in_below p.Z b.zone b.zone_low) (it_counts g b d hd refl)) in
          absurd (seg_false k g ne (a.it_is ∙ ap (seg_at p v gone) i ∙ sym b.it_is))

  -- and a count of 2 is of another one
  names_count_two : (d : ℕ) → d < p.N → named d < p.Z → leb 2 (get_or l (d * p.Z + named d) 0) ≡ true
      → (k : Seg) × In k (remaining p v gone) × (same_seg k g ≡ false) × (get_or (segment_of p v gone k).names d 0 ≡ named d)
  unfolding names_at
  names_count_two d hd hy t =
      let q = c.1 d (named d) hd hy in
      let b = remaining-at p v gone here g m in
      let u = leb-true 2 (get_or l (d * p.Z + named d) 0) t in
      let (w, hw, fw, ne) = two_kept (names_at p v gone d (named d)) p.Z b.zone (omega (arith, q, u)) in
      let r : remains_at p v gone w ≡ true = and_left (remains_at p v gone w) (eqb (header_zone p (chunk_at v low w 0).block d) (named d)) fw in
      let ld = remains_leads p v gone w r in (
        seg_at p v gone w,
        at-remaining p v gone here w hw r,
        seg-other (seg_at p v gone w) g
            (λ e. ne (sym (seg-at_zone p v gone here w ld) ∙ ap (λ (s : Seg). zone_on s low) (e ∙ b.it_is) ∙ seg-at_zone p v gone here b.zone b.it_leads)),
        name_in w d ld hd ∙ eqb-true (header_zone p (chunk_at v low w 0).block d) (named d) (and_right (remains_at p v gone w) (eqb (header_zone p (chunk_at v low w 0).block d) (named d)) fw),
      )

  abbrev good : ℕ → Bool
  good d = ltb (named d) p.Z && is_good p v.offline d (named d)

  abbrev bad : ℕ → Bool
  bad d = name_bad p v.offline l d (named d)

  bad_left : (d : ℕ) → good d ≡ false → bad d ≡ true
  unfolding name_bad
  bad_left d t = or_true_left (not (good d)) (leb 2 (get_or l (d * p.Z + named d) 0)) (ap not t)

  bad_right : (d : ℕ) → (good d ≡ true → leb 2 (get_or l (d * p.Z + named d) 0) ≡ true) → bad d ≡ true
  unfolding name_bad
  bad_right d h = go (test (good d))
    where
      go : Test (good d) → (not (good d) || leb 2 (get_or l (d * p.Z + named d) 0)) ≡ true
      go (yes! t) = or_true_right (not (good d)) (leb 2 (get_or l (d * p.Z + named d) 0)) (h t)
      go (no! t) = or_true_left (not (good d)) (leb 2 (get_or l (d * p.Z + named d) 0)) (ap not t)

  low_good : (d : ℕ) → good d ≡ true → named d < p.Z
  low_good d t = ltb-true (named d) p.Z (and_left (ltb (named d) p.Z) (is_good p v.offline d (named d)) t)

  bad_any : any (λ d. not (good d)) (below p.N) ≡ bad_name p v read
  unfolding bad_name drives_of
  bad_any = refl

  clash_any : name_clash p (segments p v gone) read
      ≡ any (λ (h : Segment). not (same_seg h.seg read.seg) && any (λ d. eqb (get_or h.names d 0) (named d)) (below p.N)) (map (segment_of p v gone) (remaining p v gone))
  unfolding name_clash segments drives_of
  clash_any = refl

  -- 02, item 4: a name that is no good zone or another segment's
  pub name_faults : any (λ d. name_bad p v.offline l d (get_or (segment_of p v gone g).names d 0)) (below p.N)
      ≡ (bad_name p v (segment_of p v gone g) || name_clash p (segments p v gone) (segment_of p v gone g))
  name_faults = same_test (any bad (below p.N)) (bad_name p v read || name_clash p (segments p v gone) read) to from
    where
      to : any bad (below p.N) ≡ true → (bad_name p v read || name_clash p (segments p v gone) read) ≡ true
      to t =
          let (d, i, q) = any_in bad (below p.N) t in
          go d (below_in p.N d i) q (test (good d))
        where
          go : (d : ℕ) → d < p.N → bad d ≡ true → Test (good d) → (bad_name p v read || name_clash p (segments p v gone) read) ≡ true
          go d hd q (no! n) =
              or_true_left (bad_name p v read) (name_clash p (segments p v gone) read)
              (sym bad_any ∙ in_any (λ d. not (good d)) (below p.N) d (in_below p.N d hd) (ap not n))
          go d hd q (yes! y) =
              let two : leb 2 (get_or l (d * p.Z + named d) 0) ≡ true = unfold name_bad in sym (ap (λ (b : Bool). not b || leb 2 (get_or l (d * p.Z + named d) 0)) y) ∙ q in
              let (k, n, ne, e) = names_count_two d hd (low_good d y) two in
              or_true_right (bad_name p v read) (name_clash p (segments p v gone) read)
              (clash_any ∙ in_any (λ (h : Segment). not (same_seg h.seg read.seg) && any (λ d. eqb (get_or h.names d 0) (named d)) (below p.N))
              (map (segment_of p v gone) (remaining p v gone)) (segment_of p v gone k) (in_map (segment_of p v gone) (remaining p v gone) k n)
              (and_both (not (same_seg (segment_of p v gone k).seg read.seg)) (any (λ d. eqb (get_or (segment_of p v gone k).names d 0) (named d)) (below p.N))
              (ap not (ap₂ same_seg (seg_is p v gone k) (seg_is p v gone g) ∙ ne))
              (in_any (λ d. eqb (get_or (segment_of p v gone k).names d 0) (named d)) (below p.N) d (in_below p.N d hd) (eq-eqb (get_or (segment_of p v gone k).names d 0) (named d) e))))

      from : (bad_name p v read || name_clash p (segments p v gone) read) ≡ true → any bad (below p.N) ≡ true
      from t = go (or_cases (bad_name p v read) (name_clash p (segments p v gone) read) t)
        where
          go : (bad_name p v read ≡ true) ⊎ (name_clash p (segments p v gone) read ≡ true) → any bad (below p.N) ≡ true
          go (inl q) =
              let (d, i, n) = any_in (λ d. not (good d)) (below p.N) (bad_any ∙ q) in
              in_any bad (below p.N) d i (bad_left d (not-true (good d) n))
          go (inr q) =
              let f : Segment → Bool = λ (h : Segment). not (same_seg h.seg read.seg) && any (λ d. eqb (get_or h.names d 0) (named d)) (below p.N) in
              let (h, i, u) = any_in f (map (segment_of p v gone) (remaining p v gone)) (sym clash_any ∙ q) in
              let (k, n, e) = map_in (segment_of p v gone) (remaining p v gone) h i in
              let w : f (segment_of p v gone k) ≡ true = ap f (sym e) ∙ u in
              let ne : same_seg k g ≡ false = sym (ap₂ same_seg (seg_is p v gone k) (seg_is p v gone g)) ∙ not-true (same_seg (segment_of p v gone k).seg read.seg)
              (and_left (not (same_seg (segment_of p v gone k).seg read.seg)) (any (λ d. eqb (get_or (segment_of p v gone k).names d 0) (named d)) (below p.N)) w) in
              let (d, j, r) = any_in (λ d. eqb (get_or (segment_of p v gone k).names d 0) (named d)) (below p.N)
              (and_right (not (same_seg (segment_of p v gone k).seg read.seg)) (any (λ d. eqb (get_or (segment_of p v gone k).names d 0) (named d)) (below p.N)) w) in
              let hd = below_in p.N d j in
              in_any bad (below p.N) d j (bad_right d (λ y. two_count k n ne d hd (low_good d y) (eqb-true (get_or (segment_of p v gone k).names d 0) (named d) r)))

-- ---- what the headers show, by tests of the code

module _ (p : Params) (v : View) (gone : ℕ) (here : Here p gone) (l : List ℕ) (c : NameCounts p v gone l) (g : Seg) (m : In g (remaining p v gone)) where
  pub front_by : (names : Seg) (serial copied : ℕ) (hf rep : Bool) → names ≡ seg_with p (header_zone p (chunk_at v (low_drive p gone) (zone_on g (low_drive p gone)) 0).block)
      → hf ≡ header_fault p gone (segment_of p v gone g) → serial ≡ (segment_of p v gone g).serial → copied ≡ (segment_of p v gone g).copied
      → rep ≡ serial_twice p v gone (segment_of p v gone g)
      → (hf || any (λ d. not (eqb (zone_on names d) (zone_on g d))) (present p gone) || any (λ d. name_bad p v.offline l d (zone_on names d)) (below p.N) || rep || leb serial copied)
      ≡ heads_fault p v gone (segments p v gone) (segment_of p v gone g)
  unfolding serial_fault
  front_by names serial copied hf rep e eh es ec er =
      (λ j. eh j || own_is p v gone g names e j || named j || er j || leb (es j) (ec j)) ∙ sym (front_is p v gone (segments p v gone) (segment_of p v gone g))
    where
      named : any (λ d. name_bad p v.offline l d (zone_on names d)) (below p.N)
          ≡ (bad_name p v (segment_of p v gone g) || name_clash p (segments p v gone) (segment_of p v gone g))
      named = any_cong (λ d. name_bad p v.offline l d (zone_on names d)) (λ d. name_bad p v.offline l d (get_or (segment_of p v gone g).names d 0)) (below p.N)
          (λ d i. ap (name_bad p v.offline l d) (names_at_holds p v gone g names e d (below_in p.N d i))) ∙ name_faults p v gone here l c g m

-- the answer is what the headers of a remaining segment show of it, whatever the pointers
abbrev pub FrontSays : Params → List ℕ → List ℕ → ℕ → List ℕ → Seg → ℕ → Bool → Bool → Type 0
FrontSays p off im gone l g serial rep r =
    (ps : List ℕ) → length ps ≡ pointers_len p → NameCounts p (view_of p off im ps) gone l → In g (remaining p (view_of p off im ps) gone)
    → serial ≡ (segment_of p (view_of p off im ps) gone g).serial → rep ≡ serial_twice p (view_of p off im ps) gone (segment_of p (view_of p off im ps) gone g)
    → r ≡ heads_fault p (view_of p off im ps) gone (segments p (view_of p off im ps) gone) (segment_of p (view_of p off im ps) gone g)
