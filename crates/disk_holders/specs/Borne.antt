-- Which serials remain, serial by serial, and that they are just those of the segments that remain (01, Restart, 1 and 2; 02, item 4). Assumes nothing.
use Rattle.std.specs.Prelude.{◌≡◌, Bool, ◌&&◌, ◌||◌, ℕ, ◌+◌, ◌-◌, ◌≤◌, ◌<◌, eqb}
use Rattle.std.proofs.Math.Path.{refl, sym, ap, ap₂}
use Rattle.std.proofs.Common.{◌∙◌, subst, arith}
use Rattle.std.proofs.Math.Bool.{true, false, not}
use borrow.Author.Tests.{eq-eqb, ne_eqb, eqb-true, eqb-false, lt-ltb, le-ltb, ltb-true, not-true}
use Rattle.std.proofs.Math.Dec.{ltb}
use Rattle.spec.specs.declared.Params.{Params}
use Rattle.spec.specs.declared.Seg.{Seg}
use Rattle.spec.specs.Drives.{View, chunk_at, zone_on, same_seg}
use Rattle.spec.specs.Layout.{header_serial, header_copied}
use Rattle.spec.specs.Lists.{up_from, below, all, any, is_in}
use Rattle.spec.specs.Params.{drives_of, present}
use Rattle.spec.specs.Segments.{low_drive, is_used, serial_in, lowest_bearing, seg_for, leads, header_at, left_by1, is_copy, remaining}
use Rattle.law_basic.specs.Ranges.{Test, test, and_left, and_right, and_both, all_keep}
use Rattle.law_basic.specs.Ranges.Test.{yes!, no! }
use Rattle.law_basic.specs.Segs.{seg-other, seg_false}
use Rattle.law_scans.specs.Scans.{all_broken, all_passed, all-ended, all_start}
use Rattle.law_drives.specs.Gather.{borne, borne_is, lowest_under, for_here, present_in, in_present, left_in, in_left_by_1}
use Rattle.law_drives.specs.Members.{In, in_keep, keep_in, all_in, in_all, all_cong, any_in, in_any}
use Rattle.law_drives.specs.Segs.{Here}
use Rattle.law_drives.specs.Tables.{seg_at, remains_at}
use Rattle.law_drives.specs.Tests.{clash, and_false_left, and_false_right, same_test}

-- 01, Restart, 1: every present drive bears the serial
unfoldable pub borne_by_all : Params → View → ℕ → ℕ → Bool
borne_by_all p v gone r = all (λ d. ltb (lowest_bearing p v d r) p.Z) (present p gone)

-- 01, Restart, 2: the header on the lowest present drive of a serial's segment copies another one that every present drive bears
unfoldable pub copies_other : Params → View → ℕ → ℕ → Bool
copies_other p v gone r =
    let low = low_drive p gone in
    let c = header_copied p (chunk_at v low (lowest_bearing p v low r) 0).block in
    not (eqb c 0) && (not (eqb c r) && borne_by_all p v gone c)

-- 01, Restart, 1 and 2: the segment of a serial remains
unfoldable pub serial_remains : Params → View → ℕ → ℕ → Bool
serial_remains p v gone r = borne_by_all p v gone r && not (copies_other p v gone r)

-- ---- drives that bear a serial

-- a zone looked at first that bears it
pub guess_borne : (p : Params) (v : View) (d r z : ℕ) → (ltb z p.Z && (is_used p v d z && eqb (serial_in p v d z) r)) ≡ true → ltb (lowest_bearing p v d r) p.Z ≡ true
guess_borne p v d r z q =
    let b = is_used p v d z && eqb (serial_in p v d z) r in
    let l : z < p.Z = ltb-true z p.Z (and_left (ltb z p.Z) b q) in
    let u : b ≡ true = and_right (ltb z p.Z) b q in
    let s : serial_in p v d z ≡ r = eqb-true (serial_in p v d z) r (and_right (is_used p v d z) (eqb (serial_in p v d z) r) u) in
    lt-ltb (lowest_bearing p v d r) p.Z (omega (arith, l, lowest_under p v d r z l (and_left (is_used p v d z) (eqb (serial_in p v d z) r) u) s))

-- a drive is missing or bears it; so are those from d on
unfoldable pub borne_from : Params → View → ℕ → ℕ → ℕ → Bool
borne_from p v gone r d = all (λ e. is_in gone e || ltb (lowest_bearing p v e r) p.Z) (up_from d (p.N - d))

module _ (p : Params) (v : View) (gone r : ℕ) where
  pub borne_start : borne_from p v gone r 0 ≡ borne_by_all p v gone r
  unfolding borne_from borne_by_all present drives_of
  borne_start =
      all_start (λ e. is_in gone e || ltb (lowest_bearing p v e r) p.Z) p.N
      ∙ sym (all_keep (λ e. ltb (lowest_bearing p v e r) p.Z) (is_in gone) (below p.N))

  pub borne_broken : (d : ℕ) → d < p.N → (is_in gone d || ltb (lowest_bearing p v d r) p.Z) ≡ false → borne_from p v gone r d ≡ false
  unfolding borne_from
  borne_broken d = all_broken (λ e. is_in gone e || ltb (lowest_bearing p v e r) p.Z) d p.N

  pub borne_passed : (d : ℕ) → d < p.N → (is_in gone d || ltb (lowest_bearing p v d r) p.Z) ≡ true → borne_from p v gone r d ≡ borne_from p v gone r (d + 1)
  unfolding borne_from
  borne_passed d = all_passed (λ e. is_in gone e || ltb (lowest_bearing p v e r) p.Z) d p.N

  pub borne_ended : (d : ℕ) → p.N ≤ d → borne_from p v gone r d ≡ true
  unfolding borne_from
  borne_ended d = all-ended (λ e. is_in gone e || ltb (lowest_bearing p v e r) p.Z) d p.N

-- a drive with no zone that bears it
pub not_borne : (p : Params) (v : View) (gone r d : ℕ) → d < p.N → is_in gone d ≡ false → p.Z ≤ lowest_bearing p v d r → borne_by_all p v gone r ≡ false
unfolding borne_by_all
not_borne p v gone r d h q l = go (test (all (λ e. ltb (lowest_bearing p v e r) p.Z) (present p gone)))
  where
    go : Test (all (λ e. ltb (lowest_bearing p v e r) p.Z) (present p gone)) → all (λ e. ltb (lowest_bearing p v e r) p.Z) (present p gone) ≡ false
    go (yes! e) = clash (all_in (λ e. ltb (lowest_bearing p v e r) p.Z) (present p gone) e d (in_present p gone d h q)) (le-ltb (lowest_bearing p v d r) p.Z l)
    go (no! e) = e

pub all_borne_on : (p : Params) (v : View) (gone r : ℕ) → borne_by_all p v gone r ≡ true → (d : ℕ) → d < p.N → is_in gone d ≡ false → lowest_bearing p v d r < p.Z
unfolding borne_by_all
all_borne_on p v gone r e d h q =
    ltb-true (lowest_bearing p v d r) p.Z (all_in (λ d. ltb (lowest_bearing p v d r) p.Z) (present p gone) e d (in_present p gone d h q))

pub remains_borne : (p : Params) (v : View) (gone r : ℕ) → serial_remains p v gone r ≡ true → borne_by_all p v gone r ≡ true
unfolding serial_remains
remains_borne p v gone r e = and_left (borne_by_all p v gone r) (not (copies_other p v gone r)) e

-- the copied serial in the header on the lowest present drive says it
module _ (p : Params) (v : View) (gone r low first c : ℕ) (el : low ≡ low_drive p gone) (ef : first ≡ lowest_bearing p v low r) (ec : c ≡ header_copied p (chunk_at v low first 0).block) where
  copies_as : copies_other p v gone r ≡ (not (eqb c 0) && (not (eqb c r) && borne_by_all p v gone c))
  unfolding copies_other
  copies_as = ap (λ (n : ℕ). not (eqb n 0) && (not (eqb n r) && borne_by_all p v gone n))
      (sym (ec ∙ ap (λ (z : ℕ). header_copied p (chunk_at v low z 0).block) ef ∙ ap (λ (d : ℕ). header_copied p (chunk_at v d (lowest_bearing p v d r) 0).block) el))

  pub copies_none : c ≡ 0 → copies_other p v gone r ≡ false
  copies_none e = copies_as ∙ ap (λ (b : Bool). not b && (not (eqb c r) && borne_by_all p v gone c)) (eq-eqb c 0 e)

  pub copies_self : c ≡ r → copies_other p v gone r ≡ false
  copies_self e = copies_as ∙ and_false_right (not (eqb c 0)) (not (eqb c r) && borne_by_all p v gone c) (ap (λ (b : Bool). not b && borne_by_all p v gone c) (eq-eqb c r e))

  pub copies_left : (c ≡ 0 → ⊥) → (c ≡ r → ⊥) → copies_other p v gone r ≡ borne_by_all p v gone c
  copies_left n m = copies_as ∙ (λ j. not (ne_eqb c 0 n j) && (not (ne_eqb c r m j) && borne_by_all p v gone c))

-- a serial that some present drive doesn't bear
pub unborne_dropped : (p : Params) (v : View) (gone r : ℕ) → borne_by_all p v gone r ≡ false → serial_remains p v gone r ≡ false
unfolding serial_remains
unborne_dropped p v gone r e = and_false_left (borne_by_all p v gone r) (not (copies_other p v gone r)) e

pub remains_by : (p : Params) (v : View) (gone r : ℕ) → borne_by_all p v gone r ≡ true → serial_remains p v gone r ≡ not (copies_other p v gone r)
unfolding serial_remains
remains_by p v gone r e = ap (λ (b : Bool). b && not (copies_other p v gone r)) e

module _ (p : Params) (v : View) (gone : ℕ) (here : Here p gone) where
  abbrev low : ℕ
  low = low_drive p gone

  -- a serial that remains is on every present drive
  pub remains_low : (r : ℕ) → serial_remains p v gone r ≡ true → lowest_bearing p v low r < p.Z
  remains_low r e = all_borne_on p v gone r (remains_borne p v gone r e) low here.0 here.1

  for_head : (r : ℕ) → header_at v low (seg_for p v gone r) ≡ (chunk_at v low (lowest_bearing p v low r) 0).block
  unfolding header_at
  for_head r = ap (λ (z : ℕ). (chunk_at v low z 0).block) (for_here p v gone r low here.0 here.1)

  head_serial : (r : ℕ) → lowest_bearing p v low r < p.Z → header_serial p (header_at v low (seg_for p v gone r)) ≡ r
  unfolding serial_in
  head_serial r h = ap (header_serial p) (for_head r) ∙ (borne p v low r h).serial

  -- a segment left by 1 is that of a serial that all bear
  left_for : (g : Seg) → In g (left_by1 p v gone) → (r : ℕ) × (g ≡ seg_for p v gone r) × (borne_by_all p v gone r ≡ true)
  unfolding borne_by_all
  left_for g m =
      let l = left_in p v gone here g m in (
        l.serial,
        l.is_for,
        in_all (λ d. ltb (lowest_bearing p v d l.serial) p.Z) (present p gone) (λ d i.
            let (h, q) = present_in p gone d i in
            let b = l.on d h q in
            lt-ltb (lowest_bearing p v d l.serial) p.Z (subst (λ (n : ℕ). n < p.Z) (sym (borne_is p v d l.serial (zone_on g d) b)) b.zone_low)),
      )

  for_left : (r : ℕ) → borne_by_all p v gone r ≡ true → In (seg_for p v gone r) (left_by1 p v gone)
  for_left r e = in_left_by_1 p v gone here r (all_borne_on p v gone r e)

  -- 01, Restart, 2: another segment left by 1 has serial c
  other_left_holds : (r c : ℕ) → any (λ h. not (same_seg h (seg_for p v gone r)) && eqb (header_serial p (header_at v low h)) c) (left_by1 p v gone)
      ≡ (not (eqb c r) && borne_by_all p v gone c)
  other_left_holds r c = same_test (any f (left_by1 p v gone)) (not (eqb c r) && borne_by_all p v gone c) there back
    where
      f : Seg → Bool
      f h = not (same_seg h (seg_for p v gone r)) && eqb (header_serial p (header_at v low h)) c

      there : any f (left_by1 p v gone) ≡ true → (not (eqb c r) && borne_by_all p v gone c) ≡ true
      there q =
          let (h, m, e) = any_in f (left_by1 p v gone) q in
          let (s, i, b) = left_for h m in
          let a : eqb (header_serial p (header_at v low h)) c ≡ true = and_right (not (same_seg h (seg_for p v gone r))) (eqb (header_serial p (header_at v low h)) c) e in
          let n : same_seg h (seg_for p v gone r) ≡ false = not-true (same_seg h (seg_for p v gone r))
          (and_left (not (same_seg h (seg_for p v gone r))) (eqb (header_serial p (header_at v low h)) c) e) in
          let x : s ≡ c = sym (head_serial s (all_borne_on p v gone s b low here.0 here.1)) ∙ ap (λ (g : Seg). header_serial p (header_at v low g)) (sym i)
          ∙ eqb-true (header_serial p (header_at v low h)) c a in
          and_both (not (eqb c r)) (borne_by_all p v gone c) (ap not (ne_eqb c r (λ y. seg_false h (seg_for p v gone r) n (i ∙ ap (seg_for p v gone) (x ∙ y)))))
          (subst (λ (k : ℕ). borne_by_all p v gone k ≡ true) x b)

      back : (not (eqb c r) && borne_by_all p v gone c) ≡ true → any f (left_by1 p v gone) ≡ true
      back q =
          let b : borne_by_all p v gone c ≡ true = and_right (not (eqb c r)) (borne_by_all p v gone c) q in
          let n : c ≡ r → ⊥ = eqb-false c r (not-true (eqb c r) (and_left (not (eqb c r)) (borne_by_all p v gone c) q)) in
          let l : lowest_bearing p v low c < p.Z = all_borne_on p v gone c b low here.0 here.1 in
          in_any f (left_by1 p v gone) (seg_for p v gone c) (for_left c b)
          (and_both (not (same_seg (seg_for p v gone c) (seg_for p v gone r))) (eqb (header_serial p (header_at v low (seg_for p v gone c))) c)
          (ap not (seg-other (seg_for p v gone c) (seg_for p v gone r) (λ e. n (apart l e))))
          (eq-eqb (header_serial p (header_at v low (seg_for p v gone c))) c (head_serial c l)))
        where
          apart : lowest_bearing p v low c < p.Z → seg_for p v gone c ≡ seg_for p v gone r → c ≡ r
          apart l e =
              let z : lowest_bearing p v low c ≡ lowest_bearing p v low r =
              sym (for_here p v gone c low here.0 here.1) ∙ ap (λ (g : Seg). zone_on g low) e ∙ for_here p v gone r low here.0 here.1 in
              sym (head_serial c l) ∙ ap (λ (g : Seg). header_serial p (header_at v low g)) e ∙ head_serial r (subst (λ (n : ℕ). n < p.Z) z l)

  copy_is : (r : ℕ) → is_copy p v low (left_by1 p v gone) (seg_for p v gone r) ≡ copies_other p v gone r
  unfolding is_copy copies_other
  copy_is r =
      let c = header_copied p (header_at v low (seg_for p v gone r)) in
      ap (λ (b : Bool). not (eqb c 0) && b) (other_left_holds r c)
      ∙ ap (λ (n : ℕ). not (eqb n 0) && (not (eqb n r) && borne_by_all p v gone n)) (ap (header_copied p) (for_head r))

  -- ---- the segments that remain are those of the serials that remain

  pub remains_in : (r : ℕ) → serial_remains p v gone r ≡ true → In (seg_for p v gone r) (remaining p v gone)
  unfolding remaining serial_remains
  remains_in r e = in_keep (λ g. not (is_copy p v low (left_by1 p v gone) g)) (left_by1 p v gone) (seg_for p v gone r)
      (for_left r (and_left (borne_by_all p v gone r) (not (copies_other p v gone r)) e))
      (ap not (copy_is r) ∙ and_right (borne_by_all p v gone r) (not (copies_other p v gone r)) e)

  pub in_remains : (g : Seg) → In g (remaining p v gone) → (r : ℕ) × (g ≡ seg_for p v gone r) × (serial_remains p v gone r ≡ true)
  unfolding remaining serial_remains
  in_remains g m =
      let (i, q) = keep_in (λ g. not (is_copy p v low (left_by1 p v gone) g)) (left_by1 p v gone) g m in
      let (r, e, b) = left_for g i in (
        r,
        e,
        and_both (borne_by_all p v gone r) (not (copies_other p v gone r)) b
            (sym (ap not (ap (is_copy p v low (left_by1 p v gone)) e ∙ copy_is r)) ∙ q),
      )

  -- zone by zone of the lowest present drive
  pub remains_by_zone : (y : ℕ) → remains_at p v gone y ≡ (leads p v low y && serial_remains p v gone (serial_in p v low y))
  unfolding remains_at seg_at serial_remains borne_by_all
  remains_by_zone y =
      let r = serial_in p v low y in
      ap₂ (λ (a b : Bool). (leads p v low y && a) && not b)
      (all_cong (λ d. ltb (zone_on (seg_for p v gone r) d) p.Z) (λ d. ltb (lowest_bearing p v d r) p.Z) (present p gone)
      (λ d i. let (h, q) = present_in p gone d i in ap (λ (z : ℕ). ltb z p.Z) (for_here p v gone r d h q)))
      (copy_is r) ∙ and_three (leads p v low y) (all (λ d. ltb (lowest_bearing p v d r) p.Z) (present p gone)) (not (copies_other p v gone r))
    where
      and_three : (a b c : Bool) → ((a && b) && c) ≡ (a && (b && c))
      and_three true b c = refl
      and_three false b c = refl
