-- The loop that enters a drive's records into the index of a group (01, Restart, 3; Refusals, 9). Assumes nothing.
use Rattle.std.specs.Prelude.{◌≡◌, refl, ◌&&◌, ◌||◌, ℕ, ◌+◌, ◌-◌, ◌*◌, ◌%◌, ◌≤◌, ◌<◌, leb, take, drop, set}
use Rattle.std.proofs.Math.Path.{sym, ap}
use Rattle.std.proofs.Common.{◌∙◌, subst, arith, add-one, take-append-drop, take_all, length-take-le, take-suc}
use mathlib.Core.List.{List, [], ◌∷◌, ◌++◌}
use Rattle.std.proofs.Math.Bool.{Bool, true, false, not}
use Rattle.std.proofs.Math.Decide.{ℕ_discrete}
use borrow.Author.Tests.{eq-eqb, leb-true, ltb-true, eqb-true}
use Rattle.std.proofs.Math.Dec.{ltb, eqb}
use Rattle.std.proofs.Math.ListN.{length, get_or, length-set}
use Rattle.std.proofs.Math.Seq.{get_or-set_same, get_or-set_other}
use Rattle.spec.specs.declared.Params.{Params}
use Rattle.spec.specs.Faults.{stored_bad}
use Rattle.spec.specs.Layout.{in_group_of, Rec, mk_rec}
use Rattle.spec.specs.Lists.{below, any, is_in}
use Rattle.spec.specs.Params.{drives_of, present}
use Rattle.spec.specs.Segments.{Segment, recs_on}
use Rattle.law_basic.specs.Ranges.{Test, test, and_left, and_right}
use Rattle.law_basic.specs.Ranges.Test.{yes!, no! }
use Rattle.law_scans.specs.Scans.{any-keep}
use Rattle.law_drives.specs.Tests.{or_neither, or_true_left, or_true_right}
use Rattle.recover_groups.specs.Chunks.{entry_none, entry_zero, entry_new, entry_old, in_group_of_lem}
use Rattle.recover_groups.specs.Faulty.{bad_more, next_bad, bad_next, no_recs_bad}
use Rattle.recover_groups.specs.Groups.{group_len, group_recs, recs_bad, group_fault, entry_of, Row, SameBelow}

-- ---- an index with one more entry

pub below_set : (d : ℕ) (l m : List ℕ) (j v : ℕ) → SameBelow d l m → 256 * d ≤ j → SameBelow d l (set m j v)
below_set d l m j v s h i k = get_or-set_other m j i v 0 (λ e. let z : ⊥ = omega (arith, e, h, k) in z) ∙ s i k

-- zeros up to k, and one more
pub clear_next : (d k : ℕ) (m : List ℕ) → 256 * d + k < length m → ((i : ℕ) → i < k → get_or m (256 * d + i) 0 ≡ 0)
    → (i : ℕ) → i < k + 1 → get_or (set m (256 * d + k) 0) (256 * d + i) 0 ≡ 0
clear_next d k m b h i l = go (ℕ_discrete i k)
  where
    go : Dec (i ≡ k) → get_or (set m (256 * d + k) 0) (256 * d + i) 0 ≡ 0
    go (yes e) = ap (λ (x : ℕ). get_or (set m (256 * d + k) 0) (256 * d + x) 0) e ∙ get_or-set_same m (256 * d + k) 0 0 b
    go (no e) = get_or-set_other m (256 * d + k) (256 * d + i) 0 0 (λ x. e (omega (arith, x))) ∙ h i (omega (arith, l, e))

-- ---- i records entered, with no fault

pub record Entering (p : Params) (d base : ℕ) (rs : List Rec) (old at : List ℕ) (i : ℕ) : Type 0 where
  pub upto : i ≤ length rs
  pub long : length at ≡ 2048
  pub lower : SameBelow d old at
  pub good : recs_bad p d base (take i rs) ≡ false
  pub row : Row p base (take i rs) d at

-- 01, What a zone holds: the stripe is of the group, and has no entry yet
abbrev pub is_new : Params → ℕ → ℕ → List ℕ → ℕ → Bool
is_new p d base at s = leb base s && ltb (s - base) (group_len p base) && eqb (get_or at (256 * d + (s - base)) 0) 0

pub entering_start : (p : Params) (d base : ℕ) (rs : List Rec) (at : List ℕ) → length at ≡ 2048 → ((k : ℕ) → k < group_len p base → get_or at (256 * d + k) 0 ≡ 0)
    → Entering p d base rs at at 0
entering_start p d base rs at l h = record {
  upto = omega arith;
  long = l;
  lower = λ j k. refl;
  good = no_recs_bad p d base;
  row = λ k hk. h k hk ∙ sym (entry_none (base + k));
}

pub entering_end : (p : Params) (d base : ℕ) (rs : List Rec) (old at : List ℕ) (i : ℕ) → Entering p d base rs old at i → length rs ≤ i
    → (recs_bad p d base rs ≡ false) × Row p base rs d at
entering_end p d base rs old at i e h =
    let t : take i rs ≡ rs = take_all i rs h in
    (subst (λ (x : List Rec). recs_bad p d base x ≡ false) t e.good, subst (λ (x : List Rec). Row p base x d at) t e.row)

module _ (p : Params) (d base : ℕ) (rs : List Rec) (old at : List ℕ) (i : ℕ) (x : Entering p d base rs old at i) (h : i < length rs)
    (g : 0 < p.G) (b : base < p.S) (m : base % p.G ≡ 0) (l : length rs ≤ group_len p base) (r : Rec) (e : r ≡ get_or rs i (mk_rec 0 0 0)) where
  abbrev done : List Rec
  done = take i rs

  take_next : take (i + 1) rs ≡ done ++ (r ∷ [])
  take_next = ap (λ (n : ℕ). take n rs) (add-one i) ∙ take-suc rs i (mk_rec 0 0 0) h ∙ ap (λ (q : Rec). done ++ (q ∷ [])) (sym e)

  bad_is : recs_bad p d base (take (i + 1) rs) ≡ next_bad p d (base + i) done r
  bad_is =
      ap (recs_bad p d base) take_next ∙ bad_next p d base done r x.good
      ∙ ap (λ (n : ℕ). next_bad p d (base + n) done r) (length-take-le i rs (omega (arith, h)))

  -- the record is at fault: so are all
  bad_all : next_bad p d (base + i) done r ≡ true → recs_bad p d base rs ≡ true
  bad_all t =
      ap (recs_bad p d base) (sym (take-append-drop (i + 1) rs)) ∙ bad_more p d base (take (i + 1) rs) (drop (i + 1) rs) (bad_is ∙ t)

  in_group_is : in_group_of p (base + i) r.stripe ≡ (leb base r.stripe && ltb (r.stripe - base) (group_len p base))
  in_group_is = in_group_of_lem p base (base + i) r.stripe g b m (omega arith) (omega (arith, h, l))

  -- the entry of its stripe
  its_entry : base ≤ r.stripe → r.stripe - base < group_len p base → get_or at (256 * d + (r.stripe - base)) 0 ≡ entry_of done r.stripe
  its_entry u w = x.row (r.stripe - base) w ∙ ap (entry_of done) (let y : base + (r.stripe - base) ≡ r.stripe = omega (arith, u) in y)

  pub entering_bad_data : stored_bad p d r ≡ true → recs_bad p d base rs ≡ true
  unfolding next_bad
  entering_bad_data t =
      bad_all (or_true_right (not (in_group_of p (base + i) r.stripe) || any (λ (q : Rec). eqb q.stripe r.stripe) done) (stored_bad p d r) t)

  pub entering_bad : is_new p d base at r.stripe ≡ false → recs_bad p d base rs ≡ true
  unfolding next_bad
  entering_bad t = go (test (in_group_of p (base + i) r.stripe))
    where
      twin : Bool
      twin = any (λ (q : Rec). eqb q.stripe r.stripe) done

      go : Test (in_group_of p (base + i) r.stripe) → recs_bad p d base rs ≡ true
      go (no! n) =
          bad_all (or_true_left (not (in_group_of p (base + i) r.stripe) || twin) (stored_bad p d r)
          (or_true_left (not (in_group_of p (base + i) r.stripe)) twin (ap not n)))
      go (yes! n) =
          let y : (leb base r.stripe && ltb (r.stripe - base) (group_len p base)) ≡ true = sym in_group_is ∙ n in
          let u = leb-true base r.stripe (and_left (leb base r.stripe) (ltb (r.stripe - base) (group_len p base)) y) in
          let w = ltb-true (r.stripe - base) (group_len p base) (and_right (leb base r.stripe) (ltb (r.stripe - base) (group_len p base)) y) in
          let z : eqb (get_or at (256 * d + (r.stripe - base)) 0) 0 ≡ false = sym (ap (λ (c : Bool). c && eqb (get_or at (256 * d + (r.stripe - base)) 0) 0) y) ∙ t in
          let a : twin ≡ true = entry_zero done r.stripe ∙ ap (λ (n : ℕ). not (eqb n 0)) (sym (its_entry u w)) ∙ ap not z in
          bad_all (or_true_left (not (in_group_of p (base + i) r.stripe) || twin) (stored_bad p d r) (or_true_right (not (in_group_of p (base + i) r.stripe)) twin a))

  pub entering_next : d < 8 → group_len p base ≤ 256 → stored_bad p d r ≡ false → is_new p d base at r.stripe ≡ true
      → Entering p d base rs old (set at (256 * d + (r.stripe - base)) (i + 1)) (i + 1)
  unfolding next_bad
  entering_next d8 len s t =
      let y : (leb base r.stripe && ltb (r.stripe - base) (group_len p base)) ≡ true =
      and_left (leb base r.stripe && ltb (r.stripe - base) (group_len p base)) (eqb (get_or at (256 * d + (r.stripe - base)) 0) 0) t in
      let u = leb-true base r.stripe (and_left (leb base r.stripe) (ltb (r.stripe - base) (group_len p base)) y) in
      let w = ltb-true (r.stripe - base) (group_len p base) (and_right (leb base r.stripe) (ltb (r.stripe - base) (group_len p base)) y) in
      let z =
      eqb-true (get_or at (256 * d + (r.stripe - base)) 0) 0
      (and_right (leb base r.stripe && ltb (r.stripe - base) (group_len p base)) (eqb (get_or at (256 * d + (r.stripe - base)) 0) 0) t) in
      let en : entry_of done r.stripe ≡ 0 = sym (its_entry u w) ∙ z in
      let a : any (λ (q : Rec). eqb q.stripe r.stripe) done ≡ false = entry_zero done r.stripe ∙ ap not (eq-eqb (entry_of done r.stripe) 0 en) in
      record {
        upto = omega (arith, h);
        long = length-set at (256 * d + (r.stripe - base)) (i + 1) ∙ x.long;
        lower = below_set d old at (256 * d + (r.stripe - base)) (i + 1) x.lower (omega arith);
        good =
            bad_is
            ∙ or_neither (not (in_group_of p (base + i) r.stripe) || any (λ (q : Rec). eqb q.stripe r.stripe) done) (stored_bad p d r)
            (or_neither (not (in_group_of p (base + i) r.stripe)) (any (λ (q : Rec). eqb q.stripe r.stripe) done) (ap not (in_group_is ∙ y)) a) s;
        row = λ k hk. next_row d8 len u w en k hk (ℕ_discrete k (r.stripe - base));
      }
    where
      next_row : d < 8 → group_len p base ≤ 256 → base ≤ r.stripe → r.stripe - base < group_len p base → entry_of done r.stripe ≡ 0 → (k : ℕ) → k < group_len p base
          → Dec (k ≡ r.stripe - base)
          → get_or (set at (256 * d + (r.stripe - base)) (i + 1)) (256 * d + k) 0 ≡ entry_of (take (i + 1) rs) (base + k)
      next_row d8 len u w en k hk (yes q) =
          ap (λ (n : ℕ). get_or (set at (256 * d + (r.stripe - base)) (i + 1)) (256 * d + n) 0) q
          ∙ get_or-set_same at (256 * d + (r.stripe - base)) (i + 1) 0 (let ll = x.long in omega (arith, ll, d8, len, w))
          ∙ (let y : i + 1 ≡ length done + 1 = ap (λ (n : ℕ). n + 1) (sym (length-take-le i rs (omega (arith, h)))) in y)
          ∙ sym (entry_new done r en)
          ∙ (λ j. entry_of (sym take_next j) ((let y : r.stripe ≡ base + k = omega (arith, q, u) in y) j))
      next_row d8 len u w en k hk (no q) =
          get_or-set_other at (256 * d + (r.stripe - base)) (256 * d + k) (i + 1) 0 (λ y. q (omega (arith, y)))
          ∙ x.row k hk
          ∙ sym (entry_old done r (base + k) (λ y. q (omega (arith, y, u))))
          ∙ ap (λ (n : List Rec). entry_of n (base + k)) (sym take_next)

-- ---- the rows of the drives, one after the other

-- a present drive's records of the group are at fault
abbrev pub drive_bad : Params → ℕ → Segment → ℕ → ℕ → Bool
drive_bad p gone g base e = not (is_in gone e) && recs_bad p e base (group_recs p base (recs_on g e))

pub fault_list : (p : Params) (gone : ℕ) (g : Segment) (base : ℕ) → group_fault p gone g base ≡ any (drive_bad p gone g base) (below p.N)
unfolding group_fault present drives_of
fault_list p gone g base = any-keep (λ d. not (is_in gone d)) (λ d. recs_bad p d base (group_recs p base (recs_on g d))) (below p.N)

pub bad_or : (a b : Bool) → (not a && b) ≡ not (a || not b)
bad_or true b = refl
bad_or false true = refl
bad_or false false = refl

pub rows_next : (p : Params) (base d : ℕ) (recs : ℕ → List Rec) (at to : List ℕ) → group_len p base ≤ 256 → ((e : ℕ) → e < d → Row p base (recs e) e at)
    → SameBelow d at to → Row p base (recs d) d to → (e : ℕ) → e < d + 1 → Row p base (recs e) e to
rows_next p base d recs at to l rows same row e h = go (ℕ_discrete e d)
  where
    go : Dec (e ≡ d) → Row p base (recs e) e to
    go (yes q) = subst (λ (x : ℕ). Row p base (recs x) x to) (sym q) row
    go (no q) = λ k hk. same (256 * e + k) (omega (arith, q, h, hk, l)) ∙ rows e (omega (arith, q, h)) k hk
