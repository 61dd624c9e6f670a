-- What the examination says of step 4 of a restart: one unsealed segment at most, whole or ragged or neither (01, Restart, 4). Assumes nothing.
use Rattle.std.specs.Prelude.{◌≡◌, Bool, true, false, ◌&&◌, ◌||◌, ℕ, suc, ◌≤◌, ◌<◌, leb}
use Rattle.std.proofs.Math.Path.{refl, sym, ap, ap₂}
use Rattle.std.proofs.Common.{◌∙◌, subst, le-leb, ne_eqb}
use mathlib.Core.List.{List, [], ◌∷◌}
use Rattle.std.proofs.Math.Bool.{not}
use Rattle.std.proofs.Math.Nat.{add-zero}
use Rattle.std.proofs.Math.Decide.{dec_le, ℕ_discrete}
use native.Mathlib.Omega.{arith}
use Rattle.std.proofs.Math.Dec.{eqb}
use Rattle.std.proofs.Math.ListN.{length}
use Rattle.law_basic.specs.Ranges.{not_both, pass_none}
use Rattle.law_drives.specs.Accept.{map-nil}
use Rattle.law_drives.specs.Tests.{or_true_right}
use Rattle.law_scans.specs.Scans.{is_nil-length}
use Rattle.recover_headers.specs.Lowest.{low_none, low-named, low-le}
use Rattle.recover_survey.specs.Tops.{top_of, same_top}
use Rattle.spec.specs.declared.Params.{Params}
use Rattle.spec.specs.declared.Answer.TheVariants.{BadZone}
use Rattle.spec.specs.Bytes.{part}
use Rattle.spec.specs.Calls.{Check, first_refusal}
use Rattle.spec.specs.Calls.Check.{zones}
use Rattle.spec.specs.Drives.{View, zone_on}
use Rattle.spec.specs.Faults.{header_fault, own_fault, bad_name, name_clash, serial_twice, serial_fault, stripe_fault, address_fault, footer_fault, clashes, segment_fault, segment_faults}
use Rattle.spec.specs.Lists.Opt.{some}
use Rattle.spec.specs.Lists.{below, any, cons_if, keep, is_nil, total, same_list}
use Rattle.spec.specs.Restart.{is_whole, is_ragged, uncounted_in, rewrites}
use Rattle.spec.specs.Segments.{low_drive, Segment, segments, counts, counted, uncounted, unsealed}
use Rattle.recover_check.specs.declared.Exam.{Exam}
use Rattle.recover_check.specs.Faults.{summed, Examined, ragged_by, faulty, faults_list}

-- ---- no zone is bad

-- 01, Refusals, 9: zone Z says that no segment has a fault
pub no_faults : (p : Params) (v : View) (gone : ℕ) (e : Exam) → Examined p v gone (segments p v gone) e → e.zone ≡ p.Z → segment_faults p v gone (segments p v gone) ≡ []
no_faults p v gone e x z = low_none (faulty p v gone) p.Z (segment_faults p v gone (segments p v gone)) (faults_list p v gone x.here) (sym x.zone_is ∙ z)

-- and a lower one that it is the zone that 9 names
pub names_zone_lem : (p : Params) (v : View) (gone : ℕ) (e : Exam) (cs : List Check) → Examined p v gone (segments p v gone) e → e.zone < p.Z
    → first_refusal (zones (segment_faults p v gone (segments p v gone)) ∷ cs) ≡ some (BadZone e.zone)
names_zone_lem p v gone e cs x h =
    low-named (faulty p v gone) p.Z (segment_faults p v gone (segments p v gone)) (faults_list p v gone x.here) cs (subst (λ (n : ℕ). n < p.Z) x.zone_is h)
    ∙ ap (λ (n : ℕ). some (BadZone n)) (sym x.zone_is)

pub zone_le : (p : Params) (v : View) (gone : ℕ) (e : Exam) → Examined p v gone (segments p v gone) e → e.zone ≤ p.Z
zone_le p v gone e x =
    subst (λ (n : ℕ). n ≤ p.Z) (sym x.zone_is) (low-le (faulty p v gone) p.Z (segment_faults p v gone (segments p v gone)) (faults_list p v gone x.here))

-- ---- two unsealed segments clash

none_pass : {A : Type 0} (f : A → Bool) (l : List A) → keep f l ≡ [] → any f l ≡ false
unfolding keep cons_if any
none_pass f [] e = refl
none_pass {A} f (a ∷ l) e = go (f a) (none_pass f l) e
  where
    go : (b : Bool) → (keep f l ≡ [] → any f l ≡ false) → cons_if b a (keep f l) ≡ [] → (b || any f l) ≡ false
    go true r q = let z : ◌≡◌ {A = ℕ} (suc (length (keep f l))) 0 = ap length q in absurd (let w : ⊥ = omega (arith, z) in w)
    go false r q = r q

none_less : {A : Type 0} (f g : A → Bool) (l : List A) → ((a : A) → f a ≡ true → g a ≡ true) → any g l ≡ false → any f l ≡ false
unfolding any
none_less f g [] h e = refl
none_less {A} f g (a ∷ l) h e = go (f a) (g a) (h a) (none_less f g l h) e
  where
    go : (x y : Bool) → (x ≡ true → y ≡ true) → (any g l ≡ false → any f l ≡ false) → (y || any g l) ≡ false → (x || any f l) ≡ false
    go true y q r k = absurd (not_both true refl (sym (ap (λ (b : Bool). b || any g l) (q refl)) ∙ k))
    go false true q r k = absurd (not_both true refl k)
    go false false q r k = r k

unsealed_clash : (p : Params) (v : View) (gone : ℕ) (gs : List Segment) → leb 2 (length (unsealed gs)) ≡ true → (g : Segment) → not g.full ≡ true → segment_fault p v gone gs g ≡ true
unfolding segment_fault clashes
unsealed_clash p v gone gs m g q =
    or_true_right
    (header_fault p gone g || own_fault p gone g || bad_name p v g || name_clash p gs g || serial_twice p v gone g || serial_fault g
    || stripe_fault p gone g || address_fault p gone g || footer_fault p gone g)
    (not g.full && leb 2 (length (unsealed gs))) (λ i. q i && m i)

-- 01, Refusals, 9: no clash, so one is unsealed at most
pub unsealed-at_most_one : (p : Params) (v : View) (gone : ℕ) (gs : List Segment) → segment_faults p v gone gs ≡ [] → length (unsealed gs) ≤ 1
unfolding segment_faults unsealed
unsealed-at_most_one p v gone gs e = go (dec_le 2 (length (unsealed gs)))
  where
    go : Dec (2 ≤ length (unsealed gs)) → length (unsealed gs) ≤ 1
    go (no h) = omega arith
    go (yes h) =
        let f : any (segment_fault p v gone gs) gs ≡ false = none_pass (segment_fault p v gone gs) gs
        (map-nil (λ (g : Segment). zone_on g.seg (low_drive p gone)) (keep (segment_fault p v gone gs) gs) e) in
        let n : any (λ (g : Segment). not g.full) gs ≡ false = none_less (λ (g : Segment). not g.full) (segment_fault p v gone gs) gs
        (unsealed_clash p v gone gs (le-leb 2 (length (unsealed gs)) h)) f in
        let z : ◌≡◌ {A = ℕ} (length (unsealed gs)) 0 = ap length (pass_none (λ (g : Segment). not g.full) gs n) in
        absurd (let w : ⊥ = omega (arith, z, h) in w)

-- ---- whole or ragged

and_none : (b : Bool) → (b && false) ≡ false
and_none true = refl
and_none false = refl

or_nothing : (b : Bool) → (b || false) ≡ b
or_nothing true = refl
or_nothing false = refl

top_counted : (p : Params) (g : Segment) → same_list (counted p 0 g) (below (length (counted p 0 g))) ≡ eqb (top_of p 0 g) (length (counted p 0 g))
unfolding counted top_of
top_counted p g = same_top (counts p 0 g) p.S

module _ (p : Params) (v : View) (gone : ℕ) (gs : List Segment) (e : Exam) (x : Examined p v gone gs e) (z : e.zone ≡ p.Z) where
  -- the numbers of the one unsealed segment
  module _ (g : Segment) (one : unsealed gs ≡ g ∷ []) where
    pub counted-one : e.counted ≡ length (counted p gone g)
    unfolding summed total
    counted-one = x.counted_is z ∙ ap (summed (λ (h : Segment). length (counted p gone h))) one ∙ add-zero (length (counted p gone g))

    pub top_one : e.top ≡ top_of p gone g
    unfolding summed total
    top_one = x.top_is z ∙ ap (summed (top_of p gone)) one ∙ add-zero (top_of p gone g)

    pub exam_part-one : e.part ≡ length (uncounted p gone g)
    unfolding uncounted_in total
    exam_part-one = x.part_is z ∙ ap (uncounted_in p gone) one ∙ add-zero (length (uncounted p gone g))

  -- there is none
  module _ (nil : unsealed gs ≡ []) where
    pub exam_counted_none : e.counted ≡ 0
    unfolding summed total
    exam_counted_none = x.counted_is z ∙ ap (summed (λ (h : Segment). length (counted p gone h))) nil

    pub top_none : e.top ≡ 0
    unfolding summed total
    top_none = x.top_is z ∙ ap (summed (top_of p gone)) nil

    pub exam_part_none : e.part ≡ 0
    unfolding uncounted_in total
    exam_part_none = x.part_is z ∙ ap (uncounted_in p gone) nil

module _ (p : Params) (v : View) (gs : List Segment) (e : Exam) (x : Examined p v 0 gs e) (z : e.zone ≡ p.Z) where
  module _ (g : Segment) (one : unsealed gs ≡ g ∷ []) where
    -- 01, Restart, 4: all S stripes count
    pub whole_is : is_whole p g ≡ eqb e.counted p.S
    unfolding is_whole
    whole_is = ap (λ (n : ℕ). eqb n p.S) (sym (counted-one p v 0 gs e x z g one))

    -- 01, Restart, 4: its counted stripes aren't 0 to c - 1, or other chunks exist
    pub ragged_is : is_ragged p g ≡ ragged_by p e
    unfolding is_ragged ragged_by
    ragged_is = λ i. not (whole_is i) && (not (tops i) || not (parts i))
      where
        tops : same_list (counted p 0 g) (below (length (counted p 0 g))) ≡ eqb e.top e.counted
        tops = top_counted p g ∙ ap₂ eqb (sym (top_one p v 0 gs e x z g one)) (sym (counted-one p v 0 gs e x z g one))

        parts : is_nil (uncounted p 0 g) ≡ eqb e.part 0
        parts = is_nil-length (uncounted p 0 g) ∙ ap (λ (n : ℕ). eqb n 0) (sym (exam_part-one p v 0 gs e x z g one))

  -- 01, Restart, 4: with none unsealed nothing is ragged
  pub ragged_none : unsealed gs ≡ [] → ragged_by p e ≡ false
  unfolding ragged_by
  ragged_none nil =
      (λ i. not (eqb e.counted p.S)
      && (not (eqb (top_none p v 0 gs e x z nil i) (exam_counted_none p v 0 gs e x z nil i)) || not (eqb (exam_part_none p v 0 gs e x z nil i) 0)))
      ∙ and_none (not (eqb e.counted p.S))

  -- 01, Restart, 4: any unsealed segment is ragged
  pub any_ragged : length (unsealed gs) ≤ 1 → any (is_ragged p) (unsealed gs) ≡ ragged_by p e
  unfolding any
  any_ragged few = go (unsealed gs) refl few
    where
      go : (us : List Segment) → unsealed gs ≡ us → length us ≤ 1 → any (is_ragged p) us ≡ ragged_by p e
      go [] q h = sym (ragged_none q)
      go (g ∷ []) q h = or_nothing (is_ragged p g) ∙ ragged_is g q
      go (g ∷ k ∷ us) q h = absurd (let w : ⊥ = omega arith in w)

rewrites-zero : (p : Params) (gone : ℕ) (gs : List Segment) (e : Exam) → gone ≡ 0 → any (is_ragged p) (unsealed gs) ≡ ragged_by p e → rewrites p gone gs ≡ (eqb gone 0 && ragged_by p e)
unfolding rewrites
rewrites-zero p gone gs e q h = ap (λ (b : Bool). eqb gone 0 && b) h

rewrites-other : (p : Params) (gone : ℕ) (gs : List Segment) (e : Exam) → (gone ≡ 0 → ⊥) → rewrites p gone gs ≡ (eqb gone 0 && ragged_by p e)
unfolding rewrites
rewrites-other p gone gs e q =
    let k : eqb gone 0 ≡ false = ne_eqb gone 0 q in
    ap (λ (b : Bool). b && any (is_ragged p) (unsealed gs)) k ∙ sym (ap (λ (b : Bool). b && ragged_by p e) k)

-- 01, Restart, 4: a rewrite is due
pub rewrites_is : (p : Params) (v : View) (gone : ℕ) (e : Exam) → Examined p v gone (segments p v gone) e → e.zone ≡ p.Z
    → rewrites p gone (segments p v gone) ≡ (eqb gone 0 && ragged_by p e)
rewrites_is p v gone e x z = go (ℕ_discrete gone 0)
  where
    few : length (unsealed (segments p v gone)) ≤ 1
    few = unsealed-at_most_one p v gone (segments p v gone) (no_faults p v gone e x z)

    go : Dec (gone ≡ 0) → rewrites p gone (segments p v gone) ≡ (eqb gone 0 && ragged_by p e)
    go (yes q) = rewrites-zero p gone (segments p v gone) e q (any_ragged p v (segments p v gone) e (subst (λ (n : ℕ). Examined p v n (segments p v gone) e) q x) z few)
    go (no q) = rewrites-other p gone (segments p v gone) e q
