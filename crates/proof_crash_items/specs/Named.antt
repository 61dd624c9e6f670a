-- Masks of missing drives: the present ones; the mask that a number names. Assumes nothing.
use Rattle.std.specs.Prelude.{◌≡◌, refl, List, Bool, true, ◌≢◌, ℕ, ◌≤◌, ◌<◌, eqb}
use Rattle.std.proofs.Common.{sym, ap, ◌∙◌, arith}
use Rattle.std.proofs.Math.Bool.{false, not}
use Rattle.std.proofs.Math.Decide.{dec_lt}
use borrow.Author.Tests.{eq-eqb, ne_eqb, eqb-true, eqb-false, not-true}
use Rattle.spec.specs.declared.Params.{Params}
use Rattle.spec.specs.Lists.{below, all, any, is_nil, first_or, only, is_in}
use Rattle.spec.specs.Params.{no_drive, named, drives_of, present, absent}
use Rattle.spec.specs.Segments.{low_drive}
use Rattle.law_basic.specs.Geometry.{Ranged}
use Rattle.law_basic.specs.Mask.{only_none, is_in_empty, is_in-only}
use Rattle.law_drives.specs.Tests.{clash}
use Rattle.proof_crash_machine.specs.Mask.{count, count_none, count-only, mask_outside, Mask, tf}
use Rattle.proof_crash_machine.specs.Facts.{None, Choice, Beyond}
use Rattle.proof_crash_machine.proofs.Theorem.{never}
use Rattle.proof_crash_items.specs.Member.{Has, keep_has, has_keep, below_has, has_below, all_has, has_all, none_any, is_nil_has, first_or_has}
use Rattle.proof_crash_items.specs.Ranges.{parities, parities_few, par_of}

-- the mask that m names has m alone
pub is_in-named : (m d : ℕ) → d < 8 → is_in (named m) d ≡ eqb d m
unfolding named
is_in-named m d l = go (dec_lt m 8)
  where
    go : Dec (m < 8) → is_in (only m) d ≡ eqb d m
    go (yes k) = is_in-only m d k l
    go (no k) = ap (λ (x : ℕ). is_in x d) (only_none m (omega arith)) ∙ is_in_empty d ∙ sym (ne_eqb d m (omega arith))

-- it names none just where m is no drive
pub named_none : (m : ℕ) → 8 ≤ m → named m ≡ 0
unfolding named
named_none m l = only_none m l

pub none_named : named no_drive ≡ 0
unfolding no_drive
none_named = named_none no_drive (omega arith)

pub named_not_zero : (m : ℕ) → m < 8 → eqb (named m) 0 ≡ false
named_not_zero m l = ne_eqb (named m) 0 (λ e. clash (is_in-named m m l ∙ eq-eqb m m refl) (ap (λ (x : ℕ). is_in x m) e ∙ is_in_empty m))

-- ---- a mask of missing drives, as the machine's set

-- the drives that are present
module _ (p : Params) (m : ℕ) where
  pub has_present : (d : ℕ) → d < p.N → is_in m d ≡ false → Has d (present p m)
  unfolding present drives_of
  has_present d l n = has_keep (λ d. not (is_in m d)) d (below p.N) (has_below d p.N l) (ap not n)

  pub present_has : (d : ℕ) → Has d (present p m) → (d < p.N) × (is_in m d ≡ false)
  unfolding present drives_of
  present_has d k =
      let r : Has d (below p.N) × (not (is_in m d) ≡ true) = keep_has (λ d. not (is_in m d)) d (below p.N) k in
      (below_has d p.N r.0, not-true (is_in m d) r.1)

  pub has_absent : (d : ℕ) → Has d (absent p m) → (d < p.N) × (is_in m d ≡ true)
  unfolding absent drives_of
  has_absent d k =
      let r : Has d (below p.N) × (is_in m d ≡ true) = keep_has (is_in m) d (below p.N) k in
      (below_has d p.N r.0, r.1)

  -- tests over the present drives
  pub all-present : (f : ℕ → Bool) → all f (present p m) ≡ true → (d : ℕ) → d < p.N → is_in m d ≡ false → f d ≡ true
  all-present f e d l n = all_has f (present p m) e d (has_present d l n)

  pub all_on_present : (f : ℕ → Bool) → ((d : ℕ) → d < p.N → is_in m d ≡ false → f d ≡ true) → all f (present p m) ≡ true
  all_on_present f k = has_all f (present p m) (λ d i. k d (present_has d i).0 (present_has d i).1)

  pub none_present : (f : ℕ → Bool) → ((d : ℕ) → d < p.N → is_in m d ≡ false → f d ≡ false) → any f (present p m) ≡ false
  none_present f k = none_any f (present p m) (λ d i. k d (present_has d i).0 (present_has d i).1)

  -- the lowest one
  pub low_drive_holds : Ranged p → count p.N (is_in m) ≤ parities p → (low_drive p m < p.N) × (is_in m (low_drive p m) ≡ false)
  unfolding low_drive
  low_drive_holds h few = present_has (first_or 0 (present p m)) (first_or_has 0 (present p m) (go (mask_outside p.N (is_in m) (omega (arith, few, parities_few p h)))))
    where
      go : (d : ℕ) × (d < p.N) × (is_in m d ≡ false) → is_nil (present p m) ≡ false
      go (d, l, n) = is_nil_has (present p m) d (has_present d l n)

-- the drive that a number names, and the number that names none
module _ (p : Params) (h : Ranged p) where
  pub is_named : (m d : ℕ) → d < p.N → is_in (named m) d ≡ eqb d m
  is_named m d l = is_in-named m d (omega (arith, l, h.drives_high))

  pub named_self : (m : ℕ) → m < p.N → is_in (named m) m ≡ true
  named_self m l = is_named m m l ∙ eq-eqb m m refl

  pub named_other : (m d : ℕ) → d < p.N → d ≢ m → is_in (named m) d ≡ false
  named_other m d l n = is_named m d l ∙ ne_eqb d m n

  pub named-only : (m d : ℕ) → d < p.N → is_in (named m) d ≡ true → d ≡ m
  named-only m d l e = eqb-true d m (sym (is_named m d l) ∙ e)

  pub named_out : (m d : ℕ) → d < p.N → is_in (named m) d ≡ false → d ≢ m
  named_out m d l e = eqb-false d m (sym (is_named m d l) ∙ e)

  pub named_few : (m : ℕ) → count p.N (is_in (named m)) ≤ parities p
  unfolding parities
  named_few m = count-only p.N (is_in (named m)) m (λ d l e. named-only m d l e)

  pub zero_few : count p.N (is_in 0) ≤ parities p
  zero_few = omega (arith, count_none p.N (is_in 0) (λ d l. is_in_empty d))

  -- with none untrusted, none may be named
  module _ (off : List ℕ) where
    pub none_out : None (par_of p h off) (is_in 0)
    none_out d l = is_in_empty d

    pub zero_choice : (n : Mask) → None (par_of p h off) n → Choice (par_of p h off) n (is_in 0)
    zero_choice n e = (zero_few, λ d l q. tf q (e d l))

    -- of so few drives none is beyond another
    pub never_beyond : (k m : Mask) → count p.N m ≤ parities p → Beyond (par_of p h off) k m → ⊥
    unfolding parities
    never_beyond k m few b = never (par_of p h off) (omega arith) k m few b
