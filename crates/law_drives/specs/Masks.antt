-- Masks of drives: one drive alone, and all drives.
use Rattle.std.specs.Prelude.{◌≡◌, refl, true, not, ℕ, ◌^◌, ◌≤◌, ◌<◌, leb, eqb}
use Rattle.std.proofs.Common.{sym, ◌∙◌, subst}
use Rattle.std.proofs.Math.Bool.{false}
use Rattle.std.proofs.Math.Decide.{ℕ_discrete}
use borrow.Author.Tests.{eq-eqb, leb-true, not-true, ne_eqb}
use native.Mathlib.Omega.{arith}
use Rattle.std.specs.Int.Count.{ones, ones_in}
use Rattle.std.proofs.Math.Pow.{pow-lt}
use Rattle.spec.specs.declared.Params.{Params}
use Rattle.spec.specs.Lists.{up_from, below, all, powers, only, is_in, is_nil, first_or}
use Rattle.spec.specs.Params.{named, present, parity_count}
use Rattle.spec.specs.Segments.{low_drive}
use Rattle.law_basic.specs.Geometry.{Ranged}
use Rattle.law_basic.specs.Mask.{only_pow, ones_all, is_in-only}
use Rattle.law_drives.specs.Members.{all_in, some_fails, in_below, below_in, In, first_in, in_some}
use Rattle.law_drives.specs.Tests.{eqb_self}
use Rattle.law_drives.specs.Gather.{in_present, present_in}
use Rattle.law_drives.specs.Segs.{Here}

pub only-low : (d n : ℕ) → d < n → n ≤ 8 → only d < 2 ^ n
only-low d n h k = subst (λ (x : ℕ). x < 2 ^ n) (sym (only_pow d (omega arith))) (pow-lt h)

only_ones : all (λ d. leb (ones (only d)) 1) (below 8) ≡ true
unfolding all below up_from only powers ones ones_in
only_ones = refl

pub ones_only : (d : ℕ) → d < 8 → ones (only d) ≤ 1
ones_only d h = leb-true (ones (only d)) 1 (all_in (λ d. leb (ones (only d)) 1) (below 8) only_ones d (in_below 8 d h))

only_some : all (λ d. not (eqb (only d) 0)) (below 8) ≡ true
unfolding all below up_from only powers
only_some = refl

pub only_nonzero : (d : ℕ) → d < 8 → eqb (only d) 0 ≡ false
only_nonzero d h = not-true (eqb (only d) 0) (all_in (λ d. not (eqb (only d) 0)) (below 8) only_some d (in_below 8 d h))

-- as many ones as drives: every drive is in
pub full_mask : (n m : ℕ) → n ≤ 8 → m < 2 ^ n → ones m ≡ n → (e : ℕ) → e < n → is_in m e ≡ true
full_mask n m h l q e k = all_in (is_in m) (below n) (sym (ones_all n m h l) ∙ eq-eqb (ones m) n q) e (in_below n e k)

-- and if not, some drive isn't
pub not_full : (n m : ℕ) → n ≤ 8 → m < 2 ^ n → eqb (ones m) n ≡ false → (e : ℕ) × (e < n) × (is_in m e ≡ false)
not_full n m h l q = let (e, i, x) = some_fails (is_in m) (below n) (sym (ones_all n m h l) ∙ q) in (e, below_in n e i, x)

-- ---- the mask of a drive

module _ (p : Params) (r : Ranged p) (d : ℕ) (hd : d < p.N) where
  eight : d < 8
  eight = omega (arith, r.drives_high)

  pub named_in : is_in (named d) d ≡ true
  unfolding named
  named_in = is_in-only d d eight eight ∙ eqb_self d

  pub named-low : named d < 2 ^ p.N
  unfolding named
  named-low = only-low d p.N hd r.drives_high

  pub named_ones : ones (named d) ≤ 1
  unfolding named
  named_ones = ones_only d eight

  pub named_some : eqb (named d) 0 ≡ false
  unfolding named
  named_some = only_nonzero d eight

  other-present : (e : ℕ) → e < p.N → (e ≡ d → ⊥) → In e (present p (named d))
  unfolding named
  other-present e he ne = in_present p (only d) e he (is_in-only d e eight (omega (arith, r.drives_high)) ∙ ne_eqb e d ne)

  pub low-present : In (low_drive p (named d)) (present p (named d))
  unfolding low_drive
  low-present = first_in (present p (named d)) 0 (go (ℕ_discrete 0 d))
    where
      go : Dec (0 ≡ d) → is_nil (present p (named d)) ≡ false
      go (no n) = in_some (present p (named d)) 0 (other-present 0 (omega (arith, r.drives_low)) n)
      go (yes n) = in_some (present p (named d)) 1 (other-present 1 (omega (arith, r.drives_low)) (λ e. let z : ⊥ = omega arith in z))

-- at most one drive missing leaves another
pub few_here : (p : Params) → Ranged p → (gone : ℕ) → gone < 2 ^ p.N → ones gone ≤ parity_count p → Here p gone
unfolding low_drive parity_count
few_here p r gone l h =
    let (e, he, q) = not_full p.N gone r.drives_high l (ne_eqb (ones gone) p.N (λ x. let z : ⊥ = omega (arith, h, r.drives_low) in z)) in
    present_in p gone (first_or 0 (present p gone)) (first_in (present p gone) 0 (in_some (present p gone) e (in_present p gone e he q)))

-- the mask of the named drive
pub only-named : (d : ℕ) → only d ≡ named d
unfolding named
only-named d = refl
