-- `is_entered`: a missing drive asks nothing; an entry of 0 is none; of any other the group's length decides, in both directions. Assumes nothing.
use mathlib.Core.Path.{◌≡◌, refl, sym, ◌∙◌, subst}
use mathlib.Core.Bool.{false}
use Prim.Native.Nat.{ℕ, ◌+◌, ◌*◌, ◌≤◌}
use native.Mathlib.Omega.{arith}
use lib.ListN.{get_or}
use borrow.Author.Tests.{le-leb, leb-true}
use Rattle.spec.specs.Lists.{is_in}
use Rattle.law_basic.specs.Geometry.{ranged}
use Rattle.law_basic.specs.Ranges.{not_both}
use Rattle.recover_survey.proofs.is_entered.Goals as goal

pub returns-then-has_drive : goal.returns-then-has_drive
returns-then-has_drive c =
    let a = c.args in record { entered = (λ _ e. absurd (not_both (is_in a.w.gone a.drive) (sym c.has_drive.ensures ∙ c.if-has_drive.true) e)); value = (λ _. refl) }

pub overflow_mul-j : goal.overflow_mul-j
overflow_mul-j c =
    let a = c.args in
    let h = c.requires in
    let r = ranged a.p h.p_value in
    omega (arith, r.drives_high, h.at_len.2, h.at_len.3)

pub overflow_add-j : goal.overflow_add-j
overflow_add-j c =
    let a = c.args in
    let h = c.requires in
    let r = ranged a.p h.p_value in
    omega (arith, r.drives_high, h.at_len.2, h.at_len.3)

pub offset_bounds-at-j : goal.offset_bounds-at-j
offset_bounds-at-j c =
    let a = c.args in
    let h = c.requires in
    let r = ranged a.p h.p_value in
    omega (arith, r.drives_high, h.at_len.2, h.at_len.3)

pub bounds-at-j : goal.bounds-at-j
bounds-at-j c =
    let a = c.args in
    let h = c.requires in
    let r = ranged a.p h.p_value in
    omega (arith, r.drives_high, h.at_len.0, h.at_len.2, h.at_len.3)

pub overflow_cast-o : goal.overflow_cast-o
overflow_cast-o c =
    let a = c.args in
    let h = c.requires in
    let r = ranged a.p h.p_value in
    omega (arith, c.shared_slice_known-2-1.given (256 * a.drive + a.k))

pub returns-then-o-eq0 : goal.returns-then-o-eq0
returns-then-o-eq0 c =
    let a = c.args in record {
      entered = (λ q _. absurd (not_both false q refl));
      value = (λ f.
          let e : is_in a.w.gone a.drive ≡ false = sym c.has_drive.ensures ∙ c.if-has_drive.false in
          let w : 1 ≤ get_or a.at.now (256 * a.drive + a.k) 0 = (f e).0 in
          let z : get_or a.at.now (256 * a.drive + a.k) 0 ≡ 0 = c.if-o-eq0.true in
          absurd (let q : ⊥ = omega (arith, w, z) in q));
    }

pub returns : goal.returns
returns c =
    let a = c.args in
    let has-drive = c.has_drive in
    let o = get_or a.at.now (256 * a.drive + a.k) 0 in
    let e : is_in a.w.gone a.drive ≡ false = sym has-drive.ensures ∙ c.if-has_drive.false in
    let z : o ≡ 0 → ⊥ = c.if-o-eq0.false in record {
      entered =
          (λ q _. (omega (arith, z), subst (λ (x : ℕ). o ≤ x) c.group_len.ensures.0 (leb-true o c.group_len.result q)));
      value =
          (λ f. le-leb o c.group_len.result (subst (λ (x : ℕ). o ≤ x) (sym c.group_len.ensures.0) (f e).1));
    }
