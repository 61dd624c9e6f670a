-- `is_all_entered`: each present drive below d is entered; one that is not refutes it and ends it, and at N all are. Assumes nothing.
use mathlib.Core.Path.{◌≡◌, refl, sym, subst}
use mathlib.Core.Bool.{false}
use Prim.Native.Nat.{ℕ, ◌+◌, ◌<◌}
use native.Mathlib.Omega.{arith}
use native.Mathlib.Decide.{dec_lt}
use borrow.Author.Tests.{not-true, not-false}
use Rattle.spec.specs.Lists.{is_in}
use Rattle.law_basic.specs.Ranges.{not_both}
use Rattle.recover_groups.specs.Groups.{Entered}
use Rattle.recover_survey.proofs.is_all_entered.Goals as goal

-- the last, or one before
at_or_below : (P : ℕ → ℕ → Type 0) (k d e : ℕ) → e < d + 1 → (e < d → P e k) → (e ≡ d → P d k) → P e k
at_or_below P k d e h f g = go (dec_lt e d)
  where
    go : Dec (e < d) → P e k
    go (yes q) = f q
    go (no q) = let x : e ≡ d = omega arith in subst (λ (y : ℕ). P y k) (sym x) (g x)

pub loop-d-init : goal.loop-d-init
loop-d-init c =
    (omega arith, λ e h _. absurd (let q : ⊥ = omega (arith, h) in q))

pub is_entered-requires : goal.is_entered-requires
is_entered-requires c =
    let h = c.requires in record { p_value = h.p_value; at_len = (h.at_len.0, h.at_len.1, c.loop-d-test.true, h.at_len.2) }

pub returns-then-not-is_entered : goal.returns-then-not-is_entered
returns-then-not-is_entered c =
    let i = c.is_entered in
    let loop = c.loop-d in record {
      all_entered = (λ q. absurd (not_both false q refl));
      value = (λ f.
          absurd (not_both i.result (i.ensures.value (λ e. f loop.d c.loop-d-test.true e)) (not-true i.result c.if-not-is_entered.true-raw)));
    }

pub loop-d-preserved : goal.loop-d-preserved
loop-d-preserved c =
    let a = c.args in
    let l = c.loop-d in
    let i = c.is_entered in (
      omega (arith, c.loop-d-test.true),
      λ e h q. at_or_below (Entered a.p a.w.base a.at.now) a.k l.d e h (λ k. l.invariant.1 e k q)
          (λ k. i.ensures.entered (not-false i.result c.if-not-is_entered.false-raw) (subst (λ (x : ℕ). is_in a.w.gone x ≡ false) k q)),
    )

pub returns : goal.returns
returns c =
    let l = c.loop-d in record { all_entered = (λ _ e h q. l.invariant.1 e (omega (arith, h, c.loop-d-test.false)) q); value = (λ _. refl) }
