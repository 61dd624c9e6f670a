-- The checks of a write of no bytes one after the other: the first six, then those where no stripe is filling (02, item 1). Assumes nothing.
use Rattle.std.specs.Prelude.{◌≡◌, List, [], ◌∷◌, true, false, ℕ, zero, suc, ◌≤◌, ◌<◌, leb, eqb, take, drop}
use Rattle.std.proofs.Math.Path.{refl, sym}
use Rattle.std.proofs.Common.{ap, ◌∙◌, arith}
use Rattle.std.proofs.Math.Bool.{not}
use borrow.Author.Tests.{le-leb, lt-leb, leb-false, eq-eqb, ne_eqb, not-false}
use Rattle.spec.specs.declared.Params.{Params}
use Rattle.spec.specs.declared.Answer.{Answer}
use Rattle.spec.specs.declared.Answer.TheVariants.{Refused, BadZone}
use Rattle.spec.specs.Calls.Check.{rule, zones}
use Rattle.spec.specs.Calls.{ninth, ruled, first_refusal, Check}
use Rattle.spec.specs.Closing.{empty_checks}
use Rattle.spec.specs.Drives.{view_of, few_good, above_narrow, Disk}
use Rattle.spec.specs.Engine.{lent_ok_of}
use Rattle.spec.specs.Lists.{Opt}
use Rattle.spec.specs.Lists.Opt.{none, some}
use Rattle.spec.specs.Memory.{Memory, has_filling, state_ok, state_faults}
use Rattle.spec.specs.Params.{in_range}
use Rattle.law_views.specs.Views.{seen}
use Rattle.mem_calls.specs.Listed.{list_rule_of, list_fails, list_passes}
use Rattle.law_checks.specs.Empty.{idle_refusal}
use Rattle.law_calls.specs.Refusals.{zone_fails, zones_pass, none_left, state_fault, state_fine, rule_fails, rule_passes, rule_free}

-- ---- the first n of some checks

-- one of them refuses
pub first_refuses : (n : ℕ) (cs : List Check) (a : Answer) → first_refusal (take n cs) ≡ some a → first_refusal cs ≡ some a
unfolding first_refusal ruled ninth
first_refuses zero cs a e = absurd (let z : ◌≡◌ {A = ℕ} 0 1 = cc in let y : ⊥ = omega arith in y)
first_refuses (suc n) [] a e = e
first_refuses (suc n) (rule i true ∷ cs) a e = e
first_refuses (suc n) (rule i false ∷ cs) a e = first_refuses n cs a e
first_refuses (suc n) (zones [] ∷ cs) a e = first_refuses n cs a e
first_refuses (suc n) (zones (z ∷ zs) ∷ cs) a e = e

-- ---- 01, Refusals, 3 and 4

module _ (missing bound a : ℕ) where
  abbrev pub empty_third_holds : Opt Answer
  empty_third_holds = first_refusal (rule 3 (not (eqb missing 0)) ∷ rule 4 (leb bound a) ∷ [])

  pub empty_missing_fails : (missing ≡ 0 → ⊥) → some (Refused 3) ≡ empty_third_holds
  empty_missing_fails f = sym (rule_fails 3 (not (eqb missing 0)) (rule 4 (leb bound a) ∷ []) (ap not (ne_eqb missing 0 f)))

  empty_missing_passes : missing ≡ 0 → first_refusal (rule 4 (leb bound a) ∷ []) ≡ empty_third_holds
  empty_missing_passes f = sym (rule_passes 3 (not (eqb missing 0)) (rule 4 (leb bound a) ∷ []) (ap not (eq-eqb missing 0 f)))

  pub empty_address_fails : missing ≡ 0 → bound ≤ a → some (Refused 4) ≡ empty_third_holds
  empty_address_fails f h = sym (rule_fails 4 (leb bound a) [] (le-leb bound a h)) ∙ empty_missing_passes f

  pub empty_address_passes : missing ≡ 0 → a < bound → none ≡ empty_third_holds
  empty_address_passes f h = sym (rule_passes 4 (leb bound a) [] (lt-leb bound a h) ∙ none_left) ∙ empty_missing_passes f

-- ---- the checks, in order

module _ (p : Params) (off : List ℕ) (k : Disk) (m : Memory) (a : ℕ) where
  -- 02, item 1: the first check of a write of no bytes that holds, on what it is lent
  abbrev pub empty_refusal : Opt Answer
  empty_refusal = first_refusal (empty_checks p (lent_ok_of p off k m) (seen p off k) m a)

  -- the first refusal among the first six checks from the i-th on, counted from 0
  abbrev pub empty_first : ℕ → Opt Answer
  empty_first i = first_refusal (drop i (take 6 (empty_checks p (lent_ok_of p off k m) (seen p off k) m a)))

  -- the checks after the i-th
  abbrev rest : ℕ → List Check
  rest i = drop (suc i) (take 6 (empty_checks p (lent_ok_of p off k m) (seen p off k) m a))

  pub empty_range_fails : in_range p ≡ false → some (Refused 1) ≡ empty_first 0
  unfolding empty_checks
  empty_range_fails e = sym (rule_fails 1 (not (in_range p)) (rest 0) (ap not e))

  pub empty_range_passes : in_range p ≡ true → empty_first 1 ≡ empty_first 0
  unfolding empty_checks
  empty_range_passes e = sym (rule_passes 1 (not (in_range p)) (rest 0) (ap not e))

  pub empty_lengths_fail : lent_ok_of p off k m ≡ false → some (Refused 2) ≡ empty_first 1
  unfolding empty_checks
  empty_lengths_fail e = sym (rule_fails 2 (not (lent_ok_of p off k m)) (rest 1) (ap not e))

  pub empty_lengths_pass : lent_ok_of p off k m ≡ true → empty_first 2 ≡ empty_first 1
  unfolding empty_checks
  empty_lengths_pass e = sym (rule_passes 2 (not (lent_ok_of p off k m)) (rest 1) (ap not e))

  -- 02, item 4
  pub empty_list_fails : (r : Answer) → some r ≡ list_rule_of p off → some r ≡ empty_first 2
  unfolding empty_checks view_of
  empty_list_fails r e = list_fails p (seen p off k) (rest 3) r e

  pub empty_list_passes : none ≡ list_rule_of p off → empty_first 4 ≡ empty_first 2
  unfolding empty_checks view_of
  empty_list_passes e = sym (list_passes p (seen p off k) (rest 3) e)

  -- 1 and 2 pass, and 10 and the narrow 1
  pub empty_sized : in_range p ≡ true → lent_ok_of p off k m ≡ true → empty_first 2 ≡ empty_first 0
  empty_sized e f = empty_lengths_pass f ∙ empty_range_passes e

  pub empty_listed : in_range p ≡ true → lent_ok_of p off k m ≡ true → none ≡ list_rule_of p off → empty_first 4 ≡ empty_first 0
  empty_listed e f g = empty_list_passes g ∙ empty_sized e f

  -- the last two of them
  pub empty_third : empty_third_holds m.state.missing p.L a ≡ empty_first 4
  unfolding empty_checks
  empty_third = refl

  -- ---- the first six passed

  pub first_passed : empty_first 0 ≡ none → (in_range p ≡ true) × (a < p.L) × (lent_ok_of p off k m ≡ true) × (few_good p (seen p off k).offline ≡ false)
      × (above_narrow p (seen p off k).offline ≡ false) × (eqb m.state.missing 0 ≡ true)
  unfolding empty_checks
  first_passed e =
      let q₁ = rule_free 1 (not (in_range p)) (rest 0) e in
      let q₂ = rule_free 2 (not (lent_ok_of p off k m)) (rest 1) q₁.1 in
      let q₃ = rule_free 10 (few_good p (seen p off k).offline) (rest 2) q₂.1 in
      let q₄ = rule_free 1 (above_narrow p (seen p off k).offline) (rest 3) q₃.1 in
      let q₅ = rule_free 3 (not (eqb m.state.missing 0)) (rest 4) q₄.1 in (
        not-false (in_range p) q₁.0,
        leb-false p.L a (rule_free 4 (leb p.L a) (rest 5) q₅.1).0,
        not-false (lent_ok_of p off k m) q₂.0,
        q₃.0,
        q₄.0,
        not-false (eqb m.state.missing 0) q₅.0,
      )

  -- and no stripe is filling
  module _ (first : empty_first 0 ≡ none) (e : has_filling p m.state ≡ false) where
    -- the state's numbers are left
    idle_last : first_refusal (zones (state_faults p m.state) ∷ []) ≡ empty_refusal
    idle_last =
        let (ranged, low, lent, enough, fit, healthy) = first_passed first in
        sym (idle_refusal p (lent_ok_of p off k m) (seen p off k) m a ranged lent enough fit healthy (lt-leb p.L a low) e)

    pub empty_state_fails : state_ok p m.state ≡ false → some (BadZone 0) ≡ empty_refusal
    empty_state_fails g = sym (zone_fails 0 []) ∙ ap (λ (zs : List ℕ). first_refusal (zones zs ∷ [])) (sym (state_fault p m.state g)) ∙ idle_last

    pub empty_state_passes : state_ok p m.state ≡ true → none ≡ empty_refusal
    empty_state_passes g = sym (zones_pass [] [] refl ∙ none_left) ∙ ap (λ (zs : List ℕ). first_refusal (zones zs ∷ [])) (sym (state_fine p m.state g)) ∙ idle_last
