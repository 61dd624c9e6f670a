-- The checks of a closing one after the other: each refuses, or leaves it to the next (01, Refusals). Assumes nothing.
use Rattle.std.specs.Prelude.{◌≡◌, Bool, ◌&&◌, ◌||◌, ℕ, suc, eqb, drop}
use Rattle.std.proofs.Math.Path.{refl, sym}
use Rattle.std.proofs.Common.{ap, ◌∙◌, eq-eqb, ne_eqb}
use mathlib.Core.List.{List, [], ◌∷◌, ◌++◌}
use Rattle.std.proofs.Math.Bool.{true, false, cond, not}
use Rattle.spec.specs.declared.Params.{Params}
use Rattle.spec.specs.declared.State.{State}
use Rattle.spec.specs.declared.Answer.{Answer}
use Rattle.spec.specs.declared.Answer.TheVariants.{Refused, BadZone}
use Rattle.spec.specs.Calls.Check.{rule, zones}
use Rattle.spec.specs.Calls.{ninth, first_refusal, Check}
use Rattle.spec.specs.Closing.{close_checks}
use Rattle.spec.specs.Drives.{View, view_of, Disk}
use Rattle.spec.specs.Engine.{lent_ok_of}
use Rattle.spec.specs.Lists.{Opt, any, cons_if, is_nil, least}
use Rattle.spec.specs.Lists.Opt.{none, some}
use Rattle.spec.specs.Memory.{Memory, has_filling, state_ok, state_faults}
use Rattle.spec.specs.Params.{in_range}
use Rattle.spec.specs.Reclaim.{places_in, table_faults, victim, idle}
use Rattle.spec.specs.Segments.{is_place}
use Rattle.spec.specs.Write.{scarce}
use Rattle.mem_calls.specs.Listed.{list_rule_of, list_fails, list_passes}
use Rattle.law_views.specs.Views.{seen}
use Rattle.law_calls.specs.Refusals.{zone_fails, zones_pass, none_left, state_fault, state_fine, rule_fails, rule_passes}

module _ (p : Params) (off : List ℕ) (k : Disk) (m : Memory) where
  -- 01, Refusals: the first check of a closing that holds, on what it is lent
  abbrev pub close_refusal : Opt Answer
  close_refusal = first_refusal (close_checks p (lent_ok_of p off k m) (seen p off k) m)

  -- 01, Refusals, 5: the segment that reclaim would take has a live block not in flight
  abbrev pub idle_left : Bool
  idle_left = not (is_nil (idle p (seen p off k) m.state (victim p (seen p off k) m.addresses)))

  -- the first refusal among the checks from the i-th on, counted from 0
  abbrev pub close_from : ℕ → Opt Answer
  close_from i = first_refusal (drop i (close_checks p (lent_ok_of p off k m) (seen p off k) m))

  -- the checks after the i-th
  abbrev rest : ℕ → List Check
  rest i = drop (suc i) (close_checks p (lent_ok_of p off k m) (seen p off k) m)

  pub close_range_fails : in_range p ≡ false → some (Refused 1) ≡ close_from 0
  unfolding close_checks
  close_range_fails e = sym (rule_fails 1 (not (in_range p)) (rest 0) (ap not e))

  pub close_range_passes : in_range p ≡ true → close_from 1 ≡ close_from 0
  unfolding close_checks
  close_range_passes e = sym (rule_passes 1 (not (in_range p)) (rest 0) (ap not e))

  pub close_lengths_fail : lent_ok_of p off k m ≡ false → some (Refused 2) ≡ close_from 1
  unfolding close_checks
  close_lengths_fail e = sym (rule_fails 2 (not (lent_ok_of p off k m)) (rest 1) (ap not e))

  pub close_lengths_pass : lent_ok_of p off k m ≡ true → close_from 2 ≡ close_from 1
  unfolding close_checks
  close_lengths_pass e = sym (rule_passes 2 (not (lent_ok_of p off k m)) (rest 1) (ap not e))

  -- 02, item 4
  pub close_list_fails : (r : Answer) → some r ≡ list_rule_of p off → some r ≡ close_from 2
  unfolding close_checks view_of
  close_list_fails r e = list_fails p (seen p off k) (rest 3) r e

  pub close_list_passes : none ≡ list_rule_of p off → close_from 4 ≡ close_from 2
  unfolding close_checks view_of
  close_list_passes e = sym (list_passes p (seen p off k) (rest 3) e)

  -- 1 and 2 pass, and 10 and the narrow 1
  pub close_lent : in_range p ≡ true → lent_ok_of p off k m ≡ true → close_from 2 ≡ close_from 0
  close_lent e f = close_lengths_pass f ∙ close_range_passes e

  pub close_listed : in_range p ≡ true → lent_ok_of p off k m ≡ true → none ≡ list_rule_of p off → close_from 4 ≡ close_from 0
  close_listed e f g = close_list_passes g ∙ close_lent e f

  pub close_missing_fails : (m.state.missing ≡ 0 → ⊥) → some (Refused 3) ≡ close_from 4
  unfolding close_checks
  close_missing_fails f = sym (rule_fails 3 (not (eqb m.state.missing 0)) (rest 4) (ap not (ne_eqb m.state.missing 0 f)))

  pub close_missing_passes : m.state.missing ≡ 0 → close_from 5 ≡ close_from 4
  unfolding close_checks
  close_missing_passes f = sym (rule_passes 3 (not (eqb m.state.missing 0)) (rest 4) (ap not (eq-eqb m.state.missing 0 f)))

  pub filling_fails : has_filling p m.state ≡ false → some (Refused 5) ≡ close_from 5
  unfolding close_checks
  filling_fails e =
      sym (rule_fails 5 (not (has_filling p m.state) || (scarce p (seen p off k) 1 && idle_left)) (rest 5) (ap (λ (x : Bool). not x || (scarce p (seen p off k) 1 && idle_left)) e))

  -- the last two checks where zones are scarce
  pub scarce_last : has_filling p m.state ≡ true → scarce p (seen p off k) 1 ≡ true
      → first_refusal (rule 5 idle_left ∷ zones (state_faults p m.state ++ table_faults p (seen p off k) m.addresses) ∷ []) ≡ close_from 5
  unfolding close_checks
  scarce_last e f =
      sym (λ j. first_refusal (rule 5 (not (e j) || (f j && idle_left)) ∷ zones (state_faults p m.state ++ cond (f j) (table_faults p (seen p off k) m.addresses) []) ∷ []))

  -- and where they are not
  ample_last : has_filling p m.state ≡ true → scarce p (seen p off k) 1 ≡ false → first_refusal (zones (state_faults p m.state ++ []) ∷ []) ≡ close_from 5
  unfolding close_checks
  ample_last e f =
      sym ((λ j. first_refusal (rule 5 (not (e j) || (f j && idle_left)) ∷ zones (state_faults p m.state ++ cond (f j) (table_faults p (seen p off k) m.addresses) []) ∷ []))
      ∙ rule_passes 5 false (zones (state_faults p m.state ++ []) ∷ []) refl)

  pub close_state_fails : has_filling p m.state ≡ true → scarce p (seen p off k) 1 ≡ false → state_ok p m.state ≡ false → some (BadZone 0) ≡ close_from 5
  close_state_fails e f g = sym (zone_fails 0 []) ∙ ap (λ (zs : List ℕ). first_refusal (zones (zs ++ []) ∷ [])) (sym (state_fault p m.state g)) ∙ ample_last e f

  pub close_state_passes : has_filling p m.state ≡ true → scarce p (seen p off k) 1 ≡ false → state_ok p m.state ≡ true → none ≡ close_from 5
  close_state_passes e f g =
      sym (zones_pass [] [] refl ∙ none_left) ∙ ap (λ (zs : List ℕ). first_refusal (zones (zs ++ []) ∷ [])) (sym (state_fine p m.state g)) ∙ ample_last e f

-- ---- the last two checks where zones are scarce

one-zero : cons_if {A = ℕ} true 0 [] ≡ 0 ∷ []
unfolding cons_if
one-zero = refl

no_zero : cons_if {A = ℕ} false 0 [] ≡ []
unfolding cons_if
no_zero = refl

two_zeros : some (BadZone 0) ≡ first_refusal (zones (0 ∷ 0 ∷ []) ∷ [])
unfolding first_refusal ninth least
two_zeros = refl

module _ (p : Params) (v : View) (st : State) (tb : List ℕ) (left : Bool) where
  -- 01, Refusals, 5 and 9
  abbrev pub lasts : Opt Answer
  lasts = first_refusal (rule 5 left ∷ zones (state_faults p st ++ table_faults p v tb) ∷ [])

  pub left_fails : left ≡ true → some (Refused 5) ≡ lasts
  left_fails e = sym (rule_fails 5 left (zones (state_faults p st ++ table_faults p v tb) ∷ []) e)

  left_passes : left ≡ false → (ss ts : List ℕ) → state_faults p st ≡ ss → table_faults p v tb ≡ ts → first_refusal (zones (ss ++ ts) ∷ []) ≡ lasts
  left_passes e ss ts f g =
      sym (rule_passes 5 left (zones (state_faults p st ++ table_faults p v tb) ∷ []) e ∙ (λ j. first_refusal (zones (f j ++ g j) ∷ [])))

  pub close_numbers_fail : left ≡ false → state_ok p st ≡ false → some (BadZone 0) ≡ lasts
  unfolding table_faults
  close_numbers_fail e f = go (any (λ q. not (is_place p v 0 q)) (places_in p tb)) refl
    where
      go : (b : Bool) → any (λ q. not (is_place p v 0 q)) (places_in p tb) ≡ b → some (BadZone 0) ≡ lasts
      go true g = two_zeros ∙ left_passes e (0 ∷ []) (0 ∷ []) (state_fault p st f) (ap (λ (x : Bool). cons_if x 0 []) g ∙ one-zero)
      go false g = sym (zone_fails 0 []) ∙ left_passes e (0 ∷ []) [] (state_fault p st f) (ap (λ (x : Bool). cons_if x 0 []) g ∙ no_zero)

  pub table_fails : left ≡ false → state_ok p st ≡ true → table_faults p v tb ≡ cons_if true 0 [] → some (BadZone 0) ≡ lasts
  table_fails e f g = sym (zone_fails 0 []) ∙ left_passes e [] (0 ∷ []) (state_fine p st f) (g ∙ one-zero)

  pub table_passes : left ≡ false → state_ok p st ≡ true → table_faults p v tb ≡ cons_if false 0 [] → none ≡ lasts
  table_passes e f g = sym (zones_pass [] [] refl ∙ none_left) ∙ left_passes e [] [] (state_fine p st f) (g ∙ no_zero)
