-- The checks of a write one after the other: each refuses, or leaves it to the next (01, Refusals). Assumes nothing.
use Rattle.std.specs.Prelude.{ℕ, suc, ◌≤◌, ◌<◌, leb, eqb, length, drop, Bool, true, false, ◌||◌, ◌≡◌}
use Rattle.spec.specs.Calls.{Check, first_refusal}
use Rattle.spec.specs.Calls.Check.{zones}
use Rattle.spec.specs.Drives.{view_of, Disk}
use Rattle.spec.specs.Engine.{lent_ok_of}
use Rattle.spec.specs.Lists.{Opt}
use Rattle.spec.specs.Lists.Opt.{none, some}
use Rattle.spec.specs.Memory.{Memory, state_ok}
use Rattle.spec.specs.Params.{in_range}
use Rattle.spec.specs.Write.{no_stamp, no_serial, must_wait, write_full, write_checks, write_checks_in}
use Rattle.spec.specs.declared.Answer.{Answer}
use Rattle.spec.specs.declared.Answer.TheVariants.{Refused, BadZone}
use Rattle.spec.specs.declared.Params.{Params}
use Rattle.law_calls.specs.Refusals.{rule_fails, rule_passes, zone_fails, zones_pass, none_left, state_fault, state_fine}
use Rattle.law_views.specs.Views.{seen}
use Rattle.mem_calls.specs.Listed.{list_rule_of, list_fails, list_passes}
use Rattle.std.proofs.Common.{le-leb, eq-eqb, ne_eqb, ap, ◌∙◌}
use Rattle.std.proofs.lemmas.Bool.{lt-leb}
use Rattle.std.proofs.Math.Bool.{not}
use mathlib.Core.List.{List, [], ◌∷◌}
use Rattle.std.proofs.Math.Path.{refl, sym}

module _ (p : Params) (off : List ℕ) (k : Disk) (m : Memory) (a : ℕ) (b : List ℕ) where
  -- the first refusal among the checks from the i-th on, counted from 0
  abbrev pub write_from : ℕ → Opt Answer
  write_from i = first_refusal (drop i (write_checks p (lent_ok_of p off k m) (seen p off k) m a b))

  -- the checks after the i-th
  abbrev rest : ℕ → List Check
  rest i = drop (suc i) (write_checks p (lent_ok_of p off k m) (seen p off k) m a b)

  pub write_range_fails : in_range p ≡ false → some (Refused 1) ≡ write_from 0
  unfolding write_checks_in
  write_range_fails e = sym (rule_fails 1 (not (in_range p)) (rest 0) (ap not e))

  pub write_range_passes : in_range p ≡ true → write_from 1 ≡ write_from 0
  unfolding write_checks_in
  write_range_passes e = sym (rule_passes 1 (not (in_range p)) (rest 0) (ap not e))

  pub write_lengths_fail : lent_ok_of p off k m ≡ false → some (Refused 2) ≡ write_from 1
  unfolding write_checks_in
  write_lengths_fail e = sym (rule_fails 2 (not (lent_ok_of p off k m) || not (eqb (length b) p.B)) (rest 1) (ap (λ (x : Bool). not x || not (eqb (length b) p.B)) e))

  pub write_block_fails : lent_ok_of p off k m ≡ true → (length b ≡ p.B → ⊥) → some (Refused 2) ≡ write_from 1
  unfolding write_checks_in
  write_block_fails e f = sym (rule_fails 2 (not (lent_ok_of p off k m) || not (eqb (length b) p.B)) (rest 1) (λ j. not (e j) || not (ne_eqb (length b) p.B f j)))

  pub write_lengths_pass : lent_ok_of p off k m ≡ true → length b ≡ p.B → write_from 2 ≡ write_from 1
  unfolding write_checks_in
  write_lengths_pass e f = sym (rule_passes 2 (not (lent_ok_of p off k m) || not (eqb (length b) p.B)) (rest 1) (λ j. not (e j) || not (eq-eqb (length b) p.B f j)))

  -- 02, item 4
  pub write_list_fails : (r : Answer) → some r ≡ list_rule_of p off → some r ≡ write_from 2
  unfolding write_checks_in view_of
  write_list_fails r e = list_fails p (seen p off k) (rest 3) r e

  pub write_list_passes : none ≡ list_rule_of p off → write_from 4 ≡ write_from 2
  unfolding write_checks_in view_of
  write_list_passes e = sym (list_passes p (seen p off k) (rest 3) e)

  -- 1 and 2 pass, and 10 and the narrow 1
  pub write_lent : in_range p ≡ true → lent_ok_of p off k m ≡ true → length b ≡ p.B → write_from 2 ≡ write_from 0
  write_lent e f g = write_lengths_pass f g ∙ write_range_passes e

  pub write_listed : in_range p ≡ true → lent_ok_of p off k m ≡ true → length b ≡ p.B → none ≡ list_rule_of p off → write_from 4 ≡ write_from 0
  write_listed e f g h = write_list_passes h ∙ write_lent e f g

  pub write_missing_fails : (m.state.missing ≡ 0 → ⊥) → some (Refused 3) ≡ write_from 4
  unfolding write_checks_in
  write_missing_fails f = sym (rule_fails 3 (not (eqb m.state.missing 0)) (rest 4) (ap not (ne_eqb m.state.missing 0 f)))

  pub write_missing_passes : m.state.missing ≡ 0 → write_from 5 ≡ write_from 4
  unfolding write_checks_in
  write_missing_passes f = sym (rule_passes 3 (not (eqb m.state.missing 0)) (rest 4) (ap not (eq-eqb m.state.missing 0 f)))

  pub write_address_fails : p.L ≤ a → some (Refused 4) ≡ write_from 5
  unfolding write_checks_in
  write_address_fails h = sym (rule_fails 4 (leb p.L a) (rest 5) (le-leb p.L a h))

  pub write_address_passes : a < p.L → write_from 6 ≡ write_from 5
  unfolding write_checks_in
  write_address_passes h = sym (rule_passes 4 (leb p.L a) (rest 5) (lt-leb p.L a h))

  pub stamp_fails : no_stamp m.state ≡ true → some (Refused 6) ≡ write_from 6
  unfolding write_checks_in
  stamp_fails e = sym (rule_fails 6 (no_stamp m.state || no_serial p m.state) (rest 6) (ap (λ (x : Bool). x || no_serial p m.state) e))

  pub write_serial_fails : no_stamp m.state ≡ false → no_serial p m.state ≡ true → some (Refused 6) ≡ write_from 6
  unfolding write_checks_in
  write_serial_fails e f = sym (rule_fails 6 (no_stamp m.state || no_serial p m.state) (rest 6) (λ j. e j || f j))

  pub counts_pass : no_stamp m.state ≡ false → no_serial p m.state ≡ false → write_from 7 ≡ write_from 6
  unfolding write_checks_in
  counts_pass e f = sym (rule_passes 6 (no_stamp m.state || no_serial p m.state) (rest 6) (λ j. e j || f j))

  pub write_zones_fail : write_full p (seen p off k) m.state ≡ true → some (Refused 8) ≡ write_from 7
  unfolding write_checks_in
  write_zones_fail e = sym (rule_fails 8 (write_full p (seen p off k) m.state) (rest 7) e)

  pub write_zones_suffice : write_full p (seen p off k) m.state ≡ false → write_from 8 ≡ write_from 7
  unfolding write_checks_in
  write_zones_suffice e = sym (rule_passes 8 (write_full p (seen p off k) m.state) (rest 7) e)

  pub wait_fails : must_wait p m.state ≡ true → some (Refused 7) ≡ write_from 8
  unfolding write_checks_in
  wait_fails e = sym (rule_fails 7 (must_wait p m.state) (rest 8) e)

  pub wait_passes : must_wait p m.state ≡ false → write_from 9 ≡ write_from 8
  unfolding write_checks_in
  wait_passes e = sym (rule_passes 7 (must_wait p m.state) (rest 8) e)

  pub write_state_fails : state_ok p m.state ≡ false → some (BadZone 0) ≡ write_from 9
  unfolding write_checks_in
  write_state_fails e = sym (ap (λ (zs : List ℕ). first_refusal (zones zs ∷ [])) (state_fault p m.state e) ∙ zone_fails 0 [])

  pub write_state_passes : state_ok p m.state ≡ true → none ≡ write_from 9
  unfolding write_checks_in
  write_state_passes e = sym (ap (λ (zs : List ℕ). first_refusal (zones zs ∷ [])) (state_fine p m.state e) ∙ zones_pass [] [] refl ∙ none_left)
