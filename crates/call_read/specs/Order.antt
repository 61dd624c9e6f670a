-- The checks of both reads one after the other: each refuses, or leaves it to the next (01, Refusals). Assumes nothing.
use Rattle.std.specs.Prelude.{◌≡◌, Bool, true, false, ◌&&◌, ℕ, suc, ◌≤◌, ◌<◌, leb, drop}
use Rattle.std.proofs.Math.Path.{sym, ap}
use Rattle.std.proofs.Common.{◌∙◌}
use mathlib.Core.List.{List, [], ◌∷◌, ◌++◌}
use Rattle.std.proofs.Math.Bool.{not}
use borrow.Author.Tests.{le-leb, lt-leb, eq-eqb, ne_eqb}
use Rattle.std.proofs.Math.Dec.{eqb}
use Rattle.spec.specs.declared.Params.{Params}
use Rattle.spec.specs.declared.Answer.{Answer}
use Rattle.spec.specs.declared.Answer.TheVariants.{Refused, BadZone}
use Rattle.spec.specs.Calls.Check.{zones}
use Rattle.spec.specs.Calls.{Check, ninth, first_refusal}
use Rattle.spec.specs.Drives.{Disk, view_of}
use Rattle.spec.specs.Engine.{lent_ok_of}
use Rattle.spec.specs.Lists.{Opt}
use Rattle.spec.specs.Lists.Opt.{none, some}
use Rattle.spec.specs.Memory.{Memory, state_ok}
use Rattle.spec.specs.Params.{in_range}
use Rattle.spec.specs.Read.{Found, lies, found_faults, decode_faults, read_checks}
use Rattle.law_views.specs.Views.{seen}
use Rattle.law_calls.specs.Refusals.{rule_fails, rule_passes, state_fault, state_fine, least_zero}
use Rattle.mem_calls.specs.Listed.{list_rule_of, list_fails, list_passes}

module _ (p : Params) (off : List ℕ) (k : Disk) (m : Memory) (a n : ℕ) where
  -- 01, Read: where the address lies
  abbrev pub found_at : Found
  found_at = lies p m.state.missing m.addresses a

  -- 01, Refusals: the checks that both reads have; n is the lent block's length
  abbrev pub both_checks : List Check
  both_checks = read_checks p (lent_ok_of p off k m && eqb n p.B) (seen p off k) m a

  -- 01, Refusals: the first of them that holds
  abbrev pub read_refusal : Opt Answer
  read_refusal = first_refusal both_checks

  -- the first refusal among the checks from the i-th on, counted from 0
  abbrev pub read_from : ℕ → Opt Answer
  read_from i = first_refusal (drop i both_checks)

  -- the checks after the i-th
  abbrev rest : ℕ → List Check
  rest i = drop (suc i) both_checks

  pub read_range_fails : in_range p ≡ false → some (Refused 1) ≡ read_from 0
  unfolding read_checks
  read_range_fails e = sym (rule_fails 1 (not (in_range p)) (rest 0) (ap not e))

  pub read_range_passes : in_range p ≡ true → read_from 1 ≡ read_from 0
  unfolding read_checks
  read_range_passes e = sym (rule_passes 1 (not (in_range p)) (rest 0) (ap not e))

  pub read_lengths_fail : lent_ok_of p off k m ≡ false → some (Refused 2) ≡ read_from 1
  unfolding read_checks
  read_lengths_fail e = sym (rule_fails 2 (not (lent_ok_of p off k m && eqb n p.B)) (rest 1) (ap (λ (x : Bool). not (x && eqb n p.B)) e))

  pub read_block_fails : lent_ok_of p off k m ≡ true → (n ≡ p.B → ⊥) → some (Refused 2) ≡ read_from 1
  unfolding read_checks
  read_block_fails e f = sym (rule_fails 2 (not (lent_ok_of p off k m && eqb n p.B)) (rest 1) (λ j. not (e j && ne_eqb n p.B f j)))

  pub read_lengths_pass : lent_ok_of p off k m ≡ true → n ≡ p.B → read_from 2 ≡ read_from 1
  unfolding read_checks
  read_lengths_pass e f = sym (rule_passes 2 (not (lent_ok_of p off k m && eqb n p.B)) (rest 1) (λ j. not (e j && eq-eqb n p.B f j)))

  -- 02, item 4
  pub read_list_fails : (r : Answer) → some r ≡ list_rule_of p off → some r ≡ read_from 2
  unfolding read_checks view_of
  read_list_fails r e = list_fails p (seen p off k) (rest 3) r e

  pub read_list_passes : none ≡ list_rule_of p off → read_from 4 ≡ read_from 2
  unfolding read_checks view_of
  read_list_passes e = sym (list_passes p (seen p off k) (rest 3) e)

  -- 1 and 2 pass, and 10 and the narrow 1
  pub read_lent : in_range p ≡ true → lent_ok_of p off k m ≡ true → n ≡ p.B → read_from 2 ≡ read_from 0
  read_lent e f g = read_lengths_pass f g ∙ read_range_passes e

  pub read_listed : in_range p ≡ true → lent_ok_of p off k m ≡ true → n ≡ p.B → none ≡ list_rule_of p off → read_from 4 ≡ read_from 0
  read_listed e f g h = read_list_passes h ∙ read_lent e f g

  pub read_address_fails : p.L ≤ a → some (Refused 4) ≡ read_from 4
  unfolding read_checks
  read_address_fails h = sym (rule_fails 4 (leb p.L a) (rest 4) (le-leb p.L a h))

  pub read_address_passes : a < p.L → read_from 5 ≡ read_from 4
  unfolding read_checks
  read_address_passes h = sym (rule_passes 4 (leb p.L a) (rest 4) (lt-leb p.L a h))

  pub read_state_fails : state_ok p m.state ≡ false → some (BadZone 0) ≡ read_from 5
  unfolding read_checks first_refusal ninth
  read_state_fails e =
      let zs = found_faults p (seen p off k) m.state.missing found_at in
      sym (ap (λ (x : List ℕ). first_refusal (zones (x ++ zs) ∷ rest 5)) (state_fault p m.state e) ∙ ap (λ (x : ℕ). some (BadZone x)) (least_zero zs))

  pub read_state_passes : state_ok p m.state ≡ true
      → first_refusal (zones (found_faults p (seen p off k) m.state.missing found_at) ∷ zones (decode_faults p (seen p off k) m.state.missing m.compact found_at) ∷ []) ≡ read_from 5
  unfolding read_checks
  read_state_passes e = sym (ap (λ (x : List ℕ). first_refusal (zones (x ++ found_faults p (seen p off k) m.state.missing found_at) ∷ rest 5)) (state_fine p m.state e))
